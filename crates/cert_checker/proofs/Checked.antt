-- A certificate, line by line.
use Rattle.std.proofs.Common.{◌≡◌, refl, sym, ◌∙◌, ap, subst, ℕ, suc, Bool, true, false, List, [], ◌∷◌, ◌++◌, map, length, drop, get_or, ◌<◌, ◌≤◌, ◌+◌, arith, add-one, drop-cons}
use Rattle.std.specs.Prelude.{if◌then◌else◌}
use Rattle.std.proofs.Math.ListN.{drop_of_length-le}
use Rattle.logic_terms.specs.Node.{Node}
use Rattle.logic_terms.specs.Goal.{problem}
use Rattle.logic_terms.specs.declared.goal.Goal.{Goal}
use Rattle.cert_lines.specs.Line.{Line, witness, Code, code_of}
use Rattle.cert_lines.specs.View.{line}
use Rattle.cert_lines.specs.declared.line.CertLine.{CertLine}
use Rattle.cert_rules.specs.Judged.{Judged, yields}
use Rattle.cert_rules.specs.Context.{Context}
use Rattle.cert_rules.specs.Rules.{judge}
use Rattle.cert_rules.specs.Checking.{Answer, accepted, not_allowed, leaves_range, no_end, new_symbols, ends_empty, answer_after, answer_from, answer_to}
use Rattle.cert_rules.specs.Judges.{IsFault}
use Rattle.cert_rules.specs.declared.fault.LineFault.{LineFault}
use Rattle.cert_linear.specs.Here.{context}
use Rattle.cert_checker.specs.Answers.{IsRefusal, Refuses}
use Rattle.cert_checker.specs.declared.refusal.CertRefusal.{CertRefusal}

length_more : {A : Type 0} (xs : List A) (x : A) → length (xs ++ x ∷ []) ≡ length xs + 1
length_more [] x = refl
length_more (y ∷ xs) x = let e = length_more xs x in omega arith

-- a line makes one new symbol or none
pub at_most_one : (l : Line) → new_symbols l ≤ 1
at_most_one (witness k q) = omega arith
at_most_one _ = omega arith

-- the answer after i lines, which yielded these clauses
pub record Checked (g : Goal) (ls : List CertLine) (i fresh : ℕ) (cs : List (List Node)) : Type 0 where
  pub so : answer_to (problem g) (map line ls) ≡ answer_from (context g fresh cs) (map line (drop i ls))
  pub many : length cs ≡ i
  pub few : fresh ≤ i

pub checked_none : (g : Goal) (ls : List CertLine) (cs : List (List Node)) → cs ≡ [] → Checked g ls 0 0 cs
checked_none g ls cs e = record {
  so = ap (λ (ds : List (List Node)). answer_from (context g 0 ds) (map line ls)) (sym e);
  many = ap length e;
  few = omega arith;
}

-- what a fault of line n is for the certificate
fault_is : (f : LineFault) (n : ℕ) (k : Code) (r : CertRefusal) (c : Context) (l : Line) (goes_on : Context → Answer) → code_of l ≡ k → n ≡ suc (length c.earlier) → Refuses f n k r → (j : Judged (List Node)) → IsFault f j → IsRefusal r (answer_after c l j goes_on)
fault_is LineFault.NotAllowed n k r c l on o e h j i =
    subst (λ (x : CertRefusal). IsRefusal x (answer_after c l j on)) (sym h.1.0)
    (ap (λ (x : Judged (List Node)). answer_after c l x on) i
    ∙ ap (λ (m : ℕ). not_allowed m (code_of l)) (sym e) ∙ ap (λ (x : Code). not_allowed n x) (o ∙ sym h.1.1))
fault_is LineFault.Wide n k r c l on o e h j i =
    subst (λ (x : CertRefusal). IsRefusal x (answer_after c l j on)) (sym h)
    (ap (λ (x : Judged (List Node)). answer_after c l x on) i ∙ ap (λ (m : ℕ). leaves_range m) (sym e))
fault_is LineFault.Starved n k r c l on o e h j i = subst (λ (x : CertRefusal). IsRefusal x (answer_after c l j on)) (sym h) tt

module _ (g : Goal) (ls : List CertLine) (i fresh : ℕ) (cs : List (List Node)) (k : Checked g ls i fresh cs) where
  module _ (l : CertLine) (h : i < length ls) (e : l ≡ get_or ls i l) where
    at_line : answer_to (problem g) (map line ls) ≡ answer_after (context g fresh cs) (line l) (judge (context g fresh cs) (line l)) (λ d. answer_from d (map line (drop (i + 1) ls)))
    at_line =
        let cut : drop i ls ≡ get_or ls i l ∷ drop (i + 1) ls = rw (add-one, drop-cons ls i l) in
        k.so ∙ ap (λ (xs : List CertLine). answer_from (context g fresh cs) (map line xs)) (cut ∙ ap (λ (x : CertLine). x ∷ drop (i + 1) ls) (sym e))

    pub refused_here : (f : LineFault) (n : ℕ) (r : CertRefusal) → n ≡ i + 1 → Refuses f n (code_of (line l)) r → IsFault f (judge (context g fresh cs) (line l)) → IsRefusal r (answer_to (problem g) (map line ls))
    refused_here f n r is so b =
        let m = k.many in
        let at : n ≡ suc (length cs) = omega arith in
        subst (λ (a : Answer). IsRefusal r a) (sym at_line) (fault_is f n (code_of (line l)) r (context g fresh cs) (line l) (λ d. answer_from d (map line (drop (i + 1) ls))) refl at so (judge (context g fresh cs) (line l)) b)

    pub goes_on : (clause : List Node) (ds : List (List Node)) (more : ℕ) → judge (context g fresh cs) (line l) ≡ yields clause → ds ≡ cs ++ clause ∷ [] → more ≡ new_symbols (line l) → Checked g ls (i + 1) (fresh + more) ds
    goes_on clause ds more y d s =
        let m = k.many in
        let few = k.few in
        let one = at_most_one (line l) in
        let sum : new_symbols (line l) + fresh ≡ fresh + more = omega arith in
        record {
          so = at_line ∙ ap (λ (j : Judged (List Node)). answer_after (context g fresh cs) (line l) j (λ c. answer_from c (map line (drop (i + 1) ls)))) y
              ∙ ap (λ (n : ℕ). answer_from (context g n (cs ++ clause ∷ [])) (map line (drop (i + 1) ls))) sum
              ∙ ap (λ (xs : List (List Node)). answer_from (context g (fresh + more) xs) (map line (drop (i + 1) ls))) (sym d);
          many = ap length d ∙ length_more cs clause ∙ ap (λ (n : ℕ). n + 1) m;
          few = omega arith;
        }

  at_end : (b : Bool) → length ls ≤ i → b ≡ ends_empty cs → answer_to (problem g) (map line ls) ≡ (if b then accepted else no_end)
  at_end b h e =
      k.so ∙ ap (λ (xs : List CertLine). answer_from (context g fresh cs) (map line xs)) (drop_of_length-le ls h)
      ∙ ap (λ (x : Bool). if x then accepted else no_end) (sym e)

  pub accepted_so : (b : Bool) → length ls ≤ i → b ≡ ends_empty cs → b ≡ true → answer_to (problem g) (map line ls) ≡ accepted
  accepted_so b h e t = at_end b h e ∙ ap (λ (x : Bool). if x then accepted else no_end) t

  pub no_end_so : (b : Bool) → length ls ≤ i → b ≡ ends_empty cs → b ≡ false → answer_to (problem g) (map line ls) ≡ no_end
  no_end_so b h e f = at_end b h e ∙ ap (λ (x : Bool). if x then accepted else no_end) f
