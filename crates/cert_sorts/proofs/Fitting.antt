-- The kinds of operators' values, where some operands are numbers or truth values, or are not.
use Rattle.std.proofs.Common.{◌≡◌, refl, ◌∙◌, ap, Bool, true, false, ◌&&◌, Option, Some, None}
use Rattle.logic_terms.specs.Node.{Arith, arith, le, sel, sto, fill}
use Rattle.logic_terms.specs.Value.{Kind, numbers, truths, arrays, records}
use Rattle.logic_terms.specs.Sorting.{kind_over, on2, on3}
use Rattle.cert_lines.specs.Symbols.{is_some_numbers, is_some_truths}
use Rattle.cert_sorts.specs.Found.{numbers_if, truths_if}

pub some_truths : (b : Bool) → is_some_truths (truths_if b) ≡ b
some_truths true = refl
some_truths false = refl

-- ---- two numbers

computed : (o : Arith) (k j : Option Kind) → numbers_if (is_some_numbers k && is_some_numbers j) ≡ on2 (arith o) k j
computed o None j = refl
computed o (Some numbers) None = refl
computed o (Some numbers) (Some numbers) = refl
computed o (Some numbers) (Some truths) = refl
computed o (Some numbers) (Some (arrays k)) = refl
computed o (Some numbers) (Some (records ks)) = refl
computed o (Some truths) None = refl
computed o (Some truths) (Some j) = refl
computed o (Some (arrays k)) None = refl
computed o (Some (arrays k)) (Some j) = refl
computed o (Some (records ks)) None = refl
computed o (Some (records ks)) (Some j) = refl

pub arithmetic : (o : Arith) (k j : Option Kind) (x y : Bool) → x ≡ is_some_numbers k → y ≡ is_some_numbers j → numbers_if (x && y) ≡ on2 (arith o) k j
arithmetic o k j x y h i = ap (λ z. numbers_if (z && y)) h ∙ ap (λ z. numbers_if (is_some_numbers k && z)) i ∙ computed o k j

comparison : (k j : Option Kind) → truths_if (is_some_numbers k && is_some_numbers j) ≡ on2 le k j
comparison None j = refl
comparison (Some numbers) None = refl
comparison (Some numbers) (Some numbers) = refl
comparison (Some numbers) (Some truths) = refl
comparison (Some numbers) (Some (arrays k)) = refl
comparison (Some numbers) (Some (records ks)) = refl
comparison (Some truths) None = refl
comparison (Some truths) (Some j) = refl
comparison (Some (arrays k)) None = refl
comparison (Some (arrays k)) (Some j) = refl
comparison (Some (records ks)) None = refl
comparison (Some (records ks)) (Some j) = refl

pub order : (k j : Option Kind) (x y : Bool) → x ≡ is_some_numbers k → y ≡ is_some_numbers j → truths_if (x && y) ≡ on2 le k j
order k j x y h i = ap (λ z. truths_if (z && y)) h ∙ ap (λ z. truths_if (is_some_numbers k && z)) i ∙ comparison k j

over : (l h : Option Kind) (c : Bool) → truths_if ((is_some_numbers l && is_some_numbers h) && c) ≡ kind_over l h (truths_if c)
over None h c = refl
over (Some numbers) None c = refl
over (Some numbers) (Some numbers) true = refl
over (Some numbers) (Some numbers) false = refl
over (Some numbers) (Some truths) c = refl
over (Some numbers) (Some (arrays k)) c = refl
over (Some numbers) (Some (records ks)) c = refl
over (Some truths) h c = refl
over (Some (arrays k)) h c = refl
over (Some (records ks)) h c = refl

pub quantifier : (l h p : Option Kind) (x y c : Bool) → x ≡ is_some_numbers l → y ≡ is_some_numbers h → truths_if c ≡ p → truths_if ((x && y) && c) ≡ kind_over l h p
quantifier l h p x y c e i is =
    ap (λ z. truths_if ((z && y) && c)) e ∙ ap (λ z. truths_if ((is_some_numbers l && z) && c)) i ∙ over l h c ∙ ap (kind_over l h) is

-- ---- operands that are to be numbers

index_kind : (k j : Option Kind) → on2 sel k (numbers_if (is_some_numbers j)) ≡ on2 sel k j
index_kind None j = refl
index_kind (Some k) (Some numbers) = refl
index_kind (Some numbers) None = refl
index_kind (Some numbers) (Some truths) = refl
index_kind (Some numbers) (Some (arrays j)) = refl
index_kind (Some numbers) (Some (records js)) = refl
index_kind (Some truths) None = refl
index_kind (Some truths) (Some truths) = refl
index_kind (Some truths) (Some (arrays j)) = refl
index_kind (Some truths) (Some (records js)) = refl
index_kind (Some (arrays k)) None = refl
index_kind (Some (arrays k)) (Some truths) = refl
index_kind (Some (arrays k)) (Some (arrays j)) = refl
index_kind (Some (arrays k)) (Some (records js)) = refl
index_kind (Some (records ks)) None = refl
index_kind (Some (records ks)) (Some truths) = refl
index_kind (Some (records ks)) (Some (arrays j)) = refl
index_kind (Some (records ks)) (Some (records js)) = refl

pub index : (k j : Option Kind) (b : Bool) → b ≡ is_some_numbers j → on2 sel k (numbers_if b) ≡ on2 sel k j
index k j b h = ap (λ x. on2 sel k (numbers_if x)) h ∙ index_kind k j

store_kind : (k j i : Option Kind) → on3 sto k (numbers_if (is_some_numbers j)) i ≡ on3 sto k j i
store_kind None j i = refl
store_kind (Some k) (Some numbers) i = refl
store_kind (Some k) None i = refl
store_kind (Some k) (Some truths) None = refl
store_kind (Some k) (Some (arrays j)) None = refl
store_kind (Some k) (Some (records js)) None = refl
store_kind (Some numbers) (Some truths) (Some i) = refl
store_kind (Some numbers) (Some (arrays j)) (Some i) = refl
store_kind (Some numbers) (Some (records js)) (Some i) = refl
store_kind (Some truths) (Some truths) (Some i) = refl
store_kind (Some truths) (Some (arrays j)) (Some i) = refl
store_kind (Some truths) (Some (records js)) (Some i) = refl
store_kind (Some (arrays k)) (Some truths) (Some i) = refl
store_kind (Some (arrays k)) (Some (arrays j)) (Some i) = refl
store_kind (Some (arrays k)) (Some (records js)) (Some i) = refl
store_kind (Some (records ks)) (Some truths) (Some i) = refl
store_kind (Some (records ks)) (Some (arrays j)) (Some i) = refl
store_kind (Some (records ks)) (Some (records js)) (Some i) = refl

pub store : (k j i : Option Kind) (b : Bool) → b ≡ is_some_numbers j → on3 sto k (numbers_if b) i ≡ on3 sto k j i
store k j i b h = ap (λ x. on3 sto k (numbers_if x) i) h ∙ store_kind k j i

limits_kind : (f l k : Option Kind) → on3 fill (numbers_if (is_some_numbers f)) (numbers_if (is_some_numbers l)) k ≡ on3 fill f l k
limits_kind None l k = refl
limits_kind (Some numbers) None k = refl
limits_kind (Some numbers) (Some numbers) k = refl
limits_kind (Some numbers) (Some truths) None = refl
limits_kind (Some numbers) (Some truths) (Some k) = refl
limits_kind (Some numbers) (Some (arrays l)) None = refl
limits_kind (Some numbers) (Some (arrays l)) (Some k) = refl
limits_kind (Some numbers) (Some (records ls)) None = refl
limits_kind (Some numbers) (Some (records ls)) (Some k) = refl
limits_kind (Some truths) None k = refl
limits_kind (Some truths) (Some l) None = refl
limits_kind (Some truths) (Some l) (Some k) = refl
limits_kind (Some (arrays f)) None k = refl
limits_kind (Some (arrays f)) (Some l) None = refl
limits_kind (Some (arrays f)) (Some l) (Some k) = refl
limits_kind (Some (records fs)) None k = refl
limits_kind (Some (records fs)) (Some l) None = refl
limits_kind (Some (records fs)) (Some l) (Some k) = refl

pub limits : (f l k : Option Kind) (x y : Bool) → x ≡ is_some_numbers f → y ≡ is_some_numbers l → on3 fill (numbers_if x) (numbers_if y) k ≡ on3 fill f l k
limits f l k x y h i =
    ap (λ z. on3 fill (numbers_if z) (numbers_if y) k) h ∙ ap (λ z. on3 fill (numbers_if (is_some_numbers f)) (numbers_if z) k) i ∙ limits_kind f l k
