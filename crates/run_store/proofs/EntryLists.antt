-- Lists of the variables at the entries of loops.
use Rattle.std.proofs.Common.{◌≡◌, refl, ap, sym, ◌∙◌, ℕ, zero, suc, arith, ◌<◌, ◌==◌, ◌++◌, length, false, List, [], ◌∷◌}
use Rattle.std.specs.Prelude.{Option, Some, None, slice_get, slice_set}
use Rattle.ada_semantics.specs.Outcome.{pick}
use Rattle.run_store.specs.Entries.{entry_of}
use Rattle.run_store.specs.declared.variables.RunVars.{RunVars}

abbrev pub or_start : RunVars → Option (Option RunVars) → RunVars
or_start start (Some (Some vars)) = vars
or_start start (Some None) = start
or_start start None = start

entry_got_lem : (es : List (Option RunVars)) (start : RunVars) (k : ℕ) → entry_of es start k ≡ or_start start (slice_get es k)
entry_got_lem [] start k = refl
entry_got_lem (None ∷ es) start zero = refl
entry_got_lem (Some vars ∷ es) start zero = refl
entry_got_lem (None ∷ es) start (suc k) = entry_got_lem es start k
entry_got_lem (Some vars ∷ es) start (suc k) = entry_got_lem es start k

pub entry_got : (es : List (Option RunVars)) (start : RunVars) (k : ℕ) (o : Option (Option RunVars)) → o ≡ slice_get es k → or_start start o ≡ entry_of es start k
entry_got es start k o h = ap (or_start start) h ∙ sym (entry_got_lem es start k)

pub entry_more : (es : List (Option RunVars)) (start : RunVars) (k : ℕ) → entry_of (es ++ None ∷ []) start k ≡ entry_of es start k
entry_more [] start zero = refl
entry_more [] start (suc k) = refl
entry_more (None ∷ es) start zero = refl
entry_more (Some vars ∷ es) start zero = refl
entry_more (None ∷ es) start (suc k) = entry_more es start k
entry_more (Some vars ∷ es) start (suc k) = entry_more es start k

entry_later : (e : Option RunVars) (es : List (Option RunVars)) (start : RunVars) (k : ℕ) → entry_of (e ∷ es) start (suc k) ≡ entry_of es start k
entry_later None es start k = refl
entry_later (Some vars) es start k = refl

entry_first : (e : Option RunVars) (es fs : List (Option RunVars)) (start : RunVars) → entry_of (e ∷ es) start zero ≡ entry_of (e ∷ fs) start zero
entry_first None es fs start = refl
entry_first (Some vars) es fs start = refl

pub entry_set : (es : List (Option RunVars)) (n : ℕ) (vars start : RunVars) (k : ℕ) → n < length es → entry_of (slice_set es n (Some vars)) start k ≡ pick (k == n) vars (entry_of es start k)
entry_set [] n vars start k h = absurd (omega arith)
entry_set (e ∷ es) zero vars start zero h = refl
entry_set (e ∷ es) zero vars start (suc k) h = let t : (suc k == zero) ≡ false = grind arith in rw t (sym (entry_later e es start k))
entry_set (e ∷ es) (suc n) vars start zero h = let t : (zero == suc n) ≡ false = grind arith in rw t (entry_first e (slice_set es n (Some vars)) es start)
entry_set (e ∷ es) (suc n) vars start (suc k) h =
    let t : (suc k == suc n) ≡ (k == n) = grind arith in let w : n < length es = omega arith in
    rw t (entry_later e (slice_set es n (Some vars)) start k ∙ entry_set es n vars start k w ∙ ap (pick (k == n) vars) (sym (entry_later e es start k)))
