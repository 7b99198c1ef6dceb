-- Where two ways of calling agree below a budget, evaluations agree up to it.
use Rattle.std.proofs.Common.{◌≡◌, ℕ, zero, suc, ◌≤◌, ◌<◌, arith, refl, ap, ◌∙◌, Bool, true, false, ℤ, pos, ◌+ℤ◌}
use Rattle.ada_values.specs.Value.{Val, number, truth, array, record_of}
use Rattle.ada_values.specs.declared.place.Place.{Place}
use Rattle.typed_units.specs.declared.checks.CheckKind.{CheckKind}
use Rattle.typed_units.specs.declared.operators.Quantifier.{Quantifier}
use Rattle.typed_units.specs.Syntax.{index, Ex, at, Nd, static, read, component, op1, op2, connect, member, call, aggregate, choose, quantified, Path, here, to_component, to_item, Target, target, Actual, pass_in, pass_out, pass_in_out, Actuals, no_actuals, actual, Arms, other, arm, Assocs, no_assocs, assoc}
use Rattle.ada_semantics.specs.Outcome.{Res, gives, fails, short, unset, bind, spend, pick, check}
use Rattle.ada_semantics.specs.Operators.{truth_of, number_of, quantify, decides, span, stops_at, claims_any, fill}
use Rattle.ada_semantics.specs.Store.{Slot, full, Slots, empties, whole, wholes, component_slot, item_slot, Store, Frame, set, entered}
use Rattle.ada_semantics.specs.Targets.{target_place, var_of, bounds_of, reaches, slot_in, with_params}
use Rattle.ada_semantics.specs.Values.{Calls, place_of, value_of, node_value, slot_of, spots_of, located, one_passed, passed, chosen, associated}
use Rattle.ada_semantics.specs.Budget.{Left}
use Rattle.ada_semantics.proofs.Spent.{Keeps, given, failing, nothing, wants, checks, checks_each, position_left, apply1_left, apply2_left, member_left, result_left}

pub record Agrees {A : Type 0} (n : ℕ) (r t : Res A) : Type 0 where
  pub left : Left n r
  pub same : r ≡ t

pub alike : {A : Type 0} {n : ℕ} {r : Res A} → Keeps n r → Agrees n r r
alike w = record { left = w.left; same = refl }

pub below : {m n k : ℕ} → m ≤ n → n < k → m < k
below h w = omega arith

pub lower : {m n k : ℕ} → m < n → n ≤ k → m < k
lower h w = omega arith

pub still : {m n k : ℕ} → m ≤ n → n ≤ k → m ≤ k
still h w = omega arith

pub weak : {m n : ℕ} → m < n → m ≤ n
weak h = omega arith

widen : {A : Type 0} (r : Res A) (m n : ℕ) → m ≤ n → Left m r → Left n r
widen (gives a k) m n h w = omega arith
widen (fails c) m n h w = tt
widen short m n h w = tt
widen unset m n h w = tt

bind_left : {A B : Type 0} (r : Res A) (n : ℕ) (go to : A → ℕ → Res B) → Left n r → ((a : A) (m : ℕ) → m ≤ n → Agrees m (go a m) (to a m)) → Left n (bind r go)
bind_left (gives a m) n go to w h = widen (go a m) m n w (h a m w).left
bind_left (fails c) n go to w h = tt
bind_left short n go to w h = tt
bind_left unset n go to w h = tt

bind_same : {A B : Type 0} (r : Res A) (n : ℕ) (go to : A → ℕ → Res B) → Left n r → ((a : A) (m : ℕ) → m ≤ n → Agrees m (go a m) (to a m)) → bind r go ≡ bind r to
bind_same (gives a m) n go to w h = (h a m w).same
bind_same (fails c) n go to w h = refl
bind_same short n go to w h = refl
bind_same unset n go to w h = refl

pub binds : {A B : Type 0} (n : ℕ) (r t : Res A) (go to : A → ℕ → Res B) → Agrees n r t → ((a : A) (m : ℕ) → m ≤ n → Agrees m (go a m) (to a m)) → Agrees n (bind r go) (bind t to)
binds n r t go to w h = record { left = bind_left r n go to w.left h; same = bind_same r n go to w.left h ∙ ap (λ (z : Res _). bind z to) w.same }

pub spends : {A : Type 0} (n : ℕ) (go to : ℕ → Res A) → ((m : ℕ) → m < n → Agrees m (go m) (to m)) → Agrees n (spend n go) (spend n to)
spends zero go to h = record { left = tt; same = refl }
spends (suc n) go to h = let w : Agrees n (go n) (to n) = h n (omega arith) in record { left = widen (go n) n (suc n) (omega arith) w.left; same = w.same }

pub picks : {A : Type 0} (b : Bool) (n : ℕ) (r t s u : Res A) → Agrees n r t → Agrees n s u → Agrees n (pick b r s) (pick b t u)
picks true n r t s u w v = w
picks false n r t s u w v = v

pub passes : {A : Type 0} (b : Bool) (p : Place) (k : CheckKind) (n : ℕ) (r t : Res A) → Agrees n r t → Agrees n (check b p k r) (check b p k t)
passes true p k n r t w = w
passes false p k n r t w = alike (failing _ n)

pub on_truth : {A : Type 0} (v : Val) (n : ℕ) (go to : Bool → Res A) → ((b : Bool) → Agrees n (go b) (to b)) → Agrees n (truth_of v go) (truth_of v to)
on_truth (truth b) n go to h = h b
on_truth (number x) n go to h = alike (nothing n)
on_truth (array f l vs) n go to h = alike (nothing n)
on_truth (record_of vs) n go to h = alike (nothing n)

pub on_number : {A : Type 0} (v : Val) (n : ℕ) (go to : ℤ → Res A) → ((x : ℤ) → Agrees n (go x) (to x)) → Agrees n (number_of v go) (number_of v to)
on_number (number x) n go to h = h x
on_number (truth b) n go to h = alike (nothing n)
on_number (array f l vs) n go to h = alike (nothing n)
on_number (record_of vs) n go to h = alike (nothing n)

quantifies : (count : ℕ) (q : Quantifier) (i : ℤ) (body tried : ℤ → ℕ → Res Val) (n : ℕ) → ((x : ℤ) (m : ℕ) → m ≤ n → Agrees m (body x m) (tried x m)) →
    Agrees n (quantify count q i body n) (quantify count q i tried n)
quantifies zero q i body tried n h = alike (given _ n)
quantifies (suc count) q i body tried n h = spends n _ _ (λ m lt. binds m _ _ _ _ (h i m (weak lt)) (λ v j le. on_truth v j _ _ (λ b.
    picks (decides q b) j _ _ _ _ (alike (given _ j)) (quantifies count q (i +ℤ pos 1) body tried j (λ x r le'. h x r (weak (below le' (below le lt))))))))

module _ (calls others : Calls) (k : ℕ) (agree : (q : ℕ) (s : Store) (n : ℕ) → n < k → Agrees n (calls q s n) (others q s n)) where
  mutual
    pub value_agrees : (e : Ex) (f : Frame) (n : ℕ) → n ≤ k → Agrees n (value_of calls e f n) (value_of others e f n)
    value_agrees (at p t x) f n le = spends n _ _ (λ m lt. node_agrees x f m (lower lt le))

    node_agrees : (x : Nd) (f : Frame) (n : ℕ) → n < k → Agrees n (node_value calls x f n) (node_value others x f n)
    node_agrees (static v) f n lt = alike (given _ n)
    node_agrees (read p w x) f n lt = alike (wants _ n)
    node_agrees (component j a) f n lt = binds n _ _ _ _ (slot_agrees a f n (weak lt)) (λ s m le. alike (wants _ m))
    node_agrees (op1 o a) f n lt = binds n _ _ _ _ (value_agrees a f n (weak lt)) (λ v m le. alike (apply1_left o (place_of a) v m))
    node_agrees (op2 o a b) f n lt =
        binds n _ _ _ _ (value_agrees a f n (weak lt)) (λ u m le. binds m _ _ _ _ (value_agrees b f m (weak (below le lt))) (λ v j le'. alike (apply2_left o (place_of b) u v j)))
    node_agrees (connect c a b) f n lt =
        binds n _ _ _ _ (value_agrees a f n (weak lt)) (λ u m le. on_truth u m _ _ (λ x. picks (stops_at c x) m _ _ _ _ (alike (given _ m))
        (binds m _ _ _ _ (value_agrees b f m (weak (below le lt))) (λ v j le'. on_truth v j _ _ (λ y. alike (given _ j))))))
    node_agrees (member is a l h) f n lt =
        binds n _ _ _ _ (value_agrees a f n (weak lt)) (λ u m le. binds m _ _ _ _ (value_agrees l f m (weak (below le lt))) (λ v j le'.
        binds j _ _ _ _ (value_agrees h f j (weak (below le' (below le lt)))) (λ w r le''. alike (member_left is u v w r))))
    node_agrees (call p q as') f n lt =
        binds n _ _ _ _ (passed_agree as' f n (weak lt)) (λ ps m le. binds m _ _ _ _ (agree q (with_params ps (entered f.state)) m (below le lt)) (λ t j le'. alike (result_left p t j)))
    node_agrees (aggregate c b es) f n lt =
        binds n _ _ _ _ (associated_agree es b.first (empties (span b.first b.last)) f n (weak lt)) (λ ss m le.
        binds m _ _ _ _ (alike (wants (wholes ss) m)) (λ vs j le'. alike (given _ j)))
    node_agrees (choose es) f n lt = chosen_agree es f n (weak lt)
    node_agrees (quantified q i l h e) f n lt =
        binds n _ _ _ _ (value_agrees l f n (weak lt)) (λ u m le. binds m _ _ _ _ (value_agrees h f m (weak (below le lt))) (λ v j le'.
        on_number u j _ _ (λ lo. on_number v j _ _ (λ hi. quantifies (span lo hi) q lo _ _ j
        (λ x r le''. value_agrees e (set f (index i) (full (number x))) r (weak (below le'' (below le' (below le lt)))))))))

    slot_agrees : (e : Ex) (f : Frame) (n : ℕ) → n ≤ k → Agrees n (slot_of calls e f n) (slot_of others e f n)
    slot_agrees (at p t (read q w x)) f n le = spends n _ _ (λ m lt. alike (given _ m))
    slot_agrees (at p t (component j a)) f n le = spends n _ _ (λ m lt. binds m _ _ _ _ (slot_agrees a f m (weak (lower lt le))) (λ s r le'. alike (given (component_slot j s) r)))
    slot_agrees (at p t x) f n le = spends n _ _ (λ m lt. binds m _ _ _ _ (node_agrees x f m (lower lt le)) (λ v r le'. alike (given (full v) r)))

    spots_agree : (path : Path) (s : Slot) (f : Frame) (n : ℕ) → n ≤ k → Agrees n (spots_of calls path s f n) (spots_of others path s f n)
    spots_agree here s f n le = alike (given _ n)
    spots_agree (to_component j count rest) s f n le = binds n _ _ _ _ (spots_agree rest (component_slot j s) f n le) (λ ss m h. alike (given _ m))
    spots_agree (to_item b c e rest) s f n le =
        binds n _ _ _ _ (value_agrees e f n le) (λ v m h. binds m _ _ _ _ (alike (position_left (bounds_of b s) c (place_of e) v m)) (λ j r h2.
        binds r _ _ _ _ (spots_agree rest (item_slot j s) f r (still h2 (still h le))) (λ ss x h3. alike (given _ x))))

    pub located_agrees : (t : Target) (f : Frame) (n : ℕ) → n ≤ k → Agrees n (located calls t f n) (located others t f n)
    located_agrees (target p x path) f n le = binds n _ _ _ _ (spots_agree path (f.state x) f n le) (λ ss m h.
        picks (reaches ss (f.state x)) m _ _ _ _ (alike (given ss m)) (alike (nothing m)))

    one_passed_agrees : (a : Actual) (f : Frame) (n : ℕ) → n ≤ k → Agrees n (one_passed calls a f n) (one_passed others a f n)
    one_passed_agrees (pass_in j fit e) f n le = binds n _ _ _ _ (value_agrees e f n le) (λ v m h. binds m _ _ _ _ (alike (checks fit (place_of e) v m)) (λ w r h2. alike (given _ r)))
    one_passed_agrees (pass_out j t fit) f n le = binds n _ _ _ _ (located_agrees t f n le) (λ ss m h. alike (given _ m))
    one_passed_agrees (pass_in_out j t inward fit) f n le = binds n _ _ _ _ (located_agrees t f n le) (λ ss m h.
        binds m _ _ _ _ (alike (wants (whole (slot_in ss (f.state (var_of t)))) m)) (λ v r h2.
        binds r _ _ _ _ (alike (checks inward (target_place t) v r)) (λ w x h3. alike (given _ x))))

    pub passed_agree : (as' : Actuals) (f : Frame) (n : ℕ) → n ≤ k → Agrees n (passed calls as' f n) (passed others as' f n)
    passed_agree no_actuals f n le = alike (given _ n)
    passed_agree (actual a as') f n le = binds n _ _ _ _ (one_passed_agrees a f n le) (λ p m h. binds m _ _ _ _ (passed_agree as' f m (still h le)) (λ ps j h2. alike (given _ j)))

    chosen_agree : (es : Arms) (f : Frame) (n : ℕ) → n ≤ k → Agrees n (chosen calls es f n) (chosen others es f n)
    chosen_agree (other e) f n le = value_agrees e f n le
    chosen_agree (arm c e es) f n le =
        binds n _ _ _ _ (value_agrees c f n le) (λ v m h. on_truth v m _ _ (λ b. picks b m _ _ _ _ (value_agrees e f m (still h le)) (chosen_agree es f m (still h le))))

    associated_agree : (es : Assocs) (x : ℤ) (ss : Slots) (f : Frame) (n : ℕ) → n ≤ k → Agrees n (associated calls es x ss f n) (associated others es x ss f n)
    associated_agree no_assocs x ss f n le = alike (given _ n)
    associated_agree (assoc ranges is_others bs e es) x ss f n le =
        picks (claims_any ranges is_others x ss) n _ _ _ _
        (binds n _ _ _ _ (value_agrees e f n le) (λ v m h. binds m _ _ _ _ (alike (checks_each bs (place_of e) v m)) (λ w j h'.
        associated_agree es x (fill ranges is_others x w ss) f j (still h' (still h le)))))
        (associated_agree es x ss f n le)
