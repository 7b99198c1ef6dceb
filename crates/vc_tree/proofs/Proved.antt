-- Where all goals of a site are valid, no run fails first there.
use Rattle.std.proofs.Common.{◌≡◌, ℕ, refl, ap, subst, ◌∙◌, inl, inr, Bool, true, false, Option, Some, None, List, [], map, arith}
use Rattle.std.specs.Prelude.{◌&&◌, if◌then◌else◌, is_none}
use Rattle.ada_values.specs.Value.{Val}
use Rattle.typed_units.specs.declared.checks.SiteKey.{SiteKey}
use Rattle.typed_units.specs.Syntax as text
use Rattle.typed_units.specs.Syntax.{Ex, Sts, done, Routine, Text}
use Rattle.ada_semantics.specs.Outcome as res
use Rattle.ada_semantics.specs.Outcome.{Res, bind, pick}
use Rattle.ada_semantics.specs.Store.{Store, begin}
use Rattle.ada_semantics.specs.Values.{Calls}
use Rattle.ada_semantics.specs.Running.{Stop, goes, leaves, returns, next, run_of}
use Rattle.ada_semantics.specs.Plain.{condition, ended, one_call, calls_within, given_params, started, fails, plain_of, plain_run, params_fit, globals_fit, inputs_fit}
use Rattle.vc_tree.specs.Tree.{Tree}
use Rattle.vc_tree.specs.Goals.{Way, goals_of}
use Rattle.vc_tree.specs.Rules.{and_then, is_done, statements, symbol_of, inputs}
use Rattle.vc_tree.specs.Sound.{ValidAt, Proved}
use Rattle.vc_tree.proofs.Results.{none_some, bind_fails}
use Rattle.vc_tree.proofs.Walk.{walk}
use Rattle.vc_tree.proofs.Inputs.{both_true, world_of, world_numeric, inputs_agree, inputs_walk, all_met}

-- ---- the parts of the tree

pub record Treed (p : Text) (r : Routine) (t : Tree) : Type 0 where
  pub body : Tree
  pub no_pre : is_none r.pre ≡ true
  pub no_post : is_none r.post ≡ true
  pub no_opening : is_done r.opening ≡ true
  pub body_is : statements symbol_of r.body ≡ Some body
  pub inputs_are : inputs p.shapes r.formals 0 body ≡ Some t

tree_parts : (p : Text) (r : Routine) (t : Tree) (b : Bool) (o : Option Tree)
    → (is_none r.pre && is_none r.post && is_none r.result && is_done r.opening) ≡ b → statements symbol_of r.body ≡ o
    → (if b then and_then o (inputs p.shapes r.formals 0) else None) ≡ Some t → Treed p r t
tree_parts p r t false o e d h = none_some t h
tree_parts p r t true None e d h = none_some t h
tree_parts p r t true (Some u) e d h =
    let last = both_true (is_none r.pre && is_none r.post && is_none r.result) (is_done r.opening) e in
    let third = both_true (is_none r.pre && is_none r.post) (is_none r.result) last.0 in
    let second = both_true (is_none r.pre) (is_none r.post) third.0 in
    record { body = u; no_pre = second.0; no_post = second.1; no_opening = last.1; body_is = d; inputs_are = h }

-- ---- a call without contracts and local objects fails in its body

ended_never_fails : (calls : Calls) (s : Stop) (n : ℕ) (c : SiteKey) → ended calls None s n ≡ res.fails c → ⊥
ended_never_fails calls (goes f) n c h = cc
ended_never_fails calls (leaves f) n c h = cc
ended_never_fails calls (returns f) n c h = cc

body_fails : (calls : Calls) (o : Res Stop) (c : SiteKey) → bind o (ended calls None) ≡ res.fails c → o ≡ res.fails c
body_fails calls o c h = elim (bind_fails o (ended calls None) c h) [
  | inl e ↦ e
  | inr w ↦ absurd (ended_never_fails calls w.value w.left c w.then_)
]

call_fails : (calls : Calls) (pre post : Option Ex) (opening body : Sts) → is_none pre ≡ true → is_none post ≡ true → is_done opening ≡ true
    → (s : Store) (n : ℕ) (c : SiteKey)
    → bind (condition calls pre (begin s) n) (λ b m. pick b (bind (bind (run_of calls opening (begin s) m) (next (run_of calls body))) (ended calls post)) (res.gives None m)) ≡ res.fails c
    → run_of calls body (begin s) n ≡ res.fails c
call_fails calls None None done body e d g s n c h = body_fails calls (run_of calls body (begin s) n) c h
call_fails calls None None (text.then a b) body e d g s n c h = cc
call_fails calls None (Some x) opening body e d g s n c h = cc
call_fails calls (Some x) post opening body e d g s n c h = cc

plain_fails : (p : Text) (r : Routine) (o : Res (Option Store)) (c : SiteKey) → plain_of p r o ≡ fails c → o ≡ res.fails c
plain_fails p r (res.gives None n) c h = cc
plain_fails p r (res.gives (Some s) n) c h = cc
plain_fails p r (res.fails d) c h = cc
plain_fails p r res.short c h = cc
plain_fails p r res.unset c h = cc

-- ---- the theorem

routine_proved : (p : Text) (r : Routine) (t : Tree) → Treed p r t → (c : SiteKey) → ValidAt c (goals_of [] t)
    → (params globals : List Val) (n : ℕ) → inputs_fit p r params globals ≡ true → plain_run p (Some r) params globals n ≡ fails c → ⊥
routine_proved p r t a c valid params globals n f h =
    let calls = calls_within n p in
    let s = started (given_params r.formals params) (map Some globals) in
    let fit = both_true (params_fit p.shapes r.formals params) (globals_fit p.shapes p.globals globals) f in
    let e = plain_fails p r (one_call calls r s n) c h in
    let b = call_fails calls r.pre r.post r.opening r.body a.no_pre a.no_post a.no_opening s n c e in
    let w = world_of params in
    let start : Way = record { symbols = []; choices = 0; hypotheses = [] } in
    let g = inputs_walk p.shapes r.formals 0 a.body t params a.inputs_are fit.0 w (λ i j q. ap w.symbol (q ∙ omega arith)) c start tt tt valid in
    walk calls (begin s) w (inputs_agree p.shapes r.formals a.body t params (map Some globals) a.inputs_are fit.0) (world_numeric params)
    r.body a.body a.body_is n c b g.way (all_met g.way.symbols g.met) g.hold g.valid

pub proved : Proved
proved p q r t e d c valid params globals n f h =
    routine_proved p r t (tree_parts p r t (is_none r.pre && is_none r.post && is_none r.result && is_done r.opening) (statements symbol_of r.body) refl refl d)
    c valid params globals n f (subst (λ (o : Option Routine). plain_run p o params globals n ≡ fails c) e h)
