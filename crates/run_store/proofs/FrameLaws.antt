-- What the contracts on subprograms at work say of their frames.
use Rattle.std.proofs.Common.{◌≡◌, refl, ap, ◌∙◌, ℕ, Bool, true, false, ◌==◌, []}
use Rattle.typed_units.specs.Syntax.{Var}
use Rattle.ada_semantics.specs.Outcome.{pick}
use Rattle.ada_semantics.specs.Store.{Slot, Store, put, set, begin, enter_loop}
use Rattle.run_store.specs.Entries.{entry_of}
use Rattle.run_store.specs.RunStores.{store_of}
use Rattle.run_store.specs.RunFrames.{frame_of}
use Rattle.run_store.specs.declared.variables.RunVars.{RunVars}
use Rattle.run_store.specs.declared.run_frames.RunFrame.{RunFrame}

-- stores that agree at each variable are equal
pub same_store : (s t : Store) → ((y : Var) → s y ≡ t y) → s ≡ t
same_store s t h = λ i y. h y i

pub frame_begins : (vars : RunVars) → frame_of (record { state = vars; start = vars; entries = [] }) ≡ begin (store_of vars)
frame_begins vars = refl

pub frame_puts : (f g : RunFrame) (x : Var) (s : Slot) → ((y : Var) → store_of g.state y ≡ put (store_of f.state) x s y) → g.start ≡ f.start → g.entries ≡ f.entries → frame_of g ≡ set (frame_of f) x s
frame_puts f g x s h b e = λ i. record { state = λ y. h y i; start = store_of (b i); entries = λ k. store_of (entry_of (e i) (b i) k) }

picked : (b : Bool) (u w : RunVars) → store_of (pick b u w) ≡ pick b (store_of u) (store_of w)
picked true u w = refl
picked false u w = refl

pub frame_enters : (f g : RunFrame) (n : ℕ) → g.state ≡ f.state → g.start ≡ f.start → ((k : ℕ) → entry_of g.entries f.start k ≡ pick (k == n) f.state (entry_of f.entries f.start k)) → frame_of g ≡ enter_loop (frame_of f) n
frame_enters f g n a b h =
    let path : (k : ℕ) → store_of (entry_of g.entries g.start k) ≡ pick (k == n) (store_of f.state) (store_of (entry_of f.entries f.start k))
    = λ k. ap (λ s. store_of (entry_of g.entries s k)) b ∙ ap store_of (h k) ∙ picked (k == n) f.state (entry_of f.entries f.start k) in
    λ i. record { state = store_of (a i); start = store_of (b i); entries = λ k. path k i }
