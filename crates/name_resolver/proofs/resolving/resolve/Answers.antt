use Rattle.std.proofs.Common.{◌≡◌, ℕ, List, length, sym, ap, ◌∙◌, subst, Ok}
use Rattle.name_library.specs.declared.events.Ident.{Ident}
use Rattle.name_library.specs.Chains.{IsFileOrder}
use Rattle.name_library.specs.Library.{library}
use Rattle.name_resolver.specs.Resolved.{all_events, events_of, order_by, resolved_by}
use Rattle.name_resolver.proofs.Ordered.{none_left_out}
use Rattle.name_resolver.proofs.resolving.resolve.Goals as goal

pub returns-clause-whole : goal.returns-clause-whole
returns-clause-whole c =
    let files = c.args.files.now in
    let usages = c.in_ok-usages.usages in
    let events : c.in_ok-events.events ≡ events_of files = c.in_ok-events.ensures ∙ ap (λ (ts : List (List Ident)). all_events ts files) (c.as_slice.ensures ∙ c.in_ok-tables.ensures) in
    let named : resolved_by files (events_of files) ≡ Ok usages = ap (resolved_by files) (sym (c.as_slice-2.ensures ∙ events)) ∙ c.in_ok-usages.ensures.named in
    let ordered : c.in_ok-order.order ≡ order_by (events_of files) = c.in_ok-order.ensures ∙ ap order_by (c.as_slice-3.ensures ∙ events) in
    subst (λ (order : List ℕ). IsFileOrder (library (events_of files)) (length files) order) (sym ordered) (none_left_out files usages named)
