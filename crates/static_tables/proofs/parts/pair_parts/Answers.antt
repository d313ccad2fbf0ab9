use Rattle.std.proofs.Common.{rules, ◌≡◌, sym, ap, ◌∙◌, ◌++◌, [], slice_get, Some, ◌<◌, length, arith}
use Rattle.std.specs.Option.{option_map_or}
use Rattle.static_names.specs.Named.{of_const}
use Rattle.static_tables.proofs.Closing.{get_at}
use Rattle.static_tables.proofs.parts.pair_parts.Goals as goal

pub returns-in_ok-push_both-in-Some : goal.returns-in_ok-push_both-in-Some
returns-in_ok-push_both-in-Some c =
    let l = c.in-Some.ensures.lookup in
    let there : slice_get c.deref.result.now c.args.k ≡ Some c.in-Some.pair.now = get_at c.in-Some.pair.now c.deref.result.now c.args.k l.3.0 (sym l.1) in
    c.in_ok-push_both-in-Some.ensures ∙ (ap (λ xs. xs ++ (of_const c.in-Some.pair.now.0 ++ of_const c.in-Some.pair.now.1)) c.new-parts.ensures.items ∙ ap (λ o. option_map_or (λ pair. of_const pair.0 ++ of_const pair.1) o []) (sym (ap (λ xs. slice_get xs c.args.k) (sym c.deref.ensures.value) ∙ there)))
