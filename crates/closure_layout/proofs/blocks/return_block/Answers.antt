use Rattle.std.proofs.Common.{refl, sym, ap, subst, ◌∙◌, ◌≤◌, ◌+◌, [], ◌∷◌, ◌++◌, None}
use Rattle.layout_relation.specs.Contexts.{IsUnneeded}
use Rattle.layout_tables.specs.Sketches.{exits_at}
use Rattle.closure_layout.specs.Blocks.{IsFetched}
use Rattle.closure_layout.proofs.Walking.{return_fits}
use Rattle.closure_layout.proofs.blocks.return_block.Goals as goal

pub returns : goal.returns
returns c =
    let held = c.in_ok-hold.ensures ∙ ap (λ zs. (c.args.param.0, c.in_ok-value.value.0) ∷ zs) c.new-scope.ensures in
    return_fits c.args.cps.now c.args.tables.now c.args.work.now c.variable.new.self c.fetch_all.new.work c.fetch_all.new.work c.go_behind.new.work (record { ops = c.push.new.self; scope = c.fetch_all.new.scope; site = c.in_ok-site.site }) c.go_behind.new.line c.args.param c.in_ok-value.value c.args.body c.args.site.now c.args.join c.in_ok-needs.needs.items c.fetch_all.new.scope c.fetch_all.new.ops.items _
    c.in_ok-needs.ensures (sym c.if-is_celled.ensures) (subst (λ a. IsUnneeded (exits_at c.args.tables.now a) c.args.param.0) c.in_ok-site.ensures (c.if-not-is_unneeded.ensures refl)) (subst (λ n. n ≤ c.args.cps.now.shared.size + 2) (c.len.ensures ∙ c.in_ok-needs.needs.ok.0) (c.if-not-are_few.ensures refl)) c.in_ok-value.ensures.variable c.in_ok-value.ensures.next c.variable.ensures.requests c.variable.ensures.templates
    (subst (λ ns. IsFetched c.variable.new.self c.fetch_all.new.work ((c.args.param.0, c.in_ok-value.value.0) ∷ []) c.fetch_all.new.scope [] c.fetch_all.new.ops.items ns None) c.deref.ensures.value
    (subst (λ os. IsFetched c.variable.new.self c.fetch_all.new.work ((c.args.param.0, c.in_ok-value.value.0) ∷ []) c.fetch_all.new.scope os c.fetch_all.new.ops.items c.deref.result.now None) c.new-ops.ensures.items
    (subst (λ hs. IsFetched c.variable.new.self c.fetch_all.new.work hs c.fetch_all.new.scope c.new-ops.result.items c.fetch_all.new.ops.items c.deref.result.now None) held c.in_ok-fetch_all.ensures)))
    c.in_ok-push.ensures.items refl c.in_ok-site.ensures (c.from_vec.ensures ∙ c.in_ok-push-2.ensures.items ∙ ap (λ zs. zs ++ c.in_ok-value.value ∷ []) c.new-params.ensures.items) refl c.in_ok-last.ensures
