use Rattle.std.proofs.Common.{sym, ap, ◌∙◌, not}
use Rattle.std.proofs.lemmas.Bool.{eq-eqb}
use Rattle.cps_ir.specs.Reaches.{is_in}
use Rattle.layout_tables.specs.Sketches.{term_needs}
use Rattle.layout_tables.proofs.Basics.{is_in_behind, not_behind, not_equal}
use Rattle.layout_tables.proofs.tables.is_needed_behind.Goals as goal

pub returns-then-var-param : goal.returns-then-var-param
returns-then-var-param c = c.names.ensures ∙ ap (λ xs. is_in xs c.args.var.0) c.term_needs.ensures ∙ sym (is_in_behind (term_needs c.args.tables.now c.args.body) c.args.param.0 c.args.var.0 (not_equal _ _ c.if-var-param.true))

pub returns-else-var-param : goal.returns-else-var-param
returns-else-var-param c =
    let e = eq-eqb c.args.var.0 c.args.param.0 c.if-var-param.false in
    ap not e ∙ sym (not_behind (term_needs c.args.tables.now c.args.body) c.args.param.0 c.args.var.0 e)
