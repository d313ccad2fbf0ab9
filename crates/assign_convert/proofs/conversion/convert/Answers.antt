use Rattle.std.proofs.Common.{◌∙◌, sym, ap, set}
use Rattle.std.proofs.lemmas.List.Edits.{map_over_more}
use Rattle.cps_walk.specs.Marked.{is_marked}
use Rattle.assign_convert.specs.AssignedCells.{celled}
use Rattle.assign_convert.proofs.conversion.convert.Goals as goal

pub loop-term-preserved : goal.loop-term-preserved
loop-term-preserved c =
    ap (λ t. set c.loop-term.term-items c.loop-term.term-index t) (c.convert_term.ensures ∙ ap (celled (is_marked c.args.marks.now)) (sym c.term-item.is))
    ∙ map_over_more (celled (is_marked c.args.marks.now)) c.args.terms.now c.loop-term.term-items c.loop-term.term-index c.term-item.result c.loop-term-test.true c.loop-term.invariant c.term-item.is
