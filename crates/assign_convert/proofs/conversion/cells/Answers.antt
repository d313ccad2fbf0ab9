use Rattle.std.proofs.Common.{◌∙◌, refl, ap, map, length}
use Rattle.std.proofs.lemmas.List.{length-map}
use Rattle.cps_ir.specs.Parts.{is_assigned}
use Rattle.cps_walk.specs.Marked.{is_marked}
use Rattle.assign_convert.specs.AssignedCells.{celled}
use Rattle.assign_convert.proofs.Marks.{all_celled_same, refilled}
use Rattle.assign_convert.proofs.Sound.{cells_are_sound}
use Rattle.assign_convert.proofs.conversion.cells.Goals as goal

pub returns : goal.returns
returns c = cells_are_sound _ _ c.requires.whole c.requires.loads (record {
  shared = refl;
  lams = refl;
  entry = refl;
  terms = refilled c.args.cps.terms.len c.convert.new.terms _ (ap length c.convert.ensures ∙ length-map c.deref_mut.result.now (celled (is_marked c.deref.result.now)) ∙ c.deref_mut.ensures.len)
      ∙ c.convert.ensures ∙ ap (λ ts. map (celled (is_marked c.deref.result.now)) ts) c.deref_mut.ensures.value
      ∙ all_celled_same (is_marked c.deref.result.now) (is_assigned c.args.cps) (λ x. ap (λ ms. is_marked ms x) c.deref.ensures.value ∙ c.in_ok-marks.ensures x) c.args.cps.terms.items;
})
