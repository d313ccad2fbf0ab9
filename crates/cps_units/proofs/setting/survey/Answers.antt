use Rattle.cps_units.proofs.setting.survey.Goals as goal

pub returns : goal.returns
returns c = λ whole. record {
  whole = whole;
  marked = c.in_ok-marks.ensures;
  binders = c.in_ok-base.ensures.binders;
  assigned = c.in_ok-base.ensures.assigned;
}
