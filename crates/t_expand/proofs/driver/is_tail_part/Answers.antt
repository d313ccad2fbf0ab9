use Rattle.std.proofs.Common.{◌∙◌}
use Rattle.t_expand.proofs.TailLemmas.{part_flag, by_shape, other_flag, last_in_tail, last_elsewhere}
use Rattle.t_expand.proofs.driver.is_tail_part.Goals as goal

pub returns-in-Object : goal.returns-in-Object
returns-in-Object c = record {
  part = λ node i p n at first last. by_shape _ _ _ _ _ node i p c.in-Object.is (part_flag _ _ _ _ node i p n at first last);
}

pub returns-in_default : goal.returns-in_default
returns-in_default c = record {
  part = λ node i p n at first last.
      other_flag c.args.shape.now c.args.tail c.args.is_first c.args.is_last c.in_default.not-Lambda c.in_default.not-If c.in_default.not-Block c.in_default.not-Let
      c.in_default.not-Labels c.in_default.not-Object
      ∙ part_flag _ _ _ _ node i p n at first last;
}

pub returns-then-tail-2 : goal.returns-then-tail-2
returns-then-tail-2 c = record {
  part = λ node i p n at first last.
      last_in_tail c.args.shape.now c.args.tail c.args.is_first c.args.is_last c.in-Block.is c.if-tail-2.true ∙ part_flag _ _ _ _ node i p n at first last;
}

pub returns-else-tail-2 : goal.returns-else-tail-2
returns-else-tail-2 c = record {
  part = λ node i p n at first last.
      last_elsewhere c.args.shape.now c.args.tail c.args.is_first c.args.is_last c.in-Block.is c.if-tail-2.false ∙ part_flag _ _ _ _ node i p n at first last;
}
