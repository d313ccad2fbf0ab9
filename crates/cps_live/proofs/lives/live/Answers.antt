use Rattle.std.proofs.Common.{◌∙◌, ap}
use Rattle.cps_ir.specs.Reaches.{is_in}
use Rattle.cps_live.proofs.LiveLemmas.{all_live}
use Rattle.cps_live.proofs.lives.live.Goals as goal

pub returns : goal.returns
returns c = all_live c.args.cps.now c.in_ok-ks.ks (record { at = c.in_ok-at.at }) (λ m. c.in_ok-ks.ensures m ∙ ap (λ ns. is_in ns m) (c.deref-2.ensures.value ∙ c.in_ok-continuations.ensures)) c.in_ok-at.ensures
