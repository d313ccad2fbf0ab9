use Rattle.cps_live.proofs.LiveLemmas.{all_free}
use Rattle.cps_live.proofs.lives.free_variables.Goals as goal

pub returns : goal.returns
returns c = all_free c.args.cps.now c.new.result (record { at = c.in_ok-at.at }) c.new.ensures c.in_ok-at.ensures
