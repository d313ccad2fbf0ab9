use Rattle.expansion.proofs.laws.core_is_whole.Goals as goal

pub returns : goal.returns
returns c trees unit spans core = core.whole
