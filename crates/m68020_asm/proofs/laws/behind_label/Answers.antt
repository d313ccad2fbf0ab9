use Rattle.m68020_asm.proofs.Runs.{behind_label}
use Rattle.m68020_asm.proofs.laws.behind_label.Goals as goal

pub returns : goal.returns
returns c = behind_label
