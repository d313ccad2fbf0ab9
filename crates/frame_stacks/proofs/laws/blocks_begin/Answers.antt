use Rattle.frame_stacks.proofs.Blocks.{jump_performs, return_performs}
use Rattle.frame_stacks.proofs.laws.blocks_begin.Goals as goal

pub returns-clause-jumps : goal.returns-clause-jumps
returns-clause-jumps c = jump_performs

pub returns-clause-returns : goal.returns-clause-returns
returns-clause-returns c = return_performs
