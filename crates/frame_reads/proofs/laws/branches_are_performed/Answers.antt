use Rattle.frame_reads.proofs.Branches.{branch_performs, frame_branch_performs}
use Rattle.frame_reads.proofs.laws.branches_are_performed.Goals as goal

pub returns-clause-lasting : goal.returns-clause-lasting
returns-clause-lasting c = branch_performs

pub returns-clause-in_frame : goal.returns-clause-in_frame
returns-clause-in_frame c = frame_branch_performs
