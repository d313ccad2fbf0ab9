use Rattle.std.proofs.Common.{◌≡◌, ◌+◌, ◌*◌, ◌<◌, ◌++◌, List, length, take, drop}
use Rattle.cps_convert.specs.declared.operands.Job.{Job}
use Rattle.cps_convert.specs.Claims.{HasMarks}
use Rattle.cps_convert.specs.Operands.{JobsConverted}
use Rattle.cps_convert.specs.Kinds.{LambdasMade, MethodsMade}
use Rattle.cps_convert.proofs.Blocks.{BlockEnd}
use Rattle.cps_convert.proofs.nodes.+nodes.Given as goal

abbrev pub decreases-node : goal.decreases-node
decreases-node l = 4 * l.above

abbrev pub decreases-if_node : goal.decreases-if_node
decreases-if_node l = 4 * l.key + 2

abbrev pub decreases-block : goal.decreases-block
decreases-block l = 4 * l.key + 2

abbrev pub decreases-let_node : goal.decreases-let_node
decreases-let_node l = 4 * l.key + 2

abbrev pub decreases-labels : goal.decreases-labels
decreases-labels l = 4 * l.key + 2

abbrev pub decreases-catch : goal.decreases-catch
decreases-catch l = 4 * l.key + 2

abbrev pub decreases-object : goal.decreases-object
decreases-object l = 4 * l.key + 3

abbrev pub decreases-lambda : goal.decreases-lambda
decreases-lambda l = 4 * l.key + 2

abbrev pub decreases-lambdas : goal.decreases-lambdas
decreases-lambdas l = 4 * l.above + 1

abbrev pub decreases-method : goal.decreases-method
decreases-method l = 4 * l.key + 2

abbrev pub decreases-procedure : goal.decreases-procedure
decreases-procedure l = 4 * l.key + 1

abbrev pub decreases-evaluate : goal.decreases-evaluate
decreases-evaluate l = 4 * l.key + 1

abbrev pub invariant-block-items : goal.invariant-block-items
invariant-block-items l = record {
  within : l.at < length l.items;
  end : HasMarks l.unit l.marks → BlockEnd l.unit l.marks l.form l.fn.made l.made l.key (drop l.at l.items) l.fn.k l.place;
}

abbrev pub decreases-block-items : goal.decreases-block-items
decreases-block-items l = l.at

abbrev pub invariant-evaluate-jobs : goal.invariant-evaluate-jobs
invariant-evaluate-jobs l = (done : List Job) × (l.fn.jobs.items ≡ l.waiting.items ++ done) × (HasMarks l.unit l.marks → JobsConverted l.unit l.marks l.form l.fn.made l.made l.key done l.place l.last)

abbrev pub decreases-evaluate-jobs : goal.decreases-evaluate-jobs
decreases-evaluate-jobs l = length l.waiting.items

abbrev pub invariant-lambdas-keys : goal.invariant-lambdas-keys
invariant-lambdas-keys l = HasMarks l.unit l.marks → LambdasMade l.unit l.marks l.form l.fn.made l.made l.above (take l.key-index l.keys) l.lams.items

abbrev pub invariant-object-methods : goal.invariant-object-methods
invariant-object-methods l = HasMarks l.unit l.marks → MethodsMade l.unit l.marks l.form l.fn.made l.made l.key (take l.m-index l.methods) l.ops.items l.lams.items
