use Rattle.std.proofs.Common.{refl}
use Rattle.cps_ir.specs.Parts.{walked_within}
use Rattle.std.specs.Fmt.{digits}
use Rattle.word_ir.specs.Step.{step}
use Rattle.word_ir.specs.Stamps.{stamped_step}
use Rattle.rows_forms.proofs.catches_in_each_form.Goals as goal

pub returns-clause-cps_waits : goal.returns-clause-cps_waits
unfolding walked_within
returns-clause-cps_waits c = λ alloc. refl

pub returns-clause-cps : goal.returns-clause-cps
unfolding walked_within
returns-clause-cps c = λ alloc. refl

pub returns-clause-frames_wait : goal.returns-clause-frames_wait
returns-clause-frames_wait c = λ alloc. refl

pub returns-clause-frames : goal.returns-clause-frames
returns-clause-frames c = λ alloc. refl

pub returns-clause-words : goal.returns-clause-words
unfolding digits step stamped_step
returns-clause-words c = λ alloc. refl

pub returns-clause-stamped : goal.returns-clause-stamped
unfolding digits step stamped_step
returns-clause-stamped c = λ alloc. refl
