use Rattle.std.proofs.Common.{[], ◌∷◌, refl, arith}
use Rattle.std.specs.Fmt.{digits}
use Rattle.word_ir.specs.Lines.{Op}
use Rattle.word_ir.specs.Step.{step}
use Rattle.word_ir.specs.Writing.{var, of_var, service}
use Rattle.word_ir.proofs.WholeLemmas.{whole_from}
use Rattle.word_ir.specs.declared.operands.Operand.TheVariants as operand
use Rattle.word_scopes.proofs.laws.a_call_brings_too_little.Goals as goal

pub returns-clause-whole : goal.returns-clause-whole
returns-clause-whole c = λ alloc shared. whole_from _ ([] ∷ (var 0 ∷ var 1 ∷ []) ∷ []) shared refl

pub returns-clause-meets : goal.returns-clause-meets
unfolding digits step
returns-clause-meets c = λ alloc. record {
  short = record { runs = refl; code = of_var 2; args = operand.Word 20 ∷ []; block = 1; target = _; line = refl; leads = refl; there = refl; fewer = omega arith };
  meets = record { runs = refl; line = Op (service 0 (of_var 1 ∷ [])); var = var 1; stands = refl; used = (0, omega arith, refl); lacks = refl };
}

pub returns-clause-breaks : goal.returns-clause-breaks
unfolding digits step
returns-clause-breaks c = λ alloc. refl
