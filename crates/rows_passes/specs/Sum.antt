-- A program of words that adds two fixnums and halts with the sum.
use Rattle.std.specs.Prelude.{ℕ, List, [], ◌∷◌, codes, refl}
use Rattle.std.specs.Global.{Global}
use Rattle.t_base.specs.declared.basics.Var.{Var}
use Rattle.t_base.specs.declared.shared_parts.Shared.{Shared}
use Rattle.word_ir.specs.declared.operands.Operand.{Operand}
use Rattle.word_ir.specs.declared.operands.Operand.TheVariants as operand
use Rattle.word_ir.specs.declared.words.Arith.TheVariants as arith
use Rattle.word_ir.specs.declared.words.WordOp.TheVariants as op
use Rattle.word_ir.specs.declared.words.WordEnd.TheVariants as last
use Rattle.word_ir.specs.declared.words.WordBlock.{WordBlock}
use Rattle.word_ir.specs.declared.words.Words.{Words}
use Rattle.word_ir.specs.Writing.{vec_of, var, of_var, move, service, first_op}

-- one name for the three operations that each unit has
abbrev pub sum_shared : Global → Shared
sum_shared alloc = record {
  names = codes "setter" ∷ [];
  strings = vec_of alloc [] refl;
  pairs = vec_of alloc [] refl;
  globals = vec_of alloc [] refl;
  ops = vec_of alloc (first_op 0 ∷ first_op 0 ∷ first_op 0 ∷ []) refl;
  size = 0;
}

-- a block that ends with a service
abbrev pub last_block : Global → List Var → ℕ → Operand → WordBlock
last_block alloc params number x = record { params = params; ops = vec_of alloc (service number (x ∷ []) ∷ []) refl; last = last.Stop }

abbrev pub sum_block : Global → WordBlock
sum_block alloc = record {
  params = [];
  ops = vec_of alloc (move 0 (operand.Word 160) ∷ op.Arith (var 1) arith.Add (of_var 0) (operand.Word 8) 1 ∷ []) refl;
  last = last.Jump 2 (of_var 1 ∷ []);
}

abbrev pub sum_words : Global → Words
sum_words alloc = record {
  shared = sum_shared alloc;
  statics = vec_of alloc [] refl;
  blocks = vec_of alloc (sum_block alloc ∷ last_block alloc [] 3 (operand.Word 7) ∷ last_block alloc (var 2 ∷ []) 0 (of_var 2) ∷ []) refl;
  entry = 0;
}
