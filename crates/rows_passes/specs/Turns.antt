-- A program of words that takes a thousand turns, in each of which two variables exchange their words, and then calls code with what
-- they hold.
use Rattle.std.specs.Prelude.{[], ◌∷◌, refl}
use Rattle.std.specs.Global.{Global}
use Rattle.word_ir.specs.declared.operands.Operand.TheVariants as operand
use Rattle.word_ir.specs.declared.words.Arith.TheVariants as arith
use Rattle.word_ir.specs.declared.words.Test.TheVariants as test
use Rattle.word_ir.specs.declared.words.WordOp.TheVariants as op
use Rattle.word_ir.specs.declared.words.WordEnd.TheVariants as last
use Rattle.word_ir.specs.declared.words.WordBlock.{WordBlock}
use Rattle.word_ir.specs.declared.words.Words.{Words}
use Rattle.word_ir.specs.Writing.{vec_of, var, of_var, service}
use Rattle.rows_passes.specs.Sum.{sum_shared, last_block}

abbrev pub first_block : Global → WordBlock
first_block alloc = record {
  params = [];
  ops = vec_of alloc [] refl;
  last = last.Jump 1 (operand.Word 0 ∷ operand.Word 4 ∷ operand.Word 4000 ∷ operand.Word 28 ∷ []);
}

abbrev pub test_block : Global → WordBlock
test_block alloc = record {
  params = var 0 ∷ var 1 ∷ var 2 ∷ var 3 ∷ [];
  ops = vec_of alloc [] refl;
  last = last.Test test.Le (of_var 2) (operand.Word 0) 2 3;
}

abbrev pub call_block : Global → WordBlock
call_block alloc = record { params = []; ops = vec_of alloc [] refl; last = last.Enter (operand.Code 5) (of_var 1 ∷ of_var 0 ∷ of_var 3 ∷ []) }

abbrev pub turn_block : Global → WordBlock
turn_block alloc = record {
  params = [];
  ops = vec_of alloc (op.Arith (var 4) arith.Sub (of_var 2) (operand.Word 4) 4 ∷ op.Arith (var 5) arith.Add (of_var 3) (of_var 0) 4 ∷ []) refl;
  last = last.Jump 1 (of_var 1 ∷ of_var 0 ∷ of_var 4 ∷ of_var 5 ∷ []);
}

abbrev pub called_block : Global → WordBlock
called_block alloc = record {
  params = var 6 ∷ var 7 ∷ var 8 ∷ [];
  ops = vec_of alloc
      (op.Arith (var 9) arith.Mul (of_var 6) (operand.Word 100) 4 ∷ op.Arith (var 10) arith.Sub (of_var 8) (of_var 9) 4 ∷ op.Arith (var 11) arith.Add (of_var 10) (of_var 7) 4 ∷ service 0 (of_var 11 ∷ []) ∷ []) refl;
  last = last.Stop;
}

abbrev pub turns_words : Global → Words
turns_words alloc = record {
  shared = sum_shared alloc;
  statics = vec_of alloc [] refl;
  blocks = vec_of alloc (first_block alloc ∷ test_block alloc ∷ call_block alloc ∷ turn_block alloc ∷ last_block alloc [] 3 (operand.Word 28) ∷ called_block alloc ∷ []) refl;
  entry = 0;
}
