-- Texts as words.
use Rattle.std.specs.Prelude.{[], ◌∷◌, List, refl}
use Rattle.std.specs.Global.{Global}
use Rattle.word_ir.specs.declared.operands.Operand.{Operand}
use Rattle.word_ir.specs.declared.operands.Operand.TheVariants as operand
use Rattle.word_ir.specs.declared.words.Arith.TheVariants as arith
use Rattle.word_ir.specs.declared.words.Test.TheVariants as test
use Rattle.word_ir.specs.declared.words.StaticWord.TheVariants as first
use Rattle.word_ir.specs.declared.words.WordOp.{WordOp}
use Rattle.word_ir.specs.declared.words.WordOp.TheVariants as op
use Rattle.word_ir.specs.declared.words.WordEnd.{WordEnd}
use Rattle.word_ir.specs.declared.words.WordEnd.TheVariants as last
use Rattle.word_ir.specs.declared.words.WordBlock.{WordBlock}
use Rattle.word_ir.specs.declared.words.Words.{Words}
use Rattle.word_ir.specs.Writing.{IsShort, vec_of, var, of_var, load, store, service, ending, leading, program}
use Rattle.std.specs.Prelude.{ℕ, map}

abbrev pub block : Global → List ℕ → (ops : List WordOp) → IsShort ops → WordEnd → WordBlock
block alloc params ops short end = record { params = map var params; ops = vec_of alloc ops short; last = end }

abbrev pub word : ℕ → Operand
word n = operand.Word n

-- (+ 40 2): both words are tested for their tag, and the sum for what a word holds
abbrev pub sum : Global → Words
sum alloc = program alloc [] refl (
    leading alloc [] (last.Test (test.TagIs 0) (word 160) (word 0) 2 1) ∷
    ending alloc (service 3 (word 3 ∷ []) ∷ []) refl ∷
    leading alloc [] (last.Test (test.TagIs 0) (word 8) (word 0) 3 1) ∷
    ending alloc (op.Arith (var 0) arith.Add (word 160) (word 8) 4 ∷ service 0 (of_var 0 ∷ []) ∷ []) refl ∷
    ending alloc (service 3 (word 7 ∷ []) ∷ []) refl ∷
    []) refl

-- a frame of two words is pushed that goes back to a block
abbrev pub pushing : ℕ → List WordOp → List WordOp
pushing back ops = op.Push 2 6 ∷ store (operand.Slot 0) 0 (operand.Code back) ∷ ops

-- a frame of two words, of which the second one is where the next frame is
abbrev pub framing : ℕ → List WordOp → List WordOp
framing back ops = pushing back (store (operand.Slot 0) 4 (operand.Slot 8) ∷ ops)

-- an escape of four words: its header, its frame, and the escape that was innermost
abbrev pub opening : ℕ → ℕ → ℕ → ℕ → List WordOp → List WordOp
opening back object inner escape ops =
    op.Take (var object) (word 16) 7 ∷ pushing back (
    load inner (operand.Static 0) 0 ∷
    store (of_var object) 0 (word 45) ∷ store (of_var object) 4 (operand.Slot 0) ∷ store (of_var object) 8 (of_var inner) ∷
    op.Arith (var escape) arith.Add (of_var object) (word 2) 10 ∷ store (operand.Static 0) 0 (of_var escape) ∷ ops)

-- the innermost escape is dead, and the one behind it is the innermost
abbrev pub closing : ℕ → ℕ → List WordOp → List WordOp
closing escape inner ops =
    load escape (operand.Static 0) 0 ∷ store (of_var escape) 2 (word 0) ∷ load inner (of_var escape) 6 ∷ store (operand.Static 0) 0 (of_var inner) ∷ op.Pop 2 ∷ ops

-- the newest frame is popped by the address of the next one
abbrev pub popping : ℕ → List WordOp → List WordOp
popping next ops = load next (operand.Slot 4) 0 ∷ op.Reset (of_var next) ∷ ops

-- (catch a (+ 1 (catch b (a 5)))): the escape ends each CATCH from the innermost up to its own, and returns from the frame of that one
abbrev pub two_catches : Global → Words
two_catches alloc = program alloc (first.Word 5 ∷ first.Word 0 ∷ []) refl (
    block alloc [] (framing 2 (opening 2 8 9 0 (framing 4 (opening 4 10 11 1 (framing 5 (load 41 (operand.Static 0) 0 ∷ [])))))) refl (last.Jump 11 (of_var 0 ∷ word 20 ∷ of_var 41 ∷ [])) ∷
    block alloc (7 ∷ []) (service 0 (of_var 7 ∷ []) ∷ []) refl last.Stop ∷
    block alloc (6 ∷ []) (popping 45 []) refl (last.Jump 1 (of_var 6 ∷ [])) ∷
    block alloc (4 ∷ []) [] refl (last.Test (test.TagIs 0) (of_var 4) (word 0) 8 9) ∷
    block alloc (3 ∷ []) (popping 49 []) refl (last.Jump 3 (of_var 3 ∷ [])) ∷
    block alloc (2 ∷ []) (popping 50 (closing 51 52 (popping 53 []))) refl (last.Jump 3 (of_var 2 ∷ [])) ∷
    ending alloc (service 4 (word 8 ∷ word 1 ∷ []) ∷ []) refl ∷
    ending alloc (service 4 (word 16 ∷ word 0 ∷ []) ∷ []) refl ∷
    block alloc [] (op.Arith (var 5) arith.Add (word 4) (of_var 4) 10 ∷ closing 46 47 (popping 48 [])) refl (last.Jump 1 (of_var 5 ∷ [])) ∷
    ending alloc (service 3 (word 3 ∷ []) ∷ []) refl ∷
    ending alloc (service 3 (word 7 ∷ []) ∷ []) refl ∷
    block alloc (38 ∷ 39 ∷ 40 ∷ []) (load 42 (of_var 40) 2 ∷ store (of_var 40) 2 (word 0) ∷ load 43 (of_var 40) 6 ∷ []) refl (last.Test test.Eq (of_var 40) (of_var 38) 12 13) ∷
    block alloc [] (store (operand.Static 0) 0 (of_var 43) ∷ op.Reset (of_var 42) ∷ load 44 (operand.Slot 0) 0 ∷ op.Pop 2 ∷ []) refl (last.Enter (of_var 44) (of_var 39 ∷ [])) ∷
    leading alloc [] (last.Jump 11 (of_var 38 ∷ of_var 39 ∷ of_var 43 ∷ [])) ∷
    []) refl
