-- Where each line of a tree leads.
use Rattle.std.specs.Prelude.{◌≡◌, ℕ, suc, ◌+◌, ◌*◌, ◌%◌, ◌<◌, ◌≤◌, true, false, List, [], ◌∷◌, length, slice_get, Some, None, ℤ}
use Rattle.program_runs.specs.Runs.{End}
use Rattle.t_base.specs.declared.basics.Var.{Var}
use Rattle.word_ir.specs.declared.operands.Operand.{Operand}
use Rattle.word_ir.specs.declared.words.Arith.{Arith}
use Rattle.word_ir.specs.declared.words.Test.{Test}
use Rattle.word_ir.specs.declared.words.WordBlock.{WordBlock}
use Rattle.word_ir.specs.declared.words.WordOp.TheVariants as op
use Rattle.word_ir.specs.declared.words.WordEnd.TheVariants as last
use Rattle.word_ir.specs.declared.words.Words.{Words}
use Rattle.word_ir.specs.Word.{Word, Number, Code, moved}
use Rattle.word_ir.specs.Storage.{Sizes, STACK_START, long_at, byte_at, is_in_stack}
use Rattle.word_ir.specs.Computing.{Gives, Over, computed, compared}
use Rattle.word_ir.specs.Effects.{Puts, Ends, service_effect}
use Rattle.word_ir.specs.Step.{words_in}
use Rattle.word_ir.specs.Stamps.{is_birth, birth_at}
use Rattle.word_trees.specs.Trees.{Tree, Do, Or, Ask, Close, Compute, Take, Push, Spells}
use Rattle.word_trees.specs.Cores.{Core, at, word_in, read_in, stamp_in, some_stamp, heap_left, stack_left, binding, storing, taking, pushing, resetting, putting, entering}
use Rattle.word_trees.specs.Leads.{StepsTo, Steps, EndsBy, EntersBlock, MayReach, MayRead}

-- ---- words

abbrev pub MovesLead : Type 0
MovesLead = (words : Words) (sizes : Sizes) (c : Core) (to : Var) (from : Operand) (x : Word) (rest : Tree) → word_in c from ≡ Some x → Steps words sizes 2 (Do (op.Move to from) rest) c rest (binding c to x (stamp_in (words_in words sizes) c from))

abbrev pub LoadsLead : Type 0
LoadsLead =
    (words : Words) (sizes : Sizes) (c : Core) (to : Var) (base : Operand) (n : ℕ) (offset : ℤ) (x : Word) (rest : Tree) → word_in c base ≡ Some (Number n) → read_in c (moved n offset) ≡ Some x
    → MayRead (words_in words sizes) c base (moved n offset) → Steps words sizes 2 (Do (op.Load to base offset) rest) c rest (binding c to x (some_stamp (long_at c.longs (moved n offset))))

-- bytes of the stack are never read
abbrev pub BytesLead : Type 0
BytesLead =
    (words : Words) (sizes : Sizes) (c : Core) (to : Var) (base index : Operand) (n i : ℕ) (offset : ℤ) (byte : ℕ) (rest : Tree) → word_in c base ≡ Some (Number n) → word_in c index ≡ Some (Number i)
    → byte_at (read_in c) (moved (n + i) offset) ≡ Some byte → is_in_stack c.storage (moved (n + i) offset) ≡ false
    → Steps words sizes 3 (Do (op.LoadByte to base index offset) rest) c rest (binding c to (Number byte) None)

abbrev pub StoresLead : Type 0
StoresLead =
    (words : Words) (sizes : Sizes) (c : Core) (base from : Operand) (n : ℕ) (offset : ℤ) (x old : Word) (rest : Tree) → word_in c base ≡ Some (Number n) → word_in c from ≡ Some x
    → read_in c (moved n offset) ≡ Some old → MayReach (words_in words sizes) c base (moved n offset)
    → Steps words sizes 3 (Do (op.Store base offset from) rest) c rest (storing c (moved n offset) x (stamp_in (words_in words sizes) c from))

-- ---- arithmetic

abbrev pub ResultsLead : Type 0
ResultsLead =
    (words : Words) (sizes : Sizes) (c : Core) (to : Var) (how : Arith) (a b : Operand) (x y n : ℕ) (exit rest : Tree) → word_in c a ≡ Some (Number x) → word_in c b ≡ Some (Number y)
    → computed how x y ≡ Gives n → Steps words sizes 3 (Or (Compute to how a b) exit rest) c rest (binding c to (Number n) None)

abbrev pub OverLeads : Type 0
OverLeads =
    (words : Words) (sizes : Sizes) (c : Core) (to : Var) (how : Arith) (a b : Operand) (x y : ℕ) (exit rest : Tree) → word_in c a ≡ Some (Number x) → word_in c b ≡ Some (Number y)
    → computed how x y ≡ Over → Steps words sizes 3 (Or (Compute to how a b) exit rest) c exit c

-- ---- heap and stack

abbrev pub TakesLead : Type 0
TakesLead =
    (words : Words) (sizes : Sizes) (c : Core) (to : Var) (bytes : Operand) (n : ℕ) (exit rest : Tree) → word_in c bytes ≡ Some (Number n) → n ≤ heap_left sizes c → n % 8 ≡ 0
    → Steps words sizes 2 (Or (Take to bytes) exit rest) c rest (taking c to n)

abbrev pub NoHeapLeads : Type 0
NoHeapLeads =
    (words : Words) (sizes : Sizes) (c : Core) (to : Var) (bytes : Operand) (n : ℕ) (exit rest : Tree) → word_in c bytes ≡ Some (Number n) → heap_left sizes c < n
    → Steps words sizes 2 (Or (Take to bytes) exit rest) c exit c

-- the words are born by this step
abbrev pub PushesLead : Type 0
PushesLead =
    (words : Words) (sizes : Sizes) (c : Core) (count : ℕ) (exit rest : Tree) → 1 ≤ count → 4 * count ≤ stack_left c → (block place moves steps : ℕ) → Spells words block place (Or (Push count) exit rest)
    → StepsTo words sizes rest (pushing c count (suc steps)) (moves + 1) (suc steps) (at c block place moves steps)

abbrev pub NoStackLeads : Type 0
NoStackLeads = (words : Words) (sizes : Sizes) (c : Core) (count : ℕ) (exit rest : Tree) → stack_left c < 4 * count → Steps words sizes 1 (Or (Push count) exit rest) c exit c

abbrev pub PopsLead : Type 0
PopsLead =
    (words : Words) (sizes : Sizes) (c : Core) (count : ℕ) (rest : Tree) → c.top + 4 * count ≤ STACK_START + sizes.stack
    → Steps words sizes 1 (Do (op.Pop count) rest) c rest (resetting c (c.top + 4 * count))

abbrev pub ResetsLead : Type 0
ResetsLead =
    (words : Words) (sizes : Sizes) (c : Core) (to : Operand) (n : ℕ) (rest : Tree) → word_in c to ≡ Some (Number n) → n % 4 ≡ 0 → c.top ≤ n → STACK_START ≤ n → n ≤ STACK_START + sizes.stack
    → is_birth (stamp_in (words_in words sizes) c to) (birth_at (words_in words sizes) (at c 0 0 0 0).state (at c 0 0 0 0).marks n) ≡ true → Steps words sizes 2 (Do (op.Reset to) rest) c rest (resetting c n)

-- ---- services

abbrev pub PutsLead : Type 0
PutsLead =
    (words : Words) (sizes : Sizes) (c : Core) (number : ℕ) (a : Operand) (n : ℕ) (bytes : List ℕ) (rest : Tree) → word_in c a ≡ Some (Number n)
    → service_effect (words_in words sizes) (at c 0 0 0 0).state number (n ∷ []) ≡ Puts bytes → Steps words sizes 2 (Do (op.Service number (a ∷ [])) rest) c rest (putting c bytes)

abbrev pub ServicesEnd : Type 0
ServicesEnd =
    (words : Words) (sizes : Sizes) (c : Core) (number : ℕ) (a : Operand) (n : ℕ) (end : End) (rest : Tree) → word_in c a ≡ Some (Number n)
    → service_effect (words_in words sizes) (at c 0 0 0 0).state number (n ∷ []) ≡ Ends end → EndsBy words sizes 2 (Do (op.Service number (a ∷ [])) rest) c end

abbrev pub ServicesOfTwoEnd : Type 0
ServicesOfTwoEnd =
    (words : Words) (sizes : Sizes) (c : Core) (number : ℕ) (a b : Operand) (n k : ℕ) (end : End) (rest : Tree) → word_in c a ≡ Some (Number n) → word_in c b ≡ Some (Number k)
    → service_effect (words_in words sizes) (at c 0 0 0 0).state number (n ∷ k ∷ []) ≡ Ends end → EndsBy words sizes 3 (Do (op.Service number (a ∷ b ∷ [])) rest) c end

-- ---- ends of blocks

abbrev pub TestsHold : Type 0
TestsHold =
    (words : Words) (sizes : Sizes) (c : Core) (kind : Test) (a b : Operand) (x y : Word) (at_true at_false : Tree) → word_in c a ≡ Some x → word_in c b ≡ Some y → compared kind x y ≡ Some true
    → Steps words sizes 3 (Ask kind a b at_true at_false) c at_true c

abbrev pub TestsFail : Type 0
TestsFail =
    (words : Words) (sizes : Sizes) (c : Core) (kind : Test) (a b : Operand) (x y : Word) (at_true at_false : Tree) → word_in c a ≡ Some x → word_in c b ≡ Some y → compared kind x y ≡ Some false
    → Steps words sizes 3 (Ask kind a b at_true at_false) c at_false c

abbrev pub JumpsLead : Type 0
JumpsLead =
    (words : Words) (sizes : Sizes) (c : Core) (turn : ℕ) (target : WordBlock) (args : List Operand) → slice_get words.blocks.items turn ≡ Some target → length args ≡ length target.params
    → EntersBlock words sizes (1 + length args) (Close (last.Jump turn args)) c turn (entering (words_in words sizes) c target.params args)

abbrev pub EntersLead : Type 0
EntersLead =
    (words : Words) (sizes : Sizes) (c : Core) (code : Operand) (turn : ℕ) (target : WordBlock) (args : List Operand) → word_in c code ≡ Some (Code turn) → slice_get words.blocks.items turn ≡ Some target
    → EntersBlock words sizes (2 + length args) (Close (last.Enter code args)) c turn (entering (words_in words sizes) c target.params args)
