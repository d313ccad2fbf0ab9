-- The words of values. A thing on the heap stands behind all that was made before it; all others have their place in static words.
use Rattle.std.specs.Prelude.{ℕ, ◌+◌, ◌*◌, ◌==◌, nat_lt, Bool, false, if◌then◌else◌, Option, Some, None, option_map}
use Rattle.t_prim.specs.Values.{Val, FixV, CharV, NilV, TrueV, SymbolV, StringV, PairV, VectorV, ClosureV, ObjectV, OperationV, BuiltinV, EscapeV}
use Rattle.t_prim.specs.Operands.{in_range}
use Rattle.word_ir.specs.Storage.{HEAP_START}
use Rattle.frame_ir.specs.Values.{Value, Lasting, InFrame, CellAt}
use Rattle.frame_ir.specs.States.{State, Thing, APair, AVector, AClosure, AnObject, AnEscape, ACell, thing_words}
use Rattle.tagged_words.specs.Tags.{fixnum_word, char_word}
use Rattle.frame_words.specs.Segments.{place_of}
use Rattle.frame_words.specs.Layouts.{Layout, ClosureOf, BuiltinOf, OperationOf, TextOf, SymbolOf, PairOf, fixed_address}

abbrev pub same_thing : Thing → Thing → Bool
same_thing (APair a) (APair b) = a == b
same_thing (AVector a) (AVector b) = a == b
same_thing (AClosure a) (AClosure b) = a == b
same_thing (AnObject a) (AnObject b) = a == b
same_thing (AnEscape a) (AnEscape b) = a == b
same_thing (ACell a) (ACell b) = a == b
same_thing _ _ = false

-- ---- addresses

-- a thing's place on the heap, in words
abbrev pub heap_place : State → Thing → Option ℕ
heap_place s x = place_of same_thing (thing_words s) s.made x

abbrev pub heap_address : State → Thing → Option ℕ
heap_address s x = option_map (λ p. HEAP_START + 4 * p) (heap_place s x)

-- the first address, or the other one where there is none
abbrev pub or_other : Option ℕ → Option ℕ → Option ℕ
or_other (Some a) other = Some a
or_other None other = other

abbrev pub tagged : ℕ → Option ℕ → Option ℕ
tagged tag address = option_map (λ a. a + tag) address

-- ---- words

abbrev pub PAIR : ℕ
PAIR = 3

abbrev pub OBJECT : ℕ
OBJECT = 2

abbrev pub NIL : ℕ
NIL = 5

abbrev pub TRUE : ℕ
TRUE = 9

-- stands for no value
abbrev pub UNBOUND : ℕ
UNBOUND = 0xD

-- the word of a value; none for a value that no run of the program has
abbrev pub word_for : Layout → State → Val → Option ℕ
word_for l s (FixV x) = if in_range x then Some (fixnum_word x) else None
word_for l s (CharV c) = if nat_lt c 128 then Some (char_word c) else None
word_for l s NilV = Some NIL
word_for l s TrueV = Some TRUE
word_for l s (SymbolV n) = tagged OBJECT (fixed_address l (SymbolOf n))
word_for l s (StringV t) = tagged OBJECT (fixed_address l (TextOf t))
word_for l s (PairV k) = tagged PAIR (or_other (heap_address s (APair k)) (fixed_address l (PairOf k)))
word_for l s (VectorV k) = tagged OBJECT (heap_address s (AVector k))
word_for l s (ClosureV i) = tagged OBJECT (or_other (heap_address s (AClosure i)) (fixed_address l (ClosureOf i)))
word_for l s (ObjectV i) = tagged OBJECT (heap_address s (AnObject i))
word_for l s (OperationV o) = tagged OBJECT (fixed_address l (OperationOf o))
word_for l s (BuiltinV p) = tagged OBJECT (fixed_address l (BuiltinOf p))
word_for l s (EscapeV b) = tagged OBJECT (heap_address s (AnEscape b))

-- of what is captured, without a closure in a frame
abbrev pub captured_for : Layout → State → Value → Option ℕ
captured_for l s (Lasting v) = word_for l s v
captured_for l s (CellAt k) = tagged OBJECT (heap_address s (ACell k))
captured_for l s (InFrame birth slot) = None

abbrev pub or_zero : Option ℕ → ℕ
or_zero (Some n) = n
or_zero None = 0

abbrev pub val_word : Layout → State → Val → ℕ
val_word l s v = or_zero (word_for l s v)

abbrev pub captured_word : Layout → State → Value → ℕ
captured_word l s v = or_zero (captured_for l s v)

-- ---- tags and headers

-- the two low bits
abbrev pub tag_of : Val → ℕ
tag_of (FixV x) = 0
tag_of (CharV c) = 1
tag_of NilV = 1
tag_of TrueV = 1
tag_of (PairV k) = PAIR
tag_of _ = OBJECT

-- the first word of what has one
abbrev pub header_of : Val → Option ℕ
header_of (VectorV k) = Some 0x11
header_of (StringV t) = Some 0x15
header_of (SymbolV n) = Some 0x19
header_of (ClosureV i) = Some 0x1D
header_of (ObjectV i) = Some 0x21
header_of (OperationV o) = Some 0x25
header_of (BuiltinV p) = Some 0x29
header_of (EscapeV b) = Some 0x2D
header_of _ = None

-- of a cell
abbrev pub CELL : ℕ
CELL = 0x35
