-- What a row gives, and the checks of its operands: each goes on with what the operand stands for, or faults.
use Rattle.std.specs.Prelude.{ℕ, nat_lt, Bool, if◌then◌else◌, List, ℤ, pos, negsuc, Option, Some, None, option_and_then, slice_get}
use Rattle.std.specs.Ordering.{int_eq}
use Rattle.t_base.specs.declared.faults.Fault.{Fault}
use Rattle.t_base.specs.declared.faults.Fault.TheVariants.{NotFixnum, NotPair, NotVector, IndexRange, FixnumOverflow, DivideByZero, NotChar, NotString, CharRange, NotSymbol}
use Rattle.t_prim.specs.Values.{Val, FixV, NilV, TrueV, Store, text_of}
use Rattle.t_prim.specs.Kinds.{fixnum_of, char_of, symbol_of, string_of, pair_of, vector_of}

-- a value and no change, a value and the store as it is then, or a fault and no change
pub data Row : Type 0 where
  Gives : (value : Val) → Row
  Changes : (store : Store) (value : Val) → Row
  Faults : (fault : Fault) → Row

-- goes on with what is there, or faults
abbrev pub or_fault : {X : Type 0} → Option X → Fault → (X → Row) → Row
or_fault None fault go = Faults fault
or_fault (Some x) fault go = go x

-- ---- an operand of a kind

abbrev pub with_fixnum : Val → (ℤ → Row) → Row
with_fixnum a go = or_fault (fixnum_of a) NotFixnum go

-- both operands, the left one first
abbrev pub with_fixnums : Val → Val → (ℤ → ℤ → Row) → Row
with_fixnums a b go = with_fixnum a (λ x. with_fixnum b (go x))

abbrev pub with_char : Val → (ℕ → Row) → Row
with_char a go = or_fault (char_of a) NotChar go

abbrev pub with_chars : Val → Val → (ℕ → ℕ → Row) → Row
with_chars a b go = with_char a (λ c. with_char b (go c))

abbrev pub with_symbol : Val → (ℕ → Row) → Row
with_symbol a go = or_fault (symbol_of a) NotSymbol go

-- a string's bytes
abbrev pub with_string : Val → Store → (List ℕ → Row) → Row
with_string a s go = or_fault (option_and_then (text_of s) (string_of a)) NotString go

-- a pair's place, and its parts
abbrev pub with_pair : Val → Store → (ℕ → Val × Val → Row) → Row
with_pair a s go = or_fault (pair_of a) NotPair (λ k. or_fault (slice_get s.pairs k) NotPair (go k))

-- a vector's place, and its elements
abbrev pub with_vector : Val → Store → (ℕ → List Val → Row) → Row
with_vector a s go = or_fault (vector_of a) NotVector (λ k. or_fault (slice_get s.vectors k) NotVector (go k))

-- ---- a number in a range

abbrev pub natural_of : ℤ → Option ℕ
natural_of (pos n) = Some n
natural_of (negsuc n) = None

-- a number that isn't negative
abbrev pub with_size : ℤ → (ℕ → Row) → Row
with_size x go = or_fault (natural_of x) IndexRange go

-- a place in a list, and what stands there
abbrev pub with_element : {X : Type 0} → List X → ℤ → (ℕ → X → Row) → Row
with_element items x go = with_size x (λ i. or_fault (slice_get items i) IndexRange (go i))

abbrev pub ascii_of : ℤ → Option ℕ
ascii_of (pos n) = if nat_lt n 128 then Some n else None
ascii_of (negsuc n) = None

-- the code of a character, 0 to 127
abbrev pub with_ascii : ℤ → (ℕ → Row) → Row
with_ascii x go = or_fault (ascii_of x) CharRange go

abbrev pub unless_zero : ℤ → Row → Row
unless_zero divisor result = if int_eq divisor (pos 0) then Faults DivideByZero else result

-- ---- results

-- from -2^29 to 2^29 - 1
abbrev pub in_range : ℤ → Bool
in_range (pos n) = nat_lt n 536870912
in_range (negsuc n) = nat_lt n 536870912

abbrev pub number : ℤ → Row
number x = if in_range x then Gives (FixV x) else Faults FixnumOverflow

abbrev pub truth_of : Bool → Val
truth_of b = if b then TrueV else NilV

abbrev pub truth : Bool → Row
truth b = Gives (truth_of b)
