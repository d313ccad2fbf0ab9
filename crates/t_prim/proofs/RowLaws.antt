-- Laws of all rows: what they change only grows, and a wrong count of operands is a fault.
use Rattle.std.proofs.Common.{◌≡◌, ◌≢◌, ℕ, List, [], ◌∷◌, Option, Some, None, Bool, true, false, if◌then◌else◌, length, slice_get, replicate, option_and_then, ℤ, ◌+ℤ◌, ◌-ℤ◌, ◌*ℤ◌, int_div, int_rem, pos, refl, sym, arith, length-append, append-nil}
use Rattle.std.specs.Ordering.{int_eq}
use Rattle.std.proofs.lemmas.List.{length-set}
use Rattle.t_base.specs.declared.faults.Fault.{Fault}
use Rattle.t_base.specs.declared.faults.Fault.TheVariants.{WrongCount, FixnumOverflow, DivideByZero, NotFixnum, NotPair, NotVector, IndexRange, NotChar, NotString, CharRange, NotSymbol}
use Rattle.t_base.specs.declared.builtins.Builtin.{Builtin}
use Rattle.t_base.specs.declared.builtins.Builtin.TheVariants.{Add, Sub, Mul, Quotient, Remainder, Inc, Dec, NumEq, NumLt, NumGt, NumLe, NumGe, IsZero, IsNegative, IsPositive, Eq, Not, IsNull, IsPair, IsAtom, IsList, IsFixnum, IsChar, IsString, IsSymbol, IsVector, IsProcedure, Cons, Car, Cdr, SetCar, SetCdr, MakeVector, VectorLength, Vref, SetVref, StringLength, StringElt, SymbolToString, CharToAscii, AsciiToChar, CharEq, CharLt, PutFixnum, PutChar, PutString, Newline, Error}
use Rattle.t_prim.specs.Values.{Val, FixV, Store, Grows, with_new_pair, with_new_vector, with_pair_at, with_vector_at, with_output, text_of}
use Rattle.t_prim.specs.Kinds.{fixnum_of, char_of, symbol_of, string_of, pair_of, vector_of}
use Rattle.t_prim.specs.Operands.{Row, Gives, Changes, Faults, or_fault, with_fixnum, with_fixnums, with_char, with_chars, with_symbol, with_string, with_pair, with_vector, with_size, with_element, with_ascii, natural_of, ascii_of, number, in_range, unless_zero}
use Rattle.t_prim.specs.Table.{Line, with_none, with_one, with_two, with_three, table, count_of, at_operands, arity_of, row}

-- ---- changes of a store

pub store_same : (s : Store) → Grows s s
store_same s = record { names = refl; strings = refl; pairs = omega arith; vectors = omega arith; output = ([], sym (append-nil s.output)); heap = omega arith }

module _ (s : Store) where
  new_pair_grows : (a b : Val) → Grows s (with_new_pair s a b)
  new_pair_grows a b = record { names = refl; strings = refl; pairs = omega (arith, length-append s.pairs ((a, b) ∷ [])); vectors = omega arith; output = ([], sym (append-nil s.output)); heap = omega arith }

  new_vector_grows : (n : ℕ) (v : Val) → Grows s (with_new_vector s n v)
  new_vector_grows n v = record { names = refl; strings = refl; pairs = omega arith; vectors = omega (arith, length-append s.vectors (replicate n v ∷ [])); output = ([], sym (append-nil s.output)); heap = omega arith }

  pair_at_grows : (k : ℕ) (p : Val × Val) → Grows s (with_pair_at s k p)
  pair_at_grows k p = record { names = refl; strings = refl; pairs = omega (arith, length-set s.pairs k p); vectors = omega arith; output = ([], sym (append-nil s.output)); heap = omega arith }

  vector_at_grows : (k : ℕ) (items : List Val) → Grows s (with_vector_at s k items)
  vector_at_grows k items = record { names = refl; strings = refl; pairs = omega arith; vectors = omega (arith, length-set s.vectors k items); output = ([], sym (append-nil s.output)); heap = omega arith }

  output_grows : (bytes : List ℕ) → Grows s (with_output s bytes)
  output_grows bytes = record { names = refl; strings = refl; pairs = omega arith; vectors = omega arith; output = (bytes, refl); heap = omega arith }

-- ---- the combinators

-- the store that a row gives has what there was
abbrev pub RowGrows : Store → Row → Type 0
RowGrows s (Gives v) = Unit {0}
RowGrows s (Changes t v) = Grows s t
RowGrows s (Faults c) = Unit {0}

module _ (s : Store) where
  pub or_fault_grows : {X : Type 0} (o : Option X) (fault : Fault) (go : X → Row) → ((x : X) → RowGrows s (go x)) → RowGrows s (or_fault o fault go)
  or_fault_grows None fault go h = tt
  or_fault_grows (Some x) fault go h = h x

  pub fixnum_grows : (a : Val) (go : ℤ → Row) → ((x : ℤ) → RowGrows s (go x)) → RowGrows s (with_fixnum a go)
  fixnum_grows a go h = or_fault_grows (fixnum_of a) NotFixnum go h

  pub fixnums_grow : (a b : Val) (go : ℤ → ℤ → Row) → ((x y : ℤ) → RowGrows s (go x y)) → RowGrows s (with_fixnums a b go)
  fixnums_grow a b go h = fixnum_grows a (λ x. with_fixnum b (go x)) (λ x. fixnum_grows b (go x) (h x))

  pub char_grows : (a : Val) (go : ℕ → Row) → ((c : ℕ) → RowGrows s (go c)) → RowGrows s (with_char a go)
  char_grows a go h = or_fault_grows (char_of a) NotChar go h

  pub chars_grow : (a b : Val) (go : ℕ → ℕ → Row) → ((c d : ℕ) → RowGrows s (go c d)) → RowGrows s (with_chars a b go)
  chars_grow a b go h = char_grows a (λ c. with_char b (go c)) (λ c. char_grows b (go c) (h c))

  pub symbol_grows : (a : Val) (go : ℕ → Row) → ((n : ℕ) → RowGrows s (go n)) → RowGrows s (with_symbol a go)
  symbol_grows a go h = or_fault_grows (symbol_of a) NotSymbol go h

  pub string_grows : (a : Val) (go : List ℕ → Row) → ((bytes : List ℕ) → RowGrows s (go bytes)) → RowGrows s (with_string a s go)
  string_grows a go h = or_fault_grows (option_and_then (text_of s) (string_of a)) NotString go h

  pub pair_grows : (a : Val) (go : ℕ → Val × Val → Row) → ((k : ℕ) (p : Val × Val) → RowGrows s (go k p)) → RowGrows s (with_pair a s go)
  pair_grows a go h = or_fault_grows (pair_of a) NotPair _ (λ k. or_fault_grows (slice_get s.pairs k) NotPair (go k) (h k))

  pub vector_grows : (a : Val) (go : ℕ → List Val → Row) → ((k : ℕ) (items : List Val) → RowGrows s (go k items)) → RowGrows s (with_vector a s go)
  vector_grows a go h = or_fault_grows (vector_of a) NotVector _ (λ k. or_fault_grows (slice_get s.vectors k) NotVector (go k) (h k))

  pub size_grows : (x : ℤ) (go : ℕ → Row) → ((n : ℕ) → RowGrows s (go n)) → RowGrows s (with_size x go)
  size_grows x go h = or_fault_grows (natural_of x) IndexRange go h

  pub element_grows : {X : Type 0} (items : List X) (x : ℤ) (go : ℕ → X → Row) → ((i : ℕ) (y : X) → RowGrows s (go i y)) → RowGrows s (with_element items x go)
  element_grows items x go h = size_grows x _ (λ i. or_fault_grows (slice_get items i) IndexRange (go i) (h i))

  pub ascii_grows : (x : ℤ) (go : ℕ → Row) → ((c : ℕ) → RowGrows s (go c)) → RowGrows s (with_ascii x go)
  ascii_grows x go h = or_fault_grows (ascii_of x) CharRange go h

  if_grows : (b : Bool) (r q : Row) → RowGrows s r → RowGrows s q → RowGrows s (if b then r else q)
  if_grows true r q h g = h
  if_grows false r q h g = g

  pub number_grows : (x : ℤ) → RowGrows s (number x)
  number_grows x = if_grows (in_range x) (Gives (FixV x)) (Faults FixnumOverflow) tt tt

  pub unless_zero_grows : (y x : ℤ) → RowGrows s (unless_zero y (number x))
  unless_zero_grows y x = if_grows (int_eq y (pos 0)) (Faults DivideByZero) (number x) tt (number_grows x)

-- ---- the table

abbrev LineGrows : Line → Type 0
LineGrows (with_none go) = (s : Store) → RowGrows s (go s)
LineGrows (with_one go) = (a : Val) (s : Store) → RowGrows s (go a s)
LineGrows (with_two go) = (a b : Val) (s : Store) → RowGrows s (go a b s)
LineGrows (with_three go) = (a b c : Val) (s : Store) → RowGrows s (go a b c s)

line_grows : (p : Builtin) → LineGrows (table p)
line_grows Add = λ a b s. fixnums_grow s a b _ (λ x y. number_grows s (x +ℤ y))
line_grows Sub = λ a b s. fixnums_grow s a b _ (λ x y. number_grows s (x -ℤ y))
line_grows Mul = λ a b s. fixnums_grow s a b _ (λ x y. number_grows s (x *ℤ y))
line_grows Quotient = λ a b s. fixnums_grow s a b _ (λ x y. unless_zero_grows s y (int_div x y))
line_grows Remainder = λ a b s. fixnums_grow s a b _ (λ x y. unless_zero_grows s y (int_rem x y))
line_grows Inc = λ a s. fixnum_grows s a _ (λ x. number_grows s (x +ℤ pos 1))
line_grows Dec = λ a s. fixnum_grows s a _ (λ x. number_grows s (x -ℤ pos 1))
line_grows NumEq = λ a b s. fixnums_grow s a b _ (λ x y. tt)
line_grows NumLt = λ a b s. fixnums_grow s a b _ (λ x y. tt)
line_grows NumGt = λ a b s. fixnums_grow s a b _ (λ x y. tt)
line_grows NumLe = λ a b s. fixnums_grow s a b _ (λ x y. tt)
line_grows NumGe = λ a b s. fixnums_grow s a b _ (λ x y. tt)
line_grows IsZero = λ a s. fixnum_grows s a _ (λ x. tt)
line_grows IsNegative = λ a s. fixnum_grows s a _ (λ x. tt)
line_grows IsPositive = λ a s. fixnum_grows s a _ (λ x. tt)
line_grows Eq = λ a b s. tt
line_grows Not = λ a s. tt
line_grows IsNull = λ a s. tt
line_grows IsPair = λ a s. tt
line_grows IsAtom = λ a s. tt
line_grows IsList = λ a s. tt
line_grows IsFixnum = λ a s. tt
line_grows IsChar = λ a s. tt
line_grows IsString = λ a s. tt
line_grows IsSymbol = λ a s. tt
line_grows IsVector = λ a s. tt
line_grows IsProcedure = λ a s. tt
line_grows Cons = λ a b s. new_pair_grows s a b
line_grows Car = λ a s. pair_grows s a _ (λ k p. tt)
line_grows Cdr = λ a s. pair_grows s a _ (λ k p. tt)
line_grows SetCar = λ a v s. pair_grows s a _ (λ k p. pair_at_grows s k _)
line_grows SetCdr = λ a v s. pair_grows s a _ (λ k p. pair_at_grows s k _)
line_grows MakeVector = λ a s. fixnum_grows s a _ (λ x. size_grows s x _ (λ n. new_vector_grows s n _))
line_grows VectorLength = λ a s. vector_grows s a _ (λ k items. tt)
line_grows Vref = λ a b s. vector_grows s a _ (λ k items. fixnum_grows s b _ (λ x. element_grows s items x _ (λ i old. tt)))
line_grows SetVref = λ a b v s. vector_grows s a _ (λ k items. fixnum_grows s b _ (λ x. element_grows s items x _ (λ i old. vector_at_grows s k _)))
line_grows StringLength = λ a s. string_grows s a _ (λ bytes. tt)
line_grows StringElt = λ a b s. string_grows s a _ (λ bytes. fixnum_grows s b _ (λ x. element_grows s bytes x _ (λ i byte. tt)))
line_grows SymbolToString = λ a s. symbol_grows s a _ (λ n. tt)
line_grows CharToAscii = λ a s. char_grows s a _ (λ c. tt)
line_grows AsciiToChar = λ a s. fixnum_grows s a _ (λ x. ascii_grows s x _ (λ c. tt))
line_grows CharEq = λ a b s. chars_grow s a b _ (λ c d. tt)
line_grows CharLt = λ a b s. chars_grow s a b _ (λ c d. tt)
line_grows PutFixnum = λ a s. fixnum_grows s a _ (λ x. output_grows s _)
line_grows PutChar = λ a s. char_grows s a _ (λ c. output_grows s _)
line_grows PutString = λ a s. string_grows s a _ (λ bytes. output_grows s bytes)
line_grows Newline = λ s. output_grows s _
line_grows Error = λ a s. fixnum_grows s a _ (λ x. tt)

at_operands_grows : (l : Line) (args : List Val) (s : Store) → LineGrows l → RowGrows s (at_operands l args s)
at_operands_grows (with_none go) [] s h = h s
at_operands_grows (with_none go) (a ∷ rest) s h = tt
at_operands_grows (with_one go) [] s h = tt
at_operands_grows (with_one go) (a ∷ []) s h = h a s
at_operands_grows (with_one go) (a ∷ b ∷ rest) s h = tt
at_operands_grows (with_two go) [] s h = tt
at_operands_grows (with_two go) (a ∷ []) s h = tt
at_operands_grows (with_two go) (a ∷ b ∷ []) s h = h a b s
at_operands_grows (with_two go) (a ∷ b ∷ c ∷ rest) s h = tt
at_operands_grows (with_three go) [] s h = tt
at_operands_grows (with_three go) (a ∷ []) s h = tt
at_operands_grows (with_three go) (a ∷ b ∷ []) s h = tt
at_operands_grows (with_three go) (a ∷ b ∷ c ∷ []) s h = h a b c s
at_operands_grows (with_three go) (a ∷ b ∷ c ∷ d ∷ rest) s h = tt

-- each row only adds to the store
pub row_grows : (p : Builtin) (args : List Val) (s : Store) → RowGrows s (row p args s)
row_grows p args s = at_operands_grows (table p) args s (line_grows p)

wrong_count : (l : Line) (args : List Val) (s : Store) → length args ≢ count_of l → at_operands l args s ≡ Faults WrongCount
wrong_count (with_none go) [] s differs = absurd (differs refl)
wrong_count (with_none go) (a ∷ rest) s differs = refl
wrong_count (with_one go) [] s differs = refl
wrong_count (with_one go) (a ∷ []) s differs = absurd (differs refl)
wrong_count (with_one go) (a ∷ b ∷ rest) s differs = refl
wrong_count (with_two go) [] s differs = refl
wrong_count (with_two go) (a ∷ []) s differs = refl
wrong_count (with_two go) (a ∷ b ∷ []) s differs = absurd (differs refl)
wrong_count (with_two go) (a ∷ b ∷ c ∷ rest) s differs = refl
wrong_count (with_three go) [] s differs = refl
wrong_count (with_three go) (a ∷ []) s differs = refl
wrong_count (with_three go) (a ∷ b ∷ []) s differs = refl
wrong_count (with_three go) (a ∷ b ∷ c ∷ []) s differs = absurd (differs refl)
wrong_count (with_three go) (a ∷ b ∷ c ∷ d ∷ rest) s differs = refl

-- another count of operands than the arity
pub row_wrong_count : (p : Builtin) (args : List Val) (s : Store) → length args ≢ arity_of p → row p args s ≡ Faults WrongCount
row_wrong_count p args s differs = wrong_count (table p) args s differs
