-- A row gives and keeps values that are there, and no row faults with Unbound.
use Rattle.std.specs.List.{AllByRecursion}
use Rattle.std.proofs.Common.{◌≡◌, ℕ, zero, suc, ℤ, pos, ◌+ℤ◌, ◌-ℤ◌, ◌*ℤ◌, int_div, int_rem, List, [], ◌∷◌, Option, Some, None, option_and_then, Bool, true, false, if◌then◌else◌, slice_get, slice_set, replicate, refl}
use Rattle.std.specs.Ordering.{int_eq}
use Rattle.t_base.specs.declared.faults.Fault.{Fault}
use Rattle.t_base.specs.declared.faults.Fault.TheVariants.{NotFixnum, NotPair, NotVector, IndexRange, FixnumOverflow, DivideByZero, NotChar, NotString, CharRange, NotSymbol}
use Rattle.t_base.specs.declared.builtins.Builtin.{Builtin}
use Rattle.t_base.specs.declared.builtins.Builtin.TheVariants.{Add, Sub, Mul, Quotient, Remainder, Inc, Dec, NumEq, NumLt, NumGt, NumLe, NumGe, IsZero, IsNegative, IsPositive, Eq, Not, IsNull, IsPair, IsAtom, IsList, IsFixnum, IsChar, IsString, IsSymbol, IsVector, IsProcedure, Cons, Car, Cdr, SetCar, SetCdr, MakeVector, VectorLength, Vref, SetVref, StringLength, StringElt, SymbolToString, CharToAscii, AsciiToChar, CharEq, CharLt, PutFixnum, PutChar, PutString, Newline, Error}
use Rattle.t_prim.specs.Values.{Val, FixV, Store, text_of}
use Rattle.t_prim.specs.Kinds.{fixnum_of, char_of, symbol_of, string_of, pair_of, vector_of}
use Rattle.t_prim.specs.Operands.{Row, Gives, Faults, or_fault, natural_of, ascii_of, in_range, number, truth, unless_zero}
use Rattle.t_prim.specs.Table.{Line, with_none, with_one, with_two, with_three, table, at_operands, row}
use Rattle.made_values.specs.Made.{Made, IsMade, AreMade, IsMadePair, IsMadeStore, is_unbound, IsMadeRow, RowsKeepMade}
use Rattle.made_values.proofs.Lists.{each_append, each_set, each_same}

-- ---- rows

module _ (w : Made) where
  either : {X : Type 0} (o : Option X) (fault : Fault) (go : X → Row) → is_unbound fault ≡ false → ((x : X) → IsMadeRow w (go x)) → IsMadeRow w (or_fault o fault go)
  either None fault go e h = e
  either (Some x) fault go e h = h x

  at : {X : Type 0} (P : X → Type 0) (xs : List X) (k : ℕ) (fault : Fault) (go : X → Row) → is_unbound fault ≡ false → AllByRecursion P xs → ((x : X) → P x → IsMadeRow w (go x)) → IsMadeRow w (or_fault (slice_get xs k) fault go)
  at P [] k fault go e h f = e
  at P (x ∷ xs) zero fault go e h f = f x h.0
  at P (x ∷ xs) (suc k) fault go e h f = at P xs k fault go e h.1 f

  fixnum : (a : Val) (go : ℤ → Row) → ((x : ℤ) → IsMadeRow w (go x)) → IsMadeRow w (or_fault (fixnum_of a) NotFixnum go)
  fixnum a go h = either (fixnum_of a) NotFixnum go refl h

  char : (a : Val) (go : ℕ → Row) → ((x : ℕ) → IsMadeRow w (go x)) → IsMadeRow w (or_fault (char_of a) NotChar go)
  char a go h = either (char_of a) NotChar go refl h

  a_number : (x : ℤ) → IsMadeRow w (number x)
  a_number x = by_test (in_range x)
    where
      by_test : (b : Bool) → IsMadeRow w (if b then Gives (FixV x) else Faults FixnumOverflow)
      by_test true = tt
      by_test false = refl

  a_truth : (b : Bool) → IsMadeRow w (truth b)
  a_truth true = tt
  a_truth false = tt

  divided : (x : ℤ) (r : Row) → IsMadeRow w r → IsMadeRow w (unless_zero x r)
  divided x r h = by_test (int_eq x (pos 0))
    where
      by_test : (b : Bool) → IsMadeRow w (if b then Faults DivideByZero else r)
      by_test true = refl
      by_test false = h

  abbrev IsMadeLine : Line → Type 0
  IsMadeLine (with_none go) = (s : Store) → IsMadeStore w s → IsMadeRow w (go s)
  IsMadeLine (with_one go) = (a : Val) (s : Store) → IsMadeStore w s → IsMade w a → IsMadeRow w (go a s)
  IsMadeLine (with_two go) = (a b : Val) (s : Store) → IsMadeStore w s → IsMade w a → IsMade w b → IsMadeRow w (go a b s)
  IsMadeLine (with_three go) = (a b c : Val) (s : Store) → IsMadeStore w s → IsMade w a → IsMade w b → IsMade w c → IsMadeRow w (go a b c s)

  two_numbers : (a b : Val) (go : ℤ → ℤ → Row) → ((x y : ℤ) → IsMadeRow w (go x y)) → IsMadeRow w (or_fault (fixnum_of a) NotFixnum (λ x. or_fault (fixnum_of b) NotFixnum (go x)))
  two_numbers a b go h = fixnum a _ (λ x. fixnum b (go x) (h x))

  two_chars : (a b : Val) (go : ℕ → ℕ → Row) → ((x y : ℕ) → IsMadeRow w (go x y)) → IsMadeRow w (or_fault (char_of a) NotChar (λ x. or_fault (char_of b) NotChar (go x)))
  two_chars a b go h = char a _ (λ x. char b (go x) (h x))

  a_pair : (a : Val) (s : Store) (go : ℕ → Val × Val → Row) → IsMadeStore w s → ((k : ℕ) (p : Val × Val) → IsMadePair w p → IsMadeRow w (go k p)) → IsMadeRow w (or_fault (pair_of a) NotPair (λ k. or_fault (slice_get s.pairs k) NotPair (go k)))
  a_pair a s go f h = either (pair_of a) NotPair _ refl (λ k. at (IsMadePair w) s.pairs k NotPair (go k) refl f.pairs (h k))

  a_vector : (a : Val) (s : Store) (go : ℕ → List Val → Row) → IsMadeStore w s → ((k : ℕ) (items : List Val) → AreMade w items → IsMadeRow w (go k items))
      → IsMadeRow w (or_fault (vector_of a) NotVector (λ k. or_fault (slice_get s.vectors k) NotVector (go k)))
  a_vector a s go f h = either (vector_of a) NotVector _ refl (λ k. at (AreMade w) s.vectors k NotVector (go k) refl f.vectors (h k))

  line_kept : (p : Builtin) → IsMadeLine (table p)
  line_kept Add = λ a b s f v r. two_numbers a b _ (λ x y. a_number (x +ℤ y))
  line_kept Sub = λ a b s f v r. two_numbers a b _ (λ x y. a_number (x -ℤ y))
  line_kept Mul = λ a b s f v r. two_numbers a b _ (λ x y. a_number (x *ℤ y))
  line_kept Quotient = λ a b s f v r. two_numbers a b _ (λ x y. divided y (number (int_div x y)) (a_number (int_div x y)))
  line_kept Remainder = λ a b s f v r. two_numbers a b _ (λ x y. divided y (number (int_rem x y)) (a_number (int_rem x y)))
  line_kept Inc = λ a s f v. fixnum a _ (λ x. a_number (x +ℤ pos 1))
  line_kept Dec = λ a s f v. fixnum a _ (λ x. a_number (x -ℤ pos 1))
  line_kept NumEq = λ a b s f v r. two_numbers a b _ (λ x y. a_truth _)
  line_kept NumLt = λ a b s f v r. two_numbers a b _ (λ x y. a_truth _)
  line_kept NumGt = λ a b s f v r. two_numbers a b _ (λ x y. a_truth _)
  line_kept NumLe = λ a b s f v r. two_numbers a b _ (λ x y. a_truth _)
  line_kept NumGe = λ a b s f v r. two_numbers a b _ (λ x y. a_truth _)
  line_kept IsZero = λ a s f v. fixnum a _ (λ x. a_truth _)
  line_kept IsNegative = λ a s f v. fixnum a _ (λ x. a_truth _)
  line_kept IsPositive = λ a s f v. fixnum a _ (λ x. a_truth _)
  line_kept Eq = λ a b s f v r. a_truth _
  line_kept Not = λ a s f v. a_truth _
  line_kept IsNull = λ a s f v. a_truth _
  line_kept IsPair = λ a s f v. a_truth _
  line_kept IsAtom = λ a s f v. a_truth _
  line_kept IsList = λ a s f v. a_truth _
  line_kept IsFixnum = λ a s f v. a_truth _
  line_kept IsChar = λ a s f v. a_truth _
  line_kept IsString = λ a s f v. a_truth _
  line_kept IsSymbol = λ a s f v. a_truth _
  line_kept IsVector = λ a s f v. a_truth _
  line_kept IsProcedure = λ a s f v. a_truth _
  line_kept Cons = λ a b s f v r. (record { pairs = each_append (IsMadePair w) s.pairs ((a, b) ∷ []) f.pairs ((v, r), tt); vectors = f.vectors }, tt)
  line_kept Car = λ a s f v. a_pair a s _ f (λ k p h. h.0)
  line_kept Cdr = λ a s f v. a_pair a s _ f (λ k p h. h.1)
  line_kept SetCar = λ a b s f v r. a_pair a s _ f (λ k p h. (record { pairs = each_set (IsMadePair w) s.pairs k (b, p.1) f.pairs (r, h.1); vectors = f.vectors }, r))
  line_kept SetCdr = λ a b s f v r. a_pair a s _ f (λ k p h. (record { pairs = each_set (IsMadePair w) s.pairs k (p.0, b) f.pairs (h.0, r); vectors = f.vectors }, r))
  line_kept MakeVector = λ a s f v. fixnum a _ (λ x. either (natural_of x) IndexRange _ refl
      (λ n. (record { pairs = f.pairs; vectors = each_append (AreMade w) s.vectors (replicate n (FixV (pos 0)) ∷ []) f.vectors (each_same (IsMade w) n (FixV (pos 0)) tt, tt) }, tt)))
  line_kept VectorLength = λ a s f v. a_vector a s _ f (λ k items h. tt)
  line_kept Vref = λ a b s f v r. a_vector a s _ f (λ k items h. fixnum b _ (λ x. either (natural_of x) IndexRange _ refl (λ i. at (IsMade w) items i IndexRange _ refl h (λ old g. g))))
  line_kept SetVref = λ a b c s f v r t. a_vector a s _ f (λ k items h. fixnum b _ (λ x. either (natural_of x) IndexRange _ refl
      (λ i. either (slice_get items i) IndexRange _ refl (λ old. (record { pairs = f.pairs; vectors = each_set (AreMade w) s.vectors k (slice_set items i c) f.vectors (each_set (IsMade w) items i c h t) }, t)))))
  line_kept StringLength = λ a s f v. either (option_and_then (text_of s) (string_of a)) NotString _ refl (λ bytes. tt)
  line_kept StringElt = λ a b s f v r. either (option_and_then (text_of s) (string_of a)) NotString _ refl (λ bytes. fixnum b _ (λ x. either (natural_of x) IndexRange _ refl (λ i. either (slice_get bytes i) IndexRange _ refl (λ byte. tt))))
  line_kept SymbolToString = λ a s f v. either (symbol_of a) NotSymbol _ refl (λ n. tt)
  line_kept CharToAscii = λ a s f v. char a _ (λ c. tt)
  line_kept AsciiToChar = λ a s f v. fixnum a _ (λ x. either (ascii_of x) CharRange _ refl (λ c. tt))
  line_kept CharEq = λ a b s f v r. two_chars a b _ (λ c d. a_truth _)
  line_kept CharLt = λ a b s f v r. two_chars a b _ (λ c d. a_truth _)
  line_kept PutFixnum = λ a s f v. fixnum a _ (λ x. (record { pairs = f.pairs; vectors = f.vectors }, tt))
  line_kept PutChar = λ a s f v. char a _ (λ c. (record { pairs = f.pairs; vectors = f.vectors }, tt))
  line_kept PutString = λ a s f v. either (option_and_then (text_of s) (string_of a)) NotString _ refl (λ bytes. (record { pairs = f.pairs; vectors = f.vectors }, tt))
  line_kept Newline = λ s f. (record { pairs = f.pairs; vectors = f.vectors }, tt)
  line_kept Error = λ a s f v. fixnum a _ (λ x. refl)

  operands_kept : (l : Line) (args : List Val) (s : Store) → IsMadeLine l → IsMadeStore w s → AreMade w args → IsMadeRow w (at_operands l args s)
  operands_kept (with_none go) [] s h f v = h s f
  operands_kept (with_none go) (a ∷ rest) s h f v = refl
  operands_kept (with_one go) [] s h f v = refl
  operands_kept (with_one go) (a ∷ []) s h f v = h a s f v.0
  operands_kept (with_one go) (a ∷ b ∷ rest) s h f v = refl
  operands_kept (with_two go) [] s h f v = refl
  operands_kept (with_two go) (a ∷ []) s h f v = refl
  operands_kept (with_two go) (a ∷ b ∷ []) s h f v = h a b s f v.0 v.1.0
  operands_kept (with_two go) (a ∷ b ∷ c ∷ rest) s h f v = refl
  operands_kept (with_three go) [] s h f v = refl
  operands_kept (with_three go) (a ∷ []) s h f v = refl
  operands_kept (with_three go) (a ∷ b ∷ []) s h f v = refl
  operands_kept (with_three go) (a ∷ b ∷ c ∷ []) s h f v = h a b c s f v.0 v.1.0 v.1.1.0
  operands_kept (with_three go) (a ∷ b ∷ c ∷ d ∷ rest) s h f v = refl

  kept : (p : Builtin) (args : List Val) (s : Store) → IsMadeStore w s → AreMade w args → IsMadeRow w (row p args s)
  kept p args s f v = operands_kept (table p) args s (line_kept p) f v

pub row_kept : RowsKeepMade
row_kept w p args s f v = kept w p args s f v
