-- A builtin gives the same at operands and in stores that are the same.
use Rattle.std.proofs.Common.{◌≡◌, ℕ, ℤ, pos, if◌then◌else◌, not, ◌||◌, is_some, Bool, true, false, List, [], ◌∷◌, ◌++◌, length, replicate, slice_get, slice_set, Option, Some, None, option_and_then, refl, ap, subst, ◌∙◌, arith}
use Rattle.std.specs.Prelude.{◌+ℤ◌, ◌-ℤ◌, ◌*ℤ◌, int_div, int_rem}
use Rattle.std.specs.Ordering.{int_eq}
use Rattle.t_base.specs.declared.builtins.Builtin.{Builtin}
use Rattle.t_base.specs.declared.builtins.Builtin.TheVariants.{Add, Sub, Mul, Quotient, Remainder, Inc, Dec, NumEq, NumLt, NumGt, NumLe, NumGe, IsZero, IsNegative, IsPositive, Eq, Not, IsNull, IsPair, IsAtom, IsList, IsFixnum, IsChar, IsString, IsSymbol, IsVector, IsProcedure, Cons, Car, Cdr, SetCar, SetCdr, MakeVector, VectorLength, Vref, SetVref, StringLength, StringElt, SymbolToString, CharToAscii, AsciiToChar, CharEq, CharLt, PutFixnum, PutChar, PutString, Newline, Error}
use Rattle.t_base.specs.declared.faults.Fault.{Fault}
use Rattle.t_base.specs.declared.faults.Fault.TheVariants.{NotFixnum, NotPair, NotVector, IndexRange, FixnumOverflow, DivideByZero, NotChar, NotString, CharRange, NotSymbol, WrongCount, User}
use Rattle.t_prim.specs.Values.{Literal, PrintName, Val, FixV, NilV, TrueV, VectorV, PairV, Store, text_of, with_new_pair, with_new_vector, with_pair_at, with_vector_at, with_output, shown_of, shown_symbol}
use Rattle.t_prim.specs.Kinds.{fixnum_of, char_of, symbol_of, string_of, pair_of, vector_of, is_nil, is_pair, is_procedure}
use Rattle.t_prim.specs.Identity.{is_same}
use Rattle.t_prim.specs.Operands.{Row, Gives, Faults, or_fault, natural_of, ascii_of, in_range, number, truth, unless_zero, with_fixnum, with_fixnums, with_char, with_symbol, with_string, with_pair, with_vector, with_size, with_element, with_ascii}
use Rattle.t_prim.specs.Table.{Line, with_none, with_one, with_two, with_three, table, at_operands, row}
use Rattle.layout_relation.specs.Links.{Zipped, zip_none, zip_one, SameOption, neither, both, Links, AreOneToOne, SameVal, fix, char, nil, truth as truth_val, symbol, string, pair, vector, closure, object, operation, builtin, escape, SamePair, SameList, SameStore, SameRow, gives, changes, faults}
use Rattle.layout_relation.proofs.Lists.{zip_get, zip_set, zip_join, zip_length, zip_many}

-- ---- kinds

module _ (m : Links) where
  abbrev SameV : Val → Val → Type 0
  SameV a b = SameVal m a b

  fixnum_same : (a b : Val) → SameV a b → fixnum_of a ≡ fixnum_of b
  fixnum_same a b (fix z) = refl
  fixnum_same a b _ = refl

  char_same : (a b : Val) → SameV a b → char_of a ≡ char_of b
  char_same a b (char c) = refl
  char_same a b _ = refl

  vector_same : (a b : Val) → SameV a b → vector_of a ≡ vector_of b
  vector_same a b (vector i) = refl
  vector_same a b _ = refl

  pub nil_same : (a b : Val) → SameV a b → is_nil a ≡ is_nil b
  nil_same a b nil = refl
  nil_same a b _ = refl

  procedure_same : (a b : Val) → SameV a b → is_procedure a ≡ is_procedure b
  procedure_same a b (fix z) = refl
  procedure_same a b _ = refl

  symbol_same : (a b : Val) → SameV a b → symbol_of a ≡ symbol_of b
  symbol_same a b (symbol n) = refl
  symbol_same a b _ = refl

  string_same : (a b : Val) → SameV a b → string_of a ≡ string_of b
  string_same a b (string t) = refl
  string_same a b _ = refl

  pair_same : (a b : Val) → SameV a b → pair_of a ≡ pair_of b
  pair_same a b (pair k) = refl
  pair_same a b _ = refl

-- ---- which values are one thing

module _ (m : Links) (one : AreOneToOne m) where
  one_same : (a b c d : Val) → SameVal m a b → SameVal m c d → is_same a c ≡ is_same b d
  one_same a b c d (closure i j g) (closure k l h) = one.closures i j k l g h
  one_same a b c d (object i lt) (object k le) = refl
  one_same a b c d (escape i j g) (escape k l h) = one.escapes i j k l g h
  one_same a b c d (symbol n) (symbol k) = refl
  one_same a b c d (string x) (string y) = refl
  one_same a b c d (pair i) (pair k) = refl
  one_same a b c d (fix z) (fix w) = refl
  one_same a b c d (char z) (char w) = refl
  one_same a b c d nil nil = refl
  one_same a b c d truth_val truth_val = refl
  one_same a b c d (vector i) (vector k) = refl
  one_same a b c d (operation i) (operation k) = refl
  one_same a b c d (builtin i) (builtin k) = refl
  one_same a b c d _ _ = refl

  -- ---- what a row gives

  equal : {X : Type 0} (o q : Option X) (fault : Fault) (f g : X → Row) → o ≡ q → ((x : X) → SameRow m (f x) (g x)) → SameRow m (or_fault o fault f) (or_fault q fault g)
  equal None q fault f g e k = subst (λ p. SameRow m (Faults fault) (or_fault p fault g)) e (faults fault)
  equal (Some x) q fault f g e k = subst (λ p. SameRow m (f x) (or_fault p fault g)) e (k x)

  either : {X Y : Type 0} (R : X → Y → Type 0) (o : Option X) (q : Option Y) (fault : Fault) (f : X → Row) (g : Y → Row) → SameOption R o q
      → ((x : X) (y : Y) → R x y → SameRow m (f x) (g y)) → SameRow m (or_fault o fault f) (or_fault q fault g)
  either R o q fault f g neither k = faults fault
  either R o q fault f g (both x y h) k = k x y h

  number_row : (x : ℤ) → SameRow m (number x) (number x)
  number_row x = by (in_range x)
    where
      by : (b : Bool) → SameRow m (if b then Gives (FixV x) else Faults FixnumOverflow) (if b then Gives (FixV x) else Faults FixnumOverflow)
      by true = gives (FixV x) (FixV x) (fix x)
      by false = faults FixnumOverflow

  truth_row : (b c : Bool) → b ≡ c → SameRow m (truth b) (truth c)
  truth_row true c e = subst (λ d. SameRow m (truth true) (truth d)) e (gives TrueV TrueV truth_val)
  truth_row false c e = subst (λ d. SameRow m (truth false) (truth d)) e (gives NilV NilV nil)

  unless_row : (x : ℤ) (r : Row) → SameRow m r r → SameRow m (unless_zero x r) (unless_zero x r)
  unless_row x r h = by (int_eq x (pos 0))
    where
      by : (b : Bool) → SameRow m (if b then Faults DivideByZero else r) (if b then Faults DivideByZero else r)
      by true = faults DivideByZero
      by false = h

  fixnum_row : (a b : Val) (go also : ℤ → Row) → SameVal m a b → ((x : ℤ) → SameRow m (go x) (also x)) → SameRow m (with_fixnum a go) (with_fixnum b also)
  fixnum_row a b go also h k = equal (fixnum_of a) (fixnum_of b) NotFixnum go also (fixnum_same m a b h) k

  fixnums_row : (a b c d : Val) (go : ℤ → ℤ → Row) → SameVal m a b → SameVal m c d → ((x y : ℤ) → SameRow m (go x y) (go x y)) → SameRow m (with_fixnums a c go) (with_fixnums b d go)
  fixnums_row a b c d go g h k = fixnum_row a b (λ x. with_fixnum c (go x)) (λ x. with_fixnum d (go x)) g (λ x. fixnum_row c d (go x) (go x) h (k x))

  char_row : (a b : Val) (go also : ℕ → Row) → SameVal m a b → ((x : ℕ) → SameRow m (go x) (also x)) → SameRow m (with_char a go) (with_char b also)
  char_row a b go also h k = equal (char_of a) (char_of b) NotChar go also (char_same m a b h) k

  symbol_row : (a b : Val) (go also : ℕ → Row) → SameVal m a b → ((x : ℕ) → SameRow m (go x) (also x)) → SameRow m (with_symbol a go) (with_symbol b also)
  symbol_row a b go also h k = equal (symbol_of a) (symbol_of b) NotSymbol go also (symbol_same m a b h) k

  size_row : (x : ℤ) (go also : ℕ → Row) → ((n : ℕ) → SameRow m (go n) (also n)) → SameRow m (with_size x go) (with_size x also)
  size_row x go also k = equal (natural_of x) (natural_of x) IndexRange go also refl k

  ascii_row : (x : ℤ) (go : ℕ → Row) → ((n : ℕ) → SameRow m (go n) (go n)) → SameRow m (with_ascii x go) (with_ascii x go)
  ascii_row x go k = equal (ascii_of x) (ascii_of x) CharRange go go refl k

  -- a string has the same bytes
  bytes_same : (a b : Val) (s t : Store) → SameVal m a b → SameStore m s t → option_and_then (text_of s) (string_of a) ≡ option_and_then (text_of t) (string_of b)
  bytes_same a b s t (string (Literal k)) st = ap (λ xs. slice_get xs k) st.strings
  bytes_same a b s t (string (PrintName n)) st = ap (λ xs. slice_get xs n) st.names
  bytes_same a b s t _ st = refl

  string_row : (a b : Val) (s t : Store) (go also : List ℕ → Row) → SameVal m a b → SameStore m s t → ((x : List ℕ) → SameRow m (go x) (also x))
      → SameRow m (with_string a s go) (with_string b t also)
  string_row a b s t go also h st k =
      equal (option_and_then (text_of s) (string_of a)) (option_and_then (text_of t) (string_of b)) NotString go also (bytes_same a b s t h st) k

  pair_row : (a b : Val) (s t : Store) (go also : ℕ → Val × Val → Row) → SameVal m a b → SameStore m s t
      → ((k : ℕ) (p q : Val × Val) → SamePair m p q → SameRow m (go k p) (also k q))
      → SameRow m (with_pair a s go) (with_pair b t also)
  pair_row a b s t go also h st f =
      equal (pair_of a) (pair_of b) NotPair (λ k. or_fault (slice_get s.pairs k) NotPair (go k)) (λ k. or_fault (slice_get t.pairs k) NotPair (also k)) (pair_same m a b h)
      (λ k. either (SamePair m) (slice_get s.pairs k) (slice_get t.pairs k) NotPair (go k) (also k) (zip_get (SamePair m) s.pairs t.pairs k st.pairs) (λ p q z. f k p q z))

  vector_row : (a b : Val) (s t : Store) (go also : ℕ → List Val → Row) → SameVal m a b → SameStore m s t
      → ((i : ℕ) (xs ys : List Val) → SameList m xs ys → SameRow m (go i xs) (also i ys)) → SameRow m (with_vector a s go) (with_vector b t also)
  vector_row a b s t go also h st f =
      equal (vector_of a) (vector_of b) NotVector (λ k. or_fault (slice_get s.vectors k) NotVector (go k)) (λ k. or_fault (slice_get t.vectors k) NotVector (also k)) (vector_same m a b h)
      (λ i. either (SameList m) (slice_get s.vectors i) (slice_get t.vectors i) NotVector (go i) (also i) (zip_get (SameList m) s.vectors t.vectors i st.vectors) (λ p q z. f i p q z))

  element_row : (xs ys : List Val) (x : ℤ) (go also : ℕ → Val → Row) → SameList m xs ys → ((i : ℕ) (a b : Val) → SameVal m a b → SameRow m (go i a) (also i b))
      → SameRow m (with_element xs x go) (with_element ys x also)
  element_row xs ys x go also h f =
      size_row x (λ i. or_fault (slice_get xs i) IndexRange (go i)) (λ i. or_fault (slice_get ys i) IndexRange (also i))
      (λ i. either (SameVal m) (slice_get xs i) (slice_get ys i) IndexRange (go i) (also i) (zip_get (SameVal m) xs ys i h) (λ a b r. f i a b r))

  -- ---- changes of the store

  output_same : (s t : Store) (bytes : List ℕ) → SameStore m s t → SameStore m (with_output s bytes) (with_output t bytes)
  output_same s t bytes st = record { names = st.names; strings = st.strings; pairs = st.pairs; vectors = st.vectors; output = ap (λ l. l ++ bytes) st.output; heap = st.heap }

  vector_at_same : (s t : Store) (i : ℕ) (xs ys : List Val) → SameList m xs ys → SameStore m s t → SameStore m (with_vector_at s i xs) (with_vector_at t i ys)
  vector_at_same s t i xs ys h st = record {
    names = st.names;
    strings = st.strings;
    pairs = st.pairs;
    vectors = zip_set (SameList m) s.vectors t.vectors i xs ys h st.vectors;
    output = st.output;
    heap = st.heap;
  }

  new_vector_same : (s t : Store) (n : ℕ) (a b : Val) → SameVal m a b → SameStore m s t → SameStore m (with_new_vector s n a) (with_new_vector t n b)
  new_vector_same s t n a b h st = record {
    names = st.names;
    strings = st.strings;
    pairs = st.pairs;
    vectors = zip_join (SameList m) s.vectors t.vectors (replicate n a ∷ []) (replicate n b ∷ []) st.vectors (zip_many (SameVal m) n a b h, tt);
    output = st.output;
    heap = let low = st.heap in omega (arith, low);
  }

  pair_at_same : (s t : Store) (k : ℕ) (p q : Val × Val) → SamePair m p q → SameStore m s t → SameStore m (with_pair_at s k p) (with_pair_at t k q)
  pair_at_same s t k p q h st = record {
    names = st.names;
    strings = st.strings;
    pairs = zip_set (SamePair m) s.pairs t.pairs k p q h st.pairs;
    vectors = st.vectors;
    output = st.output;
    heap = st.heap;
  }

  new_pair_same : (s t : Store) (a b c d : Val) → SameVal m a b → SameVal m c d → SameStore m s t → SameStore m (with_new_pair s a c) (with_new_pair t b d)
  new_pair_same s t a b c d g h st = record {
    names = st.names;
    strings = st.strings;
    pairs = zip_join (SamePair m) s.pairs t.pairs ((a, c) ∷ []) ((b, d) ∷ []) st.pairs (record { head = g; tail = h }, tt);
    vectors = st.vectors;
    output = st.output;
    heap = let low = st.heap in omega (arith, low);
  }

  -- ---- the table

  abbrev IsSameLine : Line → Type 0
  IsSameLine (with_none go) = (s t : Store) → SameStore m s t → SameRow m (go s) (go t)
  IsSameLine (with_one go) = (a b : Val) (s t : Store) → SameVal m a b → SameStore m s t → SameRow m (go a s) (go b t)
  IsSameLine (with_two go) = (a b c d : Val) (s t : Store) → SameVal m a b → SameVal m c d → SameStore m s t → SameRow m (go a c s) (go b d t)
  IsSameLine (with_three go) = (a b c d e f : Val) (s t : Store) → SameVal m a b → SameVal m c d → SameVal m e f → SameStore m s t → SameRow m (go a c e s) (go b d f t)

  line_same : (p : Builtin) → IsSameLine (table p)
  line_same Add = λ a b c d s t g h st. fixnums_row a b c d _ g h (λ x y. number_row (x +ℤ y))
  line_same Sub = λ a b c d s t g h st. fixnums_row a b c d _ g h (λ x y. number_row (x -ℤ y))
  line_same Mul = λ a b c d s t g h st. fixnums_row a b c d _ g h (λ x y. number_row (x *ℤ y))
  line_same Quotient = λ a b c d s t g h st. fixnums_row a b c d _ g h (λ x y. unless_row y _ (number_row (int_div x y)))
  line_same Remainder = λ a b c d s t g h st. fixnums_row a b c d _ g h (λ x y. unless_row y _ (number_row (int_rem x y)))
  line_same Inc = λ a b s t h st. fixnum_row a b _ _ h (λ x. number_row (x +ℤ pos 1))
  line_same Dec = λ a b s t h st. fixnum_row a b _ _ h (λ x. number_row (x -ℤ pos 1))
  line_same NumEq = λ a b c d s t g h st. fixnums_row a b c d _ g h (λ x y. truth_row _ _ refl)
  line_same NumLt = λ a b c d s t g h st. fixnums_row a b c d _ g h (λ x y. truth_row _ _ refl)
  line_same NumGt = λ a b c d s t g h st. fixnums_row a b c d _ g h (λ x y. truth_row _ _ refl)
  line_same NumLe = λ a b c d s t g h st. fixnums_row a b c d _ g h (λ x y. truth_row _ _ refl)
  line_same NumGe = λ a b c d s t g h st. fixnums_row a b c d _ g h (λ x y. truth_row _ _ refl)
  line_same IsZero = λ a b s t h st. fixnum_row a b _ _ h (λ x. truth_row _ _ refl)
  line_same IsNegative = λ a b s t h st. fixnum_row a b _ _ h (λ x. truth_row _ _ refl)
  line_same IsPositive = λ a b s t h st. fixnum_row a b _ _ h (λ x. truth_row _ _ refl)
  line_same Eq = λ a b c d s t g h st. truth_row _ _ (one_same a b c d g h)
  line_same Not = λ a b s t h st. truth_row _ _ (nil_same m a b h)
  line_same IsNull = λ a b s t h st. truth_row _ _ (nil_same m a b h)
  line_same IsPair = λ a b s t h st. truth_row _ _ (ap is_some (pair_same m a b h))
  line_same IsAtom = λ a b s t h st. truth_row _ _ (ap (λ o. not (is_some o)) (pair_same m a b h))
  line_same IsList = λ a b s t h st. truth_row _ _ (ap (λ o. is_some o || is_nil a) (pair_same m a b h) ∙ ap (λ x. is_pair b || x) (nil_same m a b h))
  line_same IsFixnum = λ a b s t h st. truth_row _ _ (ap is_some (fixnum_same m a b h))
  line_same IsChar = λ a b s t h st. truth_row _ _ (ap is_some (char_same m a b h))
  line_same IsString = λ a b s t h st. truth_row _ _ (ap is_some (string_same m a b h))
  line_same IsSymbol = λ a b s t h st. truth_row _ _ (ap is_some (symbol_same m a b h))
  line_same IsVector = λ a b s t h st. truth_row _ _ (ap is_some (vector_same m a b h))
  line_same IsProcedure = λ a b s t h st. truth_row _ _ (procedure_same m a b h)
  line_same Cons = λ a b c d s t g h st. changes (with_new_pair s a c) (with_new_pair t b d) _ _ (new_pair_same s t a b c d g h st)
      (subst (λ i. SameVal m (PairV (length s.pairs)) (PairV i)) (zip_length (SamePair m) s.pairs t.pairs st.pairs) (pair (length s.pairs)))
  line_same Car = λ a b s t h st. pair_row a b s t _ _ h st (λ k p q z. gives p.0 q.0 z.head)
  line_same Cdr = λ a b s t h st. pair_row a b s t _ _ h st (λ k p q z. gives p.1 q.1 z.tail)
  line_same SetCar = λ a b c d s t g h st. pair_row a b s t _ _ g st
      (λ k p q z. changes _ _ c d (pair_at_same s t k (c, p.1) (d, q.1) (record { head = h; tail = z.tail }) st) h)
  line_same SetCdr = λ a b c d s t g h st. pair_row a b s t _ _ g st
      (λ k p q z. changes _ _ c d (pair_at_same s t k (p.0, c) (q.0, d) (record { head = z.head; tail = h }) st) h)
  line_same MakeVector = λ a b s t h st. fixnum_row a b _ _ h
      (λ x. size_row x _ _ (λ n. changes _ _ _ _ (new_vector_same s t n (FixV (pos 0)) (FixV (pos 0)) (fix (pos 0)) st)
      (subst (λ i. SameVal m (VectorV (length s.vectors)) (VectorV i)) (zip_length (SameList m) s.vectors t.vectors st.vectors) (vector (length s.vectors)))))
  line_same VectorLength = λ a b s t h st. vector_row a b s t _ _ h st
      (λ i xs ys z. gives _ _ (subst (λ n. SameVal m (FixV (pos (length xs))) (FixV (pos n))) (zip_length (SameVal m) xs ys z) (fix (pos (length xs)))))
  line_same Vref = λ a b c d s t g h st. vector_row a b s t _ _ g st (λ i xs ys z. fixnum_row c d _ _ h (λ x. element_row xs ys x _ _ z (λ l y w r. gives y w r)))
  line_same SetVref = λ a b c d e f s t g h k st. vector_row a b s t _ _ g st
      (λ i xs ys z. fixnum_row c d _ _ h (λ x. element_row xs ys x _ _ z
      (λ l y w r. changes _ _ e f (vector_at_same s t i (slice_set xs l e) (slice_set ys l f) (zip_set (SameVal m) xs ys l e f k z) st) k)))
  line_same StringLength = λ a b s t h st. string_row a b s t _ _ h st (λ bytes. gives _ _ (fix (pos (length bytes))))
  line_same StringElt = λ a b c d s t g h st. string_row a b s t _ _ g st
      (λ bytes. fixnum_row c d _ _ h (λ x. size_row x _ _ (λ n. equal (slice_get bytes n) (slice_get bytes n) IndexRange _ _ refl (λ byte. gives _ _ (char byte)))))
  line_same SymbolToString = λ a b s t h st. symbol_row a b _ _ h (λ n. gives _ _ (string (PrintName n)))
  line_same CharToAscii = λ a b s t h st. char_row a b _ _ h (λ c. gives _ _ (fix (pos c)))
  line_same AsciiToChar = λ a b s t h st. fixnum_row a b _ _ h (λ x. ascii_row x _ (λ c. gives _ _ (char c)))
  line_same CharEq = λ a b c d s t g h st. char_row a b _ _ g (λ x. char_row c d _ _ h (λ y. truth_row _ _ refl))
  line_same CharLt = λ a b c d s t g h st. char_row a b _ _ g (λ x. char_row c d _ _ h (λ y. truth_row _ _ refl))
  line_same PutFixnum = λ a b s t h st. fixnum_row a b _ _ h (λ x. changes _ _ _ _ (output_same s t _ st) nil)
  line_same PutChar = λ a b s t h st. char_row a b _ _ h (λ c. changes _ _ _ _ (output_same s t _ st) nil)
  line_same PutString = λ a b s t h st. string_row a b s t _ _ h st (λ bytes. changes _ _ _ _ (output_same s t bytes st) nil)
  line_same Newline = λ s t st. changes _ _ _ _ (output_same s t (10 ∷ []) st) nil
  line_same Error = λ a b s t h st. fixnum_row a b _ _ h (λ x. faults (User x))

  operands_same : (l : Line) (xs ys : List Val) (s t : Store) → IsSameLine l → Zipped (SameVal m) xs ys → SameStore m s t → SameRow m (at_operands l xs s) (at_operands l ys t)
  operands_same (with_none go) xs ys s t l zip_none st = l s t st
  operands_same (with_one go) xs ys s t l (zip_one a b rs qs h zip_none) st = l a b s t h st
  operands_same (with_two go) xs ys s t l (zip_one a b rs qs h (zip_one c d ts us g zip_none)) st = l a b c d s t h g st
  operands_same (with_three go) xs ys s t l (zip_one a b rs qs h (zip_one c d ts us g (zip_one e f vs ws k zip_none))) st = l a b c d e f s t h g k st
  operands_same _ xs ys s t l _ st = faults WrongCount

  pub row_same : (p : Builtin) (xs ys : List Val) (s t : Store) → Zipped (SameVal m) xs ys → SameStore m s t → SameRow m (row p xs s) (row p ys t)
  row_same p xs ys s t h st = operands_same (table p) xs ys s t (line_same p) h st

-- values that are the same are shown the same
pub shown_same : (m : Links) (a b : Val) (s t : Store) → SameVal m a b → SameStore m s t → shown_of s a ≡ shown_of t b
shown_same m a b s t (symbol n) st = ap (λ names. shown_symbol (slice_get names n)) st.names
shown_same m a b s t (fix z) st = refl
shown_same m a b s t (char c) st = refl
shown_same m a b s t nil st = refl
shown_same m a b s t truth_val st = refl
shown_same m a b s t _ st = refl
