-- Kinds of values by their tags and headers.
use Rattle.std.proofs.Common.{◌≡◌, ℕ, ◌%◌, ◌==◌, false, Some, None, refl, sym, ap, arith, ℤ}
use Rattle.t_prim.specs.Values.{Text, Val, FixV, CharV, NilV, TrueV, SymbolV, StringV, PairV, VectorV, ClosureV, ObjectV, OperationV, BuiltinV, EscapeV}
use Rattle.t_prim.specs.Kinds.{fixnum_of, char_of, symbol_of, string_of, pair_of, vector_of}
use Rattle.frame_ir.specs.States.{State}
use Rattle.frame_words.specs.Layouts.{Layout}
use Rattle.frame_words.specs.ValueWords.{word_for, tag_of, header_of}
use Rattle.frame_words.proofs.Values.{tag_is}

pub fixnum_some : (v : Val) (y : ℤ) → fixnum_of v ≡ Some y → v ≡ FixV y
fixnum_some (FixV x) y e = ap FixV (cc)
fixnum_some (CharV c) y e = absurd (cc)
fixnum_some NilV y e = absurd (cc)
fixnum_some TrueV y e = absurd (cc)
fixnum_some (SymbolV k) y e = absurd (cc)
fixnum_some (StringV t) y e = absurd (cc)
fixnum_some (PairV k) y e = absurd (cc)
fixnum_some (VectorV k) y e = absurd (cc)
fixnum_some (ClosureV i) y e = absurd (cc)
fixnum_some (ObjectV i) y e = absurd (cc)
fixnum_some (OperationV o) y e = absurd (cc)
fixnum_some (BuiltinV p) y e = absurd (cc)
fixnum_some (EscapeV b) y e = absurd (cc)

pub char_some : (v : Val) (y : ℕ) → char_of v ≡ Some y → v ≡ CharV y
char_some (FixV x) y e = absurd (cc)
char_some (CharV c) y e = ap CharV (cc)
char_some NilV y e = absurd (cc)
char_some TrueV y e = absurd (cc)
char_some (SymbolV k) y e = absurd (cc)
char_some (StringV t) y e = absurd (cc)
char_some (PairV k) y e = absurd (cc)
char_some (VectorV k) y e = absurd (cc)
char_some (ClosureV i) y e = absurd (cc)
char_some (ObjectV i) y e = absurd (cc)
char_some (OperationV o) y e = absurd (cc)
char_some (BuiltinV p) y e = absurd (cc)
char_some (EscapeV b) y e = absurd (cc)

pub symbol_some : (v : Val) (y : ℕ) → symbol_of v ≡ Some y → v ≡ SymbolV y
symbol_some (FixV x) y e = absurd (cc)
symbol_some (CharV c) y e = absurd (cc)
symbol_some NilV y e = absurd (cc)
symbol_some TrueV y e = absurd (cc)
symbol_some (SymbolV k) y e = ap SymbolV (cc)
symbol_some (StringV t) y e = absurd (cc)
symbol_some (PairV k) y e = absurd (cc)
symbol_some (VectorV k) y e = absurd (cc)
symbol_some (ClosureV i) y e = absurd (cc)
symbol_some (ObjectV i) y e = absurd (cc)
symbol_some (OperationV o) y e = absurd (cc)
symbol_some (BuiltinV p) y e = absurd (cc)
symbol_some (EscapeV b) y e = absurd (cc)

pub string_some : (v : Val) (y : Text) → string_of v ≡ Some y → v ≡ StringV y
string_some (FixV x) y e = absurd (cc)
string_some (CharV c) y e = absurd (cc)
string_some NilV y e = absurd (cc)
string_some TrueV y e = absurd (cc)
string_some (SymbolV k) y e = absurd (cc)
string_some (StringV t) y e = ap StringV (cc)
string_some (PairV k) y e = absurd (cc)
string_some (VectorV k) y e = absurd (cc)
string_some (ClosureV i) y e = absurd (cc)
string_some (ObjectV i) y e = absurd (cc)
string_some (OperationV o) y e = absurd (cc)
string_some (BuiltinV p) y e = absurd (cc)
string_some (EscapeV b) y e = absurd (cc)

pub pair_some : (v : Val) (y : ℕ) → pair_of v ≡ Some y → v ≡ PairV y
pair_some (FixV x) y e = absurd (cc)
pair_some (CharV c) y e = absurd (cc)
pair_some NilV y e = absurd (cc)
pair_some TrueV y e = absurd (cc)
pair_some (SymbolV k) y e = absurd (cc)
pair_some (StringV t) y e = absurd (cc)
pair_some (PairV k) y e = ap PairV (cc)
pair_some (VectorV k) y e = absurd (cc)
pair_some (ClosureV i) y e = absurd (cc)
pair_some (ObjectV i) y e = absurd (cc)
pair_some (OperationV o) y e = absurd (cc)
pair_some (BuiltinV p) y e = absurd (cc)
pair_some (EscapeV b) y e = absurd (cc)

pub vector_some : (v : Val) (y : ℕ) → vector_of v ≡ Some y → v ≡ VectorV y
vector_some (FixV x) y e = absurd (cc)
vector_some (CharV c) y e = absurd (cc)
vector_some NilV y e = absurd (cc)
vector_some TrueV y e = absurd (cc)
vector_some (SymbolV k) y e = absurd (cc)
vector_some (StringV t) y e = absurd (cc)
vector_some (PairV k) y e = absurd (cc)
vector_some (VectorV k) y e = ap VectorV (cc)
vector_some (ClosureV i) y e = absurd (cc)
vector_some (ObjectV i) y e = absurd (cc)
vector_some (OperationV o) y e = absurd (cc)
vector_some (BuiltinV p) y e = absurd (cc)
vector_some (EscapeV b) y e = absurd (cc)

pub fixnum_none : (v : Val) → fixnum_of v ≡ None → (tag_of v == 0) ≡ false
fixnum_none (FixV x) e = absurd (cc)
fixnum_none (CharV c) e = refl
fixnum_none NilV e = refl
fixnum_none TrueV e = refl
fixnum_none (SymbolV k) e = refl
fixnum_none (StringV t) e = refl
fixnum_none (PairV k) e = refl
fixnum_none (VectorV k) e = refl
fixnum_none (ClosureV i) e = refl
fixnum_none (ObjectV i) e = refl
fixnum_none (OperationV o) e = refl
fixnum_none (BuiltinV p) e = refl
fixnum_none (EscapeV b) e = refl

pub pair_none : (v : Val) → pair_of v ≡ None → (tag_of v == 3) ≡ false
pair_none (FixV x) e = refl
pair_none (CharV c) e = refl
pair_none NilV e = refl
pair_none TrueV e = refl
pair_none (SymbolV k) e = refl
pair_none (StringV t) e = refl
pair_none (PairV k) e = absurd (cc)
pair_none (VectorV k) e = refl
pair_none (ClosureV i) e = refl
pair_none (ObjectV i) e = refl
pair_none (OperationV o) e = refl
pair_none (BuiltinV p) e = refl
pair_none (EscapeV b) e = refl

-- what has the tag of objects has a header
pub record HasHeader (v : Val) : Type 0 where
  pub header : ℕ
  pub is : header_of v ≡ Some header

pub has_header : (v : Val) → tag_of v ≡ 2 → HasHeader v
has_header (FixV x) e = absurd (omega (arith, e))
has_header (CharV c) e = absurd (omega (arith, e))
has_header NilV e = absurd (omega (arith, e))
has_header TrueV e = absurd (omega (arith, e))
has_header (SymbolV k) e = record { header = 25; is = refl }
has_header (StringV t) e = record { header = 21; is = refl }
has_header (PairV k) e = absurd (omega (arith, e))
has_header (VectorV k) e = record { header = 17; is = refl }
has_header (ClosureV i) e = record { header = 29; is = refl }
has_header (ObjectV i) e = record { header = 33; is = refl }
has_header (OperationV o) e = record { header = 37; is = refl }
has_header (BuiltinV p) e = record { header = 41; is = refl }
has_header (EscapeV b) e = record { header = 45; is = refl }

pub symbol_object : (v : Val) (hd : ℕ) → symbol_of v ≡ None → header_of v ≡ Some hd → (hd == 25) ≡ false
symbol_object (FixV x) hd n e = absurd (cc)
symbol_object (CharV c) hd n e = absurd (cc)
symbol_object NilV hd n e = absurd (cc)
symbol_object TrueV hd n e = absurd (cc)
symbol_object (SymbolV k) hd n e = absurd (cc)
symbol_object (StringV t) hd n e = let same : 21 ≡ hd = cc in ap (λ h. h == 25) (sym same)
symbol_object (PairV k) hd n e = absurd (cc)
symbol_object (VectorV k) hd n e = let same : 17 ≡ hd = cc in ap (λ h. h == 25) (sym same)
symbol_object (ClosureV i) hd n e = let same : 29 ≡ hd = cc in ap (λ h. h == 25) (sym same)
symbol_object (ObjectV i) hd n e = let same : 33 ≡ hd = cc in ap (λ h. h == 25) (sym same)
symbol_object (OperationV o) hd n e = let same : 37 ≡ hd = cc in ap (λ h. h == 25) (sym same)
symbol_object (BuiltinV p) hd n e = let same : 41 ≡ hd = cc in ap (λ h. h == 25) (sym same)
symbol_object (EscapeV b) hd n e = let same : 45 ≡ hd = cc in ap (λ h. h == 25) (sym same)

pub string_object : (v : Val) (hd : ℕ) → string_of v ≡ None → header_of v ≡ Some hd → (hd == 21) ≡ false
string_object (FixV x) hd n e = absurd (cc)
string_object (CharV c) hd n e = absurd (cc)
string_object NilV hd n e = absurd (cc)
string_object TrueV hd n e = absurd (cc)
string_object (SymbolV k) hd n e = let same : 25 ≡ hd = cc in ap (λ h. h == 21) (sym same)
string_object (StringV t) hd n e = absurd (cc)
string_object (PairV k) hd n e = absurd (cc)
string_object (VectorV k) hd n e = let same : 17 ≡ hd = cc in ap (λ h. h == 21) (sym same)
string_object (ClosureV i) hd n e = let same : 29 ≡ hd = cc in ap (λ h. h == 21) (sym same)
string_object (ObjectV i) hd n e = let same : 33 ≡ hd = cc in ap (λ h. h == 21) (sym same)
string_object (OperationV o) hd n e = let same : 37 ≡ hd = cc in ap (λ h. h == 21) (sym same)
string_object (BuiltinV p) hd n e = let same : 41 ≡ hd = cc in ap (λ h. h == 21) (sym same)
string_object (EscapeV b) hd n e = let same : 45 ≡ hd = cc in ap (λ h. h == 21) (sym same)

pub vector_object : (v : Val) (hd : ℕ) → vector_of v ≡ None → header_of v ≡ Some hd → (hd == 17) ≡ false
vector_object (FixV x) hd n e = absurd (cc)
vector_object (CharV c) hd n e = absurd (cc)
vector_object NilV hd n e = absurd (cc)
vector_object TrueV hd n e = absurd (cc)
vector_object (SymbolV k) hd n e = let same : 25 ≡ hd = cc in ap (λ h. h == 17) (sym same)
vector_object (StringV t) hd n e = let same : 21 ≡ hd = cc in ap (λ h. h == 17) (sym same)
vector_object (PairV k) hd n e = absurd (cc)
vector_object (VectorV k) hd n e = absurd (cc)
vector_object (ClosureV i) hd n e = let same : 29 ≡ hd = cc in ap (λ h. h == 17) (sym same)
vector_object (ObjectV i) hd n e = let same : 33 ≡ hd = cc in ap (λ h. h == 17) (sym same)
vector_object (OperationV o) hd n e = let same : 37 ≡ hd = cc in ap (λ h. h == 17) (sym same)
vector_object (BuiltinV p) hd n e = let same : 41 ≡ hd = cc in ap (λ h. h == 17) (sym same)
vector_object (EscapeV b) hd n e = let same : 45 ≡ hd = cc in ap (λ h. h == 17) (sym same)

pub no_header : (v : Val) (hd : ℕ) → (tag_of v == 2) ≡ false → header_of v ≡ Some hd → ⊥
no_header (FixV x) hd e h = absurd (cc)
no_header (CharV c) hd e h = absurd (cc)
no_header NilV hd e h = absurd (cc)
no_header TrueV hd e h = absurd (cc)
no_header (SymbolV k) hd e h = absurd (cc)
no_header (StringV t) hd e h = absurd (cc)
no_header (PairV k) hd e h = absurd (cc)
no_header (VectorV k) hd e h = absurd (cc)
no_header (ClosureV i) hd e h = absurd (cc)
no_header (ObjectV i) hd e h = absurd (cc)
no_header (OperationV o) hd e h = absurd (cc)
no_header (BuiltinV p) hd e h = absurd (cc)
no_header (EscapeV b) hd e h = absurd (cc)

-- of no other value the low byte is 1
pub not_char : (l : Layout) (s : State) (v : Val) (n : ℕ) → char_of v ≡ None → word_for l s v ≡ Some n → n % 256 ≡ 1 → ⊥
not_char l s (FixV x) n e is one = absurd (omega (arith, tag_is l s (FixV x) n is, one))
not_char l s (CharV c) n e is one = absurd (cc)
not_char l s NilV n e is one = let w : 5 ≡ n = cc in absurd (omega (arith, w, one))
not_char l s TrueV n e is one = let w : 9 ≡ n = cc in absurd (omega (arith, w, one))
not_char l s (SymbolV k) n e is one = absurd (omega (arith, tag_is l s (SymbolV k) n is, one))
not_char l s (StringV t) n e is one = absurd (omega (arith, tag_is l s (StringV t) n is, one))
not_char l s (PairV k) n e is one = absurd (omega (arith, tag_is l s (PairV k) n is, one))
not_char l s (VectorV k) n e is one = absurd (omega (arith, tag_is l s (VectorV k) n is, one))
not_char l s (ClosureV i) n e is one = absurd (omega (arith, tag_is l s (ClosureV i) n is, one))
not_char l s (ObjectV i) n e is one = absurd (omega (arith, tag_is l s (ObjectV i) n is, one))
not_char l s (OperationV o) n e is one = absurd (omega (arith, tag_is l s (OperationV o) n is, one))
not_char l s (BuiltinV p) n e is one = absurd (omega (arith, tag_is l s (BuiltinV p) n is, one))
not_char l s (EscapeV b) n e is one = absurd (omega (arith, tag_is l s (EscapeV b) n is, one))
