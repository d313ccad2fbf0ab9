-- The rows of tests of kinds, of pairs, vectors, strings and symbols.
use Rattle.std.proofs.Common.{◌≡◌, ℕ, ◌+◌, ◌%◌, ◌==◌, Bool, false, not, ◌||◌, List, [], ◌∷◌, Option, Some, None, is_some, refl, sym, ap, ◌∙◌, subst, arith}
use Rattle.std.specs.Option.{option_map_or}
use Rattle.std.proofs.lemmas.Bool.{eq-eqb, ne_eqb}
use Rattle.t_base.specs.declared.basics.Var.{Var}
use Rattle.t_base.specs.declared.builtins.Builtin.TheVariants as builtin
use Rattle.t_prim.specs.Values.{Val, Text, FixV, CharV, NilV, TrueV, SymbolV, StringV, PairV, VectorV, ClosureV, ObjectV, OperationV, BuiltinV, EscapeV}
use Rattle.t_prim.specs.Kinds.{fixnum_of, char_of, string_of, symbol_of, vector_of, is_nil, is_pair, is_procedure}
use Rattle.t_prim.specs.Operands.{Row, truth}
use Rattle.word_ir.specs.declared.operands.Operand.{Operand}
use Rattle.word_ir.specs.declared.words.Test.{Test}
use Rattle.word_ir.specs.declared.words.Test.TheVariants as test
use Rattle.word_ir.specs.declared.words.Words.{Words}
use Rattle.word_ir.specs.Word.{Number}
use Rattle.word_ir.specs.Storage.{Sizes}
use Rattle.word_ir.specs.Computing.{compared}
use Rattle.frame_ir.specs.States.{State}
use Rattle.tagged_words.proofs.Chars.{low_byte, char_byte}
use Rattle.word_trees.specs.Trees.{Tree}
use Rattle.word_trees.specs.Cores.{Core, word_in, binding}
use Rattle.word_trees.proofs.Performing.{compute_performs}
use Rattle.frame_words.specs.Layouts.{Layout}
use Rattle.frame_words.specs.ValueWords.{NIL, word_for, tag_of, header_of}
use Rattle.frame_words.specs.Contents.{Escapes}
use Rattle.frame_words.specs.Holding.{HoldsData}
use Rattle.t_prim.specs.Identity.{is_same}
use Rattle.frame_words.proofs.Identity.{words_tell}
use Rattle.frame_words.proofs.Values.{tag_is, char_is, IsCharWord}
use Rattle.select_rows.specs.Macros.{by_test, unless, is_object, choose, var, of_var, word}
use Rattle.select_rows.specs.Kept.{Has, Keeps, Binds}
use Rattle.select_rows.specs.Codes.{code_of, IsCodeOf}
use Rattle.select_rows.proofs.Keeping.{keeps_same, keeps_binds, keeps_pass, passing, binds_one, bound_word, has_binds}
use Rattle.select_rows.proofs.Results.{performs, Decides, test_decides, unless_decides, either_decides, object_decides, no_object_decides, choose_performs, has_pass, is_one_of, header_cost}
use Rattle.select_rows.proofs.NumberRows.{compare_performs, same_pass}
use Rattle.select_rows.proofs.KindTags.{char_some, not_char}

-- ---- tags

pair_tag : (v : Val) → (tag_of v == 3) ≡ is_pair v
pair_tag (FixV x) = refl
pair_tag (CharV c) = refl
pair_tag NilV = refl
pair_tag TrueV = refl
pair_tag (SymbolV k) = refl
pair_tag (StringV t) = refl
pair_tag (PairV k) = refl
pair_tag (VectorV k) = refl
pair_tag (ClosureV i) = refl
pair_tag (ObjectV i) = refl
pair_tag (OperationV o) = refl
pair_tag (BuiltinV p) = refl
pair_tag (EscapeV b) = refl

fixnum_tag : (v : Val) → (tag_of v == 0) ≡ is_some (fixnum_of v)
fixnum_tag (FixV x) = refl
fixnum_tag (CharV c) = refl
fixnum_tag NilV = refl
fixnum_tag TrueV = refl
fixnum_tag (SymbolV k) = refl
fixnum_tag (StringV t) = refl
fixnum_tag (PairV k) = refl
fixnum_tag (VectorV k) = refl
fixnum_tag (ClosureV i) = refl
fixnum_tag (ObjectV i) = refl
fixnum_tag (OperationV o) = refl
fixnum_tag (BuiltinV p) = refl
fixnum_tag (EscapeV b) = refl

differs : (n m : ℕ) → (n ≡ m → ⊥) → (n == m) ≡ false
differs n m d = ne_eqb n m d

pub nil_word : (l : Layout) (s : State) (v : Val) (n : ℕ) → word_for l s v ≡ Some n → (n == NIL) ≡ is_nil v
nil_word l s (FixV x) n is = let g = tag_is l s (FixV x) n is in differs n 5 (λ f. absurd (omega (arith, g, f)))
nil_word l s (CharV c) n is = let w : IsCharWord c n = char_is l s c n is in differs n 5 (λ f. absurd (omega (arith, w.word, f)))
nil_word l s NilV n is = let w : 5 ≡ n = cc in eq-eqb n 5 (sym w)
nil_word l s TrueV n is = let w : 9 ≡ n = cc in differs n 5 (λ f. absurd (omega (arith, w, f)))
nil_word l s (SymbolV k) n is = let g = tag_is l s (SymbolV k) n is in differs n 5 (λ f. absurd (omega (arith, g, f)))
nil_word l s (StringV t) n is = let g = tag_is l s (StringV t) n is in differs n 5 (λ f. absurd (omega (arith, g, f)))
nil_word l s (PairV k) n is = let g = tag_is l s (PairV k) n is in differs n 5 (λ f. absurd (omega (arith, g, f)))
nil_word l s (VectorV k) n is = let g = tag_is l s (VectorV k) n is in differs n 5 (λ f. absurd (omega (arith, g, f)))
nil_word l s (ClosureV i) n is = let g = tag_is l s (ClosureV i) n is in differs n 5 (λ f. absurd (omega (arith, g, f)))
nil_word l s (ObjectV i) n is = let g = tag_is l s (ObjectV i) n is in differs n 5 (λ f. absurd (omega (arith, g, f)))
nil_word l s (OperationV o) n is = let g = tag_is l s (OperationV o) n is in differs n 5 (λ f. absurd (omega (arith, g, f)))
nil_word l s (BuiltinV p) n is = let g = tag_is l s (BuiltinV p) n is in differs n 5 (λ f. absurd (omega (arith, g, f)))
nil_word l s (EscapeV b) n is = let g = tag_is l s (EscapeV b) n is in differs n 5 (λ f. absurd (omega (arith, g, f)))

char_word_test : (o : Option ℕ) (l : Layout) (s : State) (v : Val) (n : ℕ) → char_of v ≡ o → word_for l s v ≡ Some n → (n % 256 == 1) ≡ is_some o
char_word_test (Some x) l s v n found is =
    let w : IsCharWord x n = char_is l s x n (subst (λ y. word_for l s y ≡ Some n) (char_some v x found) is) in
    eq-eqb (n % 256) 1 (ap (λ m. m % 256) w.word ∙ char_byte x)
char_word_test None l s v n found is = ne_eqb (n % 256) 1 (not_char l s v n found is)

-- ---- headers

abbrev has_one_of : Val → List ℕ → Bool
has_one_of v headers = option_map_or (λ hd. is_one_of hd headers) (header_of v) false

string_header : (v : Val) → has_one_of v (0x15 ∷ []) ≡ is_some (string_of v)
string_header (FixV x) = refl
string_header (CharV c) = refl
string_header NilV = refl
string_header TrueV = refl
string_header (SymbolV k) = refl
string_header (StringV t) = refl
string_header (PairV k) = refl
string_header (VectorV k) = refl
string_header (ClosureV i) = refl
string_header (ObjectV i) = refl
string_header (OperationV o) = refl
string_header (BuiltinV p) = refl
string_header (EscapeV b) = refl

symbol_header : (v : Val) → has_one_of v (0x19 ∷ []) ≡ is_some (symbol_of v)
symbol_header (FixV x) = refl
symbol_header (CharV c) = refl
symbol_header NilV = refl
symbol_header TrueV = refl
symbol_header (SymbolV k) = refl
symbol_header (StringV t) = refl
symbol_header (PairV k) = refl
symbol_header (VectorV k) = refl
symbol_header (ClosureV i) = refl
symbol_header (ObjectV i) = refl
symbol_header (OperationV o) = refl
symbol_header (BuiltinV p) = refl
symbol_header (EscapeV b) = refl

vector_header : (v : Val) → has_one_of v (0x11 ∷ []) ≡ is_some (vector_of v)
vector_header (FixV x) = refl
vector_header (CharV c) = refl
vector_header NilV = refl
vector_header TrueV = refl
vector_header (SymbolV k) = refl
vector_header (StringV t) = refl
vector_header (PairV k) = refl
vector_header (VectorV k) = refl
vector_header (ClosureV i) = refl
vector_header (ObjectV i) = refl
vector_header (OperationV o) = refl
vector_header (BuiltinV p) = refl
vector_header (EscapeV b) = refl

procedure_header : (v : Val) → has_one_of v (0x1D ∷ 0x21 ∷ 0x25 ∷ 0x29 ∷ 0x2D ∷ []) ≡ is_procedure v
procedure_header (FixV x) = refl
procedure_header (CharV c) = refl
procedure_header NilV = refl
procedure_header TrueV = refl
procedure_header (SymbolV k) = refl
procedure_header (StringV t) = refl
procedure_header (PairV k) = refl
procedure_header (VectorV k) = refl
procedure_header (ClosureV i) = refl
procedure_header (ObjectV i) = refl
procedure_header (OperationV o) = refl
procedure_header (BuiltinV p) = refl
procedure_header (EscapeV b) = refl

header_tag : (v : Val) (hd : ℕ) → header_of v ≡ Some hd → tag_of v ≡ 2
header_tag (FixV x) hd f = absurd (cc)
header_tag (CharV c) hd f = absurd (cc)
header_tag NilV hd f = absurd (cc)
header_tag TrueV hd f = absurd (cc)
header_tag (SymbolV k) hd f = refl
header_tag (StringV t) hd f = refl
header_tag (PairV k) hd f = absurd (cc)
header_tag (VectorV k) hd f = refl
header_tag (ClosureV i) hd f = refl
header_tag (ObjectV i) hd f = refl
header_tag (OperationV o) hd f = refl
header_tag (BuiltinV p) hd f = refl
header_tag (EscapeV b) hd f = refl

headerless_tag : (v : Val) → header_of v ≡ None → (tag_of v == 2) ≡ false
headerless_tag (FixV x) f = refl
headerless_tag (CharV c) f = refl
headerless_tag NilV f = refl
headerless_tag TrueV f = refl
headerless_tag (SymbolV k) f = absurd (cc)
headerless_tag (StringV t) f = absurd (cc)
headerless_tag (PairV k) f = refl
headerless_tag (VectorV k) f = absurd (cc)
headerless_tag (ClosureV i) f = absurd (cc)
headerless_tag (ObjectV i) f = absurd (cc)
headerless_tag (OperationV o) f = absurd (cc)
headerless_tag (BuiltinV p) f = absurd (cc)
headerless_tag (EscapeV b) f = absurd (cc)

pub vector_by_header : (v : Val) → header_of v ≡ Some 17 → (k : ℕ) × (v ≡ VectorV k)
vector_by_header (FixV x) f = absurd (cc)
vector_by_header (CharV c) f = absurd (cc)
vector_by_header NilV f = absurd (cc)
vector_by_header TrueV f = absurd (cc)
vector_by_header (SymbolV k) f = let g : ◌≡◌ {A = ℕ} 25 17 = cc in absurd (omega (arith, g))
vector_by_header (StringV t) f = let g : ◌≡◌ {A = ℕ} 21 17 = cc in absurd (omega (arith, g))
vector_by_header (PairV k) f = absurd (cc)
vector_by_header (VectorV k) f = (k, refl)
vector_by_header (ClosureV i) f = let g : ◌≡◌ {A = ℕ} 29 17 = cc in absurd (omega (arith, g))
vector_by_header (ObjectV i) f = let g : ◌≡◌ {A = ℕ} 33 17 = cc in absurd (omega (arith, g))
vector_by_header (OperationV o) f = let g : ◌≡◌ {A = ℕ} 37 17 = cc in absurd (omega (arith, g))
vector_by_header (BuiltinV p) f = let g : ◌≡◌ {A = ℕ} 41 17 = cc in absurd (omega (arith, g))
vector_by_header (EscapeV b) f = let g : ◌≡◌ {A = ℕ} 45 17 = cc in absurd (omega (arith, g))

pub not_vector : (v : Val) → (header_of v ≡ Some 17 → ⊥) → vector_of v ≡ None
not_vector (FixV x) f = refl
not_vector (CharV c) f = refl
not_vector NilV f = refl
not_vector TrueV f = refl
not_vector (SymbolV k) f = refl
not_vector (StringV t) f = refl
not_vector (PairV k) f = refl
not_vector (VectorV k) f = absurd (f refl)
not_vector (ClosureV i) f = refl
not_vector (ObjectV i) f = refl
not_vector (OperationV o) f = refl
not_vector (BuiltinV p) f = refl
not_vector (EscapeV b) f = refl

pub string_by_header : (v : Val) → header_of v ≡ Some 21 → (k : Text) × (v ≡ StringV k)
string_by_header (FixV x) f = absurd (cc)
string_by_header (CharV c) f = absurd (cc)
string_by_header NilV f = absurd (cc)
string_by_header TrueV f = absurd (cc)
string_by_header (SymbolV k) f = let g : ◌≡◌ {A = ℕ} 25 21 = cc in absurd (omega (arith, g))
string_by_header (StringV t) f = (t, refl)
string_by_header (PairV k) f = absurd (cc)
string_by_header (VectorV k) f = let g : ◌≡◌ {A = ℕ} 17 21 = cc in absurd (omega (arith, g))
string_by_header (ClosureV i) f = let g : ◌≡◌ {A = ℕ} 29 21 = cc in absurd (omega (arith, g))
string_by_header (ObjectV i) f = let g : ◌≡◌ {A = ℕ} 33 21 = cc in absurd (omega (arith, g))
string_by_header (OperationV o) f = let g : ◌≡◌ {A = ℕ} 37 21 = cc in absurd (omega (arith, g))
string_by_header (BuiltinV p) f = let g : ◌≡◌ {A = ℕ} 41 21 = cc in absurd (omega (arith, g))
string_by_header (EscapeV b) f = let g : ◌≡◌ {A = ℕ} 45 21 = cc in absurd (omega (arith, g))

pub not_string : (v : Val) → (header_of v ≡ Some 21 → ⊥) → string_of v ≡ None
not_string (FixV x) f = refl
not_string (CharV c) f = refl
not_string NilV f = refl
not_string TrueV f = refl
not_string (SymbolV k) f = refl
not_string (StringV t) f = absurd (f refl)
not_string (PairV k) f = refl
not_string (VectorV k) f = refl
not_string (ClosureV i) f = refl
not_string (ObjectV i) f = refl
not_string (OperationV o) f = refl
not_string (BuiltinV p) f = refl
not_string (EscapeV b) f = refl

pub symbol_by_header : (v : Val) → header_of v ≡ Some 25 → (k : ℕ) × (v ≡ SymbolV k)
symbol_by_header (FixV x) f = absurd (cc)
symbol_by_header (CharV c) f = absurd (cc)
symbol_by_header NilV f = absurd (cc)
symbol_by_header TrueV f = absurd (cc)
symbol_by_header (SymbolV k) f = (k, refl)
symbol_by_header (StringV t) f = let g : ◌≡◌ {A = ℕ} 21 25 = cc in absurd (omega (arith, g))
symbol_by_header (PairV k) f = absurd (cc)
symbol_by_header (VectorV k) f = let g : ◌≡◌ {A = ℕ} 17 25 = cc in absurd (omega (arith, g))
symbol_by_header (ClosureV i) f = let g : ◌≡◌ {A = ℕ} 29 25 = cc in absurd (omega (arith, g))
symbol_by_header (ObjectV i) f = let g : ◌≡◌ {A = ℕ} 33 25 = cc in absurd (omega (arith, g))
symbol_by_header (OperationV o) f = let g : ◌≡◌ {A = ℕ} 37 25 = cc in absurd (omega (arith, g))
symbol_by_header (BuiltinV p) f = let g : ◌≡◌ {A = ℕ} 41 25 = cc in absurd (omega (arith, g))
symbol_by_header (EscapeV b) f = let g : ◌≡◌ {A = ℕ} 45 25 = cc in absurd (omega (arith, g))

pub not_symbol : (v : Val) → (header_of v ≡ Some 25 → ⊥) → symbol_of v ≡ None
not_symbol (FixV x) f = refl
not_symbol (CharV c) f = refl
not_symbol NilV f = refl
not_symbol TrueV f = refl
not_symbol (SymbolV k) f = absurd (f refl)
not_symbol (StringV t) f = refl
not_symbol (PairV k) f = refl
not_symbol (VectorV k) f = refl
not_symbol (ClosureV i) f = refl
not_symbol (ObjectV i) f = refl
not_symbol (OperationV o) f = refl
not_symbol (BuiltinV p) f = refl
not_symbol (EscapeV b) f = refl

module _ (words : Words) (sizes : Sizes) (l : Layout) (e : Escapes) (t : ℕ) (s : State) (c : Core) (to : Var) (rest : Tree) (h : HoldsData sizes l e s c.storage c.next c.output) where
  keeps : Keeps sizes l e t s s c c
  keeps = keeps_same sizes l e t s c h

  passed : Keeps sizes l e t s s c (passing c NIL)
  passed = keeps_pass sizes l e t s c c NIL keeps

  -- a truth of one word
  truth_of_word : (a : Operand) (v : Val) (how : Test) (m : ℕ) (b b' : Bool) → Has l s t c a v → ((n : ℕ) → word_for l s v ≡ Some n → compared how (Number n) (Number m) ≡ Some b) → b ≡ b' → performs words sizes l e t s c to rest (truth b') 1 14 (choose (by_test how a (word m)) to rest) c
  truth_of_word a v how m b b' ha tells same =
      subst (λ x. performs words sizes l e t s c to rest (truth x) 1 14 (choose (by_test how a (word m)) to rest) c) same
      (compare_performs words sizes l e t s c to rest c b how a (word m) ha.number m keeps ha.held (same_pass words sizes l e t s c to rest NIL a) refl refl (tells ha.number ha.is))

  headers_by : (o : Option ℕ) (row : Row) (headers : List ℕ) (a : Operand) (v : Val) → header_of v ≡ o → Has l s t c a v → Decides words sizes l e t s c to rest row (passing c NIL) (option_map_or (λ hd. is_one_of hd headers) o false) (5 + header_cost headers) (is_object a headers t)
  headers_by (Some hd) row headers a v found ha = object_decides words sizes l e t s c to rest row (passing c NIL) headers t a v hd (omega arith) (has_pass words sizes l e t s c to rest c a v NIL ha) passed (header_tag v hd found) found
  headers_by None row headers a v found ha = no_object_decides words sizes l e t s c to rest row (passing c NIL) headers t a v (has_pass words sizes l e t s c to rest c a v NIL ha) (headerless_tag v found)

  -- a truth of a header
  truth_of_header : (a : Operand) (v : Val) (headers : List ℕ) (b : Bool) → Has l s t c a v → has_one_of v headers ≡ b → performs words sizes l e t s c to rest (truth b) 1 (3 + (5 + header_cost headers + 8)) (choose (is_object a headers t) to rest) c
  truth_of_header a v headers b ha same =
      subst (λ x. performs words sizes l e t s c to rest (truth x) 1 (3 + (5 + header_cost headers + 8)) (choose (is_object a headers t) to rest) c) same
      (choose_performs words sizes l e t s c to rest c (has_one_of v headers) (5 + header_cost headers) (is_object a headers t) keeps (headers_by (header_of v) (truth (has_one_of v headers)) headers a v refl ha))

-- ---- tests of kinds

pub not_row : IsCodeOf builtin.Not (code_of builtin.Not)
not_row words sizes l e t s c to rest a v h ha = truth_of_word words sizes l e t s c to rest h a v test.Eq NIL (is_nil v) (is_nil v) ha (λ n is. ap Some (nil_word l s v n is)) refl

pub null_row : IsCodeOf builtin.IsNull (code_of builtin.IsNull)
null_row words sizes l e t s c to rest a v h ha = truth_of_word words sizes l e t s c to rest h a v test.Eq NIL (is_nil v) (is_nil v) ha (λ n is. ap Some (nil_word l s v n is)) refl

tells_tag : (l : Layout) (s : State) (v : Val) (tag n : ℕ) → word_for l s v ≡ Some n → compared (test.TagIs tag) (Number n) (Number 0) ≡ Some (tag_of v == tag)
tells_tag l s v tag n is = ap (λ m. Some (m == tag)) (tag_is l s v n is)

pub pair_row : IsCodeOf builtin.IsPair (code_of builtin.IsPair)
pair_row words sizes l e t s c to rest a v h ha = truth_of_word words sizes l e t s c to rest h a v (test.TagIs 3) 0 (tag_of v == 3) (is_pair v) ha (tells_tag l s v 3) (pair_tag v)

pub fixnum_row : IsCodeOf builtin.IsFixnum (code_of builtin.IsFixnum)
fixnum_row words sizes l e t s c to rest a v h ha = truth_of_word words sizes l e t s c to rest h a v (test.TagIs 0) 0 (tag_of v == 0) (is_some (fixnum_of v)) ha (tells_tag l s v 0) (fixnum_tag v)

pair_decides : (words : Words) (sizes : Sizes) (l : Layout) (e : Escapes) (t : ℕ) (s : State) (c d : Core) (to : Var) (rest : Tree) (row : Row) (a : Operand) (v : Val) → Has l s t d a v → Decides words sizes l e t s c to rest row d (is_pair v) 3 (by_test (test.TagIs 3) a (word 0))
pair_decides words sizes l e t s c d to rest row a v ha = test_decides words sizes l e t s c to rest row d (is_pair v) (test.TagIs 3) a (word 0) (Number ha.number) (Number 0) ha.held refl (tells_tag l s v 3 ha.number ha.is ∙ ap Some (pair_tag v))

nil_decides : (words : Words) (sizes : Sizes) (l : Layout) (e : Escapes) (t : ℕ) (s : State) (c d : Core) (to : Var) (rest : Tree) (row : Row) (a : Operand) (v : Val) → Has l s t d a v → Decides words sizes l e t s c to rest row d (is_nil v) 3 (by_test test.Eq a (word NIL))
nil_decides words sizes l e t s c d to rest row a v ha = test_decides words sizes l e t s c to rest row d (is_nil v) test.Eq a (word NIL) (Number ha.number) (Number NIL) ha.held refl (ap Some (nil_word l s v ha.number ha.is))

pub atom_row : IsCodeOf builtin.IsAtom (code_of builtin.IsAtom)
atom_row words sizes l e t s c to rest a v h ha =
    choose_performs words sizes l e t s c to rest c (not (is_pair v)) 3 (unless (by_test (test.TagIs 3) a (word 0))) (keeps_same sizes l e t s c h)
    (unless_decides words sizes l e t s c to rest (truth (not (is_pair v))) (passing c NIL) (is_pair v) 3 (by_test (test.TagIs 3) a (word 0))
    (pair_decides words sizes l e t s c (passing c NIL) to rest _ a v (has_pass words sizes l e t s c to rest c a v NIL ha)))

pub list_row : IsCodeOf builtin.IsList (code_of builtin.IsList)
list_row words sizes l e t s c to rest a v h ha =
    let hp : Has l s t (passing c NIL) a v = has_pass words sizes l e t s c to rest c a v NIL ha in
    choose_performs words sizes l e t s c to rest c (is_pair v || is_nil v) 6 _ (keeps_same sizes l e t s c h)
    (either_decides words sizes l e t s c to rest (truth (is_pair v || is_nil v)) (passing c NIL) (is_pair v) (is_nil v) 3 3 (by_test (test.TagIs 3) a (word 0)) (by_test test.Eq a (word NIL))
    (pair_decides words sizes l e t s c (passing c NIL) to rest _ a v hp)
    (λ d binds. nil_decides words sizes l e t s c d to rest _ a v (has_binds binds hp)))

pub string_row : IsCodeOf builtin.IsString (code_of builtin.IsString)
string_row words sizes l e t s c to rest a v h ha = truth_of_header words sizes l e t s c to rest h a v (0x15 ∷ []) (is_some (string_of v)) ha (string_header v)

pub symbol_row : IsCodeOf builtin.IsSymbol (code_of builtin.IsSymbol)
symbol_row words sizes l e t s c to rest a v h ha = truth_of_header words sizes l e t s c to rest h a v (0x19 ∷ []) (is_some (symbol_of v)) ha (symbol_header v)

pub vector_row : IsCodeOf builtin.IsVector (code_of builtin.IsVector)
vector_row words sizes l e t s c to rest a v h ha = truth_of_header words sizes l e t s c to rest h a v (0x11 ∷ []) (is_some (vector_of v)) ha (vector_header v)

pub procedure_row : IsCodeOf builtin.IsProcedure (code_of builtin.IsProcedure)
procedure_row words sizes l e t s c to rest a v h ha = truth_of_header words sizes l e t s c to rest h a v (0x1D ∷ 0x21 ∷ 0x25 ∷ 0x29 ∷ 0x2D ∷ []) (is_procedure v) ha (procedure_header v)

pub char_row : IsCodeOf builtin.IsChar (code_of builtin.IsChar)
char_row words sizes l e t s c to rest a v h ha =
    let n : ℕ = ha.number in
    let d : Core = binding c (var t) (Number (n % 256)) None in
    let binds : Binds t c d = binds_one t c t (Number (n % 256)) None (omega arith) in
    let held : word_in d (of_var t) ≡ Some (Number (n % 256)) = bound_word c t (Number (n % 256)) None in
    compute_performs words sizes _ n 255 (n % 256) ha.held refl (low_byte n)
    (compare_performs words sizes l e t s c to rest d (is_some (char_of v)) test.Eq (of_var t) (word 1) (n % 256) 1 (keeps_binds sizes l e t s c c d (keeps_same sizes l e t s c h) binds) held refl refl refl
    (ap Some (char_word_test (char_of v) l s v n refl ha.is)))

-- ---- identity

pub same_row : IsCodeOf builtin.Eq (code_of builtin.Eq)
same_row words sizes l e t s c to rest a b v w h ha hb =
    compare_performs words sizes l e t s c to rest c (is_same v w) test.Eq a b ha.number hb.number (keeps_same sizes l e t s c h) ha.held (same_pass words sizes l e t s c to rest NIL a) hb.held (same_pass words sizes l e t s c to rest NIL b)
    (ap Some (words_tell sizes l e s c.storage c.next c.output h v w ha.number hb.number ha.is hb.is))
