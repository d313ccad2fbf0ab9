-- The rows of numbers and characters.
use Rattle.std.proofs.Common.{◌≡◌, ℕ, ◌+◌, ◌*◌, ◌%◌, ◌<◌, ◌≤◌, ◌==◌, nat_lt, nat_eq, Bool, true, false, if◌then◌else◌, [], ◌∷◌, Option, Some, None, is_some, ℤ, pos, negsuc, ◌+ℤ◌, ◌-ℤ◌, ◌*ℤ◌, refl, sym, ap, ◌∙◌, subst, arith}
use Rattle.std.specs.Prelude.{int_lt, int_le, int_div, int_rem}
use Rattle.std.specs.Ordering.{int_eq}
use Rattle.std.proofs.lemmas.Bool.{eq-eqb, lt-ltb, ltb-true}
use Rattle.program_runs.specs.Runs.{Faulted}
use Rattle.word_faces.specs.Faces.{fixnum_of}
use Rattle.word_ir.specs.Effects.{service_effect}
use Rattle.word_ir.specs.Effects as effects
use Rattle.word_ir.specs.Step.{words_in}
use Rattle.word_trees.proofs.Operations.{service_of_two_ends}
use Rattle.t_base.specs.declared.basics.Var.{Var}
use Rattle.t_base.specs.declared.faults.Fault.TheVariants.{DivideByZero, CharRange, User}
use Rattle.t_base.specs.declared.builtins.Builtin.TheVariants as builtin
use Rattle.t_prim.specs.Values.{Val, FixV, CharV}
use Rattle.t_prim.specs.Operands.{Row, Gives, Faults, number, truth, with_fixnum, with_char, or_fault, ascii_of, in_range}
use Rattle.t_prim.specs.Operands as rows
use Rattle.word_ir.specs.declared.operands.Operand.{Operand}
use Rattle.word_ir.specs.declared.words.Arith.TheVariants as kind
use Rattle.word_ir.specs.declared.words.Test.{Test}
use Rattle.word_ir.specs.declared.words.Test.TheVariants as test
use Rattle.word_ir.specs.declared.words.Words.{Words}
use Rattle.word_ir.specs.Word.{Number, unsigned}
use Rattle.word_ir.specs.Storage.{Sizes}
use Rattle.word_ir.specs.Computing.{compared}
use Rattle.frame_ir.specs.States.{State}
use Rattle.tagged_words.specs.Tags.{IsFixnum, fixnum_word, char_word}
use Rattle.tagged_words.proofs.Fixnums.{sum, difference, number_of_fixnum, product, eq_fixnums, lt_fixnums, le_fixnums, fixnum_tag, signed_fixnum}
use Rattle.tagged_words.proofs.Quotients.{quotient, quotient_fits, quotient_as_fixnum, remainder_word, remainder_in_range, quarter}
use Rattle.tagged_words.proofs.Chars.{eq_chars, lt_chars, char_number, char_bits, char_of_bits, below_ascii}
use Rattle.word_trees.specs.Trees.{Tree, Ask}
use Rattle.word_trees.specs.Cores.{Core, at, word_in, binding}
use Rattle.word_trees.proofs.Performing.{performs_more, ends, compute_performs, ask_performs_true, ask_performs_false}
use Rattle.frame_words.specs.Layouts.{Layout}
use Rattle.frame_words.specs.ValueWords.{NIL, word_for}
use Rattle.frame_words.specs.Contents.{Escapes}
use Rattle.frame_words.specs.Holding.{HoldsData}
use Rattle.frame_words.proofs.Values.{fixnum_known, char_is, IsCharWord}
use Rattle.select_rows.specs.Macros.{by_test, choose, fault, never, var, of_var, word}
use Rattle.select_rows.specs.Kept.{Has, Keeps, Binds}
use Rattle.select_rows.specs.Codes.{code_of, IsCodeOf, make, unless_zero}
use Rattle.select_rows.proofs.Keeping.{keeps_same, keeps_binds, passing, binds_one, binds_then, bound_word, word_binds, has_binds}
use Rattle.select_rows.proofs.Checks.{fault_performs, fixnum_performs, fixnum_held, char_performs}
use Rattle.select_rows.proofs.Results.{performs, arrive, number_performs, test_decides, choose_performs}

module _ (words : Words) (sizes : Sizes) (l : Layout) (e : Escapes) (t : ℕ) (s : State) (start : Core) (to : Var) (rest : Tree) where
  -- both operands are fixnums
  pub fixnums_perform : (k : ℕ) (a b : Operand) (v w : Val) (go : ℤ → ℤ → Row) (tail : Tree) → Has l s t start a v → Has l s t start b w → HoldsData sizes l e s start.storage start.next start.output → 2 ≤ k
      → ((x y : ℤ) → IsFixnum x → IsFixnum y → word_in start a ≡ Some (Number (fixnum_word x)) → word_in start b ≡ Some (Number (fixnum_word y)) → performs words sizes l e t s start to rest (go x y) 1 k tail start)
      → performs words sizes l e t s start to rest (rows.with_fixnums v w go) 1 (3 + (3 + k)) (Rattle.select_rows.specs.Macros.fixnum a (Rattle.select_rows.specs.Macros.fixnum b tail)) start
  fixnums_perform k a b v w go tail ha hb data_held two p =
      let keeps : Keeps sizes l e t s s start start = keeps_same sizes l e t s start data_held in
      fixnum_performs words sizes l e t s start to rest (3 + k) start a v (λ x. with_fixnum w (go x)) _ ha keeps (omega arith)
      (λ x is. fixnum_performs words sizes l e t s start to rest k start b w (go x) tail hb keeps two
      (λ y js. let f = fixnum_held words sizes l e t s start to rest start a v x ha is in let g = fixnum_held words sizes l e t s start to rest start b w y hb js in p x y f.0 g.0 f.1 g.1))

  pub fixnum_performs_one : (k : ℕ) (a : Operand) (v : Val) (go : ℤ → Row) (tail : Tree) → Has l s t start a v → HoldsData sizes l e s start.storage start.next start.output → 2 ≤ k
      → ((x : ℤ) → IsFixnum x → word_in start a ≡ Some (Number (fixnum_word x)) → performs words sizes l e t s start to rest (go x) 1 k tail start)
      → performs words sizes l e t s start to rest (with_fixnum v go) 1 (3 + k) (Rattle.select_rows.specs.Macros.fixnum a tail) start
  fixnum_performs_one k a v go tail ha data_held two p =
      fixnum_performs words sizes l e t s start to rest k start a v go tail ha (keeps_same sizes l e t s start data_held) two
      (λ x is. let f = fixnum_held words sizes l e t s start to rest start a v x ha is in p x f.0 f.1)

  -- ---- truths of two words

  pub compare_performs : (c : Core) (b : Bool) (how : Test) (x y : Operand) (n m : ℕ) → Keeps sizes l e t s s start c → word_in c x ≡ Some (Number n) → word_in (passing c NIL) x ≡ word_in c x → word_in c y ≡ Some (Number m) → word_in (passing c NIL) y ≡ word_in c y → compared how (Number n) (Number m) ≡ Some b → performs words sizes l e t s start to rest (truth b) 1 14 (choose (by_test how x y) to rest) c
  compare_performs c b how x y n m keeps ex sx ey sy r =
      choose_performs words sizes l e t s start to rest c b 3 (by_test how x y) keeps
      (test_decides words sizes l e t s start to rest (truth b) (passing c NIL) b how x y (Number n) (Number m) (sx ∙ ex) (sy ∙ ey) r)

module _ (words : Words) (sizes : Sizes) (l : Layout) (e : Escapes) (t : ℕ) (s : State) (c : Core) (to : Var) (rest : Tree) where
  pub same_pass : (n : ℕ) (y : Operand) → word_in (passing c n) y ≡ word_in c y
  same_pass n (Rattle.word_ir.specs.declared.operands.Operand.TheVariants.Var v) = refl
  same_pass n (Rattle.word_ir.specs.declared.operands.Operand.TheVariants.Word v) = refl
  same_pass n (Rattle.word_ir.specs.declared.operands.Operand.TheVariants.Static v) = refl
  same_pass n (Rattle.word_ir.specs.declared.operands.Operand.TheVariants.Code v) = refl
  same_pass n (Rattle.word_ir.specs.declared.operands.Operand.TheVariants.Slot v) = refl

-- ---- numbers

pub add_row : IsCodeOf builtin.Add (code_of builtin.Add)
add_row words sizes l e t s c to rest a b v w h ha hb =
    fixnums_perform words sizes l e t s c to rest 5 a b v w (λ x y. number (x +ℤ y)) _ ha hb h (omega arith)
    (λ x y f g ea eb. number_performs words sizes l e t s c to rest (x +ℤ y) c kind.Add a b (fixnum_word x) (fixnum_word y) (keeps_same sizes l e t s c h) ea eb (sum x y f g))

pub sub_row : IsCodeOf builtin.Sub (code_of builtin.Sub)
sub_row words sizes l e t s c to rest a b v w h ha hb =
    fixnums_perform words sizes l e t s c to rest 5 a b v w (λ x y. number (x -ℤ y)) _ ha hb h (omega arith)
    (λ x y f g ea eb. number_performs words sizes l e t s c to rest (x -ℤ y) c kind.Sub a b (fixnum_word x) (fixnum_word y) (keeps_same sizes l e t s c h) ea eb (difference x y f g))

one : IsFixnum (pos 1)
one = record { ranged = refl }

pub inc_row : IsCodeOf builtin.Inc (code_of builtin.Inc)
inc_row words sizes l e t s c to rest a v h ha =
    fixnum_performs_one words sizes l e t s c to rest 5 a v (λ x. number (x +ℤ pos 1)) _ ha h (omega arith)
    (λ x f ea. number_performs words sizes l e t s c to rest (x +ℤ pos 1) c kind.Add a (word 4) (fixnum_word x) 4 (keeps_same sizes l e t s c h) ea refl (sum x (pos 1) f one))

pub dec_row : IsCodeOf builtin.Dec (code_of builtin.Dec)
dec_row words sizes l e t s c to rest a v h ha =
    fixnum_performs_one words sizes l e t s c to rest 5 a v (λ x. number (x -ℤ pos 1)) _ ha h (omega arith)
    (λ x f ea. number_performs words sizes l e t s c to rest (x -ℤ pos 1) c kind.Sub a (word 4) (fixnum_word x) 4 (keeps_same sizes l e t s c h) ea refl (difference x (pos 1) f one))

pub mul_row : IsCodeOf builtin.Mul (code_of builtin.Mul)
mul_row words sizes l e t s c to rest a b v w h ha hb =
    fixnums_perform words sizes l e t s c to rest 8 a b v w (λ x y. number (x *ℤ y)) _ ha hb h (omega arith)
    (λ x y f g ea eb.
    let d : Core = binding c (var t) (Number (unsigned x)) None in
    let binds : Binds t c d = binds_one t c t (Number (unsigned x)) None (omega arith) in
    let eb' : word_in d b ≡ Some (Number (fixnum_word y)) = word_binds t c d b binds hb.older ∙ eb in
    compute_performs words sizes _ (fixnum_word x) 0 (unsigned x) ea refl (number_of_fixnum x f)
    (number_performs words sizes l e t s c to rest (x *ℤ y) d kind.Mul (of_var t) b (unsigned x) (fixnum_word y) (keeps_binds sizes l e t s c c d (keeps_same sizes l e t s c h) binds) (bound_word c t (Number (unsigned x)) None) eb' (product x y f g)))

quotient_or_fault : (zero_test : Bool) (words : Words) (sizes : Sizes) (l : Layout) (e : Escapes) (t : ℕ) (s : State) (c : Core) (to : Var) (rest : Tree) (row : Row) (k n : ℕ) (b : Operand) (tail : Tree) → (n == 0) ≡ zero_test → HoldsData sizes l e s c.storage c.next c.output → word_in c b ≡ Some (Number n) → 2 ≤ k → (zero_test ≡ false → performs words sizes l e t s c to rest row 1 k tail c) → performs words sizes l e t s c to rest (if zero_test then Faults DivideByZero else row) 1 (3 + k) (unless_zero b tail) c
quotient_or_fault true words sizes l e t s c to rest row k n b tail same h eb two p =
    performs_more words sizes _ (3 + k) (omega (arith, two))
    (ask_performs_true words sizes _ (Number n) (Number 0) eb refl (ap Some same) (fault_performs words sizes l e t s c to rest 8 DivideByZero c refl (keeps_same sizes l e t s c h)))
quotient_or_fault false words sizes l e t s c to rest row k n b tail same h eb two p = ask_performs_false words sizes _ (Number n) (Number 0) eb refl (ap Some same) (p refl)

pub quotient_row : IsCodeOf builtin.Quotient (code_of builtin.Quotient)
quotient_row words sizes l e t s c to rest a b v w h ha hb =
    fixnums_perform words sizes l e t s c to rest 11 a b v w (λ x y. rows.unless_zero y (number (int_div x y))) _ ha hb h (omega arith)
    (λ x y f g ea eb.
    quotient_or_fault (int_eq y (pos 0)) words sizes l e t s c to rest (number (int_div x y)) 8 (fixnum_word y) b _ (eq_fixnums y (pos 0) g (record { ranged = refl })) h eb (omega arith)
    (λ differs.
    let q : ℕ = unsigned (int_div x y) in
    let d : Core = binding c (var t) (Number q) None in
    let binds : Binds t c d = binds_one t c t (Number q) None (omega arith) in
    compute_performs words sizes _ (fixnum_word x) (fixnum_word y) q ea eb (quotient x y f g differs)
    (number_performs words sizes l e t s c to rest (int_div x y) d (kind.Shift (pos 2)) (of_var t) (word 0) q 0 (keeps_binds sizes l e t s c c d (keeps_same sizes l e t s c h) binds) (bound_word c t (Number q) None) refl
    (quotient_as_fixnum (int_div x y) (quotient_fits x y f)))))

number_is : (z : ℤ) → IsFixnum z → number z ≡ Gives (FixV z)
number_is z h = rw h.ranged refl

pub remainder_row : IsCodeOf builtin.Remainder (code_of builtin.Remainder)
remainder_row words sizes l e t s c to rest a b v w h ha hb =
    fixnums_perform words sizes l e t s c to rest 6 a b v w (λ x y. rows.unless_zero y (number (int_rem x y))) _ ha hb h (omega arith)
    (λ x y f g ea eb.
    quotient_or_fault (int_eq y (pos 0)) words sizes l e t s c to rest (number (int_rem x y)) 3 (fixnum_word y) b _ (eq_fixnums y (pos 0) g (record { ranged = refl })) h eb (omega arith)
    (λ differs.
    let r : IsFixnum (int_rem x y) = remainder_in_range x y f in
    subst (λ row. performs words sizes l e t s c to rest row 1 3 (make kind.Remainder a b to rest) c) (sym (number_is (int_rem x y) r))
    (compute_performs words sizes _ (fixnum_word x) (fixnum_word y) (fixnum_word (int_rem x y)) ea eb (remainder_word x y f g differs)
    (arrive words sizes l e t s c to rest c (FixV (int_rem x y)) (fixnum_word (int_rem x y)) None (keeps_same sizes l e t s c h) (fixnum_known l s (int_rem x y) r)))))

-- ---- comparisons

compare_row : (how : Test) (test_of : ℤ → ℤ → Bool) → ((x y : ℤ) → IsFixnum x → IsFixnum y → compared how (Number (fixnum_word x)) (Number (fixnum_word y)) ≡ Some (test_of x y)) → (words : Words) (sizes : Sizes) (l : Layout) (e : Escapes) (t : ℕ) (s : State) (c : Core) (to : Var) (rest : Tree) (a b : Operand) (v w : Val) → HoldsData sizes l e s c.storage c.next c.output → Has l s t c a v → Has l s t c b w → performs words sizes l e t s c to rest (rows.with_fixnums v w (λ x y. truth (test_of x y))) 1 20 (Rattle.select_rows.specs.Macros.fixnum a (Rattle.select_rows.specs.Macros.fixnum b (choose (by_test how a b) to rest))) c
compare_row how test_of alike words sizes l e t s c to rest a b v w h ha hb =
    fixnums_perform words sizes l e t s c to rest 14 a b v w (λ x y. truth (test_of x y)) _ ha hb h (omega arith)
    (λ x y f g ea eb. compare_performs words sizes l e t s c to rest c (test_of x y) how a b (fixnum_word x) (fixnum_word y) (keeps_same sizes l e t s c h) ea (same_pass words sizes l e t s c to rest NIL a) eb (same_pass words sizes l e t s c to rest NIL b) (alike x y f g))

turned_row : (how : Test) (test_of : ℤ → ℤ → Bool) → ((x y : ℤ) → IsFixnum x → IsFixnum y → compared how (Number (fixnum_word x)) (Number (fixnum_word y)) ≡ Some (test_of x y)) → (words : Words) (sizes : Sizes) (l : Layout) (e : Escapes) (t : ℕ) (s : State) (c : Core) (to : Var) (rest : Tree) (a b : Operand) (v w : Val) → HoldsData sizes l e s c.storage c.next c.output → Has l s t c a v → Has l s t c b w → performs words sizes l e t s c to rest (rows.with_fixnums v w (λ x y. truth (test_of y x))) 1 20 (Rattle.select_rows.specs.Macros.fixnum a (Rattle.select_rows.specs.Macros.fixnum b (choose (by_test how b a) to rest))) c
turned_row how test_of alike words sizes l e t s c to rest a b v w h ha hb =
    fixnums_perform words sizes l e t s c to rest 14 a b v w (λ x y. truth (test_of y x)) _ ha hb h (omega arith)
    (λ x y f g ea eb. compare_performs words sizes l e t s c to rest c (test_of y x) how b a (fixnum_word y) (fixnum_word x) (keeps_same sizes l e t s c h) eb (same_pass words sizes l e t s c to rest NIL b) ea (same_pass words sizes l e t s c to rest NIL a) (alike y x g f))

eq_alike : (x y : ℤ) → IsFixnum x → IsFixnum y → compared test.Eq (Number (fixnum_word x)) (Number (fixnum_word y)) ≡ Some (int_eq x y)
eq_alike x y f g = ap Some (eq_fixnums x y f g)

lt_alike : (x y : ℤ) → IsFixnum x → IsFixnum y → compared test.Lt (Number (fixnum_word x)) (Number (fixnum_word y)) ≡ Some (int_lt x y)
lt_alike x y f g = ap Some (lt_fixnums x y f g)

le_alike : (x y : ℤ) → IsFixnum x → IsFixnum y → compared test.Le (Number (fixnum_word x)) (Number (fixnum_word y)) ≡ Some (int_le x y)
le_alike x y f g = ap Some (le_fixnums x y f g)

pub eq_row : IsCodeOf builtin.NumEq (code_of builtin.NumEq)
eq_row words sizes l e t s c to rest a b v w h ha hb = compare_row test.Eq int_eq eq_alike words sizes l e t s c to rest a b v w h ha hb

pub lt_row : IsCodeOf builtin.NumLt (code_of builtin.NumLt)
lt_row words sizes l e t s c to rest a b v w h ha hb = compare_row test.Lt int_lt lt_alike words sizes l e t s c to rest a b v w h ha hb

pub le_row : IsCodeOf builtin.NumLe (code_of builtin.NumLe)
le_row words sizes l e t s c to rest a b v w h ha hb = compare_row test.Le int_le le_alike words sizes l e t s c to rest a b v w h ha hb

pub gt_row : IsCodeOf builtin.NumGt (code_of builtin.NumGt)
gt_row words sizes l e t s c to rest a b v w h ha hb = turned_row test.Lt int_lt lt_alike words sizes l e t s c to rest a b v w h ha hb

pub ge_row : IsCodeOf builtin.NumGe (code_of builtin.NumGe)
ge_row words sizes l e t s c to rest a b v w h ha hb = turned_row test.Le int_le le_alike words sizes l e t s c to rest a b v w h ha hb

naught : IsFixnum (pos 0)
naught = record { ranged = refl }

zero_compared : (how : Test) (test_of : ℤ → ℤ → Bool) → ((x y : ℤ) → IsFixnum x → IsFixnum y → compared how (Number (fixnum_word x)) (Number (fixnum_word y)) ≡ Some (test_of x y)) → (words : Words) (sizes : Sizes) (l : Layout) (e : Escapes) (t : ℕ) (s : State) (c : Core) (to : Var) (rest : Tree) (a : Operand) (v : Val) → HoldsData sizes l e s c.storage c.next c.output → Has l s t c a v → performs words sizes l e t s c to rest (with_fixnum v (λ x. truth (test_of x (pos 0)))) 1 17 (Rattle.select_rows.specs.Macros.fixnum a (choose (by_test how a (word 0)) to rest)) c
zero_compared how test_of alike words sizes l e t s c to rest a v h ha =
    fixnum_performs_one words sizes l e t s c to rest 14 a v (λ x. truth (test_of x (pos 0))) _ ha h (omega arith)
    (λ x f ea. compare_performs words sizes l e t s c to rest c (test_of x (pos 0)) how a (word 0) (fixnum_word x) 0 (keeps_same sizes l e t s c h) ea (same_pass words sizes l e t s c to rest NIL a) refl refl (alike x (pos 0) f naught))

pub zero_row : IsCodeOf builtin.IsZero (code_of builtin.IsZero)
zero_row words sizes l e t s c to rest a v h ha = zero_compared test.Eq int_eq eq_alike words sizes l e t s c to rest a v h ha

pub negative_row : IsCodeOf builtin.IsNegative (code_of builtin.IsNegative)
negative_row words sizes l e t s c to rest a v h ha = zero_compared test.Lt int_lt lt_alike words sizes l e t s c to rest a v h ha

pub positive_row : IsCodeOf builtin.IsPositive (code_of builtin.IsPositive)
positive_row words sizes l e t s c to rest a v h ha =
    fixnum_performs_one words sizes l e t s c to rest 14 a v (λ x. truth (int_lt (pos 0) x)) _ ha h (omega arith)
    (λ x f ea. compare_performs words sizes l e t s c to rest c (int_lt (pos 0) x) test.Lt (word 0) a 0 (fixnum_word x) (keeps_same sizes l e t s c h) refl refl ea (same_pass words sizes l e t s c to rest NIL a) (lt_alike (pos 0) x naught f))

-- ---- an error of the program

pub fixnum_again : (x : ℤ) → IsFixnum x → fixnum_of (fixnum_word x) ≡ Some x
fixnum_again x f = rw (eq-eqb (fixnum_word x % 4) 0 (fixnum_tag x f), signed_fixnum x f) (ap Some (quarter x))

user_fault : (words : Words) (sizes : Sizes) (c : Core) (x : ℤ) → IsFixnum x → service_effect (words_in words sizes) (at c 0 0 0 0).state 3 (15 ∷ fixnum_word x ∷ []) ≡ effects.Ends (Faulted (User x))
user_fault words sizes c x f = rw (fixnum_again x f) refl

pub error_row : IsCodeOf builtin.Error (code_of builtin.Error)
error_row words sizes l e t s c to rest a v h ha =
    fixnum_performs_one words sizes l e t s c to rest 3 a v (λ x. Faults (User x)) _ ha h (omega arith)
    (λ x f ea.
    ends words sizes _ 3 _ c (Faulted (User x)) (service_of_two_ends words sizes c 3 (word 15) a 15 (fixnum_word x) (Faulted (User x)) never refl ea (user_fault words sizes c x f))
    (λ block place moves steps. record { core = c; keeps = keeps_same sizes l e t s c h; block = block; place = place; moves = moves; steps = steps; there = refl }))

-- ---- characters

pub char_held : (l : Layout) (s : State) (t : ℕ) (c : Core) (a : Operand) (v : Val) (x : ℕ) → Has l s t c a v → v ≡ CharV x → (x < 128) × (word_in c a ≡ Some (Number (char_word x)))
char_held l s t c a v x h is = let w : IsCharWord x h.number = char_is l s x h.number (subst (λ y. word_for l s y ≡ Some h.number) is h.is) in (w.ascii, h.held ∙ ap (λ n. Some (Number n)) w.word)

pub char_number_row : IsCodeOf builtin.CharToAscii (code_of builtin.CharToAscii)
char_number_row words sizes l e t s c to rest a v h ha =
    char_performs words sizes l e t s c to rest t 3 c a v (λ x. Gives (FixV (pos x))) _ (omega arith) ha (keeps_same sizes l e t s c h) (omega arith)
    (λ d x is binds.
    let f = char_held l s t d a v x (has_binds binds ha) is in
    let fix : IsFixnum (pos x) = record { ranged = lt-ltb x 536870912 (omega (arith, f.0)) } in
    compute_performs words sizes _ (char_word x) 0 (fixnum_word (pos x)) f.1 refl (char_number x (omega (arith, f.0)))
    (arrive words sizes l e t s c to rest d (FixV (pos x)) (fixnum_word (pos x)) None (keeps_binds sizes l e t s c c d (keeps_same sizes l e t s c h) binds) (fixnum_known l s (pos x) fix)))

compare_chars_row : (how : Test) (test_of : ℕ → ℕ → Bool) → ((x y : ℕ) → x < 128 → y < 128 → compared how (Number (char_word x)) (Number (char_word y)) ≡ Some (test_of x y)) → (words : Words) (sizes : Sizes) (l : Layout) (e : Escapes) (t : ℕ) (s : State) (c : Core) (to : Var) (rest : Tree) (a b : Operand) (v w : Val) → HoldsData sizes l e s c.storage c.next c.output → Has l s t c a v → Has l s t c b w → performs words sizes l e t s c to rest (rows.with_chars v w (λ x y. truth (test_of x y))) 1 26 (Rattle.select_rows.specs.Macros.character a t (Rattle.select_rows.specs.Macros.character b (t + 1) (choose (by_test how a b) to rest))) c
compare_chars_row how test_of alike words sizes l e t s c to rest a b v w h ha hb =
    let keeps : Keeps sizes l e t s s c c = keeps_same sizes l e t s c h in
    char_performs words sizes l e t s c to rest t 20 c a v (λ x. with_char w (λ y. truth (test_of x y))) _ (omega arith) ha keeps (omega arith)
    (λ d x is binds.
    let kd : Keeps sizes l e t s s c d = keeps_binds sizes l e t s c c d keeps binds in
    char_performs words sizes l e t s c to rest (t + 1) 14 d b w (λ y. truth (test_of x y)) _ (omega arith) (has_binds binds hb) kd (omega arith)
    (λ d' y js more.
    let all : Binds t c d' = binds_then t c d d' binds more in
    let f = char_held l s t d' a v x (has_binds all ha) is in
    let g = char_held l s t d' b w y (has_binds all hb) js in
    compare_performs words sizes l e t s c to rest d' (test_of x y) how a b (char_word x) (char_word y) (keeps_binds sizes l e t s c c d' keeps all) f.1 (same_pass words sizes l e t s d' to rest NIL a) g.1 (same_pass words sizes l e t s d' to rest NIL b) (alike x y f.0 g.0)))

eq_chars_alike : (x y : ℕ) → x < 128 → y < 128 → compared test.Eq (Number (char_word x)) (Number (char_word y)) ≡ Some (nat_eq x y)
eq_chars_alike x y f g = ap Some (eq_chars x y)

lt_chars_alike : (x y : ℕ) → x < 128 → y < 128 → compared test.Lt (Number (char_word x)) (Number (char_word y)) ≡ Some (nat_lt x y)
lt_chars_alike x y f g = ap Some (lt_chars x y (omega (arith, f)) (omega (arith, g)))

pub char_eq_row : IsCodeOf builtin.CharEq (code_of builtin.CharEq)
char_eq_row words sizes l e t s c to rest a b v w h ha hb = compare_chars_row test.Eq nat_eq eq_chars_alike words sizes l e t s c to rest a b v w h ha hb

pub char_lt_row : IsCodeOf builtin.CharLt (code_of builtin.CharLt)
char_lt_row words sizes l e t s c to rest a b v w h ha hb = compare_chars_row test.Lt nat_lt lt_chars_alike words sizes l e t s c to rest a b v w h ha hb

-- the character of a number
some_ascii : (x : ℤ) (n : ℕ) → ascii_of x ≡ Some n → (x ≡ pos n) × (n < 128)
some_ascii (pos m) n e' = ascii_by (nat_lt m 128) m n refl e'
  where
    ascii_by : (b : Bool) (m n : ℕ) → nat_lt m 128 ≡ b → (if b then Some m else None) ≡ Some n → (pos m ≡ pos n) × (n < 128)
    ascii_by true m n lt e' = let same : m ≡ n = cc in (ap pos same, subst (λ k. k < 128) same (ltb-true m 128 lt))
    ascii_by false m n lt e' = absurd (cc)
some_ascii (negsuc m) n e' = absurd (cc)

ascii_performs : (o : Option ℕ) (words : Words) (sizes : Sizes) (l : Layout) (e : Escapes) (t : ℕ) (s : State) (c : Core) (to : Var) (rest : Tree) (a : Operand) (x : ℤ) → ascii_of x ≡ o → IsFixnum x → word_in c a ≡ Some (Number (fixnum_word x)) → HoldsData sizes l e s c.storage c.next c.output
    → performs words sizes l e t s c to rest (or_fault o CharRange (λ n. Gives (CharV n))) 1 9 (Ask test.Below a (word 512) (make (kind.Shift (pos 6)) a (word 0) (var t) (make kind.Add (of_var t) (word 1) to rest)) (fault 14)) c
ascii_performs (Some n) words sizes l e t s c to rest a x found fix ea h =
    let is = some_ascii x n found in
    let d : Core = binding c (var t) (Number (256 * n)) None in
    let binds : Binds t c d = binds_one t c t (Number (256 * n)) None (omega arith) in
    let en : word_in c a ≡ Some (Number (fixnum_word (pos n))) = ea ∙ ap (λ z. Some (Number (fixnum_word z))) is.0 in
    let known : word_for l s (CharV n) ≡ Some (char_word n) = rw (lt-ltb n 128 is.1) refl in
    ask_performs_true words sizes _ (Number (fixnum_word x)) (Number 512) ea refl (ap Some (below_ascii x fix ∙ ap is_some found))
    (compute_performs words sizes _ (fixnum_word (pos n)) 0 (256 * n) en refl (char_bits n (omega (arith, is.1)))
    (compute_performs words sizes _ (256 * n) 1 (char_word n) (bound_word c t (Number (256 * n)) None) refl (char_of_bits n (omega (arith, is.1)))
    (arrive words sizes l e t s c to rest d (CharV n) (char_word n) None (keeps_binds sizes l e t s c c d (keeps_same sizes l e t s c h) binds) known)))
ascii_performs None words sizes l e t s c to rest a x found fix ea h =
    performs_more words sizes _ 9 (omega arith)
    (ask_performs_false words sizes _ (Number (fixnum_word x)) (Number 512) ea refl (ap Some (below_ascii x fix ∙ ap is_some found)) (fault_performs words sizes l e t s c to rest 14 CharRange c refl (keeps_same sizes l e t s c h)))

pub ascii_char_row : IsCodeOf builtin.AsciiToChar (code_of builtin.AsciiToChar)
ascii_char_row words sizes l e t s c to rest a v h ha =
    fixnum_performs_one words sizes l e t s c to rest 9 a v (λ x. rows.with_ascii x (λ n. Gives (CharV n))) _ ha h (omega arith)
    (λ x f ea. ascii_performs (ascii_of x) words sizes l e t s c to rest a x refl f ea h)
