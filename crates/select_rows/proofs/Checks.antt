-- Each check of operands performs what the row says of it, where the tree behind it performs the rest of the row.
use Rattle.std.proofs.Common.{◌≡◌, ℕ, zero, suc, ◌+◌, ◌%◌, ◌<◌, ◌≤◌, ◌==◌, nat_lt, Bool, true, false, List, [], ◌∷◌, length, slice_get, Option, Some, None, is_some, ℤ, pos, negsuc, refl, sym, ap, ◌∙◌, subst, arith}
use Rattle.std.proofs.lemmas.Bool.{ne_eqb, eq-eqb, eqb-true, eqb-false, lt-ltb, le-ltb}
use Rattle.std.proofs.lemmas.Bool.Decides.{nat_tests}
use Rattle.program_runs.specs.Runs.{Faulted}
use Rattle.t_base.specs.declared.basics.Var.{Var}
use Rattle.t_base.specs.declared.faults.Fault.{Fault}
use Rattle.t_base.specs.declared.faults.Fault.TheVariants.{NotFixnum, NotPair, IndexRange, NotChar}
use Rattle.t_prim.specs.Values.{Val, FixV, CharV, PairV}
use Rattle.t_prim.specs.Kinds.{fixnum_of, char_of, pair_of}
use Rattle.t_prim.specs.Operands.{Row, Faults, or_fault, with_fixnum, with_char, with_element}
use Rattle.word_ir.specs.declared.operands.Operand.{Operand}
use Rattle.word_ir.specs.declared.words.Test.TheVariants as test
use Rattle.word_ir.specs.declared.words.Words.{Words}
use Rattle.word_ir.specs.Word.{Number, moved}
use Rattle.word_ir.specs.Storage.{Sizes, long_at}
use Rattle.word_ir.specs.Computing.{compared}
use Rattle.word_ir.specs.Effects.{service_effect}
use Rattle.word_ir.specs.Effects as effects
use Rattle.word_ir.specs.Step.{words_in}
use Rattle.word_ir.specs.Stamps.{Stamped, Stamp}
use Rattle.frame_ir.specs.States.{State}
use Rattle.tagged_words.specs.Tags.{IsFixnum, fixnum_word}
use Rattle.tagged_words.proofs.Fixnums.{below_length}
use Rattle.tagged_words.proofs.Chars.{low_byte, char_byte}
use Rattle.word_trees.specs.Trees.{Tree, Ask}
use Rattle.word_trees.specs.Cores.{Core, at, word_in, some_stamp, binding}
use Rattle.word_trees.specs.Leads.{Performs}
use Rattle.word_trees.proofs.Operations.{service_ends}
use Rattle.word_trees.proofs.Performing.{performs_more, ends, load_performs, compute_performs, ask_performs_true, ask_performs_false}
use Rattle.frame_words.specs.Layouts.{Layout}
use Rattle.frame_words.specs.ValueWords.{word_for, tag_of, header_of}
use Rattle.frame_words.specs.Contents.{Escapes}
use Rattle.frame_words.specs.Origins.{IsRead}
use Rattle.frame_words.proofs.Values.{tag_is, header_is, fixnum_is, char_is, IsFixnumWord, IsCharWord}
use Rattle.select_rows.specs.Macros.{fault, fixnum, pair, object, character, index, var, of_var, word, never}
use Rattle.select_rows.specs.Kept.{Has, Keeps, Binds, Comes}
use Rattle.select_rows.proofs.Keeping.{may_read, keeps_binds, binds_one, bound_word}
use Rattle.select_rows.proofs.KindTags.{fixnum_some, fixnum_none, pair_some, pair_none, char_some, HasHeader, has_header, no_header, not_char}

next_test : (i n : ℕ) → nat_lt i n ≡ nat_lt (suc i) (suc n)
next_test i n = grind (arith, nat_tests)

place_there : {X : Type 0} (items : List X) (i : ℕ) → is_some (slice_get items i) ≡ nat_lt i (length items)
place_there [] i = sym (le-ltb i 0 (omega arith))
place_there (x ∷ items) zero = sym (lt-ltb 0 (suc (length items)) (omega arith))
place_there (x ∷ items) (suc i) = place_there items i ∙ next_test i (length items)

module _ (words : Words) (sizes : Sizes) (l : Layout) (e : Escapes) (t : ℕ) (s : State) (start : Core) (to : Var) (rest : Tree) where
  abbrev pub Comes_to : Row → Stamped → Type 0
  Comes_to row x = Comes words sizes l e t s start to rest row x

  -- ---- faults

  pub fault_performs : (number : ℕ) (f : Fault) (c : Core) → service_effect (words_in words sizes) (at c 0 0 0 0).state 3 (number ∷ []) ≡ effects.Ends (Faulted f) → Keeps sizes l e t s s start c → Performs words sizes (Comes_to (Faults f)) 1 2 (fault number) c
  fault_performs number f c served keeps =
      ends words sizes (Comes_to (Faults f)) 2 (fault number) c (Faulted f) (service_ends words sizes c 3 (word number) number (Faulted f) never refl served)
      (λ block place moves steps. record { core = c; keeps = keeps; block = block; place = place; moves = moves; steps = steps; there = refl })

  -- ---- tests of tags

  tag_test : (tag n k : ℕ) → n % 4 ≡ k → compared (test.TagIs tag) (Number n) (Number 0) ≡ Some (k == tag)
  tag_test tag n k e = ap (λ a. Some (a == tag)) e

  -- a value with another tag
  pub wrong_tag : (row : Row) (tag number k : ℕ) (c : Core) (a : Operand) (v : Val) (tail : Tree) → Has l s t c a v → (tag_of v == tag) ≡ false → 2 ≤ k → Performs words sizes (Comes_to row) 1 2 (fault number) c → Performs words sizes (Comes_to row) 1 (3 + k) (Ask (test.TagIs tag) a (word 0) tail (fault number)) c
  wrong_tag row tag number k c a v tail h differs le p =
      performs_more words sizes (Comes_to row) (3 + k) (omega (arith, le))
      (ask_performs_false words sizes (Comes_to row) (Number h.number) (Number 0) h.held refl (tag_test tag h.number (tag_of v) (tag_is l s v h.number h.is) ∙ ap Some differs) p)

  pub right_tag : (row : Row) (tag k : ℕ) (c : Core) (a : Operand) (v : Val) (tail other : Tree) → Has l s t c a v → (tag_of v == tag) ≡ true → Performs words sizes (Comes_to row) 1 k tail c → Performs words sizes (Comes_to row) 1 (3 + k) (Ask (test.TagIs tag) a (word 0) tail other) c
  right_tag row tag k c a v tail other h same p =
      ask_performs_true words sizes (Comes_to row) (Number h.number) (Number 0) h.held refl (tag_test tag h.number (tag_of v) (tag_is l s v h.number h.is) ∙ ap Some same) p

  -- ---- fixnums

  fixnum_by : (o : Option ℤ) (k : ℕ) (c : Core) (a : Operand) (v : Val) (go : ℤ → Row) (tail : Tree) → fixnum_of v ≡ o → Has l s t c a v → Keeps sizes l e t s s start c → 2 ≤ k → ((x : ℤ) → v ≡ FixV x → Performs words sizes (Comes_to (go x)) 1 k tail c) → Performs words sizes (Comes_to (or_fault o NotFixnum go)) 1 (3 + k) (fixnum a tail) c
  fixnum_by (Some x) k c a v go tail found h keeps le p =
      let is : v ≡ FixV x = fixnum_some v x found in
      right_tag (go x) 0 k c a v tail (fault 3) h (ap (λ y. tag_of y == 0) is) (p x is)
  fixnum_by None k c a v go tail found h keeps le p = wrong_tag (Faults NotFixnum) 0 3 k c a v tail h (fixnum_none v found) le (fault_performs 3 NotFixnum c refl keeps)

  pub fixnum_performs : (k : ℕ) (c : Core) (a : Operand) (v : Val) (go : ℤ → Row) (tail : Tree) → Has l s t c a v → Keeps sizes l e t s s start c → 2 ≤ k → ((x : ℤ) → v ≡ FixV x → Performs words sizes (Comes_to (go x)) 1 k tail c) → Performs words sizes (Comes_to (with_fixnum v go)) 1 (3 + k) (fixnum a tail) c
  fixnum_performs k c a v go tail h keeps le p = fixnum_by (fixnum_of v) k c a v go tail refl h keeps le p

  -- the word of a fixnum
  pub fixnum_held : (c : Core) (a : Operand) (v : Val) (x : ℤ) → Has l s t c a v → v ≡ FixV x → IsFixnum x × (word_in c a ≡ Some (Number (fixnum_word x)))
  fixnum_held c a v x h is = let w : IsFixnumWord x h.number = fixnum_is l s x h.number (subst (λ y. word_for l s y ≡ Some h.number) is h.is) in (w.fixnum, h.held ∙ ap (λ n. Some (Number n)) w.word)

  -- ---- pairs

  pair_by : (o : Option ℕ) (k : ℕ) (c : Core) (a : Operand) (v : Val) (go : ℕ → Row) (tail : Tree) → pair_of v ≡ o → Has l s t c a v → Keeps sizes l e t s s start c → 2 ≤ k → ((x : ℕ) → v ≡ PairV x → Performs words sizes (Comes_to (go x)) 1 k tail c) → Performs words sizes (Comes_to (or_fault o NotPair go)) 1 (3 + k) (pair a tail) c
  pair_by (Some x) k c a v go tail found h keeps le p =
      let is : v ≡ PairV x = pair_some v x found in
      right_tag (go x) 3 k c a v tail (fault 4) h (ap (λ y. tag_of y == 3) is) (p x is)
  pair_by None k c a v go tail found h keeps le p = wrong_tag (Faults NotPair) 3 4 k c a v tail h (pair_none v found) le (fault_performs 4 NotPair c refl keeps)

  pub pair_performs : (k : ℕ) (c : Core) (a : Operand) (v : Val) (go : ℕ → Row) (tail : Tree) → Has l s t c a v → Keeps sizes l e t s s start c → 2 ≤ k → ((x : ℕ) → v ≡ PairV x → Performs words sizes (Comes_to (go x)) 1 k tail c) → Performs words sizes (Comes_to (or_fault (pair_of v) NotPair go)) 1 (3 + k) (pair a tail) c
  pair_performs k c a v go tail h keeps le p = pair_by (pair_of v) k c a v go tail refl h keeps le p

  -- ---- objects: the header is bound on the way

  -- what is the same row
  as_row : (row other : Row) (least k : ℕ) (tree : Tree) (c : Core) → row ≡ other → Performs words sizes (Comes_to other) least k tree c → Performs words sizes (Comes_to row) least k tree c
  as_row row other least k tree c same p = subst (λ r. Performs words sizes (Comes_to r) least k tree c) (sym same) p

  header_by : (b : Bool) (u hd header number k : ℕ) (f : Fault) (c : Core) (row : Row) (tail : Tree) → (hd == header) ≡ b → word_in c (of_var u) ≡ Some (Number hd) → 2 ≤ k → Performs words sizes (Comes_to (Faults f)) 1 2 (fault number) c → (b ≡ false → row ≡ Faults f) → (b ≡ true → Performs words sizes (Comes_to row) 1 k tail c) → Performs words sizes (Comes_to row) 1 (3 + k) (Ask test.Eq (of_var u) (word header) tail (fault number)) c
  header_by true u hd header number k f c row tail same held two fails other p = ask_performs_true words sizes (Comes_to row) (Number hd) (Number header) held refl (ap Some same) (p refl)
  header_by false u hd header number k f c row tail same held two fails other p =
      performs_more words sizes (Comes_to row) (3 + k) (omega (arith, two))
      (ask_performs_false words sizes (Comes_to row) (Number hd) (Number header) held refl (ap Some same) (as_row row (Faults f) 1 2 (fault number) c (other refl) fails))

  object_by : (b : Bool) (u header number k : ℕ) (f : Fault) (c : Core) (a : Operand) (v : Val) (row : Row) (tail : Tree) → t ≤ u → (tag_of v == 2) ≡ b → Has l s t c a v → Keeps sizes l e t s s start c → 2 ≤ k
      → ((d : Core) → Keeps sizes l e t s s start d → Performs words sizes (Comes_to (Faults f)) 1 2 (fault number) d)
      → ((hd : ℕ) → header_of v ≡ Some hd → (hd == header) ≡ false → row ≡ Faults f)
      → (b ≡ false → row ≡ Faults f)
      → ((d : Core) → header_of v ≡ Some header → Binds t c d → Performs words sizes (Comes_to row) 1 k tail d)
      → Performs words sizes (Comes_to row) 1 (3 + (2 + (3 + k))) (object a header number u tail) c
  object_by false u header number k f c a v row tail le same h keeps two fails other none p =
      wrong_tag row 2 number (2 + (3 + k)) c a v _ h same (omega arith) (as_row row (Faults f) 1 2 (fault number) c (none refl) (fails c keeps))
  object_by true u header number k f c a v row tail le same h keeps two fails other none p =
      let hd : HasHeader v = has_header v (eqb-true (tag_of v) 2 same) in
      let read : IsRead c.storage (moved h.number (negsuc 1)) (Number hd.header) = header_is sizes l e s c.storage c.next c.output keeps.data_held v h.number hd.header h.is hd.is in
      let stamp : Stamp = some_stamp (long_at c.longs (moved h.number (negsuc 1))) in
      let d : Core = binding c (var u) (Number hd.header) stamp in
      let b : Binds t c d = binds_one t c u (Number hd.header) stamp le in
      right_tag row 2 (2 + (3 + k)) c a v _ (fault number) h same
      (load_performs words sizes (Comes_to row) h.number (Number hd.header) h.held read.reads (may_read words sizes c a (moved h.number (negsuc 1)) read.outside)
      (header_by (hd.header == header) u hd.header header number k f d row tail refl (bound_word c u (Number hd.header) stamp) two (fails d (keeps_binds sizes l e t s start c d keeps b))
      (λ differs. other hd.header hd.is differs) (λ equal. p d (hd.is ∙ ap Some (eqb-true hd.header header equal)) b)))

  -- an object of a kind that only one header has
  pub object_performs : (u header number k : ℕ) (f : Fault) (c : Core) (a : Operand) (v : Val) (row : Row) (tail : Tree) → t ≤ u → Has l s t c a v → Keeps sizes l e t s s start c → 2 ≤ k
      → ((d : Core) → Keeps sizes l e t s s start d → Performs words sizes (Comes_to (Faults f)) 1 2 (fault number) d)
      → ((header_of v ≡ Some header → ⊥) → row ≡ Faults f)
      → ((d : Core) → header_of v ≡ Some header → Binds t c d → Performs words sizes (Comes_to row) 1 k tail d)
      → Performs words sizes (Comes_to row) 1 (3 + (2 + (3 + k))) (object a header number u tail) c
  object_performs u header number k f c a v row tail le h keeps two fails other p =
      object_by (tag_of v == 2) u header number k f c a v row tail le refl h keeps two fails
      (λ hd is differs. other (λ there. let same : hd ≡ header = cc in eqb-false hd header differs same))
      (λ no. other (λ there. no_header v header no there)) p

  -- ---- characters: the low byte is bound on the way

  char_by : (o : Option ℕ) (u n k : ℕ) (c : Core) (v : Val) (go : ℕ → Row) (tail : Tree) → char_of v ≡ o → word_for l s v ≡ Some n → word_in c (of_var u) ≡ Some (Number (n % 256)) → Keeps sizes l e t s s start c → 2 ≤ k → ((x : ℕ) → v ≡ CharV x → Performs words sizes (Comes_to (go x)) 1 k tail c) → Performs words sizes (Comes_to (or_fault o NotChar go)) 1 (3 + k) (Ask test.Eq (of_var u) (word 1) tail (fault 12)) c
  char_by (Some x) u n k c v go tail found is held keeps two p =
      let same : v ≡ CharV x = char_some v x found in
      let w : IsCharWord x n = char_is l s x n (subst (λ y. word_for l s y ≡ Some n) same is) in
      let one : n % 256 ≡ 1 = ap (λ m. m % 256) w.word ∙ char_byte x in
      ask_performs_true words sizes (Comes_to (go x)) (Number (n % 256)) (Number 1) held refl (ap Some (eq-eqb (n % 256) 1 one)) (p x same)
  char_by None u n k c v go tail found is held keeps two p =
      performs_more words sizes (Comes_to (Faults NotChar)) (3 + k) (omega (arith, two))
      (ask_performs_false words sizes (Comes_to (Faults NotChar)) (Number (n % 256)) (Number 1) held refl (ap Some (ne_eqb (n % 256) 1 (not_char l s v n found is))) (fault_performs 12 NotChar c refl keeps))

  pub char_performs : (u k : ℕ) (c : Core) (a : Operand) (v : Val) (go : ℕ → Row) (tail : Tree) → t ≤ u → Has l s t c a v → Keeps sizes l e t s s start c → 2 ≤ k → ((d : Core) (x : ℕ) → v ≡ CharV x → Binds t c d → Performs words sizes (Comes_to (go x)) 1 k tail d) → Performs words sizes (Comes_to (with_char v go)) 1 (3 + (3 + k)) (character a u tail) c
  char_performs u k c a v go tail le h keeps two p =
      let d : Core = binding c (var u) (Number (h.number % 256)) None in
      let b : Binds t c d = binds_one t c u (Number (h.number % 256)) None le in
      compute_performs words sizes (Comes_to (with_char v go)) h.number 255 (h.number % 256) h.held refl (low_byte h.number)
      (char_by (char_of v) u h.number k d v go tail refl h.is (bound_word c u (Number (h.number % 256)) None) (keeps_binds sizes l e t s start c d keeps b) two (λ x is. p d x is b))

  -- ---- places of lists

  index_by : {X : Type 0} (o : Option X) (b : Bool) (x n k : ℕ) (c : Core) (i length : Operand) (go : X → Row) (tail : Tree) → word_in c i ≡ Some (Number x) → word_in c length ≡ Some (Number n) → nat_lt x n ≡ b → is_some o ≡ b → Keeps sizes l e t s s start c → 2 ≤ k → ((y : X) → o ≡ Some y → Performs words sizes (Comes_to (go y)) 1 k tail c) → Performs words sizes (Comes_to (or_fault o IndexRange go)) 1 (3 + k) (index i length tail) c
  index_by (Some y) true x n k c i length go tail e f lt some keeps two p = ask_performs_true words sizes (Comes_to (go y)) (Number x) (Number n) e f (ap Some lt) (p y refl)
  index_by (Some y) false x n k c i length go tail e f lt some keeps two p = absurd (cc)
  index_by None true x n k c i length go tail e f lt some keeps two p = absurd (cc)
  index_by None false x n k c i length go tail e f lt some keeps two p =
      performs_more words sizes (Comes_to (Faults IndexRange)) (3 + k) (omega (arith, two))
      (ask_performs_false words sizes (Comes_to (Faults IndexRange)) (Number x) (Number n) e f (ap Some lt) (fault_performs 6 IndexRange c refl keeps))

  -- the place is there, and what stands at it
  index_at : {X : Type 0} (x : ℤ) (items : List X) (k : ℕ) (c : Core) (i size : Operand) (go : ℕ → X → Row) (tail : Tree) → IsFixnum x → word_in c i ≡ Some (Number (fixnum_word x)) → word_in c size ≡ Some (Number (fixnum_word (pos (length items)))) → length items < 536870912 → Keeps sizes l e t s s start c → 2 ≤ k → ((place : ℕ) (y : X) → x ≡ pos place → slice_get items place ≡ Some y → Performs words sizes (Comes_to (go place y)) 1 k tail c) → Performs words sizes (Comes_to (with_element items x go)) 1 (3 + k) (index i size tail) c
  index_at (pos place) items k c i size go tail fix e f short keeps two p =
      index_by (slice_get items place) (is_some (slice_get items place)) (fixnum_word (pos place)) (fixnum_word (pos (length items))) k c i size (go place) tail e f
      (below_length (pos place) (length items) fix short ∙ sym (place_there items place)) refl keeps two (λ y found. p place y refl found)
  index_at (negsuc n) items k c i size go tail fix e f short keeps two p =
      performs_more words sizes (Comes_to (Faults IndexRange)) (3 + k) (omega (arith, two))
      (ask_performs_false words sizes (Comes_to (Faults IndexRange)) (Number (fixnum_word (negsuc n))) (Number (fixnum_word (pos (length items)))) e f
      (ap Some (below_length (negsuc n) (length items) fix short)) (fault_performs 6 IndexRange c refl keeps))

  pub index_performs : {X : Type 0} (x : ℤ) (items : List X) (k : ℕ) (c : Core) (i size : Operand) (go : ℕ → X → Row) (tail : Tree) → IsFixnum x → word_in c i ≡ Some (Number (fixnum_word x)) → word_in c size ≡ Some (Number (fixnum_word (pos (length items)))) → length items < 536870912 → Keeps sizes l e t s s start c → 2 ≤ k → ((place : ℕ) (y : X) → x ≡ pos place → slice_get items place ≡ Some y → Performs words sizes (Comes_to (go place y)) 1 k tail c) → Performs words sizes (Comes_to (with_element items x go)) 1 (3 + k) (index i size tail) c
  index_performs x items k c i size go tail fix e f short keeps two p = index_at x items k c i size go tail fix e f short keeps two p
