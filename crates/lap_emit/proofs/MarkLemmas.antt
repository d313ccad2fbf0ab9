-- Marks of several lists of blocks.
use Rattle.std.proofs.Common.{◌≡◌, ◌<◌, ◌≤◌, ◌+◌, List, [], ◌∷◌, ◌++◌, ℕ, refl, ap, ◌∙◌, sym, get_or, zero, suc, arith, length, take, append_assoc, append-nil}
use Rattle.std.proofs.lemmas.List.{take_more, get_or-set_other, length-set, length-replicate}
use Rattle.std.proofs.lemmas.Grind.{get_or-set_at}
use Rattle.std.proofs.lemmas.Bool.{eqb-true, eqb-false, ltb-true, ltb-false}
use Rattle.std.proofs.Math.Seq.{set_out}
use Rattle.word_ir.specs.declared.words.WordOp.{WordOp}
use Rattle.word_ir.specs.declared.words.WordEnd.{WordEnd}
use Rattle.word_ir.specs.Lines.{lines_from, codes_of, operand_code, op_operands, end_operands}
use Rattle.std.specs.Prelude.{Bool, true, slice_set, slice_get, Some}
use Rattle.std.specs.List.{flat_map}
use Rattle.std.proofs.lemmas.Grind.{flat_map-append}
use Rattle.std.specs.Prelude.{false, ◌==◌, ◌&&◌, ◌||◌, nat_lt, replicate}
use Rattle.std.specs.List.{list_any}
use Rattle.word_ir.specs.declared.words.Words.{Words}
use Rattle.word_ir.specs.Whole.{taken_blocks}
use Rattle.lap_items.specs.Ends.{is_taken}
use Rattle.lap_emit.specs.Marks.{marked, AreMarks}

pub marked_append : (marks : List Bool) (xs ys : List ℕ) → marked marks (xs ++ ys) ≡ marked (marked marks xs) ys
unfolding marked
marked_append marks [] ys = refl
marked_append marks (b ∷ xs) ys = marked_append (slice_set marks b true) xs ys

pub marked_none : (marks : List Bool) → marked marks [] ≡ marks
unfolding marked
marked_none marks = refl

pub marked_one : (marks : List Bool) (b : ℕ) → marked marks (b ∷ []) ≡ slice_set marks b true
unfolding marked
marked_one marks b = refl

pub marked_out : (marks : List Bool) (b : ℕ) → length marks ≤ b → marked marks (b ∷ []) ≡ marks
unfolding marked
marked_out marks b out = set_out marks b true out

-- the front of a list with one element more
pub flat_map_front : {X Y : Type 0} (f : X → List Y) (xs : List X) (i : ℕ) (x : X) → x ≡ get_or xs i x → i < length xs → flat_map f (take (i + 1) xs) ≡ flat_map f (take i xs) ++ f x
flat_map_front f xs i x is lt =
    ap (flat_map f) (take_more xs i x lt ∙ ap (λ y. take i xs ++ y ∷ []) (sym is))
    ∙ flat_map-append f (take i xs) (x ∷ [])
    ∙ ap (λ t. flat_map f (take i xs) ++ t) (append-nil (f x))

pub marked_step : {X : Type 0} (f : X → List ℕ) (marks now next : List Bool) (xs : List X) (i : ℕ) (x : X) → x ≡ get_or xs i x → i < length xs
    → now ≡ marked marks (flat_map f (take i xs)) → next ≡ marked now (f x) → next ≡ marked marks (flat_map f (take (i + 1) xs))
marked_step f marks now next xs i x is lt p q =
    q ∙ ap (λ m. marked m (f x)) p ∙ sym (marked_append marks (flat_map f (take i xs)) (f x)) ∙ ap (marked marks) (sym (flat_map_front f xs i x is lt))

-- the lines of a block are its operations and its end
pub codes_in_lines : (ops : List WordOp) (end : WordEnd) → flat_map codes_of (lines_from ops end) ≡ flat_map (λ o. flat_map operand_code (op_operands o)) ops ++ flat_map operand_code (end_operands end)
codes_in_lines [] end = append-nil (flat_map operand_code (end_operands end))
codes_in_lines (o ∷ ops) end =
    ap (λ t. flat_map operand_code (op_operands o) ++ t) (codes_in_lines ops end)
    ∙ sym (append_assoc (flat_map operand_code (op_operands o)) (flat_map (λ o. flat_map operand_code (op_operands o)) ops) (flat_map operand_code (end_operands end)))

-- inside of a list it doesn't matter what would be read past its end
pub read_any : {X : Type 0} (xs : List X) (i : ℕ) (d e : X) → i < length xs → get_or xs i d ≡ get_or xs i e
read_any [] i d e lt = absurd (omega arith)
read_any (x ∷ xs) zero d e lt = refl
read_any (x ∷ xs) (suc i) d e lt = read_any xs i d e (omega arith)

pub read_same : {X : Type 0} (xs : List X) (i : ℕ) (d : X) → i < length xs → get_or xs i d ≡ get_or xs i (get_or xs i d)
read_same xs i d lt = read_any xs i d (get_or xs i d) lt

-- ---- what the marks tell

set_tells : (marks : List Bool) (c b : ℕ) → get_or (slice_set marks c true) b false ≡ ((c == b) && nat_lt b (length marks)) || get_or marks b false
set_tells marks c b = by (c == b) refl (nat_lt b (length marks)) refl where
  by : (e : Bool) → (c == b) ≡ e → (l : Bool) → nat_lt b (length marks) ≡ l → get_or (slice_set marks c true) b false ≡ ((c == b) && nat_lt b (length marks)) || get_or marks b false
  by true e true l =
      let same : c ≡ b = eqb-true c b e in
      let inside : b < length marks = ltb-true b (length marks) l in
      let here : get_or (slice_set marks c true) b false ≡ true = get_or-set_at marks c b true false (sym same) (omega arith) in
      here ∙ sym (ap (λ x. (x && nat_lt b (length marks)) || get_or marks b false) e ∙ ap (λ x. (true && x) || get_or marks b false) l)
  by true e false l =
      let same : c ≡ b = eqb-true c b e in
      let outside : length marks ≤ b = ltb-false b (length marks) l in
      ap (λ xs. get_or xs b false) (set_out marks c true (omega arith))
      ∙ sym (ap (λ x. (x && nat_lt b (length marks)) || get_or marks b false) e ∙ ap (λ x. (true && x) || get_or marks b false) l)
  by false e _ l =
      get_or-set_other marks c b true false (λ same. eqb-false c b e (sym same)) ∙ sym (ap (λ x. (x && nat_lt b (length marks)) || get_or marks b false) e)

nothing_more : (l g : Bool) → g ≡ (l && false) || g
nothing_more true g = refl
nothing_more false g = refl

one_more : (l a e g : Bool) → (l && a) || ((e && l) || g) ≡ (l && (e || a)) || g
one_more true true true g = refl
one_more true true false g = refl
one_more true false true g = refl
one_more true false false g = refl
one_more false a true g = refl
one_more false a false g = refl

marked_tells : (marks : List Bool) (bs : List ℕ) (b : ℕ) → get_or (marked marks bs) b false ≡ (nat_lt b (length marks) && list_any (λ c. c == b) bs) || get_or marks b false
unfolding marked
marked_tells marks [] b = nothing_more (nat_lt b (length marks)) (get_or marks b false)
marked_tells marks (c ∷ bs) b =
    marked_tells (slice_set marks c true) bs b
    ∙ ap (λ n. (nat_lt b n && list_any (λ c. c == b) bs) || get_or (slice_set marks c true) b false) (length-set marks c true)
    ∙ ap (λ g. (nat_lt b (length marks) && list_any (λ c. c == b) bs) || g) (set_tells marks c b)
    ∙ one_more (nat_lt b (length marks)) (list_any (λ c. c == b) bs) (c == b) (get_or marks b false)

no_mark : (n b : ℕ) → get_or (replicate n false) b false ≡ false
no_mark zero b = refl
no_mark (suc n) zero = refl
no_mark (suc n) (suc b) = no_mark n b

or_false : (x : Bool) → x || false ≡ x
or_false true = refl
or_false false = refl

pub marks_tell : (marks : List Bool) (words : Words) (b : ℕ) → AreMarks marks words → get_or marks b false ≡ is_taken words b
unfolding is_taken
marks_tell marks words b are =
    let none : List Bool = replicate (length words.blocks.items) false in
    ap (λ m. get_or m b false) are ∙ marked_tells none (taken_blocks words) b
    ∙ ap (λ n. (nat_lt b n && list_any (λ c. c == b) (taken_blocks words)) || get_or none b false) (length-replicate (length words.blocks.items) false)
    ∙ ap (λ g. (nat_lt b (length words.blocks.items) && list_any (λ c. c == b) (taken_blocks words)) || g) (no_mark (length words.blocks.items) b)
    ∙ or_false (nat_lt b (length words.blocks.items) && list_any (λ c. c == b) (taken_blocks words))

-- there is nothing past the end of a list
pub past_end : (marks : List Bool) (b : ℕ) → length marks ≤ b → get_or marks b false ≡ false
past_end [] b out = refl
past_end (m ∷ marks) zero out = absurd (omega arith)
past_end (m ∷ marks) (suc b) out = past_end marks b (omega arith)

-- what is written for one element more
pub written_step : {X Y : Type 0} (f : X → List Y) (start now next : List Y) (xs : List X) (i : ℕ) (x : X) → x ≡ get_or xs i x → i < length xs
    → now ≡ start ++ flat_map f (take i xs) → next ≡ now ++ f x → next ≡ start ++ flat_map f (take (i + 1) xs)
written_step f start now next xs i x is lt p q = q ∙ ap (λ t. t ++ f x) p ∙ append_assoc start (flat_map f (take i xs)) (f x) ∙ ap (λ t. start ++ t) (sym (flat_map_front f xs i x is lt))

pub got : {X : Type 0} (xs : List X) (n : ℕ) (x : X) → x ≡ get_or xs n x → n < length xs → slice_get xs n ≡ Some x
got [] n x is lt = absurd (omega arith)
got (y ∷ xs) zero x is lt = ap Some (sym is)
got (y ∷ xs) (suc n) x is lt = got xs n x is (omega arith)
