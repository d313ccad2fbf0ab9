-- Frames, escapes and variables are held where data, stack and variables are kept, whatever is made.
use Rattle.std.proofs.Common.{◌≡◌, ℕ, ◌+◌, ◌*◌, ◌==◌, ◌||◌, Bool, true, false, if◌then◌else◌, List, [], ◌∷◌, slice_get, Option, Some, None, is_some, refl, sym, ap, ◌∙◌, subst, arith}
use Rattle.std.specs.List.{AllByRecursion, list_any}
use Rattle.std.proofs.lemmas.Bool.{eq-eqb}
use Rattle.t_prim.specs.Values.{EscapeV}
use Rattle.word_ir.specs.Word.{Word, Number}
use Rattle.word_ir.specs.Storage.{Sizes, HEAP_START, long_at, static_at}
use Rattle.word_ir.specs.Stamps.{Stamp, Live}
use Rattle.frame_ir.specs.Values.{Value, Lasting, InFrame, CellAt, Frame, captured_from}
use Rattle.frame_ir.specs.States.{State, AClosure, AnEscape, is_live, older_than}
use Rattle.word_trees.specs.Cores.{Core}
use Rattle.frame_words.specs.Layouts.{Layout, ClosureOf, INNER, fixed_place}
use Rattle.frame_words.specs.ValueWords.{heap_place, or_zero, val_word, word_for}
use Rattle.frame_words.specs.Contents.{Escapes}
use Rattle.frame_words.specs.Growing.{WordsStay}
use Rattle.frame_words.specs.Origins.{OnHeap}
use Rattle.frame_words.proofs.Values.{on_heap}
use Rattle.frame_stacks.specs.Stacks.{Stack, Ways, stack_of, frames_place, StandsFor}
use Rattle.frame_stacks.specs.Frames.{HoldsSlot, HoldsFrame, HoldsAll, HoldsFrames, HoldsEscapes, is_catch, inner_word}

-- ---- live frames are live

abbrev AllLive : List ℕ → List ℕ → Type 0
AllLive live births = AllByRecursion (λ b. list_any (λ x. x == b) live ≡ true) births

with_one_more : (y b : ℕ) (live : List ℕ) → list_any (λ x. x == b) live ≡ true → list_any (λ x. x == b) (y ∷ live) ≡ true
with_one_more y b live h = by_test (y == b) (list_any (λ x. x == b) live) h
  where
    by_test : (p q : Bool) → q ≡ true → (p || q) ≡ true
    by_test true q h = refl
    by_test false q h = h

all_with_more : (y : ℕ) (live births : List ℕ) → AllLive live births → AllLive (y ∷ live) births
all_with_more y live [] h = tt
all_with_more y live (b ∷ births) h = (with_one_more y b live h.0, all_with_more y live births h.1)

first_live : (y : ℕ) (live : List ℕ) → list_any (λ x. x == y) (y ∷ live) ≡ true
first_live y live = rw (eq-eqb y y refl) refl

all_live : (births : List ℕ) → AllLive births births
all_live [] = tt
all_live (y ∷ births) = (first_live y births, all_with_more y births births (all_live births))

older_by : (live : List ℕ) (birth y : ℕ) (births : List ℕ) (b : Bool) → AllLive live births → AllLive live (older_than birth births) → AllLive live (if b then births else older_than birth births)
older_by live birth y births true h k = h
older_by live birth y births false h k = k

older_live : (live : List ℕ) (birth : ℕ) (births : List ℕ) → AllLive live births → AllLive live (older_than birth births)
older_live live birth [] h = tt
older_live live birth (y ∷ births) h = older_by live birth y births (y == birth) h.1 (older_live live birth births h.1)

-- ---- a stack of equal parts

same_stack : (top top' : ℕ) (words words' : List Word) (stamps stamps' : List Stamp) (live live' : List Live) → top' ≡ top → words' ≡ words → stamps' ≡ stamps → live' ≡ live → (P : Stack → Type 0) → P (record { top = top; words = words; stamps = stamps; live = live }) → P (record { top = top'; words = words'; stamps = stamps'; live = live' })
same_stack top top' words words' stamps stamps' live live' a b c d P h =
    subst (λ x. P (record { top = x; words = words'; stamps = stamps'; live = live' })) (sym a)
    (subst (λ x. P (record { top = top; words = x; stamps = stamps'; live = live' })) (sym b)
    (subst (λ x. P (record { top = top; words = words; stamps = x; live = live' })) (sym c)
    (subst (λ x. P (record { top = top; words = words; stamps = stamps; live = x })) (sym d) h)))

-- ---- with other data

some_place : (o : Option ℕ) → is_some o ≡ true → (p : ℕ) × (o ≡ Some p)
some_place (Some p) h = (p, refl)
some_place None h = absurd (cc)

-- words of values are as before, and so are the stack, its stamps, the word of the innermost escape, and the stamps of frames in escapes
pub record KeepsFrames (l : Layout) (s u : State) (c d : Core) : Type 0 where
  pub words : WordsStay l s u
  pub top : d.top ≡ c.top
  pub stack : d.storage.stack ≡ c.storage.stack
  pub inner : long_at d.storage (static_at INNER) ≡ long_at c.storage (static_at INNER)
  pub stamps_of_stack : d.longs.stack ≡ c.longs.stack
  pub live : d.live ≡ c.live
  pub escapes : (birth p : ℕ) → heap_place s (AnEscape birth) ≡ Some p → slice_get d.longs.heap (p + 1) ≡ slice_get c.longs.heap (p + 1)

module _ (sizes : Sizes) (l : Layout) (e : Escapes) (g : Ways) (s v : State) (c d : Core) where
  -- with the frames of the first state
  abbrev pub changed : State
  changed = record v { frames = s.frames; live = s.live }

  pub stands_kept : WordsStay l s changed → (v : Value) (x : Word) (stamp : Stamp) → StandsFor sizes l g s v x stamp → StandsFor sizes l g changed v x stamp
  stands_kept words (Lasting v) x stamp h = record { number = h.number; known = words.captures (Lasting v) h.number h.known; is = h.is }
  stands_kept words (CellAt n) x stamp h = record { number = h.number; known = words.captures (CellAt n) h.number h.known; is = h.is }
  stands_kept words (InFrame b slot) x stamp h = record { number = h.number; is = h.is; tag = h.tag; pushed = h.pushed; address = h.address; stamped = h.stamped }

  module _ (k : KeepsFrames l s changed c d)
      (back : (birth : ℕ) → heap_place s (AnEscape birth) ≡ None → heap_place changed (AnEscape birth) ≡ None)
      (apart : (i p : ℕ) → fixed_place l (ClosureOf i) ≡ Some p → heap_place s (AClosure i) ≡ None → heap_place changed (AClosure i) ≡ None) where
    word_at : (birth p : ℕ) → heap_place s (AnEscape birth) ≡ Some p → word_for l s (EscapeV birth) ≡ Some (HEAP_START + 4 * p + 2)
    word_at birth p found = rw found refl

    -- an escape has its place in both
    place_stays : (birth p : ℕ) → heap_place s (AnEscape birth) ≡ Some p → heap_place changed (AnEscape birth) ≡ Some p
    place_stays birth p found =
        let o : OnHeap changed 2 (AnEscape birth) (HEAP_START + 4 * p + 2) = on_heap changed 2 (AnEscape birth) (HEAP_START + 4 * p + 2) (k.words.values (EscapeV birth) (HEAP_START + 4 * p + 2) (word_at birth p found)) in
        let same : o.place ≡ p = omega (arith, o.word) in
        o.found ∙ ap Some same

    was_at_by : (o : Option ℕ) (birth p : ℕ) → heap_place s (AnEscape birth) ≡ o → heap_place changed (AnEscape birth) ≡ Some p → o ≡ Some p
    was_at_by (Some q) birth p h found = let m : heap_place changed (AnEscape birth) ≡ Some q = place_stays birth q h in sym m ∙ found
    was_at_by None birth p h found = absurd (let m : heap_place changed (AnEscape birth) ≡ None = back birth h in cc)

    was_at : (birth p : ℕ) → heap_place changed (AnEscape birth) ≡ Some p → heap_place s (AnEscape birth) ≡ Some p
    was_at birth p found = was_at_by (heap_place s (AnEscape birth)) birth p refl found

    stands : (v : Value) (x : Word) (stamp : Stamp) → StandsFor sizes l g s v x stamp → StandsFor sizes l g changed v x stamp
    stands v x stamp h = stands_kept k.words v x stamp h

    -- ---- frames

    slot_kept : (w : Stack) (b place : ℕ) (f : Frame) (slot : ℕ) (v : Value) → HoldsSlot sizes l g s w b place f slot v → HoldsSlot sizes l g changed w b place f slot v
    slot_kept w b place f slot v h = record { within = h.within; word = h.word; stamp = h.stamp; stored = h.stored; stands = stands v h.word h.stamp h.stands }

    frame_kept : (w : Stack) (b : ℕ) (births : List ℕ) (place : ℕ) (f : Frame) → HoldsFrame sizes l g s w b births place f → HoldsFrame sizes l g changed w b births place f
    frame_kept w b births place f h = record {
      back = h.back;
      next = h.next;
      slots = λ slot v found. slot_kept w b place f slot v (h.slots slot v found);
      headers = h.headers;
      codes = h.codes;
      captured = λ slot i x v found there. slot_kept w b place f (captured_from slot + i) v (h.captured slot i x v found there);
      marks = h.marks;
      catches = h.catches;
    }

    all_kept : (w : Stack) (births : List ℕ) → HoldsAll sizes l g s w births → HoldsAll sizes l g changed w births
    all_kept w [] h = tt
    all_kept w (b ∷ births) h = (h.0, h.1, h.2, frame_kept w b births (frames_place sizes s.frames (b ∷ births)) h.0 h.3, all_kept w births h.4)

    frames_on : (w : Stack) → HoldsFrames sizes l g s w → HoldsFrames sizes l g changed w
    frames_on w h = record {
      whole = h.whole;
      small = h.small;
      room = h.room;
      top = h.top;
      words = h.words;
      stamps = h.stamps;
      marks = h.marks;
      frames = all_kept w s.live h.frames;
    }

    pub frames_held : HoldsFrames sizes l g s (stack_of c) → HoldsFrames sizes l g changed (stack_of d)
    frames_held h =
        same_stack c.top d.top c.storage.stack d.storage.stack c.longs.stack d.longs.stack c.live d.live k.top k.stack k.stamps_of_stack k.live (HoldsFrames sizes l g changed) (frames_on (stack_of c) h)

    -- ---- escapes

    module _ (h : HoldsEscapes sizes l e g s c) where
      escape_word : (birth : ℕ) → is_live s birth ≡ true → is_catch s birth ≡ true → val_word l changed (EscapeV birth) ≡ val_word l s (EscapeV birth)
      escape_word birth live catch =
          let p = some_place (heap_place s (AnEscape birth)) (h.made birth live catch) in
          let was : word_for l s (EscapeV birth) ≡ Some (HEAP_START + 4 * p.0 + 2) = word_at birth p.0 p.1 in
          ap or_zero (k.words.values (EscapeV birth) (HEAP_START + 4 * p.0 + 2) was ∙ sym was)

      inner_by : (birth : ℕ) (b : Bool) (x y : ℕ) → is_catch s birth ≡ b → is_live s birth ≡ true → x ≡ y → (if b then val_word l changed (EscapeV birth) else x) ≡ (if b then val_word l s (EscapeV birth) else y)
      inner_by birth true x y catch live same = escape_word birth live catch
      inner_by birth false x y catch live same = same

      inner_same : (births : List ℕ) → AllLive s.live births → inner_word l changed births ≡ inner_word l s births
      inner_same [] all = refl
      inner_same (birth ∷ births) all = inner_by birth (is_catch s birth) (inner_word l changed births) (inner_word l s births) refl all.0 (inner_same births all.1)

      pub escapes_held : HoldsEscapes sizes l e g changed d
      escapes_held = record {
        inner = k.inner ∙ (h.inner ∙ ap (λ n. Some (Number n)) (sym (inner_same s.live (all_live s.live))));
        made = λ birth live catch. let p = some_place (heap_place s (AnEscape birth)) (h.made birth live catch) in ap is_some (place_stays birth p.0 p.1);
        frames = λ birth p found. h.frames birth p (was_at birth p found);
        caught = λ birth p found. h.caught birth p (was_at birth p found);
        outer = λ birth live catch. h.outer birth live catch ∙ sym (inner_same (older_than birth s.live) (older_live s.live birth s.live (all_live s.live)));
        stamps = λ birth p found live. k.escapes birth p (was_at birth p found) ∙ h.stamps birth p (was_at birth p found) live;
        closures_apart = λ i p found. apart i p found (h.closures_apart i p found);
      }
