-- Frames, escapes and variables are held where a row keeps data, stack and variables.
use Rattle.std.proofs.Common.{◌≡◌, ℕ, ◌+◌, ◌*◌, ◌==◌, ◌||◌, nat_lt, Bool, true, false, if◌then◌else◌, List, [], ◌∷◌, ◌++◌, length, Option, Some, None, is_some, refl, sym, ap, ◌∙◌, subst, arith}
use Rattle.std.specs.List.{AllByRecursion, list_any}
use Rattle.std.proofs.lemmas.Bool.{eq-eqb}
use Rattle.t_prim.specs.Values.{Val, Store, FixV, CharV, NilV, TrueV, SymbolV, StringV, PairV, VectorV, ClosureV, ObjectV, OperationV, BuiltinV, EscapeV}
use Rattle.word_ir.specs.Word.{Word, Number}
use Rattle.word_ir.specs.Storage.{Sizes, Regions, HEAP_START}
use Rattle.word_ir.specs.Stamps.{Stamp, Live}
use Rattle.frame_ir.specs.Values.{Value, Lasting, InFrame, CellAt, Frame, Env, captured_from}
use Rattle.frame_ir.specs.States.{State, Doing, Thing, APair, AVector, AClosure, AnEscape, is_live, older_than, thing_words, with_store, new_things}
use Rattle.word_trees.specs.Cores.{Core, some_stamp}
use Rattle.frame_words.specs.Segments.{place_of}
use Rattle.frame_words.specs.Layouts.{Layout}
use Rattle.frame_words.specs.ValueWords.{same_thing, heap_place, or_zero, val_word, word_for, captured_for}
use Rattle.frame_words.specs.Contents.{Escapes}
use Rattle.frame_words.specs.Holding.{HoldsData}
use Rattle.frame_words.specs.Origins.{OnHeap}
use Rattle.frame_words.proofs.Segments.{missed, later_place}
use Rattle.frame_words.proofs.Values.{on_heap}
use Rattle.select_rows.specs.Kept.{Keeps}
use Rattle.frame_stacks.specs.Stacks.{Stack, Ways, stack_of, frames_place, StandsFor}
use Rattle.frame_stacks.specs.Frames.{HoldsSlot, HoldsFrame, HoldsAll, HoldsFrames, HoldsEscapes, HoldsVariable, Holds, is_catch, inner_word}

-- ---- what isn't found isn't found among more

none_more : (size size' : Thing → ℕ) (xs ys : List Thing) (x : Thing) → place_of same_thing size xs x ≡ None → place_of same_thing size' ys x ≡ None → place_of same_thing size' (xs ++ ys) x ≡ None
none_more size size' [] ys x h k = k
none_more size size' (y ∷ xs) ys x h k =
    let m = missed same_thing size y x xs h in
    later_place same_thing size' y x (xs ++ ys) None m.0 (none_more size size' xs ys x m.1 k)

no_escape_by : (size : Thing → ℕ) (a b : Bool) (p v birth : ℕ) → place_of same_thing size ((if a then APair p ∷ [] else []) ++ (if b then AVector v ∷ [] else [])) (AnEscape birth) ≡ None
no_escape_by size true true p v birth = refl
no_escape_by size true false p v birth = refl
no_escape_by size false true p v birth = refl
no_escape_by size false false p v birth = refl

no_closure_by : (size : Thing → ℕ) (a b : Bool) (p v i : ℕ) → place_of same_thing size ((if a then APair p ∷ [] else []) ++ (if b then AVector v ∷ [] else [])) (AClosure i) ≡ None
no_closure_by size true true p v i = refl
no_closure_by size true false p v i = refl
no_closure_by size false true p v i = refl
no_closure_by size false false p v i = refl

no_new_escape : (size : Thing → ℕ) (old new : Store) (birth : ℕ) → place_of same_thing size (new_things old new) (AnEscape birth) ≡ None
no_new_escape size old new birth = no_escape_by size (nat_lt (length old.pairs) (length new.pairs)) (nat_lt (length old.vectors) (length new.vectors)) (length old.pairs) (length old.vectors) birth

no_new_closure : (size : Thing → ℕ) (old new : Store) (i : ℕ) → place_of same_thing size (new_things old new) (AClosure i) ≡ None
no_new_closure size old new i = no_closure_by size (nat_lt (length old.pairs) (length new.pairs)) (nat_lt (length old.vectors) (length new.vectors)) (length old.pairs) (length old.vectors) i

-- ---- live frames are live

abbrev AllLive : List ℕ → List ℕ → Type 0
AllLive live births = AllByRecursion (λ b. list_any (λ x. x == b) live ≡ true) births

with_one_more : (y b : ℕ) (live : List ℕ) → list_any (λ x. x == b) live ≡ true → list_any (λ x. x == b) (y ∷ live) ≡ true
with_one_more y b live h = by_test (y == b) (list_any (λ x. x == b) live) h
  where
    by_test : (p q : Bool) → q ≡ true → (p || q) ≡ true
    by_test true q h = refl
    by_test false q h = h

all_with_more : (y : ℕ) (live births : List ℕ) → AllLive live births → AllLive (y ∷ live) births
all_with_more y live [] h = tt
all_with_more y live (b ∷ births) h = (with_one_more y b live h.0, all_with_more y live births h.1)

first_live : (y : ℕ) (live : List ℕ) → list_any (λ x. x == y) (y ∷ live) ≡ true
first_live y live = rw (eq-eqb y y refl) refl

all_live : (births : List ℕ) → AllLive births births
all_live [] = tt
all_live (y ∷ births) = (first_live y births, all_with_more y births births (all_live births))

older_by : (live : List ℕ) (birth y : ℕ) (births : List ℕ) (b : Bool) → AllLive live births → AllLive live (older_than birth births) → AllLive live (if b then births else older_than birth births)
older_by live birth y births true h k = h
older_by live birth y births false h k = k

older_live : (live : List ℕ) (birth : ℕ) (births : List ℕ) → AllLive live births → AllLive live (older_than birth births)
older_live live birth [] h = tt
older_live live birth (y ∷ births) h = older_by live birth y births (y == birth) h.1 (older_live live birth births h.1)

-- ---- a stack of equal parts

same_stack : (top top' : ℕ) (words words' : List Word) (stamps stamps' : List Stamp) (live live' : List Live) → top' ≡ top → words' ≡ words → stamps' ≡ stamps → live' ≡ live → (P : Stack → Type 0) → P (record { top = top; words = words; stamps = stamps; live = live }) → P (record { top = top'; words = words'; stamps = stamps'; live = live' })
same_stack top top' words words' stamps stamps' live live' a b c d P h =
    subst (λ x. P (record { top = x; words = words'; stamps = stamps'; live = live' })) (sym a)
    (subst (λ x. P (record { top = top; words = x; stamps = stamps'; live = live' })) (sym b)
    (subst (λ x. P (record { top = top; words = words; stamps = x; live = live' })) (sym c)
    (subst (λ x. P (record { top = top; words = words; stamps = stamps; live = x })) (sym d) h)))

-- ---- with other data

some_place : (o : Option ℕ) → is_some o ≡ true → (p : ℕ) × (o ≡ Some p)
some_place (Some p) h = (p, refl)
some_place None h = absurd (cc)

module _ (sizes : Sizes) (l : Layout) (e : Escapes) (g : Ways) (t : ℕ) (s : State) (store : Store) (made : List Thing) (moves : ℕ) (doing : Doing) (c d : Core) where
  abbrev changed : State
  changed = record s { store = store; made = made; moves = moves; doing = doing }

  module _ (k : Keeps sizes l e t s changed c d)
      (back : (birth : ℕ) → heap_place s (AnEscape birth) ≡ None → heap_place changed (AnEscape birth) ≡ None)
      (apart : (i : ℕ) → heap_place s (AClosure i) ≡ None → heap_place changed (AClosure i) ≡ None) where
    word_at : (birth p : ℕ) → heap_place s (AnEscape birth) ≡ Some p → word_for l s (EscapeV birth) ≡ Some (HEAP_START + 4 * p + 2)
    word_at birth p found = rw found refl

    -- an escape has its place in both
    place_stays : (birth p : ℕ) → heap_place s (AnEscape birth) ≡ Some p → heap_place changed (AnEscape birth) ≡ Some p
    place_stays birth p found =
        let o : OnHeap changed 2 (AnEscape birth) (HEAP_START + 4 * p + 2) = on_heap changed 2 (AnEscape birth) (HEAP_START + 4 * p + 2) (k.words.values (EscapeV birth) (HEAP_START + 4 * p + 2) (word_at birth p found)) in
        let same : o.place ≡ p = omega (arith, o.word) in
        o.found ∙ ap Some same

    was_at_by : (o : Option ℕ) (birth p : ℕ) → heap_place s (AnEscape birth) ≡ o → heap_place changed (AnEscape birth) ≡ Some p → o ≡ Some p
    was_at_by (Some q) birth p h found = let m : heap_place changed (AnEscape birth) ≡ Some q = place_stays birth q h in sym m ∙ found
    was_at_by None birth p h found = absurd (let m : heap_place changed (AnEscape birth) ≡ None = back birth h in cc)

    was_at : (birth p : ℕ) → heap_place changed (AnEscape birth) ≡ Some p → heap_place s (AnEscape birth) ≡ Some p
    was_at birth p found = was_at_by (heap_place s (AnEscape birth)) birth p refl found

    -- ---- words

    stands : (v : Value) (x : Word) (stamp : Stamp) → StandsFor sizes l g s v x stamp → StandsFor sizes l g changed v x stamp
    stands (Lasting v) x stamp h = record { number = h.number; known = k.words.captures (Lasting v) h.number h.known; is = h.is }
    stands (CellAt n) x stamp h = record { number = h.number; known = k.words.captures (CellAt n) h.number h.known; is = h.is }
    stands (InFrame b slot) x stamp h = record { number = h.number; is = h.is; tag = h.tag; pushed = h.pushed; address = h.address; stamped = h.stamped }

    -- ---- frames

    slot_kept : (w : Stack) (b place : ℕ) (f : Frame) (slot : ℕ) (v : Value) → HoldsSlot sizes l g s w b place f slot v → HoldsSlot sizes l g changed w b place f slot v
    slot_kept w b place f slot v h = record { within = h.within; word = h.word; stamp = h.stamp; stored = h.stored; stands = stands v h.word h.stamp h.stands }

    frame_kept : (w : Stack) (b : ℕ) (births : List ℕ) (place : ℕ) (f : Frame) → HoldsFrame sizes l g s w b births place f → HoldsFrame sizes l g changed w b births place f
    frame_kept w b births place f h = record {
      back = h.back;
      next = h.next;
      slots = λ slot v found. slot_kept w b place f slot v (h.slots slot v found);
      headers = h.headers;
      codes = h.codes;
      captured = λ slot i x v found there. slot_kept w b place f (captured_from slot + i) v (h.captured slot i x v found there);
      marks = h.marks;
      catches = h.catches;
    }

    all_kept : (w : Stack) (births : List ℕ) → HoldsAll sizes l g s w births → HoldsAll sizes l g changed w births
    all_kept w [] h = tt
    all_kept w (b ∷ births) h = (h.0, h.1, h.2, frame_kept w b births (frames_place sizes s.frames (b ∷ births)) h.0 h.3, all_kept w births h.4)

    frames_on : (w : Stack) → HoldsFrames sizes l g s w → HoldsFrames sizes l g changed w
    frames_on w h = record {
      whole = h.whole;
      small = h.small;
      room = h.room;
      top = h.top;
      words = h.words;
      stamps = h.stamps;
      marks = h.marks;
      frames = all_kept w s.live h.frames;
    }

    frames_held : HoldsFrames sizes l g s (stack_of c) → HoldsFrames sizes l g changed (stack_of d)
    frames_held h =
        same_stack c.top d.top c.storage.stack d.storage.stack c.longs.stack d.longs.stack c.live d.live k.top k.stack k.stamps_of_stack k.live (HoldsFrames sizes l g changed) (frames_on (stack_of c) h)

    -- ---- escapes

    module _ (h : HoldsEscapes sizes l e g s c) where
      escape_word : (birth : ℕ) → is_live s birth ≡ true → is_catch s birth ≡ true → val_word l changed (EscapeV birth) ≡ val_word l s (EscapeV birth)
      escape_word birth live catch =
          let p = some_place (heap_place s (AnEscape birth)) (h.made birth live catch) in
          let was : word_for l s (EscapeV birth) ≡ Some (HEAP_START + 4 * p.0 + 2) = word_at birth p.0 p.1 in
          ap or_zero (k.words.values (EscapeV birth) (HEAP_START + 4 * p.0 + 2) was ∙ sym was)

      inner_by : (birth : ℕ) (b : Bool) (x y : ℕ) → is_catch s birth ≡ b → is_live s birth ≡ true → x ≡ y → (if b then val_word l changed (EscapeV birth) else x) ≡ (if b then val_word l s (EscapeV birth) else y)
      inner_by birth true x y catch live same = escape_word birth live catch
      inner_by birth false x y catch live same = same

      inner_same : (births : List ℕ) → AllLive s.live births → inner_word l changed births ≡ inner_word l s births
      inner_same [] all = refl
      inner_same (birth ∷ births) all = inner_by birth (is_catch s birth) (inner_word l changed births) (inner_word l s births) refl all.0 (inner_same births all.1)

      escapes_held : HoldsEscapes sizes l e g changed d
      escapes_held = record {
        inner = k.inner ∙ (h.inner ∙ ap (λ n. Some (Number n)) (sym (inner_same s.live (all_live s.live))));
        made = λ birth live catch. let p = some_place (heap_place s (AnEscape birth)) (h.made birth live catch) in ap is_some (place_stays birth p.0 p.1);
        frames = λ birth p found. h.frames birth p (was_at birth p found);
        caught = λ birth p found. h.caught birth p (was_at birth p found);
        outer = λ birth live catch. h.outer birth live catch ∙ sym (inner_same (older_than birth s.live) (older_live s.live birth s.live (all_live s.live)));
        stamps = λ birth p found live. k.escapes birth p (was_at birth p found) ∙ h.stamps birth p (was_at birth p found) live;
        closures_apart = λ i p found. apart i (h.closures_apart i p found);
      }

    -- ---- variables

    variable_held : (x : ℕ) (v : Value) → HoldsVariable sizes l g t s c x v → HoldsVariable sizes l g t changed d x v
    variable_held x v h = record {
      older = h.older;
      word = h.word;
      stamp = h.stamp;
      held = k.variables x h.older ∙ h.held;
      stamped = ap some_stamp (k.stamps x h.older) ∙ h.stamped;
      stands = stands v h.word h.stamp h.stands;
    }

    pub all_held : (env : Env) → Holds sizes l e g t s env c → Holds sizes l e g t changed env d
    all_held env h = record {
      data_held = k.data_held;
      frames = frames_held h.frames;
      escapes = escapes_held h.escapes;
      variables = record { each = λ x v found. variable_held x v (h.variables.each x v found) };
    }

-- ---- with the store of a row

pub store_kept : (sizes : Sizes) (l : Layout) (e : Escapes) (g : Ways) (t : ℕ) (s : State) (store : Store) (env : Env) (c d : Core) → Holds sizes l e g t s env c → Keeps sizes l e t s (with_store s store) c d → Holds sizes l e g t (with_store s store) env d
store_kept sizes l e g t s store env c d h k =
    all_held sizes l e g t s store (s.made ++ new_things s.store store) s.moves s.doing c d k
    (λ birth none. none_more (thing_words s) (thing_words (with_store s store)) s.made (new_things s.store store) (AnEscape birth) none (no_new_escape (thing_words (with_store s store)) s.store store birth))
    (λ i none. none_more (thing_words s) (thing_words (with_store s store)) s.made (new_things s.store store) (AClosure i) none (no_new_closure (thing_words (with_store s store)) s.store store i))
    env h

pub state_kept : (sizes : Sizes) (l : Layout) (e : Escapes) (g : Ways) (t : ℕ) (s : State) (env : Env) (c d : Core) → Holds sizes l e g t s env c → Keeps sizes l e t s s c d → Holds sizes l e g t s env d
state_kept sizes l e g t s env c d h k = all_held sizes l e g t s s.store s.made s.moves s.doing c d k (λ birth none. none) (λ i none. none) env h

-- ---- what isn't held

module _ (sizes : Sizes) (l : Layout) (s : State) (moves : ℕ) (doing : Doing) where
  abbrev counted : State
  counted = record s { moves = moves; doing = doing }

  word_same : (v : Val) → word_for l counted v ≡ word_for l s v
  word_same (FixV x) = refl
  word_same (CharV c) = refl
  word_same NilV = refl
  word_same TrueV = refl
  word_same (SymbolV n) = refl
  word_same (StringV t) = refl
  word_same (PairV k) = refl
  word_same (VectorV k) = refl
  word_same (ClosureV i) = refl
  word_same (ObjectV i) = refl
  word_same (OperationV o) = refl
  word_same (BuiltinV p) = refl
  word_same (EscapeV b) = refl

  captured_same : (v : Value) → captured_for l counted v ≡ captured_for l s v
  captured_same (Lasting v) = word_same v
  captured_same (InFrame birth slot) = refl
  captured_same (CellAt k) = refl

  data_counted : (e : Escapes) (storage : Regions Word) (next : ℕ) (output : List ℕ) → HoldsData sizes l e s storage next output → HoldsData sizes l e counted storage next output
  data_counted e storage next output h = record {
    heap = h.heap;
    taken = h.taken;
    next_is = h.next_is;
    room = h.room;
    small = h.small;
    distinct = h.distinct;
    made = h.made;
    pairs_apart = h.pairs_apart;
    laid_out = h.laid_out;
    front = h.front;
    front_length = h.front_length;
    statics = h.statics;
    fixed = h.fixed;
    globals = h.globals;
    globals_known = h.globals_known;
    output_is = h.output_is;
  }

  counted_keeps : (e : Escapes) (t : ℕ) (c : Core) → HoldsData sizes l e s c.storage c.next c.output → Keeps sizes l e t s counted c c
  counted_keeps e t c h = record {
    data_held = data_counted e c.storage c.next c.output h;
    words = record { values = λ v n at. word_same v ∙ at; captures = λ v n at. captured_same v ∙ at };
    top = refl;
    stack = refl;
    inner = refl;
    stamps_of_stack = refl;
    live = refl;
    escapes = λ birth p found. refl;
    variables = λ v lt. refl;
    stamps = λ v lt. refl;
  }

pub count_free : (sizes : Sizes) (l : Layout) (e : Escapes) (g : Ways) (t : ℕ) (s : State) (env : Env) (c : Core) (moves : ℕ) (doing : Doing) → Holds sizes l e g t s env c → Holds sizes l e g t (record s { moves = moves; doing = doing }) env c
count_free sizes l e g t s env c moves doing h =
    all_held sizes l e g t s s.store s.made moves doing c c (counted_keeps sizes l s moves doing e t c h.data_held) (λ birth none. none) (λ i none. none) env h
