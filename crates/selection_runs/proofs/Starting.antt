-- At the start both programs stand alike.
use Rattle.std.proofs.Common.{◌≡◌, ℕ, zero, suc, ◌+◌, ◌-◌, ◌/◌, ◌<◌, Bool, true, false, cond, if◌then◌else◌, List, [], ◌∷◌, length, map, replicate, is_some, Option, Some, None, slice_get, refl, sym, ap, ◌∙◌, subst, arith}
use Rattle.std.specs.Prelude.{count_by}
use Rattle.std.proofs.lemmas.List.Sums.{sum_by-cons}
use Rattle.std.proofs.lemmas.Option.{slice_get_within}
use Rattle.t_base.specs.declared.basics.Var.{Var}
use Rattle.t_base.specs.declared.shared_parts.Global1.{Global1}
use Rattle.t_prim.specs.Values.{Val, ClosureV}
use Rattle.word_ir.specs.Word.{Number}
use Rattle.word_ir.specs.Storage.{HEAP_START, STACK_START, static_at, long_at}
use Rattle.word_ir.specs.State.{static_word}
use Rattle.word_ir.specs.Step.{words_in}
use Rattle.word_ir.specs.Stamps.{stamped_start}
use Rattle.word_ir.proofs.MarksKept.{start_has_marks}
use Rattle.word_ir.proofs.Places.{start_in_place}
use Rattle.frame_ir.specs.declared.forms.Block.{Block}
use Rattle.frame_ir.specs.States.{State}
use Rattle.frame_ir.specs.Arguments.{is_proc, bound}
use Rattle.frame_ir.specs.Calls.{begun}
use Rattle.frame_ir.specs.Running.{static_closures, first_globals, bare_state, start}
use Rattle.word_trees.specs.Cores.{Core, at}
use Rattle.frame_words.specs.Layouts.{Layout, ClosureOf, INNER, fixed_place}
use Rattle.frame_words.specs.ValueWords.{NIL, word_for}
use Rattle.frame_words.specs.Contents.{Escapes}
use Rattle.frame_words.specs.Holding.{HoldsData}
use Rattle.frame_words.proofs.Segments.{get_left}
use Rattle.frame_stacks.specs.Frames.{Holds}
use Rattle.frame_stacks.proofs.Gets.{no_frames}
use Rattle.frame_calls.proofs.Statics.{front_read}
use Rattle.selection_steps.specs.Settings.{Setting, choice_of, layout_of}
use Rattle.selection_steps.specs.Related.{ways_of, Keeps, Stands, Related}
use Rattle.selection_steps.specs.Led.{paid}
use Rattle.selection_runs.proofs.Begun.{begun_stands, with_jumped}

-- ---- closures of blocks

closure_count : (n : ℕ) (blocks : List Block) → length (static_closures n blocks) ≡ length blocks
closure_count n [] = refl
closure_count n (b ∷ blocks) = let e = closure_count (suc n) blocks in omega (arith, e)

-- ---- first values of globals

abbrev one_if : Bool → ℕ
one_if b = cond b 1 0

record IsFirst (n : ℕ) (globals : List Global1) (v : Val) : Type 0 where
  code : ℕ
  is : v ≡ ClosureV code
  below : code < n + count_by (λ g. is_proc g.kind) globals

first_by : (n : ℕ) (g : Global1) (globals : List Global1) (b : Bool) (k : ℕ) (v : Val) → is_proc g.kind ≡ b → ((m j : ℕ) → slice_get (first_globals m globals) j ≡ Some (Some v) → IsFirst m globals v)
    → slice_get (if b then Some (ClosureV n) ∷ first_globals (suc n) globals else None ∷ first_globals n globals) k ≡ Some (Some v) → IsFirst n (g ∷ globals) v
first_by n g globals true zero v kind rest found =
    let same : ClosureV n ≡ v = cc in
    let e = sum_by-cons (λ z. one_if (is_proc z.kind)) g globals in
    let one : one_if (is_proc g.kind) ≡ 1 = ap one_if kind in
    record { code = n; is = sym same; below = omega (arith, e, one) }
first_by n g globals true (suc k) v kind rest found =
    let f = rest (suc n) k found in
    let e = sum_by-cons (λ z. one_if (is_proc z.kind)) g globals in
    let one : one_if (is_proc g.kind) ≡ 1 = ap one_if kind in
    let lt = f.below in
    record { code = f.code; is = f.is; below = omega (arith, e, one, lt) }
first_by n g globals false zero v kind rest found = absurd (cc)
first_by n g globals false (suc k) v kind rest found =
    let f = rest n k found in
    let e = sum_by-cons (λ z. one_if (is_proc z.kind)) g globals in
    let none : one_if (is_proc g.kind) ≡ 0 = ap one_if kind in
    let lt = f.below in
    record { code = f.code; is = f.is; below = omega (arith, e, none, lt) }

first_is : (n : ℕ) (globals : List Global1) (k : ℕ) (v : Val) → slice_get (first_globals n globals) k ≡ Some (Some v) → IsFirst n globals v
first_is n [] k v found = absurd (cc)
first_is n (g ∷ globals) k v found = first_by n g globals (is_proc g.kind) k v refl (λ m j h. first_is m globals j v h) found

module _ (m : Setting) where
  abbrev l : Layout
  l = layout_of m

  abbrev bare : State
  bare = bare_state m.p

  no_escapes : Escapes
  no_escapes = record { frame = λ b. 0; outer = λ b. 0 }

  abbrev nobody : ℕ → ℕ
  nobody b = 0

  -- the start of the words
  abbrev first_core : Core
  first_core = record {
    storage = record { statics = map static_word m.words.statics.items; heap = replicate (m.sizes.heap / 4) (Number 0); stack = replicate (m.sizes.stack / 4) (Number 0) };
    next = HEAP_START;
    top = STACK_START + m.sizes.stack;
    env = [];
    output = [];
    stamps = [];
    longs = record { statics = replicate (length m.words.statics.items) None; heap = replicate (m.sizes.heap / 4) None; stack = replicate (m.sizes.stack / 4) None };
    live = [];
  }

  known_by : (k : ℕ) (o : Option ℕ) → fixed_place l (ClosureOf k) ≡ o → is_some (fixed_place l (ClosureOf k)) ≡ true → is_some (word_for l bare (ClosureV k)) ≡ true
  known_by k (Some p) at is = rw at refl
  known_by k None at is = absurd (cc)

  global_known : (k : ℕ) (v : Val) → slice_get bare.globals k ≡ Some (Some v) → is_some (word_for l bare v) ≡ true
  global_known k v found =
      let f : IsFirst 0 m.p.shared.globals.items v = first_is 0 m.p.shared.globals.items k v found in
      let lt = f.below in
      let known = known_by f.code (fixed_place l (ClosureOf f.code)) refl (m.selected.named.globals f.code (omega (arith, lt))) in
      subst (λ w. is_some (word_for l bare w) ≡ true) (sym f.is) known

  data_first : HoldsData m.sizes l no_escapes bare first_core.storage first_core.next first_core.output
  data_first = record {
    heap = ap (λ n. replicate n (Number 0)) (let e : m.sizes.heap / 4 ≡ m.sizes.heap / 4 - 0 = omega arith in e);
    taken = refl;
    next_is = refl;
    room = omega arith;
    small = m.heap;
    distinct = tt;
    made = tt;
    pairs_apart = λ k p at. refl;
    laid_out = m.selected.statics.laid_out;
    front = m.selected.statics.front;
    front_length = m.selected.statics.front_length;
    statics = m.selected.statics.statics;
    fixed = m.selected.statics.fixed;
    globals = m.selected.statics.first;
    globals_known = global_known;
    output_is = refl;
  }

  inner_first : long_at first_core.storage (static_at INNER) ≡ Some (Number NIL)
  inner_first =
      front_read first_core.storage 0 (omega arith)
      ∙ (ap (λ ws. slice_get ws 0) m.selected.statics.statics ∙ get_left m.selected.statics.front _ 0 (Number NIL) m.selected.statics.inner)

  holds_first : Holds m.sizes l no_escapes (ways_of m nobody) (choice_of m).free bare [] first_core
  holds_first = record {
    data_held = data_first;
    frames = no_frames m.sizes l (ways_of m nobody) bare (let e = m.whole_sizes.stack in omega (arith, e)) m.stack refl;
    escapes = record {
      inner = inner_first;
      made = λ birth live caught. absurd (cc);
      frames = λ birth p found. absurd (cc);
      caught = λ birth p found. absurd (cc);
      outer = λ birth live caught. absurd (cc);
      stamps = λ birth p found live. absurd (cc);
      closures_apart = λ i p at. refl;
    };
    variables = record { each = λ x v found. absurd (cc) };
  }

  keeps_first : Keeps m bare
  keeps_first = record {
    names_are = refl;
    all = let e = closure_count 0 m.p.blocks.items in omega (arith, e);
    codes = λ i c at le. absurd (let lt = slice_get_within bare.closures i c at in let e = closure_count 0 m.p.blocks.items in omega (arith, lt, e, le));
    news = tt;
    bare = tt;
  }

  none_bound : (params : List Var) → bound params [] ≡ []
  none_bound [] = refl
  none_bound (x ∷ params) = refl

  starts : (b : Block) → slice_get m.p.blocks.items m.p.entry ≡ Some b → Stands m (begun b (bound b.params []) bare) (stamped_start (words_in m.words m.sizes))
  starts b found =
      begun_stands m bare no_escapes nobody (choice_of m).free m.p.entry b [] 0 (stamped_start (words_in m.words m.sizes)) found keeps_first
      (record {
        core = first_core;
        holds = subst (λ env. Holds m.sizes l no_escapes (ways_of m nobody) (choice_of m).free bare env first_core) (sym (none_bound b.params)) holds_first;
        moves = 0;
        steps = 0;
        there = ap (λ k. at first_core k 0 0 0) m.selected.blocks.entry;
      })

  pub start_related : Related m (start m.p) (stamped_start (words_in m.words m.sizes))
  start_related = record {
    count = 0;
    reached = refl;
    stands = with_jumped m (λ u. Stands m u (stamped_start (words_in m.words m.sizes))) m.p.entry [] bare (m.sound 0) (λ b found same. starts b found);
    in_place = start_in_place (words_in m.words m.sizes) m.whole_sizes;
    marks = start_has_marks (words_in m.words m.sizes);
  }

  -- nothing is taken, nobody waits
  pub start_bare : ((start m.p).moves ≡ 0) × ((start m.p).store.heap ≡ 0) × (paid (start m.p) ≡ 0)
  start_bare = with_jumped m (λ u. (u.moves ≡ 0) × (u.store.heap ≡ 0) × (paid u ≡ 0)) m.p.entry [] bare (m.sound 0) (λ b found same. (refl, refl, refl))
