-- What follows where the run of the words has ended: by a value or a fault, or for want of room.
use Rattle.std.proofs.Common.{◌≡◌, ℕ, ◌+◌, ◌-◌, ◌*◌, ◌/◌, ◌<◌, ◌≤◌, inl, false, List, Some, ap, ◌∙◌, arith}
use Rattle.program_runs.specs.Runs.{End, Full}
use Rattle.word_ir.specs.Word.{Word}
use Rattle.word_ir.specs.Storage.{Regions, Sizes, HEAP_START}
use Rattle.word_ir.specs.Stamps.{Stamped}
use Rattle.frame_ir.specs.States.{Doing, Ended, State}
use Rattle.word_trees.specs.Cores.{Core, ended, heap_left}
use Rattle.frame_words.specs.Layouts.{Layout}
use Rattle.frame_words.specs.Contents.{Escapes}
use Rattle.frame_words.specs.Holding.{HoldsData}
use Rattle.select_rows.specs.Kept.{IsOutOfHeap}
use Rattle.prim_holds.specs.Laws.{IsOutOfRoom}
use Rattle.frame_ends.specs.Laws.{EndsWith}
use Rattle.selection_steps.specs.Settings.{Setting, layout_of}
use Rattle.selection_steps.specs.Related.{Keeps}
use Rattle.selection_steps.specs.Led.{Comes, NoRoom}

pub data_counted : (sizes : Sizes) (l : Layout) (s : State) (moves : ℕ) (doing : Doing) (e : Escapes) (storage : Regions Word) (next : ℕ) (output : List ℕ) → HoldsData sizes l e s storage next output → HoldsData sizes l e (record s { moves = moves; doing = doing }) storage next output
data_counted sizes l s moves doing e storage next output h = record {
  heap = h.heap;
  taken = h.taken;
  next_is = h.next_is;
  room = h.room;
  small = h.small;
  distinct = h.distinct;
  made = h.made;
  pairs_apart = h.pairs_apart;
  laid_out = h.laid_out;
  front = h.front;
  front_length = h.front_length;
  statics = h.statics;
  fixed = h.fixed;
  globals = h.globals;
  globals_known = h.globals_known;
  output_is = h.output_is;
}

module _ (m : Setting) where
  -- in a state that differs in counts alone
  pub ends_by : (s v : State) (e : Escapes) (end : End) (moves : ℕ) (y : Stamped) → Keeps m v → EndsWith m.sizes (layout_of m) e v end y → Comes m s (record v { moves = moves; doing = Ended end }) y
  ends_by s v e end moves y keeps o = inl (
    keeps,
    record {
      escapes = e;
      ends = record {
        core = o.core;
        data_held = data_counted m.sizes (layout_of m) v moves (Ended end) e o.core.storage o.core.next o.core.output o.data_held;
        block = o.block;
        place = o.place;
        moves = o.moves;
        steps = o.steps;
        there = o.there;
      };
    },
  )

  -- ---- heap

  pub taken_words : (n k : ℕ) → n ≡ HEAP_START + 4 * k → (n - HEAP_START) / 4 ≤ k
  taken_words n k is = omega (arith, is)

  full_by : (s u : State) (y : Stamped) (core : Core) (asked left block place moves steps : ℕ) → y ≡ ended core block place moves steps (Some (Full false asked left)) → left < asked → m.sizes.heap + asked ≤ left + 4 * u.store.heap
      → core.output ≡ s.store.output → core.next ≡ HEAP_START + 4 * s.store.heap → NoRoom m s u y
  full_by s u y core asked left block place moves steps there lacking enough output next = record {
    stack = false;
    asked = asked;
    left = left;
    end = ap (λ z. z.state.end) there;
    lacking = lacking;
    enough = enough;
    output = ap (λ z. z.state.output) there ∙ output;
    heap = inl (taken_words y.state.next s.store.heap (ap (λ z. z.state.next) there ∙ next));
  }

  -- in front of a state that has as much of the heap as a second one
  pub no_heap : (s u w : State) (y : Stamped) (e : Escapes) (t : ℕ) (c : Core) → HoldsData m.sizes (layout_of m) e s c.storage c.next c.output → w.store.heap ≡ u.store.heap → IsOutOfHeap m.sizes (layout_of m) e t s u c y → NoRoom m s w y
  no_heap s u w y e t c h same o =
      let next = h.next_is in
      let room = h.room in
      let more = o.more in
      full_by s w y o.ends.core o.asked (heap_left m.sizes c) o.ends.block o.ends.place o.ends.moves o.ends.steps o.ends.there o.lacking (omega (arith, next, room, more, same)) o.ends.keeps.data_held.output_is o.ends.keeps.data_held.next_is

  pub no_room : (s u w : State) (y : Stamped) (e : Escapes) → w.store.heap ≡ u.store.heap → IsOutOfRoom m.sizes (layout_of m) e s u y → NoRoom m s w y
  no_room s u w y e same o =
      let room = o.room in
      let more = o.more in
      full_by s w y o.core o.asked o.left o.block o.place o.moves o.steps o.there o.lacking (omega (arith, room, more, same)) o.data_held.output_is o.data_held.next_is
