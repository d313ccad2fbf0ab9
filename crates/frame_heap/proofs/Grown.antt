-- Data, frames and escapes are held where the words of what is made stand behind what was on the heap.
use Rattle.std.proofs.Common.{◌≡◌, ℕ, ◌+◌, ◌-◌, ◌*◌, ◌/◌, ◌≤◌, List, ◌++◌, None, refl, sym, ◌∙◌, arith}
use Rattle.std.specs.List.{flat_map, AllByRecursion}
use Rattle.word_ir.specs.Word.{Word}
use Rattle.word_ir.specs.Storage.{Sizes, HEAP_START}
use Rattle.word_ir.specs.State as word_state
use Rattle.word_ir.specs.Stamps.{Stamp}
use Rattle.frame_ir.specs.Values.{Env}
use Rattle.frame_ir.specs.States.{State, AnEscape, AClosure, thing_words}
use Rattle.word_trees.specs.Cores.{Core}
use Rattle.frame_words.specs.Segments.{place_of, total_of, AreDistinct}
use Rattle.frame_words.specs.Layouts.{Layout}
use Rattle.frame_words.specs.ValueWords.{same_thing, heap_place}
use Rattle.frame_words.specs.Contents.{Escapes, thing_contents}
use Rattle.frame_words.specs.Holding.{IsMade, HoldsData}
use Rattle.frame_words.specs.Growing.{Adds}
use Rattle.frame_words.proofs.Growing.{words_stay, no_place, data_grow}
use Rattle.frame_words.proofs.Reading.{heap_within}
use Rattle.frame_stacks.specs.Stacks.{Ways}
use Rattle.frame_stacks.specs.Frames.{HoldsVariables, Holds}
use Rattle.frame_heap.proofs.Filling.{IsFilled}
use Rattle.frame_heap.proofs.Held.{KeepsFrames, frames_held, escapes_held}

module _ (sizes : Sizes) (l : Layout) (e : Escapes) (g : Ways) (t : ℕ) (s v : State) (env : Env) (c : Core) (h : Holds sizes l e g t s env c) where
  abbrev u : State
  u = record v { frames = s.frames; live = s.live }

  -- what is made, without an escape
  pub record IsMore (a : Adds l s u) : Type 0 where
    pub words : u.store.heap ≡ s.store.heap + total_of (thing_words u) a.more
    pub room : 4 * u.store.heap ≤ sizes.heap
    pub distinct : AreDistinct same_thing (thing_words u) u.made
    pub made : AllByRecursion (IsMade l u) a.more
    pub globals : u.globals ≡ s.globals
    pub output : u.store.output ≡ s.store.output
    pub no_escape : (birth : ℕ) → place_of same_thing (thing_words u) a.more (AnEscape birth) ≡ None

  module _ (a : Adds l s u) (m : IsMore a) (words : word_state.Env Word) (stamps : word_state.Env Stamp) (next : ℕ) (hs : List Word) (ls : List Stamp) where
    abbrev d : Core
    d = record c { env = words; stamps = stamps; next = next; storage = record c.storage { heap = hs }; longs = record c.longs { heap = ls } }

    module _ (next_is : next ≡ HEAP_START + 4 * u.store.heap) (filled : IsFilled d c.longs.heap s.store.heap (flat_map (thing_contents l e s) s.made ++ flat_map (thing_contents l e u) a.more) (sizes.heap / 4 - u.store.heap)) where
      data_held : HoldsData sizes l e u d.storage d.next d.output
      data_held = data_grow sizes l e s u c.storage d.storage c.next next c.output c.output h.data_held a refl filled.heap m.words next_is m.room m.distinct m.made m.globals (h.data_held.output_is ∙ sym m.output)

      kept : KeepsFrames l s u c d
      kept = record {
        words = words_stay l s u a h.data_held.made;
        top = refl;
        stack = refl;
        inner = refl;
        stamps_of_stack = refl;
        live = refl;
        escapes = λ birth p found. let le = heap_within sizes l e s c.storage c.next c.output h.data_held (AnEscape birth) p found in filled.stamps (p + 1) (omega (arith, le));
      }

      back : (birth : ℕ) → heap_place s (AnEscape birth) ≡ None → heap_place u (AnEscape birth) ≡ None
      back birth none = no_place l s u a h.data_held.made (AnEscape birth) none (m.no_escape birth)

      -- with variables that are held
      pub grown_held : (env' : Env) → HoldsVariables sizes l g t u env' d → Holds sizes l e g t u env' d
      grown_held env' variables = record {
        data_held = data_held;
        frames = frames_held sizes l e g s v c d kept back (λ i p found none. no_place l s u a h.data_held.made (AClosure i) none (a.closures_apart i p found)) h.frames;
        escapes = escapes_held sizes l e g s v c d kept back (λ i p found none. no_place l s u a h.data_held.made (AClosure i) none (a.closures_apart i p found)) h.escapes;
        variables = variables;
      }
