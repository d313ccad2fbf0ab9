-- A cell gets a value.
use Rattle.std.proofs.Common.{◌≡◌, ℕ, ◌+◌, ◌-◌, ◌*◌, ◌/◌, ◌^◌, ◌<◌, ◌≤◌, ◌⊎◌, inl, inr, false, List, ◌++◌, length, replicate, slice_get, slice_set, Some, is_some, pos, refl, sym, ap, ◌∙◌, subst, arith}
use Rattle.std.specs.List.{flat_map}
use Rattle.std.proofs.lemmas.Bool.{cases_eq, eqb-false}
use Rattle.std.proofs.lemmas.List.{set-append_left}
use Rattle.std.proofs.lemmas.Option.{slice_get_within}
use Rattle.t_base.specs.declared.basics.Var.{Var}
use Rattle.t_prim.specs.Values.{Val}
use Rattle.word_ir.specs.declared.operands.Operand.{Operand}
use Rattle.word_ir.specs.declared.operands.Operand.TheVariants as operand
use Rattle.word_ir.specs.declared.words.Words.{Words}
use Rattle.word_ir.specs.Word.{Word, Number, moved}
use Rattle.word_ir.specs.Storage.{Sizes, Regions, HEAP_START, long_at}
use Rattle.word_ir.specs.Step.{words_in}
use Rattle.word_ir.specs.Stamps.{Stamp}
use Rattle.frame_ir.specs.Values.{Lasting, CellAt, Env, value_at}
use Rattle.frame_ir.specs.States.{State, Thing, APair, AVector, AClosure, AnObject, AnEscape, ACell, thing_words, with_cell_at}
use Rattle.word_trees.specs.Trees.{Tree}
use Rattle.word_trees.specs.Cores.{Core, stamp_in, storing}
use Rattle.word_trees.specs.Leads.{Performs}
use Rattle.word_trees.proofs.Performing.{arrives, store_performs}
use Rattle.frame_words.specs.Layouts.{Layout}
use Rattle.frame_words.specs.ValueWords.{same_thing, heap_place, word_for, val_word, or_zero}
use Rattle.frame_words.specs.Contents.{Escapes, thing_contents, cell_contents}
use Rattle.frame_words.specs.Holding.{IsMade, HoldsData}
use Rattle.frame_words.specs.Growing.{WordsStay}
use Rattle.frame_words.specs.Origins.{OnHeap, IsRead}
use Rattle.frame_words.proofs.Segments.{changed, apart}
use Rattle.frame_words.proofs.Sizes.{thing_sized, thing_sound}
use Rattle.frame_words.proofs.Reading.{heap_within}
use Rattle.frame_words.proofs.Changing.{joined_length}
use Rattle.frame_words.proofs.Growing.{all_map}
use Rattle.frame_words.proofs.Values.{on_heap, heap_word}
use Rattle.select_rows.proofs.Keeping.{may_reach, get_set, get_set_other}
use Rattle.select_rows.proofs.Pairs.{stored_heap}
use Rattle.frame_stacks.specs.Stacks.{Ways, IsLasting}
use Rattle.frame_stacks.specs.Frames.{HoldsVariable, Holds}
use Rattle.frame_stacks.specs.Laws.{GoesOn, HasValue}
use Rattle.frame_heap.proofs.Filling.{with_heap}
use Rattle.frame_heap.proofs.Held.{KeepsFrames, stands_kept, frames_held, escapes_held}
use Rattle.frame_cells.specs.Laws.{cell_set}

module _ (sizes : Sizes) (l : Layout) (e : Escapes) (s : State) (storage : Regions Word) (next : ℕ) (output : List ℕ) (k : ℕ) (old v : Val) (h : HoldsData sizes l e s storage next output) (there : slice_get s.cells k ≡ Some old) (known : word_for l s v ≡ Some (val_word l s v)) (place : ℕ) (found : heap_place s (ACell k) ≡ Some place) where
  abbrev u : State
  u = with_cell_at s k v

  abbrev w : Word
  w = Number (val_word l s v)

  this_cell : slice_get (slice_set s.cells k v) k ≡ Some v
  this_cell = get_set s.cells k v (slice_get_within s.cells k old there)

  others : (y : Thing) → same_thing y (ACell k) ≡ false → thing_contents l e u y ≡ thing_contents l e s y
  others (APair j) d = refl
  others (AVector j) d = refl
  others (AClosure j) d = refl
  others (AnObject j) d = refl
  others (AnEscape j) d = refl
  others (ACell j) d = ap (cell_contents l s) (get_set_other s.cells k j v (λ eq. eqb-false j k d (sym eq)))

  this : thing_contents l e u (ACell k) ≡ slice_set (thing_contents l e s (ACell k)) 1 w
  this = ap (cell_contents l s) this_cell ∙ ap (λ o. slice_set (cell_contents l s o) 1 w) (sym there)

  made_by : (j : ℕ) → (j ≡ k) ⊎ (j ≡ k → ⊥) → IsMade l s (ACell j) → IsMade l u (ACell j)
  made_by j (inl eq) m = (v, ap (slice_get (slice_set s.cells k v)) eq ∙ this_cell, (ap is_some known, tt))
  made_by j (inr d) m = (m.0, get_set_other s.cells k j v (λ eq. d (sym eq)) ∙ m.1, m.2)

  made_after : (y : Thing) → IsMade l s y → IsMade l u y
  made_after (APair j) m = m
  made_after (AVector j) m = m
  made_after (AClosure j) m = m
  made_after (AnObject j) m = m
  made_after (AnEscape j) m = m
  made_after (ACell j) m = made_by j (cases_eq j k) m

  pub cell_inside : place + 2 ≤ s.store.heap
  cell_inside = heap_within sizes l e s storage next output h (ACell k) place found

  pub data_set : HoldsData sizes l e u (record storage { heap = slice_set storage.heap (place + 1) w }) next output
  data_set =
      let before : List Word = flat_map (thing_contents l e s) s.made in
      let zeros : List Word = replicate (sizes.heap / 4 - s.store.heap) (Number 0) in
      let short : place + 1 < length (flat_map (thing_contents l e s) s.made) = omega (arith, cell_inside, h.taken, joined_length (thing_contents l e s) (thing_words s) s.made (thing_sized l e s)) in
      let enough : 1 < thing_words s (ACell k) = omega arith in
      let new : flat_map (thing_contents l e u) s.made ≡ slice_set (flat_map (thing_contents l e s) s.made) (place + 1) w =
      changed same_thing (thing_words s) (thing_contents l e s) (thing_sized l e s) thing_sound (thing_contents l e u) (ACell k) 1 w others this enough s.made place h.distinct found in
      record {
        heap = ap (λ ws. slice_set ws (place + 1) w) h.heap ∙ (set-append_left (flat_map (thing_contents l e s) s.made) (replicate (sizes.heap / 4 - s.store.heap) (Number 0)) (place + 1) w short ∙ ap (λ ws. ws ++ replicate (sizes.heap / 4 - s.store.heap) (Number 0)) (sym new));
        taken = h.taken;
        next_is = h.next_is;
        room = h.room;
        small = h.small;
        distinct = h.distinct;
        made = all_map (IsMade l s) (IsMade l u) s.made made_after h.made;
        pairs_apart = h.pairs_apart;
        laid_out = h.laid_out;
        front = h.front;
        front_length = h.front_length;
        statics = h.statics;
        fixed = h.fixed;
        globals = h.globals;
        globals_known = h.globals_known;
        output_is = h.output_is;
      }

pub cell_is_set : (words : Words) (sizes : Sizes) (l : Layout) (e : Escapes) (g : Ways) (t : ℕ) (s : State) (env : Env) (c : Core) (cell : Var) (x : Operand) (k : ℕ) (old v : Val) (rest : Tree) → Holds sizes l e g t s env c → value_at env cell.0 ≡ Some (CellAt k) → slice_get s.cells k ≡ Some old → HasValue words sizes l g t s c x (Lasting v) → Performs words sizes (GoesOn words sizes l e g t (with_cell_at s k v) env rest) 1 3 (cell_set cell x rest) c
cell_is_set words sizes l e g t s env c cell x k old v rest h is there hx =
    let o : HoldsVariable sizes l g t s c cell.0 (CellAt k) = h.variables.each cell.0 (CellAt k) is in
    let y : IsLasting l s (CellAt k) o.word = o.stands in
    let heap : OnHeap s 2 (ACell k) y.number = on_heap s 2 (ACell k) y.number y.known in
    let a : IsLasting l s (Lasting v) hx.word = hx.stands in
    let n : val_word l s v ≡ a.number = ap or_zero a.known in
    let known : word_for l s v ≡ Some (val_word l s v) = a.known ∙ ap Some (sym n) in
    let inside : heap.place + 2 ≤ s.store.heap = cell_inside sizes l e s c.storage c.next c.output k old v h.data_held there known heap.place heap.found in
    let low : heap.place + 1 < 2 ^ 26 = omega (arith, inside, h.data_held.room, h.data_held.small) in
    let address : moved y.number (pos 2) ≡ HEAP_START + 4 * (heap.place + 1) = omega (arith, heap.word, low) in
    let second : slice_get (thing_contents l e s (ACell k)) 1 ≡ Some (Number (val_word l s old)) = ap (λ z. slice_get (cell_contents l s z) 1) there in
    let read : IsRead c.storage (y.number - 2 + 4 * 1) (Number (val_word l s old)) = heap_word sizes l e s c.storage c.next c.output h.data_held 2 (ACell k) y.number 1 (Number (val_word l s old)) heap second in
    let same : y.number - 2 + 4 * 1 ≡ moved y.number (pos 2) = omega (arith, heap.word, low) in
    let stamp : Stamp = stamp_in (words_in words sizes) c x in
    let d : Core = with_heap c (slice_set c.storage.heap (heap.place + 1) (Number (val_word l s v))) (slice_set c.longs.heap (heap.place + 1) stamp) in
    let after : State = with_cell_at s k v in
    let stay : WordsStay l s after = record { values = λ z m q. q; captures = λ z m q. q } in
    let kept : KeepsFrames l s after c d = record {
      words = stay;
      top = refl;
      stack = refl;
      inner = refl;
      stamps_of_stack = refl;
      live = refl;
      escapes = λ birth p at. get_set_other c.longs.heap (heap.place + 1) (p + 1) stamp
          (λ eq. elim (apart same_thing (thing_words s) s.made (ACell k) (AnEscape birth) heap.place p thing_sound refl refl heap.found at) [
            | inl z ↦ absurd (omega (arith, z, eq))
            | inr z ↦ absurd (omega (arith, z, eq))
          ]);
    } in
    let held : Holds sizes l e g t after env d = record {
      data_held = data_set sizes l e s c.storage c.next c.output k old v h.data_held there known heap.place heap.found;
      frames = frames_held sizes l e g s after c d kept (λ birth none. none) (λ i p at none. none) h.frames;
      escapes = escapes_held sizes l e g s after c d kept (λ birth none. none) (λ i p at none. none) h.escapes;
      variables = record { each = λ z q at. let b : HoldsVariable sizes l g t s c z q = h.variables.each z q at in record { older = b.older; word = b.word; stamp = b.stamp; held = b.held; stamped = b.stamped; stands = stands_kept sizes l e g s after c c stay q b.word b.stamp b.stands } };
    } in
    store_performs words sizes (GoesOn words sizes l e g t after env rest) y.number (Number (val_word l s v)) (Number (val_word l s old)) (o.held ∙ ap Some y.is) (hx.held ∙ (ap Some a.is ∙ ap (λ m. Some (Number m)) (sym n)))
    (sym (ap (long_at c.storage) same) ∙ read.reads)
    (may_reach words sizes c (operand.Var cell) (moved y.number (pos 2)) (omega (arith, address, low)))
    (subst (Performs words sizes (GoesOn words sizes l e g t after env rest) 0 0 rest) (sym (ap (λ m. storing c m (Number (val_word l s v)) stamp) address ∙ stored_heap c (heap.place + 1) (Number (val_word l s v)) stamp low))
    (arrives words sizes (GoesOn words sizes l e g t after env rest)
    (λ block place moves steps spelled. record { core = d; holds = held; block = block; place = place; moves = moves; steps = steps; there = refl; spelled = spelled })))
