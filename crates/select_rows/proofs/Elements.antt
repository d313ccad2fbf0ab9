-- The row that changes an element of a vector.
use Rattle.std.proofs.Common.{◌≡◌, ℕ, suc, ◌+◌, ◌*◌, ◌%◌, ◌^◌, ◌<◌, ◌≤◌, List, length, slice_get, slice_set, Some, None, pos, inl, inr, refl, ap, ◌∙◌, arith}
use Rattle.std.specs.Option.{option_map_or}
use Rattle.std.proofs.lemmas.Option.{slice_get_within}
use Rattle.t_base.specs.declared.basics.Var.{Var}
use Rattle.t_base.specs.declared.builtins.Builtin.TheVariants as builtin
use Rattle.t_prim.specs.Values.{Val, VectorV, vector_words, with_vector_at}
use Rattle.t_prim.specs.Operands.{Row, Changes, with_fixnum, with_element}
use Rattle.t_prim.specs.Operands as rows
use Rattle.word_ir.specs.declared.operands.Operand.{Operand}
use Rattle.word_ir.specs.declared.words.Arith.TheVariants as kind
use Rattle.word_ir.specs.declared.words.WordOp.TheVariants as op
use Rattle.word_ir.specs.declared.words.Words.{Words}
use Rattle.word_ir.specs.Word.{Number, moved}
use Rattle.word_ir.specs.Storage.{Sizes, HEAP_START, STACK_START, with_long, long_at}
use Rattle.word_ir.specs.Step.{words_in}
use Rattle.word_ir.specs.Stamps.{Stamp}
use Rattle.frame_ir.specs.States.{State, AVector, AnEscape, thing_words}
use Rattle.tagged_words.specs.Tags.{fixnum_word}
use Rattle.word_trees.specs.Trees.{Tree, Do}
use Rattle.word_trees.specs.Cores.{Core, word_in, stamp_in, some_stamp, binding, storing}
use Rattle.word_trees.proofs.Performing.{load_performs, compute_performs, store_performs, moves_performs}
use Rattle.frame_words.specs.Layouts.{Layout}
use Rattle.frame_words.specs.ValueWords.{same_thing, word_for}
use Rattle.frame_words.specs.Contents.{Escapes}
use Rattle.frame_words.specs.Holding.{HoldsData}
use Rattle.frame_words.specs.Origins.{OnHeap, IsRead}
use Rattle.frame_words.proofs.Segments.{apart}
use Rattle.frame_words.proofs.Sizes.{thing_sound}
use Rattle.frame_words.proofs.Reading.{outside_stack, heap_within}
use Rattle.frame_words.proofs.Values.{on_heap}
use Rattle.frame_words.proofs.Changing.{with_heap, refilled, refilled_words, refilled_word, vector_changes}
use Rattle.select_rows.specs.Macros.{fixnum, index, var, of_var}
use Rattle.select_rows.specs.Kept.{Has, Keeps, Binds}
use Rattle.select_rows.specs.Codes.{code_of, IsCodeOf, make}
use Rattle.select_rows.proofs.Keeping.{may_read, may_reach, binds_one, binds_then, bound_word, word_binds, has_binds, get_set_other}
use Rattle.select_rows.proofs.Checks.{fixnum_performs, fixnum_held, index_performs}
use Rattle.select_rows.proofs.Results.{performs}
use Rattle.select_rows.proofs.DataRows.{vector_performs, element_address, kept_at}
use Rattle.select_rows.proofs.Parts.{stored_word, stack_stays, heap_apart}
use Rattle.select_rows.proofs.Puts.{arrive_changed}

module _ (words : Words) (sizes : Sizes) (l : Layout) (e : Escapes) (t : ℕ) (s : State) (c : Core) (to : Var) (rest : Tree) (h : HoldsData sizes l e s c.storage c.next c.output) where
  element_keeps : (d : Core) (k n i m : ℕ) (v : Val) (items : List Val) (there : slice_get s.store.vectors k ≡ Some items) (stamp : Stamp) → Keeps sizes l e t s s c d → word_for l s (VectorV k) ≡ Some n → word_for l s v ≡ Some m → i < length items → n + 4 * i + 6 < STACK_START → Keeps sizes l e t s (refilled l e s k i v items there) c (storing d (n + 4 * i + 6) (Number m) stamp)
  element_keeps d k n i m v items there stamp keeps is vm inside outside =
      let o : OnHeap s 2 (AVector k) n = on_heap s 2 (AVector k) n is in
      let within = heap_within sizes l e s d.storage d.next d.output keeps.data_held (AVector k) o.place o.found in
      let size : thing_words s (AVector k) ≡ 2 + length items + length items % 2 = ap (λ x. option_map_or (λ xs. vector_words (length xs)) x 0) there in
      let room : 4 * s.store.heap ≤ sizes.heap = keeps.data_held.room in
      let small : sizes.heap ≤ 2 ^ 28 = keeps.data_held.small in
      let address : n + 4 * i + 6 ≡ HEAP_START + 4 * (o.place + suc (suc i)) = omega (arith, o.word) in
      let below : o.place + suc (suc i) < 2 ^ 26 = omega (arith, within, inside, size, room, small) in
      record {
        data_held = vector_changes l e s k i v items there m vm inside sizes d.storage d.next d.output keeps.data_held n o;
        words = refilled_words l e s k i v items there;
        top = keeps.top;
        stack = stack_stays d.storage (n + 4 * i + 6) (Number m) outside ∙ keeps.stack;
        inner = heap_apart d.storage (n + 4 * i + 6) (o.place + suc (suc i)) (Number m) address below ∙ keeps.inner;
        stamps_of_stack = stack_stays d.longs (n + 4 * i + 6) stamp outside ∙ keeps.stamps_of_stack;
        live = rw (outside_stack d.storage (n + 4 * i + 6) outside) keeps.live;
        escapes = λ birth p found.
            let other : o.place + suc (suc i) ≡ p + 1 → ⊥ = λ eq. elim (apart same_thing (thing_words s) s.made (AVector k) (AnEscape birth) o.place p thing_sound refl refl o.found found) [
              | inl a ↦ absurd (omega (arith, a, eq, inside, size))
              | inr a ↦ absurd (omega (arith, a, eq))
            ] in
            ap (λ m. slice_get m.heap (p + 1)) (ap (λ a. with_long d.longs a stamp) address ∙ with_heap d.longs (o.place + suc (suc i)) stamp below)
            ∙ (get_set_other d.longs.heap (o.place + suc (suc i)) (p + 1) stamp other ∙ keeps.escapes birth p found);
        variables = keeps.variables;
        stamps = keeps.stamps;
      }

  pub set_vref_performs : (a b o : Operand) (v w x : Val) → Has l s t c a v → Has l s t c b w → Has l s t c o x → performs words sizes l e t s c to rest (rows.with_vector v s.store (λ k items. with_fixnum w (λ z. with_element items z (λ i old. Changes (with_vector_at s.store k (slice_set items i x)) x)))) 1 24 (Rattle.select_rows.specs.Macros.object a 0x11 5 t (fixnum b (Do (op.Load (var (t + 1)) a (pos 2)) (index b (of_var (t + 1)) (make kind.Add a b (var (t + 2)) (Do (op.Store (of_var (t + 2)) (pos 6) o) (Do (op.Move to o) rest))))))) c
  set_vref_performs a b o v w x ha hb ho =
      vector_performs words sizes l e t s c to rest h 16 a v (λ k items. with_fixnum w (λ z. with_element items z (λ i old. Changes (with_vector_at s.store k (slice_set items i x)) x))) _ ha (omega arith)
      (λ d place hk binds r.
      let hd : Has l s t d b w = has_binds binds hb in
      fixnum_performs words sizes l e t s c to rest 13 d b w (λ z. with_element r.items z (λ i old. Changes (with_vector_at s.store place (slice_set r.items i x)) x)) _ hd (kept_at words sizes l e t s c to rest h d binds) (omega arith)
      (λ z is.
      let f = fixnum_held words sizes l e t s c to rest d b w z hd is in
      let size : ℕ = fixnum_word (pos (length r.items)) in
      let stamp : Stamp = some_stamp (long_at d.longs (moved hk.number (pos 2))) in
      let d' : Core = binding d (var (t + 1)) (Number size) stamp in
      let more : Binds t d d' = binds_one t d (t + 1) (Number size) stamp (omega arith) in
      let all : Binds t c d' = binds_then t c d d' binds more in
      let ea : word_in d' a ≡ Some (Number hk.number) = word_binds t d d' a more hk.older ∙ hk.held in
      let eb : word_in d' b ≡ Some (Number (fixnum_word z)) = word_binds t d d' b more hd.older ∙ f.1 in
      load_performs words sizes _ hk.number (Number size) hk.held r.length_read.reads (may_read words sizes d a (moved hk.number (pos 2)) r.length_read.outside)
      (index_performs words sizes l e t s c to rest z r.items 8 d' b (of_var (t + 1)) (λ i old. Changes (with_vector_at s.store place (slice_set r.items i x)) x) _ f.0 eb (bound_word d (t + 1) (Number size) stamp) r.short (kept_at words sizes l e t s c to rest h d' all) (omega arith)
      (λ i y at found.
      let old = r.element_known i y found in
      let read : IsRead d.storage (hk.number + 4 * i + 6) (Number old.0) = r.element_read i old.0 y found old.1 in
      let ei : word_in d' b ≡ Some (Number (fixnum_word (pos i))) = eb ∙ ap (λ q. Some (Number (fixnum_word q))) at in
      let small : hk.number + 4 * i < 2 ^ 31 = omega (arith, read.outside) in
      let d'' : Core = binding d' (var (t + 2)) (Number (hk.number + 4 * i)) None in
      let last : Binds t d' d'' = binds_one t d' (t + 2) (Number (hk.number + 4 * i)) None (omega arith) in
      let whole : Binds t c d'' = binds_then t c d' d'' all last in
      let hx : Has l s t d'' o x = has_binds whole ho in
      let stored : Stamp = stamp_in (words_in words sizes) d'' o in
      let inside : i < length r.items = slice_get_within r.items i y found in
      let keeps : Keeps sizes l e t s (refilled l e s place i x r.items r.there) c (storing d'' (hk.number + 4 * i + 6) (Number hx.number) stored) = element_keeps d'' place hk.number i hx.number x r.items r.there stored (kept_at words sizes l e t s c to rest h d'' whole) hk.is hx.is inside read.outside in
      compute_performs words sizes _ hk.number (fixnum_word (pos i)) (hk.number + 4 * i) ea ei (element_address words sizes l e t s c to rest h hk.number i small)
      (store_performs words sizes _ (hk.number + 4 * i) (Number hx.number) (Number old.0) (bound_word d' (t + 2) (Number (hk.number + 4 * i)) None) hx.held read.reads (may_reach words sizes d'' (of_var (t + 2)) (hk.number + 4 * i + 6) read.outside)
      (moves_performs words sizes _ (Number hx.number) (stored_word d'' (hk.number + 4 * i + 6) (Number hx.number) stored o ∙ hx.held)
      (arrive_changed words sizes l e t s c to rest (storing d'' (hk.number + 4 * i + 6) (Number hx.number) stored) (with_vector_at s.store place (slice_set r.items i x)) x hx.number _ keeps (refilled_word l e s place i x r.items r.there x ∙ hx.is))))))))

pub set_vref_row : IsCodeOf builtin.SetVref (code_of builtin.SetVref)
set_vref_row words sizes l e t s c to rest a b o v w x h ha hb ho = set_vref_performs words sizes l e t s c to rest h a b o v w x ha hb ho
