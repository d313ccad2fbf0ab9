-- One thing is made: room is taken, its words are stored, and its address is bound.
use Rattle.std.proofs.Common.{◌≡◌, ℕ, suc, ◌+◌, ◌-◌, ◌*◌, ◌/◌, ◌%◌, ◌^◌, ◌<◌, ◌≤◌, inl, inr, false, List, [], ◌∷◌, ◌++◌, length, replicate, Some, None, refl, sym, ap, ◌∙◌, subst, arith, append_assoc, append-nil, length-append}
use Rattle.std.specs.List.{flat_map, AllByRecursion}
use Rattle.std.proofs.lemmas.Bool.{cases_lt}
use Rattle.program_runs.specs.Runs.{Full}
use Rattle.t_base.specs.declared.basics.Var.{Var}
use Rattle.word_ir.specs.declared.operands.Operand.{Operand}
use Rattle.word_ir.specs.declared.operands.Operand.TheVariants as operand
use Rattle.word_ir.specs.declared.words.Arith.TheVariants as kind
use Rattle.word_ir.specs.declared.words.Words.{Words}
use Rattle.word_ir.specs.Word.{Word, Number}
use Rattle.word_ir.specs.Storage.{Sizes, HEAP_START}
use Rattle.word_ir.specs.Computing as computing
use Rattle.word_ir.specs.Computing.{computed}
use Rattle.word_ir.specs.State.{Own, kept}
use Rattle.word_ir.specs.Stamps.{Stamp, Stamped}
use Rattle.frame_ir.specs.Values.{Value, Env}
use Rattle.frame_ir.specs.States.{State, AnEscape, thing_words}
use Rattle.tagged_words.proofs.Chars.{signed_natural, fitted_natural}
use Rattle.word_trees.specs.Trees.{Tree}
use Rattle.word_trees.specs.Cores.{Core, word_in, some_stamp, heap_left, binding, taking}
use Rattle.word_trees.specs.Leads.{Performs}
use Rattle.word_trees.proofs.Operations.{service_of_two_ends}
use Rattle.word_trees.proofs.Performing.{performs_more, arrives, ends, take_performs, no_heap_performs, compute_performs}
use Rattle.frame_words.specs.Segments.{place_of, total_of, AreDistinct}
use Rattle.frame_words.specs.Layouts.{Layout}
use Rattle.frame_words.specs.ValueWords.{same_thing}
use Rattle.frame_words.specs.Contents.{Escapes, thing_contents}
use Rattle.frame_words.specs.Holding.{IsMade}
use Rattle.frame_words.specs.Growing.{Adds}
use Rattle.frame_words.proofs.Sizes.{thing_sized}
use Rattle.frame_words.proofs.Changing.{joined_length}
use Rattle.frame_words.proofs.Growing.{words_stay}
use Rattle.select_rows.specs.Macros.{var, of_var, word, never}
use Rattle.select_rows.specs.Kept.{IsOlder}
use Rattle.select_rows.specs.Codes.{make}
use Rattle.select_rows.proofs.Keeping.{older_kept, newest_kept, keeps_same}
use Rattle.frame_stacks.specs.Stacks.{Ways, StandsFor}
use Rattle.frame_stacks.specs.Frames.{HoldsVariable, Holds}
use Rattle.frame_stacks.proofs.Gets.{binding_held}
use Rattle.frame_heap.specs.Codes.{heap_stores}
use Rattle.frame_heap.specs.Laws.{GoesOnOrFull}
use Rattle.frame_heap.proofs.Filling.{with_heap, IsFilled, zeros_left, heap_store_performs}
use Rattle.frame_heap.proofs.Held.{stands_kept}
use Rattle.frame_heap.proofs.Grown.{IsMore, grown_held}
use Rattle.frame_heap.proofs.Variables.{same_variables}
use Rattle.frame_things.specs.Codes.{make_thing}

-- operands with words, which what is bound from t on doesn't change
abbrev pub AreWords : ℕ → Core → List Operand → List Word → Type 0
AreWords t c [] [] = Unit {0}
AreWords t c [] (w ∷ ws) = ⊥
AreWords t c (x ∷ xs) [] = ⊥
AreWords t c (x ∷ xs) (w ∷ ws) = (word_in c x ≡ Some w) × IsOlder t x × AreWords t c xs ws

pub same_word : (c d : Core) (x : Operand) → d.env ≡ c.env → d.top ≡ c.top → word_in d x ≡ word_in c x
same_word c d (operand.Var v) env top = ap (λ m. kept m (Own v.0)) env
same_word c d (operand.Word n) env top = refl
same_word c d (operand.Static n) env top = refl
same_word c d (operand.Code n) env top = refl
same_word c d (operand.Slot n) env top = ap (λ m. Some (Number (Rattle.word_ir.specs.Word.wrap (m + n)))) top

temporary_word : (t : ℕ) (c : Core) (y : Word) (stamp : Stamp) (x : Operand) → IsOlder t x → word_in (binding c (var t) y stamp) x ≡ word_in c x
temporary_word t c y stamp (operand.Var v) o = older_kept c.env t v.0 y o
temporary_word t c y stamp (operand.Word n) o = refl
temporary_word t c y stamp (operand.Static n) o = refl
temporary_word t c y stamp (operand.Code n) o = refl
temporary_word t c y stamp (operand.Slot n) o = refl

same_words : (t : ℕ) (c d : Core) (xs : List Operand) (ws : List Word) → d.env ≡ c.env → d.top ≡ c.top → AreWords t c xs ws → AreWords t d xs ws
same_words t c d [] [] env top h = tt
same_words t c d [] (w ∷ ws) env top h = absurd h
same_words t c d (x ∷ xs) [] env top h = absurd h
same_words t c d (x ∷ xs) (w ∷ ws) env top h = (same_word c d x env top ∙ h.0, h.1, same_words t c d xs ws env top h.2)

temporary_words : (t : ℕ) (c : Core) (y : Word) (stamp : Stamp) (xs : List Operand) (ws : List Word) → AreWords t c xs ws → AreWords t (binding c (var t) y stamp) xs ws
temporary_words t c y stamp [] [] h = tt
temporary_words t c y stamp [] (w ∷ ws) h = absurd h
temporary_words t c y stamp (x ∷ xs) [] h = absurd h
temporary_words t c y stamp (x ∷ xs) (w ∷ ws) h = (temporary_word t c y stamp x h.1 ∙ h.0, h.1, temporary_words t c y stamp xs ws h.2)

words_counted : (t : ℕ) (c : Core) (xs : List Operand) (ws : List Word) → AreWords t c xs ws → length ws ≡ length xs
words_counted t c [] [] h = refl
words_counted t c [] (w ∷ ws) h = absurd h
words_counted t c (x ∷ xs) [] h = absurd h
words_counted t c (x ∷ xs) (w ∷ ws) h = let n = words_counted t c xs ws h.2 in omega (arith, n)

-- ---- all words of it

module _ (words : Words) (sizes : Sizes) (Q : Stamped → Type 0) (t base : ℕ) (old : List Stamp) where
  list_stored : (cost : ℕ) (rest : Tree) (xs : List Operand) (ws : List Word) (place : ℕ) (d : Core) (done : List Word) (left : ℕ) → IsFilled d old base done (length xs + left) → kept d.env (Own t) ≡ Some (Number (HEAP_START + 4 * base)) → length done ≡ base + place → base + place + length xs ≤ 2 ^ 26 → AreWords t d xs ws
      → ((hs : List Word) (stamps : List Stamp) → IsFilled (with_heap d hs stamps) old base (done ++ ws) left → Performs words sizes Q 1 cost rest (with_heap d hs stamps))
      → Performs words sizes Q 1 (3 * length xs + cost) (heap_stores t place xs rest) d
  list_stored cost rest [] [] place d done left h address is small held next =
      let n : cost ≡ 3 * 0 + cost = omega arith in
      let m : 0 + left ≡ left = omega arith in
      subst (λ k. Performs words sizes Q 1 k rest d) n
      (next d.storage.heap d.longs.heap (subst (λ k. IsFilled d old base k left) (sym (append-nil done)) (subst (IsFilled d old base done) m h)))
  list_stored cost rest [] (w ∷ ws) place d done left h address is small held next = absurd held
  list_stored cost rest (x ∷ xs) [] place d done left h address is small held next = absurd held
  list_stored cost rest (x ∷ xs) (w ∷ ws) place d done left h address is small held next =
      let n : 3 + (3 * length xs + cost) ≡ 3 * length (x ∷ xs) + cost = omega arith in
      let m : length (x ∷ xs) + left ≡ suc (length xs + left) = omega arith in
      let more : length (done ++ w ∷ []) ≡ base + suc place = let k = length-append done (w ∷ []) in omega (arith, k, is) in
      subst (λ k. Performs words sizes Q 1 k (heap_stores t place (x ∷ xs) rest) d) n
      (heap_store_performs words sizes Q t base old base (omega arith) 1 (3 * length xs + cost) place d done (length xs + left) x w (heap_stores t (suc place) xs rest) (subst (IsFilled d old base done) m h) address is (omega (arith, small)) held.0
      (λ hs stamps filled here others.
      list_stored cost rest xs ws (suc place) (with_heap d hs stamps) (done ++ w ∷ []) left filled address more (omega (arith, small)) (same_words t d (with_heap d hs stamps) xs ws refl refl held.2)
      (λ hs' stamps' all. next hs' stamps' (subst (λ k. IsFilled (with_heap d hs' stamps') old base k left) (append_assoc done (w ∷ []) ws) all))))

module _ (words : Words) (sizes : Sizes) (l : Layout) (e : Escapes) (g : Ways) (t : ℕ) (s v : State) (env : Env) (c : Core) (to : Var) (value : Value) (xs : List Operand) (ws : List Word) (pad : ℕ) (rest : Tree) (h : Holds sizes l e g t s env c) where
  abbrev pub u : State
  u = record v { frames = s.frames; live = s.live }

  -- what is made, apart from the room for it
  pub record IsThing (a : Adds l s u) : Type 0 where
    pub words_is : u.store.heap ≡ s.store.heap + (length ws + pad)
    pub total : total_of (thing_words u) a.more ≡ length ws + pad
    pub whole : (length ws + pad) % 2 ≡ 0
    pub distinct : AreDistinct same_thing (thing_words u) u.made
    pub made : AllByRecursion (IsMade l u) a.more
    pub globals : u.globals ≡ s.globals
    pub output : u.store.output ≡ s.store.output
    pub no_escape : (birth : ℕ) → place_of same_thing (thing_words u) a.more (AnEscape birth) ≡ None
    pub contents : flat_map (thing_contents l e u) a.more ≡ ws ++ replicate pad (Number 0)
    pub stands : StandsFor sizes l g u value (Number (HEAP_START + 4 * s.store.heap + 2)) None

  module _ (a : Adds l s u) (k : IsThing a) (below : to.0 < t) (held : AreWords t c xs ws) where
    abbrev Q : Stamped → Type 0
    Q = GoesOnOrFull words sizes l e g t s u ((to.0, value) ∷ env) c rest

    abbrev front : List Word
    front = flat_map (thing_contents l e s) s.made

    front_length : length (flat_map (thing_contents l e s) s.made) ≡ s.store.heap
    front_length = joined_length (thing_contents l e s) (thing_words s) s.made (thing_sized l e s) ∙ sym h.data_held.taken

    count : length ws ≡ length xs
    count = words_counted t c xs ws held

    full : heap_left sizes c < 4 * (length ws + pad) → Performs words sizes Q 1 (8 + 3 * length xs) (make_thing t (length ws + pad) xs to rest) c
    full lacking =
        performs_more words sizes Q (8 + 3 * length xs) (omega arith)
        (no_heap_performs words sizes Q (4 * (length ws + pad)) refl lacking
        (ends words sizes Q 3 _ c (Full false (4 * (length ws + pad)) (heap_left sizes c)) (service_of_two_ends words sizes c 4 (word (4 * (length ws + pad))) (word 0) (4 * (length ws + pad)) 0 (Full false (4 * (length ws + pad)) (heap_left sizes c)) never refl refl refl)
        (λ block place moves steps. inr (record {
          asked = 4 * (length ws + pad);
          more = omega (arith, k.words_is);
          lacking = lacking;
          ends = record { core = c; keeps = keeps_same sizes l e t s c h.data_held; block = block; place = place; moves = moves; steps = steps; there = refl };
        }))))

    module _ (enough : 4 * (length ws + pad) ≤ heap_left sizes c) where
      room : 4 * u.store.heap ≤ sizes.heap
      room = omega (arith, enough, k.words_is, h.data_held.next_is)

      next_is : c.next + 4 * (length ws + pad) ≡ HEAP_START + 4 * u.store.heap
      next_is = omega (arith, k.words_is, h.data_held.next_is)

      abbrev taken : Core
      taken = taking c (var t) (4 * (length ws + pad))

      abbrev left : ℕ
      left = sizes.heap / 4 - u.store.heap

      started : IsFilled taken c.longs.heap s.store.heap front (length xs + (pad + left))
      started =
          let n : sizes.heap / 4 - s.store.heap ≡ length xs + (pad + left) = omega (arith, k.words_is, room, count) in
          record { heap = h.data_held.heap ∙ ap (λ m. front ++ replicate m (Number 0)) n; stamps = λ i lt. refl }

      more : IsMore sizes l e g t s v env c h a
      more = record { words = k.words_is ∙ ap (λ n. s.store.heap + n) (sym k.total); room = room; distinct = k.distinct; made = k.made; globals = k.globals; output = k.output; no_escape = k.no_escape }

      variable_held : (x : ℕ) (y : Value) → HoldsVariable sizes l g t s c x y → HoldsVariable sizes l g t u taken x y
      variable_held x y o = record {
        older = o.older;
        word = o.word;
        stamp = o.stamp;
        held = older_kept c.env t x (Number c.next) o.older ∙ o.held;
        stamped = ap some_stamp (older_kept c.stamps t x None o.older) ∙ o.stamped;
        stands = stands_kept sizes l e g s v c c (words_stay l s u a h.data_held.made) y o.word o.stamp o.stands;
      }

      thing_held : (hs : List Word) (ls : List Stamp) → IsFilled (with_heap taken hs ls) c.longs.heap s.store.heap (front ++ ws) (pad + left) → Holds sizes l e g t u env (with_heap taken hs ls)
      thing_held hs ls filled =
          let zeros : IsFilled (with_heap taken hs ls) c.longs.heap s.store.heap ((front ++ ws) ++ replicate pad (Number 0)) left = zeros_left pad left filled in
          let contents : (front ++ ws) ++ replicate pad (Number 0) ≡ front ++ flat_map (thing_contents l e u) a.more = append_assoc front ws (replicate pad (Number 0)) ∙ ap (λ m. front ++ m) (sym k.contents) in
          grown_held sizes l e g t s v env c h a more ((Own t, Number c.next) ∷ c.env) ((Own t, None) ∷ c.stamps) (c.next + 4 * (length ws + pad)) hs ls next_is
          (subst (λ m. IsFilled (with_heap taken hs ls) c.longs.heap s.store.heap m left) contents zeros) env
          (same_variables sizes l g t u env taken (with_heap taken hs ls) refl refl (record { each = λ x y found. variable_held x y (h.variables.each x y found) }))

      sum_is : computed kind.Add c.next 2 ≡ computing.Gives (c.next + 2)
      sum_is =
          let small : c.next + 2 < 2 ^ 31 = omega (arith, h.data_held.next_is, h.data_held.room, h.data_held.small) in
          rw (signed_natural c.next (omega (arith, small))) (fitted_natural (c.next + 2) small)

      pub with_room : Performs words sizes Q 1 (8 + 3 * length xs) (make_thing t (length ws + pad) xs to rest) c
      with_room =
          let address : kept taken.env (Own t) ≡ Some (Number (HEAP_START + 4 * s.store.heap)) = newest_kept c.env t (Number c.next) ∙ ap (λ n. Some (Number n)) h.data_held.next_is in
          let whole : 4 * (length ws + pad) % 8 ≡ 0 = omega (arith, k.whole) in
          performs_more words sizes Q (8 + 3 * length xs) (omega arith)
          (take_performs words sizes Q (4 * (length ws + pad)) refl enough whole
          (list_stored words sizes Q t s.store.heap c.longs.heap 3 (make kind.Add (of_var t) (word 2) to rest) xs ws 0 taken front (pad + left) started address (omega (arith, front_length)) (omega (arith, room, k.words_is, h.data_held.small, count))
          (same_words t (binding c (var t) (Number c.next) None) taken xs ws refl refl (temporary_words t c (Number c.next) None xs ws held))
          (λ hs ls filled.
          compute_performs words sizes Q c.next 2 (c.next + 2) (newest_kept c.env t (Number c.next)) refl sum_is
          (arrives words sizes Q
          (λ block place moves steps spelled. inl (record {
            core = binding (with_heap taken hs ls) to (Number (c.next + 2)) None;
            holds = binding_held sizes l e g t u env (with_heap taken hs ls) to.0 value (Number (c.next + 2)) None below
                (subst (λ n. StandsFor sizes l g u value (Number n) None) (let n : HEAP_START + 4 * s.store.heap + 2 ≡ c.next + 2 = omega (arith, h.data_held.next_is) in n) k.stands) (thing_held hs ls filled);
            block = block;
            place = place;
            moves = moves;
            steps = steps;
            there = refl;
            spelled = spelled;
          }))))))

    pub thing_performs : Performs words sizes Q 1 (8 + 3 * length xs) (make_thing t (length ws + pad) xs to rest) c
    thing_performs = elim (cases_lt (heap_left sizes c) (4 * (length ws + pad))) [
      | inl lacking ↦ full lacking
      | inr enough ↦ with_room enough
    ]
