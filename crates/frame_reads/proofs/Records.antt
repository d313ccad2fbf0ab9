-- What closures, objects and cells hold is read.
use Rattle.std.proofs.Common.{◌≡◌, ℕ, zero, suc, ◌+◌, ◌-◌, ◌*◌, ◌<◌, ◌⊎◌, inl, inr, true, List, [], ◌∷◌, slice_get, Option, Some, None, is_some, pos, refl, ap, ◌∙◌, subst, arith}
use Rattle.std.specs.Option.{option_map_or}
use Rattle.t_base.specs.declared.basics.Var.{Var}
use Rattle.t_prim.specs.Values.{Val, ClosureV, ObjectV}
use Rattle.word_ir.specs.declared.operands.Operand.TheVariants as operand
use Rattle.word_ir.specs.declared.words.WordOp.TheVariants as op
use Rattle.word_ir.specs.declared.words.Words.{Words}
use Rattle.word_ir.specs.Word.{Number, Code, moved}
use Rattle.word_ir.specs.Storage.{Sizes, long_at}
use Rattle.word_ir.specs.Stamps.{Stamp}
use Rattle.frame_ir.specs.Values.{Value, Lasting, InFrame, CellAt, Closure, Object, Env, value_at}
use Rattle.frame_ir.specs.States.{State, Thing, AClosure, AnObject, ACell}
use Rattle.word_trees.specs.Trees.{Tree, Do}
use Rattle.word_trees.specs.Cores.{Core, some_stamp, binding}
use Rattle.word_trees.specs.Leads.{Performs}
use Rattle.word_trees.proofs.Performing.{arrives, load_performs}
use Rattle.frame_words.specs.Layouts.{Layout, ClosureOf}
use Rattle.frame_words.specs.ValueWords.{captured_for, captured_word, word_for, or_zero}
use Rattle.frame_words.specs.Contents.{Escapes, captures, closure_contents, object_contents, cell_contents, thing_contents}
use Rattle.frame_words.specs.Holding.{IsMade, AreCaptured}
use Rattle.frame_words.specs.Origins.{OnHeap, InStatics, IsRead}
use Rattle.frame_words.proofs.Segments.{get_left}
use Rattle.frame_words.proofs.Reading.{made_is, fixed_is}
use Rattle.frame_words.proofs.Values.{either, on_heap, heap_word}
use Rattle.select_rows.proofs.Keeping.{may_read}
use Rattle.frame_stacks.specs.Stacks.{Ways, StandsFor, IsLasting}
use Rattle.frame_stacks.specs.Frames.{HoldsVariable, Holds}
use Rattle.frame_stacks.specs.Laws.{GoesOn}
use Rattle.frame_stacks.proofs.Gets.{binding_held}
use Rattle.frame_reads.specs.Codes.{closure_get, cell_get}

-- ---- what is captured

captured_at : (l : Layout) (s : State) (vs : List Value) (i : ℕ) (v : Value) → AreCaptured l s vs → slice_get vs i ≡ Some v → is_some (captured_for l s v) ≡ true
captured_at l s [] i v k at = absurd (cc)
captured_at l s (w ∷ vs) zero v k at = let same : w ≡ v = cc in subst (λ y. is_some (captured_for l s y) ≡ true) same k.0
captured_at l s (w ∷ vs) (suc i) v k at = captured_at l s vs i v k.1 at

word_at : (l : Layout) (s : State) (vs : List Value) (i : ℕ) (v : Value) → slice_get vs i ≡ Some v → slice_get (captures l s vs) i ≡ Some (Number (captured_word l s v))
word_at l s [] i v at = absurd (cc)
word_at l s (w ∷ vs) zero v at = let same : w ≡ v = cc in ap (λ y. Some (Number (captured_word l s y))) same
word_at l s (w ∷ vs) (suc i) v at = word_at l s vs i v at

some_number : (o : Option ℕ) → is_some o ≡ true → o ≡ Some (or_zero o)
some_number (Some n) k = refl
some_number None k = absurd (cc)

-- a captured value has its word whatever the stamp
captured_stands : (sizes : Sizes) (l : Layout) (g : Ways) (s : State) (v : Value) (stamp : Stamp) → is_some (captured_for l s v) ≡ true → StandsFor sizes l g s v (Number (captured_word l s v)) stamp
captured_stands sizes l g s (Lasting v) stamp k = record { number = captured_word l s (Lasting v); known = some_number (captured_for l s (Lasting v)) k; is = refl }
captured_stands sizes l g s (CellAt i) stamp k = record { number = captured_word l s (CellAt i); known = some_number (captured_for l s (CellAt i)) k; is = refl }
captured_stands sizes l g s (InFrame birth slot) stamp k = absurd (cc)

module _ (words : Words) (sizes : Sizes) (l : Layout) (e : Escapes) (g : Ways) (t : ℕ) (s : State) (env : Env) (c : Core) (to from : Var) (v : Value) (rest : Tree) (h : Holds sizes l e g t s env c) (below : to.0 < t) where
  -- a word of what a variable names on the heap
  read_performs : (n m offset i : ℕ) (x : Thing) → Rattle.word_ir.specs.State.kept c.env (Rattle.word_ir.specs.State.Own from.0) ≡ Some (Number n) → OnHeap s 2 x n → slice_get (thing_contents l e s x) i ≡ Some (Number m) → offset + 2 ≡ 4 * i → ((stamp : Stamp) → StandsFor sizes l g s v (Number m) stamp)
      → Performs words sizes (GoesOn words sizes l e g t s ((to.0, v) ∷ env) rest) 1 2 (Do (op.Load to (operand.Var from) (pos offset)) rest) c
  read_performs n m offset i x held o at is stands =
      let r : IsRead c.storage (n - 2 + 4 * i) (Number m) = heap_word sizes l e s c.storage c.next c.output h.data_held 2 x n i (Number m) o at in
      let address : moved n (pos offset) ≡ n - 2 + 4 * i = omega (arith, o.word, is, r.outside) in
      let stamp : Stamp = some_stamp (long_at c.longs (moved n (pos offset))) in
      load_performs words sizes (GoesOn words sizes l e g t s ((to.0, v) ∷ env) rest) n (Number m) held (ap (long_at c.storage) address ∙ r.reads)
      (may_read words sizes c (operand.Var from) (moved n (pos offset)) (omega (arith, address, r.outside)))
      (arrives words sizes (GoesOn words sizes l e g t s ((to.0, v) ∷ env) rest)
      (λ block place moves steps spelled. record { core = binding c to (Number m) stamp; holds = binding_held sizes l e g t s env c to.0 v (Number m) stamp below (stands stamp) h; block = block; place = place; moves = moves; steps = steps; there = refl; spelled = spelled }))

  closure_by : (i slot n : ℕ) (k : Closure) → OnHeap s 2 (AClosure i) n ⊎ InStatics l 2 (ClosureOf i) n → Rattle.word_ir.specs.State.kept c.env (Rattle.word_ir.specs.State.Own from.0) ≡ Some (Number n) → slice_get s.closures i ≡ Some k → slice_get k.captured slot ≡ Some v
      → Performs words sizes (GoesOn words sizes l e g t s ((to.0, v) ∷ env) rest) 1 2 (closure_get to from slot rest) c
  closure_by i slot n k (inl o) held there at =
      let made : IsMade l s (AClosure i) = made_is sizes l e s c.storage c.next c.output h.data_held (AClosure i) o.place o.found in
      let same : made.0 ≡ k = let a : slice_get s.closures i ≡ Some made.0 = made.1 in cc in
      let known : AreCaptured l s k.captured = subst (λ y. AreCaptured l s y.captured) same made.2 in
      let index : 3 + slot ≡ suc (suc (suc slot)) = omega arith in
      let inside : slice_get (closure_contents l s k) (suc (suc (suc slot))) ≡ Some (Number (captured_word l s v)) =
      get_left (Number 0x1D ∷ Code (l.closure_entry k.code) ∷ Number 0 ∷ captures l s k.captured) _ (suc (suc (suc slot))) (Number (captured_word l s v)) (word_at l s k.captured slot v at) in
      let found : slice_get (thing_contents l e s (AClosure i)) (3 + slot) ≡ Some (Number (captured_word l s v)) = ap (λ ws. slice_get (option_map_or (closure_contents l s) ws []) (3 + slot)) there ∙ (ap (slice_get (closure_contents l s k)) index ∙ inside) in
      read_performs n (captured_word l s v) (4 * slot + 10) (3 + slot) (AClosure i) held o found (omega arith) (λ stamp. captured_stands sizes l g s v stamp (captured_at l s k.captured slot v known at))
  closure_by i slot n k (inr o) held there at =
      let fixed : slice_get s.closures i ≡ Some (record { code = i; captured = [] }) = fixed_is sizes l e s c.storage c.next c.output h.data_held (ClosureOf i) o.place o.found in
      let same : k ≡ record { code = i; captured = [] } = cc in
      absurd (let none : slice_get k.captured slot ≡ None = ap (λ y. slice_get y.captured slot) same in cc)

  object_by : (i slot n : ℕ) (k : Object) → OnHeap s 2 (AnObject i) n → Rattle.word_ir.specs.State.kept c.env (Rattle.word_ir.specs.State.Own from.0) ≡ Some (Number n) → slice_get s.objects i ≡ Some k → slice_get k.captured slot ≡ Some v
      → Performs words sizes (GoesOn words sizes l e g t s ((to.0, v) ∷ env) rest) 1 2 (closure_get to from slot rest) c
  object_by i slot n k o held there at =
      let made : IsMade l s (AnObject i) = made_is sizes l e s c.storage c.next c.output h.data_held (AnObject i) o.place o.found in
      let same : made.0 ≡ k = let a : slice_get s.objects i ≡ Some made.0 = made.1 in cc in
      let known : AreCaptured l s k.captured = subst (λ y. AreCaptured l s y.captured) same made.3 in
      let index : 3 + slot ≡ suc (suc (suc slot)) = omega arith in
      let inside : slice_get (object_contents l s k) (suc (suc (suc slot))) ≡ Some (Number (captured_word l s v)) =
      get_left (Number 0x21 ∷ Number (or_zero (Rattle.frame_words.specs.Layouts.fixed_address l (Rattle.frame_words.specs.Layouts.TemplateOf k.template))) ∷ Number (Rattle.frame_words.specs.ValueWords.val_word l s k.procedure) ∷ captures l s k.captured) _ (suc (suc (suc slot))) (Number (captured_word l s v)) (word_at l s k.captured slot v at) in
      let found : slice_get (thing_contents l e s (AnObject i)) (3 + slot) ≡ Some (Number (captured_word l s v)) = ap (λ ws. slice_get (option_map_or (object_contents l s) ws []) (3 + slot)) there ∙ (ap (slice_get (object_contents l s k)) index ∙ inside) in
      read_performs n (captured_word l s v) (4 * slot + 10) (3 + slot) (AnObject i) held o found (omega arith) (λ stamp. captured_stands sizes l g s v stamp (captured_at l s k.captured slot v known at))

pub closure_read : (words : Words) (sizes : Sizes) (l : Layout) (e : Escapes) (g : Ways) (t : ℕ) (s : State) (env : Env) (c : Core) (to from : Var) (i slot : ℕ) (k : Closure) (v : Value) (rest : Tree) → Holds sizes l e g t s env c → value_at env from.0 ≡ Some (Lasting (ClosureV i)) → slice_get s.closures i ≡ Some k → slice_get k.captured slot ≡ Some v → to.0 < t → Performs words sizes (GoesOn words sizes l e g t s ((to.0, v) ∷ env) rest) 1 2 (closure_get to from slot rest) c
closure_read words sizes l e g t s env c to from i slot k v rest h is there at below =
    let o : HoldsVariable sizes l g t s c from.0 (Lasting (ClosureV i)) = h.variables.each from.0 (Lasting (ClosureV i)) is in
    let w : IsLasting l s (Lasting (ClosureV i)) o.word = o.stands in
    closure_by words sizes l e g t s env c to from v rest h below i slot w.number k (either l s 2 (AClosure i) (ClosureOf i) w.number w.known) (o.held ∙ ap Some w.is) there at

pub object_read : (words : Words) (sizes : Sizes) (l : Layout) (e : Escapes) (g : Ways) (t : ℕ) (s : State) (env : Env) (c : Core) (to from : Var) (i slot : ℕ) (k : Object) (v : Value) (rest : Tree) → Holds sizes l e g t s env c → value_at env from.0 ≡ Some (Lasting (ObjectV i)) → slice_get s.objects i ≡ Some k → slice_get k.captured slot ≡ Some v → to.0 < t → Performs words sizes (GoesOn words sizes l e g t s ((to.0, v) ∷ env) rest) 1 2 (closure_get to from slot rest) c
object_read words sizes l e g t s env c to from i slot k v rest h is there at below =
    let o : HoldsVariable sizes l g t s c from.0 (Lasting (ObjectV i)) = h.variables.each from.0 (Lasting (ObjectV i)) is in
    let w : IsLasting l s (Lasting (ObjectV i)) o.word = o.stands in
    object_by words sizes l e g t s env c to from v rest h below i slot w.number k (on_heap s 2 (AnObject i) w.number w.known) (o.held ∙ ap Some w.is) there at

pub cell_read : (words : Words) (sizes : Sizes) (l : Layout) (e : Escapes) (g : Ways) (t : ℕ) (s : State) (env : Env) (c : Core) (to cell : Var) (k : ℕ) (v : Val) (rest : Tree) → Holds sizes l e g t s env c → value_at env cell.0 ≡ Some (CellAt k) → slice_get s.cells k ≡ Some v → to.0 < t → Performs words sizes (GoesOn words sizes l e g t s ((to.0, Lasting v) ∷ env) rest) 1 2 (cell_get to cell rest) c
cell_read words sizes l e g t s env c to cell k v rest h is there below =
    let o : HoldsVariable sizes l g t s c cell.0 (CellAt k) = h.variables.each cell.0 (CellAt k) is in
    let w : IsLasting l s (CellAt k) o.word = o.stands in
    let heap : OnHeap s 2 (ACell k) w.number = on_heap s 2 (ACell k) w.number w.known in
    let made : IsMade l s (ACell k) = made_is sizes l e s c.storage c.next c.output h.data_held (ACell k) heap.place heap.found in
    let same : made.0 ≡ v = let a : slice_get s.cells k ≡ Some made.0 = made.1 in cc in
    let known : is_some (word_for l s v) ≡ true = subst (λ y. is_some (word_for l s y) ≡ true) same made.2.0 in
    let found : slice_get (thing_contents l e s (ACell k)) 1 ≡ Some (Number (captured_word l s (Lasting v))) = ap (λ x. slice_get (cell_contents l s x) 1) there in
    read_performs words sizes l e g t s env c to cell (Lasting v) rest h below w.number (captured_word l s (Lasting v)) 2 1 (ACell k) (o.held ∙ ap Some w.is) heap found refl (λ stamp. captured_stands sizes l g s (Lasting v) stamp known)
