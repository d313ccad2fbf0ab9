-- A cell and an object.
use Rattle.std.proofs.Common.{◌≡◌, ℕ, ◌+◌, ◌*◌, ◌%◌, ◌<◌, true, false, List, [], ◌∷◌, ◌++◌, length, map, replicate, slice_get, Some, None, is_some, option_map, refl, sym, ap, ◌∙◌, subst, arith, append-nil}
use Rattle.std.specs.List.{list_all, AllByRecursion}
use Rattle.std.specs.Option.{option_map_or}
use Rattle.std.proofs.lemmas.Bool.{ne_eqb}
use Rattle.std.proofs.lemmas.List.{length-map}
use Rattle.std.proofs.lemmas.Option.{slice_get_within}
use Rattle.t_base.specs.declared.basics.Var.{Var}
use Rattle.t_prim.specs.Values.{Val, Text, Literal, PrintName, ObjectV, text_of}
use Rattle.word_ir.specs.declared.operands.Operand.{Operand}
use Rattle.word_ir.specs.declared.operands.Operand.TheVariants as operand
use Rattle.word_ir.specs.declared.words.Words.{Words}
use Rattle.word_ir.specs.Word.{Word, Number}
use Rattle.word_ir.specs.Storage.{Sizes, HEAP_START}
use Rattle.frame_ir.specs.Values.{Value, Lasting, CellAt, Object, Env, value_at, is_lasting, record_words, cell_words}
use Rattle.frame_ir.specs.States.{State, Thing, APair, AVector, AClosure, AnObject, AnEscape, ACell, thing_words, taking, with_cell, with_object}
use Rattle.frame_ir.specs.Arguments.{each_of, kept_values}
use Rattle.word_trees.specs.Trees.{Tree}
use Rattle.word_trees.specs.Cores.{Core}
use Rattle.word_trees.specs.Leads.{Performs}
use Rattle.word_trees.proofs.Performing.{performs_more}
use Rattle.frame_words.specs.Segments.{place_of, total_of}
use Rattle.frame_words.specs.Layouts.{Layout, TemplateOf, fixed_place, fixed_address}
use Rattle.frame_words.specs.ValueWords.{same_thing, heap_place, word_for, val_word, or_zero, tagged, CELL}
use Rattle.frame_words.specs.Contents.{Escapes, captures, thing_contents, object_contents}
use Rattle.frame_words.specs.Holding.{IsMade}
use Rattle.frame_words.specs.Growing.{WordsStay, Adds}
use Rattle.frame_words.proofs.Segments.{get_left, place_last, later_place}
use Rattle.frame_words.proofs.Identity.{thing_symmetric}
use Rattle.frame_words.proofs.Sizes.{thing_same}
use Rattle.frame_words.proofs.Growing.{words_stay, sizes_stay, total_alike, distinct_more, captures_stay, all_captured_stay}
use Rattle.select_rows.specs.Macros.{word}
use Rattle.frame_stacks.specs.Stacks.{Ways, IsLasting}
use Rattle.frame_stacks.specs.Frames.{HoldsVariable, Holds}
use Rattle.frame_stacks.specs.Laws.{HasValue}
use Rattle.frame_pushes.proofs.Kept.{each_by, values_count}
use Rattle.frame_heap.specs.Laws.{GoesOnOrFull}
use Rattle.frame_heap.proofs.Filling.{HaveWords}
use Rattle.frame_heap.proofs.Variables.{AreWordsOf, captured_words}
use Rattle.frame_things.specs.Codes.{make_thing, make_cell, make_object}
use Rattle.frame_things.proofs.Single.{AreWords, IsThing, thing_performs}

get_last : {X : Type 0} (xs : List X) (x : X) → slice_get (xs ++ x ∷ []) (length xs) ≡ Some x
get_last [] x = refl
get_last (y ∷ xs) x = get_last xs x

absent : (l : Layout) (s : State) (size : Thing → ℕ) (x : Thing) (xs : List Thing) → ((y : Thing) → IsMade l s y → same_thing y x ≡ false) → AllByRecursion (IsMade l s) xs → place_of same_thing size xs x ≡ None
absent l s size x [] f h = refl
absent l s size x (y ∷ xs) f h = later_place same_thing size y x xs None (f y h.0) (absent l s size x xs f h.1)

-- an operand with a lasting value has its word
has_word : (words : Words) (sizes : Sizes) (l : Layout) (g : Ways) (t : ℕ) (s : State) (c : Core) (x : Operand) (v : Val) → HasValue words sizes l g t s c x (Lasting v) → (Rattle.word_trees.specs.Cores.word_in c x ≡ Some (Number (val_word l s v))) × (word_for l s v ≡ Some (val_word l s v))
has_word words sizes l g t s c x v h =
    let w : IsLasting l s (Lasting v) h.word = h.stands in
    let n : val_word l s v ≡ w.number = ap or_zero w.known in
    (h.held ∙ (ap Some w.is ∙ ap (λ k. Some (Number k)) (sym n)), w.known ∙ ap Some (sym n))

-- where one thing more is made, its place is that of the first free word
module _ (sizes : Sizes) (l : Layout) (e : Escapes) (g : Ways) (t : ℕ) (s u : State) (env : Env) (c : Core) (h : Holds sizes l e g t s env c) (a : Adds l s u) (x : Thing) (made : u.made ≡ s.made ++ x ∷ []) (new : (y : Thing) → IsMade l s y → same_thing y x ≡ false) where
  stay : WordsStay l s u
  stay = words_stay l s u a h.data_held.made

  old_total : total_of (thing_words u) s.made ≡ s.store.heap
  old_total = sym (total_alike (thing_words s) (thing_words u) s.made (sizes_stay l s u a h.data_held.made)) ∙ sym h.data_held.taken

  place_is : heap_place u x ≡ Some s.store.heap
  place_is =
      subst (λ m. place_of same_thing (thing_words u) m x ≡ Some s.store.heap) (sym made)
      (place_last same_thing (thing_words u) s.made x (thing_same x) (absent l s (thing_words u) x s.made new h.data_held.made) ∙ ap Some old_total)

-- ---- cells

module _ (words : Words) (sizes : Sizes) (l : Layout) (e : Escapes) (g : Ways) (t : ℕ) (s : State) (env : Env) (c : Core) (to : Var) (x : Operand) (v : Val) (rest : Tree) (h : Holds sizes l e g t s env c) (hx : HasValue words sizes l g t s c x (Lasting v)) (below : to.0 < t) where
  abbrev with_one : State
  with_one = taking cell_words (with_cell s v)

  cell_text : (y : Text) (b : List ℕ) → text_of s.store y ≡ Some b → text_of with_one.store y ≡ Some b
  cell_text (Literal k) b q = q
  cell_text (PrintName n) b q = q

  abbrev cell_adds : Adds l s with_one
  cell_adds = record {
    more = ACell (length s.cells) ∷ [];
    made = refl;
    pairs = λ k p at. at;
    vectors = λ k items at. at;
    closures = λ i y at. at;
    objects = λ i y at. at;
    cells = λ k y at. get_left s.cells (v ∷ []) k y at;
    frames = omega arith;
    texts = cell_text;
    pairs_apart = λ k p found. refl;
    closures_apart = λ i p found. refl;
  }

  new_cell : (y : Thing) → IsMade l s y → same_thing y (ACell (length s.cells)) ≡ false
  new_cell (APair k) m = refl
  new_cell (AVector k) m = refl
  new_cell (AClosure k) m = refl
  new_cell (AnObject k) m = refl
  new_cell (AnEscape k) m = refl
  new_cell (ACell k) m = ne_eqb k (length s.cells) (λ eq. absurd (omega (arith, slice_get_within s.cells k m.0 m.1, eq)))

  cell_stay : WordsStay l s with_one
  cell_stay = words_stay l s with_one cell_adds h.data_held.made

  cell_word : val_word l with_one v ≡ val_word l s v
  cell_word = let w = has_word words sizes l g t s c x v hx in ap or_zero (cell_stay.values v (val_word l s v) w.1)

  cell_is : IsThing words sizes l e g t s with_one env c to (CellAt (length s.cells)) (word CELL ∷ x ∷ []) (Number CELL ∷ Number (val_word l s v) ∷ []) 0 rest h cell_adds
  cell_is =
      let w = has_word words sizes l g t s c x v hx in
      let place = place_is sizes l e g t s with_one env c h cell_adds (ACell (length s.cells)) refl new_cell in
      record {
        words_is = refl;
        total = refl;
        whole = refl;
        distinct = distinct_more same_thing (thing_words s) (thing_words with_one) s.made (ACell (length s.cells)) thing_symmetric h.data_held.distinct (absent l s (thing_words s) (ACell (length s.cells)) s.made new_cell h.data_held.made);
        made = ((v, get_last s.cells v, (ap is_some (cell_stay.values v (val_word l s v) w.1), tt)), tt);
        globals = refl;
        output = refl;
        no_escape = λ birth. refl;
        contents = rw (get_last s.cells v, cell_word) refl;
        stands = record { number = HEAP_START + 4 * s.store.heap + 2; known = ap (λ o. tagged 2 (option_map (λ p. HEAP_START + 4 * p) o)) place; is = refl };
      }

  pub one_cell : Performs words sizes (GoesOnOrFull words sizes l e g t s with_one ((to.0, CellAt (length s.cells)) ∷ env) c rest) 1 14 (make_cell t to x rest) c
  one_cell =
      let w = has_word words sizes l g t s c x v hx in
      thing_performs words sizes l e g t s with_one env c to (CellAt (length s.cells)) (word CELL ∷ x ∷ []) (Number CELL ∷ Number (val_word l s v) ∷ []) 0 rest h cell_adds cell_is below (refl, tt, (w.0, hx.older, tt))

pub cell_made : (words : Words) (sizes : Sizes) (l : Layout) (e : Escapes) (g : Ways) (t : ℕ) (s : State) (env : Env) (c : Core) (to : Var) (x : Operand) (v : Val) (rest : Tree) → Holds sizes l e g t s env c → HasValue words sizes l g t s c x (Lasting v) → to.0 < t → Performs words sizes (GoesOnOrFull words sizes l e g t s (taking cell_words (with_cell s v)) ((to.0, CellAt (length s.cells)) ∷ env) c rest) 1 14 (make_cell t to x rest) c
cell_made words sizes l e g t s env c to x v rest h hx below = one_cell words sizes l e g t s env c to x v rest h hx below

-- ---- objects

module _ (words : Words) (sizes : Sizes) (l : Layout) (e : Escapes) (g : Ways) (t : ℕ) (s : State) (env : Env) (c : Core) (to : Var) (template : ℕ) (x : Operand) (f : Val) (xs : List Var) (vs : List Value) (rest : Tree) (h : Holds sizes l e g t s env c) (hx : HasValue words sizes l g t s c x (Lasting f)) (known : kept_values env xs ≡ Some vs) (lasting : list_all is_lasting vs ≡ true) (there : is_some (fixed_place l (TemplateOf template)) ≡ true) (below : to.0 < t) where
  abbrev object : Object
  object = record { procedure = f; template = template; captured = vs }

  abbrev with_this : State
  with_this = taking (record_words (length xs)) (with_object s (record { procedure = f; template = template; captured = vs }))

  object_text : (y : Text) (b : List ℕ) → text_of s.store y ≡ Some b → text_of with_this.store y ≡ Some b
  object_text (Literal k) b q = q
  object_text (PrintName n) b q = q

  abbrev object_adds : Adds l s with_this
  object_adds = record {
    more = AnObject (length s.objects) ∷ [];
    made = refl;
    pairs = λ k p at. at;
    vectors = λ k items at. at;
    closures = λ i y at. at;
    objects = λ i y at. get_left s.objects (object ∷ []) i y at;
    cells = λ k y at. at;
    frames = omega arith;
    texts = object_text;
    pairs_apart = λ k p found. refl;
    closures_apart = λ i p found. refl;
  }

  new_object : (y : Thing) → IsMade l s y → same_thing y (AnObject (length s.objects)) ≡ false
  new_object (APair k) m = refl
  new_object (AVector k) m = refl
  new_object (AClosure k) m = refl
  new_object (AnObject k) m = ne_eqb k (length s.objects) (λ eq. absurd (omega (arith, slice_get_within s.objects k m.0 m.1, eq)))
  new_object (AnEscape k) m = refl
  new_object (ACell k) m = refl

  object_stay : WordsStay l s with_this
  object_stay = words_stay l s with_this object_adds h.data_held.made

  caught : AreWordsOf sizes l g t s c.env xs vs
  caught = captured_words sizes l g t s env c xs vs h.variables known lasting

  procedure_word : val_word l with_this f ≡ val_word l s f
  procedure_word = let w = has_word words sizes l g t s c x f hx in ap or_zero (object_stay.values f (val_word l s f) w.1)

  captured_same : captures l with_this vs ≡ captures l s vs
  captured_same = captures_stay l s with_this object_stay vs caught.known

  abbrev stored : List Word
  stored = Number 0x21 ∷ Number (or_zero (fixed_address l (TemplateOf template))) ∷ Number (val_word l s f) ∷ captures l s vs

  abbrev pad : ℕ
  pad = length (Number 0x21 ∷ Number (or_zero (fixed_address l (TemplateOf template))) ∷ Number (val_word l s f) ∷ captures l s vs) % 2

  words_are : length stored + pad ≡ record_words (length xs)
  words_are =
      let n : length (captures l s vs) ≡ length vs = length-map vs _ in
      let m : length vs ≡ length xs = values_count env xs vs known in
      omega (arith, n, m)

  object_total : thing_words with_this (AnObject (length s.objects)) ≡ record_words (length xs)
  object_total = ap (λ o. option_map_or (λ y. record_words (length y.captured)) o 0) (get_last s.objects object) ∙ ap record_words (values_count env xs vs known)

  object_contents_are : thing_contents l e with_this (AnObject (length s.objects)) ≡ stored ++ replicate pad (Number 0)
  object_contents_are =
      ap (λ o. option_map_or (object_contents l with_this) o []) (get_last s.objects object)
      ∙ (ap (λ n. (Number 0x21 ∷ Number (or_zero (fixed_address l (TemplateOf template))) ∷ Number n ∷ captures l with_this vs) ++ replicate (length (Number 0x21 ∷ Number (or_zero (fixed_address l (TemplateOf template))) ∷ Number n ∷ captures l with_this vs) % 2) (Number 0)) procedure_word
      ∙ ap (λ ws. (Number 0x21 ∷ Number (or_zero (fixed_address l (TemplateOf template))) ∷ Number (val_word l s f) ∷ ws) ++ replicate (length (Number 0x21 ∷ Number (or_zero (fixed_address l (TemplateOf template))) ∷ Number (val_word l s f) ∷ ws) % 2) (Number 0)) captured_same)

  object_is : IsThing words sizes l e g t s with_this env c to (Lasting (ObjectV (length s.objects))) (word 0x21 ∷ word (or_zero (fixed_address l (TemplateOf template))) ∷ x ∷ map operand.Var xs) stored pad rest h object_adds
  object_is =
      let w = has_word words sizes l g t s c x f hx in
      let place = place_is sizes l e g t s with_this env c h object_adds (AnObject (length s.objects)) refl new_object in
      record {
        words_is = ap (λ n. s.store.heap + n) (sym words_are);
        total = let n : thing_words with_this (AnObject (length s.objects)) + 0 ≡ record_words (length xs) = omega (arith, object_total) in n ∙ sym words_are;
        whole = omega (arith, words_are);
        distinct = distinct_more same_thing (thing_words s) (thing_words with_this) s.made (AnObject (length s.objects)) thing_symmetric h.data_held.distinct (absent l s (thing_words s) (AnObject (length s.objects)) s.made new_object h.data_held.made);
        made = ((object, get_last s.objects object, (ap is_some (object_stay.values f (val_word l s f) w.1), tt), all_captured_stay l s with_this object_stay vs caught.known, there), tt);
        globals = refl;
        output = refl;
        no_escape = λ birth. refl;
        contents = append-nil (thing_contents l e with_this (AnObject (length s.objects))) ∙ object_contents_are;
        stands = record { number = HEAP_START + 4 * s.store.heap + 2; known = ap (λ o. tagged 2 (option_map (λ p. HEAP_START + 4 * p) o)) place; is = refl };
      }

  older_vars : (ys : List Var) (us : List Value) (ws : List Word) → kept_values env ys ≡ Some us → HaveWords c.env ys ws → AreWords t c (map operand.Var ys) ws
  older_vars [] us [] q k = tt
  older_vars [] us (w ∷ ws) q k = absurd k
  older_vars (y ∷ ys) us [] q k = absurd k
  older_vars (y ∷ ys) us (w ∷ ws) q k =
      let m = each_by (value_at env y.0) (each_of (λ z. value_at env z.0) ys) us q in
      let o : HoldsVariable sizes l g t s c y.0 m.0 = h.variables.each y.0 m.0 m.2 in
      (k.0, o.older, older_vars ys m.1 ws m.3 k.1)

  vars_count : (ys : List Var) → length (map operand.Var ys) ≡ length ys
  vars_count [] = refl
  vars_count (y ∷ ys) = omega (arith, vars_count ys)

  pub one_object : Performs words sizes (GoesOnOrFull words sizes l e g t s with_this ((to.0, Lasting (ObjectV (length s.objects))) ∷ env) c rest) 1 (17 + 3 * length xs) (make_object l t to template x xs rest) c
  one_object =
      let w = has_word words sizes l g t s c x f hx in
      let all : List Operand = word 0x21 ∷ word (or_zero (fixed_address l (TemplateOf template))) ∷ x ∷ map operand.Var xs in
      let n = vars_count xs in
      subst (λ k. Performs words sizes (GoesOnOrFull words sizes l e g t s with_this ((to.0, Lasting (ObjectV (length s.objects))) ∷ env) c rest) 1 (17 + 3 * length xs) (make_thing t k (word 0x21 ∷ word (or_zero (fixed_address l (TemplateOf template))) ∷ x ∷ map operand.Var xs) to rest) c) words_are
      (performs_more words sizes (GoesOnOrFull words sizes l e g t s with_this ((to.0, Lasting (ObjectV (length s.objects))) ∷ env) c rest) (17 + 3 * length xs) (omega (arith, n))
      (thing_performs words sizes l e g t s with_this env c to (Lasting (ObjectV (length s.objects))) (word 0x21 ∷ word (or_zero (fixed_address l (TemplateOf template))) ∷ x ∷ map operand.Var xs) stored pad rest h object_adds object_is below
      (refl, tt, (refl, tt, (w.0, hx.older, older_vars xs vs (captures l s vs) known caught.held)))))

pub object_made : (words : Words) (sizes : Sizes) (l : Layout) (e : Escapes) (g : Ways) (t : ℕ) (s : State) (env : Env) (c : Core) (to : Var) (template : ℕ) (x : Operand) (f : Val) (xs : List Var) (vs : List Value) (rest : Tree) → Holds sizes l e g t s env c → HasValue words sizes l g t s c x (Lasting f) → kept_values env xs ≡ Some vs → list_all is_lasting vs ≡ true → is_some (fixed_place l (TemplateOf template)) ≡ true → to.0 < t → Performs words sizes (GoesOnOrFull words sizes l e g t s (taking (record_words (length xs)) (with_object s (record { procedure = f; template = template; captured = vs }))) ((to.0, Lasting (ObjectV (length s.objects))) ∷ env) c rest) 1 (17 + 3 * length xs) (make_object l t to template x xs rest) c
object_made words sizes l e g t s env c to template x f xs vs rest h hx known lasting there below = one_object words sizes l e g t s env c to template x f xs vs rest h hx known lasting there below
