-- The rows that put bytes.
use Rattle.std.proofs.Common.{◌≡◌, ℕ, ◌-◌, ◌/◌, ◌%◌, ◌<◌, List, [], ◌∷◌, ◌++◌, length, replicate, Some, None, inl, refl, sym, ap, ◌∙◌, subst, arith, append-nil}
use Rattle.std.specs.List.{flat_map}
use Rattle.std.specs.Fmt.{signed_decimal}
use Rattle.std.proofs.lemmas.Bool.{lt-ltb, le-ltb, eq-eqb}
use Rattle.t_base.specs.declared.basics.Var.{Var}
use Rattle.t_base.specs.declared.builtins.Builtin.TheVariants as builtin
use Rattle.t_prim.specs.Values.{Val, NilV, Store, Text, Literal, PrintName, with_output, text_of}
use Rattle.t_prim.specs.Operands.{Changes}
use Rattle.word_ir.specs.declared.operands.Operand.{Operand}
use Rattle.word_ir.specs.declared.words.WordOp.TheVariants as op
use Rattle.word_ir.specs.declared.words.Words.{Words}
use Rattle.word_ir.specs.Word.{Number}
use Rattle.word_ir.specs.Storage.{Sizes}
use Rattle.word_ir.specs.Effects.{Puts, service_effect}
use Rattle.word_ir.specs.Step.{words_in}
use Rattle.word_ir.specs.Stamps.{Stamp}
use Rattle.word_faces.specs.Faces.{character_of}
use Rattle.frame_ir.specs.States.{State, with_store, new_things, thing_words}
use Rattle.tagged_words.specs.Tags.{fixnum_word, char_word}
use Rattle.word_trees.specs.Trees.{Tree, Do}
use Rattle.word_trees.specs.Cores.{Core, at, word_in, binding, putting}
use Rattle.word_trees.proofs.Performing.{arrives, moves_performs, put_performs}
use Rattle.frame_words.specs.Layouts.{Layout}
use Rattle.frame_words.specs.ValueWords.{NIL, word_for, same_thing}
use Rattle.frame_words.specs.Contents.{Escapes, thing_contents}
use Rattle.frame_words.specs.Holding.{HoldsData}
use Rattle.frame_words.specs.Growing.{Adds}
use Rattle.frame_words.proofs.Growing.{words_stay, data_grow}
use Rattle.select_rows.specs.Macros.{word}
use Rattle.select_rows.specs.Kept.{Keeps, Comes}
use Rattle.select_rows.specs.Codes.{code_of, IsCodeOf, give_nil, newline_word}
use Rattle.select_rows.proofs.Keeping.{keeps_same, keeps_binds, has_binds}
use Rattle.select_rows.proofs.Checks.{char_performs}
use Rattle.select_rows.proofs.Results.{performs}
use Rattle.select_rows.proofs.NumberRows.{fixnum_performs_one, fixnum_again, char_held}

-- ---- a changed store

pub arrive_changed : (words : Words) (sizes : Sizes) (l : Layout) (e : Escapes) (t : ℕ) (s : State) (start : Core) (to : Var) (rest : Tree) (d : Core) (store : Store) (v : Val) (n : ℕ) (stamp : Stamp) → Keeps sizes l e t s (with_store s store) start d → word_for l (with_store s store) v ≡ Some n → performs words sizes l e t s start to rest (Changes store v) 0 0 rest (binding d to (Number n) stamp)
arrive_changed words sizes l e t s start to rest d store v n stamp keeps is =
    arrives words sizes (Comes words sizes l e t s start to rest (Changes store v))
    (λ block place moves steps spelled. inl (record { core = d; number = n; stamp = stamp; keeps = keeps; is = is; block = block; place = place; moves = moves; steps = steps; there = refl; spelled = spelled }))

-- ---- bytes more

nothing_new : (s : Store) (bytes : List ℕ) → new_things s (with_output s bytes) ≡ []
nothing_new s bytes = rw (le-ltb (length s.pairs) (length s.pairs) (omega arith), le-ltb (length s.vectors) (length s.vectors) (omega arith)) refl

same_text : (s : Store) (bytes : List ℕ) (t : Text) (b : List ℕ) → text_of s t ≡ Some b → text_of (with_output s bytes) t ≡ Some b
same_text s bytes (Literal k) b h = h
same_text s bytes (PrintName n) b h = h

output_adds : (l : Layout) (s : State) (bytes : List ℕ) → Adds l s (with_store s (with_output s.store bytes))
output_adds l s bytes = record {
  more = [];
  made = ap (λ more. s.made ++ more) (nothing_new s.store bytes);
  pairs = λ k p h. h;
  vectors = λ k items h. h;
  closures = λ i c h. h;
  objects = λ i object h. h;
  cells = λ k v h. h;
  frames = omega arith;
  texts = same_text s.store bytes;
  pairs_apart = λ k p h. refl;
  closures_apart = λ i p h. refl;
}

put_keeps : (sizes : Sizes) (l : Layout) (e : Escapes) (t : ℕ) (s : State) (start d : Core) (bytes : List ℕ) → Keeps sizes l e t s s start d → Keeps sizes l e t s (with_store s (with_output s.store bytes)) start (putting d bytes)
unfolding output_adds
put_keeps sizes l e t s start d bytes h =
    let u : State = with_store s (with_output s.store bytes) in
    let g : Adds l s u = output_adds l s bytes in
    let data_held : HoldsData sizes l e s d.storage d.next d.output = h.data_held in
    let same : u.made ≡ s.made = g.made ∙ append-nil s.made in
    record {
      data_held = data_grow sizes l e s u d.storage d.storage d.next d.next d.output (d.output ++ bytes) data_held g refl
          (data_held.heap ∙ ap (λ ws. ws ++ replicate (sizes.heap / 4 - s.store.heap) (Number 0)) (sym (append-nil (flat_map (thing_contents l e s) s.made))))
          (omega arith) data_held.next_is data_held.room (subst (Rattle.frame_words.specs.Segments.AreDistinct same_thing (thing_words s)) (sym same) data_held.distinct) tt refl (ap (λ o. o ++ bytes) data_held.output_is);
      words = words_stay l s u g data_held.made;
      top = h.top;
      stack = h.stack;
      inner = h.inner;
      stamps_of_stack = h.stamps_of_stack;
      live = h.live;
      escapes = h.escapes;
      variables = h.variables;
      stamps = h.stamps;
    }

pub puts_and_nil : (words : Words) (sizes : Sizes) (l : Layout) (e : Escapes) (t : ℕ) (s : State) (start : Core) (to : Var) (rest : Tree) (d : Core) (number n : ℕ) (a : Operand) (bytes : List ℕ) → Keeps sizes l e t s s start d → word_in d a ≡ Some (Number n) → service_effect (words_in words sizes) (at d 0 0 0 0).state number (n ∷ []) ≡ Puts bytes
    → performs words sizes l e t s start to rest (Changes (with_output s.store bytes) NilV) 1 4 (Do (op.Service number (a ∷ [])) (give_nil to rest)) d
puts_and_nil words sizes l e t s start to rest d number n a bytes keeps held served =
    put_performs words sizes _ n bytes held served
    (moves_performs words sizes _ (Number NIL) refl (arrive_changed words sizes l e t s start to rest (putting d bytes) (with_output s.store bytes) NilV NIL None (put_keeps sizes l e t s start d bytes keeps) refl))

char_again : (c : ℕ) → c < 128 → character_of (char_word c) ≡ Some c
char_again c lt =
    let q : char_word c / 256 ≡ c = omega arith in
    rw (eq-eqb (char_word c % 256) 1 (omega arith), q, lt-ltb c 128 lt) refl

pub put_fixnum_row : IsCodeOf builtin.PutFixnum (code_of builtin.PutFixnum)
put_fixnum_row words sizes l e t s c to rest a v h ha =
    fixnum_performs_one words sizes l e t s c to rest 4 a v (λ x. Changes (with_output s.store (signed_decimal x)) NilV) _ ha h (omega arith)
    (λ x f ea. puts_and_nil words sizes l e t s c to rest c 2 (fixnum_word x) a (signed_decimal x) (keeps_same sizes l e t s c h) ea (rw (fixnum_again x f) refl))

pub put_char_row : IsCodeOf builtin.PutChar (code_of builtin.PutChar)
put_char_row words sizes l e t s c to rest a v h ha =
    char_performs words sizes l e t s c to rest t 4 c a v (λ x. Changes (with_output s.store (x ∷ [])) NilV) _ (omega arith) ha (keeps_same sizes l e t s c h) (omega arith)
    (λ d x is binds.
    let f = char_held l s t d a v x (has_binds binds ha) is in
    puts_and_nil words sizes l e t s c to rest d 1 (char_word x) a (x ∷ []) (keeps_binds sizes l e t s c c d (keeps_same sizes l e t s c h) binds) f.1 (rw (char_again x f.0) refl))

pub newline_row : IsCodeOf builtin.Newline (code_of builtin.Newline)
newline_row words sizes l e t s c to rest h = puts_and_nil words sizes l e t s c to rest c 1 newline_word (word newline_word) (10 ∷ []) (keeps_same sizes l e t s c h) refl refl
