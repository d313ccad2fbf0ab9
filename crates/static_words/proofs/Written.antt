-- The words that are written are those of the layout.
use Rattle.std.proofs.Common.{◌≡◌, ℕ, zero, suc, ◌+◌, ◌*◌, ◌%◌, nat_lt, Bool, true, false, if◌then◌else◌, List, [], ◌∷◌, ◌++◌, length, map, replicate, slice_get, Option, Some, None, option_map, refl, sym, ap, ◌∙◌, arith}
use Rattle.std.specs.List.{flat_map}
use Rattle.std.specs.Option.{option_map_or}
use Rattle.std.proofs.lemmas.List.{map-append}
use Rattle.t_base.specs.declared.shared_parts.Const.{Const}
use Rattle.t_base.specs.declared.shared_parts.Const.TheVariants as Constant
use Rattle.t_prim.specs.Operands.{in_range}
use Rattle.t_prim.specs.Values.{Val, Literal, PrintName, OperationV, val_of}
use Rattle.word_ir.specs.declared.words.StaticWord.{StaticWord}
use Rattle.word_ir.specs.declared.words.StaticWord.TheVariants as first
use Rattle.word_ir.specs.Word.{Word, Number, Code}
use Rattle.word_ir.specs.State.{static_word}
use Rattle.tagged_words.specs.Tags.{fixnum_word, char_word}
use Rattle.frame_ir.specs.declared.forms.Frames.{Frames}
use Rattle.frame_ir.specs.Running.{bare_state}
use Rattle.frame_words.specs.Layouts.{Layout, Fixed, ClosureOf, BuiltinOf, OperationOf, TextOf, SymbolOf, PairOf, TemplateOf, padded, packed}
use Rattle.frame_words.specs.ValueWords.{or_zero, val_word}
use Rattle.frame_words.specs.Contents.{pair_contents, method_contents, fixed_contents}
use Rattle.operand_drafts.specs.Places.{word_at}
use Rattle.static_names.specs.declared.things.Thing.{Thing}
use Rattle.static_names.specs.declared.things.Thing.TheVariants as thing
use Rattle.static_names.specs.Named.{fixed_of}
use Rattle.static_tables.specs.declared.statics.Statics.{Statics}
use Rattle.static_tables.specs.Tables.{bytes_of, methods_in, fixed_in, index_of}
use Rattle.static_layouts.specs.Layouts.{layout_of, IsSetOut}
use Rattle.static_words.specs.declared.things.EntryBlocks.{EntryBlocks}
use Rattle.static_words.specs.Words.{entries_of, padded_words, text_words, const_word, pair_words, method_words, methods_words, default_at, thing_words, AreDefaults, setting}

map_replicate : (n : ℕ) → map static_word (replicate n (first.Word 0)) ≡ replicate n (Number 0)
map_replicate zero = refl
map_replicate (suc n) = ap (λ ws. Number 0 ∷ ws) (map_replicate n)

same_length : (ws : List StaticWord) → length (map static_word ws) ≡ length ws
same_length [] = refl
same_length (w ∷ ws) = ap suc (same_length ws)

padded_same : (ws : List StaticWord) → map static_word (padded_words ws) ≡ padded (map static_word ws)
padded_same ws =
    map-append static_word ws (replicate (length ws % 2) (first.Word 0))
    ∙ (ap (λ xs. map static_word ws ++ xs) (map_replicate (length ws % 2)) ∙ ap (λ n. map static_word ws ++ replicate (n % 2) (Number 0)) (sym (same_length ws)))

numbers_same : (ns : List ℕ) → map static_word (map first.Word ns) ≡ map Number ns
numbers_same [] = refl
numbers_same (n ∷ ns) = ap (λ ws. Number n ∷ ws) (numbers_same ns)

text_same : (bytes : List ℕ) → map static_word (text_words bytes) ≡ padded (Number 0x15 ∷ Number (4 * length bytes) ∷ map Number (packed bytes))
text_same bytes =
    let four : length bytes * 4 ≡ 4 * length bytes = omega arith in
    padded_same (first.Word 0x15 ∷ first.Word (length bytes * 4) ∷ map first.Word (packed bytes))
    ∙ (ap (λ n. padded (Number 0x15 ∷ Number n ∷ map static_word (map first.Word (packed bytes)))) four ∙ ap (λ ws. padded (Number 0x15 ∷ Number (4 * length bytes) ∷ ws)) (numbers_same (packed bytes)))

module _ (p : Frames) (b : EntryBlocks) (listed : List ℕ) (defaults : List StaticWord) (s : Statics) (h : IsSetOut p (setting p b listed s) s) (d : AreDefaults p b defaults) where
  some_or : (t : Bool) (n : ℕ) → (if t then n else 0) ≡ or_zero (if t then Some n else None)
  some_or true n = refl
  some_or false n = refl

  const_same : (c : Const) → const_word s c ≡ val_word (setting p b listed s) (bare_state p) (val_of c)
  const_same (Constant.Fix x) = some_or (in_range x) (fixnum_word x)
  const_same (Constant.Char c) = some_or (nat_lt c 128) (char_word c)
  const_same Constant.Nil = refl
  const_same Constant.True = refl
  const_same (Constant.Sym n) = h.words (SymbolOf n.0)
  const_same (Constant.Str k) = h.words (TextOf (Literal k))
  const_same (Constant.Pair k) = h.words (PairOf k)

  pair_same : (o : Option (Const × Const)) → map static_word (option_map_or (pair_words s) o (first.Word 0 ∷ first.Word 0 ∷ [])) ≡ pair_contents (setting p b listed s) (bare_state p) (option_map (λ c. (val_of c.0, val_of c.1)) o)
  pair_same (Some c) = ap (λ n. Number n ∷ Number (const_word s c.1) ∷ []) (const_same c.0) ∙ ap (λ n. Number (val_word (setting p b listed s) (bare_state p) (val_of c.0)) ∷ Number n ∷ []) (const_same c.1)
  pair_same None = refl

  abbrev vals : Const × Const → Val × Val
  vals c = (val_of c.0, val_of c.1)

  get_mapped : (cs : List (Const × Const)) (k : ℕ) → option_map vals (slice_get cs k) ≡ slice_get (map vals cs) k
  get_mapped [] k = refl
  get_mapped (c ∷ cs) zero = refl
  get_mapped (c ∷ cs) (suc k) = get_mapped cs k

  methods_same : (ms : List (ℕ × ℕ)) → map static_word (flat_map (method_words s b) ms) ≡ flat_map (method_contents (setting p b listed s) (bare_state p)) ms
  methods_same [] = refl
  methods_same (m ∷ ms) = ap (λ n. Number n ∷ Code (word_at b.methods.items m.1) ∷ map static_word (flat_map (method_words s b) ms)) (h.words (OperationOf m.0)) ∙ ap (λ ws. method_contents (setting p b listed s) (bare_state p) m ++ ws) (methods_same ms)

  template_same : (ms : List (ℕ × ℕ)) → map static_word (methods_words s b ms) ≡ padded (flat_map (method_contents (setting p b listed s) (bare_state p)) ms ++ Number 0 ∷ [])
  template_same ms = padded_same (flat_map (method_words s b) ms ++ first.Word 0 ∷ []) ∙ ap padded (map-append static_word (flat_map (method_words s b) ms) (first.Word 0 ∷ []) ∙ ap (λ ws. ws ++ Number 0 ∷ []) (methods_same ms))

  thing_same : (t : Thing) → map static_word (thing_words p s b listed defaults t) ≡ fixed_contents (setting p b listed s) (bare_state p) (fixed_of t)
  thing_same (thing.Closure k) = refl
  thing_same (thing.Builtin q) = refl
  thing_same (thing.Operation o) = ap (λ n. Number 0x25 ∷ Number n ∷ static_word (default_at defaults o) ∷ Number 0 ∷ []) (omega arith) ∙ ap (λ w. Number 0x25 ∷ Number (4 * o) ∷ w ∷ Number 0 ∷ []) (d o)
  thing_same (thing.Literal k) = text_same (bytes_of p.shared (Literal k))
  thing_same (thing.PrintName n) = text_same (bytes_of p.shared (PrintName n))
  thing_same (thing.Symbol n) = ap (λ m. Number 0x19 ∷ Number m ∷ Number (word_at s.table.items (index_of (TextOf (PrintName n)))) ∷ Number 0 ∷ []) (four (word_at listed n)) ∙ ap (λ m. Number 0x19 ∷ Number (4 * word_at listed n) ∷ Number m ∷ Number 0 ∷ []) (h.words (TextOf (PrintName n)))
    where
      four : (m : ℕ) → m * 4 ≡ 4 * m
      four m = omega arith
  thing_same (thing.Pair k) = pair_same (slice_get p.shared.pairs.items k) ∙ ap (pair_contents (setting p b listed s) (bare_state p)) (get_mapped p.shared.pairs.items k)
  thing_same (thing.Template t) = template_same (methods_in p t)

  things_same : (ts : List Thing) → map static_word (flat_map (thing_words p s b listed defaults) ts) ≡ flat_map (fixed_contents (setting p b listed s) (bare_state p)) (map fixed_of ts)
  things_same [] = refl
  things_same (t ∷ ts) = map-append static_word (thing_words p s b listed defaults t) (flat_map (thing_words p s b listed defaults) ts) ∙ (ap (λ ws. ws ++ map static_word (flat_map (thing_words p s b listed defaults) ts)) (thing_same t) ∙ ap (λ ws. fixed_contents (setting p b listed s) (bare_state p) (fixed_of t) ++ ws) (things_same ts))

pub written_as_laid_out : (p : Frames) (b : EntryBlocks) (listed : List ℕ) (defaults : List StaticWord) (s : Statics) → IsSetOut p (setting p b listed s) s → AreDefaults p b defaults
    → map static_word (flat_map (thing_words p s b listed defaults) s.things.items) ≡ flat_map (fixed_contents (setting p b listed s) (bare_state p)) (fixed_in s)
written_as_laid_out p b listed defaults s h d = things_same p b listed defaults s h d s.things.items
