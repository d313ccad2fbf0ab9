-- The static words that are written for a program with frames.
use Rattle.std.specs.Prelude.{◌≡◌, ℕ, nat_lt, if◌then◌else◌, ◌+◌, ◌*◌, ◌%◌, List, [], ◌∷◌, ◌++◌, length, map, replicate, get_or, slice_get, Option, Some, None}
use Rattle.std.specs.List.{flat_map}
use Rattle.std.specs.Option.{option_map, option_map_or}
use Rattle.t_base.specs.declared.builtins.Builtin.{Builtin}
use Rattle.t_prim.specs.Identity.{number_of}
use Rattle.word_ir.specs.declared.words.StaticWord.{StaticWord}
use Rattle.word_ir.specs.declared.words.StaticWord.TheVariants as first
use Rattle.t_base.specs.declared.shared_parts.Const.{Const}
use Rattle.t_base.specs.declared.shared_parts.Const.TheVariants as Constant
use Rattle.t_prim.specs.Operands.{in_range}
use Rattle.t_prim.specs.Values.{Literal, PrintName}
use Rattle.tagged_words.specs.Tags.{fixnum_word, char_word}
use Rattle.frame_words.specs.Layouts.{Layout, OperationOf, TextOf, SymbolOf, PairOf, packed}
use Rattle.frame_words.specs.ValueWords.{NIL, TRUE}
use Rattle.static_tables.specs.declared.statics.Statics.{Statics}
use Rattle.static_tables.specs.Tables.{index_of, bytes_of, methods_in, fixed_in}
use Rattle.operand_drafts.specs.Places.{word_at}
use Rattle.word_ir.specs.State.{static_word}
use Rattle.frame_ir.specs.declared.forms.Frames.{Frames}
use Rattle.frame_ir.specs.Arguments.{code_of_default}
use Rattle.frame_ir.specs.Running.{bare_state}
use Rattle.frame_words.specs.Contents.{default_word, fixed_contents}
use Rattle.static_names.specs.declared.things.Thing.{Thing}
use Rattle.static_names.specs.declared.things.Thing.TheVariants as thing
use Rattle.static_layouts.specs.Layouts.{Entries, layout_of, IsSetOut}
use Rattle.static_words.specs.declared.things.EntryBlocks.{EntryBlocks}

abbrev pub entries_of : EntryBlocks → Entries
entries_of b = record { closure = word_at b.closures.items; method = word_at b.methods.items; builtin = λ p. word_at b.builtins.items (number_of p) }

-- up to an even count
abbrev pub padded_words : List StaticWord → List StaticWord
padded_words words = words ++ replicate (length words % 2) (first.Word 0)

-- four bytes from a place on, zeros behind the end
abbrev pub packed_at : List ℕ → ℕ → ℕ
packed_at bytes at = get_or bytes at 0 * 16777216 + get_or bytes (at + 1) 0 * 65536 + get_or bytes (at + 2) 0 * 256 + get_or bytes (at + 3) 0

abbrev pub text_words : List ℕ → List StaticWord
text_words bytes = padded_words (first.Word 0x15 ∷ first.Word (length bytes * 4) ∷ map first.Word (packed bytes))

abbrev pub closure_words : EntryBlocks → ℕ → List StaticWord
closure_words e k = first.Word 0x1D ∷ first.Code (word_at e.closures.items k) ∷ first.Word 0 ∷ first.Word 0 ∷ []

abbrev pub builtin_words : EntryBlocks → Builtin → List StaticWord
builtin_words e p = first.Word 0x29 ∷ first.Code (word_at e.builtins.items (number_of p)) ∷ []

-- 4 * the place in the image's list of names, and the print name
abbrev pub symbol_words : Statics → List ℕ → ℕ → List StaticWord
symbol_words s listed n = first.Word 0x19 ∷ first.Word (word_at listed n * 4) ∷ first.Word (word_at s.table.items (index_of (TextOf (PrintName n)))) ∷ first.Word 0 ∷ []

abbrev pub const_word : Statics → Const → ℕ
const_word s (Constant.Fix x) = if in_range x then fixnum_word x else 0
const_word s (Constant.Char c) = if nat_lt c 128 then char_word c else 0
const_word s Constant.Nil = NIL
const_word s Constant.True = TRUE
const_word s (Constant.Sym n) = word_at s.table.items (index_of (SymbolOf n.0))
const_word s (Constant.Str k) = word_at s.table.items (index_of (TextOf (Literal k)))
const_word s (Constant.Pair k) = word_at s.table.items (index_of (PairOf k))

abbrev pub pair_words : Statics → Const × Const → List StaticWord
pair_words s pair = first.Word (const_word s pair.0) ∷ first.Word (const_word s pair.1) ∷ []

-- the word of an operation's default, 0 behind the end of the list
abbrev pub default_at : List StaticWord → ℕ → StaticWord
default_at defaults o = option_map_or (λ w. w) (slice_get defaults o) (first.Word 0)

abbrev pub operation_words : List StaticWord → ℕ → List StaticWord
operation_words defaults o = first.Word 0x25 ∷ first.Word (o * 4) ∷ default_at defaults o ∷ first.Word 0 ∷ []

abbrev pub method_words : Statics → EntryBlocks → ℕ × ℕ → List StaticWord
method_words s e m = first.Word (word_at s.table.items (index_of (OperationOf m.0))) ∷ first.Code (word_at e.methods.items m.1) ∷ []

abbrev pub methods_words : Statics → EntryBlocks → List (ℕ × ℕ) → List StaticWord
methods_words s e methods = padded_words (flat_map (method_words s e) methods ++ first.Word 0 ∷ [])

-- ---- all things

abbrev pub thing_words : Frames → Statics → EntryBlocks → List ℕ → List StaticWord → Thing → List StaticWord
thing_words p s e listed defaults (thing.Closure k) = closure_words e k
thing_words p s e listed defaults (thing.Builtin b) = builtin_words e b
thing_words p s e listed defaults (thing.Operation o) = operation_words defaults o
thing_words p s e listed defaults (thing.Literal k) = text_words (bytes_of p.shared (Literal k))
thing_words p s e listed defaults (thing.PrintName n) = text_words (bytes_of p.shared (PrintName n))
thing_words p s e listed defaults (thing.Symbol n) = symbol_words s listed n
thing_words p s e listed defaults (thing.Pair k) = option_map_or (pair_words s) (slice_get p.shared.pairs.items k) (first.Word 0 ∷ first.Word 0 ∷ [])
thing_words p s e listed defaults (thing.Template t) = methods_words s e (methods_in p t)

-- the layout in which they stand
abbrev pub setting : Frames → EntryBlocks → List ℕ → Statics → Layout
setting p e listed s = layout_of p (entries_of e) (word_at listed) (fixed_in s)

-- the words of the codes of defaults
abbrev pub AreDefaults : Frames → EntryBlocks → List StaticWord → Type 0
AreDefaults p e defaults = (o : ℕ) → static_word (default_at defaults o) ≡ default_word (option_map (word_at e.closures.items) (code_of_default p.shared o))

-- What is written for what was gathered is what the layout has at the start of the program.
abbrev pub WrittenAsLaidOut : Type 0
WrittenAsLaidOut =
    (p : Frames) (e : EntryBlocks) (listed : List ℕ) (defaults : List StaticWord) (s : Statics) → IsSetOut p (setting p e listed s) s → AreDefaults p e defaults
    → map static_word (flat_map (thing_words p s e listed defaults) s.things.items) ≡ flat_map (fixed_contents (setting p e listed s) (bare_state p)) (fixed_in s)
