-- The things that stand in the static words of a program with frames, and where.
use Rattle.std.specs.Prelude.{◌≡◌, ℕ, ◌+◌, ◌*◌, ◌≤◌, ◌^◌, ◌==◌, ◌||◌, Bool, false, if◌then◌else◌, List, [], ◌∷◌, ◌++◌, length, map, slice_get, Option, option_map}
use Rattle.std.specs.Option.{option_map_or}
use Rattle.t_base.specs.declared.shared_parts.Shared.{Shared}
use Rattle.t_prim.specs.Values.{Text, Literal, PrintName, text_of, first_store}
use Rattle.t_prim.specs.Identity.{number_of}
use Rattle.word_ir.specs.Storage.{STATICS_START}
use Rattle.frame_ir.specs.declared.forms.Frames.{Frames}
use Rattle.frame_ir.specs.Values.{even}
use Rattle.frame_ir.specs.Calls.{methods_of}
use Rattle.frame_words.specs.Segments.{AreDistinct, place_of, total_of}
use Rattle.frame_words.specs.Layouts.{Fixed, ClosureOf, BuiltinOf, OperationOf, TextOf, SymbolOf, PairOf, TemplateOf, same_fixed, packed, GLOBALS}
use Rattle.frame_words.specs.ValueWords.{PAIR, OBJECT, tagged, or_zero}
use Rattle.operand_drafts.specs.Places.{word_at}
use Rattle.static_names.specs.declared.things.Thing.{Thing}
use Rattle.static_names.specs.Named.{fixed_of}
use Rattle.static_tables.specs.declared.statics.Statics.{Statics}

-- ---- how many words each thing has

-- none for a string that isn't there
abbrev pub bytes_of : Shared → Text → List ℕ
bytes_of shared t = option_map_or (λ bytes. bytes) (text_of (first_store shared) t) []

-- none for a template that isn't there
abbrev pub methods_in : Frames → ℕ → List (ℕ × ℕ)
methods_in p t = option_map_or (λ x. methods_of x.ops x.codes) (slice_get p.templates.items t) []

abbrev pub words_of : Frames → Fixed → ℕ
words_of p (ClosureOf block) = 4
words_of p (BuiltinOf b) = 2
words_of p (OperationOf o) = 4
words_of p (TextOf t) = even (2 + length (packed (bytes_of p.shared t)))
words_of p (SymbolOf n) = 4
words_of p (PairOf k) = 2
words_of p (TemplateOf t) = even (2 * length (methods_in p t) + 1)

abbrev pub front_of : Frames → ℕ
front_of p = even (GLOBALS + length p.shared.globals.items)

-- ---- words of things in a list

abbrev pub tag_for : Fixed → ℕ
tag_for (PairOf k) = PAIR
tag_for (TemplateOf t) = 0
tag_for _ = OBJECT

abbrev pub address_in : Frames → List Fixed → Fixed → Option ℕ
address_in p xs x = option_map (λ n. STATICS_START + 4 * (front_of p + n)) (place_of same_fixed (words_of p) xs x)

-- 0 for what isn't there
abbrev pub word_in : Frames → List Fixed → Fixed → ℕ
word_in p xs x = or_zero (tagged (tag_for x) (address_in p xs x))

abbrev pub has : List Fixed → Fixed → Bool
has [] x = false
has (y ∷ ys) x = same_fixed y x || has ys x

-- ---- the table of words

-- by kind and number
abbrev pub index_of : Fixed → ℕ
index_of (ClosureOf k) = 8 * k
index_of (BuiltinOf b) = 8 * number_of b + 1
index_of (OperationOf o) = 8 * o + 2
index_of (TextOf (Literal k)) = 8 * k + 3
index_of (TextOf (PrintName n)) = 8 * n + 4
index_of (SymbolOf n) = 8 * n + 5
index_of (PairOf k) = 8 * k + 6
index_of (TemplateOf t) = 8 * t + 7

abbrev pub fixed_in : Statics → List Fixed
fixed_in s = map fixed_of s.things.items

-- The table has the word of each thing that stands there and of no other one; none stands there twice, and the words are few.
pub record AreStatics (p : Frames) (s : Statics) : Type 0 where
  pub table : (x : Fixed) → word_at s.table.items (index_of x) ≡ word_in p (fixed_in s) x
  pub words : s.words ≡ front_of p + total_of (words_of p) (fixed_in s)
  pub few : s.words ≤ 2 ^ 25
  pub distinct : AreDistinct same_fixed (words_of p) (fixed_in s)

-- ---- what is added

-- one thing more behind all
pub record IsAppended (x : Thing) (count : ℕ) (old new : Statics) : Type 0 where
  pub things : new.things.items ≡ old.things.items ++ x ∷ []
  pub table : (m : ℕ) → word_at new.table.items m ≡ (if index_of (fixed_of x) == m then STATICS_START + 4 * old.words + tag_for (fixed_of x) else word_at old.table.items m)
  pub words : new.words ≡ old.words + count
  pub few : new.words ≤ 2 ^ 25

-- some things stand there besides those that did
pub record Adds (p : Frames) (xs : List Fixed) (old new : Statics) : Type 0 where
  pub statics : AreStatics p new
  pub has : (y : Fixed) → has (fixed_in new) y ≡ (has xs y || has (fixed_in old) y)
