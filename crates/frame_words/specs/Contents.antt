-- The words of each thing on the heap and in static words.
use Rattle.std.specs.Prelude.{ℕ, ◌*◌, List, [], ◌∷◌, ◌++◌, length, map, Option, Some, None, slice_get}
use Rattle.std.specs.List.{flat_map}
use Rattle.std.specs.Option.{option_map_or}
use Rattle.t_prim.specs.Values.{Val, OperationV, StringV, PrintName}
use Rattle.word_ir.specs.Word.{Word, Number, Code}
use Rattle.frame_ir.specs.Values.{Value, Closure, Object}
use Rattle.frame_ir.specs.States.{State, Thing, APair, AVector, AClosure, AnObject, AnEscape, ACell}
use Rattle.frame_words.specs.Layouts.{Layout, Fixed, ClosureOf, BuiltinOf, OperationOf, TextOf, SymbolOf, PairOf, TemplateOf, padded, packed, fixed_address}
use Rattle.frame_words.specs.ValueWords.{CELL, val_word, captured_word, or_zero}

abbrev pub values : Layout → State → List Val → List Word
values l s vs = map (λ v. Number (val_word l s v)) vs

abbrev pub captures : Layout → State → List Value → List Word
captures l s vs = map (λ v. Number (captured_word l s v)) vs

-- ---- on the heap

-- What is not told by the state: of each escape, by the birth of its CATCH's frame, the address of that frame, 0 where it isn't live,
-- and the word of the escape that was the innermost one when it was made.
pub record Escapes : Type 0 where
  pub frame : ℕ → ℕ
  pub outer : ℕ → ℕ

abbrev pub pair_contents : Layout → State → Option (Val × Val) → List Word
pair_contents l s None = Number 0 ∷ Number 0 ∷ []
pair_contents l s (Some p) = Number (val_word l s p.0) ∷ Number (val_word l s p.1) ∷ []

abbrev pub vector_contents : Layout → State → List Val → List Word
vector_contents l s items = padded (Number 0x11 ∷ Number (4 * length items) ∷ values l s items)

-- the word behind the code is not used
abbrev pub closure_contents : Layout → State → Closure → List Word
closure_contents l s c = padded (Number 0x1D ∷ Code (l.closure_entry c.code) ∷ Number 0 ∷ captures l s c.captured)

abbrev pub object_contents : Layout → State → Object → List Word
object_contents l s object = padded (Number 0x21 ∷ Number (or_zero (fixed_address l (TemplateOf object.template))) ∷ Number (val_word l s object.procedure) ∷ captures l s object.captured)

abbrev pub cell_contents : Layout → State → Option Val → List Word
cell_contents l s None = Number CELL ∷ Number 0 ∷ []
cell_contents l s (Some v) = Number CELL ∷ Number (val_word l s v) ∷ []

abbrev pub thing_contents : Layout → Escapes → State → Thing → List Word
thing_contents l e s (APair k) = pair_contents l s (slice_get s.store.pairs k)
thing_contents l e s (AVector k) = option_map_or (vector_contents l s) (slice_get s.store.vectors k) []
thing_contents l e s (AClosure i) = option_map_or (closure_contents l s) (slice_get s.closures i) []
thing_contents l e s (AnObject i) = option_map_or (object_contents l s) (slice_get s.objects i) []
thing_contents l e s (AnEscape b) = Number 0x2D ∷ Number (e.frame b) ∷ Number (e.outer b) ∷ Number 0 ∷ []
thing_contents l e s (ACell k) = cell_contents l s (slice_get s.cells k)

-- ---- in static words

-- the code of a default, or 0
abbrev pub default_word : Option ℕ → Word
default_word (Some code) = Code code
default_word None = Number 0

-- an operation and the code of its method
abbrev pub method_contents : Layout → State → ℕ × ℕ → List Word
method_contents l s m = Number (val_word l s (OperationV m.0)) ∷ Code (l.method_entry m.1) ∷ []

-- a quoted pair's parts are changed by runs
abbrev pub fixed_contents : Layout → State → Fixed → List Word
fixed_contents l s (ClosureOf block) = Number 0x1D ∷ Code (l.closure_entry block) ∷ Number 0 ∷ Number 0 ∷ []
fixed_contents l s (BuiltinOf p) = Number 0x29 ∷ Code (l.builtin_entry p) ∷ []
fixed_contents l s (OperationOf o) = Number 0x25 ∷ Number (4 * o) ∷ default_word (l.default_entry o) ∷ Number 0 ∷ []
fixed_contents l s (TextOf t) = padded (Number 0x15 ∷ Number (4 * length (l.bytes t)) ∷ map Number (packed (l.bytes t)))
fixed_contents l s (SymbolOf n) = Number 0x19 ∷ Number (4 * l.listed n) ∷ Number (val_word l s (StringV (PrintName n))) ∷ Number 0 ∷ []
fixed_contents l s (PairOf k) = pair_contents l s (slice_get s.store.pairs k)
fixed_contents l s (TemplateOf t) = padded (flat_map (method_contents l s) (l.methods t) ++ Number 0 ∷ [])
