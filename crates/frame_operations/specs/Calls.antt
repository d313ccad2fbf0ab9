-- What holds where an operation looks for its method: what holds where a call is made, and the methods that are left stand in static words.
use Rattle.std.specs.Prelude.{◌≡◌, ℕ, ◌+◌, List, [], ◌∷◌, slice_get, Some, is_some, true}
use Rattle.std.specs.List.{AllByRecursion}
use Rattle.std.specs.Option.{option_map_or}
use Rattle.t_prim.specs.Values.{Val, ObjectV, OperationV}
use Rattle.word_ir.specs.Word.{Word, Number, Code}
use Rattle.word_ir.specs.Storage.{Sizes, Regions}
use Rattle.word_ir.specs.State.{Own, kept}
use Rattle.word_ir.specs.Stamps.{Stamped}
use Rattle.frame_ir.specs.Values.{Lasting}
use Rattle.frame_ir.specs.States.{State}
use Rattle.word_trees.specs.Cores.{Core, at}
use Rattle.frame_words.specs.Layouts.{Layout, OperationOf, TemplateOf, fixed_place}
use Rattle.frame_words.specs.ValueWords.{word_for, val_word}
use Rattle.frame_words.specs.Contents.{Escapes}
use Rattle.frame_words.specs.Origins.{IsRead}
use Rattle.frame_stacks.specs.Stacks.{Ways}
use Rattle.frame_calls.specs.Calls.{HoldsCall}

-- operations and codes from an address on, behind which stands 0
abbrev pub AreMethods : Layout → State → Regions Word → ℕ → List (ℕ × ℕ) → Type 0
AreMethods l s storage address [] = IsRead storage address (Number 0)
AreMethods l s storage address (m ∷ ms) =
    (is_some (word_for l s (OperationV m.0)) ≡ true) × IsRead storage address (Number (val_word l s (OperationV m.0))) × IsRead storage (address + 4) (Code (l.method_entry m.1))
    × AreMethods l s storage (address + 8) ms

-- a further variable holds the address
pub record HoldsLook (sizes : Sizes) (l : Layout) (e : Escapes) (g : Ways) (t : ℕ) (s : State) (o : ℕ) (left : List (ℕ × ℕ)) (args : List Val) (c : Core) : Type 0 where
  pub call : HoldsCall sizes l e g t s (Lasting (OperationV o)) args c
  pub address : ℕ
  pub held : kept c.env (Own (t + 7)) ≡ Some (Number address)
  pub methods : AreMethods l s c.storage address left

-- to the start of the loop
pub record Looks (sizes : Sizes) (l : Layout) (e : Escapes) (g : Ways) (t : ℕ) (s : State) (o : ℕ) (left : List (ℕ × ℕ)) (args : List Val) (look : ℕ) (x : Stamped) : Type 0 where
  pub core : Core
  pub holds : HoldsLook sizes l e g t s o left args core
  pub moves : ℕ
  pub steps : ℕ
  pub there : x ≡ at core look 0 moves steps

-- the methods of a value; only an object has any
abbrev pub methods_in : Layout → State → Val → List (ℕ × ℕ)
methods_in l s (ObjectV i) = option_map_or (λ k. l.methods k.template) (slice_get s.objects i) []
methods_in l s _ = []

-- the operations of each template that stands in static words stand there too
abbrev pub HasOperations : Layout → Type 0
HasOperations l = (k : ℕ) → is_some (fixed_place l (TemplateOf k)) ≡ true → AllByRecursion (λ m. is_some (fixed_place l (OperationOf m.0)) ≡ true) (l.methods k)
