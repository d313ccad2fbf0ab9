-- Constants of quoted data, half of which may be made.
use Rattle.std.specs.Prelude.{◌≡◌, ℕ, List, [], ◌∷◌, ◌++◌, slice_get, Some, codes}
use Rattle.t_base.specs.declared.basics.Name.{Name}
use Rattle.t_base.specs.declared.basics.Span.{Span}
use Rattle.t_base.specs.declared.shared_parts.Const.{Const}
use Rattle.t_base.specs.declared.shared_parts.Const.TheVariants as Constant
use Rattle.t_base.specs.declared.shared_parts.Shared.{Shared}
use Rattle.t_objects.specs.declared.words.Word.{Word}
use Rattle.t_objects.specs.declared.words.Word.TheVariants as word
use Rattle.t_forms.specs.declared.arena.Cell.{Cell}
use Rattle.t_forms.specs.declared.arena.Form.{Form}
use Rattle.t_forms.specs.declared.arena.Form.TheVariants as form
use Rattle.t_forms.specs.Data.{Datum, cons}
use Rattle.t_forms.specs.Held.{Continues}
use Rattle.expansion.specs.Lists.{Adds}
use Rattle.expansion.specs.Meaning.{IsQuoted}
use Rattle.t_expand.specs.declared.quoted.Half.{Half}
use Rattle.t_expand.specs.declared.quoted.Half.TheVariants as half
use Rattle.t_expand.specs.declared.quoted.Quoting.{Quoting}
use Rattle.t_expand.specs.declared.quoted.Quoting.TheVariants as quoting

-- strings and pairs are only added, and the rest stays
pub record AddsConstants (old new : Shared) : Type 0 where
  pub names : new.names ≡ old.names
  pub strings : Adds old.strings.items new.strings.items
  pub pairs : Adds old.pairs.items new.pairs.items
  pub globals : new.globals ≡ old.globals
  pub ops : new.ops ≡ old.ops

-- the datum is what is next, or its constant is made
abbrev pub IsNext : Shared → List Cell → Quoting → Datum → Type 0
IsNext shared cells (quoting.Datum k) d = Continues shared.names cells k d
IsNext shared cells (quoting.Made c) d = IsQuoted shared d c

-- a pair of which one half is this datum, by the other half
abbrev pub IsHalf : Shared → List Cell → Half → Datum → Datum → Type 0
IsHalf shared cells (half.Tail k) d whole = (s : Span) × (tail : Datum) × (whole ≡ cons s d tail) × Continues shared.names cells k tail
IsHalf shared cells (half.Head c) d whole = (s : Span) × (head : Datum) × (whole ≡ cons s head d) × IsQuoted shared head c

-- The datum stands in the root in the way that the halves tell, the innermost last.
pub data StandsIn (shared : Shared) (cells : List Cell) : List Half → Datum → Datum → Type 0 where
  as_root : (halves : List Half) (d root : Datum) → halves ≡ [] → d ≡ root → StandsIn shared cells halves d root
  in_pair : (halves front : List Half) (h : Half) (d whole root : Datum) → halves ≡ front ++ h ∷ [] → IsHalf shared cells h d whole
      → StandsIn shared cells front whole root → StandsIn shared cells halves d root

-- what is next, and where it stands
pub record Quotes (shared : Shared) (cells : List Cell) (halves : List Half) (next : Quoting) (root : Datum) : Type 0 where
  pub datum : Datum
  pub is_next : IsNext shared cells next datum
  pub stands : StandsIn shared cells halves datum root

-- how a reserved word is written
abbrev pub spelling : Word → List ℕ
spelling word.Quote = codes "quote"
spelling word.Lambda = codes "lambda"
spelling word.If = codes "if"
spelling word.Cond = codes "cond"
spelling word.And = codes "and"
spelling word.Or = codes "or"
spelling word.Case = codes "case"
spelling word.Block = codes "block"
spelling word.Let = codes "let"
spelling word.LetStar = codes "let*"
spelling word.Labels = codes "labels"
spelling word.Iterate = codes "iterate"
spelling word.Do = codes "do"
spelling word.Set = codes "set"
spelling word.Lset = codes "lset"
spelling word.Define = codes "define"
spelling word.Catch = codes "catch"
spelling word.Object = codes "object"
spelling word.DefineOperation = codes "define-operation"
spelling word.Locative = codes "locative"
spelling word.Else = codes "else"
spelling word.Arrow = codes "=>"

-- the constant is the atom
abbrev pub IsConstant : Shared → Form → Const → Type 0
IsConstant shared (form.Fix n) c = c ≡ Constant.Fix n
IsConstant shared (form.Char n) c = c ≡ Constant.Char n
IsConstant shared form.Nil c = c ≡ Constant.Nil
IsConstant shared form.True c = c ≡ Constant.True
IsConstant shared (form.Str bytes) c = (place : ℕ) × (c ≡ Constant.Str place) × (slice_get shared.strings.items place ≡ Some bytes)
IsConstant shared (form.Sym name) c = c ≡ Constant.Sym name
IsConstant shared (form.Word w) c = (name : Name) × (c ≡ Constant.Sym name) × (slice_get shared.names name.0 ≡ Some (spelling w))
IsConstant shared _ c = ⊥
