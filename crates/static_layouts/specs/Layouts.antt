-- The layout of the things that were gathered for a program with frames.
use Rattle.std.specs.Prelude.{◌≡◌, ℕ, ◌<◌, List, length, All, Contains, true, is_some}
use Rattle.std.specs.List.{AllByRecursion}
use Rattle.std.specs.Option.{option_map}
use Rattle.t_base.specs.declared.builtins.Builtin.{Builtin}
use Rattle.frame_ir.specs.declared.forms.Block.{Block}
use Rattle.frame_ir.specs.declared.forms.Frames.{Frames}
use Rattle.frame_ir.specs.Arguments.{proc_count, code_of_default}
use Rattle.frame_ir.specs.Parts.{op_args, end_args}
use Rattle.frame_ir.specs.Running.{bare_state}
use Rattle.frame_ir.specs.Whole.{IsWhole}
use Rattle.frame_words.specs.Layouts.{Layout, Fixed, ClosureOf, OperationOf, SymbolOf, TemplateOf, fixed_place, fixed_address}
use Rattle.frame_words.specs.ValueWords.{tagged, or_zero}
use Rattle.frame_words.specs.Holding.{IsLaidOut, IsFixedThere}
use Rattle.operand_drafts.specs.Places.{word_at}
use Rattle.prim_holds.specs.Operands.{IsNamed}
use Rattle.word_selection.specs.Selections.{IsClosureCode, IsOpNamed}
use Rattle.static_tables.specs.declared.statics.Statics.{Statics}
use Rattle.static_tables.specs.Tables.{bytes_of, methods_in, tag_for, index_of, fixed_in}
use Rattle.static_tables.specs.Gathered.{IsClosing}

-- the blocks of words that enter the code of a closure, of a method and of a builtin
pub record Entries : Type 0 where
  pub closure : ℕ → ℕ
  pub method : ℕ → ℕ
  pub builtin : Builtin → ℕ

-- `listed` gives the place of a name in the list of an image
abbrev pub layout_of : Frames → Entries → (ℕ → ℕ) → List Fixed → Layout
layout_of p e listed fixed = record {
  globals = length p.shared.globals.items;
  fixed = fixed;
  closure_entry = e.closure;
  method_entry = e.method;
  builtin_entry = e.builtin;
  default_entry = λ o. option_map e.closure (code_of_default p.shared o);
  listed = listed;
  bytes = bytes_of p.shared;
  methods = methods_in p;
}

-- all that was gathered
abbrev pub IsGathered : Frames → Statics → Type 0
IsGathered p s = IsClosing p (length p.templates.items) 0 (length p.shared.names) s

abbrev pub AreBlockNames : Layout → Frames → Block → Type 0
AreBlockNames l p b =
    All (λ op. IsOpNamed l op × AllByRecursion (IsNamed l p.shared) (op_args op)) b.ops.items × AllByRecursion (IsNamed l p.shared) (end_args b.last)

-- The facts on named things and static words that the selection of words for the program owes; and the table has the words of what stands there.
pub record IsSetOut (p : Frames) (l : Layout) (s : Statics) : Type 0 where
  pub laid_out : IsLaidOut l
  pub fixed : AllByRecursion (IsFixedThere l (bare_state p)) l.fixed
  pub blocks : All (AreBlockNames l p) p.blocks.items
  pub codes : (k : ℕ) → is_some (fixed_place l (ClosureOf k)) ≡ true → IsClosureCode p k
  pub operations : (t o code : ℕ) → is_some (fixed_place l (TemplateOf t)) ≡ true → Contains (l.methods t) (o, code) → is_some (fixed_place l (OperationOf o)) ≡ true
  pub globals : (k : ℕ) → k < proc_count p.shared → is_some (fixed_place l (ClosureOf k)) ≡ true
  pub symbols : (n : ℕ) → is_some (fixed_place l (SymbolOf n)) ≡ true → n < length p.shared.names
  pub words : (x : Fixed) → word_at s.table.items (index_of x) ≡ or_zero (tagged (tag_for x) (fixed_address l x))

abbrev pub GatheredIsLaidOut : Type 0
GatheredIsLaidOut = (p : Frames) (e : Entries) (listed : ℕ → ℕ) (s : Statics) → IsWhole p → IsGathered p s → IsSetOut p (layout_of p e listed (fixed_in s)) s
