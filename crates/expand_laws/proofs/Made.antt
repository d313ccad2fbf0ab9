-- What the nodes of one form are, made from its datum, and what they add to the shared parts of a unit.
use Rattle.std.specs.Prelude.{◌≡◌, ◌≢◌, ℕ, ◌<◌, ◌≤◌, ◌++◌, Bool, true, false, List, [], ◌∷◌, length, slice_get, All, AllPairs, Some}
use Rattle.std.specs.List.{flat_map}
use Rattle.std.specs.Option.{option_map}
use Rattle.t_base.specs.declared.basics.Span.{Span}
use Rattle.t_base.specs.declared.basics.Var.{Var}
use Rattle.t_base.specs.declared.shared_parts.Const.{Const}
use Rattle.t_base.specs.declared.shared_parts.GlobalKind.TheVariants.{Variable}
use Rattle.t_base.specs.declared.shared_parts.Shared.{Shared}
use Rattle.t_prim.specs.SharedParts.{IsConst, HasLowerParts}
use Rattle.t_core.specs.declared.forms.Core.{Core}
use Rattle.t_core.specs.declared.forms.Core.TheVariants as Node
use Rattle.t_core.specs.Nodes.{binders_of}
use Rattle.t_core.specs.Whole.{NamesAreThere, IsTree, IsScopedWithin, IsShaped, pair_in, pair_of}
use Rattle.expansion.specs.Strings.{string_in, string_of}
use Rattle.t_reader.specs.Grammar.{Value, fix, char, nil, truth, string, symbol}
use Rattle.t_reader.specs.Tokens.{IsFixnum}
use Rattle.t_forms.specs.Data.{Datum, Name}
use Rattle.t_forms.specs.Names.{Bound}
use Rattle.t_rows.specs.Rows.{node, lambda, inside, row}
use Rattle.expansion.specs.Meaning.{Means, top_scope}
use Rattle.expansion.specs.Lists.{Adds}
use Rattle.expansion.specs.Counting.{numbers}
use Rattle.expand_laws.proofs.Reached.{IsDefinedGlobal, IsUnitOp}

-- a number or a byte is in its range, and a symbol is among the names
abbrev pub IsRight : List (List ℕ) → Value → Type 0
IsRight names (fix z) = IsFixnum z
IsRight names (char c) = c < 128
IsRight names nil = Unit {0}
IsRight names truth = Unit {0}
IsRight names (string bytes) = All (λ b. b < 128) bytes
IsRight names (symbol text) = (k : ℕ) × (slice_get names k ≡ Some text)

-- what is made so far of a unit: its strings and pairs, and the number of the next variable
pub record Stock : Type 0 where
  pub strings : List (List ℕ)
  pub pairs : List (Const × Const)
  pub next : ℕ

-- the shared parts have the names, and at least the strings and pairs of the stock
pub record HasStock (names : List (List ℕ)) (stock : Stock) (shared : Shared) : Type 0 where
  pub names_are : shared.names ≡ names
  pub strings : Adds stock.strings shared.strings.items
  pub pairs : Adds stock.pairs shared.pairs.items

-- the shared parts have the globals and operations that these definitions name
pub record HasDefined (defined : List Bound) (shared : Shared) : Type 0 where
  pub globals : (g : ℕ) (assigned : Bool) → IsDefinedGlobal defined g assigned → g < length shared.globals.items
  pub variables : (g : ℕ) → IsDefinedGlobal defined g true → option_map (λ info. info.kind) (slice_get shared.globals.items g) ≡ Some Variable
  pub ops : (o : ℕ) → IsUnitOp defined o → o < length shared.ops.items
  pub builtin_ops : 3 ≤ length shared.ops.items

-- each is at least the first bound and below the second
abbrev pub AreBetween : ℕ → ℕ → List ℕ → Type 0
AreBetween low high ks = All (λ k. (low ≤ k) × (k < high)) ks

-- no number stands twice
abbrev pub AreDistinct : List ℕ → Type 0
AreDistinct ks = AllPairs (λ j k. j ≢ k) ks

-- the places of strings, and of pairs, that nodes and pairs name
abbrev pub strings_named : List Core → List (Const × Const) → List ℕ
strings_named nodes pairs = flat_map (λ p. string_in p.0 ++ string_in p.1) pairs ++ flat_map string_of nodes

abbrev pub pairs_named : List Core → List (Const × Const) → List ℕ
pairs_named nodes pairs = flat_map (λ p. pair_in p.0 ++ pair_in p.1) pairs ++ flat_map pair_of nodes

-- The nodes are made from the stock before, and the stock after is what there is then. `new_pairs` are the pairs that they add.
pub record FormMade (names : List (List ℕ)) (defined : List Bound) (d : Datum) (before after : Stock) : Type 0 where
  pub nodes : List Core
  pub spans : List Span
  pub root : ℕ
  pub new_strings : List (List ℕ)
  pub new_pairs : List (Const × Const)
  pub strings_are : after.strings ≡ before.strings ++ new_strings
  pub pairs_are : after.pairs ≡ before.pairs ++ new_pairs
  pub next : before.next ≤ after.next
  pub spans_are : length spans ≡ length nodes
  pub some : 0 < length nodes
  pub means : (shared : Shared) → HasStock names after shared → Means shared (record { nodes = nodes; spans = spans }) [] (top_scope defined) d false root
  pub tree : IsTree nodes root
  pub scoped : IsScopedWithin nodes (length nodes) [] false root
  pub bound_once : AreDistinct (numbers (flat_map binders_of nodes))
  pub bound_between : AreBetween before.next after.next (numbers (flat_map binders_of nodes))
  pub shaped : (shared : Shared) → HasDefined defined shared → All (IsShaped shared nodes) nodes
  pub named : (shared : Shared) → HasStock names after shared → HasDefined defined shared → All (NamesAreThere shared) nodes
  pub strings_once : AreDistinct (strings_named nodes new_pairs)
  pub strings_between : AreBetween (length before.strings) (length after.strings) (strings_named nodes new_pairs)
  pub pairs_once : AreDistinct (pairs_named nodes new_pairs)
  pub pairs_between : AreBetween (length before.pairs) (length after.pairs) (pairs_named nodes new_pairs)
  -- the new strings and pairs are right, and a new pair names pairs below it alone
  pub ascii : All (λ bytes. All (λ b. b < 128) bytes) new_strings
  pub pairs_right : (shared : Shared) → HasStock names after shared → All (λ p. IsConst shared p.0 × IsConst shared p.1) new_pairs
  pub lower : HasLowerParts before.pairs → HasLowerParts after.pairs
  -- where the form is a LAMBDA, so is the root, with as many parameters
  pub root_is : (ns : List Name) (e : Datum) → row (top_scope defined) d ≡ node lambda [] (inside ns e ∷ [])
      → (params : List Var) × (body : ℕ) × (slice_get nodes root ≡ Some (Node.Lambda params body)) × (length params ≡ length ns)

-- a form that is made, with so many nodes, new strings and new pairs at most
pub record FormMadeWithin (names : List (List ℕ)) (defined : List Bound) (d : Datum) (before : Stock) (bound : ℕ) : Type 0 where
  pub after : Stock
  pub made : FormMade names defined d before after
  pub few_nodes : length made.nodes ≤ bound
  pub few_strings : length made.new_strings ≤ bound
  pub few_pairs : length made.new_pairs ≤ bound
