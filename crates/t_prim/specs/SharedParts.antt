-- What holds of the shared parts of every whole form of a program, from the unit to the words.
use Rattle.std.specs.Prelude.{◌≡◌, ◌≢◌, ℕ, ◌<◌, ◌≤◌, false, IsTrue, List, length, slice_get, All, AllPairs, Some}
use Rattle.std.specs.Option.{option_map}
use Rattle.t_base.specs.declared.shared_parts.Const.{Const}
use Rattle.t_base.specs.declared.shared_parts.Const.TheVariants as Constant
use Rattle.t_base.specs.declared.shared_parts.Shared.{Shared}
use Rattle.t_prim.specs.Operands.{in_range}

-- a number or a character is in its range, and a name, a string or a pair is there
abbrev pub IsConst : Shared → Const → Type 0
IsConst shared (Constant.Fix x) = IsTrue (in_range x)
IsConst shared (Constant.Char c) = c < 128
IsConst shared Constant.Nil = Unit {0}
IsConst shared Constant.True = Unit {0}
IsConst shared (Constant.Sym n) = n.0 < length shared.names
IsConst shared (Constant.Str s) = s < length shared.strings.items
IsConst shared (Constant.Pair k) = k < length shared.pairs.items

-- a byte at least, all of them printed ones
abbrev pub IsNameText : List ℕ → Type 0
IsNameText text = (0 < length text) × All (λ b. (33 ≤ b) × (b ≤ 126)) text

-- a pair stands below the place; other constants stand nowhere
abbrev pub StandsBelow : ℕ → Const → Type 0
StandsBelow k (Constant.Pair j) = j < k
StandsBelow k (Constant.Fix x) = Unit {0}
StandsBelow k (Constant.Char x) = Unit {0}
StandsBelow k Constant.Nil = Unit {0}
StandsBelow k Constant.True = Unit {0}
StandsBelow k (Constant.Sym x) = Unit {0}
StandsBelow k (Constant.Str x) = Unit {0}

-- the parts of a quoted pair that are pairs stand at lower places
pub record HasLowerParts (pairs : List (Const × Const)) : Type 0 where
  pub parts_below : (k : ℕ) (p : Const × Const) → slice_get pairs k ≡ Some p → StandsBelow k p.0 × StandsBelow k p.1

-- the operations that each unit has first: setter, contents and set-contents
abbrev pub builtin_ops : ℕ
builtin_ops = 3

pub record IsWholeShared (shared : Shared) : Type 0 where
  pub names : All IsNameText shared.names
  pub distinct : AllPairs (λ a b. a ≢ b) shared.names
  pub strings : All (λ bytes. All (λ b. b < 128) bytes) shared.strings.items
  pub pairs : All (λ p. IsConst shared p.0 × IsConst shared p.1) shared.pairs.items
  pub lower : HasLowerParts shared.pairs.items
  pub globals : All (λ g. g.name.0 < length shared.names) shared.globals.items
  pub ops : All (λ o. o.name.0 < length shared.names) shared.ops.items
  -- the builtin operations have no default
  pub builtins : (o : ℕ) → o < builtin_ops → option_map (λ info. info.default) (slice_get shared.ops.items o) ≡ Some false
