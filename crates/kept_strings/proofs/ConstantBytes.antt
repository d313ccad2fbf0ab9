-- The bytes of the strings that a constant names, directly or by pairs; of a datum's constant they are the datum's.
use Rattle.std.proofs.Common.{◌≡◌, ℕ, ◌+◌, ◌<◌, List, [], ◌∷◌, ◌++◌, length, slice_get, Some, refl, ap, ◌∙◌, arith}
use Rattle.std.specs.List.{AllByRecursion}
use Rattle.t_base.specs.declared.shared_parts.Const.{Const}
use Rattle.t_base.specs.declared.shared_parts.Const.TheVariants as Constant
use Rattle.t_base.specs.declared.shared_parts.Shared.{Shared}
use Rattle.t_prim.specs.SharedParts.{StandsBelow, HasLowerParts}
use Rattle.t_core.specs.declared.forms.Core.{Core}
use Rattle.t_core.specs.Whole.{pair_in, pair_of}
use Rattle.t_reader.specs.Grammar.{fix, char, nil, truth, string, symbol}
use Rattle.t_forms.specs.Data.{given, variable, builtin, operation, listing, Datum, atom, cons}
use Rattle.expansion.specs.Meaning.{IsQuoted}
use Rattle.expansion.specs.Strings.{string_in, string_of}
use Rattle.expand_laws.proofs.Weights.{listed_total}
use Rattle.kept_strings.proofs.Arenas.{listed_append, Ordered, weight, weight_at}
use Rattle.kept_strings.proofs.Bytes.{bytes}

-- a string names nothing
abbrev pub nothing_named : List ℕ → List ℕ
nothing_named text = []

abbrev pub string_at : List (List ℕ) → ℕ → ℕ
string_at strings k = weight (List ℕ) length nothing_named strings k

-- the strings that a pair names itself, and its pairs
abbrev pub pair_strings : List (List ℕ) → Const × Const → ℕ
pair_strings strings p = listed_total (string_at strings) (string_in p.0 ++ string_in p.1)

abbrev pub pair_pairs : Const × Const → List ℕ
pair_pairs p = pair_in p.0 ++ pair_in p.1

abbrev pub pair_at : List (List ℕ) → List (Const × Const) → ℕ → ℕ
pair_at strings pairs k = weight (Const × Const) (pair_strings strings) pair_pairs pairs k

-- what a constant names, and a node
abbrev pub constant_bytes : Shared → Const → ℕ
constant_bytes shared c =
    listed_total (string_at shared.strings.items) (string_in c) + listed_total (pair_at shared.strings.items shared.pairs.items) (pair_in c)

abbrev pub node_bytes : Shared → Core → ℕ
node_bytes shared c =
    listed_total (string_at shared.strings.items) (string_of c) + listed_total (pair_at shared.strings.items shared.pairs.items) (pair_of c)

-- ---- order

pub strings_ordered : (strings : List (List ℕ)) → Ordered (List ℕ) length nothing_named strings
strings_ordered strings k x e = tt

pair_low : (k : ℕ) (c : Const) → StandsBelow k c → AllByRecursion (λ j. j < k) (pair_in c)
pair_low k (Constant.Pair j) h = (h, tt)
pair_low k (Constant.Fix x) h = tt
pair_low k (Constant.Char x) h = tt
pair_low k Constant.Nil h = tt
pair_low k Constant.True h = tt
pair_low k (Constant.Sym x) h = tt
pair_low k (Constant.Str x) h = tt

both_low : (k : ℕ) (js ks : List ℕ) → AllByRecursion (λ j. j < k) js → AllByRecursion (λ j. j < k) ks → AllByRecursion (λ j. j < k) (js ++ ks)
both_low k [] ks a b = b
both_low k (j ∷ js) ks a b = (a.0, both_low k js ks a.1 b)

pub pairs_ordered : (strings : List (List ℕ)) (pairs : List (Const × Const)) → HasLowerParts pairs → Ordered (Const × Const) (pair_strings strings) pair_pairs pairs
pairs_ordered strings pairs lower k p e =
    let both = lower.parts_below k p e in
    both_low k (pair_in p.0) (pair_in p.1) (pair_low k p.0 both.0) (pair_low k p.1 both.1)

-- ---- quoted data

module _ (shared : Shared) (lower : HasLowerParts shared.pairs.items) where
  string_bytes : (k : ℕ) (text : List ℕ) → slice_get shared.strings.items k ≡ Some text → string_at shared.strings.items k ≡ length text
  unfolding listed_total
  string_bytes k text e =
      let w = weight_at (List ℕ) length nothing_named shared.strings.items (strings_ordered shared.strings.items) k text e in
      let z : listed_total (string_at shared.strings.items) [] ≡ 0 = refl in
      omega (arith, w, z)

  pair_bytes : (k : ℕ) (p : Const × Const) → slice_get shared.pairs.items k ≡ Some p
      → pair_at shared.strings.items shared.pairs.items k ≡ constant_bytes shared p.0 + constant_bytes shared p.1
  pair_bytes k p e =
      let f = string_at shared.strings.items in
      let g = pair_at shared.strings.items shared.pairs.items in
      let w = weight_at (Const × Const) (pair_strings shared.strings.items) pair_pairs shared.pairs.items (pairs_ordered shared.strings.items shared.pairs.items lower) k p e in
      let a = listed_append f (string_in p.0) (string_in p.1) in
      let b = listed_append g (pair_in p.0) (pair_in p.1) in
      omega (arith, w, a, b)

  one_string : (k : ℕ) → constant_bytes shared (Constant.Str k) ≡ string_at shared.strings.items k
  unfolding listed_total
  one_string k = omega arith

  one_pair : (k : ℕ) → constant_bytes shared (Constant.Pair k) ≡ pair_at shared.strings.items shared.pairs.items k
  unfolding listed_total
  one_pair k = omega arith

  pub quoted_bytes : (d : Datum) (c : Const) → IsQuoted shared d c → constant_bytes shared c ≡ bytes d
  unfolding listed_total
  quoted_bytes (atom s (given (fix z))) c q = rw q refl
  quoted_bytes (atom s (given (char b))) c q = rw q refl
  quoted_bytes (atom s (given nil)) c q = rw q refl
  quoted_bytes (atom s (given truth)) c q = rw q refl
  quoted_bytes (atom s (given (string text))) c q = ap (constant_bytes shared) q.1 ∙ one_string q.0 ∙ string_bytes q.0 text q.2
  quoted_bytes (atom s (given (symbol text))) c q = ap (constant_bytes shared) q.1 ∙ refl
  quoted_bytes (atom s (variable n)) c q = absurd q
  quoted_bytes (atom s (builtin p)) c q = absurd q
  quoted_bytes (atom s (operation o)) c q = absurd q
  quoted_bytes (atom s listing) c q = absurd q
  quoted_bytes (cons s head tail) c q =
      let a = quoted_bytes head (q.1).0 q.4 in
      let b = quoted_bytes tail (q.1).1 q.5 in
      let w : constant_bytes shared c ≡ constant_bytes shared (q.1).0 + constant_bytes shared (q.1).1 =
      ap (constant_bytes shared) q.2 ∙ one_pair q.0 ∙ pair_bytes q.0 q.1 q.3 in
      omega (arith, a, b, w)
