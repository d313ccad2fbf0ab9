-- Strings and pairs of a unit that nodes and pairs name once are what data of the text stand for.
use Rattle.std.proofs.Common.{◌≡◌, ◌⊎◌, inl, inr, ℕ, zero, suc, ◌+◌, ◌<◌, ◌≤◌, ◌==◌, List, [], ◌∷◌, ◌++◌, length, map, slice_get, All, Some, sym, ap, subst, ◌∙◌, arith}
use Rattle.std.specs.List.{flat_map}
use Rattle.std.proofs.lemmas.Bool.Decides.{Decides-eqb}
use Rattle.std.proofs.lemmas.Option.{slice_get_within, slice_get-get_or, same_Some}
use Rattle.t_base.specs.declared.shared_parts.Const.{Const}
use Rattle.t_base.specs.declared.shared_parts.Const.TheVariants as Constant
use Rattle.t_base.specs.declared.shared_parts.Shared.{Shared}
use Rattle.t_prim.specs.SharedParts.{IsConst, StandsBelow, HasLowerParts}
use Rattle.t_core.specs.declared.forms.Core.{Core}
use Rattle.t_core.specs.declared.forms.Core.TheVariants as Node
use Rattle.t_core.specs.declared.forms.Form.{Form}
use Rattle.t_core.specs.Whole.{pair_in, pair_of}
use Rattle.t_reader.specs.declared.unit.Unit.{Unit as TextUnit}
use Rattle.t_reader.specs.Unit.{IsWhole, HoldTrees}
use Rattle.t_base.specs.declared.basics.Span.{Span}
use Rattle.t_reader.specs.Grammar.{Tree, fix, char, nil, truth, string, symbol}
use Rattle.t_forms.specs.Data.{Datum, datum_of, atom, cons, given, variable, builtin, operation, listing}
use Rattle.expansion.specs.Counting.{times, EachOnce}
use Rattle.expansion.specs.Meaning.{IsQuoted, FormsMean}
use Rattle.expansion.specs.Units.{tops_of, definitions_of}
use Rattle.expansion.specs.Strings.{string_in, string_of}
use Rattle.expand_laws.proofs.CountedOnce.{IsThere, counted_there}
use Rattle.expand_laws.proofs.Counting.{times_count}
use Rattle.expand_laws.proofs.FormsWhole.{MakesTree, HasQuoted, WholeForms, unit_forms_whole}
use Rattle.expand_laws.proofs.Made.{IsRight, HasDefined}
use Rattle.expand_laws.proofs.NodesWhole.{QuotedAt, IsQuotedNode, const_there}
use Rattle.expand_laws.proofs.Paired.{all_at}
use Rattle.expand_laws.proofs.Reached.{IsPure}
use Rattle.expand_laws.proofs.Reaching.{StandsIn, piece_of}

-- ---- where a place is named

-- the place of an item in a list
record Stands (xs : List ℕ) (x : ℕ) : Type 0 where
  i : ℕ
  found : slice_get xs i ≡ Some x

either_list : (xs ys : List ℕ) (i x : ℕ) → slice_get (xs ++ ys) i ≡ Some x → Stands xs x ⊎ Stands ys x
either_list [] ys i x h = inr (record { i = i; found = h })
either_list (y ∷ xs) ys zero x h = inl (record { i = 0; found = h })
either_list (y ∷ xs) ys (suc i) x h =
    elim (either_list xs ys i x h) [
      | inl s ↦ inl (record { i = suc s.i; found = s.found })
      | inr s ↦ inr s
    ]

stands_once : (k : ℕ) (xs : List ℕ) → times k xs ≡ 1 → Stands xs k
stands_once k xs once =
    let t : IsThere (λ x. x == k) xs = counted_there (λ x. x == k) xs (times_count k xs ∙ once) in
    record { i = t.i; found = subst (λ x. slice_get xs t.i ≡ Some x) ((Decides-eqb t.x k).0 t.passes) t.found }

-- a part of a pair
pub record PartOf (pairs : List (Const × Const)) (x : Const) : Type 0 where
  pub place : ℕ
  pub pair : Const × Const
  pub at : slice_get pairs place ≡ Some pair
  pub is : (pair.0 ≡ x) ⊎ (pair.1 ≡ x)

-- what it is for the places that constants and nodes name to be those of constants of one kind
record Names (by_const : Const → List ℕ) (by_node : Core → List ℕ) (make : ℕ → Const) : Type 0 where
  of_const : (x : Const) (i k : ℕ) → slice_get (by_const x) i ≡ Some k → x ≡ make k
  of_node : (c : Core) (i k : ℕ) → slice_get (by_node c) i ≡ Some k → c ≡ Node.Const (make k)

module _ (names : List (List ℕ)) (shared : Shared) (by_const : Const → List ℕ) (by_node : Core → List ℕ) (make : ℕ → Const) (they : Names by_const by_node make) where
  in_node : (fs : List Form) (i k : ℕ) → All (HasQuoted names shared) fs → slice_get (flat_map (λ (form : Form). flat_map by_node form.nodes.items) fs) i ≡ Some k
      → QuotedAt names shared (make k)
  in_node fs i k quoted h =
      let s : StandsIn (λ (form : Form). flat_map by_node form.nodes.items) fs k = piece_of (λ (form : Form). flat_map by_node form.nodes.items) fs i k h in
      let t : StandsIn by_node (s.x).nodes.items k = piece_of by_node (s.x).nodes.items s.i k s.found in
      let q : IsQuotedNode names shared t.x =
      all_at (IsQuotedNode names shared) (s.x).nodes.items t.k t.x t.piece (all_at (HasQuoted names shared) fs s.k s.x s.piece quoted)
      in
      subst (IsQuotedNode names shared) (they.of_node t.x t.i k t.found) q

  in_pair : (pairs : List (Const × Const)) (i k : ℕ) → slice_get (flat_map (λ (p : Const × Const). by_const p.0 ++ by_const p.1) pairs) i ≡ Some k → PartOf pairs (make k)
  in_pair pairs i k h =
      let s : StandsIn (λ (p : Const × Const). by_const p.0 ++ by_const p.1) pairs k = piece_of (λ (p : Const × Const). by_const p.0 ++ by_const p.1) pairs i k h in
      elim (either_list (by_const (s.x).0) (by_const (s.x).1) s.i k s.found) [
        | inl t ↦ record { place = s.k; pair = s.x; at = s.piece; is = inl (they.of_const (s.x).0 t.i k t.found) }
        | inr t ↦ record { place = s.k; pair = s.x; at = s.piece; is = inr (they.of_const (s.x).1 t.i k t.found) }
      ]

  named_where : (fs : List Form) (pairs : List (Const × Const)) (k : ℕ) → All (HasQuoted names shared) fs
      → times k (flat_map (λ (form : Form). flat_map by_node form.nodes.items) fs ++ flat_map (λ (p : Const × Const). by_const p.0 ++ by_const p.1) pairs) ≡ 1
      → QuotedAt names shared (make k) ⊎ PartOf pairs (make k)
  named_where fs pairs k quoted once =
      let nodes = flat_map (λ (form : Form). flat_map by_node form.nodes.items) fs in
      let others = flat_map (λ (p : Const × Const). by_const p.0 ++ by_const p.1) pairs in
      let s : Stands (nodes ++ others) k = stands_once k (nodes ++ others) once in
      elim (either_list nodes others s.i k s.found) [
        | inl t ↦ inl (in_node fs t.i k quoted t.found)
        | inr t ↦ inr (in_pair pairs t.i k t.found)
      ]

-- ---- the two kinds

pair_of_const : (x : Const) (i k : ℕ) → slice_get (pair_in x) i ≡ Some k → x ≡ Constant.Pair k
pair_of_const (Constant.Pair j) zero k h = ap Constant.Pair (same_Some j k h)
pair_of_const (Constant.Pair j) (suc i) k h = absurd (let z : ⊥ = cc in z)
pair_of_const _ i k h = absurd (let z : ⊥ = cc in z)

pair_of_node : (c : Core) (i k : ℕ) → slice_get (pair_of c) i ≡ Some k → c ≡ Node.Const (Constant.Pair k)
pair_of_node (Node.Const x) i k h = ap Node.Const (pair_of_const x i k h)
pair_of_node _ i k h = absurd (let z : ⊥ = cc in z)

string_of_const : (x : Const) (i k : ℕ) → slice_get (string_in x) i ≡ Some k → x ≡ Constant.Str k
string_of_const (Constant.Str j) zero k h = ap Constant.Str (same_Some j k h)
string_of_const (Constant.Str j) (suc i) k h = absurd (let z : ⊥ = cc in z)
string_of_const _ i k h = absurd (let z : ⊥ = cc in z)

string_of_node : (c : Core) (i k : ℕ) → slice_get (string_of c) i ≡ Some k → c ≡ Node.Const (Constant.Str k)
string_of_node (Node.Const x) i k h = ap Node.Const (string_of_const x i k h)
string_of_node _ i k h = absurd (let z : ⊥ = cc in z)

pairs_by : Names pair_in pair_of (λ k. Constant.Pair k)
pairs_by = record { of_const = pair_of_const; of_node = pair_of_node }

strings_by : Names string_in string_of (λ k. Constant.Str k)
strings_by = record { of_const = string_of_const; of_node = string_of_node }

-- ---- what a constant stands for

module _ (names : List (List ℕ)) (shared : Shared) where
  -- both parts of a pair that is a datum of the text are
  parts_of_datum : (k : ℕ) (p : Const × Const) (d : Datum) → slice_get shared.pairs.items k ≡ Some p → IsPure (IsRight names) d → IsQuoted shared d (Constant.Pair k)
      → QuotedAt names shared p.0 × QuotedAt names shared p.1
  parts_of_datum k p (atom s (given (fix z))) at pure q = absurd (let z : ⊥ = cc in z)
  parts_of_datum k p (atom s (given (char b))) at pure q = absurd (let z : ⊥ = cc in z)
  parts_of_datum k p (atom s (given nil)) at pure q = absurd (let z : ⊥ = cc in z)
  parts_of_datum k p (atom s (given truth)) at pure q = absurd (let z : ⊥ = cc in z)
  parts_of_datum k p (atom s (given (string bytes))) at pure q = let e = q.1 in absurd (let z : ⊥ = cc in z)
  parts_of_datum k p (atom s (given (symbol text))) at pure q = let e = q.1 in absurd (let z : ⊥ = cc in z)
  parts_of_datum k p (atom s (variable n)) at pure q = absurd q
  parts_of_datum k p (atom s (builtin b)) at pure q = absurd q
  parts_of_datum k p (atom s (operation o)) at pure q = absurd q
  parts_of_datum k p (atom s listing) at pure q = absurd q
  parts_of_datum k p (cons s head tail) at pure q =
      let e = q.2 in
      let place : q.0 ≡ k = cc in
      let same : q.1 ≡ p = same_Some q.1 p (sym q.3 ∙ subst (λ j. slice_get shared.pairs.items j ≡ Some p) (sym place) at) in (
        record { datum = head; pure = pure.0; quoted = subst (λ (x : Const × Const). IsQuoted shared head x.0) same q.4 },
        record { datum = tail; pure = pure.1; quoted = subst (λ (x : Const × Const). IsQuoted shared tail x.1) same q.5 },
      )

  parts_quoted : (k : ℕ) (p : Const × Const) → slice_get shared.pairs.items k ≡ Some p → QuotedAt names shared (Constant.Pair k)
      → QuotedAt names shared p.0 × QuotedAt names shared p.1
  parts_quoted k p at q = parts_of_datum k p q.datum at q.pure q.quoted

  part_quoted : (x : Const) (part : PartOf shared.pairs.items x) → QuotedAt names shared (Constant.Pair part.place) → QuotedAt names shared x
  part_quoted x part q =
      let both : QuotedAt names shared (part.pair).0 × QuotedAt names shared (part.pair).1 = parts_quoted part.place part.pair part.at q in
      elim part.is [
        | inl e ↦ subst (QuotedAt names shared) e both.0
        | inr e ↦ subst (QuotedAt names shared) e both.1
      ]

  bytes_of_datum : (k : ℕ) (bytes : List ℕ) (d : Datum) → slice_get shared.strings.items k ≡ Some bytes → IsPure (IsRight names) d → IsQuoted shared d (Constant.Str k)
      → All (λ b. b < 128) bytes
  bytes_of_datum k bytes (atom s (given (fix z))) at pure q = absurd (let z : ⊥ = cc in z)
  bytes_of_datum k bytes (atom s (given (char b))) at pure q = absurd (let z : ⊥ = cc in z)
  bytes_of_datum k bytes (atom s (given nil)) at pure q = absurd (let z : ⊥ = cc in z)
  bytes_of_datum k bytes (atom s (given truth)) at pure q = absurd (let z : ⊥ = cc in z)
  bytes_of_datum k bytes (atom s (given (string text))) at pure q =
      let e = q.1 in
      let place : q.0 ≡ k = cc in
      subst (All (λ b. b < 128)) (same_Some text bytes (sym q.2 ∙ subst (λ j. slice_get shared.strings.items j ≡ Some bytes) (sym place) at)) pure
  bytes_of_datum k bytes (atom s (given (symbol text))) at pure q = let e = q.1 in absurd (let z : ⊥ = cc in z)
  bytes_of_datum k bytes (atom s (variable n)) at pure q = absurd q
  bytes_of_datum k bytes (atom s (builtin b)) at pure q = absurd q
  bytes_of_datum k bytes (atom s (operation o)) at pure q = absurd q
  bytes_of_datum k bytes (atom s listing) at pure q = absurd q
  bytes_of_datum k bytes (cons s head tail) at pure q = let e = q.2 in absurd (let z : ⊥ = cc in z)

-- ---- all of them

-- the pairs are data of the text, so that strings and pairs are right
pub record WholeParts (names : List (List ℕ)) (shared : Shared) : Type 0 where
  pub pairs_quoted : (k : ℕ) → k < length shared.pairs.items → QuotedAt names shared (Constant.Pair k)
  pub strings_quoted : (k : ℕ) → k < length shared.strings.items → QuotedAt names shared (Constant.Str k)
  pub pairs : All (λ p. IsConst shared p.0 × IsConst shared p.1) shared.pairs.items
  pub strings : All (λ bytes. All (λ b. b < 128) bytes) shared.strings.items

module _ (names : List (List ℕ)) (shared : Shared) (fs : List Form) (quoted : All (HasQuoted names shared) fs) (lower : HasLowerParts shared.pairs.items)
    (pairs_once : EachOnce (length shared.pairs.items)
    (flat_map (λ form. flat_map pair_of form.nodes.items) fs ++ flat_map (λ p. pair_in p.0 ++ pair_in p.1) shared.pairs.items)) where
  -- a pair stands above what it names
  named_below : (k : ℕ) (part : PartOf shared.pairs.items (Constant.Pair k)) → k < part.place
  named_below k part =
      let both = lower.parts_below part.place part.pair part.at in
      elim part.is [
        | inl e ↦ subst (StandsBelow part.place) e both.0
        | inr e ↦ subst (StandsBelow part.place) e both.1
      ]

  -- from the highest place down
  pair_within : (n k : ℕ) → length shared.pairs.items ≤ k + n → k < length shared.pairs.items → QuotedAt names shared (Constant.Pair k)
  pair_within zero k near below = absurd (omega arith)
  pair_within (suc n) k near below =
      elim (named_where names shared pair_in pair_of (λ j. Constant.Pair j) pairs_by fs shared.pairs.items k quoted (pairs_once.within k below)) [
        | inl q ↦ q
        | inr part ↦
            let above : k < part.place = named_below k part in
            part_quoted names shared (Constant.Pair k) part
            (pair_within n part.place (omega arith) (slice_get_within shared.pairs.items part.place part.pair part.at))
      ]

  pair_quoted : (k : ℕ) → k < length shared.pairs.items → QuotedAt names shared (Constant.Pair k)
  pair_quoted k below = pair_within (length shared.pairs.items) k (omega arith) below

  pub parts_whole : EachOnce (length shared.strings.items)
      (flat_map (λ form. flat_map string_of form.nodes.items) fs ++ flat_map (λ p. string_in p.0 ++ string_in p.1) shared.pairs.items) → WholeParts names shared
  parts_whole strings_once =
      let there : (k : ℕ) → k < length shared.strings.items → QuotedAt names shared (Constant.Str k) = λ (k : ℕ) (below : k < length shared.strings.items).
      elim (named_where names shared string_in string_of (λ j. Constant.Str j) strings_by fs shared.pairs.items k quoted (strings_once.within k below)) [
        | inl q ↦ q
        | inr part ↦
            part_quoted names shared (Constant.Str k) part (pair_quoted part.place (slice_get_within shared.pairs.items part.place part.pair part.at))
      ]
      in
      record {
        pairs_quoted = pair_quoted;
        strings_quoted = there;
        pairs = λ k p below.
            let both = parts_quoted names shared k _ (slice_get-get_or shared.pairs.items k p below) (pair_quoted k below) in (
              const_there names shared (both.0).datum _ (both.0).pure (both.0).quoted,
              const_there names shared (both.1).datum _ (both.1).pure (both.1).quoted,
            );
        strings = λ k bytes below.
            let q = there k below in bytes_of_datum names shared k _ q.datum (slice_get-get_or shared.strings.items k bytes below) q.pure q.quoted;
      }

-- ---- a whole text unit

-- the forms, strings and pairs of a unit that is made of a whole text unit
pub record WholeMade (names : List (List ℕ)) (shared : Shared) (fs : List Form) : Type 0 where
  pub forms : WholeForms names shared fs
  pub parts : WholeParts names shared

pub unit_parts_whole : (u : TextUnit) (trees : List Tree) (shared : Shared) (fs : List Form) (spans : List (List Span)) → IsWhole u
    → HoldTrees u.names u.nodes.items u.forms.items trees → HasDefined (definitions_of (tops_of (map datum_of trees))) shared → All MakesTree fs
    → FormsMean (definitions_of (tops_of (map datum_of trees))) shared fs spans (tops_of (map datum_of trees)) → HasLowerParts shared.pairs.items
    → EachOnce (length shared.strings.items)
    (flat_map (λ form. flat_map string_of form.nodes.items) fs ++ flat_map (λ p. string_in p.0 ++ string_in p.1) shared.pairs.items)
    → EachOnce (length shared.pairs.items)
    (flat_map (λ form. flat_map pair_of form.nodes.items) fs ++ flat_map (λ p. pair_in p.0 ++ pair_in p.1) shared.pairs.items)
    → WholeMade u.names shared fs
unit_parts_whole u trees shared fs spans whole hold h are m lower strings_once pairs_once =
    let forms : WholeForms u.names shared fs = unit_forms_whole u trees shared fs spans whole hold h are m in
    record { forms = forms; parts = parts_whole u.names shared fs forms.quoted lower pairs_once strings_once }
