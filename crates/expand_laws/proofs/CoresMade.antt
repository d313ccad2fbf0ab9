-- The data of a whole text unit have a core or a first refusal.
use Rattle.std.proofs.Common.{◌⊎◌, inl, inr, ℕ, ◌*◌, ◌≤◌, ◌^◌, List, [], ◌∷◌, map, length, subst, sym, arith}
use Rattle.std.specs.List.{AllByRecursion}
use Rattle.t_reader.specs.declared.unit.Unit.{Unit as TextUnit}
use Rattle.t_reader.specs.Grammar.{Value, Tree}
use Rattle.t_reader.specs.Unit.{IsWhole, HoldTrees}
use Rattle.t_forms.specs.Data.{Datum, datum_of}
use Rattle.t_forms.specs.Names.{Bound}
use Rattle.t_rows.specs.declared.refusal.Refusal.{Refusal}
use Rattle.expansion.specs.Meaning.{top_scope}
use Rattle.expansion.specs.Refusals.{RefusedIn}
use Rattle.expansion.specs.Units.{tops_of, definitions_of}
use Rattle.expand_laws.specs.Cores.{HasCore, HasFirstRefusal}
use Rattle.expand_laws.proofs.Costs.{cost}
use Rattle.expand_laws.proofs.Fine.{IsItem, IsFine, pure_item, pure_fine, listed_tail}
use Rattle.expand_laws.proofs.FirstOrNone.{EndsOnGiven, first_or_none}
use Rattle.expand_laws.proofs.FormsMade.{form_made_within}
use Rattle.expand_laws.proofs.Made.{IsRight}
use Rattle.expand_laws.proofs.NameShapes.{DefinesOwn, definitions_own}
use Rattle.expand_laws.proofs.Premises.{IsProcedure, IsFormOf, MakesForms}
use Rattle.expand_laws.proofs.Reached.{IsPure, HasMadeValues}
use Rattle.expand_laws.proofs.Sizes.{size}
use Rattle.expand_laws.proofs.TableEnds.{comes_within, comes_pure, comes_ends}
use Rattle.expand_laws.proofs.UnitMade.{unit_made}

-- ---- forms

pub made_values : (names : List (List ℕ)) → HasMadeValues (IsRight names)
made_values names = record { nil_right = tt; truth_right = tt; zero_right = (grind arith, grind arith); one_right = (grind arith, grind arith) }

pure_items : (right : Value → Type 0) (ds : List Datum) → AllByRecursion (IsPure right) ds → AllByRecursion (IsItem right) ds
pure_items right [] h = tt
pure_items right (d ∷ ds) h = (pure_item right d h.0, pure_items right ds h.1)

procedure_fine : (names : List (List ℕ)) (d : Datum) → IsProcedure names d → IsFine (IsRight names) d
procedure_fine names d p =
    let right = IsRight names in
    subst (IsFine right) (sym p.is) (tt, (pure_item right p.params p.params_pure, listed_tail (made_values names) p.span p.body (pure_items right p.body p.body_pure)))

pub form_fine : (names : List (List ℕ)) (d : Datum) → IsFormOf names d → IsFine (IsRight names) d
form_fine names d (inl pure) = pure_fine (IsRight names) d pure
form_fine names d (inr p) = procedure_fine names d p

-- what is made of a form is no more than some multiple of its size
within : (k n m : ℕ) → m ≤ 64 * n → k ≤ m → k ≤ 2 ^ 31 * n
within k n m a b = omega (arith, a, b)

pub makes_forms : (names : List (List ℕ)) (defined : List Bound) → DefinesOwn defined → MakesForms names defined
makes_forms names defined own d before form small none =
    let c = comes_within (IsRight names) (made_values names) (top_scope defined) d (form_fine names d form) in
    let m = form_made_within names defined d before own c.0 none in
    let bound = cost (IsRight names) (top_scope defined) d c.0 in
    record {
      after = m.after;
      made = m.made;
      few_nodes = within (length m.made.nodes) (size d) bound c.1 m.few_nodes;
      few_strings = within (length m.made.new_strings) (size d) bound c.1 m.few_strings;
      few_pairs = within (length m.made.new_pairs) (size d) bound c.1 m.few_pairs;
    }

-- ---- the unit

ends_on_given : EndsOnGiven
ends_on_given d given scope =
    comes_ends (λ v. Unit {0}) scope d (comes_pure (λ v. Unit {0}) (record { nil_right = tt; truth_right = tt; zero_right = tt; one_right = tt }) scope d given)

core_or : (unit : TextUnit) (trees : List Tree) → IsWhole unit → HoldTrees unit.names unit.nodes.items unit.forms.items trees
    → HasFirstRefusal trees ⊎ ((r : Refusal) → RefusedIn (tops_of (map datum_of trees)) r → ⊥) → HasCore trees ⊎ HasFirstRefusal trees
core_or unit trees whole hold (inl first) = inr first
core_or unit trees whole hold (inr none) =
    let defined = definitions_of (tops_of (map datum_of trees)) in
    inl (unit_made unit trees whole hold (makes_forms unit.names defined (definitions_own (tops_of (map datum_of trees)))) none)

pub core_or_refusal : (unit : TextUnit) (trees : List Tree) → IsWhole unit → HoldTrees unit.names unit.nodes.items unit.forms.items trees → HasCore trees ⊎ HasFirstRefusal trees
core_or_refusal unit trees whole hold = core_or unit trees whole hold (first_or_none ends_on_given trees)
