-- Data whose forms the table ends on have a first refusal, or none.
use Rattle.std.proofs.Common.{◌≡◌, ◌⊎◌, inl, inr, ℕ, zero, suc, ◌<◌, ◌≤◌, List, [], ◌∷◌, map, take, length, slice_get, Contains, Option, Some, None, refl, sym, subst, ◌∙◌, arith}
use Rattle.std.specs.List.{AllByRecursion}
use Rattle.std.proofs.lemmas.Bool.{cases_lt}
use Rattle.std.proofs.lemmas.Option.{slice_get_within, same_Some}
use Rattle.t_reader.specs.Grammar.{Tree}
use Rattle.t_forms.specs.Data.{Datum, datum_of}
use Rattle.t_forms.specs.Names.{Scope, Bound}
use Rattle.t_rows.specs.declared.refusal.Refusal.{Refusal}
use Rattle.t_rows.specs.declared.refusal.SyntaxKind.TheVariants.{BadForm}
use Rattle.t_rows.specs.Rows.{refusal, twice, Definition, define, lset, operation_form}
use Rattle.expansion.specs.Meaning.{top_scope}
use Rattle.expansion.specs.Refusals.{RefusedDefinition, twice_defined, RefusedTop, RefusedAmong, RefusedIn}
use Rattle.expansion.specs.Units.{Top, defining, broken, expression, tops_of, definitions_of, defined_name}
use Rattle.expand_laws.specs.Cores.{HasFirstRefusal}
use Rattle.expand_laws.specs.Ends.{Ends}
use Rattle.expand_laws.proofs.ListedRefusals.{Listed, listed_none, listed_contains, listed_same, listed_is, listed_either, First, first_of_listed}
use Rattle.expand_laws.proofs.PureForms.{IsGiven, IsPureDefinition, IsPureTop, tops_given}
use Rattle.expand_laws.proofs.RefusalsOf.{listed_form}

-- the table ends on forms whose atoms are all of the text
abbrev pub EndsOnGiven : Type 0
EndsOnGiven = (d : Datum) → IsGiven d → (scope : Scope) → Ends scope d

listed_definition : EndsOnGiven → (defined : List Bound) (d : Definition) → IsPureDefinition (λ v. Unit {0}) d → Listed (RefusedDefinition defined d)
listed_definition ends defined (define b d) pure = listed_form (top_scope defined) d (ends d pure (top_scope defined))
listed_definition ends defined (lset b d) pure = listed_form (top_scope defined) d (ends d pure (top_scope defined))
listed_definition ends defined (operation_form b ps (Some d)) pure = listed_form (top_scope defined) d (ends d pure (top_scope defined))
listed_definition ends defined (operation_form b ps None) pure = listed_contains (twice ps)

listed_top : EndsOnGiven → (defined : List Bound) (before : List Top) (t : Top) → IsPureTop (λ v. Unit {0}) t → Listed (RefusedTop defined before t)
listed_top ends defined before (defining d) pure =
    listed_either (λ r. Contains (twice_defined before (defined_name d)) r) (RefusedDefinition defined d) (listed_contains (twice_defined before (defined_name d)))
    (listed_definition ends defined d pure)
listed_top ends defined before (broken s) pure = listed_is (refusal BadForm s)
listed_top ends defined before (expression d) pure = listed_form (top_scope defined) d (ends d pure (top_scope defined))

-- ---- form after form

-- at or in the form at this place
record RefusedAt (defined : List Bound) (tops : List Top) (n : ℕ) (r : Refusal) : Type 0 where
  top : Top
  there : slice_get tops n ≡ Some top
  stands : RefusedTop defined (take n tops) top r

-- at or in a form before this place
record RefusedBelow (defined : List Bound) (tops : List Top) (n : ℕ) (r : Refusal) : Type 0 where
  among : RefusedAmong defined tops r
  below : among.at < n

each_at : (P : Top → Type 0) (ts : List Top) (n : ℕ) (t : Top) → AllByRecursion P ts → slice_get ts n ≡ Some t → P t
each_at P [] n t h e = cc
each_at P (u ∷ ts) zero t h e = subst P (same_Some u t e) h.0
each_at P (u ∷ ts) (suc n) t h e = each_at P ts n t h.1 e

listed_at : EndsOnGiven → (defined : List Bound) (tops : List Top) (n : ℕ) (o : Option Top) → AllByRecursion (IsPureTop (λ v. Unit {0})) tops
    → slice_get tops n ≡ o → Listed (RefusedAt defined tops n)
listed_at ends defined tops n None pure e = listed_none (RefusedAt defined tops n) (λ r x. nowhere r x)
  where
    nowhere : (r : Refusal) → RefusedAt defined tops n r → ⊥
    nowhere r x = let is = x.there in cc
listed_at ends defined tops n (Some t) pure e =
    listed_same (RefusedTop defined (take n tops) t) (RefusedAt defined tops n) (λ r x. record { top = t; there = e; stands = x }) (λ r x. back r x)
    (listed_top ends defined (take n tops) t (each_at (IsPureTop (λ v. Unit {0})) tops n t pure e))
  where
    back : (r : Refusal) → RefusedAt defined tops n r → RefusedTop defined (take n tops) t r
    back r x = subst (λ u. RefusedTop defined (take n tops) u r) (same_Some x.top t (sym x.there ∙ e)) x.stands

moved : (defined : List Bound) (tops : List Top) (m n : ℕ) (r : Refusal) → m ≡ n → RefusedAt defined tops m r → RefusedAt defined tops n r
moved defined tops m n r e x = subst (λ k. RefusedAt defined tops k r) e x

split : (defined : List Bound) (tops : List Top) (n : ℕ) (r : Refusal) (x : RefusedAmong defined tops r) → x.at < suc n → (x.at < n) ⊎ (n ≤ x.at)
    → RefusedBelow defined tops n r ⊎ RefusedAt defined tops n r
split defined tops n r x below (inl h) = inl (record { among = x; below = h })
split defined tops n r x below (inr h) =
    let same : x.at ≡ n = omega arith in inr (moved defined tops x.at n r same (record { top = x.top; there = x.there; stands = x.stands }))

joined : (defined : List Bound) (tops : List Top) (n : ℕ) (r : Refusal) → RefusedBelow defined tops n r ⊎ RefusedAt defined tops n r
    → RefusedBelow defined tops (suc n) r
joined defined tops n r (inl x) = let b = x.below in record { among = x.among; below = omega arith }
joined defined tops n r (inr x) = record { among = record { at = n; top = x.top; there = x.there; stands = x.stands }; below = omega arith }

nothing_below : (defined : List Bound) (tops : List Top) (r : Refusal) → RefusedBelow defined tops 0 r → ⊥
nothing_below defined tops r x = let b = x.below in omega arith

listed_below : EndsOnGiven → (defined : List Bound) (tops : List Top) (n : ℕ) → AllByRecursion (IsPureTop (λ v. Unit {0})) tops
    → Listed (RefusedBelow defined tops n)
listed_below ends defined tops zero pure = listed_none (RefusedBelow defined tops 0) (λ r x. nothing_below defined tops r x)
listed_below ends defined tops (suc n) pure =
    listed_same (λ r. RefusedBelow defined tops n r ⊎ RefusedAt defined tops n r) (RefusedBelow defined tops (suc n)) (λ r x. joined defined tops n r x)
    (λ r x. let a = x.among in split defined tops n r x.among x.below (cases_lt a.at n))
    (listed_either (RefusedBelow defined tops n) (RefusedAt defined tops n) (listed_below ends defined tops n pure)
    (listed_at ends defined tops n (slice_get tops n) pure refl))

pub listed_among : EndsOnGiven → (defined : List Bound) (tops : List Top) → AllByRecursion (IsPureTop (λ v. Unit {0})) tops → Listed (RefusedAmong defined tops)
listed_among ends defined tops pure =
    listed_same (RefusedBelow defined tops (length tops)) (RefusedAmong defined tops) (λ r x. x.among)
    (λ r x. record { among = x; below = slice_get_within tops x.at x.top x.there }) (listed_below ends defined tops (length tops) pure)

-- ---- the unit

-- all refusals in the data
pub listed_unit : EndsOnGiven → (trees : List Tree) → Listed (RefusedIn (tops_of (map datum_of trees)))
listed_unit ends trees = listed_among ends (definitions_of (tops_of (map datum_of trees))) (tops_of (map datum_of trees)) (tops_given trees)

as_first : (trees : List Tree) → First (RefusedIn (tops_of (map datum_of trees))) → HasFirstRefusal trees
as_first trees f = record { refusal = f.refusal; is = record { stands = f.stands; first = f.first } }

first_or : (trees : List Tree) → First (RefusedIn (tops_of (map datum_of trees))) ⊎ ((r : Refusal) → RefusedIn (tops_of (map datum_of trees)) r → ⊥)
    → HasFirstRefusal trees ⊎ ((r : Refusal) → RefusedIn (tops_of (map datum_of trees)) r → ⊥)
first_or trees (inl f) = inl (as_first trees f)
first_or trees (inr h) = inr h

pub first_or_none : EndsOnGiven → (trees : List Tree) → HasFirstRefusal trees ⊎ ((r : Refusal) → RefusedIn (tops_of (map datum_of trees)) r → ⊥)
first_or_none ends trees = first_or trees (first_of_listed (RefusedIn (tops_of (map datum_of trees))) (listed_unit ends trees))
