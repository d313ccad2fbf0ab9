-- What is known of each node of a whole unit within its limits.
use Rattle.std.specs.Prelude.{nat_lt, max, fold, Result, Ok, Err, if◌then◌else◌}
use Rattle.std.specs.Option.{option_and_then}
use Rattle.std.proofs.Common.{◌≡◌, ℕ, zero, suc, ◌+◌, ◌≤◌, Bool, true, false, List, [], ◌∷◌, Option, Some, None, slice_get, refl, subst, arith, le_trans}
use Rattle.std.proofs.Math.Nat.{le-max_left, le-max_right}
use Rattle.std.proofs.lemmas.Bool.{ltb-false}
use Rattle.t_core.specs.declared.forms.Core.{Core}
use Rattle.t_core.specs.declared.forms.Form.{Form}
use Rattle.t_core.specs.declared.forms.UnitCore.{UnitCore}
use Rattle.t_core.specs.declared.limiting.LimitFault.{LimitFault}
use Rattle.t_core.specs.declared.limiting.LimitFault.TheVariants as limit
use Rattle.t_core.specs.Counts.{form_count, weight_of}
use Rattle.t_core.specs.Limits.{greatest, node_width, form_width, first_over, params_limit, weight_limit, limit_of}
use Rattle.t_core.specs.Whole.{NamesAreThere, IsShaped, HasPlaces, HasShapes, IsWhole}
use Rattle.t_meaning.specs.Programs.{node_at}
use Rattle.cps_ir.proofs.ProperLists.{none_some, all_at}

err_ok : (f : LimitFault) → ◌≡◌ {A = Result (Unit {0}) LimitFault} (Err f) (Ok tt) → ⊥
err_ok f e = cc

-- no form is over, and what is said then holds
record Under (count : Form → ℕ) (most : ℕ) (forms : List Form) (otherwise : Result (Unit {0}) LimitFault) : Type 0 where
  each : (i : ℕ) (f : Form) → slice_get forms i ≡ Some f → count f ≤ most
  rest : otherwise ≡ Ok tt

none_over : (count : Form → ℕ) (most : ℕ) (fault : ℕ → ℕ → LimitFault) (otherwise : Result (Unit {0}) LimitFault) (at : ℕ) (forms : List Form) → first_over count most fault otherwise at forms ≡ Ok tt → Under count most forms otherwise
none_over count most fault otherwise at [] e = record { each = λ i f q. none_some f q; rest = e }
none_over count most fault otherwise at (form ∷ forms) e = by_test (nat_lt most (count form)) refl e (λ r. none_over count most fault otherwise (at + 1) forms r)
  where
    both : count form ≤ most → ((i : ℕ) (f : Form) → slice_get forms i ≡ Some f → count f ≤ most) → (i : ℕ) (f : Form) → slice_get (form ∷ forms) i ≡ Some f → count f ≤ most
    both low rest zero f q = subst (λ g. count g ≤ most) (same q) low
      where
        same : Some form ≡ Some f → form ≡ f
        same q = cc
    both low rest (suc i) f q = rest i f q

    by_test : (b : Bool) → nat_lt most (count form) ≡ b → (if b then Err (fault at (count form)) else first_over count most fault otherwise (at + 1) forms) ≡ Ok tt
        → (first_over count most fault otherwise (at + 1) forms ≡ Ok tt → Under count most forms otherwise) → Under count most (form ∷ forms) otherwise
    by_test true b e rest = absurd (err_ok _ e)
    by_test false b e rest = let r = rest e in record { each = both (ltb-false most (count form) b) r.each; rest = r.rest }

not_heavy : (unit : UnitCore) → weight_limit unit ≡ Ok tt → params_limit unit ≡ Ok tt
not_heavy unit e = by_test (nat_lt 4194304 (weight_of unit)) refl e
  where
    by_test : (b : Bool) → nat_lt 4194304 (weight_of unit) ≡ b → (if b then Err (limit.UnitWeight (weight_of unit)) else params_limit unit) ≡ Ok tt → params_limit unit ≡ Ok tt
    by_test true b e = absurd (err_ok _ e)
    by_test false b e = e

abbrev most : {X : Type 0} → (X → ℕ) → ℕ → List X → ℕ
most f a xs = fold (λ m x. max m (f x)) a xs

from_first : {X : Type 0} (f : X → ℕ) (xs : List X) (a : ℕ) → a ≤ most f a xs
from_first f [] a = omega arith
from_first f (x ∷ xs) a = let rest = from_first f xs (max a (f x)) in let here : a ≤ max a (f x) = le-max_left a (f x) in omega (arith, rest, here)

-- each number is at most the greatest
at_most : {X : Type 0} (f : X → ℕ) (xs : List X) (a i : ℕ) (x : X) → slice_get xs i ≡ Some x → f x ≤ most f a xs
at_most f [] a i x e = none_some x e
at_most f (y ∷ xs) a zero x e =
    let rest = from_first f xs (max a (f y)) in
    let here : f y ≤ max a (f y) = le-max_right a (f y) in
    subst (λ z. f z ≤ most f a (y ∷ xs)) (same e) (omega (arith, rest, here))
  where
    same : Some y ≡ Some x → y ≡ x
    same e = cc
at_most f (y ∷ xs) a (suc i) x e = at_most f xs (max a (f y)) i x e

pub in_greatest : {X : Type 0} (f : X → ℕ) (xs : List X) (i : ℕ) (x : X) → slice_get xs i ≡ Some x → f x ≤ greatest f xs
in_greatest f xs i x e = at_most f xs 0 i x e

-- the form of a node
pub record InForm (unit : UnitCore) (form key : ℕ) (node : Core) : Type 0 where
  pub f : Form
  pub form_there : slice_get unit.forms.items form ≡ Some f
  pub node_there : slice_get f.nodes.items key ≡ Some node

pub in_form : (unit : UnitCore) (form key : ℕ) (node : Core) → node_at unit form key ≡ Some node → InForm unit form key node
in_form unit form key node e = by (slice_get unit.forms.items form) refl e
  where
    by : (o : Option Form) → slice_get unit.forms.items form ≡ o → option_and_then (λ (f : Form). slice_get f.nodes.items key) o ≡ Some node → InForm unit form key node
    by None q e = none_some node e
    by (Some f) q e = record { f = f; form_there = q; node_there = e }

pub node_narrow : (unit : UnitCore) → limit_of unit ≡ Ok tt → (form key : ℕ) (node : Core) → node_at unit form key ≡ Some node → node_width node ≤ 20
node_narrow unit e form key node q =
    let i = in_form unit form key node q in
    let heavy = (none_over (form_count unit.shared.pairs.items) 2000 limit.FormNodes (weight_limit unit) 0 unit.forms.items e).rest in
    let narrow = none_over form_width 20 limit.Params (Ok tt) 0 unit.forms.items (not_heavy unit heavy) in
    le_trans (in_greatest node_width i.f.nodes.items key node i.node_there) (narrow.each form i.f i.form_there)

pub node_names : (unit : UnitCore) → IsWhole unit → (form key : ℕ) (node : Core) → node_at unit form key ≡ Some node → NamesAreThere unit.shared node
node_names unit w form key node q =
    let i = in_form unit form key node q in
    all_at (NamesAreThere unit.shared) i.f.nodes.items key node (all_at (HasPlaces unit.shared) unit.forms.items form i.f w.places i.form_there).names i.node_there

pub node_shaped : (unit : UnitCore) → IsWhole unit → (form key : ℕ) (node : Core) (q : node_at unit form key ≡ Some node) → IsShaped unit.shared (in_form unit form key node q).f.nodes.items node
node_shaped unit w form key node q =
    let i = in_form unit form key node q in
    all_at (IsShaped unit.shared i.f.nodes.items) i.f.nodes.items key node (all_at (HasShapes unit.shared) unit.forms.items form i.f w.shapes i.form_there) i.node_there
