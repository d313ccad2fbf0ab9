-- Units whose forms are alike count alike.
use Rattle.std.proofs.Common.{◌≡◌, ℕ, ◌+◌, ◌*◌, nat_lt, List, [], ◌∷◌, map, max, fold, Result, Ok, Err, if◌then◌else◌, refl, sym, ap, ◌∙◌}
use Rattle.std.specs.List.{sum_by}
use Rattle.std.proofs.lemmas.List.Folds.{fold-map}
use Rattle.std.proofs.lemmas.List.Sums.{sum_by-cons}
use Rattle.t_base.specs.declared.basics.Span.{Span}
use Rattle.t_core.specs.declared.forms.Form.{Form}
use Rattle.t_core.specs.declared.forms.UnitCore.{UnitCore}
use Rattle.t_core.specs.declared.limiting.LimitFault.{LimitFault}
use Rattle.t_core.specs.declared.limiting.LimitFault.TheVariants.{FormNodes, UnitWeight, Params}
use Rattle.t_core.specs.Counts.{form_count, weight_of}
use Rattle.t_core.specs.Limits.{greatest, form_width, first_over, params_limit, weight_limit, limit_of}
use Rattle.t_core.specs.Whole.{IsWhole}
use Rattle.expand_laws.specs.Renaming.{Renaming, FormsAlike}
use Rattle.expand_laws.specs.SameCounts.{CountAlike}
use Rattle.expand_laws.proofs.AlikeCounts.{form_same}
use Rattle.expand_laws.proofs.AlikeSums.{forms_same}
use Rattle.expand_laws.proofs.AlikeWidths.{form_widths_same}

-- ---- what numbers that are the same one by one settle

sums_by : {X Y : Type 0} (f : X → ℕ) (g : Y → ℕ) (h : ℕ → ℕ) (xs : List X) (ys : List Y) → map f xs ≡ map g ys
    → sum_by (λ x. h (f x)) xs ≡ sum_by (λ y. h (g y)) ys
sums_by f g h [] [] e = refl
sums_by f g h [] (y ∷ ys) e = cc
sums_by f g h (x ∷ xs) [] e = cc
sums_by f g h (x ∷ xs) (y ∷ ys) e =
    let first : f x ≡ g y = cc in
    let rest : map f xs ≡ map g ys = cc in
    sum_by-cons (λ z. h (f z)) x xs ∙ ap (λ n. h n + sum_by (λ z. h (f z)) xs) first ∙ ap (λ n. h (g y) + n) (sums_by f g h xs ys rest)
    ∙ sym (sum_by-cons (λ z. h (g z)) y ys)

greatest_by : {X Y : Type 0} (f : X → ℕ) (g : Y → ℕ) (xs : List X) (ys : List Y) → map f xs ≡ map g ys → greatest f xs ≡ greatest g ys
greatest_by f g xs ys e = sym (fold-map max f 0 xs) ∙ ap (λ ns. fold max 0 ns) e ∙ fold-map max g 0 ys

first_over_by : (f g : Form → ℕ) (limit : ℕ) (fault : ℕ → ℕ → LimitFault) (otherwise : Result (Unit {0}) LimitFault) (at : ℕ) (xs ys : List Form)
    → map f xs ≡ map g ys → first_over f limit fault otherwise at xs ≡ first_over g limit fault otherwise at ys
first_over_by f g limit fault otherwise at [] [] e = refl
first_over_by f g limit fault otherwise at [] (y ∷ ys) e = cc
first_over_by f g limit fault otherwise at (x ∷ xs) [] e = cc
first_over_by f g limit fault otherwise at (x ∷ xs) (y ∷ ys) e =
    let first : f x ≡ g y = cc in
    let rest : map f xs ≡ map g ys = cc in
    ap (λ n. if nat_lt limit n then Err (fault at n) else first_over f limit fault otherwise (at + 1) xs) first
    ∙ ap (λ r. if nat_lt limit (g y) then Err (fault at (g y)) else r) (first_over_by f g limit fault otherwise (at + 1) xs ys rest)

-- ---- units

module _ (unit other : UnitCore) (counts : map (form_count unit.shared.pairs.items) unit.forms.items ≡ map (form_count other.shared.pairs.items) other.forms.items)
    (widths : map form_width unit.forms.items ≡ map form_width other.forms.items) where
  abbrev left : Form → ℕ
  left form = form_count unit.shared.pairs.items form

  abbrev right : Form → ℕ
  right form = form_count other.shared.pairs.items form

  most_same : greatest left unit.forms.items ≡ greatest right other.forms.items
  most_same = greatest_by left right unit.forms.items other.forms.items counts

  weights_same : weight_of unit ≡ weight_of other
  weights_same = sums_by left right (λ n. (n + 8) * (n + 8)) unit.forms.items other.forms.items counts

  params_same : params_limit unit ≡ params_limit other
  params_same = first_over_by form_width form_width 20 Params (Ok tt) 0 unit.forms.items other.forms.items widths

  weight_limits_same : weight_limit unit ≡ weight_limit other
  weight_limits_same =
      ap (λ n. if nat_lt 4194304 n then Err (UnitWeight n) else params_limit unit) weights_same
      ∙ ap (λ r. if nat_lt 4194304 (weight_of other) then Err (UnitWeight (weight_of other)) else r) params_same

  limits_same : limit_of unit ≡ limit_of other
  limits_same =
      ap (λ r. first_over left 2000 FormNodes r 0 unit.forms.items) weight_limits_same
      ∙ first_over_by left right 2000 FormNodes (weight_limit other) 0 unit.forms.items other.forms.items counts

  same_counts : IsWhole unit → IsWhole other → CountAlike unit other
  same_counts whole also = record {
    counts = counts;
    widths = widths;
    most = most_same;
    size = whole.shared.size ∙ most_same ∙ sym also.shared.size;
    weight = weights_same;
    bulk = sums_by left right (λ n. n + 8) unit.forms.items other.forms.items counts;
    limits = limits_same;
  }

pub count_alike : (unit other : UnitCore) (renaming : Renaming) (spans others : List (List Span)) → IsWhole unit → IsWhole other
    → FormsAlike renaming unit.shared other.shared unit.forms.items spans other.forms.items others → CountAlike unit other
count_alike unit other renaming spans others whole also forms =
    same_counts unit other
    (forms_same renaming unit.shared other.shared (form_count unit.shared.pairs.items) (form_count other.shared.pairs.items)
    (form_same renaming unit.shared other.shared whole.shared.parts.lower also.shared.parts.lower) unit.forms.items spans other.forms.items others forms
    whole.places also.places)
    (forms_same renaming unit.shared other.shared form_width form_width (form_widths_same renaming unit.shared other.shared) unit.forms.items spans
    other.forms.items others forms whole.places also.places) whole also
