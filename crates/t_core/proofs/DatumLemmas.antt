-- The size of quoted data, by cases.
use Rattle.std.proofs.Common.{◌≡◌, ℕ, zero, suc, ◌+◌, ◌<◌, ◌≤◌, length, Option, Some, None, slice_get, refl, sym, ap, subst, ◌∙◌, arith}
use Rattle.std.specs.Option.{option_map_or}
use Rattle.std.proofs.lemmas.Option.{slice_get_within}
use Rattle.t_base.specs.declared.shared_parts.Const.{Const}
use Rattle.t_base.specs.declared.shared_parts.Const.TheVariants as Constant
use Rattle.t_core.specs.Counts.{Pairs, parts, nodes_within, datum_nodes}
use Rattle.t_prim.specs.SharedParts.{StandsBelow, HasLowerParts}

StandsBelow-more : (k n : ℕ) (c : Const) → StandsBelow k c → k ≤ n → StandsBelow n c
StandsBelow-more k n (Constant.Pair j) h le = omega arith
StandsBelow-more k n (Constant.Fix x) h le = tt
StandsBelow-more k n (Constant.Char x) h le = tt
StandsBelow-more k n Constant.Nil h le = tt
StandsBelow-more k n Constant.True h le = tt
StandsBelow-more k n (Constant.Sym x) h le = tt
StandsBelow-more k n (Constant.Str x) h le = tt

-- what no pair is counts 1
within_atom : (pairs : Pairs) (n : ℕ) (c : Const) → parts pairs c ≡ None → nodes_within pairs n c ≡ 1
unfolding nodes_within
within_atom pairs zero c h = refl
within_atom pairs (suc n) c h = rw h refl

within_pair : (pairs : Pairs) (n : ℕ) (c : Const) (p : Const × Const) → parts pairs c ≡ Some p → nodes_within pairs (suc n) c ≡ 1 + nodes_within pairs n p.0 + nodes_within pairs n p.1
unfolding nodes_within
within_pair pairs n c p h = rw h refl

within_positive : (pairs : Pairs) (n : ℕ) (c : Const) → 0 < nodes_within pairs n c
unfolding nodes_within
within_positive pairs zero c = omega arith
within_positive pairs (suc n) c = by (parts pairs c)
  where
    by : (o : Option (Const × Const)) → 0 < option_map_or (λ p. 1 + nodes_within pairs n p.0 + nodes_within pairs n p.1) o 1
    by None = omega arith
    by (Some p) = omega arith

-- a pair with its parts, where it is one
pub record IsPairAt (pairs : Pairs) (c : Const) (p : Const × Const) : Type 0 where
  pub place : ℕ
  pub is : c ≡ Constant.Pair place
  pub found : slice_get pairs place ≡ Some p

pair_at : (pairs : Pairs) (c : Const) (p : Const × Const) → parts pairs c ≡ Some p → IsPairAt pairs c p
pair_at pairs (Constant.Pair j) p h = record { place = j; is = refl; found = h }
pair_at pairs (Constant.Fix x) p h = cc
pair_at pairs (Constant.Char x) p h = cc
pair_at pairs Constant.Nil p h = cc
pair_at pairs Constant.True p h = cc
pair_at pairs (Constant.Sym x) p h = cc
pair_at pairs (Constant.Str x) p h = cc

-- a pair's place is below the depth
below_depth : (pairs : Pairs) (n : ℕ) (c : Const) (p : Const × Const) → (a : IsPairAt pairs c p) → StandsBelow n c → a.place < n
below_depth pairs n c p a h = subst (StandsBelow n) a.is h

parts_stand_below : (pairs : Pairs) → HasLowerParts pairs → (n : ℕ) (c : Const) (p : Const × Const) → (a : IsPairAt pairs c p) → a.place ≤ n → StandsBelow n p.0 × StandsBelow n p.1
parts_stand_below pairs lower n c p a le =
    let b = lower.parts_below a.place p a.found in
    (StandsBelow-more a.place n p.0 b.0 le, StandsBelow-more a.place n p.1 b.1 le)

stable_step : (pairs : Pairs) → HasLowerParts pairs → (n m : ℕ) (c : Const) (o : Option (Const × Const)) → parts pairs c ≡ o → StandsBelow (suc n) c → StandsBelow (suc m) c
    → ((q : Const) → StandsBelow n q → StandsBelow m q → nodes_within pairs n q ≡ nodes_within pairs m q)
    → nodes_within pairs (suc n) c ≡ nodes_within pairs (suc m) c
stable_step pairs lower n m c None h below_n below_m before = within_atom pairs (suc n) c h ∙ sym (within_atom pairs (suc m) c h)
stable_step pairs lower n m c (Some p) h below_n below_m before =
    let a = pair_at pairs c p h in
    let lt_n : a.place < suc n = below_depth pairs (suc n) c p a below_n in
    let lt_m : a.place < suc m = below_depth pairs (suc m) c p a below_m in
    let b = parts_stand_below pairs lower n c p a (omega arith) in
    let d = parts_stand_below pairs lower m c p a (omega arith) in
    within_pair pairs n c p h
    ∙ ap (λ x. 1 + x + nodes_within pairs n p.1) (before p.0 b.0 d.0)
    ∙ ap (λ x. 1 + nodes_within pairs m p.0 + x) (before p.1 b.1 d.1)
    ∙ sym (within_pair pairs m c p h)

at_zero : (pairs : Pairs) (m : ℕ) (c : Const) (o : Option (Const × Const)) → parts pairs c ≡ o → StandsBelow zero c → nodes_within pairs zero c ≡ nodes_within pairs m c
at_zero pairs m c None h below = within_atom pairs zero c h ∙ sym (within_atom pairs m c h)
at_zero pairs m c (Some p) h below =
    let a = pair_at pairs c p h in
    let lt : a.place < zero = below_depth pairs zero c p a below in
    absurd (omega arith)

-- more depth than the place changes nothing
stable : (pairs : Pairs) → HasLowerParts pairs → (n m : ℕ) (c : Const) → StandsBelow n c → StandsBelow m c → nodes_within pairs n c ≡ nodes_within pairs m c
stable pairs lower zero m c below_n below_m = at_zero pairs m c (parts pairs c) refl below_n
stable pairs lower (suc n) zero c below_n below_m = sym (at_zero pairs (suc n) c (parts pairs c) refl below_m)
stable pairs lower (suc n) (suc m) c below_n below_m = stable_step pairs lower n m c (parts pairs c) refl below_n below_m (λ q b d. stable pairs lower n m q b d)

pair_within : (pairs : Pairs) → HasLowerParts pairs → (n : ℕ) (c : Const) (p : Const × Const) → parts pairs c ≡ Some p → (a : IsPairAt pairs c p) → a.place < n
    → nodes_within pairs n c ≡ 1 + nodes_within pairs n p.0 + nodes_within pairs n p.1
pair_within pairs lower zero c p h a lt = absurd (omega arith)
pair_within pairs lower (suc n) c p h a lt =
    let b = parts_stand_below pairs lower n c p a (omega arith) in
    let d = parts_stand_below pairs lower (suc n) c p a (omega arith) in
    within_pair pairs n c p h
    ∙ ap (λ x. 1 + x + nodes_within pairs n p.1) (stable pairs lower n (suc n) p.0 b.0 d.0)
    ∙ ap (λ x. 1 + nodes_within pairs (suc n) p.0 + x) (stable pairs lower n (suc n) p.1 b.1 d.1)

pub datum_atom : (pairs : Pairs) (c : Const) → parts pairs c ≡ None → datum_nodes pairs c ≡ 1
unfolding datum_nodes
datum_atom pairs c h = within_atom pairs (length pairs) c h

pub datum_positive : (pairs : Pairs) (c : Const) → 0 < datum_nodes pairs c
unfolding datum_nodes
datum_positive pairs c = within_positive pairs (length pairs) c

pub datum_pair : (pairs : Pairs) → HasLowerParts pairs → (c : Const) (p : Const × Const) → parts pairs c ≡ Some p → datum_nodes pairs c ≡ 1 + datum_nodes pairs p.0 + datum_nodes pairs p.1
unfolding datum_nodes
datum_pair pairs lower c p h =
    let a = pair_at pairs c p h in
    pair_within pairs lower (length pairs) c p h a (slice_get_within pairs a.place p a.found)
