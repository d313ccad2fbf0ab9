use Rattle.std.proofs.Common.{◌≡◌, ℕ, ◌-◌, ◌^◌, ◌<◌, ◌≤◌, length, get_or, replicate, slice_index, Some, arith, refl, ap, ◌∙◌, inl, inr}
use Rattle.std.specs.Prelude.{◌||◌}
use Rattle.std.proofs.lemmas.Bool.{cases_lt}
use Rattle.std.proofs.lemmas.Option.{slice_get-get_or}
use Rattle.m68020_asm.specs.declared.item.Item.{Item}
use Rattle.m68020_asm.specs.Items.{address}
use Rattle.m68020_asm.specs.Widths.{chosen}
use Rattle.m68020_asm.specs.Sweep.{must_widen}
use Rattle.m68020_asm.proofs.Addresses.{wider}
use Rattle.m68020_asm.proofs.LabelPlaces.{zero_item, label_within}
use Rattle.m68020_asm.proofs.Directions.{at_end, to_front, at_last, at_large, label_small}
use Rattle.m68020_asm.proofs.sweeps.sweep_to_front.Goals as goal
use Rattle.m68020_asm.proofs.sweeps.sweep_to_front.Goals.{then-visit, else-visit}

pub loop-k-init : goal.loop-k-init
loop-k-init c = (
  omega arith,
  omega arith,
  at_end c.args.items.now c.args.widths.now c.args.sizes.now _ c.requires.sized (c.forget.ensures ∙ ap (λ (n : ℕ). replicate {A = ℕ} n 0) c.requires.labels),
)

pub overflow_sub-from : goal.overflow_sub-from
overflow_sub-from c = omega (arith, at_large c.args.items.now (chosen c.loop-k.widths) c.loop-k.k c.loop-k.at c.requires.items c.loop-k.invariant.1, c.from.ensures, c.type_inv.sizes (c.loop-k.k - 1))

pub visit-requires-clause-at : goal.visit-requires-clause-at
visit-requires-clause-at c =
    let items = c.args.items.now in
    let ws = chosen c.loop-k.widths in
    omega (arith, c.loop-k.invariant.1, (wider items ws ws (λ i. omega arith) c.loop-k.k (length items) c.loop-k.invariant.0).up)

pub visit-requires-clause-label : goal.visit-requires-clause-label
visit-requires-clause-label c = λ n e.
    let there = slice_get-get_or c.args.items.now (c.loop-k.k - 1) zero_item (omega (arith, c.loop-k-test.true, c.loop-k.invariant.0)) ∙ ap (λ (x : Item). Some x) e in
    omega (arith, label_within c.args.items.now n (c.loop-k.k - 1) there, c.loop-k.invariant.2.knows.counted)

pub visit-requires-clause-branch : goal.visit-requires-clause-branch
visit-requires-clause-branch c = λ n cond e.
    let items = c.args.items.now in
    let ws = chosen c.loop-k.widths in
    let there = slice_get-get_or items (c.loop-k.k - 1) zero_item (omega (arith, c.loop-k-test.true, c.loop-k.invariant.0)) ∙ ap (λ (x : Item). Some x) e in
    let below = c.requires.items.branches (c.loop-k.k - 1) n cond there in (
      omega (arith, below, c.loop-k.invariant.2.knows.counted),
      label_small items ws c.loop-k.labels (λ j. c.loop-k.k ≤ j) (λ j. j < c.loop-k.k) (2 ^ 29) (address items ws (length items)) n c.requires.items c.loop-k.invariant.2.knows
          (λ j. elim (cases_lt j c.loop-k.k) [ inl lt ↦ inr lt | inr ge ↦ inl ge ])
          (λ j le. omega (arith, (wider items ws ws (λ i. omega arith) j (length items) le).up)) below,
    )

pub overflow_sub-at : goal.overflow_sub-at
overflow_sub-at c = omega (arith, at_large c.args.items.now (chosen c.loop-k.widths) c.loop-k.k c.loop-k.at c.requires.items c.loop-k.invariant.1, c.from-at.ensures, c.type_inv.sizes (c.loop-k.k - 1))

pub loop-k-preserved : goal.loop-k-preserved
loop-k-preserved c =
    let items = c.args.items.now in
    let k = c.loop-k.k in
    let i = get_or items (k - 1) zero_item in
    let here = slice_get-get_or items (k - 1) zero_item (omega (arith, c.loop-k-test.true, c.loop-k.invariant.0)) in
    let from = c.loop-k.at - c.from.result in
    let must = must_widen i (chosen c.loop-k.widths (k - 1)) from c.loop-k.labels in
    let changed : must || c.loop-k.changed ≡ c.if-visit.changed = elim c.if-visit.branch [
      | then-visit w ↦ rw (w.changed-is, ← c.visit.ensures.widens, w.if-visit.true) refl
      | else-visit w ↦ rw (w.changed-is, ← c.visit.ensures.widens, w.if-visit.false) refl
    ] in
    let from_is : from ≡ c.loop-k.at - slice_index c.loop-k.sizes (k - 1) = ap (λ n. c.loop-k.at - n) c.from.ensures in
    let small = overflow_sub-at c in (
      omega (arith, c.loop-k.invariant.0),
      rw (c.from-at.ensures, c.visit.ensures.width, c.visit.ensures.size) (at_last items c.args.widths.now c.loop-k.widths c.loop-k.sizes c.loop-k.labels c.loop-k.changed k c.loop-k.at from c.requires.items c.loop-k-test.true i here c.loop-k.invariant.2 c.loop-k.invariant.1 from_is must refl (rw (← c.visit.ensures.size, ← c.from-at.ensures) small)),
      rw (← changed, c.visit.ensures.width, c.visit.ensures.size, c.visit.ensures.labels) (to_front items c.args.widths.now c.loop-k.widths c.loop-k.sizes c.loop-k.labels c.loop-k.changed k c.loop-k.at from c.requires.items c.loop-k-test.true i here c.loop-k.invariant.2 c.loop-k.invariant.1 from_is must refl),
    )
