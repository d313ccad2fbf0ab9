use Rattle.std.proofs.Common.{◌≡◌, ℕ, ◌+◌, ◌<◌, ◌≤◌, get_or, set, replicate, Some, arith, refl, sym, ap, subst, ◌∙◌}
use Rattle.std.specs.Prelude.{◌||◌}
use Rattle.std.proofs.lemmas.Bool.{cases_lt}
use Rattle.std.proofs.lemmas.Option.{slice_get-get_or, slice_get_within}
use Rattle.m68020_asm.specs.declared.item.Item.{Item}
use Rattle.m68020_asm.specs.Widths.{chosen}
use Rattle.m68020_asm.specs.Sweep.{Reaches, must_widen}
use Rattle.m68020_asm.proofs.Addresses.{address_first}
use Rattle.m68020_asm.proofs.LabelPlaces.{zero_item, address_bound, label_within}
use Rattle.m68020_asm.proofs.Directions.{at_front, to_end, at_next, label_small}
use Rattle.m68020_asm.proofs.sweeps.sweep_to_end.Goals as goal
use Rattle.m68020_asm.proofs.sweeps.sweep_to_end.Goals.{then-visit, else-visit}

pub loop-k-init : goal.loop-k-init
loop-k-init c = (
  sym (address_first c.args.items.now (chosen c.args.widths.now)),
  at_front c.args.items.now c.args.widths.now c.args.sizes.now _ c.requires.sized (c.forget.ensures ∙ ap (λ (n : ℕ). replicate {A = ℕ} n 0) c.requires.labels),
)

pub visit-requires-clause-at : goal.visit-requires-clause-at
visit-requires-clause-at c = omega (arith, c.loop-k.invariant.0, address_bound c.args.items.now (chosen c.loop-k.widths) c.loop-k.k c.requires.items c.loop-k.auto.k-end)

pub visit-requires-clause-label : goal.visit-requires-clause-label
visit-requires-clause-label c = λ n e.
    let there = slice_get-get_or c.args.items.now c.loop-k.k zero_item c.loop-k-test.true ∙ ap (λ (x : Item). Some x) e in
    omega (arith, label_within c.args.items.now n c.loop-k.k there, c.loop-k.invariant.1.knows.counted)

pub visit-requires-clause-branch : goal.visit-requires-clause-branch
visit-requires-clause-branch c = λ n cond e.
    let items = c.args.items.now in
    let there = slice_get-get_or items c.loop-k.k zero_item c.loop-k-test.true ∙ ap (λ (x : Item). Some x) e in
    let below = c.requires.items.branches c.loop-k.k n cond there in (
      omega (arith, below, c.loop-k.invariant.1.knows.counted),
      label_small items (chosen c.loop-k.widths) c.loop-k.labels (λ j. j < c.loop-k.k) (λ j. c.loop-k.k ≤ j) 0 0 n c.requires.items c.loop-k.invariant.1.knows (λ j. cases_lt j c.loop-k.k) (λ j le. omega (arith, address_bound items (chosen c.loop-k.widths) j c.requires.items le)) below,
    )

pub loop-k-preserved : goal.loop-k-preserved
loop-k-preserved c =
    let items = c.args.items.now in
    let k = c.loop-k.k in
    let i = get_or items k zero_item in
    let here = slice_get-get_or items k zero_item c.loop-k-test.true in
    let must = must_widen i (chosen c.loop-k.widths k) c.loop-k.at c.loop-k.labels in
    let changed : must || c.loop-k.changed ≡ c.if-visit.changed = elim c.if-visit.branch [
      | then-visit w ↦ rw (w.changed-is, ← c.visit.ensures.widens, w.if-visit.true) refl
      | else-visit w ↦ rw (w.changed-is, ← c.visit.ensures.widens, w.if-visit.false) refl
    ] in (
      rw (c.from-at.ensures, c.visit.ensures.width, c.visit.ensures.size) (at_next items c.args.widths.now c.loop-k.widths c.loop-k.sizes c.loop-k.labels c.loop-k.changed k c.loop-k.at c.requires.items i here c.loop-k.invariant.1 c.loop-k.invariant.0 must refl),
      rw (← changed, c.visit.ensures.width, c.visit.ensures.size, c.visit.ensures.labels) (to_end items c.args.widths.now c.loop-k.widths c.loop-k.sizes c.loop-k.labels c.loop-k.changed k c.loop-k.at c.requires.items i here c.loop-k.invariant.1 c.loop-k.invariant.0 must refl),
    )

pub overflow_add-at : goal.overflow_add-at
overflow_add-at c =
    let next = (loop-k-preserved c).0 in
    omega (arith, next, address_bound c.args.items.now (chosen (set c.loop-k.widths c.loop-k.k c.visit.new.width)) (c.loop-k.k + 1) c.requires.items (omega (arith, c.loop-k-test.true)))

pub returns-clause-fits : goal.returns-clause-fits
returns-clause-fits c = λ e.
    let same = c.loop-k.invariant.1.growing.same e in (
      same,
      λ k j n cond branch label lt.
          let within = slice_get_within c.args.items.now k _ branch in
          subst (λ ws. Reaches c.args.items.now (chosen ws) k j) same (c.loop-k.invariant.1.fits e k j n cond branch label (omega (arith, within, c.loop-k-test.false)) lt),
    )
