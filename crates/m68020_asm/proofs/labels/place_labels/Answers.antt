use Rattle.std.proofs.Common.{◌≡◌, slice_get, get_or, Some, arith, sym, ap, ◌∙◌}
use Rattle.std.proofs.lemmas.Option.{slice_get-get_or, slice_get_within}
use Rattle.m68020_asm.specs.declared.item.Item.{Item}
use Rattle.m68020_asm.specs.declared.item.Item.TheVariants.{Label}
use Rattle.m68020_asm.specs.Widths.{chosen}
use Rattle.m68020_asm.proofs.Addresses.{address_first, address_next_of}
use Rattle.m68020_asm.proofs.LabelPlaces.{zero_item, label_within, address_next_bound, one_more_label, no_more_label}
use Rattle.m68020_asm.proofs.labels.place_labels.Goals as goal
use Rattle.m68020_asm.proofs.labels.place_labels.Goals.{in-Label, in_default}

pub loop-k-init : goal.loop-k-init
loop-k-init c = (sym (address_first c.args.items.now (chosen c.args.widths.now)), λ n j lt. absurd (omega arith))

pub bounds-labels-n : goal.bounds-labels-n
bounds-labels-n c =
    let there = slice_get-get_or c.args.items.now c.loop-k.k zero_item c.loop-k-test.true ∙ ap (λ (x : Item). Some x) c.in-Label.is in
    omega (arith, label_within c.args.items.now c.in-Label.n c.loop-k.k there, c.requires.labels, c.loop-k.auto.labels)

pub overflow_add-at : goal.overflow_add-at
overflow_add-at c =
    let here = slice_get-get_or c.args.items.now c.loop-k.k zero_item c.loop-k-test.true in
    omega (arith, address_next_bound c.args.items.now (chosen c.args.widths.now) c.loop-k.k _ c.requires.items here, c.requires.sized.each c.loop-k.k _ here, c.from-at.ensures, c.loop-k.invariant.0)

pub loop-k-preserved : goal.loop-k-preserved
loop-k-preserved c =
    let items = c.args.items.now in
    let ws = chosen c.args.widths.now in
    let k = c.loop-k.k in
    let i = get_or items k zero_item in
    let here = slice_get-get_or items k zero_item c.loop-k-test.true in (
      omega (arith, address_next_of items ws k i here, c.requires.sized.each k i here, c.from-at.ensures, c.loop-k.invariant.0),
      elim c.match-item.branch [
        | in-Label w ↦
            let label : slice_get items k ≡ Some (Label w.in-Label.n) = here ∙ ap (λ (x : Item). Some x) w.in-Label.is in
            rw w.labels-is (one_more_label items ws c.loop-k.labels k w.in-Label.n c.loop-k.at c.requires.items label (omega (arith, label_within items w.in-Label.n k label, c.requires.labels, c.loop-k.auto.labels)) c.loop-k.invariant.0 c.loop-k.invariant.1)
        | in_default w ↦ rw w.labels-is (no_more_label items ws c.loop-k.labels k i here w.in_default.not-Label c.loop-k.invariant.1)
      ],
    )

pub returns : goal.returns
returns c = λ n k there. c.loop-k.invariant.1 n k (omega (arith, slice_get_within c.args.items.now k (Label n) there, c.loop-k-test.false)) there
