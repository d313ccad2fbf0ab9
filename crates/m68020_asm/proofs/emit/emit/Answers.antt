use Rattle.std.proofs.Common.{◌≡◌, ◌++◌, get_or, Some, arith, sym, ap, ◌∙◌}
use Rattle.std.proofs.lemmas.Option.{slice_get-get_or, slice_get_within, get_or_from_slice_get}
use Rattle.m68020_asm.specs.declared.item.Item.{Item}
use Rattle.m68020_asm.specs.Items.{address}
use Rattle.m68020_asm.specs.Widths.{chosen}
use Rattle.m68020_asm.specs.Assembled.{bytes_of, code_before}
use Rattle.m68020_asm.proofs.LabelPlaces.{zero_item, address_bound, address_next_bound}
use Rattle.m68020_asm.proofs.Emitted.{code_first, code_next_of}
use Rattle.m68020_asm.proofs.Addresses.{address_first, address_next_of}
use Rattle.m68020_asm.proofs.emit.emit.Goals as goal

pub put_item-requires-clause-at : goal.put_item-requires-clause-at
put_item-requires-clause-at c = omega (arith, c.loop-k.invariant.0, address_bound c.args.items.now (chosen c.args.widths.now) c.loop-k.k c.requires.items c.loop-k.auto.k-end)

pub put_item-requires-clause-branch : goal.put_item-requires-clause-branch
put_item-requires-clause-branch c = λ n cond e.
    let items = c.args.items.now in
    let ws = chosen c.args.widths.now in
    let there = slice_get-get_or items c.loop-k.k zero_item c.loop-k-test.true ∙ ap (λ (x : Item). Some x) e in
    let below = c.requires.items.branches c.loop-k.k n cond there in
    let at = c.requires.items.each n below in
    let label = get_or_from_slice_get c.args.labels.now n (address items ws at.0) 0 (c.requires.placed n at.0 at.1) in (
      omega (arith, below, c.requires.labels),
      omega (arith, label, address_bound items ws at.0 c.requires.items (omega (arith, slice_get_within items at.0 _ at.1))),
      rw (c.loop-k.invariant.0, label) (c.requires.fits c.loop-k.k at.0 n cond there at.1),
    )

pub put_item-requires-clause-address : goal.put_item-requires-clause-address
put_item-requires-clause-address c = λ n reg e.
    let there = slice_get-get_or c.args.items.now c.loop-k.k zero_item c.loop-k-test.true ∙ ap (λ (x : Item). Some x) e in
    omega (arith, c.requires.items.addresses c.loop-k.k n reg there, c.requires.labels)

pub loop-k-init : goal.loop-k-init
loop-k-init c = (sym (address_first c.args.items.now (chosen c.args.widths.now)), c.new-out.ensures.items ∙ sym (code_first c.args.items.now (chosen c.args.widths.now) c.args.labels.now))

pub put_item-requires-clause-item : goal.put_item-requires-clause-item
put_item-requires-clause-item c = c.requires.items.rows c.loop-k.k _ (slice_get-get_or c.args.items.now c.loop-k.k zero_item c.loop-k-test.true)

pub overflow_add-at : goal.overflow_add-at
overflow_add-at c =
    let here = slice_get-get_or c.args.items.now c.loop-k.k zero_item c.loop-k-test.true in
    omega (arith, address_next_bound c.args.items.now (chosen c.args.widths.now) c.loop-k.k _ c.requires.items here, c.requires.sized.each c.loop-k.k _ here, c.from-at.ensures, c.loop-k.invariant.0)

pub loop-k-preserved : goal.loop-k-preserved
loop-k-preserved c =
    let items = c.args.items.now in
    let ws = chosen c.args.widths.now in
    let k = c.loop-k.k in
    let i = get_or items k zero_item in
    let here = slice_get-get_or items k zero_item c.loop-k-test.true in
    let bytes : c.put_item.new.out.items ≡ code_before items ws c.args.labels.now k ++ bytes_of c.args.labels.now i (ws k) (address items ws k) = rw (← c.loop-k.invariant.1, ← c.loop-k.invariant.0) c.in_ok-put_item.ensures in (
      omega (arith, address_next_of items ws k i here, c.requires.sized.each k i here, c.from-at.ensures, c.loop-k.invariant.0),
      bytes ∙ sym (code_next_of items ws c.args.labels.now k i here),
    )
