use Rattle.std.proofs.Common.{◌≡◌, ℕ, ◌+◌, ◌-◌, ◌/◌, ◌<◌, ◌≤◌, Some, sym, arith}
use Rattle.t_base.specs.declared.shared_parts.Const.{Const}
use Rattle.t_core.specs.Counts.{Pairs, parts, datum_nodes}
use Rattle.t_prim.specs.SharedParts.{HasLowerParts}
use Rattle.t_core.specs.Smaller.{AreOver, CountsOne}
use Rattle.t_core.proofs.DatumLemmas.{datum_atom, datum_pair, datum_positive}
use Rattle.t_core.proofs.quoted.+bounded.Goals as goal

-- where both parts are over half of what is left, the whole is over
root_over : (pairs : Pairs) → HasLowerParts pairs → (at root : Const) (p : Const × Const) (total most : ℕ) → Some p ≡ parts pairs at → total + datum_nodes pairs at ≡ datum_nodes pairs root
    → AreOver pairs p.0 p.1 ((most - (total + 1)) / 2) → datum_nodes pairs root ≤ most → ⊥
root_over pairs lower at root p total most is sizes over le = let whole = datum_pair pairs lower at p (sym is) in omega arith

-- one part is counted, and the other is still to count
part_counted : (pairs : Pairs) → HasLowerParts pairs → (at root : Const) (p : Const × Const) (total most : ℕ) (counted : ℕ × Const) → Some p ≡ parts pairs at → total < most → total + datum_nodes pairs at ≡ datum_nodes pairs root
    → CountsOne pairs p.0 p.1 ((most - (total + 1)) / 2) counted → (total + 1 + counted.0 + datum_nodes pairs counted.1 ≡ datum_nodes pairs root) × (total + 1 + counted.0 ≤ most)
part_counted pairs lower at root p total most counted is room sizes one = let whole = datum_pair pairs lower at p (sym is) in (omega arith, omega arith)

pub count_within-returns-in-None : goal.count_within-returns-in-None
count_within-returns-in-None t c = let one = datum_atom c.args.pairs.now c.loop-total.at (sym c.in-None.ensures) in (omega arith, omega arith)

pub count_within-returns-in_err-count : goal.count_within-returns-in_err-count
count_within-returns-in_err-count t c = rw c.from_residual.ensures (root_over c.args.pairs.now c.requires.lower c.loop-total.at c.args.root c.in-Some.parts c.loop-total.total c.args.most c.in-Some.ensures c.loop-total.invariant.sizes c.in_err-count.ensures)

pub count_within-loop-total-preserved : goal.count_within-loop-total-preserved
count_within-loop-total-preserved t c =
    let h = part_counted c.args.pairs.now c.requires.lower c.loop-total.at c.args.root c.in-Some.parts c.loop-total.total c.args.most (c.in_ok-count.count, c.in_ok-count.rest) c.in-Some.ensures c.loop-total-test.true c.loop-total.invariant.sizes c.in_ok-count.ensures in
    record { sizes = h.0; within = h.1 }

pub count_within-returns : goal.count_within-returns
count_within-returns t c = λ le. let more = datum_positive c.args.pairs.now c.loop-total.at in omega arith
