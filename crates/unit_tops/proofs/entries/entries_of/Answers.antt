use Rattle.std.proofs.Common.{◌≡◌, ◌≤◌, List, [], ◌∷◌, ◌++◌, length, take, subst, arith}
use Rattle.std.proofs.lemmas.List.{take_all}
use Rattle.std.proofs.lemmas.List.Sums.{fold-append}
use Rattle.unit_tops.specs.Entries.{AreEntries}
use Rattle.expansion.specs.Units.{Top, with_top, entries_of}
use Rattle.unit_tops.proofs.TopLemmas.{top_at, as_many}
use Rattle.unit_tops.proofs.entries.entries_of.Goals as goal

entries_last : (before : List Top) (t : Top) → entries_of (before ++ t ∷ []) ≡ with_top (entries_of before) t
entries_last before t = fold-append with_top [] before (t ∷ [])

pub tops-preserved : goal.tops-preserved
tops-preserved c cells ts others begin apart are =
    let at = top_at c.args.names.now cells c.args.tops.now ts c.tops.top-index c.top-item.result are c.tops-test.true c.top-item.is in
    rw (at.next, entries_last (take c.tops.top-index ts) at.top)
    (c.in_ok-add_top.ensures c.args.names.now cells at.top (entries_of (take c.tops.top-index ts)) apart at.is (c.tops.invariant cells ts others begin apart are))

pub returns : goal.returns
returns c cells ts others begin apart are =
    let e = as_many c.args.names.now cells c.args.tops.now ts are in
    let many : length ts ≤ c.tops.top-index = omega (arith, c.tops-test.false, e) in
    subst (λ (l : List Top). AreEntries c.args.names.now c.tops.entries (entries_of l)) (take_all c.tops.top-index ts many) (c.tops.invariant cells ts others begin apart are)
