use Rattle.std.proofs.Common.{◌≡◌, ◌++◌, take, map}
use Rattle.cps_live.proofs.continuations.push_root_ks.Given as goal

abbrev pub invariant-loop-lam : goal.invariant-loop-lam
invariant-loop-lam l = l.ks.items ≡ l.fn.ks.items ++ map (λ lam. lam.k.0) (take l.lam-index l.cps.lams.items)
