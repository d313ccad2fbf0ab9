use Rattle.std.proofs.Common.{◌≡◌, ◌++◌, ◌∷◌, take, map}
use Rattle.cps_walk.proofs.parts.push_roots.Given as goal

abbrev pub invariant-loop-lam : goal.invariant-loop-lam
invariant-loop-lam l = l.parts.items ≡ l.fn.parts.items ++ l.cps.entry ∷ map (λ lam. lam.body) (take l.lam-index l.cps.lams.items)
