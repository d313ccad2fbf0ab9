use Rattle.std.specs.List.{filter_map, flat_map}
use Rattle.std.proofs.Common.{◌≡◌, ◌++◌, take, map, slice_get}
use Rattle.cps_ir.specs.Parts.{lambdas_of}
use Rattle.cps_live.proofs.continuations.push_inner_ks.Given as goal

abbrev pub invariant-loop-place : goal.invariant-loop-place
invariant-loop-place l = l.ks.items ≡ l.fn.ks.items ++ map (λ lam. lam.k.0) (flat_map (lambdas_of l.cps) (filter_map (slice_get l.cps.terms.items) (take l.place-index l.places)))
