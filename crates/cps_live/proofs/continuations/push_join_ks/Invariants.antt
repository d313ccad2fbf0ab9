use Rattle.std.specs.List.{filter_map, flat_map}
use Rattle.std.proofs.Common.{◌≡◌, ◌++◌, take, slice_get}
use Rattle.cps_known.specs.LiveVariables.{join_k}
use Rattle.cps_live.proofs.continuations.push_join_ks.Given as goal

abbrev pub invariant-loop-place : goal.invariant-loop-place
invariant-loop-place l = l.ks.items ≡ l.fn.ks.items ++ flat_map join_k (filter_map (slice_get l.cps.terms.items) (take l.place-index l.places))
