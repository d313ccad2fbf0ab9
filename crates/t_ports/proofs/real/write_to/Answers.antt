use Rattle.std.proofs.Common.{◌≡◌, ℕ, ◌+◌, ◌-◌, List, ◌++◌, length, take, drop, subst, sym, ap, ◌∙◌, rules}
use Rattle.std.proofs.Math.Seq.{take-add}
use Rattle.std.proofs.lemmas.List.{take_rest}
use Rattle.std.specs.Io.KnownBytes.{Appends}
use Rattle.std.proofs.KnownBytes.{Appends-trans}
use Rattle.t_ports.proofs.Counting.{stands}
use Rattle.t_ports.proofs.real.write_to.Goals as goal

take_on : (done count : ℕ) (bytes : List ℕ) → take done bytes ++ take count (take (length bytes - done) (drop done bytes)) ≡ take (done + count) bytes
take_on done count bytes =
    ap (λ (l : List ℕ). take done bytes ++ take count l) (take_rest bytes done) ∙ sym (take-add done count bytes)

pub loop-done-preserved : goal.loop-done-preserved
loop-done-preserved g c = record {
  within = search rules;
  faults = stands _ _ c.in-Ok.count c.in-Ok.ensures.faults (search rules) ∙ c.loop-done.invariant.faults;
  took = subst (Appends _ _) (take_on c.loop-done.done c.in-Ok.count c.args.bytes.now) (Appends-trans _ _ _ _ _ c.loop-done.invariant.took c.in-Ok.ensures.bytes);
}
