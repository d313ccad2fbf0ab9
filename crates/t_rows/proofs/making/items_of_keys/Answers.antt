use Rattle.std.proofs.Common.{◌≡◌, ◌+◌, ◌-◌, ◌<◌, arith, length, drop}
use Rattle.t_forms.specs.Held.{Held}
use Rattle.t_rows.proofs.ZipLemmas.{zip_drop, zip_end}
use Rattle.t_rows.proofs.Growth.{extends_trans, held_grows}
use Rattle.t_rows.proofs.making.items_of_keys.Goals as goal

pub keys-init : goal.keys-init
keys-init c = record {
  within = omega arith;
  grown = c.in_ok-items.ensures.grown;
  items = λ names ds h. rw (zip_end (Held names c.args.forms.now) c.args.keys.now ds h) (c.in_ok-items.ensures.made names);
}

pub keys-preserved : goal.keys-preserved
keys-preserved c =
    let below : c.keys.at - 1 < length c.args.keys.now = omega arith in
    let at : c.keys.at ≡ c.keys.at - 1 + 1 = omega arith in
    record {
      within = omega arith;
      grown = extends_trans c.keys.invariant.grown c.in_ok-items-2.ensures.grown;
      items = λ names ds h.
          let d = zip_drop (Held names c.args.forms.now) c.args.keys.now ds (c.keys.at - 1) c.keys.at 0 below at h in
          rw d.1 (c.in_ok-items-2.ensures.items names d.0 (drop c.keys.at ds) (held_grows c.keys.invariant.grown names _ d.0 d.2) (c.keys.invariant.items names ds h));
    }

pub returns-clause-made : goal.returns-clause-made
returns-clause-made c names ds h = let zero_ : c.keys.at ≡ 0 = omega arith in rw zero_ at (c.keys.invariant.items names ds h)
