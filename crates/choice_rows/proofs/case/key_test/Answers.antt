use Rattle.std.proofs.Common.{◌≡◌, ◌+◌, ◌-◌, ◌<◌, arith, length, drop, refl}
use Rattle.t_reader.specs.Grammar.{nil}
use Rattle.t_forms.specs.Data.{given}
use Rattle.t_forms.specs.Held.{Held}
use Rattle.t_rows.proofs.ZipLemmas.{zip_drop, zip_end}
use Rattle.t_rows.proofs.Growth.{extends_trans, held_grows}
use Rattle.choice_rows.proofs.case.key_test.Goals as goal

pub keys-init : goal.keys-init
keys-init c = record {
  within = omega arith;
  grown = c.in_ok-test.ensures.grown;
  test = λ names ks h. rw (zip_end (Held names c.args.forms.now) c.args.keys.now ks h) (c.in_ok-test.ensures.made names (given nil) refl);
}

pub keys-preserved : goal.keys-preserved
keys-preserved c =
    let below : c.keys.at - 1 < length c.args.keys.now = omega arith in
    let at : c.keys.at ≡ c.keys.at - 1 + 1 = omega arith in
    record {
      within = omega arith;
      grown = extends_trans c.keys.invariant.grown c.in_ok-test-2.ensures.grown;
      test = λ names ks h.
          let d = zip_drop (Held names c.args.forms.now) c.args.keys.now ks (c.keys.at - 1) c.keys.at 0 below at h in
          rw d.1 (c.in_ok-test-2.ensures.made names d.0 (drop c.keys.at ks) (held_grows c.keys.invariant.grown names _ d.0 d.2) (c.keys.invariant.test names ks h));
    }

pub returns-clause-made : goal.returns-clause-made
returns-clause-made c names ks h = let zero_ : c.keys.at ≡ 0 = omega arith in rw zero_ at (c.keys.invariant.test names ks h)
