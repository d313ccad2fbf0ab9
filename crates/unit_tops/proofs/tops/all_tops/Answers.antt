use Rattle.std.proofs.Common.{◌≤◌, List, length, map, arith, subst}
use Rattle.std.proofs.lemmas.List.{take_all}
use Rattle.t_forms.specs.Data.{Datum}
use Rattle.t_forms.proofs.Keeping.{extends_trans}
use Rattle.unit_tops.specs.Tops.{AreTops}
use Rattle.expansion.specs.Units.{top_of}
use Rattle.unit_tops.proofs.TopLemmas.{next_top, as_many_held}
use Rattle.unit_tops.proofs.tops.all_tops.Goals as goal

pub keys-preserved : goal.keys-preserved
keys-preserved c = record {
  grown = extends_trans c.keys.invariant.grown c.in_ok-top.ensures.grown;
  tops = λ names ds held.
      rw c.in_ok-push.ensures.items
      (next_top names c.args.forms.now c.keys.forms c.top_of.new.forms c.args.keys.now ds c.keys.key-index c.keys.tops.items c.in_ok-top.top
      c.keys.invariant.grown c.in_ok-top.ensures.grown held c.keys-test.true (c.keys.invariant.tops names ds held)
      (λ d h. c.in_ok-top.ensures.top names d h));
}

pub returns-clause-tops : goal.returns-clause-tops
returns-clause-tops c names ds held =
    let e = as_many_held names c.args.forms.now c.args.keys.now ds held in
    let many : length ds ≤ c.keys.key-index = omega (arith, c.keys-test.false, e) in
    subst (λ (l : List Datum). AreTops names c.keys.forms c.keys.tops.items (map top_of l)) (take_all c.keys.key-index ds many) (c.keys.invariant.tops names ds held)
