use Rattle.std.proofs.Common.{◌<◌, length, get_or, take, add-one}
use Rattle.std.proofs.Math.Seq.{take-suc}
use Rattle.std.proofs.lemmas.List.{take_all}
use Rattle.t_forms.specs.Held.{Held}
use Rattle.binding_rows.specs.Procedures.{IsProcedure, labels_item_of}
use Rattle.t_rows.proofs.Growth.{extends_same, extends_trans, held_grows}
use Rattle.t_rows.proofs.AllLemmas.{all_none_yet, all_collected, all_stop}
use Rattle.binding_rows.proofs.ProcedureLemmas.{no_procedure, some_procedure, all_grow}
use Rattle.binding_rows.proofs.labels.all_items.Goals as goal

pub keys-init : goal.keys-init
keys-init c = record {
  grown = extends_same;
  found = λ names ds h.
      rw c.new-procedures.ensures.items
      (all_none_yet (Held names c.args.forms.now) (IsProcedure names c.args.forms.now) (labels_item_of c.args.span) ds h);
}

pub keys-preserved : goal.keys-preserved
keys-preserved c =
    let below : c.keys.key-index < length c.args.keys.now = c.keys-test.true in
    record {
      grown = extends_trans c.keys.invariant.grown c.in_ok-found.ensures.grown;
      found = λ names ds h.
          rw c.in_ok-push-in-Some.ensures.items
          (all_collected (Held names c.args.forms.now) (IsProcedure names c.labels_item_of.new.forms) (labels_item_of c.args.span)
          (take c.keys.key-index c.args.keys.now) (get_or c.args.keys.now c.keys.key-index 0) c.keys.procedures.items _
          (λ xs k. all_grow c.in_ok-found.ensures.grown names c.args.span c.keys.procedures.items xs (c.keys.invariant.found names xs k))
          (λ d k.
          some_procedure names c.labels_item_of.new.forms c.in-Some.procedure (labels_item_of c.args.span d)
          (rw c.in-Some.is at (c.in_ok-found.ensures.made names d (held_grows c.keys.invariant.grown names _ d k))))
          ds
          (rw (add-one, take-suc c.args.keys.now c.keys.key-index 0 below) at h));
    }

pub returns-in-None-clause-made : goal.returns-in-None-clause-made
returns-in-None-clause-made c names ds h =
    all_stop (Held names c.args.forms.now) (labels_item_of c.args.span) c.args.keys.now ds c.keys.key-index 0 c.keys-test.true h
    (λ d k.
    no_procedure names c.labels_item_of.new.forms (labels_item_of c.args.span d)
    (rw c.in-None.is at (c.in_ok-found.ensures.made names d (held_grows c.keys.invariant.grown names _ d k))))

pub returns-clause-made : goal.returns-clause-made
returns-clause-made c names ds h =
    let s = c.keys.invariant.found names ds (rw (take_all c.keys.key-index c.args.keys.now c.keys-test.false) h) in
    (s.found, s.are, s.each)
