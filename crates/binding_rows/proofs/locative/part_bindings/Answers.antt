use Rattle.std.proofs.Common.{◌<◌, [], ◌∷◌, length, get_or, take, add-one, refl}
use Rattle.std.proofs.Math.Seq.{take-suc}
use Rattle.std.proofs.lemmas.List.{take_all}
use Rattle.t_forms.specs.declared.arena.New.TheVariants as new
use Rattle.t_forms.specs.Data.{a_variable, listed}
use Rattle.t_rows.specs.Rows.{part_bindings}
use Rattle.t_rows.proofs.Growth.{extends_same, extends_trans, held_grows}
use Rattle.binding_rows.proofs.LocativeLemmas.{no_parts, one_part, bindings_last}
use Rattle.binding_rows.proofs.locative.part_bindings.Goals as goal

pub keys-init : goal.keys-init
keys-init c = record {
  grown = extends_same;
  made = λ names. rw c.new-bindings.ensures.items (no_parts names c.args.forms.now (part_bindings c.args.span) c.args.from refl);
}

pub keys-preserved : goal.keys-preserved
keys-preserved c =
    let below : c.keys.key-index < length c.args.keys.now = c.keys-test.true in
    record {
      grown = extends_trans c.keys.invariant.grown c.in_ok-binding.ensures.grown;
      made = λ names.
          rw (add-one c.keys.key-index, take-suc c.args.keys.now c.keys.key-index 0 below, c.in_ok-push.ensures.items)
          (one_part names c.args.forms.now c.keys.forms c.part_binding.new.forms (part_bindings c.args.span) (λ n d. listed c.args.span (a_variable c.args.span (new.Part n) ∷ d ∷ [])) c.args.from c.keys.number
          (take c.keys.key-index c.args.keys.now) c.keys.bindings.items (get_or c.args.keys.now c.keys.key-index 0) c.in_ok-binding.binding (bindings_last c.args.span c.args.from)
          c.in_ok-binding.ensures.grown (c.keys.invariant.made names) (λ d h. c.in_ok-binding.ensures.made names d (held_grows c.keys.invariant.grown names _ d h)));
    }

pub returns-clause-made : goal.returns-clause-made
returns-clause-made c names ds h =
    (rw (take_all c.keys.key-index c.args.keys.now c.keys-test.false) at (c.keys.invariant.made names)).are ds h
