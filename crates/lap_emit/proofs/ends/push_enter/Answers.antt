use Rattle.std.proofs.Common.{◌∙◌, refl, ap, ◌++◌}
use Rattle.lap_items.specs.Ends.{code_items}
use Rattle.lap_emit.proofs.Writing.{adds_enter, arguments_for, enter_is_parallel}
use Rattle.lap_emit.proofs.ends.push_enter.Goals as goal

pub push_arguments-requires : goal.push_arguments-requires
push_arguments-requires c = enter_is_parallel c.args.placed.now c.args.code c.args.args.now c.as_slice-homes.result.now c.as_slice-homes.ensures.value c.requires

pub returns : goal.returns
returns c =
    adds_enter c.args.placed.now c.args.code c.args.args.now c.args.items.now.items c.push_code.new.items.items c.push_arguments.new.items.items c.push_entering.new.items.items c.push_entering.result
    (c.in_ok-push_code.ensures ∙ ap (λ h. c.args.items.now.items ++ code_items h c.args.code) c.as_slice-homes.ensures.value)
    (arguments_for _ _ _ _ _ _ _ c.as_slice-homes.ensures.value refl c.in_ok-push_arguments.ensures) c.push_entering.ensures
