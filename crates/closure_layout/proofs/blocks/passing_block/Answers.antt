use Rattle.std.proofs.Common.{refl, ap, arith, ◌∙◌, ◌++◌, ◌∷◌, []}
use Rattle.cps_ir.specs.declared.args.Arg.TheVariants as Argument
use Rattle.frame_ir.specs.declared.forms.FrameEnd.TheVariants as Last
use Rattle.layout_tables.proofs.Growing.{grows_same}
use Rattle.layout_tables.proofs.Adding.{adds_none, adds_variable}
use Rattle.closure_layout.proofs.Walking.{block_adds}
use Rattle.closure_layout.proofs.blocks.passing_block.Goals as goal

pub returns : goal.returns
returns c =
    let new = c.variable.new.self in
    let value = c.in_ok-value.value in
    let takes = c.from_vec.ensures ∙ c.in_ok-push.ensures.items ∙ ap (λ zs. zs ++ value ∷ []) c.new-params.ensures.items in
    record {
      grows = grows_same c.args.tables.now c.args.work.now new c.variable.ensures.requests c.variable.ensures.templates (let e = c.in_ok-value.ensures.next in omega (arith, e));
      adds = block_adds c.args.work.now new new (record { params = c.from_vec.result; ops = c.new.result; last = Last.Return (Argument.Var value) }) (value ∷ []) [] takes c.new.ensures.items (adds_variable c.args.work.now new value.0 c.variable.ensures.requests c.in_ok-value.ensures.variable c.in_ok-value.ensures.next) (adds_none new);
      fits = λ ps ts f g. record { value = value; takes = takes; ops = c.new.ensures.items; goes = refl };
    }
