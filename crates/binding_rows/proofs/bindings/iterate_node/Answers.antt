use Rattle.std.proofs.Common.{◌∷◌, map, sym}
use Rattle.t_forms.specs.declared.arena.New.TheVariants as new
use Rattle.t_forms.specs.Data.{listed, a_variable}
use Rattle.t_rows.specs.Rows.{name_datum, lambda_form}
use Rattle.t_rows.proofs.Growth.{extends_trans, held_grows}
use Rattle.t_rows.proofs.BindingLemmas.{bindings_grow}
use Rattle.binding_rows.proofs.bindings.iterate_node.Goals as goal

pub returns-clause-grown : goal.returns-clause-grown
returns-clause-grown c = extends_trans c.in_ok-procedure.ensures.grown c.in_ok-call.ensures.grown

pub returns-clause-row : goal.returns-clause-row
returns-clause-row c names vars f xs ds b z r =
    rw (sym b.0)
    (c.in_ok-row.ensures names vars f.name (lambda_form c.args.span (listed c.args.span (map (λ x. name_datum x.binds) xs)) ds)
    (listed c.args.span (a_variable c.args.name.at new.Start ∷ map (λ x. x.value) xs)) b.1
    (held_grows c.in_ok-call.ensures.grown names c.in_ok-procedure.procedure
    (lambda_form c.args.span (listed c.args.span (map (λ x. name_datum x.binds) xs)) ds) (c.in_ok-procedure.ensures.made names xs ds z r))
    (c.in_ok-call.ensures.made names xs (bindings_grow c.in_ok-procedure.ensures.grown names c.args.bindings.now xs z)))
