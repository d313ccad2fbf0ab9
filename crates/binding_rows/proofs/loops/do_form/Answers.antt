use Rattle.std.proofs.Common.{[], ◌∷◌, map}
use Rattle.t_forms.specs.Data.{listed}
use Rattle.t_rows.specs.Rows.{result_of}
use Rattle.binding_rows.specs.Steps.{turn_body}
use Rattle.t_rows.proofs.Growth.{extends_trans, held_grows, items_grow}
use Rattle.binding_rows.proofs.StepLemmas.{steps_grow}
use Rattle.binding_rows.proofs.loops.do_form.Goals as goal

pub returns-clause-grown : goal.returns-clause-grown
returns-clause-grown c =
    extends_trans c.in_ok-bindings.ensures.grown
    (extends_trans c.in_ok-list.ensures.grown (extends_trans c.in_ok-turns.ensures.grown (extends_trans c.in_ok-answer.ensures.grown c.in_ok-row.ensures.grown)))

pub returns-clause-row : goal.returns-clause-row
returns-clause-row c names vars xs t rs ds z h r b =
    let s = c.args.span in
    let bindings = listed s (map (λ x. listed s (x.name ∷ x.first ∷ [])) xs) in
    let g1 = extends_trans c.in_ok-bindings.ensures.grown c.in_ok-list.ensures.grown in
    let g2 = c.in_ok-turns.ensures.grown in
    let g3 = c.in_ok-answer.ensures.grown in
    let g = extends_trans g1 g2 in
    c.in_ok-row.ensures.row names vars (bindings ∷ t ∷ result_of s rs ∷ turn_body s ds xs ∷ []) [] (
      held_grows (extends_trans g2 g3) names c.in_ok-list.list bindings
          (c.in_ok-list.ensures.made names (map (λ x. listed s (x.name ∷ x.first ∷ [])) xs) (rw c.as_slice.ensures.value (c.in_ok-bindings.ensures.made names xs z))),
      (
        held_grows (extends_trans g g3) names c.args.test t h,
        (
          c.in_ok-answer.ensures.made names rs (items_grow g names c.args.results rs r),
          (
            held_grows g3 names c.in_ok-turns.turns (turn_body s ds xs)
                (c.in_ok-turns.ensures.made names xs ds (steps_grow g1 names c.args.steps.now xs z) (items_grow g1 names c.args.bs ds b)),
            tt,
          ),
        ),
      ),
    ) tt
