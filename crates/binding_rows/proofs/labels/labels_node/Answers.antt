use Rattle.std.proofs.Common.{◌∷◌, refl}
use Rattle.t_forms.specs.Data.{names}
use Rattle.t_rows.specs.Rows.{Binding, binders, body}
use Rattle.t_rows.proofs.PartLemmas.{last_same}
use Rattle.binding_rows.proofs.ProcedureLemmas.{procedures_grow}
use Rattle.binding_rows.proofs.labels.labels_node.Goals as goal

pub returns-clause-row : goal.returns-clause-row
returns-clause-row c vars x xs d ds apart z h =
    let texts = c.args.texts.now in
    let ns = c.in_ok-names.ensures texts c.args.forms.now (x ∷ xs) z in
    let parts =
    c.in_ok-parts.ensures texts c.body.new.forms (binders (x ∷ xs)) (x ∷ xs) (rw c.as_slice-2.ensures.value ns)
    (procedures_grow c.in_ok-form.ensures.grown texts c.args.procedures.now (x ∷ xs) z) in (
      _,
      _,
      _,
      refl,
      refl,
      c.in_ok-refusals.ensures texts (binders (x ∷ xs)) apart (rw c.as_slice.ensures.value ns),
      rw c.in_ok-push.ensures.items
          (last_same (λ (y : Binding). y.value) texts c.body.new.forms (names (binders (x ∷ xs))) c.in_ok-parts.parts.items _ x xs (body c.args.span (d ∷ ds)) parts
          (c.in_ok-form.ensures.made texts d ds h)),
    )
