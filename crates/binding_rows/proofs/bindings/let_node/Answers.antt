use Rattle.std.proofs.Common.{[], ◌∷◌, map, refl}
use Rattle.t_forms.specs.Data.{names}
use Rattle.t_rows.specs.Given.{IsPart}
use Rattle.t_rows.specs.Rows.{plain, inside, binders, body}
use Rattle.t_rows.proofs.ZipLemmas.{zip_push}
use Rattle.t_rows.proofs.PartLemmas.{zip_parts}
use Rattle.t_rows.proofs.BindingLemmas.{bindings_grow}
use Rattle.binding_rows.proofs.bindings.let_node.Goals as goal

pub returns-clause-row : goal.returns-clause-row
returns-clause-row c vars x xs d ds apart z h =
    let texts = c.args.texts.now in
    let ns = c.in_ok-names.ensures texts c.args.forms.now (x ∷ xs) z in
    let parts =
    zip_push (IsPart texts c.body.new.forms) c.in_ok-parts.parts.items (map (λ y. plain y.value) (x ∷ xs)) _ (inside (names (binders (x ∷ xs))) (body c.args.span (d ∷ ds)))
    (c.in_ok-parts.ensures texts (x ∷ xs) (bindings_grow c.in_ok-form.ensures.grown texts c.args.bindings.now (x ∷ xs) z))
    (c.in_ok-binds.ensures texts (binders (x ∷ xs)) (rw c.as_slice-2.ensures.value ns), c.in_ok-form.ensures.made texts d ds h) in (
      _,
      _,
      _,
      refl,
      refl,
      c.in_ok-refusals.ensures texts (binders (x ∷ xs)) apart (rw c.as_slice.ensures.value ns),
      rw c.in_ok-push.ensures.items (zip_parts texts c.body.new.forms [] _ _ parts),
    )
