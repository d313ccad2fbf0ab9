use Rattle.std.proofs.Common.{◌∷◌, [], ◌++◌, ◌∙◌, ap, sym, append_assoc}
use Rattle.t_forms.specs.Held.{Held}
use Rattle.t_rows.proofs.ZipLemmas.{zip_push}
use Rattle.t_rows.proofs.lists.keys_of.Goals as goal

pub items-preserved : goal.items-preserved
items-preserved c names ds h =
    let inv = c.items.invariant names ds h in
    let e = c.in-Some.ensures names inv.1 inv.4 in (
      inv.0 ++ e.0 ∷ [],
      e.1,
      inv.2 ∙ ap (λ xs. inv.0 ++ xs) e.2 ∙ sym (append_assoc inv.0 (e.0 ∷ []) e.1),
      rw c.in_ok-push.ensures.items (zip_push (Held names c.args.forms.now) c.items.keys.items inv.0 c.in-Some.head e.0 inv.3 e.3),
      e.4,
    )
