use Rattle.std.proofs.Common.{[], ◌∷◌, ◌∙◌, ap, refl}
use Rattle.t_forms.specs.Names.{a_global}
use Rattle.t_rows.specs.Rows.{set_local, set_global}
use Rattle.form_rows.proofs.set.set_name.Goals as goal

pub returns-in-Local-clause-row : goal.returns-in-Local-clause-row
returns-in-Local-clause-row c names vars m e h k =
    let l = rw c.in-Local.is at h in
    rw l.1 (c.plain_node.ensures.row names vars (set_local l.0) (e ∷ []) (_, refl, l.2) (k, tt))

pub returns-then-assigned-clause-row : goal.returns-then-assigned-clause-row
returns-then-assigned-clause-row c names vars m e h k =
    let l = rw c.in-Global.is at h in
    rw (l ∙ ap (λ b. a_global c.in-Global.place b) c.if-assigned.true)
    (c.plain_node-then-assigned.ensures.row names vars (set_global c.in-Global.place) (e ∷ []) refl (k, tt))

pub returns-else-assigned-clause-row : goal.returns-else-assigned-clause-row
returns-else-assigned-clause-row c names vars m e h k =
    let l = rw c.in-Global.is at h in
    rw (l ∙ ap (λ b. a_global c.in-Global.place b) c.if-assigned.false) (c.refused_node.ensures.row names vars (e ∷ []) (k, tt))

pub returns-in-Nothing-clause-row : goal.returns-in-Nothing-clause-row
returns-in-Nothing-clause-row c names vars m e h k = rw (rw c.in-Nothing.is at h) (c.refused_node-in-Nothing.ensures.row names vars (e ∷ []) (k, tt))

pub returns-in-Operation-clause-row : goal.returns-in-Operation-clause-row
returns-in-Operation-clause-row c names vars m e h k = rw (rw c.in-Operation.is at h) (c.refused_node-in-Operation.ensures.row names vars (e ∷ []) (k, tt))

pub returns-in-Builtin-clause-row : goal.returns-in-Builtin-clause-row
returns-in-Builtin-clause-row c names vars m e h k = rw (rw c.in-Builtin.is at h) (c.refused_node-in-Builtin.ensures.row names vars (e ∷ []) (k, tt))

pub returns-in-BuiltinOperation-clause-row : goal.returns-in-BuiltinOperation-clause-row
returns-in-BuiltinOperation-clause-row c names vars m e h k = rw (rw c.in-BuiltinOperation.is at h) (c.refused_node-in-BuiltinOperation.ensures.row names vars (e ∷ []) (k, tt))

pub returns-in-Truth-clause-row : goal.returns-in-Truth-clause-row
returns-in-Truth-clause-row c names vars m e h k = rw (rw c.in-Truth.is at h) (c.refused_node-in-Truth.ensures.row names vars (e ∷ []) (k, tt))

pub returns-in-Listing-clause-row : goal.returns-in-Listing-clause-row
returns-in-Listing-clause-row c names vars m e h k = rw (rw c.in-Listing.is at h) (c.refused_node-in-Listing.ensures.row names vars (e ∷ []) (k, tt))
