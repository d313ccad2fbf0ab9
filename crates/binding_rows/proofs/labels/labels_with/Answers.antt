use Rattle.std.proofs.Common.{◌∷◌, map}
use Rattle.t_forms.specs.Data.{all_of}
use Rattle.binding_rows.specs.Procedures.{labels_item_of}
use Rattle.t_rows.proofs.Growth.{items_grow}
use Rattle.binding_rows.proofs.labels.labels_with.Goals as goal

pub returns-clause-row : goal.returns-clause-row
returns-clause-row c vars is d ds apart i h =
    let texts = c.args.texts.now in
    c.labels_found.ensures.row vars (all_of (map (labels_item_of c.args.span) is)) d ds apart
    (c.in_ok-found.ensures.made texts is (rw c.as_slice.ensures.value (c.in_ok-keys.ensures texts is i)))
    (items_grow c.in_ok-found.ensures.grown texts c.args.bs (d ∷ ds) h)
