use Rattle.t_forms.specs.Held.{vars_of}
use Rattle.form_rows.proofs.calls.call_row.Goals as goal

pub returns-in-Builtin-clause-row : goal.returns-in-Builtin-clause-row
returns-in-Builtin-clause-row c around f ds apart h r s =
    rw (c.in-Builtin.ensures f around apart h s c.args.span ds) (c.builtin_call.ensures.row c.args.names.now (vars_of c.args.scope.now) f ds h r)

pub returns-in-Listing-clause-row : goal.returns-in-Listing-clause-row
returns-in-Listing-clause-row c around f ds apart h r s =
    rw (c.in-Listing.ensures f around apart h s c.args.span ds) (c.list_row.ensures.row c.args.names.now (vars_of c.args.scope.now) ds r)

pub returns-in-Other-clause-row : goal.returns-in-Other-clause-row
returns-in-Other-clause-row c around f ds apart h r s =
    rw (c.in-Other.ensures f around apart h s c.args.span ds) (c.call_node.ensures.row c.args.names.now (vars_of c.args.scope.now) f ds h r)
