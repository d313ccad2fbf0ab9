use Rattle.std.proofs.Common.{[], refl}
use Rattle.t_forms.specs.Held.{vars_of}
use Rattle.t_forms.specs.Names.{meaning}
use Rattle.t_rows.specs.Rows.{constant, builtin_value, op_value}
use Rattle.form_rows.proofs.SortLemmas.{row_of_pair}
use Rattle.form_rows.proofs.table.row_of.Goals as goal

pub returns-in-Pair-clause-row : goal.returns-in-Pair-clause-row
returns-in-Pair-clause-row c d around apart h s =
    let p = c.in-Pair.ensures c.args.names.now d h in
    rw (row_of_pair around d p.0 p.1 p.2 p.3) (rw (c.span_of-span.ensures c.args.names.now d h) at (c.form_row.ensures.row d around apart h s))

pub returns-in-Name-clause-row : goal.returns-in-Name-clause-row
returns-in-Name-clause-row c d around apart h s =
    let n = c.in-Name.ensures c.args.names.now d h in
    rw (n.1 around) (rw (c.span_of-span.ensures c.args.names.now d h) at (c.name_row.ensures.row c.args.names.now (vars_of c.args.scope.now) (meaning around n.0) (c.meaning_of.ensures n.0 around apart n.2 s)))

pub returns-in-Reserved-clause-row : goal.returns-in-Reserved-clause-row
returns-in-Reserved-clause-row c d around apart h s =
    rw (c.in-Reserved.ensures c.args.names.now d h around) (rw (c.span_of-span.ensures c.args.names.now d h) at (c.no_row.ensures.row c.args.names.now (vars_of c.args.scope.now)))

pub returns-in-Builtin-clause-row : goal.returns-in-Builtin-clause-row
returns-in-Builtin-clause-row c d around apart h s =
    rw (c.in-Builtin.ensures c.args.names.now d h around) (c.plain_node.ensures.row c.args.names.now (vars_of c.args.scope.now) (builtin_value c.in-Builtin.p) [] refl tt)

pub returns-in-Operation-clause-row : goal.returns-in-Operation-clause-row
returns-in-Operation-clause-row c d around apart h s =
    rw (c.in-Operation.ensures c.args.names.now d h around)
    (c.plain_node-in-Operation.ensures.row c.args.names.now (vars_of c.args.scope.now) (op_value c.in-Operation.place) [] refl tt)

pub returns-in-Constant-clause-row : goal.returns-in-Constant-clause-row
returns-in-Constant-clause-row c d around apart h s =
    rw (c.in-Constant.ensures c.args.names.now d h around)
    (c.plain_node-in-Constant.ensures.row c.args.names.now (vars_of c.args.scope.now) (constant d) [] (_, refl, h) tt)
