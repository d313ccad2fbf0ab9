use Rattle.std.proofs.Common.{sym}
use Rattle.t_forms.specs.Held.{vars_of}
use Rattle.form_rows.proofs.table.form_row.Goals as goal

pub returns-in-None-clause-row : goal.returns-in-None-clause-row
returns-in-None-clause-row c d around apart h s = rw (c.in-None.ensures c.args.names.now d h) (c.no_row.ensures.row c.args.names.now (vars_of c.args.scope.now))

pub returns-in-None-split-clause-row : goal.returns-in-None-split-clause-row
returns-in-None-split-clause-row c d around apart h s =
    let i = c.in-Some.ensures c.args.names.now d h in
    rw (i.1, c.in-None-split.ensures c.args.names.now i.0 i.2) (c.no_row-in-None-split.ensures.row c.args.names.now (vars_of c.args.scope.now))

pub returns-in-Some-word_of-clause-row : goal.returns-in-Some-word_of-clause-row
returns-in-Some-word_of-clause-row c d around apart h s =
    let i = c.in-Some.ensures c.args.names.now d h in
    let f = c.in-Some-split.ensures c.args.names.now i.0 i.2 in
    rw (i.1, f.2, sym (c.in-Some-word_of.ensures c.args.names.now f.0 f.3)) (c.word_row.ensures.row around f.1 apart f.4 s)

pub returns-in-None-word_of-clause-row : goal.returns-in-None-word_of-clause-row
returns-in-None-word_of-clause-row c d around apart h s =
    let i = c.in-Some.ensures c.args.names.now d h in
    let f = c.in-Some-split.ensures c.args.names.now i.0 i.2 in
    rw (i.1, f.2, sym (c.in-None-word_of.ensures c.args.names.now f.0 f.3)) (c.call_row.ensures.row around f.0 f.1 apart f.3 f.4 s)
