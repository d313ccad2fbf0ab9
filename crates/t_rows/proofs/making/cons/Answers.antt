use Rattle.t_rows.proofs.Growth.{cons_made, list_made}
use Rattle.t_rows.proofs.making.cons.Goals as goal

pub returns-clause-items : goal.returns-clause-items
returns-clause-items c names d ds h r =
    cons_made c.args.forms.now c.add.new.self names c.args.span c.in_ok-key.key c.args.head c.args.tail c.in_ok-behind.behind _ d ds c.in_ok-key.ensures.cells c.in_ok-key.ensures.place
    (c.in_ok-behind.ensures names ds r) c.new-count.ensures h r

pub returns-clause-list : goal.returns-clause-list
returns-clause-list c names d ds h r =
    list_made c.args.forms.now c.add.new.self names c.args.span c.in_ok-key.key c.args.head c.args.tail c.in_ok-behind.behind _ d ds c.in_ok-key.ensures.cells c.in_ok-key.ensures.place
    (c.in_ok-behind.ensures names ds r) c.new-count.ensures h r
