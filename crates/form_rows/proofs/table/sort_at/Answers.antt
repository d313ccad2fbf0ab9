use Rattle.std.proofs.Common.{sym}
use Rattle.t_rows.proofs.ListLemmas.{nowhere}
use Rattle.form_rows.proofs.SortLemmas.{sort_is}
use Rattle.form_rows.proofs.table.sort_at.Goals as goal

pub returns-in-Some : goal.returns-in-Some
returns-in-Some c names d h =
    rw c.sort_of.ensures (sort_is names c.args.forms.now c.args.key c.in-Some.cell.now d (sym c.in-Some.ensures) h)

pub returns-in-None : goal.returns-in-None
returns-in-None c names d h = absurd (nowhere names c.args.forms.now c.args.key d c.in-None.ensures h)
