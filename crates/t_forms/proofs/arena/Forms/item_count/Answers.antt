use Rattle.std.proofs.Common.{sym, ◌∙◌}
use Rattle.t_forms.proofs.Lists.{held_continues, cell_count, no_cell}
use Rattle.t_forms.proofs.arena.Forms.item_count.Goals as goal

pub returns-in-Some-clause-held : goal.returns-in-Some-clause-held
returns-in-Some-clause-held c names d h =
    c.count_in.ensures ∙ cell_count names c.args.self.now c.args.key d c.in-Some.cell.now (sym c.in-Some.ensures) (held_continues names c.args.self.now c.args.key d h)

pub returns-in-Some-clause-continued : goal.returns-in-Some-clause-continued
returns-in-Some-clause-continued c names d h = c.count_in.ensures ∙ cell_count names c.args.self.now c.args.key d c.in-Some.cell.now (sym c.in-Some.ensures) h

pub returns-in-None-clause-held : goal.returns-in-None-clause-held
returns-in-None-clause-held c names d h = absurd (no_cell names c.args.self.now c.args.key d (sym c.in-None.ensures) (held_continues names c.args.self.now c.args.key d h))

pub returns-in-None-clause-continued : goal.returns-in-None-clause-continued
returns-in-None-clause-continued c names d h = absurd (no_cell names c.args.self.now c.args.key d (sym c.in-None.ensures) h)
