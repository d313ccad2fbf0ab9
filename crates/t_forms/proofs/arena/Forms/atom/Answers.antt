use Rattle.t_forms.proofs.NewCells.{atom_held}
use Rattle.t_forms.proofs.arena.Forms.atom.Goals as goal

pub returns-in_err-key-clause-grown : goal.returns-in_err-key-clause-grown
returns-in_err-key-clause-grown c = c.in_err-key.ensures.grown

pub returns-clause-held : goal.returns-clause-held
returns-clause-held c names a is =
    atom_held names c.args.self.now c.add.new.self c.in_ok-key.key c.args.span c.args.form a c.in_ok-key.ensures.place c.in_ok-key.ensures.cells is
