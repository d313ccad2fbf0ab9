use Rattle.orbit_cli.proofs.lines.put_stop.Goals as goal

pub returns : goal.returns
returns g c = rw (← c.name_of_stop.ensures, ← c.digits_of.ensures) c.put_pieces.ensures
