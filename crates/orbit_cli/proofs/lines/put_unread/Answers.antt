use Rattle.orbit_cli.proofs.lines.put_unread.Goals as goal

pub returns : goal.returns
returns g c = rw (← c.as_bytes.ensures.value) c.put_pieces.ensures
