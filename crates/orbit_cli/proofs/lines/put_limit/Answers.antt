use Rattle.orbit_cli.proofs.lines.put_limit.Goals as goal

pub returns : goal.returns
returns g c = rw (← c.format.ensures.text, ← c.as_bytes-steps.ensures.value) c.put_pieces.ensures
