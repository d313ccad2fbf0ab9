use Rattle.orbit_cli.proofs.lines.put_full.Goals as goal

pub returns : goal.returns
returns g c = rw (← c.region.ensures, ← c.format.ensures.text, ← c.as_bytes-asked.ensures.value, ← c.format-2.ensures.text, ← c.as_bytes-left.ensures.value) c.put_pieces.ensures
