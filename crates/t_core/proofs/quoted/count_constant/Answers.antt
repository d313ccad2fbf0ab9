use Rattle.std.proofs.Common.{sym}
use Rattle.t_core.proofs.DatumLemmas.{datum_atom}
use Rattle.t_core.proofs.quoted.count_constant.Goals as goal

pub returns-in-None : goal.returns-in-None
returns-in-None c = sym (datum_atom c.args.pairs.now c.args.c (sym c.in-None.ensures))
