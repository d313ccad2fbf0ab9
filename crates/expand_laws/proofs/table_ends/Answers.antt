use Rattle.expand_laws.proofs.TableEnds.{table_ends}
use Rattle.expand_laws.proofs.table_ends.Goals as goal

pub returns : goal.returns
returns c scope t = table_ends scope t
