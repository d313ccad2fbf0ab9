use Rattle.select_rows.proofs.Checks.{fixnum_performs, pair_performs, char_performs, object_performs, index_performs}
use Rattle.select_rows.proofs.laws.operands_are_checked.Goals as goal

pub returns-clause-fixnums : goal.returns-clause-fixnums
returns-clause-fixnums c = fixnum_performs

pub returns-clause-pairs : goal.returns-clause-pairs
returns-clause-pairs c = pair_performs

pub returns-clause-chars : goal.returns-clause-chars
returns-clause-chars c = char_performs

pub returns-clause-objects : goal.returns-clause-objects
returns-clause-objects c = object_performs

pub returns-clause-places : goal.returns-clause-places
returns-clause-places c = λ words sizes l e t s start to rest x items. index_performs words sizes l e t s start to rest x items
