use Rattle.tagged_words.proofs.Fixnums.{eq_fixnums, lt_fixnums, le_fixnums, below_length}
use Rattle.tagged_words.proofs.laws.fixnums_compare_alike.Goals as goal

pub returns-clause-signed : goal.returns-clause-signed
returns-clause-signed c = λ x y h k. record { eq = eq_fixnums x y h k; lt = lt_fixnums x y h k; le = le_fixnums x y h k }

pub returns-clause-indices : goal.returns-clause-indices
returns-clause-indices c = below_length
