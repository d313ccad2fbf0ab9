use Rattle.tagged_words.proofs.Fixnums.{fixnum_below, fixnum_tag, signed_fixnum}
use Rattle.tagged_words.proofs.laws.fixnums_have_words.Goals as goal

pub returns : goal.returns
returns c = λ x h. record { below = fixnum_below x h; tag = fixnum_tag x h; signed = signed_fixnum x h }
