use Rattle.std.specs.Prelude.{int_div}
use Rattle.tagged_words.proofs.Fixnums.{sum, difference, number_of_fixnum, product}
use Rattle.tagged_words.proofs.Quotients.{quotient, quotient_fits, quotient_as_fixnum, remainder_word, remainder_in_range}
use Rattle.tagged_words.proofs.laws.fixnums_compute_alike.Goals as goal

pub returns-clause-sums : goal.returns-clause-sums
returns-clause-sums c = λ x y h k. record { sum = sum x y h k; difference = difference x y h k }

pub returns-clause-products : goal.returns-clause-products
returns-clause-products c = λ x y h k. record { number = number_of_fixnum x h; product = product x y h k }

pub returns-clause-quotients : goal.returns-clause-quotients
returns-clause-quotients c = λ x y h k e. record {
  quotient = quotient x y h k e;
  as_fixnum = quotient_as_fixnum (int_div x y) (quotient_fits x y h);
  remainder = remainder_word x y h k e;
  remainder_fits = remainder_in_range x y h;
}
