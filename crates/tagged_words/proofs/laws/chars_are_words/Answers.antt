use Rattle.tagged_words.proofs.Chars.{low_byte, char_byte, other_byte, eq_chars, lt_chars, char_number, char_bits, byte_bits, char_of_bits, below_ascii}
use Rattle.tagged_words.proofs.laws.chars_are_words.Goals as goal

pub returns-clause-byte : goal.returns-clause-byte
returns-clause-byte c = (low_byte, char_byte, other_byte)

pub returns-clause-order : goal.returns-clause-order
returns-clause-order c = λ x y h k. record { eq = eq_chars x y; lt = lt_chars x y h k }

pub returns-clause-converts : goal.returns-clause-converts
returns-clause-converts c = λ x h. record { number = char_number x h; from_number = char_bits x h; from_byte = byte_bits x h; tagged = char_of_bits x h }

pub returns-clause-ascii : goal.returns-clause-ascii
returns-clause-ascii c = below_ascii
