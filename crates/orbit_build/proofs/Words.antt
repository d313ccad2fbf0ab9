-- The words of fixnums.
use Rattle.std.proofs.Common.{◌≡◌, ◌^◌, ◌<◌, true, false, [], Some, arith}
use Rattle.std.specs.Prelude.{ℤ, pos, negsuc, ◌+ℤ◌}
use Rattle.std.proofs.lemmas.Int.{ints}
use Rattle.std.proofs.lemmas.Bool.Decides.{nat_tests}
use Rattle.t_base.specs.declared.faults.Face.TheVariants.{Fix}
use Rattle.m68020_step.specs.Word.{sum_of, signed, overflows}
use Rattle.word_faces.specs.Faces.{Reader, face_of}
use Rattle.t_prim.specs.Operands.{in_range}
use Rattle.orbit_build.specs.Code.{word}

pub word_fits : (z : ℤ) → in_range z ≡ true → word z < 2 ^ 32
word_fits (pos n) f = grind (arith, nat_tests)
word_fits (negsuc n) f = grind (arith, nat_tests)

pub face_word : (read : Reader) (z : ℤ) → in_range z ≡ true → face_of read [] (word z) ≡ Some (Fix z)
face_word read (pos n) f = grind (arith, nat_tests, ints)
face_word read (negsuc n) f = grind (arith, nat_tests, ints)

-- a sum that is a fixnum does not overflow, and is the word of the sum
pub sum_fits : (a b : ℤ) → in_range a ≡ true → in_range b ≡ true → in_range (a +ℤ b) ≡ true → overflows (signed (word b) +ℤ signed (word a)) ≡ false
sum_fits (pos a) (pos b) f g h = grind (arith, nat_tests, ints)
sum_fits (pos a) (negsuc b) f g h = grind (arith, nat_tests, ints)
sum_fits (negsuc a) (pos b) f g h = grind (arith, nat_tests, ints)
sum_fits (negsuc a) (negsuc b) f g h = grind (arith, nat_tests, ints)

pub sum_overflows : (a b : ℤ) → in_range a ≡ true → in_range b ≡ true → in_range (a +ℤ b) ≡ false → overflows (signed (word b) +ℤ signed (word a)) ≡ true
sum_overflows (pos a) (pos b) f g h = grind (arith, nat_tests, ints)
sum_overflows (pos a) (negsuc b) f g h = grind (arith, nat_tests, ints)
sum_overflows (negsuc a) (pos b) f g h = grind (arith, nat_tests, ints)
sum_overflows (negsuc a) (negsuc b) f g h = grind (arith, nat_tests, ints)

pub sum_word : (a b : ℤ) → in_range a ≡ true → in_range b ≡ true → in_range (a +ℤ b) ≡ true → sum_of (word b) (word a) ≡ word (a +ℤ b)
sum_word (pos a) (pos b) f g h = grind (arith, nat_tests, ints)
sum_word (pos a) (negsuc b) f g h = grind (arith, nat_tests, ints)
sum_word (negsuc a) (pos b) f g h = grind (arith, nat_tests, ints)
sum_word (negsuc a) (negsuc b) f g h = grind (arith, nat_tests, ints)
