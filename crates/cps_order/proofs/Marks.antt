-- Marks of variables that are assigned.
use Rattle.std.proofs.Common.{◌≡◌, Bool, true, false, refl, sym}

pub same_marks : (a b : Bool) → (a ≡ true → b ≡ true) → (b ≡ true → a ≡ true) → a ≡ b
same_marks true b f g = sym (f refl)
same_marks false true f g = g refl
same_marks false false f g = refl
