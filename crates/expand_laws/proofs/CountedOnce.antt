-- What is counted once in a list stands in it.
use Rattle.std.proofs.Common.{◌≡◌, ℕ, suc, ◌+◌, Bool, true, false, cond, List, [], ◌∷◌, slice_get, count_by, Some, refl, sym, ◌∙◌, arith}
use Rattle.std.proofs.lemmas.List.Sums.{sum_by-cons}

-- what passes the test stands in the list
pub record IsThere {X : Type 0} (p : X → Bool) (xs : List X) : Type 0 where
  pub i : ℕ
  pub x : X
  pub found : slice_get xs i ≡ Some x
  pub passes : p x ≡ true

there_first : {X : Type 0} (p : X → Bool) (y : X) (xs : List X) (b : Bool) → p y ≡ b → count_by p (y ∷ xs) ≡ 1 → (count_by p xs ≡ 1 → IsThere p xs) → IsThere p (y ∷ xs)
there_first p y xs true e h rest = record { i = 0; x = y; found = refl; passes = e }
there_first p y xs false e h rest =
    let f : 1 ≡ 0 + count_by p xs = sym h ∙ sum_by-cons (λ z. cond (p z) 1 0) y xs ∙ rw e refl in
    let more : count_by p xs ≡ 1 = omega arith in
    let r : IsThere p xs = rest more in
    record { i = suc r.i; x = r.x; found = r.found; passes = r.passes }

-- what is counted once is there
pub counted_there : {X : Type 0} (p : X → Bool) (xs : List X) → count_by p xs ≡ 1 → IsThere p xs
counted_there p [] h = cc
counted_there p (y ∷ xs) h = there_first p y xs (p y) refl h (λ more. counted_there p xs more)
