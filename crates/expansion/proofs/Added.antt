-- Lists that go on others.
use Rattle.std.proofs.Common.{◌≡◌, ℕ, zero, suc, List, [], ◌∷◌, ◌++◌, Some, slice_get, sym, ap, ◌∙◌, append_assoc}
use Rattle.std.proofs.lemmas.List.{append-nil}
use Rattle.expansion.specs.Lists.{Adds}

pub Adds_refl : {A : Type 0} (xs : List A) → Adds xs xs
Adds_refl xs = record { more = []; is = sym (append-nil xs) }

pub Adds_trans : {A : Type 0} (xs ys zs : List A) → Adds xs ys → Adds ys zs → Adds xs zs
Adds_trans xs ys zs a b = record { more = a.more ++ b.more; is = b.is ∙ ap (λ l. l ++ b.more) a.is ∙ append_assoc xs a.more b.more }

pub slice_get-append : {A : Type 0} (xs ys : List A) (k : ℕ) (x : A) → slice_get xs k ≡ Some x → slice_get (xs ++ ys) k ≡ Some x
slice_get-append [] ys k x h = cc
slice_get-append (y ∷ xs) ys zero x h = h
slice_get-append (y ∷ xs) ys (suc k) x h = slice_get-append xs ys k x h

pub slice_get-Adds : {A : Type 0} (xs ys : List A) (k : ℕ) (x : A) → Adds xs ys → slice_get xs k ≡ Some x → slice_get ys k ≡ Some x
slice_get-Adds xs ys k x a h = ap (λ l. slice_get l k) a.is ∙ slice_get-append xs a.more k x h
