-- Names and their numbers.
use Rattle.std.proofs.Common.{◌≡◌, ℕ, ◌+◌, ◌*◌, Bool, true, false, ◌||◌, if◌then◌else◌, nat_eq, List, [], ◌∷◌, ◌++◌, refl, sym, ap, ◌∙◌, arith}
use Rattle.std.proofs.lemmas.Bool.{eq-eqb, eqb-true}
use Rattle.std.proofs.lemmas.Bool.Decides.{Decides-eqb, same_from_decides}
use Rattle.std.specs.Cmp.{nat_eq_equiv}
use Rattle.std.specs.List.{list_any}
use Rattle.t_forms.specs.declared.arena.New.{New}
use Rattle.t_forms.specs.declared.arena.New.TheVariants as new
use Rattle.t_forms.specs.declared.scope.LocalName.{LocalName}
use Rattle.t_forms.specs.declared.scope.LocalName.TheVariants as key
use Rattle.t_forms.specs.Data.{is_same_new}
use Rattle.t_forms.specs.Lookup.{is_same_key}
use Rattle.t_rows.specs.declared.names.Binder.{Binder as CodeBinder}
use Rattle.t_rows.specs.Numbers.{number_of_new, number_of_name}

new_is : (v w : New) → is_same_new v w ≡ true → v ≡ w
new_is new.Answer new.Answer e = refl
new_is new.Chosen new.Chosen e = refl
new_is new.Turn new.Turn e = refl
new_is new.Start new.Start e = refl
new_is new.Own new.Own e = refl
new_is new.Content new.Content e = refl
new_is (new.Part i) (new.Part j) e = ap new.Part (eqb-true i j e)
new_is v w e = cc

new_at : (v w : New) → number_of_new v ≡ number_of_new w → is_same_new v w ≡ true
new_at new.Answer new.Answer e = refl
new_at new.Chosen new.Chosen e = refl
new_at new.Turn new.Turn e = refl
new_at new.Start new.Start e = refl
new_at new.Own new.Own e = refl
new_at new.Content new.Content e = refl
new_at (new.Part i) (new.Part j) e = eq-eqb i j (omega arith)
new_at v w e = absurd (omega arith)

-- the number of a new variable is odd
odd : (v : New) → (h : ℕ) × (number_of_new v ≡ h * 2 + 1)
odd new.Answer = (0, refl)
odd new.Chosen = (1, refl)
odd new.Turn = (2, refl)
odd new.Start = (3, refl)
odd new.Own = (4, refl)
odd new.Content = (5, refl)
odd (new.Part i) = (i + 6, omega arith)

key_is : (a b : LocalName) → is_same_key a b ≡ true → a ≡ b
key_is (key.Written a) (key.Written b) e = let same : a.0 ≡ b.0 = eqb-true a.0 b.0 e in ap (λ (n : ℕ). key.Written (record { 0 = n })) same
key_is (key.Made v) (key.Made w) e = ap key.Made (new_is v w e)
key_is (key.Written a) (key.Made w) e = cc
key_is (key.Made v) (key.Written b) e = cc

key_at : (a b : LocalName) → number_of_name a ≡ number_of_name b → is_same_key a b ≡ true
key_at (key.Written a) (key.Written b) e = eq-eqb a.0 b.0 (omega arith)
key_at (key.Made v) (key.Made w) e = new_at v w e
key_at (key.Written a) (key.Made w) e = let o = (odd w).1 in absurd (omega arith)
key_at (key.Made v) (key.Written b) e = let o = (odd v).1 in absurd (omega arith)

-- two names are one exactly if their numbers are
same_number : (a b : LocalName) → nat_eq (number_of_name a) (number_of_name b) ≡ is_same_key a b
same_number a b =
    same_from_decides (nat_eq (number_of_name a) (number_of_name b)) (is_same_key a b) (Decides-eqb (number_of_name a) (number_of_name b))
    (λ h. ap number_of_name (key_is a b h), λ e. key_at a b e)

or_false : (x : Bool) → (x || false) ≡ (if x then true else false)
or_false true = refl
or_false false = refl

or_later : (x y z : Bool) → (x || (if y then true else z)) ≡ (if y then true else (x || z))
or_later true true z = refl
or_later true false z = refl
or_later false true z = refl
or_later false false z = refl

any_last : {A : Type 0} (p : A → Bool) (xs : List A) (x : A) → list_any p (xs ++ x ∷ []) ≡ (if p x then true else list_any p xs)
any_last p [] x = or_false (p x)
any_last p (y ∷ ys) x = ap (λ b. p y || b) (any_last p ys x) ∙ or_later (p y) (p x) (list_any p ys)

-- a name was seen before the last of these, or is that
pub seen_more : (cs : List CodeBinder) (c : CodeBinder) (n : LocalName) (had has : Bool) → had ≡ list_any (λ x. is_same_key n x.name) cs
    → has ≡ (if nat_eq (number_of_name c.name) (number_of_name n) then true else had) → has ≡ list_any (λ x. is_same_key n x.name) (cs ++ c ∷ [])
seen_more cs c n had has e f =
    f ∙ ap (λ b. if b then true else had) (nat_eq_equiv.symm (number_of_name c.name) (number_of_name n) ∙ same_number n c.name)
    ∙ ap (λ b. if is_same_key n c.name then true else b) e ∙ sym (any_last (λ x. is_same_key n x.name) cs c)
