-- The innermost binding of each name, at hand.
use Rattle.std.proofs.Common.{◌≡◌, ℕ, zero, suc, ◌<◌, Bool, true, false, if◌then◌else◌, List, [], ◌∷◌, length, Option, Some, refl, ap, ◌∙◌, arith}
use Rattle.std.proofs.lemmas.Bool.{eq-eqb, eqb-true}
use Rattle.t_base.specs.declared.basics.Var.{Var}
use Rattle.t_forms.specs.declared.arena.New.{New}
use Rattle.t_forms.specs.declared.arena.New.TheVariants as new
use Rattle.t_forms.specs.declared.scope.LocalName.{LocalName}
use Rattle.t_forms.specs.declared.scope.LocalName.TheVariants as key
use Rattle.t_forms.specs.declared.locals.Binding.{Binding}
use Rattle.t_forms.specs.Data.{is_same_new}
use Rattle.t_forms.specs.Lookup.{is_same_key, var_bound, made_place, slot, indexed, HasSlot, locals_of, IsIndex}

-- ---- slots

slot_within : (slots : List (Option Var)) (k : ℕ) (v : Var) → slot slots k ≡ Some v → k < length slots
slot_within [] k v e = cc
slot_within (x ∷ xs) zero v e = omega arith
slot_within (x ∷ xs) (suc k) v e = let below : k < length xs = slot_within xs k v e in omega arith

-- ---- one place for each new variable

same_new : (v w : New) → is_same_new v w ≡ true → v ≡ w
same_new new.Answer new.Answer e = refl
same_new new.Chosen new.Chosen e = refl
same_new new.Turn new.Turn e = refl
same_new new.Start new.Start e = refl
same_new new.Own new.Own e = refl
same_new new.Content new.Content e = refl
same_new (new.Part i) (new.Part j) e = ap new.Part (eqb-true i j e)
same_new v w e = cc

new_at : (v w : New) → made_place v ≡ made_place w → is_same_new v w ≡ true
new_at new.Answer new.Answer e = refl
new_at new.Chosen new.Chosen e = refl
new_at new.Turn new.Turn e = refl
new_at new.Start new.Start e = refl
new_at new.Own new.Own e = refl
new_at new.Content new.Content e = refl
new_at (new.Part i) (new.Part j) e = eq-eqb i j (omega arith)
new_at v w e = absurd (omega arith)

same_key_is : (a b : LocalName) → is_same_key a b ≡ true → a ≡ b
same_key_is (key.Written a) (key.Written b) e = let same : a.0 ≡ b.0 = eqb-true a.0 b.0 e in ap (λ (n : ℕ). key.Written (record { 0 = n })) same
same_key_is (key.Made v) (key.Made w) e = ap key.Made (same_new v w e)
same_key_is (key.Written a) (key.Made w) e = cc
same_key_is (key.Made v) (key.Written b) e = cc

same_key_itself : (a : LocalName) → is_same_key a a ≡ true
same_key_itself (key.Written a) = eq-eqb a.0 a.0 refl
same_key_itself (key.Made v) = new_at v v refl

has_slot : (written made : List (Option Var)) (k : LocalName) (v : Var) → indexed written made k ≡ Some v → HasSlot written made k
has_slot written made (key.Written n) v e = slot_within written n.0 v e
has_slot written made (key.Made w) v e = slot_within made (made_place w) v e

-- ---- one binding less

pub is_bound : (bs : List Binding) (written made : List (Option Var)) (b : Binding) → IsIndex (b ∷ bs) written made → HasSlot written made b.local.name
is_bound bs written made b i =
    let here : (if is_same_key b.local.name b.local.name then Some b.local.var else var_bound (locals_of bs) b.local.name) ≡ Some b.local.var = rw (same_key_itself b.local.name) refl in
    has_slot written made b.local.name b.local.var (i.found b.local.name ∙ here)

pub bound_less : (bs : List Binding) (written made written2 made2 : List (Option Var)) (b : Binding) → IsIndex (b ∷ bs) written made
    → ((k : LocalName) → indexed written2 made2 k ≡ (if is_same_key b.local.name k then b.hidden else indexed written made k)) → IsIndex bs written2 made2
bound_less bs written made written2 made2 b i set_ = record {
  found = λ k. set_ k ∙ behind k (is_same_key b.local.name k) refl;
  hiding = i.hiding.1;
}
  where
    behind : (k : LocalName) (t : Bool) → is_same_key b.local.name k ≡ t → (if t then b.hidden else indexed written made k) ≡ var_bound (locals_of bs) k
    behind k true e = i.hiding.0 ∙ ap (var_bound (locals_of bs)) (same_key_is b.local.name k e)
    behind k false e =
        let told : indexed written made k ≡ (if is_same_key b.local.name k then Some b.local.var else var_bound (locals_of bs) k) = i.found k in
        told ∙ rw e refl
