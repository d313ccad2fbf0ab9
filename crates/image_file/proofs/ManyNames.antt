-- Names that are read are spelled so, and what is spelled so is read.
use Rattle.std.proofs.Common.{◌≡◌, ℕ, zero, suc, ◌+◌, false, List, [], ◌∷◌, ◌++◌, length, take, drop, slice_get, Some, Ok, refl, sym, ap, subst, ◌∙◌, append_assoc, arith, add-one}
use Rattle.std.proofs.Math.Seq.{take-suc}
use Rattle.std.proofs.lemmas.Option.{slice_get_within, get_or_from_slice_get}
use Rattle.std.proofs.lemmas.List.Concat.{flat_map-append}
use Rattle.std.specs.List.{AllByRecursion, IsDistinct}
use Rattle.std.specs.Str.{bytes_eq}
use Rattle.std.proofs.lemmas.List.{append-nil, drop_at}
use Rattle.std.proofs.lemmas.Cmp.{nat_list_eq_equiv}
use Rattle.std.proofs.lemmas.Map.Keys.{IsDistinct-push, IsDistinct-head, IsDistinct-tail}
use Rattle.std.proofs.lemmas.Map.Made.{AllPairs-from_IsDistinct, IsDistinct-from_AllPairs}
use Rattle.std.proofs.lemmas.Slice.Eq.{bytes_eq-Decides}
use Rattle.image_file.specs.declared.fault.ImageKind.TheVariants.{Field}
use Rattle.image_file.specs.Grammar.{name_spelling, names_spelling, IsName, AreDistinct}
use Rattle.image_file.specs.Reading.{◌>>=◌, has_text, name_at, one_more, names_at}
use Rattle.image_file.proofs.Bytes.{IsBytes, IsBytes-drop, bind_ok, guard_ok, ok_is}
use Rattle.image_file.proofs.OneName.{name_takes, name_again}

at_middle : (P : List ℕ → Type 0) (before : List (List ℕ)) (name : List ℕ) (after : List (List ℕ)) → AllByRecursion P (before ++ name ∷ after) → P name
at_middle P [] name after h = h.0
at_middle P (x ∷ before) name after h = at_middle P before name after h.1

is_new_by : (before : List (List ℕ)) (name : List ℕ) (after : List (List ℕ)) → IsDistinct bytes_eq (before ++ name ∷ after) → has_text before name ≡ false
is_new_by [] name after h = refl
is_new_by (x ∷ before) name after h =
    let other : bytes_eq x name ≡ false = at_middle (λ y. bytes_eq x y ≡ false) before name after (IsDistinct-head bytes_eq x (before ++ name ∷ after) h) in
    let flipped : bytes_eq name x ≡ false = nat_list_eq_equiv.symm name x ∙ other in
    rw flipped (is_new_by before name after (IsDistinct-tail bytes_eq x (before ++ name ∷ after) h))

-- of distinct names none is among those before it
is_new : (before : List (List ℕ)) (name : List ℕ) (after : List (List ℕ)) → AreDistinct (before ++ name ∷ after) → has_text before name ≡ false
is_new before name after h = is_new_by before name after (IsDistinct-from_AllPairs bytes_eq-Decides (before ++ name ∷ after) h)

-- names stay distinct with one more that is new
one_more_distinct : (before : List (List ℕ)) (name : List ℕ) → AreDistinct before → has_text before name ≡ false → AreDistinct (before ++ name ∷ [])
one_more_distinct before name distinct new =
    AllPairs-from_IsDistinct bytes_eq-Decides (before ++ name ∷ []) (IsDistinct-push {eq = bytes_eq} nat_list_eq_equiv before name (IsDistinct-from_AllPairs bytes_eq-Decides before distinct) new)

-- what the reader of names took, which follow those before
pub record TakesNames (count : ℕ) (before : List (List ℕ)) (bytes : List ℕ) (all : List (List ℕ)) : Type 0 where
  pub names : List (List ℕ)
  pub joined : all ≡ before ++ names
  pub spelled : bytes ≡ names_spelling names
  pub counted : length names ≡ count
  pub each : AllByRecursion IsName names
  pub distinct : AreDistinct all

pub names_take : (n : ℕ) (before : List (List ℕ)) (at : ℕ) (bytes : List ℕ) (all : List (List ℕ)) → IsBytes bytes → AreDistinct before → names_at n before at bytes ≡ Ok all → TakesNames n before bytes all
unfolding names_at
names_take zero before at [] all fits distinct e =
    let same = ok_is before all e in
    record { names = []; joined = sym same ∙ sym (append-nil before); spelled = refl; counted = refl; each = tt; distinct = subst AreDistinct same distinct }
names_take zero before at (b ∷ bytes) all fits distinct e = absurd cc
names_take (suc n) before at bytes all fits distinct e =
    let a = bind_ok (name_at at bytes) (λ name. one_more at before name >>= λ more. names_at n more (at + 2 + length name) (drop (2 + length name) bytes)) all e in
    let name = a.0 in
    let b = bind_ok (one_more at before name) (λ more. names_at n more (at + 2 + length name) (drop (2 + length name) bytes)) all a.2 in
    let g = guard_ok (has_text before name) (Field, at) (Ok (before ++ name ∷ [])) b.0 b.1 in
    let more-is : before ++ name ∷ [] ≡ b.0 = ok_is (before ++ name ∷ []) b.0 g.1 in
    let more_distinct : AreDistinct b.0 = subst AreDistinct more-is (one_more_distinct before name distinct g.0) in
    let first = name_takes at bytes name fits a.1 in
    let rest_fits = IsBytes-drop (2 + length name) bytes fits in
    let others = names_take n b.0 (at + 2 + length name) (drop (2 + length name) bytes) all rest_fits more_distinct b.2 in
    record {
      names = name ∷ others.names;
      joined = others.joined ∙ ap (λ (x : List (List ℕ)). x ++ others.names) (sym more-is) ∙ append_assoc before (name ∷ []) others.names;
      spelled = first.parts ∙ ap (λ (x : List ℕ). name_spelling name ++ x) others.spelled;
      counted = ap suc others.counted;
      each = (first.name, others.each);
      distinct = others.distinct;
    }

pub names_again : (names before : List (List ℕ)) (at : ℕ) → AllByRecursion IsName names → AreDistinct (before ++ names) → names_at (length names) before at (names_spelling names) ≡ Ok (before ++ names)
unfolding names_at
names_again [] before at each distinct = ap (λ (x : List (List ℕ)). Ok x) (sym (append-nil before))
names_again (name ∷ names) before at each distinct =
    let rest = names_spelling names in
    let fresh : has_text before name ≡ false = is_new before name names distinct in
    let regroup : (before ++ name ∷ []) ++ names ≡ before ++ name ∷ names = append_assoc before (name ∷ []) names in
    let others = names_again names (before ++ name ∷ []) (at + 2 + length name) each.1 (subst AreDistinct (sym regroup) distinct) in
    let behind : drop (2 + length name) (name_spelling name ++ rest) ≡ rest = drop_at (name_spelling name) rest (2 + length name) (omega arith) in
    rw (name_again at name rest each.0, fresh, behind) (others ∙ ap (λ (x : List (List ℕ)). Ok x) regroup)

-- one more name of a list
pub spelled_more : (names : List (List ℕ)) (i : ℕ) (name : List ℕ) → slice_get names i ≡ Some name → names_spelling (take (i + 1) names) ≡ names_spelling (take i names) ++ name_spelling name
spelled_more names i name there =
    let within = slice_get_within names i name there in
    let next : take (i + 1) names ≡ take i names ++ name ∷ [] = ap (λ (k : ℕ). take k names) (add-one i) ∙ take-suc names i [] within ∙ ap (λ (x : List ℕ). take i names ++ x ∷ []) (get_or_from_slice_get names i name [] there) in
    ap names_spelling next ∙ flat_map-append name_spelling (take i names) (name ∷ []) ∙ ap (λ (x : List ℕ). names_spelling (take i names) ++ x) (append-nil (name_spelling name))
