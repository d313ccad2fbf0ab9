-- Lists of what may be missing.
use Rattle.std.proofs.Common.{◌≡◌, ℕ, ◌<◌, List, [], ◌∷◌, ◌++◌, map, length, get_or, Option, Some, None, refl, ap, ◌∙◌, suc, arith}
use Rattle.std.specs.List.{AllZip}
use Rattle.std.specs.Option.{option_map}
use Rattle.std.proofs.lemmas.List.{map-append}
use Rattle.t_forms.specs.Data.{all_of}
use Rattle.t_rows.proofs.ZipLemmas.{ZipLast, zip_last, zip_push}

one_last : {D : Type 0} (y : D) (x : D) (os : List (Option D)) (o : Option (List D)) (xs : List D) → all_of os ≡ o → option_map (λ zs. y ∷ zs) o ≡ Some xs
    → ((zs : List D) → all_of os ≡ Some zs → all_of (os ++ Some x ∷ []) ≡ Some (zs ++ x ∷ [])) → option_map (λ zs. y ∷ zs) (all_of (os ++ Some x ∷ [])) ≡ Some (xs ++ x ∷ [])
one_last y x os None xs e h k = cc
one_last y x os (Some zs) xs e h k =
    let same : y ∷ zs ≡ xs = cc in
    ap (λ o. option_map (λ us. y ∷ us) o) (k zs e) ∙ ap (λ us. Some (us ++ x ∷ [])) same

pub all_of_last : {D : Type 0} (os : List (Option D)) (xs : List D) (x : D) → all_of os ≡ Some xs → all_of (os ++ Some x ∷ []) ≡ Some (xs ++ x ∷ [])
all_of_last [] xs x e = let same : [] ≡ xs = cc in ap (λ us. Some (us ++ x ∷ [])) same
all_of_last (None ∷ os) xs x e = cc
all_of_last (Some y ∷ os) xs x e = one_last y x os (all_of os) xs refl e (λ zs h. all_of_last os zs x h)

pub record AllSoFar {B C D : Type 0} (S : C → D → Type 0) (f : B → Option D) (vs : List C) (ds : List B) : Type 0 where
  pub found : List D
  pub are : all_of (map f ds) ≡ Some found
  pub each : AllZip S vs found

pub all_none_yet : {A B C D : Type 0} (R : A → B → Type 0) (S : C → D → Type 0) (f : B → Option D) (ds : List B) → AllZip R [] ds → AllSoFar S f [] ds
all_none_yet R S f [] h = record { found = []; are = refl; each = tt }
all_none_yet R S f (d ∷ ds) h = absurd h

-- one more that is there
pub all_collected : {A B C D : Type 0} (R : A → B → Type 0) (S : C → D → Type 0) (f : B → Option D) (ks : List A) (k : A) (vs : List C) (v : C)
    → ((ds : List B) → AllZip R ks ds → AllSoFar S f vs ds) → ((d : B) → R k d → (x : D) × (f d ≡ Some x) × S v x)
    → (ds : List B) → AllZip R (ks ++ k ∷ []) ds → AllSoFar S f (vs ++ v ∷ []) ds
all_collected R S f ks k vs v so_far one ds h =
    let l : ZipLast R ks k ds = zip_last R ks k ds h in
    let b : AllSoFar S f vs l.before = so_far l.before l.zip_before in
    let x = one l.last l.zip_last in
    record {
      found = b.found ++ x.0 ∷ [];
      are = ap (λ zs. all_of (map f zs)) l.parts ∙ ap all_of (map-append f l.before (l.last ∷ [])) ∙ ap (λ o. all_of (map f l.before ++ o ∷ [])) x.1
          ∙ all_of_last (map f l.before) b.found x.0 b.are;
      each = zip_push S vs b.found v x.0 b.each x.2;
    }

missing_behind : {D : Type 0} (o : Option D) (os : List (Option D)) → all_of os ≡ None → all_of (o ∷ os) ≡ None
missing_behind None os e = refl
missing_behind (Some y) os e = ap (λ x. option_map (λ xs. y ∷ xs) x) e

missing_here : {D : Type 0} (o : Option D) (os : List (Option D)) → o ≡ None → all_of (o ∷ os) ≡ None
missing_here None os e = refl
missing_here (Some y) os e = cc

-- one is missing
pub all_stop : {A B D : Type 0} (R : A → B → Type 0) (f : B → Option D) (ks : List A) (ds : List B) (i : ℕ) (e : A) → i < length ks → AllZip R ks ds
    → ((d : B) → R (get_or ks i e) d → f d ≡ None) → all_of (map f ds) ≡ None
all_stop R f [] ds i e below h k = absurd (omega arith)
all_stop R f (x ∷ ks) [] i e below h k = absurd h
all_stop R f (x ∷ ks) (d ∷ ds) Prim.Native.Nat.zero e below h k = missing_here (f d) (map f ds) (k d h.0)
all_stop R f (x ∷ ks) (d ∷ ds) (suc i) e below h k =
    let less : i < length ks = omega arith in missing_behind (f d) (map f ds) (all_stop R f ks ds i e less h.1 k)
