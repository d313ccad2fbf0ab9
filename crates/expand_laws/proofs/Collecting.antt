-- Pairs of variables that are collected from lists and nodes, with what holds of each, and what holds under every renaming that has them.
use Rattle.std.proofs.Common.{◌≡◌, ◌⊎◌, ℕ, zero, suc, ◌<◌, Bool, List, [], ◌∷◌, ◌++◌, length, get_or, slice_get, Contains, Some, inl, inr, ⊎_elim, refl, subst, arith}
use Rattle.std.specs.List.{AllZip}
use Rattle.std.proofs.lemmas.List.Elements.{Contains-append_left, Contains-append_right, Contains-append_cases}
use Rattle.std.proofs.lemmas.Option.{same_Some}
use Rattle.t_base.specs.declared.basics.Span.{Span}
use Rattle.t_base.specs.declared.basics.Var.{Var}
use Rattle.t_base.specs.declared.shared_parts.Shared.{Shared}
use Rattle.t_core.specs.declared.forms.Form.{Form}
use Rattle.t_core.specs.Nodes.{Part}
use Rattle.t_rows.proofs.ZipLemmas.{zip_append}
use Rattle.expand_laws.specs.Renaming.{Renaming, Renames, Alike, AllAlike, no_parts, one_part, nodes_of}
use Rattle.expand_laws.proofs.Paired.{Paired, BoundIn}

-- ---- lists

pub zip_got : {A B : Type 0} (R : A → B → Type 0) (xs : List A) (ys : List B) (i : ℕ) (x : A) (y : B) → AllZip R xs ys → slice_get xs i ≡ Some x → slice_get ys i ≡ Some y → R x y
zip_got R [] ys i x y h p q = cc
zip_got R (a ∷ xs) [] i x y h p q = absurd h
zip_got R (a ∷ xs) (b ∷ ys) zero x y h p q = subst (λ u. R u y) (same_Some a x p) (subst (λ v. R a v) (same_Some b y q) h.0)
zip_got R (a ∷ xs) (b ∷ ys) (suc i) x y h p q = zip_got R xs ys i x y h.1 p q

-- what follows at each place
pub zip_each : {A B : Type 0} (R S : A → B → Type 0) (xs : List A) (ys : List B) → ((i : ℕ) (x : A) (y : B) → slice_get xs i ≡ Some x → slice_get ys i ≡ Some y → R x y → S x y)
    → AllZip R xs ys → AllZip S xs ys
zip_each R S [] [] k h = tt
zip_each R S [] (y ∷ ys) k h = absurd h
zip_each R S (x ∷ xs) [] k h = absurd h
zip_each R S (x ∷ xs) (y ∷ ys) k h = (k 0 x y refl refl h.0, zip_each R S xs ys (λ i a b p q r. k (suc i) a b p q r) h.1)

here : {A : Type 0} (x : A) (xs : List A) → Contains (x ∷ xs) x
here x xs = (0, omega arith, refl)

there : {A : Type 0} (x y : A) (xs : List A) → Contains xs y → Contains (x ∷ xs) y
there x y xs h = (suc h.0, omega (arith, h.1), h.2)

none_there : {A : Type 0} (x : A) → Contains [] x → ⊥
none_there x h = absurd (omega (arith, h.1))

first_at : {A : Type 0} (x y : A) (xs : List A) (k : ℕ) → k < length (x ∷ xs) → get_or (x ∷ xs) k y ≡ y → (x ≡ y) ⊎ Contains xs y
first_at x y xs zero below e = inl e
first_at x y xs (suc k) below e = inr (k, omega (arith, below), e)

first_or : {A : Type 0} (x y : A) (xs : List A) → Contains (x ∷ xs) y → (x ≡ y) ⊎ Contains xs y
first_or x y xs h = first_at x y xs h.0 h.1 h.2

-- ---- renamings

-- a renaming has these pairs
abbrev pub Includes : Renaming → Renaming → Type 0
Includes all pairs = (p : Var × Var) → Contains pairs p → Contains all p

abbrev pub EachPair : (Var → Var → Type 0) → Renaming → Type 0
EachPair R pairs = (p : Var × Var) → Contains pairs p → R p.0 p.1

pub no_pairs : (R : Var → Var → Type 0) → EachPair R []
no_pairs R p c = absurd (none_there p c)

pub each_of_both : (R : Var → Var → Type 0) (xs ys : Renaming) → EachPair R xs → EachPair R ys → EachPair R (xs ++ ys)
each_of_both R xs ys g h p c = ⊎_elim (λ a. g p a) (λ b. h p b) (Contains-append_cases xs ys p c)

-- of variables that are related one by one
pub record Collected (R : Var → Var → Type 0) (us ws : List Var) : Type 0 where
  pub pairs : Renaming
  pub each : EachPair R pairs
  pub related : (all : Renaming) → Includes all pairs → AllZip (Renames all) us ws

pub collect : (R : Var → Var → Type 0) (us ws : List Var) → AllZip R us ws → Collected R us ws
collect R [] [] h = record { pairs = []; each = no_pairs R; related = λ all includes. tt }
collect R [] (w ∷ ws) h = absurd h
collect R (u ∷ us) [] h = absurd h
collect R (u ∷ us) (w ∷ ws) h =
    let rest : Collected R us ws = collect R us ws h.1 in
    let one : Var × Var = (u, w) in
    record {
      pairs = one ∷ rest.pairs;
      each = λ p c. ⊎_elim (λ e. subst (λ (q : Var × Var). R q.0 q.1) e h.0) (λ d. rest.each p d) (first_or one p rest.pairs c);
      related = λ all includes. (includes one (here one rest.pairs), rest.related all (λ p c. includes p (there one p rest.pairs c)));
    }

-- ---- nodes and parts of two forms

pub record Walked (form twin : Form) (ss ts : List Span) (shared other : Shared) (vars others : List Var) (tail : Bool) (k j : ℕ) : Type 0 where
  pub pairs : Renaming
  pub each : EachPair (BoundIn form twin) pairs
  pub same : (all : Renaming) → Includes all pairs → AllZip (Renames all) vars others → Alike all shared other (nodes_of form ss) (nodes_of twin ts) tail k j

pub record AllWalked (form twin : Form) (ss ts : List Span) (shared other : Shared) (vars others : List Var) (qs rs : List Part) : Type 0 where
  pub pairs : Renaming
  pub each : EachPair (BoundIn form twin) pairs
  pub same : (all : Renaming) → Includes all pairs → AllZip (Renames all) vars others → AllAlike all shared other (nodes_of form ss) (nodes_of twin ts) qs rs

-- parts that stand at one place, with variables that are bound together
abbrev pub PartsPaired : Form → Form → Part → Part → Type 0
PartsPaired form twin q r =
    Paired form.nodes.items twin.nodes.items form.root twin.root q.at r.at × (q.tail ≡ r.tail) × AllZip (BoundIn form twin) q.binds r.binds

module _ (form twin : Form) (ss ts : List Span) (shared other : Shared) (vars others : List Var) where
  pub none_walked : (rs : List Part) → AllZip (PartsPaired form twin) [] rs → AllWalked form twin ss ts shared other vars others [] rs
  none_walked [] h = record { pairs = []; each = no_pairs (BoundIn form twin); same = λ all includes related. no_parts }
  none_walked (r ∷ rs) h = absurd h

  pub one_more : (q r : Part) (qs rs : List Part) → PartsPaired form twin q r
      → Walked form twin ss ts shared other (q.binds ++ vars) (r.binds ++ others) q.tail q.at r.at → AllWalked form twin ss ts shared other vars others qs rs
      → AllWalked form twin ss ts shared other vars others (q ∷ qs) (r ∷ rs)
  one_more q r qs rs paired first rest =
      let own : Collected (BoundIn form twin) q.binds r.binds = collect (BoundIn form twin) q.binds r.binds paired.2 in
      let behind : Renaming = first.pairs ++ rest.pairs in
      record {
        pairs = own.pairs ++ behind;
        each = each_of_both (BoundIn form twin) own.pairs behind own.each (each_of_both (BoundIn form twin) first.pairs rest.pairs first.each rest.each);
        same = λ all includes related.
            let binds : AllZip (Renames all) q.binds r.binds = own.related all (λ p c. includes p (Contains-append_left own.pairs behind p c)) in
            one_part q r qs rs binds paired.1
            (first.same all (λ p c. includes p (Contains-append_right own.pairs behind p (Contains-append_left first.pairs rest.pairs p c)))
            (zip_append (Renames all) q.binds r.binds vars others binds related))
            (rest.same all (λ p c. includes p (Contains-append_right own.pairs behind p (Contains-append_right first.pairs rest.pairs p c))) related);
      }
