-- The innermost binding of a name, by keys and by names.
use Rattle.std.proofs.Common.{◌≡◌, ◌≢◌, inl, inr, ℕ, ◌+◌, ◌<◌, ◌==◌, Bool, true, false, List, [], ◌∷◌, map, slice_get, Option, Some, None, refl, sym, subst, suc, if◌then◌else◌, ◌∙◌, AllPairs, arith}
use Rattle.std.specs.Str.{bytes_eq}
use Rattle.std.specs.Bool.{Decides}
use Rattle.std.proofs.lemmas.Bool.{cases_order}
use Rattle.std.proofs.lemmas.Bool.Decides.{Decides-eqb, same_from_decides}
use Rattle.std.proofs.lemmas.Slice.Eq.{bytes_eq-Decides}
use Rattle.std.proofs.lemmas.Option.{slice_get_within, get_or_from_slice_get}
use Rattle.t_base.specs.declared.basics.Var.{Var}
use Rattle.t_base.specs.declared.basics.Name.{Name as NamePlace}
use Rattle.t_forms.specs.declared.arena.New.{New}
use Rattle.t_forms.specs.declared.scope.LocalName.{LocalName}
use Rattle.t_forms.specs.declared.scope.LocalName.TheVariants as key
use Rattle.t_forms.specs.declared.scope.Defined.{Defined}
use Rattle.t_forms.specs.declared.scope.Defined.TheVariants as kept
use Rattle.t_forms.specs.declared.scope.Meant.{Meant}
use Rattle.t_forms.specs.declared.scope.Meant.TheVariants as meant
use Rattle.t_forms.specs.declared.scope.Local.{Local}
use Rattle.t_forms.specs.Data.{Name, written, made, is_same_name}
use Rattle.t_forms.specs.Names.{Meaning, a_local, a_global, an_op, the_builtin, the_operation, the_truth, the_listing, none, or_else, place_from, Scope, meaning, builtin_meaning, beyond, defined_as}
use Rattle.t_forms.specs.Held.{IsName, AreNames, IsDefined, IsMeaning, IsScope, Around, vars_of}
use Rattle.t_forms.specs.Lookup.{is_same_key, var_bound}

-- ---- one text has one place

apart_at : (names : List (List ℕ)) (i j : ℕ) (a : List ℕ) → AllPairs (λ x y. x ≢ y) names → slice_get names i ≡ Some a → slice_get names j ≡ Some a → i < j → ⊥
apart_at names i j a apart p q below =
    apart i j a below (slice_get_within names j a q) (get_or_from_slice_get names i a a p ∙ sym (get_or_from_slice_get names j a a q))

pub one_place : (names : List (List ℕ)) (i j : ℕ) (a : List ℕ) → AllPairs (λ x y. x ≢ y) names → slice_get names i ≡ Some a → slice_get names j ≡ Some a → i ≡ j
one_place names i j a apart p q =
    elim (cases_order i j) [
      | inl same ↦ same
      | inr (inl below) ↦ absurd (apart_at names i j a apart p q below)
      | inr (inr above) ↦ absurd (apart_at names j i a apart q p above)
    ]

pub same_place : (names : List (List ℕ)) (i j : ℕ) (a b : List ℕ) → AllPairs (λ x y. x ≢ y) names → slice_get names i ≡ Some a → slice_get names j ≡ Some b
    → (i == j) ≡ bytes_eq a b
same_place names i j a b apart p q =
    let texts : Decides (bytes_eq a b) (i ≡ j) = (
      λ h. let same : a ≡ b = (bytes_eq-Decides a b).0 h in one_place names i j a apart p (rw same q),
      λ e. (bytes_eq-Decides a b).1 (let at : slice_get names i ≡ Some b = rw e q in cc),
    ) in
    same_from_decides (i == j) (bytes_eq a b) (Decides-eqb i j) texts

-- ---- one key stands for one name

pub same_key : (names : List (List ℕ)) (k m : LocalName) (a b : Name) → AllPairs (λ x y. x ≢ y) names → IsName names k a → IsName names m b
    → is_same_key k m ≡ is_same_name a b
same_key names k m (written a) (written b) apart p q = rw (p.1, q.1) (same_place names p.0.0 q.0.0 a b apart p.2 q.2)
same_key names k m (written a) (made w) apart p q = rw (p.1, q) refl
same_key names k m (made v) (written b) apart p q = rw (p, q.1) refl
same_key names k m (made v) (made w) apart p q = rw (p, q) refl

-- ---- the innermost binding

-- what the variable of the innermost binding is to the place of its name
pub data Finds (vars : List Var) (i : ℕ) : Option Var → Option ℕ → Type 0 where
  nowhere : Finds vars i None None
  at_place : (v : Var) (j : ℕ) → slice_get vars j ≡ Some v → Finds vars i (Some v) (Some (i + j))

passed : (vars : List Var) (v : Var) (i : ℕ) (f : Option Var) (p : Option ℕ) → Finds vars (i + 1) f p → Finds (v ∷ vars) i f p
passed vars v i f p nowhere = nowhere
passed vars v i f p (at_place w j h) =
    let e : i + suc j ≡ i + 1 + j = omega arith in
    subst (λ (k : ℕ). Finds (v ∷ vars) i (Some w) (Some k)) e (at_place w (suc j) h)

here_or : (vars : List Var) (v : Var) (i : ℕ) (b : Bool) (f : Option Var) (p : Option ℕ) → Finds vars (i + 1) f p
    → Finds (v ∷ vars) i (if b then Some v else f) (if b then Some i else p)
here_or vars v i true f p h =
    let e : i + 0 ≡ i = omega arith in
    subst (λ (k : ℕ). Finds (v ∷ vars) i (Some v) (Some k)) e (at_place v 0 refl)
here_or vars v i false f p h = passed vars v i f p h

pub finds : (names : List (List ℕ)) (locals : List Local) (ns : List Name) (i : ℕ) (k : LocalName) (n : Name) → AllPairs (λ x y. x ≢ y) names
    → AreNames names (map (λ l. l.name) locals) ns → IsName names k n → Finds (map (λ l. l.var) locals) i (var_bound locals k) (place_from i ns n)
finds names [] [] i k n apart are is = nowhere
finds names [] (m ∷ ms) i k n apart are is = absurd are
finds names (l ∷ ls) [] i k n apart are is = absurd are
finds names (l ∷ ls) (m ∷ ms) i k n apart are is =
    rw (same_key names l.name k m n apart are.0 is)
    (here_or (map (λ l. l.var) ls) l.var i (is_same_name m n) (var_bound ls k) (place_from (i + 1) ms n) (finds names ls ms (i + 1) k n apart are.1 is))

pub found_means : (vars : List Var) (f : Option Var) (p : Option ℕ) (v : Var) (otherwise : Meaning) → Finds vars 0 f p → f ≡ Some v
    → IsMeaning vars (meant.Local v) (or_else a_local p otherwise)
found_means vars f p v otherwise nowhere e = cc
found_means vars f p v otherwise (at_place w j h) e =
    let same : w ≡ v = cc in
    let at : 0 + j ≡ j = omega arith in
    (v, refl, rw at (rw (sym same) h))

pub not_found : (vars : List Var) (f : Option Var) (p : Option ℕ) → Finds vars 0 f p → f ≡ None → p ≡ None
not_found vars f p nowhere e = refl
not_found vars f p (at_place w j h) e = cc

-- ---- what the unit defines

pub global_means : (vars : List Var) (d : Option Defined) (m : Option Meaning) (otherwise : Meaning) (g : ℕ) (assigned : Bool) → IsDefined d m → d ≡ Some (kept.Global g assigned)
    → IsMeaning vars (meant.Global g assigned) (or_else (λ x. x) m otherwise)
global_means vars d None otherwise g assigned is e = cc
global_means vars d (Some (a_global h b)) otherwise g assigned is e = cc
global_means vars d (Some (an_op o)) otherwise g assigned is e = cc
global_means vars d (Some (a_local i)) otherwise g assigned is e = absurd is
global_means vars d (Some (the_builtin p)) otherwise g assigned is e = absurd is
global_means vars d (Some (the_operation o)) otherwise g assigned is e = absurd is
global_means vars d (Some the_truth) otherwise g assigned is e = absurd is
global_means vars d (Some the_listing) otherwise g assigned is e = absurd is
global_means vars d (Some none) otherwise g assigned is e = absurd is

pub op_means : (vars : List Var) (d : Option Defined) (m : Option Meaning) (otherwise : Meaning) (o : ℕ) → IsDefined d m → d ≡ Some (kept.Operation o)
    → IsMeaning vars (meant.Operation o) (or_else (λ x. x) m otherwise)
op_means vars d None otherwise o is e = cc
op_means vars d (Some (a_global h b)) otherwise o is e = cc
op_means vars d (Some (an_op p)) otherwise o is e = cc
op_means vars d (Some (a_local i)) otherwise o is e = absurd is
op_means vars d (Some (the_builtin p)) otherwise o is e = absurd is
op_means vars d (Some (the_operation p)) otherwise o is e = absurd is
op_means vars d (Some the_truth) otherwise o is e = absurd is
op_means vars d (Some the_listing) otherwise o is e = absurd is
op_means vars d (Some none) otherwise o is e = absurd is

pub nothing_defined : (d : Option Defined) (m : Option Meaning) → IsDefined d m → d ≡ None → m ≡ None
nothing_defined d None is e = refl
nothing_defined d (Some (a_global h b)) is e = cc
nothing_defined d (Some (an_op p)) is e = cc
nothing_defined d (Some (a_local i)) is e = absurd is
nothing_defined d (Some (the_builtin p)) is e = absurd is
nothing_defined d (Some (the_operation p)) is e = absurd is
nothing_defined d (Some the_truth) is e = absurd is
nothing_defined d (Some the_listing) is e = absurd is
nothing_defined d (Some none) is e = absurd is

-- ---- what a name means

pub meaning_bound : (names : List (List ℕ)) (a : Around) (scope : Scope) (k : LocalName) (n : Name) (f : Option Var) (v : Var) → AllPairs (λ x y. x ≢ y) names
    → IsName names k n → IsScope names a scope → f ≡ var_bound a.locals k → f ≡ Some v → IsMeaning (vars_of a) (meant.Local v) (meaning scope n)
meaning_bound names a scope k n f v apart is around e at =
    found_means (vars_of a) (var_bound a.locals k) (place_from 0 scope.locals n) v (or_else (λ m. m) (defined_as scope.defined n) (beyond n))
    (finds names a.locals scope.locals 0 k n apart around.locals is) (sym e ∙ at)

pub meaning_beyond : (names : List (List ℕ)) (a : Around) (scope : Scope) (k : LocalName) (n : Name) (f : Option Var) (m : Meant) → AllPairs (λ x y. x ≢ y) names
    → IsName names k n → IsScope names a scope → f ≡ var_bound a.locals k → f ≡ None
    → IsMeaning (vars_of a) m (or_else (λ m. m) (defined_as scope.defined n) (beyond n)) → IsMeaning (vars_of a) m (meaning scope n)
meaning_beyond names a scope k n f m apart is around e at here =
    let unbound : place_from 0 scope.locals n ≡ None =
    not_found (vars_of a) (var_bound a.locals k) (place_from 0 scope.locals n) (finds names a.locals scope.locals 0 k n apart around.locals is) (sym e ∙ at) in
    rw unbound here

pub nothing_means : (vars : List Var) (m : Option Meaning) → m ≡ None → IsMeaning vars meant.Nothing (or_else (λ x. x) m none)
nothing_means vars m e = rw e refl

pub beyond_means : (vars : List Var) (d : Option Defined) (m : Option Meaning) (otherwise : Meaning) (w : Meant) → IsDefined d m → d ≡ None → IsMeaning vars w otherwise
    → IsMeaning vars w (or_else (λ x. x) m otherwise)
beyond_means vars d m otherwise w is e h = rw (nothing_defined d m is e) h

pub made_means : (names : List (List ℕ)) (a : Around) (scope : Scope) (k : LocalName) (n : Name) (v : New) → IsName names k n → IsScope names a scope → k ≡ key.Made v
    → IsMeaning (vars_of a) meant.Nothing (or_else (λ m. m) (defined_as scope.defined n) (beyond n))
made_means names a scope k (written text) v is around e = let no_key : key.Written is.0 ≡ key.Made v = sym is.1 ∙ e in cc
made_means names a scope k (made w) v is around e = rw (around.table.others w) refl

pub written_means : (names : List (List ℕ)) (a : Around) (scope : Scope) (k : LocalName) (n : Name) (p : NamePlace) (m : Meant) → IsName names k n → k ≡ key.Written p
    → ((text : List ℕ) → slice_get names p.0 ≡ Some text → IsMeaning (vars_of a) m (or_else (λ x. x) (defined_as scope.defined (written text)) (builtin_meaning text)))
    → IsMeaning (vars_of a) m (or_else (λ x. x) (defined_as scope.defined n) (beyond n))
written_means names a scope k (written text) p m is e f =
    let same_key_ : key.Written is.0 ≡ key.Written p = sym is.1 ∙ e in
    let same : is.0 ≡ p = cc in
    f text (rw (sym same) is.2)
written_means names a scope k (made w) p m is e f = let no_key : key.Written p ≡ key.Made w = sym e ∙ is in cc
