-- What the rules mark is a procedure of the program, or a variable below a count that is above all binders.
use Rattle.std.specs.Prelude.{nat_lt, All, replicate}
use Rattle.std.specs.List.{AllByRecursion, filter_map, flat_map, cons_option, list_any, enumerate_from}
use Rattle.std.specs.Option.{option_map}
use Rattle.std.proofs.Common.{◌≡◌, ℕ, zero, suc, ◌+◌, ◌<◌, ◌≤◌, Bool, true, false, if◌then◌else◌, List, [], ◌∷◌, ◌++◌, length, take, map, slice_get, Option, Some, None, refl, ap, ◌∙◌, arith}
use Rattle.std.proofs.lemmas.Bool.{eqb-true, false≢true}
use Rattle.t_base.specs.declared.basics.Var.{Var}
use Rattle.escape_marks.specs.Subjects.{Subject, Local, Global, is_same, is_in}
use Rattle.escape_marks.specs.Facts.{Abstraction}
use Rattle.cps_ir.specs.declared.terms.Cont.{Cont}
use Rattle.cps_ir.specs.declared.terms.Cont.TheVariants as Continuation
use Rattle.cps_ir.specs.declared.terms.Lam.{Lam}
use Rattle.cps_ir.specs.declared.terms.Term.{Term}
use Rattle.cps_ir.specs.declared.terms.Term.TheVariants as Node
use Rattle.cps_ir.specs.declared.terms.Cps.{Cps}
use Rattle.cps_ir.specs.Parts.{first_lams, Name, Named, Celled, JoinK, OwnK, named, own_parts, cont_parts, lams_of, lambda_at, lambdas_of, root_lams, walked, reached_terms, reached_lams}
use Rattle.cps_ir.specs.Whole.{IsWhole}
use Rattle.cps_ir.specs.Loads.{cont_param}
use Rattle.cps_ir.specs.MarkFacts.{lambda, variable, abstraction_of, lambda_places, abstractions_in, root_abstractions, name_bound, names_in, params_of, procedure_globals, facts_of, marked_lams, marked_vars}
use Rattle.cps_ir.proofs.ProperLists.{none_some, each_append, each_more, each_of_all, each_joined, each_at, each_of}
use Rattle.cps_ir.proofs.Apart.{any_or}
use Rattle.cps_ir.proofs.MarkLaws.{only_reached_escape}
use Rattle.cps_known.specs.declared.marking.Marks.{Marks}
use Rattle.cps_known.specs.Binders.{value_binders, AreBelow}
use Rattle.cps_known.specs.KnownMarks.{MarkEnough}

below : {X : Type 0} (xs : List X) (i : ℕ) (x : X) → slice_get xs i ≡ Some x → i < length xs
below [] i x e = none_some x e
below (y ∷ xs) zero x e = omega arith
below (y ∷ xs) (suc i) x e = let lt = below xs i x e in omega (arith, lt)

pub in_replicate : (n l : ℕ) → l < n → slice_get (replicate n true) l ≡ Some true
in_replicate zero l lt = absurd (omega (arith, lt))
in_replicate (suc n) zero lt = refl
in_replicate (suc n) (suc l) lt = in_replicate n l (omega (arith, lt))

-- a subject in a list stands for one that has what each has that stands there
found : (P : Subject → Type 0) (xs : List Subject) (s : Subject) → AllByRecursion (λ x. is_same s x ≡ true → P s) xs → is_in xs s ≡ true → P s
found P [] s h e = absurd (false≢true e)
found P (x ∷ xs) s h e = any_or (is_same s x) (list_any (is_same s) xs) h.0 (λ r. found P xs s h.1 r) e

module _ (cps : Cps) where
  -- ---- procedures

  same_lambda : (l m : ℕ) → is_same (lambda l) (lambda m) ≡ true → l ≡ m
  same_lambda l m e = eqb-true l m e

  abbrev LamFits : ℕ → Subject → Type 0
  LamFits l x = is_same (lambda l) x ≡ true → l < length cps.lams.items

  placed : (n : ℕ) (lams : List Lam) (l : ℕ) → n + length lams ≤ length cps.lams.items → AllByRecursion (λ (a : Abstraction). LamFits l a.lambda) (map (λ at. abstraction_of cps at.0 at.1) (enumerate_from n lams))
  placed n [] l le = tt
  placed n (lam ∷ lams) l le = (λ e. let q = same_lambda l n e in omega (arith, q, le), placed (n + 1) lams l (omega (arith, le)))

  lambdas_placed : (ls : List ℕ) (l : ℕ) → AllByRecursion (λ (a : Abstraction). LamFits l a.lambda) (filter_map (λ m. option_map (abstraction_of cps m) (lambda_at cps m)) ls)
  lambdas_placed [] l = tt
  lambdas_placed (m ∷ ls) l = by_test (nat_lt m (first_lams cps)) (slice_get cps.lams.items m) refl (lambdas_placed ls l)
    where
      by_test : (b : Bool) (o : Option Lam) → slice_get cps.lams.items m ≡ o → AllByRecursion (λ (a : Abstraction). LamFits l a.lambda) (filter_map (λ m. option_map (abstraction_of cps m) (lambda_at cps m)) ls)
          → AllByRecursion (λ (a : Abstraction). LamFits l a.lambda) (cons_option (option_map (abstraction_of cps m) (if b then None else o)) (filter_map (λ m. option_map (abstraction_of cps m) (lambda_at cps m)) ls))
      by_test true o q h = h
      by_test false None q h = h
      by_test false (Some lam) q h = (λ e. let same = same_lambda l m e in let lt = below cps.lams.items m lam q in omega (arith, same, lt), h)

  lambda_of_all : (xs : List Abstraction) (l : ℕ) → AllByRecursion (λ a. LamFits l a.lambda) xs → AllByRecursion (LamFits l) (map (λ a. a.lambda) xs)
  lambda_of_all [] l h = tt
  lambda_of_all (x ∷ xs) l h = (h.0, lambda_of_all xs l h.1)

  -- a name is no procedure
  name_cons : (n : Name) (rest : List Subject) (l : ℕ) → AllByRecursion (LamFits l) rest → AllByRecursion (LamFits l) (cons_option (name_bound n) rest)
  name_cons (Named x) rest l h = (λ e. absurd (false≢true e), h)
  name_cons (Celled x) rest l h = (λ e. absurd (false≢true e), h)
  name_cons (JoinK k cs) rest l h = h
  name_cons (OwnK k) rest l h = h

  names_no_lambda : (xs : List Name) (l : ℕ) → AllByRecursion (LamFits l) (filter_map name_bound xs)
  names_no_lambda [] l = tt
  names_no_lambda (n ∷ xs) l = name_cons n (filter_map name_bound xs) l (names_no_lambda xs l)

  locals_no_lambda : (xs : List Var) (l : ℕ) → AllByRecursion (LamFits l) (map Local xs)
  locals_no_lambda [] l = tt
  locals_no_lambda (x ∷ xs) l = (λ e. absurd (false≢true e), locals_no_lambda xs l)

  globals_no_lambda : (xs : List ℕ) (l : ℕ) → AllByRecursion (LamFits l) (map Global xs)
  globals_no_lambda [] l = tt
  globals_no_lambda (x ∷ xs) l = (λ e. absurd (false≢true e), globals_no_lambda xs l)

  pub marked_there : IsWhole cps → (l : ℕ) → marked_lams cps l ≡ true → l < length cps.lams.items
  marked_there whole l e =
      found (λ s. l < length cps.lams.items) (facts_of cps).subjects (lambda l)
      (each_append (LamFits l) (map (λ a. a.lambda) (root_abstractions cps ++ flat_map (abstractions_in cps) (reached_terms cps))) (flat_map names_in (reached_terms cps) ++ map Local (params_of cps) ++ map Global (procedure_globals cps))
      (lambda_of_all (root_abstractions cps ++ flat_map (abstractions_in cps) (reached_terms cps)) l
      (each_append (λ a. LamFits l a.lambda) (root_abstractions cps) (flat_map (abstractions_in cps) (reached_terms cps)) (placed 0 (root_lams cps) l (by_taken (first_lams cps) cps.lams.items))
      (each_joined (abstractions_in cps) (λ a. LamFits l a.lambda) (reached_terms cps) (each_of (λ t. AllByRecursion (λ a. LamFits l a.lambda) (abstractions_in cps t)) (reached_terms cps) (λ t. lambdas_placed (lambda_places t) l)))))
      (each_append (LamFits l) (flat_map names_in (reached_terms cps) ++ map Local (params_of cps)) (map Global (procedure_globals cps))
      (each_append (LamFits l) (flat_map names_in (reached_terms cps)) (map Local (params_of cps))
      (each_joined names_in (LamFits l) (reached_terms cps) (each_of (λ t. AllByRecursion (LamFits l) (names_in t)) (reached_terms cps) (λ t. each_joined (λ p. filter_map name_bound p.binds) (LamFits l) (own_parts [] t)
      (each_of (λ p. AllByRecursion (LamFits l) (filter_map name_bound p.binds)) (own_parts [] t) (λ p. names_no_lambda p.binds l))))) (locals_no_lambda (params_of cps) l)) (globals_no_lambda (procedure_globals cps) l)))
      (only_reached_escape cps (lambda l) e)
    where
      by_taken : (n : ℕ) (xs : List Lam) → 0 + length (take n xs) ≤ length xs
      by_taken zero xs = omega arith
      by_taken (suc n) [] = omega arith
      by_taken (suc n) (x ∷ xs) = let r = by_taken n xs in omega (arith, r)

  -- ---- variables

  module _ (count : ℕ) where
    abbrev VarFits : ℕ → Subject → Type 0
    VarFits x s = is_same (variable x) s ≡ true → x < count

    local_fits : (x : ℕ) (v : Var) → v.0 < count → VarFits x (Local v)
    local_fits x v lt e = let q = eqb-true x v.0 e in omega (arith, q, lt)

    cont_fits : (x : ℕ) (k : Cont) → AllByRecursion (λ y. y < count) (cont_param (Some k)) → AllByRecursion (VarFits x) (flat_map (λ p. filter_map name_bound p.binds) (cont_parts [] (Some k)))
    cont_fits x (Continuation.Var k) h = tt
    cont_fits x (Continuation.Lam param body) h = (local_fits x param h.0, tt)

    vars_fit : (x : ℕ) (vs : List Var) → AllByRecursion (λ y. y < count) (map (λ v. v.0) vs) → AllByRecursion (VarFits x) (filter_map name_bound (named vs) ++ [])
    vars_fit x [] h = tt
    vars_fit x (v ∷ vs) h = (local_fits x v h.0, vars_fit x vs h.1)

    term_fits : (x : ℕ) (t : Term) → AllByRecursion (λ y. y < count) (value_binders t) → AllByRecursion (VarFits x) (names_in t)
    term_fits x (Node.Labels vars lams body) h = vars_fit x vars h
    term_fits x (Node.Join k param body rest) h = (local_fits x param h.0, tt)
    term_fits x (Node.Cell y value rest) h = (local_fits x y h.0, tt)
    term_fits x (Node.Catch escape body k) h = (local_fits x escape h.0, cont_fits x k h.1)
    term_fits x (Node.If test y z) h = tt
    term_fits x (Node.Halt value) h = tt
    term_fits x (Node.Call f args k) h = cont_fits x k h
    term_fits x (Node.Prim p args k) h = cont_fits x k h
    term_fits x (Node.Give k value) h = cont_fits x k h
    term_fits x (Node.Set y value k) h = cont_fits x k h
    term_fits x (Node.CellGet y k) h = cont_fits x k h
    term_fits x (Node.CellSet y value k) h = cont_fits x k h
    term_fits x (Node.GlobalGet g k) h = cont_fits x k h
    term_fits x (Node.GlobalInit g value k) h = cont_fits x k h
    term_fits x (Node.GlobalSet g value k) h = cont_fits x k h
    term_fits x (Node.Uncatch k value) h = cont_fits x k h
    term_fits x (Node.Object proc ops methods k) h = cont_fits x k h

    found_terms : (P : Term → Type 0) (ps : List ℕ) → ((t : Term) (p : ℕ) → slice_get cps.terms.items p ≡ Some t → P t) → AllByRecursion P (filter_map (slice_get cps.terms.items) ps)
    found_terms P [] h = tt
    found_terms P (p ∷ ps) h = by_option (slice_get cps.terms.items p) refl (found_terms P ps h)
      where
        by_option : (o : Option Term) → slice_get cps.terms.items p ≡ o → AllByRecursion P (filter_map (slice_get cps.terms.items) ps) → AllByRecursion P (cons_option o (filter_map (slice_get cps.terms.items) ps))
        by_option None e r = r
        by_option (Some t) e r = (h t p e, r)

    abbrev LamBelow : Lam → Type 0
    LamBelow lam = AllByRecursion (λ v. v.0 < count) lam.params

    found_lams : (ls : List ℕ) → AllByRecursion LamBelow cps.lams.items → AllByRecursion LamBelow (filter_map (lambda_at cps) ls)
    found_lams [] h = tt
    found_lams (l ∷ ls) h = by_test (nat_lt l (first_lams cps)) (slice_get cps.lams.items l) refl (found_lams ls h)
      where
        by_test : (b : Bool) (o : Option Lam) → slice_get cps.lams.items l ≡ o → AllByRecursion LamBelow (filter_map (lambda_at cps) ls) → AllByRecursion LamBelow (cons_option (if b then None else o) (filter_map (lambda_at cps) ls))
        by_test true o q r = r
        by_test false None q r = r
        by_test false (Some lam) q r = (each_at LamBelow cps.lams.items l lam h q, r)

    taken_lams : (n : ℕ) (ls : List Lam) → AllByRecursion LamBelow ls → AllByRecursion LamBelow (take n ls)
    taken_lams zero ls h = tt
    taken_lams (suc n) [] h = tt
    taken_lams (suc n) (l ∷ ls) h = (h.0, taken_lams n ls h.1)

    locals_fit : (x : ℕ) (vs : List Var) → AllByRecursion (λ v. v.0 < count) vs → AllByRecursion (VarFits x) (map Local vs)
    locals_fit x [] h = tt
    locals_fit x (v ∷ vs) h = (local_fits x v h.0, locals_fit x vs h.1)

    lambdas_no_variable : (x : ℕ) (xs : List Abstraction) → AllByRecursion (λ (y : Abstraction). VarFits x y.lambda) xs → AllByRecursion (VarFits x) (map (λ y. y.lambda) xs)
    lambdas_no_variable x [] h = tt
    lambdas_no_variable x (y ∷ xs) h = (h.0, lambdas_no_variable x xs h.1)

    roots_no_variable : (x n : ℕ) (lams : List Lam) → AllByRecursion (λ (y : Abstraction). VarFits x y.lambda) (map (λ at. abstraction_of cps at.0 at.1) (enumerate_from n lams))
    roots_no_variable x n [] = tt
    roots_no_variable x n (lam ∷ lams) = (λ e. absurd (false≢true e), roots_no_variable x (n + 1) lams)

    terms_no_variable : (x : ℕ) (ls : List ℕ) → AllByRecursion (λ (y : Abstraction). VarFits x y.lambda) (filter_map (λ m. option_map (abstraction_of cps m) (lambda_at cps m)) ls)
    terms_no_variable x [] = tt
    terms_no_variable x (m ∷ ls) = by_option (lambda_at cps m) (terms_no_variable x ls)
      where
        by_option : (o : Option Lam) → AllByRecursion (λ (y : Abstraction). VarFits x y.lambda) (filter_map (λ m. option_map (abstraction_of cps m) (lambda_at cps m)) ls)
            → AllByRecursion (λ (y : Abstraction). VarFits x y.lambda) (cons_option (option_map (abstraction_of cps m) o) (filter_map (λ m. option_map (abstraction_of cps m) (lambda_at cps m)) ls))
        by_option None r = r
        by_option (Some lam) r = (λ e. absurd (false≢true e), r)

    globals_no_variable : (x : ℕ) (gs : List ℕ) → AllByRecursion (VarFits x) (map Global gs)
    globals_no_variable x [] = tt
    globals_no_variable x (g ∷ gs) = (λ e. absurd (false≢true e), globals_no_variable x gs)

    pub marked_below : AllByRecursion (λ t. AreBelow count (value_binders t)) cps.terms.items → AllByRecursion (λ lam. All (λ v. v.0 < count) lam.params) cps.lams.items → (x : ℕ) → marked_vars cps x ≡ true → x < count
    marked_below terms lams x e =
        let below_lams = each_more (λ (lam : Lam). All (λ v. v.0 < count) lam.params) LamBelow cps.lams.items (λ lam h. each_of_all (λ v. v.0 < count) lam.params h) lams in
        let reached = each_append LamBelow (root_lams cps) (flat_map (lambdas_of cps) (reached_terms cps)) (taken_lams (first_lams cps) cps.lams.items below_lams)
        (each_joined (lambdas_of cps) LamBelow (reached_terms cps) (each_of (λ t. AllByRecursion LamBelow (lambdas_of cps t)) (reached_terms cps) (λ t. found_lams (lams_of t) below_lams))) in
        found (λ s. x < count) (facts_of cps).subjects (variable x)
        (each_append (VarFits x) (map (λ y. y.lambda) (root_abstractions cps ++ flat_map (abstractions_in cps) (reached_terms cps))) (flat_map names_in (reached_terms cps) ++ map Local (params_of cps) ++ map Global (procedure_globals cps))
        (lambdas_no_variable x (root_abstractions cps ++ flat_map (abstractions_in cps) (reached_terms cps))
        (each_append (λ (y : Abstraction). VarFits x y.lambda) (root_abstractions cps) (flat_map (abstractions_in cps) (reached_terms cps)) (roots_no_variable x 0 (root_lams cps))
        (each_joined (abstractions_in cps) (λ (y : Abstraction). VarFits x y.lambda) (reached_terms cps) (each_of (λ t. AllByRecursion (λ (y : Abstraction). VarFits x y.lambda) (abstractions_in cps t)) (reached_terms cps) (λ t. terms_no_variable x (lambda_places t))))))
        (each_append (VarFits x) (flat_map names_in (reached_terms cps) ++ map Local (params_of cps)) (map Global (procedure_globals cps))
        (each_append (VarFits x) (flat_map names_in (reached_terms cps)) (map Local (params_of cps))
        (each_joined names_in (VarFits x) (reached_terms cps)
        (found_terms (λ t. AllByRecursion (VarFits x) (names_in t)) (walked cps) (λ t p q. term_fits x t (each_of_all (λ y. y < count) (value_binders t) (each_at (λ t. AreBelow count (value_binders t)) cps.terms.items p t terms q)))))
        (locals_fit x (params_of cps) (each_joined (λ lam. lam.params) (λ v. v.0 < count) (reached_lams cps) reached))) (globals_no_variable x (procedure_globals cps))))
        (only_reached_escape cps (variable x) e)

-- ---- all marks

length_replicate : (n : ℕ) → length (replicate n true) ≡ n
length_replicate zero = refl
length_replicate (suc n) = ap suc (length_replicate n)

pub all_enough : (cps : Cps) (marks : Marks) (count : ℕ) → IsWhole cps → marks.lams.items ≡ replicate (length cps.lams.items) true → marks.vars.items ≡ replicate count true
    → All (λ t. AreBelow count (value_binders t)) cps.terms.items → All (λ lam. All (λ v. v.0 < count) lam.params) cps.lams.items → MarkEnough cps marks
all_enough cps marks count whole e q terms lams = record {
  counted = ap length e ∙ length_replicate (length cps.lams.items);
  lams = λ l h. ap (λ xs. slice_get xs l) e ∙ in_replicate (length cps.lams.items) l (marked_there cps whole l h);
  vars = λ x h. ap (λ xs. slice_get xs x) q
      ∙ in_replicate count x (marked_below cps count (each_of_all (λ t. AreBelow count (value_binders t)) cps.terms.items terms) (each_of_all (λ lam. All (λ v. v.0 < count) lam.params) cps.lams.items lams) x h);
}
