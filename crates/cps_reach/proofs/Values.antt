-- The variables that stand for values or cells, and each k beside them: a variable is bound once, so none is both.
use Rattle.std.specs.List.{flat_map}
use Rattle.std.proofs.Common.{◌≡◌, ℕ, ◌+◌, ◌≤◌, ◌==◌, Bool, true, false, ◌||◌, List, [], ◌∷◌, ◌++◌, map, refl, sym, ap, ◌∙◌, arith}
use Rattle.std.proofs.lemmas.Bool.{true≢false}
use Rattle.t_base.specs.declared.basics.Var.{Var}
use Rattle.cps_ir.specs.declared.terms.Lam.{Lam}
use Rattle.cps_ir.specs.declared.terms.Term.{Term}
use Rattle.cps_ir.specs.declared.terms.Cps.{Cps}
use Rattle.cps_ir.specs.Parts.{Name, Named, Celled, JoinK, OwnK, variable_of, Part, own_parts, reached_terms, reached_lams, own_binders, lam_binders, binders}
use Rattle.cps_ir.specs.Reaches.{is_in}
use Rattle.cps_ir.specs.Whole.{IsFormed}
use Rattle.cps_ir.specs.MarkFacts.{params_of}
use Rattle.cps_ir.proofs.Counts.{count, count_in, distinct_count}
use Rattle.cps_ir.proofs.Closed.{or_left, or_right}
use Rattle.cps_ir.proofs.Apart.{any_or, distinct_binders}
use Rattle.cps_ir.proofs.Tree.{ways_in, count_append}

-- ---- lists of names

abbrev pub values_in : List Name → List ℕ
values_in [] = []
values_in (Named y ∷ names) = y ∷ values_in names
values_in (Celled y ∷ names) = y ∷ values_in names
values_in (JoinK k catches ∷ names) = values_in names
values_in (OwnK k ∷ names) = values_in names

count_names : (x : ℕ) (names : List Name) → count x (map variable_of names) ≡ count x (values_in names) + count x (ways_in names)
count_names x [] = refl
count_names x (Named y ∷ names) = let h = count_names x names in omega (arith, h)
count_names x (Celled y ∷ names) = let h = count_names x names in omega (arith, h)
count_names x (JoinK y cs ∷ names) = let h = count_names x names in omega (arith, h)
count_names x (OwnK y ∷ names) = let h = count_names x names in omega (arith, h)

-- what is bound and is no k is a value
pub value_or_way : (names : List Name) (x : ℕ) → is_in (map variable_of names) x ≡ true → is_in (ways_in names) x ≡ false → is_in (values_in names) x ≡ true
value_or_way [] x h w = h
value_or_way (Named y ∷ names) x h w = any_or (y == x) _ (λ q. or_left (y == x) _ q) (λ r. or_right (y == x) _ (value_or_way names x r w)) h
value_or_way (Celled y ∷ names) x h w = any_or (y == x) _ (λ q. or_left (y == x) _ q) (λ r. or_right (y == x) _ (value_or_way names x r w)) h
value_or_way (JoinK y cs ∷ names) x h w = any_or (y == x) _ (λ q. absurd (true≢false (sym (or_left (y == x) _ q) ∙ w))) (λ r. value_or_way names x r (other (y == x) _ w)) h
  where
    other : (b c : Bool) → (b || c) ≡ false → c ≡ false
    other true c e = absurd (true≢false e)
    other false c e = e
value_or_way (OwnK y ∷ names) x h w = any_or (y == x) _ (λ q. absurd (true≢false (sym (or_left (y == x) _ q) ∙ w))) (λ r. value_or_way names x r (other (y == x) _ w)) h
  where
    other : (b c : Bool) → (b || c) ≡ false → c ≡ false
    other true c e = absurd (true≢false e)
    other false c e = e

-- ---- terms

abbrev pub values_of : Term → List ℕ
values_of term = flat_map (λ p. values_in p.binds) (own_parts [] term)

abbrev pub ways_of : Term → List ℕ
ways_of term = flat_map (λ p. ways_in p.binds) (own_parts [] term)

count_parts : (x : ℕ) (ps : List Part) → count x (flat_map (λ p. map variable_of p.binds) ps) ≡ count x (flat_map (λ p. values_in p.binds) ps) + count x (flat_map (λ p. ways_in p.binds) ps)
count_parts x [] = refl
count_parts x (p ∷ ps) =
    let h = count_parts x ps in
    let a = count_names x p.binds in
    let b = count_append x (map variable_of p.binds) (flat_map (λ q. map variable_of q.binds) ps) in
    let c = count_append x (values_in p.binds) (flat_map (λ q. values_in q.binds) ps) in
    let d = count_append x (ways_in p.binds) (flat_map (λ q. ways_in q.binds) ps) in
    omega (arith, h, a, b, c, d)

count_terms : (x : ℕ) (ts : List Term) → count x (flat_map own_binders ts) ≡ count x (flat_map values_of ts) + count x (flat_map ways_of ts)
count_terms x [] = refl
count_terms x (t ∷ ts) =
    let h = count_terms x ts in
    let a = count_parts x (own_parts [] t) in
    let b = count_append x (own_binders t) (flat_map own_binders ts) in
    let c = count_append x (values_of t) (flat_map values_of ts) in
    let d = count_append x (ways_of t) (flat_map ways_of ts) in
    omega (arith, h, a, b, c, d)

abbrev pub numbered : List Var → List ℕ
numbered vars = map (λ x. x.0) vars

numbers_joined : (xs ys : List Var) → numbered (xs ++ ys) ≡ numbered xs ++ numbered ys
numbers_joined [] ys = refl
numbers_joined (x ∷ xs) ys = ap (λ zs. x.0 ∷ zs) (numbers_joined xs ys)

count_lams : (x : ℕ) (lams : List Lam) → count x (numbered (flat_map (λ lam. lam.params) lams)) ≤ count x (flat_map lam_binders lams)
count_lams x [] = omega arith
count_lams x (lam ∷ lams) =
    let h = count_lams x lams in
    let rest = flat_map (λ (l : Lam). l.params) lams in
    let a = ap (count x) (numbers_joined lam.params rest) ∙ count_append x (numbered lam.params) (numbered rest) in
    let b = count_append x (lam_binders lam) (flat_map lam_binders lams) in
    let c = count_append x (numbered lam.params) (lam.k.0 ∷ []) in
    omega (arith, h, a, b, c)

-- ---- the program

-- the variables that stand for values or cells
abbrev pub values : Cps → List ℕ
values u = flat_map values_of (reached_terms u) ++ numbered (params_of u)

pub value_is_no_way : (u : Cps) → IsFormed u → (x : ℕ) → is_in (values u) x ≡ true → is_in (flat_map ways_of (reached_terms u)) x ≡ true → ⊥
value_is_no_way u formed x v w =
    let ts = reached_terms u in
    let a = count_in x (values u) v in
    let b = count_in x (flat_map ways_of ts) w in
    let c = count_terms x ts in
    let d = count_lams x (reached_lams u) in
    let e = count_append x (flat_map own_binders ts) (flat_map lam_binders (reached_lams u)) in
    let f = count_append x (flat_map values_of ts) (numbered (params_of u)) in
    let g = distinct_count x (binders u) (distinct_binders u formed) in
    omega (arith, a, b, c, d, e, f, g)
