-- What is bound as a value, and what as a way.
use Rattle.std.specs.List.{AllByRecursion, flat_map, filter_map, cons_option}
use Rattle.std.proofs.Common.{◌≡◌, ℕ, zero, suc, ◌+◌, ◌≤◌, ◌<◌, nat_lt, Bool, true, false, if◌then◌else◌, List, [], ◌∷◌, ◌++◌, length, map, Option, Some, None, slice_get, slice_index_or, inl, inr, refl, sym, ap, subst, arith}
use Rattle.std.proofs.lemmas.Bool.{cases_lt}
use Rattle.t_base.specs.declared.basics.Var.{Var}
use Rattle.cps_ir.specs.declared.terms.Cont.{Cont}
use Rattle.cps_ir.specs.declared.terms.Cont.TheVariants as Continuation
use Rattle.cps_ir.specs.declared.terms.Lam.{Lam}
use Rattle.cps_ir.specs.declared.terms.Term.{Term}
use Rattle.cps_ir.specs.declared.terms.Term.TheVariants as Step
use Rattle.cps_ir.specs.declared.terms.Cps.{Cps}
use Rattle.cps_ir.specs.Terms.{cont_of}
use Rattle.cps_ir.specs.Parts.{Name, Named, Celled, JoinK, OwnK, named, variable_of, Part, lams_of, lambda_at, lambdas_of, lambda_part, around, behind, term_parts, cont_parts, own_parts, parts_of, first_lams, own_binders, lam_binders}
use Rattle.cps_ir.proofs.ProperLists.{each_append, each_more}
use Rattle.cps_ir.proofs.Counts.{tot, tot_append, tot_each, tot_add}
use Rattle.cps_order.specs.Order.{tally}
use Rattle.cps_order.proofs.Reached.{flat_has}
use Rattle.conversion_laws.specs.Owed.{listed_binders}
use Rattle.conversion_scopes.proofs.Once.{tally_append, tally_flat, one_same}
use Rattle.conversion_scopes.proofs.Scopes.{Has}

-- ---- names

abbrev pub values_of : List Name → List ℕ
values_of [] = []
values_of (Named x ∷ names) = x ∷ values_of names
values_of (Celled x ∷ names) = values_of names
values_of (JoinK k catches ∷ names) = values_of names
values_of (OwnK k ∷ names) = values_of names

pub values_joined : (ns ms : List Name) (v : ℕ) → tally (values_of (ns ++ ms)) v ≡ tally (values_of ns) v + tally (values_of ms) v
values_joined [] ms v = omega arith
values_joined (Named x ∷ ns) ms v = let h = values_joined ns ms v in omega (arith, h)
values_joined (Celled x ∷ ns) ms v = values_joined ns ms v
values_joined (JoinK k catches ∷ ns) ms v = values_joined ns ms v
values_joined (OwnK k ∷ ns) ms v = values_joined ns ms v

same_values : (vars : List Var) → values_of (named vars) ≡ map (λ x. x.0) vars
same_values [] = refl
same_values (v ∷ vars) = ap (λ xs. v.0 ∷ xs) (same_values vars)

same_variables : (vars : List Var) → map variable_of (named vars) ≡ values_of (named vars)
same_variables [] = refl
same_variables (v ∷ vars) = ap (λ xs. v.0 ∷ xs) (same_variables vars)

pub value_there : (scope : List Name) (v : ℕ) → Has scope v → 1 ≤ tally (values_of scope) v
value_there scope v c = by scope c.0 c.1 c.2
  where
    more : (n : Name) (rest : List Name) → 1 ≤ tally (values_of rest) v → 1 ≤ tally (values_of (n ∷ rest)) v
    more (Named x) rest h = omega (arith, h)
    more (Celled x) rest h = h
    more (JoinK k catches) rest h = h
    more (OwnK k) rest h = h

    by : (names : List Name) (k : ℕ) → k < length names → slice_index_or names k (Named v) ≡ Named v → 1 ≤ tally (values_of names) v
    by [] k lt e = absurd (omega (arith, lt))
    by (n ∷ names) zero lt e = subst (λ m. 1 ≤ tally (values_of (m ∷ names)) v) (sym e) (let s = one_same v in omega (arith, s))
    by (n ∷ names) (suc k) lt e = more n names (by names k (omega (arith, lt)) e)

-- ---- terms

-- what a term binds as values, but for its continuation and its LAMBDAs
abbrev head_values : Term → List ℕ
head_values (Step.Labels vars lams body) = values_of (named vars)
head_values (Step.Join k param body rest) = param.0 ∷ []
head_values (Step.Catch escape body k) = escape.0 ∷ []
head_values _ = []

abbrev cont_values : Option Cont → List ℕ
cont_values (Some (Continuation.Lam v body)) = v.0 ∷ []
cont_values _ = []

abbrev pub term_values : Term → List ℕ
term_values term = head_values term ++ cont_values (cont_of term)

abbrev pub term_ways : Term → List ℕ
term_ways (Step.Join k param body rest) = k.0 ∷ []
term_ways _ = []

abbrev pub lam_values : Lam → List ℕ
lam_values lam = values_of (named lam.params)

abbrev pub lam_ways : Lam → List ℕ
lam_ways lam = lam.k.0 ∷ []

abbrev Among : List ℕ → List ℕ → Type 0
Among xs ys = (v : ℕ) → 1 ≤ tally xs v → 1 ≤ tally ys v

head_there : (catches : List ℕ) (term : Term) → AllByRecursion (λ p. Among (values_of p.binds) (head_values term)) (term_parts catches term)
head_there catches (Step.Call f args k) = tt
head_there catches (Step.Prim b args k) = tt
head_there catches (Step.If test a b) = (λ v h. h, (λ v h. h, tt))
head_there catches (Step.Labels vars lams body) = (λ v h. h, tt)
head_there catches (Step.Join k param body rest) = (λ v h. h, (λ v h. absurd (omega (arith, h)), tt))
head_there catches (Step.Give k value) = tt
head_there catches (Step.Set x value k) = tt
head_there catches (Step.Cell x value rest) = (λ v h. h, tt)
head_there catches (Step.CellGet x k) = tt
head_there catches (Step.CellSet x value k) = tt
head_there catches (Step.GlobalGet g k) = tt
head_there catches (Step.GlobalInit g value k) = tt
head_there catches (Step.GlobalSet g value k) = tt
head_there catches (Step.Catch x body k) = (λ v h. h, tt)
head_there catches (Step.Uncatch k value) = tt
head_there catches (Step.Object proc ops methods k) = tt
head_there catches (Step.Halt value) = tt

around_there : (term : Term) → Among (values_of (around term)) (head_values term)
around_there (Step.Call f args k) v h = h
around_there (Step.Prim b args k) v h = h
around_there (Step.If test a b) v h = h
around_there (Step.Labels vars lams body) v h = h
around_there (Step.Join k param body rest) v h = absurd (omega (arith, h))
around_there (Step.Give k value) v h = h
around_there (Step.Set x value k) v h = h
around_there (Step.Cell x value rest) v h = h
around_there (Step.CellGet x k) v h = h
around_there (Step.CellSet x value k) v h = h
around_there (Step.GlobalGet g k) v h = h
around_there (Step.GlobalInit g value k) v h = h
around_there (Step.GlobalSet g value k) v h = h
around_there (Step.Catch x body k) v h = absurd (omega (arith, h))
around_there (Step.Uncatch k value) v h = h
around_there (Step.Object proc ops methods k) v h = h
around_there (Step.Halt value) v h = h

cont_there : (catches : List ℕ) (c : Option Cont) → AllByRecursion (λ p. Among (values_of p.binds) (cont_values c)) (cont_parts catches c)
cont_there catches None = tt
cont_there catches (Some (Continuation.Var k)) = tt
cont_there catches (Some (Continuation.Lam v body)) = (λ w h. h, tt)

abbrev bound_at : ℕ → Part → ℕ
bound_at x p = tally (map variable_of p.binds) x

cont_bound : (x : ℕ) (c : Option Cont) (catches : List ℕ) → tally (cont_values c) x ≡ tot (bound_at x) (cont_parts catches c)
cont_bound x None catches = refl
cont_bound x (Some (Continuation.Var k)) catches = refl
cont_bound x (Some (Continuation.Lam v body)) catches = omega arith

head_bound : (x : ℕ) (term : Term) → tally (head_values term) x + tally (term_ways term) x ≤ tot (bound_at x) (term_parts [] term)
head_bound x (Step.Call f args k) = omega arith
head_bound x (Step.Prim b args k) = omega arith
head_bound x (Step.If test a b) = omega arith
head_bound x (Step.Labels vars lams body) = let e : tally (map variable_of (named vars)) x ≡ tally (values_of (named vars)) x = ap (λ xs. tally xs x) (same_variables vars) in omega (arith, e)
head_bound x (Step.Join k param body rest) = omega arith
head_bound x (Step.Give k value) = omega arith
head_bound x (Step.Set y value k) = omega arith
head_bound x (Step.Cell y value rest) = omega arith
head_bound x (Step.CellGet y k) = omega arith
head_bound x (Step.CellSet y value k) = omega arith
head_bound x (Step.GlobalGet g k) = omega arith
head_bound x (Step.GlobalInit g value k) = omega arith
head_bound x (Step.GlobalSet g value k) = omega arith
head_bound x (Step.Catch y body k) = omega arith
head_bound x (Step.Uncatch k value) = omega arith
head_bound x (Step.Object proc ops methods k) = omega arith
head_bound x (Step.Halt value) = omega arith

-- a term binds its values and its ways
term_bound : (x : ℕ) (term : Term) → tally (term_values term) x + tally (term_ways term) x ≤ tally (own_binders term) x
term_bound x term =
    let a = tally_append (head_values term) (cont_values (cont_of term)) x in
    let b = tally_flat (λ (p : Part). map variable_of p.binds) (own_parts [] term) x in
    let c = tot_append (bound_at x) (term_parts [] term) (cont_parts (behind [] term) (cont_of term)) in
    let d = head_bound x term in
    let e = cont_bound x (cont_of term) (behind [] term) in
    omega (arith, a, b, c, d, e)

lam_bound : (x : ℕ) (lam : Lam) → tally (lam_values lam) x + tally (lam_ways lam) x ≤ tally (lam_binders lam) x
lam_bound x lam =
    let a = tally_append (map (λ (v : Var). v.0) lam.params) (lam.k.0 ∷ []) x in
    let e : tally (values_of (named lam.params)) x ≡ tally (map (λ (v : Var). v.0) lam.params) x = ap (λ xs. tally xs x) (same_values lam.params) in
    omega (arith, a, e)

-- ---- all that is listed

module _ (cps : Cps) where
  -- how often a variable is bound as a value, and as a way
  abbrev pub values_bound : ℕ → ℕ
  values_bound x = tally (flat_map term_values cps.terms.items) x + tally (flat_map lam_values cps.lams.items) x

  abbrev pub ways_bound : ℕ → ℕ
  ways_bound x = tally (flat_map term_ways cps.terms.items) x + tally (flat_map lam_ways cps.lams.items) x

  pub all_bound : (x : ℕ) → values_bound x + ways_bound x ≤ tally (listed_binders cps) x
  all_bound x =
      let a = tally_flat term_values cps.terms.items x in
      let b = tally_flat lam_values cps.lams.items x in
      let c = tally_flat term_ways cps.terms.items x in
      let d = tally_flat lam_ways cps.lams.items x in
      let e = tally_append (flat_map own_binders cps.terms.items) (flat_map lam_binders cps.lams.items) x in
      let f = tally_flat own_binders cps.terms.items x in
      let g = tally_flat lam_binders cps.lams.items x in
      let h = tot_add (λ term. tally (term_values term) x) (λ term. tally (term_ways term) x) cps.terms.items in
      let i = tot_add (λ lam. tally (lam_values lam) x) (λ lam. tally (lam_ways lam) x) cps.lams.items in
      let j = tot_each (λ term. tally (term_values term) x + tally (term_ways term) x) (λ term. tally (own_binders term) x) cps.terms.items (term_bound x) in
      let k = tot_each (λ lam. tally (lam_values lam) x + tally (lam_ways lam) x) (λ lam. tally (lam_binders lam) x) cps.lams.items (lam_bound x) in
      omega (arith, a, b, c, d, e, f, g, h, i, j, k)

  -- all values of a scope are bound in what is listed
  abbrev pub Sourced : List Name → Type 0
  Sourced scope = (v : ℕ) → 1 ≤ tally (values_of scope) v → 1 ≤ values_bound v

  term_sourced : (t : ℕ) (term : Term) → slice_get cps.terms.items t ≡ Some term → (v : ℕ) → 1 ≤ tally (term_values term) v → 1 ≤ values_bound v
  term_sourced t term e v h = let r = flat_has term_values cps.terms.items v t term e h in omega (arith, r)

  lams_sourced : (names : List Name) (ls : List ℕ) → Sourced names → AllByRecursion (λ p. Sourced p.binds) (map (lambda_part names) (filter_map (lambda_at cps) ls))
  lams_sourced names [] s = tt
  lams_sourced names (l ∷ ls) s = by (nat_lt l (first_lams cps)) (slice_get cps.lams.items l) refl (lams_sourced names ls s)
    where
      by : (b : Bool) (o : Option Lam) → slice_get cps.lams.items l ≡ o → AllByRecursion (λ p. Sourced p.binds) (map (lambda_part names) (filter_map (lambda_at cps) ls)) → AllByRecursion (λ p. Sourced p.binds) (map (lambda_part names) (cons_option (if b then None else o) (filter_map (lambda_at cps) ls)))
      by true o e rest = rest
      by false None e rest = rest
      by false (Some lam) e rest = (
        λ v h.
            let j = values_joined (named lam.params) (OwnK lam.k.0 ∷ names) v in
            elim (cases_lt 0 (tally (values_of (named lam.params)) v)) [
              | inl own ↦ let r = flat_has lam_values cps.lams.items v l lam e own in omega (arith, r)
              | inr none ↦ s v (omega (arith, h, j, none))
            ],
        rest,
      )

  -- what a part of a listed term binds is bound
  pub parts_sourced : (catches : List ℕ) (t : ℕ) (term : Term) → slice_get cps.terms.items t ≡ Some term → AllByRecursion (λ p. Sourced p.binds) (parts_of cps catches term)
  parts_sourced catches t term e =
      let S = λ (p : Part). Sourced p.binds in
      let head = λ (v : ℕ) (h : 1 ≤ tally (head_values term) v). term_sourced t term e v (let a = tally_append (head_values term) (cont_values (cont_of term)) v in omega (arith, a, h)) in
      let cont = λ (v : ℕ) (h : 1 ≤ tally (cont_values (cont_of term)) v). term_sourced t term e v (let a = tally_append (head_values term) (cont_values (cont_of term)) v in omega (arith, a, h)) in
      each_append S (map (lambda_part (around term)) (lambdas_of cps term)) (own_parts catches term) (lams_sourced (around term) (lams_of term) (λ v h. head v (around_there term v h)))
      (each_append S (term_parts catches term) (cont_parts (behind catches term) (cont_of term))
      (each_more (λ p. Among (values_of p.binds) (head_values term)) S (term_parts catches term) (λ p g v h. head v (g v h)) (head_there catches term))
      (each_more (λ p. Among (values_of p.binds) (cont_values (cont_of term))) S (cont_parts (behind catches term) (cont_of term)) (λ p g v h. cont v (g v h)) (cont_there (behind catches term) (cont_of term))))

  pub sourced_both : (ns scope : List Name) → Sourced ns → Sourced scope → Sourced (ns ++ scope)
  sourced_both ns scope a b v h = let j = values_joined ns scope v in elim (cases_lt 0 (tally (values_of ns) v)) [ inl own ↦ a v own | inr none ↦ b v (omega (arith, h, j, none)) ]
