-- Bounds on the sums of weights below terms, and how they are put together.
use Rattle.std.specs.Prelude.{sum_by}
use Rattle.std.specs.List.{AllByRecursion, filter_map, flat_map, cons_option}
use Rattle.std.specs.Option.{option_map_or}
use Rattle.std.proofs.Common.{◌≡◌, ◌≤◌, ◌+◌, ◌*◌, ℕ, zero, suc, Bool, true, false, if◌then◌else◌, List, [], ◌∷◌, ◌++◌, length, map, nat_lt, Option, Some, None, slice_get, refl, sym, subst, arith}
use Rattle.cps_ir.specs.declared.terms.Lam.{Lam}
use Rattle.cps_ir.specs.declared.terms.Term.{Term}
use Rattle.cps_ir.specs.declared.terms.Cps.{Cps}
use Rattle.cps_ir.specs.Terms.{cont_of}
use Rattle.cps_ir.specs.Parts.{Name, Part, lams_of, lambda_at, lambda_part, around, own_parts, parts_of, procs_of, lambdas_of, first_lams, walked_within}
use Rattle.cps_ir.specs.Reaches.{labels_of}
use Rattle.cps_ir.specs.Loads.{is_closed, sum_within, kind_weight, proc_weight, label_weight, open_weight, params_weight, term_weight, escape_of, cont_param}
use Rattle.cps_ir.proofs.ProperLists.{each_append}
use Rattle.cps_ir.proofs.Counts.{tot, sum_tot, tot_append}

module _ (cps : Cps) (cap : ℕ) where
  abbrev pub Sum : ℕ → ℕ → ℕ
  Sum d t = sum_within (term_weight cps) cps d t

  abbrev pub Cut : ℕ → ℕ → ℕ
  Cut d t = if is_closed cps t then 0 else Sum d t

  abbrev pub Within : ℕ → Type 0
  Within t = (d : ℕ) → Sum d t ≤ cap

  -- the sum below a term, and that all below it is within the bound of all
  pub record Light (m t : ℕ) : Type 0 where
    pub each : (d : ℕ) → Sum d t ≤ m
    pub all : (d : ℕ) → AllByRecursion Within (walked_within cps d t)

  -- the same, where a closed term counts nothing
  pub record Behind (m t : ℕ) : Type 0 where
    pub each : (d : ℕ) → Cut d t ≤ m
    pub all : (d : ℕ) → AllByRecursion Within (walked_within cps d t)

  pub behind : (m t : ℕ) → Light m t → Behind m t
  behind m t l = record { each = λ d. by (is_closed cps t) (Sum d t) (l.each d); all = l.all }
    where
      by : (b : Bool) (n : ℕ) → n ≤ m → (if b then 0 else n) ≤ m
      by true n le = omega arith
      by false n le = le

  pub lighter : (m n t : ℕ) → m ≤ n → Light m t → Light n t
  lighter m n t le l = record { each = λ d. (let e = l.each d in omega (arith, e, le)); all = l.all }

  -- ---- parts

  abbrev cuts : ℕ → List Part → ℕ
  cuts d ps = tot (λ p. Cut d p.at) ps

  abbrev walks : ℕ → List Part → List ℕ
  walks d ps = flat_map (λ p. walked_within cps d p.at) ps

  pub record Parts (m : ℕ) (ps : List Part) : Type 0 where
    pub each : (d : ℕ) → cuts d ps ≤ m
    pub all : (d : ℕ) → AllByRecursion Within (walks d ps)

  pub parts_none : Parts 0 []
  parts_none = record { each = λ d. omega arith; all = λ d. tt }

  pub parts_more : (a b m : ℕ) (p : Part) (ps : List Part) → a + b ≤ m → Behind a p.at → Parts b ps → Parts m (p ∷ ps)
  parts_more a b m p ps le h k = record {
    each = λ d. (let e = h.each d in let f = k.each d in omega (arith, e, f, le));
    all = λ d. each_append Within (walked_within cps d p.at) (walks d ps) (h.all d) (k.all d);
  }

  -- ---- procedures that a term names

  abbrev found : List ℕ → List Lam
  found ls = filter_map (lambda_at cps) ls

  pub record Lams (m : ℕ) (names : List Name) (ls : List ℕ) : Type 0 where
    pub each : (d : ℕ) → tot (params_weight cps) (found ls) + cuts d (map (lambda_part names) (found ls)) ≤ m
    pub all : (d : ℕ) → AllByRecursion Within (walks d (map (lambda_part names) (found ls)))

  -- the parameters and the body of a procedure
  pub record LamLight (m : ℕ) (lam : Lam) : Type 0 where
    pub below : ℕ
    pub fits : params_weight cps lam + below ≤ m
    pub body : Behind below lam.body

  pub lams_none : (names : List Name) → Lams 0 names []
  lams_none names = record { each = λ d. omega arith; all = λ d. tt }

  pub lams_more : (a b m : ℕ) (names : List Name) (l : ℕ) (ls : List ℕ) → a + b ≤ m → ((lam : Lam) → slice_get cps.lams.items l ≡ Some lam → LamLight a lam) → Lams b names ls → Lams m names (l ∷ ls)
  lams_more a b m names l ls le h k = record {
    each = λ d. by_each d (nat_lt l (first_lams cps)) (slice_get cps.lams.items l) refl (k.each d);
    all = λ d. by_all d (nat_lt l (first_lams cps)) (slice_get cps.lams.items l) refl (k.all d);
  }
    where
      by_each : (d : ℕ) (c : Bool) (o : Option Lam) → slice_get cps.lams.items l ≡ o → tot (params_weight cps) (found ls) + cuts d (map (lambda_part names) (found ls)) ≤ b
          → tot (params_weight cps) (cons_option (if c then None else o) (found ls)) + cuts d (map (lambda_part names) (cons_option (if c then None else o) (found ls))) ≤ m
      by_each d true o e rest = omega (arith, rest, le)
      by_each d false None e rest = omega (arith, rest, le)
      by_each d false (Some lam) e rest = let z = h lam e in let f = z.fits in let g = z.body.each d in omega (arith, rest, le, f, g)

      by_all : (d : ℕ) (c : Bool) (o : Option Lam) → slice_get cps.lams.items l ≡ o → AllByRecursion Within (walks d (map (lambda_part names) (found ls))) → AllByRecursion Within (walks d (map (lambda_part names) (cons_option (if c then None else o) (found ls))))
      by_all d true o e rest = rest
      by_all d false None e rest = rest
      by_all d false (Some lam) e rest = each_append Within (walked_within cps d lam.body) (walks d (map (lambda_part names) (found ls))) ((h lam e).body.all d) rest

  -- ---- a term

  -- all but the parameters of its procedures
  abbrev pub front : Term → ℕ
  front term = kind_weight term + proc_weight term * length (procs_of term) + sum_by (label_weight cps term) (labels_of term) + sum_by (open_weight cps term) (escape_of term ++ cont_param (cont_of term))

  flat_all : (d : ℕ) (ps qs : List Part) → AllByRecursion Within (walks d ps) → AllByRecursion Within (walks d qs) → AllByRecursion Within (walks d (ps ++ qs))
  flat_all d [] qs h k = k
  flat_all d (p ∷ ps) qs h k = each_append Within (walked_within cps d p.at) (walks d (ps ++ qs)) (first (walked_within cps d p.at) (walks d ps) h) (flat_all d ps qs (second (walked_within cps d p.at) (walks d ps) h) k)
    where
      first : (xs ys : List ℕ) → AllByRecursion Within (xs ++ ys) → AllByRecursion Within xs
      first [] ys h = tt
      first (z ∷ xs) ys h = (h.0, first xs ys h.1)

      second : (xs ys : List ℕ) → AllByRecursion Within (xs ++ ys) → AllByRecursion Within ys
      second [] ys h = h
      second (z ∷ xs) ys h = second xs ys h.1

  pub made : (t : ℕ) (term : Term) (f a b m : ℕ) → slice_get cps.terms.items t ≡ Some term → front term ≤ f → Lams a (around term) (lams_of term) → Parts b (own_parts [] term) → f + a + b ≤ m → m ≤ cap → Light m t
  unfolding sum_within walked_within
  made t term f a b m e fits lams own le small = record { each = each; all = all }
    where
      lam_parts : List Part
      lam_parts = map (lambda_part (around term)) (lambdas_of cps term)

      below : (d : ℕ) → term_weight cps term + sum_by (λ p. Cut d p.at) (parts_of cps [] term) ≤ m
      below d =
          let p = sum_tot (params_weight cps) (lambdas_of cps term) in
          let q = sum_tot (λ (p : Part). Cut d p.at) (parts_of cps [] term) in
          let r = tot_append (λ (p : Part). Cut d p.at) lam_parts (own_parts [] term) in
          let g = lams.each d in
          let h = own.each d in
          omega (arith, p, q, r, g, h, fits, le)

      each : (d : ℕ) → Sum d t ≤ m
      each zero = omega arith
      each (suc d) = subst (λ o. option_map_or (λ s. term_weight cps s + sum_by (λ p. Cut d p.at) (parts_of cps [] s)) o 0 ≤ m) (sym e) (below d)

      all : (d : ℕ) → AllByRecursion Within (walked_within cps d t)
      all zero = tt
      all (suc d) = (
        λ c. (let r = each c in omega (arith, r, small)),
        subst (λ o. AllByRecursion Within (option_map_or (λ s. walks d (parts_of cps [] s)) o [])) (sym e) (flat_all d lam_parts (own_parts [] term) (lams.all d) (own.all d)),
      )
