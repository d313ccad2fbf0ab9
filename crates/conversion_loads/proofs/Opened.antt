-- What has an open occurrence in terms that stand for a node, and which variables are apart.
use Rattle.std.specs.List.{AllByRecursion, filter_map, flat_map}
use Rattle.std.specs.Option.{option_map_or}
use Rattle.std.proofs.Common.{◌≡◌, ◌==◌, ◌||◌, ◌≤◌, ◌+◌, ℕ, zero, suc, Bool, true, false, if◌then◌else◌, ◌⊎◌, inl, inr, List, [], ◌∷◌, ◌++◌, length, map, Option, Some, None, slice_get, refl, sym, ap, ◌∙◌, subst, arith}
use Rattle.std.proofs.lemmas.Bool.{false≢true}
use Rattle.t_base.specs.declared.basics.Var.{Var}
use Rattle.t_meaning.specs.Costs.{is_assigned}
use Rattle.cps_ir.specs.declared.args.Arg.{Arg}
use Rattle.cps_ir.specs.declared.args.Arg.TheVariants as Argument
use Rattle.cps_ir.specs.declared.terms.Cont.TheVariants as Continuation
use Rattle.cps_ir.specs.declared.terms.Lam.{Lam}
use Rattle.cps_ir.specs.declared.terms.Term.{Term}
use Rattle.cps_ir.specs.declared.terms.Term.TheVariants as Step
use Rattle.cps_ir.specs.Parts.{Part, part, Named, lambda_at, lambda_part, proc_of, parts_of, used_by, own_binders, lam_binders, is_assigned as cps_assigned}
use Rattle.cps_ir.specs.Reaches.{is_in, without, binds_of, free_within, free_at}
use Rattle.cps_ir.specs.Loads.{makes_location, opened_within}
use Rattle.cps_ir.proofs.ProperLists.{none_some, some_same}
use Rattle.cps_ir.proofs.Inside.{from_without, in_without}
use Rattle.cps_ir.proofs.Loose.{split_in}
use Rattle.cps_order.specs.Order.{one, tally}
use Rattle.cps_conversion.specs.Conversion.{Translation, Stands, Assigned, adding, adding_assigned}
use Rattle.conversion_laws.specs.Owed.{listed_binders}
use Rattle.conversion_loads.proofs.Free.{Free, ArgOk}

module _ (x : Translation) where
  -- an argument that is no procedure
  abbrev pub NoProc : Arg → Type 0
  NoProc a = ArgOk x 0 (Unit {0}) a

  pub procs_none : (args : List Arg) → AllByRecursion NoProc args → filter_map proc_of args ≡ []
  procs_none [] h = refl
  procs_none (Argument.Const c ∷ args) h = procs_none args h.1
  procs_none (Argument.Var v ∷ args) h = procs_none args h.1
  procs_none (Argument.Proc l ∷ args) h = absurd h.0
  procs_none (Argument.Global g ∷ args) h = procs_none args h.1
  procs_none (Argument.Builtin b ∷ args) h = procs_none args h.1
  procs_none (Argument.Op o ∷ args) h = procs_none args h.1

  -- ---- open occurrences are occurrences

  module _ (y : ℕ) where
    in_left : (xs ys : List ℕ) → is_in xs y ≡ true → is_in (xs ++ ys) y ≡ true
    in_left xs ys e = split_in xs ys y ∙ ap (λ b. b || is_in ys y) e

    in_right : (xs ys : List ℕ) → is_in ys y ≡ true → is_in (xs ++ ys) y ≡ true
    in_right xs ys e = split_in xs ys y ∙ ap (λ b. is_in xs y || b) e ∙ or_true (is_in xs y)
      where
        or_true : (b : Bool) → (b || true) ≡ true
        or_true true = refl
        or_true false = refl

    abbrev FreeParts : ℕ → List Part → List ℕ
    FreeParts e ps = flat_map (λ p. without (binds_of p) (free_within x.cps e p.at)) ps

    flat_from : (g : Part → List ℕ) (ps : List Part) → ((p : Part) → is_in (g p) y ≡ true → (e : ℕ) × (is_in (without (binds_of p) (free_within x.cps e p.at)) y ≡ true)) → is_in (flat_map g ps) y ≡ true → (e : ℕ) × (is_in (FreeParts e ps) y ≡ true)
    flat_from g [] f h = absurd (false≢true h)
    flat_from g (p ∷ ps) f h = by (flat_from g ps f) (is_in (g p) y) refl (sym (split_in (g p) (flat_map g ps) y) ∙ h)
      where
        by : (is_in (flat_map g ps) y ≡ true → (e : ℕ) × (is_in (FreeParts e ps) y ≡ true)) → (b : Bool) → is_in (g p) y ≡ b → (b || is_in (flat_map g ps) y) ≡ true → (e : ℕ) × (is_in (FreeParts e (p ∷ ps)) y ≡ true)
        by go true q r = let here = f p q in (here.0, in_left (without (binds_of p) (free_within x.cps here.0 p.at)) (FreeParts here.0 ps) here.1)
        by go false q r = let rest = go r in (rest.0, in_right (without (binds_of p) (free_within x.cps rest.0 p.at)) (FreeParts rest.0 ps) rest.1)

    abbrev free_list : ℕ → Option Term → List ℕ
    free_list e o = option_map_or (λ term. used_by term ++ FreeParts e (parts_of x.cps [] term)) o []

    abbrev open_part : ℕ → Part → List ℕ
    open_part d p = without (binds_of p) (if p.lambda then free_at x.cps p.at else opened_within x.cps d p.at)

    abbrev open_list : ℕ → Option Term → List ℕ
    open_list d o = option_map_or (λ term. (if makes_location x.cps term then [] else used_by term) ++ flat_map (open_part d) (parts_of x.cps [] term)) o []

    pub opened_free : (d t : ℕ) → is_in (opened_within x.cps d t) y ≡ true → Free x t y
    unfolding opened_within free_within
    opened_free zero t h = absurd (false≢true h)
    opened_free (suc d) t h = let r = by (opened_free d) (slice_get x.cps.terms.items t) h in (suc r.0, r.1)
      where
        in_part : ((u : ℕ) → is_in (opened_within x.cps d u) y ≡ true → Free x u y) → (p : Part) → is_in (open_part d p) y ≡ true → (e : ℕ) × (is_in (without (binds_of p) (free_within x.cps e p.at)) y ≡ true)
        in_part go p q = let both = from_without (binds_of p) (if p.lambda then free_at x.cps p.at else opened_within x.cps d p.at) y q in by_lambda p.lambda both.0 both.1
          where
            by_lambda : (b : Bool) → is_in (if b then free_at x.cps p.at else opened_within x.cps d p.at) y ≡ true → is_in (binds_of p) y ≡ false → (e : ℕ) × (is_in (without (binds_of p) (free_within x.cps e p.at)) y ≡ true)
            by_lambda true r out = (suc (length x.cps.terms.items), in_without (binds_of p) (free_at x.cps p.at) y r out)
            by_lambda false r out = let f = go p.at r in (f.0, in_without (binds_of p) (free_within x.cps f.0 p.at) y f.1 out)

        own : (b : Bool) (xs : List ℕ) → is_in (if b then [] else xs) y ≡ true → is_in xs y ≡ true
        own true xs q = absurd (false≢true q)
        own false xs q = q

        by : ((u : ℕ) → is_in (opened_within x.cps d u) y ≡ true → Free x u y) → (o : Option Term) → is_in (open_list d o) y ≡ true → (e : ℕ) × (is_in (free_list e o) y ≡ true)
        by go None q = absurd (false≢true q)
        by go (Some term) q = split (is_in mine y) refl (sym (split_in mine (flat_map (open_part d) (parts_of x.cps [] term)) y) ∙ q)
          where
            mine : List ℕ
            mine = if makes_location x.cps term then [] else used_by term

            split : (b : Bool) → is_in mine y ≡ b → (b || is_in (flat_map (open_part d) (parts_of x.cps [] term)) y) ≡ true → (e : ℕ) × (is_in (free_list e (Some term)) y ≡ true)
            split true r z = (0, in_left (used_by term) (FreeParts 0 (parts_of x.cps [] term)) (own (makes_location x.cps term) (used_by term) r))
            split false r z = let rest = flat_from (open_part d) (parts_of x.cps [] term) (in_part go) z in (rest.0, in_right (used_by term) (FreeParts rest.0 (parts_of x.cps [] term)) rest.1)

  -- ---- behind Gives that bind assigned variables

  module _ (same : (v : Var) → cps_assigned x.cps v.0 ≡ is_assigned x.unit v) where
    pub opened_behind : (y : ℕ) (held : List ℕ) (vars : List Var) (args : List Arg) (t next : ℕ) → AllByRecursion NoProc args → Assigned x held vars args t next → (d : ℕ) → is_in (opened_within x.cps d t) y ≡ true → Free x next y
    unfolding opened_within
    opened_behind y held [] [] t next ok h d e = subst (λ u. Free x u y) (sym h) (opened_free y d t e)
    opened_behind y held (v ∷ vars) (a ∷ args) t next ok (inl h) d e = opened_behind y held vars args t next ok.1 h.2 d e
    opened_behind y held (v ∷ vars) (a ∷ args) t next ok (inr h) zero e = absurd (false≢true e)
    opened_behind y held (v ∷ vars) (a ∷ args) t next ok (inr h) (suc d) e =
        opened_behind y (v.0 ∷ held) vars args h.2.0 next ok.1 h.2.2 d (inner (a ∷ []) (procs_none (a ∷ []) (ok.0, tt)) (subst (λ o. is_in (open_list y d o) y ≡ true) h.2.1 e))
      where
        term : Term
        term = Step.Give (Continuation.Lam v h.2.0) a

        inner : (as_list : List Arg) → filter_map proc_of (a ∷ []) ≡ [] → is_in (open_list y d (Some term)) y ≡ true → is_in (opened_within x.cps d h.2.0) y ≡ true
        inner as_list none q = last (opened_within x.cps d h.2.0) (subst (λ b. is_in ((if b then [] else used_by term) ++ (open_part y d (part h.2.0 (Named v.0 ∷ []) []) ++ [])) y ≡ true) (same v ∙ h.0) (subst (λ ls. is_in ((if makes_location x.cps term then [] else used_by term) ++ flat_map (open_part y d) (map (lambda_part []) (filter_map (lambda_at x.cps) ls) ++ part h.2.0 (Named v.0 ∷ []) [] ∷ [])) y ≡ true) none q))
          where
            last : (xs : List ℕ) → is_in ([] ++ (without (v.0 ∷ []) xs ++ [])) y ≡ true → is_in xs y ≡ true
            last xs r = (from_without (v.0 ∷ []) xs y (front (is_in (without (v.0 ∷ []) xs) y) (sym (split_in (without (v.0 ∷ []) xs) [] y) ∙ r))).0
              where
                front : (b : Bool) → (b || false) ≡ true → b ≡ true
                front true z = refl
                front false z = z
    opened_behind y held [] (a ∷ args) t next ok h d e = absurd h
    opened_behind y held (v ∷ vars) [] t next ok h d e = absurd h

  -- ---- variables that are added

  pub adding_old : (y : ℕ) (vars : List Var) (held : List ℕ) → is_in held y ≡ true → is_in (adding vars held) y ≡ true
  adding_old y [] held h = h
  adding_old y (v ∷ vars) held h = adding_old y vars (v.0 ∷ held) (or_right (v.0 == y) h)
    where
      or_right : {c : Bool} (b : Bool) → c ≡ true → (b || c) ≡ true
      or_right true e = refl
      or_right false e = e

  pub adding_more : (y : ℕ) (vars : List Var) (bound held : List ℕ) → (is_in bound y ≡ true → is_in held y ≡ true) → is_in (adding vars bound) y ≡ true → is_in (adding vars held) y ≡ true
  adding_more y [] bound held f h = f h
  adding_more y (v ∷ vars) bound held f h = adding_more y vars (v.0 ∷ bound) (v.0 ∷ held) (both (v.0 == y)) h
    where
      both : (b : Bool) → (b || is_in bound y) ≡ true → (b || is_in held y) ≡ true
      both true e = refl
      both false e = f e

  pub head_in : (y : ℕ) (v : Var) (held : List ℕ) → (v.0 == y) ≡ true → is_in (v.0 ∷ held) y ≡ true
  head_in y v held e = ap (λ b. b || is_in held y) e

  -- each of the variables that are added
  pub each_added : (y : ℕ) (vars : List Var) (held : List ℕ) → AllByRecursion (λ v. (v.0 == y) ≡ true → is_in (adding vars held) y ≡ true) vars
  each_added y [] held = tt
  each_added y (v ∷ vars) held = ((λ e. adding_old y vars (v.0 ∷ held) (head_in y v held e)), each_added y vars (v.0 ∷ held))

  pub assigned_old : (y : ℕ) (vars : List Var) (held : List ℕ) → is_in held y ≡ true → is_in (adding_assigned x.unit vars held) y ≡ true
  assigned_old y [] held h = h
  assigned_old y (v ∷ vars) held h = assigned_old y vars (if is_assigned x.unit v then v.0 ∷ held else held) (by (is_assigned x.unit v))
    where
      or_right : (b : Bool) → (b || is_in held y) ≡ true
      or_right true = refl
      or_right false = h

      by : (b : Bool) → is_in (if b then v.0 ∷ held else held) y ≡ true
      by true = or_right (v.0 == y)
      by false = h

  pub each_assigned : (y : ℕ) (vars : List Var) (held : List ℕ) → AllByRecursion (λ v. is_assigned x.unit v ≡ true → (v.0 == y) ≡ true → is_in (adding_assigned x.unit vars held) y ≡ true) vars
  each_assigned y [] held = tt
  each_assigned y (v ∷ vars) held = (
    (λ a e. assigned_old y vars (if is_assigned x.unit v then v.0 ∷ held else held) (subst (λ b. is_in (if b then v.0 ∷ held else held) y ≡ true) (sym a) (head_in y v held e))),
    each_assigned y vars (if is_assigned x.unit v then v.0 ∷ held else held),
  )

  -- ---- a name that is bound once

  -- the k of a Join or of a procedure
  abbrev pub KName : ℕ → Type 0
  KName y = ((t : ℕ) × (j : Var) × (v : Var) × (body : ℕ) × (rest : ℕ) × Stands x t (Step.Join j v body rest) × ((j.0 == y) ≡ true)) ⊎ ((l : ℕ) × (lam : Lam) × (slice_get x.cps.lams.items l ≡ Some lam) × ((lam.k.0 == y) ≡ true))

  tally_in : (xs : List ℕ) (y : ℕ) → is_in xs y ≡ true → 1 ≤ tally xs y
  tally_in [] y h = absurd (false≢true h)
  tally_in (z ∷ xs) y h = by (z == y) h (tally_in xs y)
    where
      by : (b : Bool) → (b || is_in xs y) ≡ true → (is_in xs y ≡ true → 1 ≤ tally xs y) → 1 ≤ one b + tally xs y
      by true e f = omega arith
      by false e f = let k = f e in omega (arith, k)

  tally_both : (xs ys : List ℕ) (y : ℕ) → tally (xs ++ ys) y ≡ tally xs y + tally ys y
  tally_both [] ys y = omega arith
  tally_both (z ∷ xs) ys y = let h = tally_both xs ys y in omega (arith, h)

  tally_one : {X : Type 0} (f : X → List ℕ) (xs : List X) (i : ℕ) (a : X) (y : ℕ) → slice_get xs i ≡ Some a → tally (f a) y ≤ tally (flat_map f xs) y
  tally_one f [] i a y e = none_some a e
  tally_one f (b ∷ xs) zero a y e = subst (λ c. tally (f c) y ≤ tally (flat_map f (b ∷ xs)) y) (some_same b a e) (let h = tally_both (f b) (flat_map f xs) y in omega (arith, h))
  tally_one f (b ∷ xs) (suc i) a y e = let h = tally_both (f b) (flat_map f xs) y in let k = tally_one f xs i a y e in omega (arith, h, k)

  tally_two : {X : Type 0} (f : X → List ℕ) (xs : List X) (i j : ℕ) (a c : X) (y : ℕ) → slice_get xs i ≡ Some a → slice_get xs j ≡ Some c → (a ≡ c) ⊎ (tally (f a) y + tally (f c) y ≤ tally (flat_map f xs) y)
  tally_two f [] i j a c y e q = none_some a e
  tally_two f (b ∷ xs) zero zero a c y e q = inl (sym (some_same b a e) ∙ some_same b c q)
  tally_two f (b ∷ xs) zero (suc j) a c y e q =
      subst (λ z. (z ≡ c) ⊎ (tally (f z) y + tally (f c) y ≤ tally (flat_map f (b ∷ xs)) y)) (some_same b a e) (inr (let h = tally_both (f b) (flat_map f xs) y in let k = tally_one f xs j c y q in omega (arith, h, k)))
  tally_two f (b ∷ xs) (suc i) zero a c y e q =
      subst (λ z. (a ≡ z) ⊎ (tally (f a) y + tally (f z) y ≤ tally (flat_map f (b ∷ xs)) y)) (some_same b c q) (inr (let h = tally_both (f b) (flat_map f xs) y in let k = tally_one f xs i a y e in omega (arith, h, k)))
  tally_two f (b ∷ xs) (suc i) (suc j) a c y e q = by (tally_two f xs i j a c y e q)
    where
      by : (a ≡ c) ⊎ (tally (f a) y + tally (f c) y ≤ tally (flat_map f xs) y) → (a ≡ c) ⊎ (tally (f a) y + tally (f c) y ≤ tally (flat_map f (b ∷ xs)) y)
      by (inl r) = inl r
      by (inr r) = inr (let h = tally_both (f b) (flat_map f xs) y in omega (arith, h, r))

  abbrev IsJoin : Term → Bool
  IsJoin (Step.Join j v body rest) = true
  IsJoin _ = false

  module _ (once : (y : ℕ) → tally (listed_binders x.cps) y ≤ 1) where
    -- no other term binds it
    pub clash : (y t : ℕ) (term : Term) → Stands x t term → IsJoin term ≡ false → is_in (own_binders term) y ≡ true → KName y → ⊥
    clash y t term s kind h (inl k) =
        by (tally_two own_binders x.cps.terms.items t k.0 term (Step.Join k.1 k.2 k.3 k.4) y s k.5)
      where
        join_in : is_in (own_binders (Step.Join k.1 k.2 k.3 k.4)) y ≡ true
        join_in = two (k.2.0 == y) (k.1.0 == y) k.6
          where
            two : (a b : Bool) → b ≡ true → (a || (b || false)) ≡ true
            two true b e = refl
            two false b e = ap (λ c. c || false) e

        by : (term ≡ Step.Join k.1 k.2 k.3 k.4) ⊎ (tally (own_binders term) y + tally (own_binders (Step.Join k.1 k.2 k.3 k.4)) y ≤ tally (flat_map own_binders x.cps.terms.items) y) → ⊥
        by (inl e) = absurd (false≢true (sym kind ∙ ap IsJoin e))
        by (inr le) =
            let a = tally_in (own_binders term) y h in
            let b = tally_in (own_binders (Step.Join k.1 k.2 k.3 k.4)) y join_in in
            let c = tally_both (flat_map own_binders x.cps.terms.items) (flat_map lam_binders x.cps.lams.items) y in
            let d = once y in
            omega (arith, a, b, c, d, le)
    clash y t term s kind h (inr k) =
        let a = tally_in (own_binders term) y h in
        let b = tally_one own_binders x.cps.terms.items t term y s in
        let c = k_in (map (λ (v : Var). v.0) k.1.params) in
        let d = tally_one lam_binders x.cps.lams.items k.0 k.1 y k.2 in
        let e = tally_both (flat_map own_binders x.cps.terms.items) (flat_map lam_binders x.cps.lams.items) y in
        let f = once y in
        absurd (omega (arith, a, b, c, d, e, f))
      where
        k_in : (xs : List ℕ) → 1 ≤ tally (xs ++ k.1.k.0 ∷ []) y
        k_in xs = let r = tally_both xs (k.1.k.0 ∷ []) y in let q = tally_in (k.1.k.0 ∷ []) y (head_in y k.1.k [] k.3) in omega (arith, r, q)

    -- the k of a procedure is none of its parameters
    pub own_clash : (y l : ℕ) (lam : Lam) → slice_get x.cps.lams.items l ≡ Some lam → is_in (map (λ (v : Var). v.0) lam.params) y ≡ true → (lam.k.0 == y) ≡ true → ⊥
    own_clash y l lam s h e =
        let a = tally_in (map (λ (v : Var). v.0) lam.params) y h in
        let b = tally_in (lam.k.0 ∷ []) y (head_in y lam.k [] e) in
        let c = tally_both (map (λ (v : Var). v.0) lam.params) (lam.k.0 ∷ []) y in
        let d = tally_one lam_binders x.cps.lams.items l lam y s in
        let f = tally_both (flat_map own_binders x.cps.terms.items) (flat_map lam_binders x.cps.lams.items) y in
        let g = once y in
        absurd (omega (arith, a, b, c, d, f, g))
