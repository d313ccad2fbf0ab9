-- The terms that stand for a node weigh no more than the nodes under it.
use Rattle.std.specs.Prelude.{sum_by}
use Rattle.std.specs.List.{AllByRecursion, filter_map}
use Rattle.std.proofs.Common.{◌≡◌, ◌==◌, ◌||◌, ◌≤◌, ◌+◌, ◌*◌, ℕ, zero, suc, Bool, true, false, if◌then◌else◌, ◌⊎◌, inl, inr, List, [], ◌∷◌, ◌++◌, length, map, Option, Some, None, slice_get, refl, sym, ap, ◌∙◌, subst, arith}
use Rattle.std.proofs.lemmas.Bool.{true≢false, false≢true, eqb-true}
use Rattle.t_base.specs.declared.basics.Var.{Var}
use Rattle.t_base.specs.declared.shared_parts.Const.TheVariants as Constant
use Rattle.t_core.specs.declared.forms.Core.{Core}
use Rattle.t_core.specs.declared.forms.Core.TheVariants as Node
use Rattle.t_core.specs.declared.forms.Method.{Method}
use Rattle.t_meaning.specs.Programs.{node_at}
use Rattle.t_meaning.specs.Costs.{is_assigned}
use Rattle.cps_ir.specs.declared.args.Arg.{Arg}
use Rattle.cps_ir.specs.declared.args.Arg.TheVariants as Argument
use Rattle.cps_ir.specs.declared.terms.Cont.{Cont}
use Rattle.cps_ir.specs.declared.terms.Cont.TheVariants as Continuation
use Rattle.cps_ir.specs.declared.terms.Lam.{Lam}
use Rattle.cps_ir.specs.declared.terms.Term.{Term}
use Rattle.cps_ir.specs.declared.terms.Term.TheVariants as Step
use Rattle.cps_ir.specs.Terms.{args_of, cont_of}
use Rattle.cps_ir.specs.Parts.{Name, Named, JoinK, place_variable, part, depth_of, named, proc_of, procs_of, lams_of, around, own_parts, cont_parts, is_assigned as cps_assigned}
use Rattle.cps_ir.specs.Reaches.{is_in, labels_of}
use Rattle.cps_ir.specs.Loads.{one_if, kind_weight, proc_weight, escape_of, cont_param, open_weight, label_weight, opened, occurring, opened_at}
use Rattle.cps_ir.proofs.ProperLists.{some_same}
use Rattle.cps_ir.proofs.Loose.{split_in}
use Rattle.cps_ir.proofs.Counts.{tot, sum_tot}
use Rattle.cps_order.specs.Order.{tally}
use Rattle.cps_conversion.specs.Conversion.{Translation, Stands, Converting, Assigned, IsNew, variables, adding, adding_assigned, is_proc, nowhere, Values, OverAll, LamAs, LamAt, WithName, LambdaFor, IfAs, BlockAs, own_place, LetAs, unset, Names, Sets, LambdaNode, LambdaNodes, LabelsAs, CatchAs, MethodsAs, ObjectAs, ConvertsNode, ConvertsWithin}
use Rattle.conversion_laws.specs.Owed.{listed_binders}
use Rattle.conversion_loads.proofs.Free.{Free, FreeCont, ArgOk, VarOk, adding_in, ready_ok, values_free, sets_free, within_free, let_free, if_free, block_free, object_last, plain_free}
use Rattle.conversion_loads.proofs.Opened.{NoProc, procs_none, opened_free, opened_behind, adding_old, adding_more, head_in, each_added, assigned_old, each_assigned, KName, clash, own_clash}
use Rattle.conversion_loads.proofs.Sums.{Light, Behind, Parts, Lams, LamLight, behind, lighter, parts_none, parts_more, lams_none, lams_more, front, made}
use Rattle.conversion_loads.proofs.Params.{assigned_count, same_assigned, params_fewer}

-- one for a node and the variables that it binds, with its parts
abbrev pub total : (ℕ → ℕ) → Core → ℕ
total f (Node.Const c) = 1
total f (Node.Local v) = 1
total f (Node.Global g) = 1
total f (Node.Builtin b) = 1
total f (Node.Op o) = 1
total f (Node.Lambda params body) = 1 + length params + f body
total f (Node.If test first second) = 1 + f test + f first + f second
total f (Node.Block items) = 1 + tot f items
total f (Node.Let vars values body) = 1 + length vars + tot f values + f body
total f (Node.Labels vars lambdas body) = 1 + length vars + tot f lambdas + f body
total f (Node.SetLocal v value) = 1 + f value
total f (Node.SetGlobal g value) = 1 + f value
total f (Node.Catch v body) = 2 + f body
total f (Node.Object proc methods) = 1 + f proc + tot (λ (m : Method). 1 + length m.params + f m.body) methods
total f (Node.Call operator operands tail) = 1 + f operator + tot f operands
total f (Node.Prim b operands) = 1 + tot f operands

total_positive : (f : ℕ → ℕ) (node : Core) → 1 ≤ total f node
total_positive f (Node.Const c) = omega arith
total_positive f (Node.Local v) = omega arith
total_positive f (Node.Global g) = omega arith
total_positive f (Node.Builtin b) = omega arith
total_positive f (Node.Op o) = omega arith
total_positive f (Node.Lambda params body) = omega arith
total_positive f (Node.If test first second) = omega arith
total_positive f (Node.Block items) = omega arith
total_positive f (Node.Let vars values body) = omega arith
total_positive f (Node.Labels vars lambdas body) = omega arith
total_positive f (Node.SetLocal v value) = omega arith
total_positive f (Node.SetGlobal g value) = omega arith
total_positive f (Node.Catch v body) = omega arith
total_positive f (Node.Object proc methods) = omega arith
total_positive f (Node.Call operator operands tail) = omega arith
total_positive f (Node.Prim b operands) = omega arith

module _ (x : Translation) (same : (v : Var) → cps_assigned x.cps v.0 ≡ is_assigned x.unit v) (once : (y : ℕ) → tally (listed_binders x.cps) y ≤ 1) (cap : ℕ)
    (w : ℕ → ℕ → ℕ) (weighs : (form key : ℕ) (node : Core) → node_at x.unit form key ≡ Some node → total (w form) node ≤ w form key) where
  abbrev LightAt : ℕ → ℕ → Type 0
  LightAt m t = Light x.cps cap m t

  abbrev BehindAt : ℕ → ℕ → Type 0
  BehindAt m t = Behind x.cps cap m t

  -- held, or the k of a Join or a procedure
  abbrev Held : List ℕ → ℕ → Type 0
  Held held y = (is_in held y ≡ true) ⊎ KName x y

  pub record Ctx (bound held : List ℕ) (k : Cont) : Type 0 where
    pub inside : (y : ℕ) → is_in bound y ≡ true → is_in held y ≡ true
    pub cont : (y : ℕ) → FreeCont x k y → Held held y

  -- what a continuation that is written out weighs, with its parameter
  abbrev pub Costs : ℕ → Cont → Type 0
  Costs d (Continuation.Var k) = Unit {0}
  Costs d (Continuation.Lam v body) = (m : ℕ) × (suc m ≤ d) × BehindAt m body

  one_at_most : (b : Bool) → one_if b ≤ 1
  one_at_most true = omega arith
  one_at_most false = omega arith

  also : (v : Var) (held : List ℕ) (y : ℕ) → Held held y → Held (v.0 ∷ held) y
  also v held y (inl h) = inl (adding_old x y (v ∷ []) held h)
  also v held y (inr h) = inr h

  added : (vars : List Var) (held : List ℕ) (y : ℕ) → Held held y → Held (adding vars held) y
  added vars held y (inl h) = inl (adding_old x y vars held h)
  added vars held y (inr h) = inr h

  -- ---- terms with a continuation

  ones_at_most : (f : ℕ → Bool) (xs : List ℕ) → tot (λ y. one_if (f y)) xs ≤ length xs
  ones_at_most f [] = omega arith
  ones_at_most f (y ∷ xs) = let a = one_at_most (f y) in let b = ones_at_most f xs in omega (arith, a, b)

  nothing_times : (n : ℕ) → n * 0 ≡ 0
  nothing_times n = omega arith

  pub front_least : (term : Term) (xs : List ℕ) → kind_weight term ≡ 0 → procs_of term ≡ [] → labels_of term ≡ [] → escape_of term ++ cont_param (cont_of term) ≡ xs → front x.cps cap term ≤ length xs
  front_least term xs k p l e =
      let a : proc_weight term * length (procs_of term) ≡ 0 = ap (λ ls. proc_weight term * length ls) p ∙ nothing_times (proc_weight term) in
      let b : sum_by (label_weight x.cps term) (labels_of term) ≡ 0 = ap (sum_by (label_weight x.cps term)) l in
      let c : sum_by (open_weight x.cps term) (escape_of term ++ cont_param (cont_of term)) ≡ tot (open_weight x.cps term) xs = ap (sum_by (open_weight x.cps term)) e ∙ sum_tot (open_weight x.cps term) xs in
      let d : tot (open_weight x.cps term) xs ≤ length xs = ones_at_most (λ y. cps_assigned x.cps y || is_in (opened x.cps term) y) xs in
      omega (arith, k, a, b, c, d)

  parts_cont : (d : ℕ) (k : Cont) → Costs d k → (b : ℕ) × Parts x.cps cap b (cont_parts [] (Some k)) × (length (cont_param (Some k)) + b ≤ d)
  parts_cont d (Continuation.Var k) h = (0, parts_none x.cps cap, omega arith)
  parts_cont d (Continuation.Lam v body) h = let le = h.1 in (h.0, parts_more x.cps cap h.0 0 h.0 (part body (Named v.0 ∷ []) []) [] (omega arith) h.2 (parts_none x.cps cap), omega (arith, le))

  -- a term whose only part is its continuation's
  term_light : (t : ℕ) (term : Term) (k : Cont) (d m : ℕ) → Stands x t term → kind_weight term ≡ 0 → procs_of term ≡ [] → lams_of term ≡ procs_of term → labels_of term ≡ [] → escape_of term ++ cont_param (cont_of term) ≡ cont_param (Some k) → own_parts [] term ≡ cont_parts [] (Some k) → Costs d k → d ≤ m → m ≤ cap → LightAt m t
  term_light t term k d m s kind procs lams labels opens own costs le small =
      let c = parts_cont d k costs in
      let fits = c.2 in
      made x.cps cap t term (length (cont_param (Some k))) 0 c.0 m s (front_least term (cont_param (Some k)) kind procs labels opens)
      (subst (Lams x.cps cap 0 (around term)) (sym (lams ∙ procs)) (lams_none x.cps cap (around term)))
      (subst (Parts x.cps cap c.0) (sym own) c.1) (omega (arith, fits, le)) small

  give_light : (t : ℕ) (k : Cont) (a : Arg) (d m : ℕ) → Stands x t (Step.Give k a) → NoProc x a → Costs d k → d ≤ m → m ≤ cap → LightAt m t
  give_light t k a d m s ok = term_light t (Step.Give k a) k d m s refl (procs_none x (a ∷ []) (ok, tt)) refl refl refl refl

  -- ---- variables that are bound anew

  count_least : (vars : List Var) → assigned_count x same vars ≤ length vars
  count_least [] = omega arith
  count_least (v ∷ vars) = let a = one_at_most (is_assigned x.unit v) in let b = count_least vars in omega (arith, a, b)

  assigned_light : (held : List ℕ) (vars : List Var) (args : List Arg) (t next mb m : ℕ) → AllByRecursion (NoProc x) args → LightAt mb next → assigned_count x same vars + mb ≤ m → m ≤ cap → Assigned x held vars args t next → LightAt m t
  assigned_light held [] [] t next mb m ok l le small h = subst (LightAt m) h (lighter x.cps cap mb m next (omega (arith, le)) l)
  assigned_light held (v ∷ vars) (a ∷ args) t next mb m ok l le small (inl h) = assigned_light held vars args t next mb m ok.1 l (omega (arith, le)) small h.2
  assigned_light held (v ∷ vars) (a ∷ args) t next mb m ok l le small (inr h) =
      let one : one_if (is_assigned x.unit v) ≡ 1 = ap one_if h.0 in
      let mr = assigned_count x same vars + mb in
      give_light t (Continuation.Lam v h.2.0) a (suc mr) m h.2.1 ok.0
      (mr, omega arith, behind x.cps cap mr h.2.0 (assigned_light (v.0 ∷ held) vars args h.2.0 next mb mr ok.1 l (omega arith) (omega (arith, le, small, one)) h.2.2))
      (omega (arith, le, one)) small
  assigned_light held [] (a ∷ args) t next mb m ok l le small h = absurd h
  assigned_light held (v ∷ vars) [] t next mb m ok l le small h = absurd h

  args_count : (held : List ℕ) (vars ys : List Var) (t next : ℕ) → Assigned x held vars (variables ys) t next → length ys ≡ length vars
  args_count held [] [] t next h = refl
  args_count held (v ∷ vars) (y ∷ ys) t next (inl h) = ap suc (args_count held vars ys t next h.2)
  args_count held (v ∷ vars) (y ∷ ys) t next (inr h) = ap suc (args_count (v.0 ∷ held) vars ys h.2.0 next h.2.2)
  args_count held [] (y ∷ ys) t next h = absurd h
  args_count held (v ∷ vars) [] t next h = absurd h

  variables_plain : (vars : List Var) → AllByRecursion (NoProc x) (variables vars)
  variables_plain [] = tt
  variables_plain (v ∷ vars) = ((λ e. tt), variables_plain vars)

  unset_plain : (vars : List Var) → AllByRecursion (NoProc x) (map (unset x.unit) vars)
  unset_plain [] = tt
  unset_plain (v ∷ vars) = (by (is_assigned x.unit v), unset_plain vars)
    where
      by : (b : Bool) → NoProc x (if b then Argument.Const Constant.Nil else Argument.Var v)
      by true = tt
      by false = λ e. tt

  equal_self : (n : ℕ) → (n == n) ≡ true
  equal_self n = grind arith

  each_member : (P : Var → Type 0) (xs : List Var) → ((y : Var) → is_in (map (λ (v : Var). v.0) xs) y.0 ≡ true → P y) → AllByRecursion P xs
  each_member P [] f = tt
  each_member P (y ∷ xs) f = (f y (head_in x y.0 y (map (λ (v : Var). v.0) xs) (equal_self y.0)), each_member P xs (λ z e. f z (or_right (y.0 == z.0) (is_in (map (λ (v : Var). v.0) xs) z.0) e)))
    where
      or_right : (b c : Bool) → c ≡ true → (b || c) ≡ true
      or_right true c e = refl
      or_right false c e = e

  alone : (y : ℕ) (xs : List ℕ) → is_in (xs ++ []) y ≡ true → is_in xs y ≡ true
  alone y xs e = front_one (is_in xs y) (sym (split_in xs [] y) ∙ e)
    where
      front_one : (b : Bool) → (b || false) ≡ true → b ≡ true
      front_one true q = refl
      front_one false q = q

  less : (n : ℕ) → 1 ≤ n → (m : ℕ) × (n ≡ suc m)
  less zero le = absurd (omega (arith, le))
  less (suc n) le = (n, refl)

  -- ---- nodes, where all that is nested less deep is known

  module _ (n : ℕ) (go : (form : ℕ) (bound held : List ℕ) (key : ℕ) (k : Cont) (t d m : ℕ) → Ctx bound held k → Costs d k → w form key + d ≤ suc m → m ≤ cap → ConvertsWithin x n form bound held key k t → LightAt m t) where
    abbrev conv : Converting
    conv = ConvertsWithin x n

    heavy : (form : ℕ) (bound held : List ℕ) (key : ℕ) (k : Cont) (t : ℕ) → conv form bound held key k t → 1 ≤ w form key
    heavy form bound held key k t h = by n h
      where
        at : (j : ℕ) (node : Option Core) → node_at x.unit form key ≡ node → ConvertsNode x (ConvertsWithin x j) form bound held key node k t → 1 ≤ w form key
        at j None e h = absurd h
        at j (Some node) e h = let a = weighs form key node e in let b = total_positive (w form) node in omega (arith, a, b)

        by : (j : ℕ) → ConvertsWithin x j form bound held key k t → 1 ≤ w form key
        by zero h = absurd h
        by (suc j) h = at j (node_at x.unit form key) refl h

    values_plain : (form : ℕ) (bound held : List ℕ) (tos : List (Option Var)) (keys : List ℕ) (args : List Arg) (t last : ℕ) (inner : List ℕ) → Values x conv form bound held tos keys args t last inner → AllByRecursion (NoProc x) args
    values_plain form bound held [] [] [] t last inner h = tt
    values_plain form bound held (None ∷ tos) (key ∷ keys) (a ∷ args) t last inner (inl h) = (ready_ok x 0 (Unit {0}) form key bound a (λ e. tt) h.0 h.1, values_plain form bound held tos keys args t last inner h.2)
    values_plain form bound held (None ∷ tos) (key ∷ keys) (a ∷ args) t last inner (inr h) = (subst (NoProc x) (sym h.1.2) (λ e. tt), values_plain form bound (h.1.0.0 ∷ held) tos keys args h.1.1 last inner h.1.5)
    values_plain form bound held (Some v ∷ tos) (key ∷ keys) (a ∷ args) t last inner h = (subst (NoProc x) (sym h.1) (λ e. tt), values_plain form bound (v.0 ∷ held) tos keys args h.0 last inner h.4)
    values_plain form bound held [] [] (a ∷ args) t last inner h = absurd h
    values_plain form bound held [] (key ∷ keys) args t last inner h = absurd h
    values_plain form bound held (None ∷ tos) [] args t last inner h = absurd h
    values_plain form bound held (Some v ∷ tos) [] args t last inner h = absurd h
    values_plain form bound held (None ∷ tos) (key ∷ keys) [] t last inner h = absurd h
    values_plain form bound held (Some v ∷ tos) (key ∷ keys) [] t last inner h = absurd h

    -- what is free behind the values is among the arguments or held
    abbrev Last : List ℕ → List Arg → ℕ → Type 1
    Last held args last = (y : ℕ) (Q : Type 0) → (Held held y → Q) → AllByRecursion (ArgOk x y Q) args → Free x last y → Q

    -- a node's value goes to a variable, which stands as an argument
    value_light : (form : ℕ) (bound held : List ℕ) (tos : List (Option Var)) (key : ℕ) (keys : List ℕ) (v : Var) (a : Arg) (args : List Arg) (t next last : ℕ) (inner : List ℕ) (mn m : ℕ) → ((y : ℕ) → is_in bound y ≡ true → is_in held y ≡ true) → Last held (a ∷ args) last
        → a ≡ Argument.Var v → conv form bound held key (Continuation.Lam v next) t → Values x conv form bound (v.0 ∷ held) tos keys args next last inner → LightAt mn next → w form key + mn ≤ m → m ≤ cap → LightAt m t
    value_light form bound held tos key keys v a args t next last inner mn m inside free e c vs l le small =
        go form bound held key (Continuation.Lam v next) t (suc mn) m
        (record {
          inside = inside;
          cont = λ y r. values_free x y (Held held y) n (within_free x y (Held held y) n) form bound (v.0 ∷ held) tos keys args next last inner (λ b. inl (inside y b))
              (λ given q. free y (Held held y) (λ z. z) (subst (ArgOk x y (Held held y)) (sym e) (λ p. absurd (true≢false (sym p ∙ r.1))), given) q) vs r.0;
        })
        (mn, omega arith, behind x.cps cap mn next l) (omega (arith, le)) small c

    wider : (v : Var) (held : List ℕ) (a : Arg) (args : List Arg) (last : ℕ) → a ≡ Argument.Var v → Last held (a ∷ args) last → Last (v.0 ∷ held) args last
    wider v held a args last e free y Q r given q = free y Q (λ h. r (also v held y h)) (subst (ArgOk x y Q) (sym e) (λ p. r (inl (head_in x y v held p))), given) q

    inside_more : (v : Var) (bound held : List ℕ) → ((y : ℕ) → is_in bound y ≡ true → is_in held y ≡ true) → (y : ℕ) → is_in bound y ≡ true → is_in (v.0 ∷ held) y ≡ true
    inside_more v bound held f y h = adding_old x y (v ∷ []) held (f y h)

    values_light : (form : ℕ) (bound held : List ℕ) (tos : List (Option Var)) (keys : List ℕ) (args : List Arg) (t last : ℕ) (inner : List ℕ) (ml m : ℕ) → ((y : ℕ) → is_in bound y ≡ true → is_in held y ≡ true) → Last held args last → LightAt ml last → tot (w form) keys + ml ≤ m → m ≤ cap → Values x conv form bound held tos keys args t last inner → LightAt m t
    values_light form bound held [] [] [] t last inner ml m inside free l le small h = subst (LightAt m) h.0 (lighter x.cps cap ml m last (omega (arith, le)) l)
    values_light form bound held (None ∷ tos) (key ∷ keys) (a ∷ args) t last inner ml m inside free l le small (inl h) =
        values_light form bound held tos keys args t last inner ml m inside (λ y Q r given q. free y Q r (ready_ok x y Q form key bound a (λ b. r (inl (inside y b))) h.0 h.1, given) q) l (omega (arith, le)) small h.2
    values_light form bound held (None ∷ tos) (key ∷ keys) (a ∷ args) t last inner ml m inside free l le small (inr h) =
        let mn = tot (w form) keys + ml in
        let v = h.1.0 in
        value_light form bound held tos key keys v a args t h.1.1 last inner mn m inside free h.1.2 h.1.4 h.1.5
        (values_light form bound (v.0 ∷ held) tos keys args h.1.1 last inner ml mn (inside_more v bound held inside) (wider v held a args last h.1.2 free) l (omega arith) (omega (arith, le, small)) h.1.5)
        (omega (arith, le)) small
    values_light form bound held (Some v ∷ tos) (key ∷ keys) (a ∷ args) t last inner ml m inside free l le small h =
        let mn = tot (w form) keys + ml in
        value_light form bound held tos key keys v a args t h.0 last inner mn m inside free h.1 h.3 h.4
        (values_light form bound (v.0 ∷ held) tos keys args h.0 last inner ml mn (inside_more v bound held inside) (wider v held a args last h.1 free) l (omega arith) (omega (arith, le, small)) h.4)
        (omega (arith, le)) small
    values_light form bound held [] [] (a ∷ args) t last inner ml m inside free l le small h = absurd h
    values_light form bound held [] (key ∷ keys) args t last inner ml m inside free l le small h = absurd h
    values_light form bound held (None ∷ tos) [] args t last inner ml m inside free l le small h = absurd h
    values_light form bound held (Some v ∷ tos) [] args t last inner ml m inside free l le small h = absurd h
    values_light form bound held (None ∷ tos) (key ∷ keys) [] t last inner ml m inside free l le small h = absurd h
    values_light form bound held (Some v ∷ tos) (key ∷ keys) [] t last inner ml m inside free l le small h = absurd h

    over_light : (form : ℕ) (bound held : List ℕ) (keys : List ℕ) (args : List Arg) (term : Term) (t ml m : ℕ) → ((y : ℕ) → is_in bound y ≡ true → is_in held y ≡ true)
        → ((u : ℕ) → Stands x u term → Last held args u) → (AllByRecursion (NoProc x) args → (u : ℕ) → Stands x u term → LightAt ml u) → tot (w form) keys + ml ≤ m → m ≤ cap → OverAll x conv form bound held keys args term t → LightAt m t
    over_light form bound held keys args term t ml m inside free l le small h =
        values_light form bound held (nowhere keys) keys args t h.last h.inner ml m inside (free h.last h.stands) (l (values_plain form bound held (nowhere keys) keys args t h.last h.inner h.values) h.last h.stands) le small h.values

    -- ---- procedures

    lam_is_light : (form : ℕ) (bound : List ℕ) (params : List Var) (body l : ℕ) (lam : Lam) (m : ℕ) → slice_get x.cps.lams.items l ≡ Some lam → LamAs x conv form bound params body lam → length params + w form body ≤ suc m → m ≤ cap → LamLight x.cps cap m lam
    lam_is_light form bound params body l lam m s h le small =
        let b = less (w form body) (heavy form (adding params bound) (adding params bound) body (Continuation.Var lam.k) h.start h.body_as) in
        let be = b.1 in
        let count = args_count (adding lam.params bound) params lam.params lam.body h.start h.assigned in
        let few = count_least params in
        let weight = sum_tot (λ (p : Var). one_if (is_in (opened_at x.cps lam.body) p.0)) lam.params in
        let fewer = params_fewer x same (is_in (opened_at x.cps lam.body)) bound bound (adding lam.params bound) params lam.params lam.body h.start h.assigned h.names_new (λ z un e. e)
        (each_member (λ (y : Var). is_in (opened_at x.cps lam.body) y.0 ≡ true → is_in (adding params bound) y.0 ≡ true) lam.params
        (λ y member e. within_free x y.0 (is_in (adding params bound) y.0 ≡ true) n form (adding params bound) (adding params bound) body (Continuation.Var lam.k) h.start (λ q. q)
        (λ q. absurd (own_clash x once y.0 l lam s member q)) h.body_as
        (opened_behind x same y.0 (adding lam.params bound) params (variables lam.params) lam.body h.start (variables_plain lam.params) h.assigned (depth_of x.cps) e))) in
        record {
          below = assigned_count x same params + b.0;
          fits = omega (arith, weight, fewer, count, le, be);
          body = behind x.cps cap (assigned_count x same params + b.0) lam.body
              (assigned_light (adding lam.params bound) params (variables lam.params) lam.body h.start b.0 (assigned_count x same params + b.0) (variables_plain lam.params)
              (go form (adding params bound) (adding params bound) body (Continuation.Var lam.k) h.start 0 b.0 (record { inside = λ y e. e; cont = λ y e. inr (inr (l, lam, s, e)) }) tt (omega (arith, be)) (omega (arith, be, le, small)) h.body_as)
              (omega arith) (omega (arith, be, le, small, few)) h.assigned);
        }

    pub lam_light : (form : ℕ) (bound : List ℕ) (params : List Var) (body l m : ℕ) → LamAt x conv form bound params body l → length params + w form body ≤ suc m → m ≤ cap → (lam : Lam) → slice_get x.cps.lams.items l ≡ Some lam → LamLight x.cps cap m lam
    lam_light form bound params body l m h le small lam e = subst (LamLight x.cps cap m) (some_same h.0 lam (sym h.1 ∙ e)) (lam_is_light form bound params body l h.0 m h.1 h.2 le small)

    -- ---- nodes, by their kinds

    named_light : (bound held : List ℕ) (k : Cont) (t : ℕ) (rest_as : Cont → ℕ → Type 0) (d m need : ℕ) → Ctx bound held k → Costs d k → 1 ≤ need → need + d ≤ suc m → m ≤ cap
        → ((j : Var) (u p : ℕ) → Ctx bound held (Continuation.Var j) → need ≤ suc p → p ≤ cap → rest_as (Continuation.Var j) u → LightAt p u) → WithName x k t rest_as → LightAt m t
    named_light bound held (Continuation.Var k) t rest_as d m need ctx costs positive le small f h = f k t m ctx (omega (arith, le)) small h
    named_light bound held (Continuation.Lam v body) t rest_as d m need ctx costs positive le small f h =
        let q = less need positive in
        let qe = q.1 in
        let ce = costs.1 in
        made x.cps cap t (Step.Join h.0 v body h.1) 1 0 (costs.0 + q.0) m h.2 (omega arith) (lams_none x.cps cap [])
        (parts_more x.cps cap costs.0 q.0 (costs.0 + q.0) (part body (Named v.0 ∷ []) []) (part h.1 (JoinK h.0.0 [] ∷ []) [] ∷ []) (omega arith) costs.2
        (parts_more x.cps cap q.0 0 q.0 (part h.1 (JoinK h.0.0 [] ∷ []) []) [] (omega arith)
        (behind x.cps cap q.0 h.1 (f h.0 h.1 q.0 (record { inside = ctx.inside; cont = λ y e. inr (inl (t, h.0, v, body, h.1, h.2, e)) }) (omega (arith, qe)) (omega (arith, qe, ce, le, small)) h.3)) (parts_none x.cps cap)))
        (omega (arith, qe, ce, le)) small

    lambda_for : (form key : ℕ) (bound held : List ℕ) (params : List Var) (body : ℕ) (k : Cont) (t d m : ℕ) → Costs d k → 1 + length params + w form body + d ≤ suc m → 1 ≤ w form body → m ≤ cap → LambdaFor x conv form bound held key params body k t → LightAt m t
    lambda_for form key bound held params body (Continuation.Var k) t d m costs le positive small h =
        let b = less (w form body) positive in
        let be = b.1 in
        made x.cps cap t (Step.Give (Continuation.Var k) (Argument.Proc h.0)) 1 (length params + b.0) 0 m h.2 (omega arith)
        (lams_more x.cps cap (length params + b.0) 0 (length params + b.0) [] h.0 [] (omega arith) (lam_light form bound params body h.0 (length params + b.0) h.1.lam_at (omega (arith, be)) (omega (arith, be, le, small))) (lams_none x.cps cap []))
        (parts_none x.cps cap) (omega (arith, be, le)) small
    lambda_for form key bound held params body (Continuation.Lam v rest) t d m costs le positive small h =
        let b = less (w form body) positive in
        let be = b.1 in
        let ce = costs.1 in
        let names = named (v ∷ []) in
        made x.cps cap t (Step.Labels (v ∷ []) (h.0 ∷ []) rest) 2 (length params + b.0) costs.0 m h.3
        (two (is_in (occurring x.cps (Step.Labels (v ∷ []) (h.0 ∷ []) rest)) v.0) (is_in (opened x.cps (Step.Labels (v ∷ []) (h.0 ∷ []) rest)) v.0))
        (lams_more x.cps cap (length params + b.0) 0 (length params + b.0) names h.0 [] (omega arith) (lam_light form bound params body h.0 (length params + b.0) h.2.lam_at (omega (arith, be)) (omega (arith, be, le, small))) (lams_none x.cps cap names))
        (parts_more x.cps cap costs.0 0 costs.0 (part rest names []) [] (omega arith) costs.2 (parts_none x.cps cap)) (omega (arith, be, le, ce)) small
      where
        two : (a c : Bool) → 0 + 2 * 0 + (0 + (one_if a + one_if c)) + 0 ≤ 2
        two a c = let p = one_at_most a in let q = one_at_most c in omega (arith, p, q)

    if_light : (form : ℕ) (bound held : List ℕ) (test first second : ℕ) (j : Var) (u p : ℕ) → Ctx bound held (Continuation.Var j) → 1 + w form test + w form first + w form second ≤ suc p → p ≤ cap → IfAs x conv form bound held test first second (Continuation.Var j) u → LightAt p u
    if_light form bound held test first second j u p ctx le small h =
        let k = Continuation.Var j in
        let a = less (w form first) (heavy form bound held first k h.first_at h.first_as) in
        let b = less (w form second) (heavy form bound held second k h.second_at h.second_as) in
        let ae = a.1 in
        let be = b.1 in
        let value = h.over.0 in
        over_light form bound held (test ∷ []) (value ∷ []) (Step.If value h.first_at h.second_at) u (1 + a.0 + b.0) p ctx.inside
        (λ v s y Q r given q. if_free x y Q n (within_free x y Q n) form bound held first second k value h.first_at h.second_at v (λ e. r (inl (ctx.inside y e))) (λ e. r (ctx.cont y e)) h.first_as h.second_as given s q)
        (λ plain v s.
        made x.cps cap v (Step.If value h.first_at h.second_at) 1 0 (a.0 + b.0) (1 + a.0 + b.0) s (one_front value h.first_at h.second_at (procs_none x (value ∷ []) plain))
        (subst (Lams x.cps cap 0 []) (sym (procs_none x (value ∷ []) plain)) (lams_none x.cps cap []))
        (parts_more x.cps cap a.0 b.0 (a.0 + b.0) (part h.first_at [] []) (part h.second_at [] [] ∷ []) (omega arith)
        (behind x.cps cap a.0 h.first_at (go form bound held first k h.first_at 0 a.0 ctx tt (omega (arith, ae)) (omega (arith, ae, le, small)) h.first_as))
        (parts_more x.cps cap b.0 0 b.0 (part h.second_at [] []) [] (omega arith)
        (behind x.cps cap b.0 h.second_at (go form bound held second k h.second_at 0 b.0 ctx tt (omega (arith, be)) (omega (arith, be, le, small)) h.second_as)) (parts_none x.cps cap)))
        (omega arith) (omega (arith, ae, be, le, small)))
        (omega (arith, ae, be, le)) small h.over.1
      where
        one_front : (a : Arg) (s t : ℕ) → procs_of (Step.If a s t) ≡ [] → front x.cps cap (Step.If a s t) ≤ 1
        one_front a s t e = let z : 2 * length (procs_of (Step.If a s t)) ≡ 0 = ap (λ ls. 2 * length ls) e in omega (arith, z)

    block_light : (form : ℕ) (bound held : List ℕ) (items : List ℕ) (k : Cont) (t d m : ℕ) → Ctx bound held k → Costs d k → tot (w form) items + d ≤ m → m ≤ cap → BlockAs x conv form bound held items k t → LightAt m t
    block_light form bound held [] k t d m ctx costs le small h = absurd h
    block_light form bound held (key ∷ []) k t d m ctx costs le small h = go form bound held key k t d m ctx costs (omega (arith, le)) small h
    block_light form bound held (key ∷ next ∷ keys) k t d m ctx costs le small h =
        let mr = tot (w form) (next ∷ keys) + d in
        go form bound held key (Continuation.Lam h.0 h.1) t (suc mr) m
        (record { inside = ctx.inside; cont = λ y r. block_free x y (Held held y) n (within_free x y (Held held y) n) form bound held (next ∷ keys) k h.1 (λ b. inl (ctx.inside y b)) (ctx.cont y) h.4 r.0 })
        (mr, omega arith, behind x.cps cap mr h.1 (block_light form bound held (next ∷ keys) k h.1 d mr ctx costs (omega arith) (omega (arith, le, small)) h.4)) (omega (arith, le)) small h.3

    -- the body of a LET or a LABELS
    body_ctx : (vars : List Var) (bound held : List ℕ) (k : Cont) → Ctx bound held k → Ctx (adding vars bound) (adding vars held) k
    body_ctx vars bound held k ctx = record { inside = λ y e. adding_more x y vars bound held (ctx.inside y) e; cont = λ y f. added vars held y (ctx.cont y f) }

    let_light : (form : ℕ) (bound held : List ℕ) (vars : List Var) (keys : List ℕ) (body : ℕ) (k : Cont) (t d m : ℕ) → Ctx bound held k → Costs d k → 1 + length vars + tot (w form) keys + w form body + d ≤ suc m → m ≤ cap → LetAs x conv form bound held vars keys body k t → LightAt m t
    let_light form bound held vars keys body k t d m ctx costs le small h =
        let b = less (w form body) (heavy form (adding vars bound) (adding vars held) body k h.start h.body_as) in
        let be = b.1 in
        let few = count_least vars in
        let ms = b.0 + d in
        let ml = assigned_count x same vars + ms in
        let tos = map (own_place x.unit) vars in
        values_light form bound held tos keys h.args t h.behind h.inner ml m ctx.inside
        (λ y Q r given q. let_free x y Q n (within_free x y Q n) form bound h.inner held vars h.args body k h.behind h.start (λ e. r (inl (ctx.inside y e))) (λ e. r (ctx.cont y e)) h.assigned h.body_as given q)
        (assigned_light h.inner vars h.args h.behind h.start ms ml (values_plain form bound held tos keys h.args t h.behind h.inner h.values)
        (go form (adding vars bound) (adding vars held) body k h.start d ms (body_ctx vars bound held k ctx) costs (omega (arith, be)) (omega (arith, be, le, small)) h.body_as) (omega arith) (omega (arith, be, le, small, few)) h.assigned)
        (omega (arith, be, le, few)) small h.values

    pub simple_light : (form : ℕ) (bound held : List ℕ) (keys : List ℕ) (args : List Arg) (term : Term) (k : Cont) (t d m : ℕ) → Ctx bound held k → Costs d k
        → kind_weight term ≡ 0 → args_of term ≡ args → lams_of term ≡ procs_of term → labels_of term ≡ [] → escape_of term ++ cont_param (cont_of term) ≡ cont_param (Some k) → own_parts [] term ≡ cont_parts [] (Some k) → cont_of term ≡ Some k
        → ((y : ℕ) → is_in (place_variable term) y ≡ true → is_in held y ≡ true) → tot (w form) keys + d ≤ m → m ≤ cap → OverAll x conv form bound held keys args term t → LightAt m t
    simple_light form bound held keys args term k t d m ctx costs kind as_args lams labels opens own cont place le small h =
        over_light form bound held keys args term t d m ctx.inside
        (λ u s y Q r given q. plain_free x y Q n (within_free x y Q n) u term k s (subst (AllByRecursion (ArgOk x y Q)) (sym as_args) given) lams own cont (λ e. r (inl (place y e))) (λ e. r (ctx.cont y e)) q)
        (λ plain u s. term_light u term k d d s kind (ap (filter_map proc_of) as_args ∙ procs_none x args plain) lams labels opens own costs (omega arith) (omega (arith, le, small)))
        le small h

    -- ---- CATCH, OBJECT

    catch_light : (form : ℕ) (bound held : List ℕ) (v : Var) (body : ℕ) (j : Var) (t p : ℕ) → Ctx bound held (Continuation.Var j) → 2 + w form body ≤ suc p → p ≤ cap → CatchAs x conv form bound held v body (Continuation.Var j) t → LightAt p t
    catch_light form bound held v body j t p ctx le small h =
        made x.cps cap t term (open_weight x.cps term h.name.0) 0 (assigned_count x same (v ∷ []) + w form body) p h.stands (omega arith) (lams_none x.cps cap [])
        (parts_more x.cps cap (assigned_count x same (v ∷ []) + w form body) 0 (assigned_count x same (v ∷ []) + w form body) (part h.inner (Named h.name.0 ∷ []) (h.name.0 ∷ [])) [] (omega arith)
        (behind x.cps cap (assigned_count x same (v ∷ []) + w form body) h.inner
        (assigned_light (h.name.0 ∷ held) (v ∷ []) (Argument.Var h.name ∷ []) h.inner h.start (w form body) (assigned_count x same (v ∷ []) + w form body) ((λ e. tt), tt)
        (go form (v.0 ∷ bound) (v.0 ∷ held) body (Continuation.Lam h.value h.end) h.start 1 (w form body)
        (record {
          inside = λ y e. adding_more x y (v ∷ []) bound held (ctx.inside y) e;
          cont = λ y r. plain_free x y (Held (v.0 ∷ held) y) n (within_free x y (Held (v.0 ∷ held) y) n) h.end (Step.Uncatch (Continuation.Var j) (Argument.Var h.value)) (Continuation.Var j) h.ends ((λ q. absurd (true≢false (sym q ∙ r.1))), tt) refl refl refl
              (λ e. absurd (false≢true e)) (λ f. also v held y (ctx.cont y f)) r.0;
        })
        (0, omega arith, behind x.cps cap 0 h.end (term_light h.end (Step.Uncatch (Continuation.Var j) (Argument.Var h.value)) (Continuation.Var j) 0 0 h.ends refl refl refl refl refl refl tt (omega arith) (omega arith)))
        (omega arith) (omega (arith, le, small)) h.body_as)
        (omega arith) (omega (arith, le, small, one)) h.assigned)) (parts_none x.cps cap))
        (omega (arith, le, one)) small
      where
        term : Term
        term = Step.Catch h.name h.inner (Continuation.Var j)

        name_free : is_assigned x.unit v ≡ true → Free x h.start h.name.0 → ⊥
        name_free assigned =
            within_free x h.name.0 ⊥ n form (v.0 ∷ bound) (v.0 ∷ held) body (Continuation.Lam h.value h.end) h.start
            (λ e. in_bound (v.0 == h.name.0) refl e)
            (λ r. plain_free x h.name.0 ⊥ n (within_free x h.name.0 ⊥ n) h.end (Step.Uncatch (Continuation.Var j) (Argument.Var h.value)) (Continuation.Var j) h.ends ((λ q. absurd (true≢false (sym q ∙ r.1))), tt) refl refl refl
            (λ e. absurd (false≢true e)) (λ f. in_cont (ctx.cont h.name.0 f)) r.0)
            h.body_as
          where
            in_bound : (b : Bool) → (v.0 == h.name.0) ≡ b → (b || is_in bound h.name.0) ≡ true → ⊥
            in_bound true q e = absurd (true≢false (sym assigned ∙ same_assigned x same v h.name q ∙ h.name_new.unassigned))
            in_bound false q e = absurd (true≢false (sym (ctx.inside h.name.0 e) ∙ h.name_new.apart))

            in_cont : Held held h.name.0 → ⊥
            in_cont (inl e) = absurd (true≢false (sym e ∙ h.name_new.apart))
            in_cont (inr k) = clash x once h.name.0 t term h.stands refl (head_in x h.name.0 h.name [] (equal_self h.name.0)) k

        shut : is_assigned x.unit v ≡ true → (b : Bool) → is_in (opened x.cps term) h.name.0 ≡ b → one_if b ≡ 0
        shut assigned false e = refl
        shut assigned true e =
            absurd (name_free assigned (opened_behind x same h.name.0 (h.name.0 ∷ held) (v ∷ []) (Argument.Var h.name ∷ []) h.inner h.start ((λ q. tt), tt) h.assigned (depth_of x.cps)
            (alone h.name.0 (opened_at x.cps h.inner) e)))

        one : assigned_count x same (v ∷ []) + open_weight x.cps term h.name.0 ≤ 1
        one = by (is_assigned x.unit v) refl
          where
            unassigned : cps_assigned x.cps h.name.0 ≡ false
            unassigned = same h.name ∙ h.name_new.unassigned

            by : (b : Bool) → is_assigned x.unit v ≡ b → one_if b + 0 + open_weight x.cps term h.name.0 ≤ 1
            by false e = let a = one_at_most (cps_assigned x.cps h.name.0 || is_in (opened x.cps term) h.name.0) in omega (arith, a)
            by true e = let a = ap (λ b. one_if (b || is_in (opened x.cps term) h.name.0)) unassigned ∙ shut e (is_in (opened x.cps term) h.name.0) refl in omega (arith, a)

    methods_light : (form : ℕ) (bound : List ℕ) (methods : List Method) (ops lams : List ℕ) → tot (λ (m : Method). 1 + length m.params + w form m.body) methods ≤ cap → MethodsAs x conv form bound methods ops lams → (c : ℕ) × Lams x.cps cap c [] lams × (c ≤ tot (λ (m : Method). 1 + length m.params + w form m.body) methods)
    methods_light form bound [] [] [] small h = (0, lams_none x.cps cap [], omega arith)
    methods_light form bound (m ∷ methods) (o ∷ ops) (l ∷ lams) small h =
        let rest = methods_light form bound methods ops lams (omega (arith, small)) h.2 in
        let le = rest.2 in
        let mine = length m.params + w form m.body in
        (mine + rest.0, lams_more x.cps cap mine rest.0 (mine + rest.0) [] l lams (omega arith) (lam_light form bound m.params m.body l mine h.1 (omega arith) (omega (arith, small))) rest.1, omega (arith, le))
    methods_light form bound [] [] (l ∷ lams) small h = absurd h
    methods_light form bound [] (o ∷ ops) lams small h = absurd h
    methods_light form bound (m ∷ methods) [] lams small h = absurd h
    methods_light form bound (m ∷ methods) (o ∷ ops) [] small h = absurd h

    object_light : (form : ℕ) (bound held : List ℕ) (proc : ℕ) (methods : List Method) (k : Cont) (t d m : ℕ) → Ctx bound held k → Costs d k → w form proc + tot (λ (z : Method). 1 + length z.params + w form z.body) methods + d ≤ m → m ≤ cap → ObjectAs x conv form bound held proc methods k t → LightAt m t
    object_light form bound held proc methods k t d m ctx costs le small h =
        let r = methods_light form bound methods h.ops h.lams (omega (arith, le, small)) h.methods_as in
        let rl = r.2 in
        let c = parts_cont d k costs in
        let fits = c.2 in
        let value = h.over.0 in
        let ml = r.0 + d in
        over_light form bound held (proc ∷ []) (value ∷ []) (Step.Object value h.ops h.lams k) t ml m ctx.inside
        (λ u s y Q z given q. object_last x y Q n (within_free x y Q n) form bound methods h.ops h.lams k value u (λ e. z (inl (ctx.inside y e))) (λ e. z (ctx.cont y e)) h.methods_as given s q)
        (λ plain u s.
        made x.cps cap u (Step.Object value h.ops h.lams k) (length (cont_param (Some k))) r.0 c.0 ml s (front_least (Step.Object value h.ops h.lams k) (cont_param (Some k)) refl (procs_none x (value ∷ []) plain) refl refl)
        (subst (λ ls. Lams x.cps cap r.0 [] (ls ++ h.lams)) (sym (procs_none x (value ∷ []) plain)) r.1) c.1 (omega (arith, fits)) (omega (arith, le, rl, small)))
        (omega (arith, le, rl)) small h.over.1

    -- ---- LABELS

    abbrev EachIn : List ℕ → List Var → Type 0
    EachIn held vars = (y : ℕ) → AllByRecursion (λ (v : Var). (v.0 == y) ≡ true → is_in held y ≡ true) vars

    outside : (y : ℕ) (held : List ℕ) (vars : List Var) → is_in held y ≡ false → AllByRecursion (λ (v : Var). (v.0 == y) ≡ true → is_in held y ≡ true) vars → AllByRecursion (VarOk x y ⊥) vars
    outside y held [] apart h = tt
    outside y held (v ∷ vars) apart h = ((λ e. absurd (true≢false (sym (h.0 e) ∙ apart))), outside y held vars apart h.1)

    -- the variable behind a Set is used nowhere
    set_light : (held : List ℕ) (t rest m : ℕ) (v z unused : Var) → IsNew x held unused → Stands x t (Step.Set v (Argument.Var z) (Continuation.Lam unused rest)) → ((KName x unused.0 → ⊥) → Free x rest unused.0 → ⊥) → m ≤ cap → LightAt m rest → LightAt m t
    set_light held t rest m v z unused new s free small l =
        made x.cps cap t term 0 0 m m s (omega (arith, weightless)) (lams_none x.cps cap [])
        (parts_more x.cps cap m 0 m (part rest (Named unused.0 ∷ []) []) [] (omega arith) (behind x.cps cap m rest l) (parts_none x.cps cap)) (omega arith) small
      where
        term : Term
        term = Step.Set v (Argument.Var z) (Continuation.Lam unused rest)

        no_name : KName x unused.0 → ⊥
        no_name = clash x once unused.0 t term s refl (head_in x unused.0 unused [] (equal_self unused.0))

        shut : (b : Bool) → is_in (opened x.cps term) unused.0 ≡ b → one_if b ≡ 0
        shut false e = refl
        shut true e = absurd (free no_name (opened_free x unused.0 (depth_of x.cps) rest (alone unused.0 (opened_at x.cps rest) e)))

        weightless : open_weight x.cps term unused.0 ≡ 0
        weightless = ap (λ b. one_if (b || is_in (opened x.cps term) unused.0)) (same unused ∙ new.unassigned) ∙ shut (is_in (opened x.cps term) unused.0) refl

    sets_light : (held : List ℕ) (vars names : List Var) (t next m : ℕ) → EachIn held vars → EachIn held names → ((y : ℕ) → is_in held y ≡ false → (KName x y → ⊥) → Free x next y → ⊥) → m ≤ cap → LightAt m next → Sets x held vars names t next → LightAt m t
    sets_light held [] [] t next m vs ns free small l h = subst (LightAt m) h l
    sets_light held (v ∷ vars) (z ∷ names) t next m vs ns free small l (inl h) = sets_light held vars names t next m (λ y. (vs y).1) (λ y. (ns y).1) free small l h.1
    sets_light held (v ∷ vars) (z ∷ names) t next m vs ns free small l (inr h) =
        let unused = h.1.0 in
        let apart = h.1.2.apart in
        set_light held t h.1.1 m v z unused h.1.2 h.1.3
        (λ none. sets_free x unused.0 ⊥ n (within_free x unused.0 ⊥ n) held vars names h.1.1 next (outside unused.0 held vars apart (vs unused.0).1) (outside unused.0 held names apart (ns unused.0).1) (free unused.0 apart none) h.1.4)
        small (sets_light held vars names h.1.1 next m (λ y. (vs y).1) (λ y. (ns y).1) free small l h.1.4)
    sets_light held [] (z ∷ names) t next m vs ns free small l h = absurd h
    sets_light held (v ∷ vars) [] t next m vs ns free small l h = absurd h

    names_count : (vars names : List Var) → Names x.unit vars names → length names ≡ length vars
    names_count [] [] h = refl
    names_count (v ∷ vars) (y ∷ names) h = ap suc (names_count vars names h.1)
    names_count [] (y ∷ names) h = absurd h
    names_count (v ∷ vars) [] h = absurd h

    labels_at_most : (term : Term) (vars : List Var) → tot (label_weight x.cps term) (map (λ (v : Var). v.0) vars) ≤ 2 * length vars
    labels_at_most term [] = omega arith
    labels_at_most term (v ∷ vars) = let a = one_at_most (is_in (occurring x.cps term) v.0) in let b = one_at_most (is_in (opened x.cps term) v.0) in let c = labels_at_most term vars in omega (arith, a, b, c)

    lambda_node : (form key : ℕ) (bound : List ℕ) (l : ℕ) (names : List Name) (node : Option Core) → node_at x.unit form key ≡ node → w form key ≤ cap → LambdaNode x conv form bound key node l → (c : ℕ) × ((lam : Lam) → slice_get x.cps.lams.items l ≡ Some lam → LamLight x.cps cap c lam) × (c + 2 ≤ w form key)
    lambda_node form key bound l names (Some (Node.Lambda params body)) e small h =
        let z = h.lam_at in
        let b = less (w form body) (heavy form (adding params bound) (adding params bound) body (Continuation.Var z.0.k) z.2.start z.2.body_as) in
        let be = b.1 in
        let le = weighs form key (Node.Lambda params body) e in
        (length params + b.0, lam_light form bound params body l (length params + b.0) z (omega (arith, be)) (omega (arith, be, le, small)), omega (arith, be, le))
    lambda_node form key bound l names None e small h = absurd h
    lambda_node form key bound l names (Some (Node.Const c)) e small h = absurd h
    lambda_node form key bound l names (Some (Node.Local v)) e small h = absurd h
    lambda_node form key bound l names (Some (Node.Global g)) e small h = absurd h
    lambda_node form key bound l names (Some (Node.Builtin c)) e small h = absurd h
    lambda_node form key bound l names (Some (Node.Op o)) e small h = absurd h
    lambda_node form key bound l names (Some (Node.If test first second)) e small h = absurd h
    lambda_node form key bound l names (Some (Node.Block items)) e small h = absurd h
    lambda_node form key bound l names (Some (Node.Let vars values body)) e small h = absurd h
    lambda_node form key bound l names (Some (Node.Labels vars lambdas body)) e small h = absurd h
    lambda_node form key bound l names (Some (Node.SetLocal v value)) e small h = absurd h
    lambda_node form key bound l names (Some (Node.SetGlobal g value)) e small h = absurd h
    lambda_node form key bound l names (Some (Node.Catch v body)) e small h = absurd h
    lambda_node form key bound l names (Some (Node.Object proc methods)) e small h = absurd h
    lambda_node form key bound l names (Some (Node.Call operator operands tail)) e small h = absurd h
    lambda_node form key bound l names (Some (Node.Prim c operands)) e small h = absurd h

    lambda_nodes : (form : ℕ) (bound : List ℕ) (keys lams : List ℕ) (names : List Name) → tot (w form) keys ≤ cap → LambdaNodes x conv form bound keys lams → (c : ℕ) × Lams x.cps cap c names lams × (c + 2 * length keys ≤ tot (w form) keys)
    lambda_nodes form bound [] [] names small h = (0, lams_none x.cps cap names, omega arith)
    lambda_nodes form bound (key ∷ keys) (l ∷ lams) names small h =
        let one = lambda_node form key bound l names (node_at x.unit form key) refl (omega (arith, small)) h.0 in
        let rest = lambda_nodes form bound keys lams names (omega (arith, small)) h.1 in
        let a = one.2 in
        let b = rest.2 in
        (one.0 + rest.0, lams_more x.cps cap one.0 rest.0 (one.0 + rest.0) names l lams (omega arith) one.1 rest.1, omega (arith, a, b))
    lambda_nodes form bound [] (l ∷ lams) names small h = absurd h
    lambda_nodes form bound (key ∷ keys) [] names small h = absurd h

    -- an assigned one is held, and another one is its own name
    vars_in : (y : ℕ) (vars names : List Var) (all : List ℕ) → Names x.unit vars names → AllByRecursion (λ (v : Var). (v.0 == y) ≡ true → is_assigned x.unit v ≡ true → is_in all y ≡ true) vars → AllByRecursion (λ (v : Var). (v.0 == y) ≡ true → is_in all y ≡ true) names → AllByRecursion (λ (v : Var). (v.0 == y) ≡ true → is_in all y ≡ true) vars
    vars_in y [] [] all h a o = tt
    vars_in y (v ∷ vars) (z ∷ names) all h a o = (by h.0, vars_in y vars names all h.1 a.1 o.1)
      where
        by : (is_assigned x.unit v ≡ true) ⊎ (z ≡ v) → (v.0 == y) ≡ true → is_in all y ≡ true
        by (inl e) q = a.0 q e
        by (inr e) q = o.0 (subst (λ (u : Var). (u.0 == y) ≡ true) (sym e) q)
    vars_in y [] (z ∷ names) all h a o = absurd h
    vars_in y (v ∷ vars) [] all h a o = absurd h

    each_later : (y : ℕ) (names vars : List Var) (held : List ℕ) → AllByRecursion (λ (v : Var). is_assigned x.unit v ≡ true → (v.0 == y) ≡ true → is_in held y ≡ true) vars → AllByRecursion (λ (v : Var). (v.0 == y) ≡ true → is_assigned x.unit v ≡ true → is_in (adding names held) y ≡ true) vars
    each_later y names [] held h = tt
    each_later y names (v ∷ vars) held h = ((λ q e. adding_old x y names held (h.0 e q)), each_later y names vars held h.1)

    labels_light : (form : ℕ) (bound held : List ℕ) (vars : List Var) (keys : List ℕ) (body : ℕ) (k : Cont) (t d m : ℕ) → Ctx bound held k → Costs d k → 1 + length vars + tot (w form) keys + w form body + d ≤ suc m → m ≤ cap → LabelsAs x conv form bound held vars keys body k t → LightAt m t
    labels_light form bound held vars keys body k t d m ctx costs le small h =
        let b = less (w form body) (heavy form (adding vars bound) (adding vars held) body k h.start h.body_as) in
        let be = b.1 in
        let few = count_least vars in
        let ms = b.0 + d in
        let many = h.as_many in
        let count = names_count vars h.names h.names_for in
        let r = lambda_nodes form (adding vars bound) keys h.lams (named h.names) (omega (arith, be, le, small)) h.lambdas in
        let rl = r.2 in
        let ml = 2 * length h.names + r.0 + ms in
        assigned_light held vars (map (unset x.unit) vars) t h.at ml m (unset_plain vars)
        (made x.cps cap h.at (Step.Labels h.names h.lams h.behind) (2 * length h.names) r.0 ms ml h.stands (label_front h.names h.lams h.behind) r.1
        (parts_more x.cps cap ms 0 ms (part h.behind (named h.names) []) [] (omega arith) (behind x.cps cap ms h.behind
        (sets_light all_held vars h.names h.behind h.start ms each_var (λ y. each_added x y h.names (adding_assigned x.unit vars held)) free_outside (omega (arith, be, le, small))
        (go form (adding vars bound) (adding vars held) body k h.start d ms (body_ctx vars bound held k ctx) costs (omega (arith, be)) (omega (arith, be, le, small)) h.body_as) h.sets)) (parts_none x.cps cap))
        (omega arith) (omega (arith, be, le, small, rl, many, count)))
        (omega (arith, be, le, few, rl, many, count)) small h.unset
      where
        all_held : List ℕ
        all_held = adding h.names (adding_assigned x.unit vars held)

        each_var : EachIn all_held vars
        each_var y = vars_in y vars h.names all_held h.names_for (each_later y h.names vars (adding_assigned x.unit vars held) (each_assigned x y vars held)) (each_added x y h.names (adding_assigned x.unit vars held))

        from_held : (y : ℕ) → is_in held y ≡ true → is_in all_held y ≡ true
        from_held y e = adding_old x y h.names (adding_assigned x.unit vars held) (assigned_old x y vars held e)

        free_outside : (y : ℕ) → is_in all_held y ≡ false → (KName x y → ⊥) → Free x h.start y → ⊥
        free_outside y apart none =
            within_free x y ⊥ n form (adding vars bound) (adding vars held) body k h.start
            (adding_in x y ⊥ vars bound (outside y all_held vars apart (each_var y)) (λ e. absurd (true≢false (sym (from_held y (ctx.inside y e)) ∙ apart))))
            (λ f. by (ctx.cont y f)) h.body_as
          where
            by : Held held y → ⊥
            by (inl e) = absurd (true≢false (sym (from_held y e) ∙ apart))
            by (inr e) = none e

        label_front : (names : List Var) (lams : List ℕ) (rest : ℕ) → front x.cps cap (Step.Labels names lams rest) ≤ 2 * length names
        label_front names lams rest = let a = sum_tot (label_weight x.cps (Step.Labels names lams rest)) (map (λ (v : Var). v.0) names) in let b = labels_at_most (Step.Labels names lams rest) names in omega (arith, a, b)

    global_light : (g : ℕ) (k : Cont) (t d m : ℕ) → Costs d k → d ≤ m → m ≤ cap → Stands x t (if is_proc x.unit g then Step.Give k (Argument.Global g) else Step.GlobalGet g k) → LightAt m t
    global_light g k t d m costs le small h = by (is_proc x.unit g) h
      where
        by : (b : Bool) → Stands x t (if b then Step.Give k (Argument.Global g) else Step.GlobalGet g k) → LightAt m t
        by true h = give_light t k (Argument.Global g) d m h tt costs le small
        by false h = term_light t (Step.GlobalGet g k) k d m h refl refl refl refl refl refl costs le small

    node_light : (form : ℕ) (bound held : List ℕ) (key : ℕ) (k : Cont) (t d m : ℕ) (node : Option Core) → node_at x.unit form key ≡ node → Ctx bound held k → Costs d k → w form key + d ≤ suc m → m ≤ cap → ConvertsNode x conv form bound held key node k t → LightAt m t
    node_light form bound held key k t d m None e ctx costs le small h = absurd h
    node_light form bound held key k t d m (Some (Node.Const c)) e ctx costs le small h = let a = weighs form key (Node.Const c) e in give_light t k (Argument.Const c) d m h tt costs (omega (arith, le, a)) small
    node_light form bound held key k t d m (Some (Node.Local v)) e ctx costs le small h = let a = weighs form key (Node.Local v) e in give_light t k (Argument.Var v) d m h.1 (λ q. tt) costs (omega (arith, le, a)) small
    node_light form bound held key k t d m (Some (Node.Global g)) e ctx costs le small h = let a = weighs form key (Node.Global g) e in global_light g k t d m costs (omega (arith, le, a)) small h
    node_light form bound held key k t d m (Some (Node.Builtin c)) e ctx costs le small h = let a = weighs form key (Node.Builtin c) e in give_light t k (Argument.Builtin c) d m h tt costs (omega (arith, le, a)) small
    node_light form bound held key k t d m (Some (Node.Op o)) e ctx costs le small h = let a = weighs form key (Node.Op o) e in give_light t k (Argument.Op o) d m h tt costs (omega (arith, le, a)) small
    node_light form bound held key k t d m (Some (Node.Lambda params body)) e ctx costs le small h =
        let a = weighs form key (Node.Lambda params body) e in lambda_for form key bound held params body k t d m costs (omega (arith, le, a)) (body_heavy k h) small h
      where
        body_heavy : (k : Cont) → LambdaFor x conv form bound held key params body k t → 1 ≤ w form body
        body_heavy (Continuation.Var k) h = let z = h.1.lam_at in heavy form (adding params bound) (adding params bound) body (Continuation.Var z.0.k) z.2.start z.2.body_as
        body_heavy (Continuation.Lam v rest) h = let z = h.2.lam_at in heavy form (adding params bound) (adding params bound) body (Continuation.Var z.0.k) z.2.start z.2.body_as
    node_light form bound held key k t d m (Some (Node.If test first second)) e ctx costs le small h =
        let a = weighs form key (Node.If test first second) e in
        named_light bound held k t (IfAs x conv form bound held test first second) d m (1 + w form test + w form first + w form second) ctx costs (omega arith) (omega (arith, le, a)) small
        (λ j u p c q s r. if_light form bound held test first second j u p c q s r) h
    node_light form bound held key k t d m (Some (Node.Block items)) e ctx costs le small h = let a = weighs form key (Node.Block items) e in block_light form bound held items k t d m ctx costs (omega (arith, le, a)) small h
    node_light form bound held key k t d m (Some (Node.Let vars values body)) e ctx costs le small h = let a = weighs form key (Node.Let vars values body) e in let_light form bound held vars values body k t d m ctx costs (omega (arith, le, a)) small h
    node_light form bound held key k t d m (Some (Node.Labels vars lambdas body)) e ctx costs le small h = let a = weighs form key (Node.Labels vars lambdas body) e in labels_light form bound held vars lambdas body k t d m ctx costs (omega (arith, le, a)) small h
    node_light form bound held key k t d m (Some (Node.SetLocal v value)) e ctx costs le small h =
        let a = weighs form key (Node.SetLocal v value) e in
        simple_light form bound held (value ∷ []) (h.1.0 ∷ []) (Step.Set v h.1.0 k) k t d m ctx costs refl refl refl refl refl refl refl (λ y q. ctx.inside y (subst (λ i. is_in bound i ≡ true) (eqb-true v.0 y (alone_var (v.0 == y) q)) h.0)) (omega (arith, le, a)) small h.1.1
      where
        alone_var : (b : Bool) → (b || false) ≡ true → b ≡ true
        alone_var true q = refl
        alone_var false q = q
    node_light form bound held key k t d m (Some (Node.SetGlobal g value)) e ctx costs le small h =
        let a = weighs form key (Node.SetGlobal g value) e in
        simple_light form bound held (value ∷ []) (h.1.0 ∷ []) (Step.GlobalSet g h.1.0 k) k t d m ctx costs refl refl refl refl refl refl refl (λ y q. absurd (false≢true q)) (omega (arith, le, a)) small h.1.1
    node_light form bound held key k t d m (Some (Node.Catch v body)) e ctx costs le small h =
        let a = weighs form key (Node.Catch v body) e in
        named_light bound held k t (CatchAs x conv form bound held v body) d m (2 + w form body) ctx costs (omega arith) (omega (arith, le, a)) small (λ j u p c q s r. catch_light form bound held v body j u p c q s r) h
    node_light form bound held key k t d m (Some (Node.Object proc methods)) e ctx costs le small h = let a = weighs form key (Node.Object proc methods) e in object_light form bound held proc methods k t d m ctx costs (omega (arith, le, a)) small h
    node_light form bound held key k t d m (Some (Node.Call operator operands tail)) e ctx costs le small h =
        let a = weighs form key (Node.Call operator operands tail) e in
        simple_light form bound held (operator ∷ operands) (h.f ∷ h.args) (Step.Call h.f h.args k) k t d m ctx costs refl refl refl refl refl refl refl (λ y q. absurd (false≢true q)) (omega (arith, le, a)) small h.over
    node_light form bound held key k t d m (Some (Node.Prim c operands)) e ctx costs le small h =
        let a = weighs form key (Node.Prim c operands) e in
        simple_light form bound held operands h.args (Step.Prim c h.args k) k t d m ctx costs refl refl refl refl refl refl refl (λ y q. absurd (false≢true q)) (omega (arith, le, a)) small h.over

  -- ---- all nodes

  pub within_light : (n : ℕ) (form : ℕ) (bound held : List ℕ) (key : ℕ) (k : Cont) (t d m : ℕ) → Ctx bound held k → Costs d k → w form key + d ≤ suc m → m ≤ cap → ConvertsWithin x n form bound held key k t → LightAt m t
  within_light zero form bound held key k t d m ctx costs le small h = absurd h
  within_light (suc n) form bound held key k t d m ctx costs le small h = node_light n (within_light n) form bound held key k t d m (node_at x.unit form key) refl ctx costs le small h
