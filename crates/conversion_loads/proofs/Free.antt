-- What is free in the terms that stand for a node: variables that are bound around it, and those of its continuation.
use Rattle.std.specs.List.{AllByRecursion, filter_map, flat_map, cons_option}
use Rattle.std.specs.Option.{option_map_or, option_and_then}
use Rattle.std.proofs.Common.{◌≡◌, ◌==◌, ◌||◌, ℕ, zero, suc, Bool, true, false, if◌then◌else◌, ◌⊎◌, inl, inr, List, [], ◌∷◌, ◌++◌, map, nat_lt, Option, Some, None, slice_get, refl, sym, ◌∙◌, subst}
use Rattle.std.proofs.lemmas.Bool.{true≢false, false≢true, eqb-true}
use Rattle.t_base.specs.declared.basics.Var.{Var}
use Rattle.t_base.specs.declared.shared_parts.Const.TheVariants as Constant
use Rattle.t_core.specs.declared.forms.Core.{Core}
use Rattle.t_core.specs.declared.forms.Core.TheVariants as Node
use Rattle.t_core.specs.declared.forms.Method.{Method}
use Rattle.t_meaning.specs.Programs.{node_at}
use Rattle.t_meaning.specs.Costs.{is_assigned}
use Rattle.cps_ir.specs.declared.args.Arg.{Arg}
use Rattle.cps_ir.specs.declared.args.Arg.TheVariants as Argument
use Rattle.cps_ir.specs.declared.terms.Cont.{Cont}
use Rattle.cps_ir.specs.declared.terms.Cont.TheVariants as Continuation
use Rattle.cps_ir.specs.declared.terms.Lam.{Lam}
use Rattle.cps_ir.specs.declared.terms.Term.{Term}
use Rattle.cps_ir.specs.declared.terms.Term.TheVariants as Step
use Rattle.cps_ir.specs.Terms.{args_of, cont_of}
use Rattle.cps_ir.specs.Parts.{place_variable, Name, OwnK, Part, named, variable_of, proc_of, lams_of, lambda_at, lambda_part, around, own_parts, parts_of, first_lams, used_by, arg_variables, cont_variable, cont_parts}
use Rattle.cps_ir.specs.Reaches.{is_in, without, binds_of, free_within}
use Rattle.cps_ir.proofs.ProperLists.{some_same, none_some, each_append}
use Rattle.cps_ir.proofs.Inside.{from_without}
use Rattle.cps_ir.proofs.Loose.{split_in}
use Rattle.cps_conversion.specs.Conversion.{Translation, Stands, Converting, Assigned, variables, adding, adding_assigned, is_proc, ready_at, nowhere, ready_arg, IsBound, Values, OverAll, LamAs, LamAt, WithName, LambdaFor, IfAs, BlockAs, own_place, unset, Names, Sets, LambdaNode, LambdaNodes, LabelsAs, CatchAs, MethodsAs, ConvertsNode, ConvertsWithin}

module _ (x : Translation) where
  -- free in the term at a place, at some depth
  abbrev pub Free : ℕ → ℕ → Type 0
  Free t y = (d : ℕ) × (is_in (free_within x.cps d t) y ≡ true)

  -- free in a continuation
  abbrev pub FreeCont : Cont → ℕ → Type 0
  FreeCont (Continuation.Var k) y = (k.0 == y) ≡ true
  FreeCont (Continuation.Lam v body) y = Free body y × ((v.0 == y) ≡ false)

  module _ (y : ℕ) (Q : Type 0) where
    pub or_split : (a b : Bool) → (a || b) ≡ true → (a ≡ true → Q) → (b ≡ true → Q) → Q
    or_split true b e f g = f refl
    or_split false b e f g = g e

    in_flat : (g : Part → List ℕ) (ps : List Part) → AllByRecursion (λ p. is_in (g p) y ≡ true → Q) ps → is_in (flat_map g ps) y ≡ true → Q
    in_flat g [] h e = absurd (false≢true e)
    in_flat g (p ∷ ps) h e = or_split (is_in (g p) y) (is_in (flat_map g ps) y) (sym (split_in (g p) (flat_map g ps) y) ∙ e) h.0 (in_flat g ps h.1)

    abbrev pub PartOk : Part → Type 0
    PartOk p = Free p.at y → is_in (binds_of p) y ≡ false → Q

    parts_free : (d : ℕ) (ps : List Part) → AllByRecursion PartOk ps → AllByRecursion (λ p. is_in (without (binds_of p) (free_within x.cps d p.at)) y ≡ true → Q) ps
    parts_free d [] h = tt
    parts_free d (p ∷ ps) h = (λ e. let r = from_without (binds_of p) (free_within x.cps d p.at) y e in h.0 (d, r.0) r.1, parts_free d ps h.1)

    -- what is free in a term is used there or free in a part
    pub free_of : (t : ℕ) (term : Term) → Stands x t term → (is_in (used_by term) y ≡ true → Q) → AllByRecursion PartOk (parts_of x.cps [] term) → Free t y → Q
    unfolding free_within
    free_of t term e used parts (zero, h) = absurd (false≢true h)
    free_of t term e used parts (suc d, h) =
        let inner = flat_map (λ p. without (binds_of p) (free_within x.cps d p.at)) (parts_of x.cps [] term) in
        let here = subst (λ o. is_in (option_map_or (λ s. used_by s ++ flat_map (λ p. without (binds_of p) (free_within x.cps d p.at)) (parts_of x.cps [] s)) o []) y ≡ true) e h in
        or_split (is_in (used_by term) y) (is_in inner y) (sym (split_in (used_by term) inner y) ∙ here) used
        (in_flat (λ p. without (binds_of p) (free_within x.cps d p.at)) (parts_of x.cps [] term) (parts_free d (parts_of x.cps [] term) parts))

    -- ---- procedures of a term

    abbrev pub LamOk : List Name → ℕ → Type 0
    LamOk names l = (lam : Lam) → slice_get x.cps.lams.items l ≡ Some lam → PartOk (lambda_part names lam)

    lams_ok : (names : List Name) (ls : List ℕ) → AllByRecursion (LamOk names) ls → AllByRecursion PartOk (map (lambda_part names) (filter_map (lambda_at x.cps) ls))
    lams_ok names [] h = tt
    lams_ok names (l ∷ ls) h = by (nat_lt l (first_lams x.cps)) (slice_get x.cps.lams.items l) refl (lams_ok names ls h.1)
      where
        by : (b : Bool) (o : Option Lam) → slice_get x.cps.lams.items l ≡ o → AllByRecursion PartOk (map (lambda_part names) (filter_map (lambda_at x.cps) ls)) → AllByRecursion PartOk (map (lambda_part names) (cons_option (if b then None else o) (filter_map (lambda_at x.cps) ls)))
        by true o e rest = rest
        by false None e rest = rest
        by false (Some lam) e rest = (h.0 lam e, rest)

    pub free_made : (t : ℕ) (term : Term) → Stands x t term → (is_in (used_by term) y ≡ true → Q) → AllByRecursion (LamOk (around term)) (lams_of term) → AllByRecursion PartOk (own_parts [] term) → Free t y → Q
    free_made t term e used lams own =
        free_of t term e used (each_append PartOk (map (lambda_part (around term)) (filter_map (lambda_at x.cps) (lams_of term))) (own_parts [] term) (lams_ok (around term) (lams_of term) lams) own)

    -- ---- arguments and continuations

    -- an argument that is no procedure, and whose variable comes from where it may
    abbrev pub ArgOk : Arg → Type 0
    ArgOk (Argument.Var v) = (v.0 == y) ≡ true → Q
    ArgOk (Argument.Proc l) = ⊥
    ArgOk _ = Unit {0}

    pub args_used : (args : List Arg) → AllByRecursion ArgOk args → is_in (arg_variables args) y ≡ true → Q
    args_used [] h e = absurd (false≢true e)
    args_used (Argument.Const c ∷ args) h e = args_used args h.1 e
    args_used (Argument.Var v ∷ args) h e = or_split (v.0 == y) (is_in (arg_variables args) y) e h.0 (args_used args h.1)
    args_used (Argument.Proc l ∷ args) h e = absurd h.0
    args_used (Argument.Global g ∷ args) h e = args_used args h.1 e
    args_used (Argument.Builtin b ∷ args) h e = args_used args h.1 e
    args_used (Argument.Op o ∷ args) h e = args_used args h.1 e

    pub used_in : (xs ys : List ℕ) → (is_in xs y ≡ true → Q) → (is_in ys y ≡ true → Q) → is_in (xs ++ ys) y ≡ true → Q
    used_in xs ys f g e = or_split (is_in xs y) (is_in ys y) (sym (split_in xs ys y) ∙ e) f g

    pub nothing_used : is_in [] y ≡ true → Q
    nothing_used e = absurd (false≢true e)

    pub term_used : (term : Term) → AllByRecursion ArgOk (args_of term) → (is_in (place_variable term) y ≡ true → Q) → (is_in (cont_variable (cont_of term)) y ≡ true → Q) → is_in (used_by term) y ≡ true → Q
    term_used term args place cont =
        used_in (arg_variables (args_of term) ++ place_variable term) (cont_variable (cont_of term)) (used_in (arg_variables (args_of term)) (place_variable term) (args_used (args_of term) args) place) cont

    pub no_procs : (names : List Name) (args : List Arg) → AllByRecursion ArgOk args → AllByRecursion (LamOk names) (filter_map proc_of args)
    no_procs names [] h = tt
    no_procs names (Argument.Const c ∷ args) h = no_procs names args h.1
    no_procs names (Argument.Var v ∷ args) h = no_procs names args h.1
    no_procs names (Argument.Proc l ∷ args) h = absurd h.0
    no_procs names (Argument.Global g ∷ args) h = no_procs names args h.1
    no_procs names (Argument.Builtin b ∷ args) h = no_procs names args h.1
    no_procs names (Argument.Op o ∷ args) h = no_procs names args h.1

    abbrev pub VarOk : Var → Type 0
    VarOk v = (v.0 == y) ≡ true → Q

    pub adding_in : (vars : List Var) (bound : List ℕ) → AllByRecursion VarOk vars → (is_in bound y ≡ true → Q) → is_in (adding vars bound) y ≡ true → Q
    adding_in [] bound h f e = f e
    adding_in (v ∷ vars) bound h f e = adding_in vars (v.0 ∷ bound) h.1 (λ q. or_split (v.0 == y) (is_in bound y) q h.0 f) e

    pub ready_ok : (form key : ℕ) (bound : List ℕ) (a : Arg) → (is_in bound y ≡ true → Q) → ready_at x form key ≡ Some a → IsBound bound a → ArgOk a
    ready_ok form key bound (Argument.Var v) f e b = λ q. f (subst (λ n. is_in bound n ≡ true) (eqb-true v.0 y q) b)
    ready_ok form key bound (Argument.Const c) f e b = tt
    ready_ok form key bound (Argument.Global g) f e b = tt
    ready_ok form key bound (Argument.Builtin c) f e b = tt
    ready_ok form key bound (Argument.Op o) f e b = tt
    ready_ok form key bound (Argument.Proc l) f e b = plain (node_at x.unit form key) e
      where
        NoProc : Arg → Type 0
        NoProc (Argument.Proc m) = ⊥
        NoProc _ = Unit {0}

        unset_var : (c : Bool) (v : Var) → (if c then None else Some (Argument.Var v)) ≡ Some (Argument.Proc l) → ⊥
        unset_var true v q = none_some (Argument.Proc l) q
        unset_var false v q = subst NoProc (some_same (Argument.Var v) (Argument.Proc l) q) tt

        defined : (c : Bool) (g : ℕ) → (if c then Some (Argument.Global g) else None) ≡ Some (Argument.Proc l) → ⊥
        defined true g q = subst NoProc (some_same (Argument.Global g) (Argument.Proc l) q) tt
        defined false g q = none_some (Argument.Proc l) q

        plain : (node : Option Core) → option_and_then (ready_arg x.unit) node ≡ Some (Argument.Proc l) → ⊥
        plain None q = none_some (Argument.Proc l) q
        plain (Some (Node.Local v)) q = unset_var (is_assigned x.unit v) v q
        plain (Some (Node.Global g)) q = defined (is_proc x.unit g) g q
        plain (Some (Node.Const c)) q = subst NoProc (some_same (Argument.Const c) (Argument.Proc l) q) tt
        plain (Some (Node.Builtin c)) q = subst NoProc (some_same (Argument.Builtin c) (Argument.Proc l) q) tt
        plain (Some (Node.Op o)) q = subst NoProc (some_same (Argument.Op o) (Argument.Proc l) q) tt
        plain (Some _) q = none_some (Argument.Proc l) q

    -- ---- steps over lists of variables

    give_free : (t : ℕ) (v : Var) (rest : ℕ) (a : Arg) → Stands x t (Step.Give (Continuation.Lam v rest) a) → ArgOk a → (Free rest y → (v.0 == y) ≡ false → Q) → Free t y → Q
    give_free t v rest a e ok f = free_made t (Step.Give (Continuation.Lam v rest) a) e (term_used (Step.Give (Continuation.Lam v rest) a) (ok, tt) nothing_used nothing_used) (no_procs [] (a ∷ []) (ok, tt)) ((λ h b. f h (only b)), tt)
      where
        only : ((v.0 == y) || false) ≡ false → (v.0 == y) ≡ false
        only q = by (v.0 == y) q
          where
            by : (b : Bool) → (b || false) ≡ false → b ≡ false
            by true q = q
            by false q = refl

    -- an assigned one of these variables
    abbrev pub AssignedOk : Var → Type 0
    AssignedOk v = is_assigned x.unit v ≡ true → (v.0 == y) ≡ true → Q

    pub assigned_free : (held : List ℕ) (vars : List Var) (args : List Arg) (t next : ℕ) → AllByRecursion ArgOk args → (AllByRecursion VarOk vars → Free next y → Q) → Assigned x held vars args t next → Free t y → Q
    assigned_free held [] [] t next ok f h = λ r. f tt (subst (λ u. Free u y) (sym h) r)
    assigned_free held (v ∷ vars) (a ∷ args) t next ok f (inl h) = assigned_free held vars args t next ok.1 (λ vs. f (subst ArgOk h.1 ok.0, vs)) h.2
    assigned_free held (v ∷ vars) (a ∷ args) t next ok f (inr h) =
        give_free t v h.2.0 a h.2.1 ok.0 (λ r b. assigned_free (v.0 ∷ held) vars args h.2.0 next ok.1 (λ vs. f ((λ q. absurd (true≢false (sym q ∙ b))), vs)) h.2.2 r)
    assigned_free held [] (a ∷ args) t next ok f h = absurd h
    assigned_free held (v ∷ vars) [] t next ok f h = absurd h

    unset_free : (held : List ℕ) (vars : List Var) (t next : ℕ) → (AllByRecursion AssignedOk vars → Free next y → Q) → Assigned x held vars (map (unset x.unit) vars) t next → Free t y → Q
    unset_free held [] t next f h = λ r. f tt (subst (λ u. Free u y) (sym h) r)
    unset_free held (v ∷ vars) t next f (inl h) = unset_free held vars t next (λ vs. f ((λ a. absurd (true≢false (sym a ∙ h.0))), vs)) h.2
    unset_free held (v ∷ vars) t next f (inr h) =
        give_free t v h.2.0 (unset x.unit v) h.2.1 (nil_ok (is_assigned x.unit v) h.0) (λ r b. unset_free (v.0 ∷ held) vars h.2.0 next (λ vs. f ((λ a q. absurd (true≢false (sym q ∙ b))), vs)) h.2.2 r)
      where
        nil_ok : (b : Bool) → b ≡ true → ArgOk (if b then Argument.Const Constant.Nil else Argument.Var v)
        nil_ok true e = tt
        nil_ok false e = absurd (false≢true e)

    variables_ok : (vars : List Var) → AllByRecursion VarOk vars → AllByRecursion ArgOk (variables vars)
    variables_ok [] h = tt
    variables_ok (v ∷ vars) h = (h.0, variables_ok vars h.1)

    -- what is bound by this list isn't free outside
    params_out : (xs : List Var) (rest : List Name) → is_in (map variable_of (named xs ++ rest)) y ≡ false → AllByRecursion VarOk xs × (is_in (map variable_of rest) y ≡ false)
    params_out [] rest e = (tt, e)
    params_out (v ∷ xs) rest e = by (v.0 == y) refl e (params_out xs rest)
      where
        by : (b : Bool) → (v.0 == y) ≡ b → (b || is_in (map variable_of (named xs ++ rest)) y) ≡ false → (is_in (map variable_of (named xs ++ rest)) y ≡ false → AllByRecursion VarOk xs × (is_in (map variable_of rest) y ≡ false)) → AllByRecursion VarOk (v ∷ xs) × (is_in (map variable_of rest) y ≡ false)
        by true q e f = absurd (true≢false e)
        by false q e f = let r = f e in (((λ p. absurd (true≢false (sym p ∙ q))), r.0), r.1)

    -- ---- nodes, where all that is nested less deep is known

    module _ (n : ℕ) (go : (form : ℕ) (bound held : List ℕ) (key : ℕ) (k : Cont) (t : ℕ) → (is_in bound y ≡ true → Q) → (FreeCont k y → Q) → ConvertsWithin x n form bound held key k t → Free t y → Q) where
      abbrev conv : Converting
      conv = ConvertsWithin x n

      pub values_free : (form : ℕ) (bound held : List ℕ) (tos : List (Option Var)) (keys : List ℕ) (args : List Arg) (t last : ℕ) (inner : List ℕ) → (is_in bound y ≡ true → Q) → (AllByRecursion ArgOk args → Free last y → Q) → Values x conv form bound held tos keys args t last inner → Free t y → Q
      values_free form bound held [] [] [] t last inner b f h = λ r. f tt (subst (λ u. Free u y) (sym h.0) r)
      values_free form bound held (None ∷ tos) (key ∷ keys) (a ∷ args) t last inner b f (inl h) =
          values_free form bound held tos keys args t last inner b (λ given. f (ready_ok form key bound a b h.0 h.1, given)) h.2
      values_free form bound held (None ∷ tos) (key ∷ keys) (a ∷ args) t last inner b f (inr h) =
          go form bound held key (Continuation.Lam h.1.0 h.1.1) t b
          (λ r. values_free form bound (h.1.0.0 ∷ held) tos keys args h.1.1 last inner b (λ given. f (subst ArgOk (sym h.1.2) (λ q. absurd (true≢false (sym q ∙ r.1))), given)) h.1.5 r.0) h.1.4
      values_free form bound held (Some v ∷ tos) (key ∷ keys) (a ∷ args) t last inner b f h =
          go form bound held key (Continuation.Lam v h.0) t b
          (λ r. values_free form bound (v.0 ∷ held) tos keys args h.0 last inner b (λ given. f (subst ArgOk (sym h.1) (λ q. absurd (true≢false (sym q ∙ r.1))), given)) h.4 r.0) h.3
      values_free form bound held [] [] (a ∷ args) t last inner b f h = absurd h
      values_free form bound held [] (key ∷ keys) args t last inner b f h = absurd h
      values_free form bound held (None ∷ tos) [] args t last inner b f h = absurd h
      values_free form bound held (Some v ∷ tos) [] args t last inner b f h = absurd h
      values_free form bound held (None ∷ tos) (key ∷ keys) [] t last inner b f h = absurd h
      values_free form bound held (Some v ∷ tos) (key ∷ keys) [] t last inner b f h = absurd h

      over_free : (form : ℕ) (bound held : List ℕ) (keys : List ℕ) (args : List Arg) (term : Term) (t : ℕ) → (is_in bound y ≡ true → Q) → (AllByRecursion ArgOk args → (u : ℕ) → Stands x u term → Free u y → Q) → OverAll x conv form bound held keys args term t → Free t y → Q
      over_free form bound held keys args term t b f h = values_free form bound held (nowhere keys) keys args t h.last h.inner b (λ given. f given h.last h.stands) h.values

      -- the body of a procedure that stands for a LAMBDA
      pub lam_free : (form : ℕ) (bound : List ℕ) (params : List Var) (body : ℕ) (lam : Lam) (names : List Name) → (is_in bound y ≡ true → Q) → LamAs x conv form bound params body lam → PartOk (lambda_part names lam)
      lam_free form bound params body lam names b h r out =
          let o = params_out lam.params (OwnK lam.k.0 ∷ names) out in
          assigned_free (adding lam.params bound) params (variables lam.params) lam.body h.start (variables_ok lam.params o.0)
          (λ vs. go form (adding params bound) (adding params bound) body (Continuation.Var lam.k) h.start (adding_in params bound vs b) (λ q. other (lam.k.0 == y) q o.1) h.body_as) h.assigned r
        where
          other : (c : Bool) → c ≡ true → (c || is_in (map variable_of names) y) ≡ false → Q
          other true q e = absurd (true≢false e)
          other false q e = absurd (false≢true q)

      lam_ok : (form : ℕ) (bound : List ℕ) (params : List Var) (body l : ℕ) (names : List Name) → (is_in bound y ≡ true → Q) → LamAt x conv form bound params body l → LamOk names l
      lam_ok form bound params body l names b h = λ lam e. subst (λ z. PartOk (lambda_part names z)) (some_same h.0 lam (sym h.1 ∙ e)) (lam_free form bound params body h.0 names b h.2)

      -- ---- terms with a continuation

      cont_used : (k : Cont) → (FreeCont k y → Q) → is_in (cont_variable (Some k)) y ≡ true → Q
      cont_used (Continuation.Var k) f e = or_split (k.0 == y) false e f (λ q. absurd (false≢true q))
      cont_used (Continuation.Lam v body) f e = absurd (false≢true e)

      not_only : (c : Bool) → (c || false) ≡ false → c ≡ false
      not_only true q = q
      not_only false q = refl

      cont_ok : (k : Cont) (catches : List ℕ) → (FreeCont k y → Q) → AllByRecursion PartOk (cont_parts catches (Some k))
      cont_ok (Continuation.Var k) catches f = tt
      cont_ok (Continuation.Lam v body) catches f = ((λ r out. f (r, not_only (v.0 == y) out)), tt)

      pub give_k : (t : ℕ) (k : Cont) (a : Arg) → Stands x t (Step.Give k a) → ArgOk a → (FreeCont k y → Q) → Free t y → Q
      give_k t k a e ok f = free_made t (Step.Give k a) e (term_used (Step.Give k a) (ok, tt) nothing_used (cont_used k f)) (no_procs [] (a ∷ []) (ok, tt)) (cont_ok k [] f)

      -- a term over arguments, whose only part is its continuation's
      pub plain_free : (t : ℕ) (term : Term) (k : Cont) → Stands x t term → AllByRecursion ArgOk (args_of term) → lams_of term ≡ filter_map proc_of (args_of term) → own_parts [] term ≡ cont_parts [] (Some k) → cont_of term ≡ Some k → (is_in (place_variable term) y ≡ true → Q) → (FreeCont k y → Q) → Free t y → Q
      plain_free t term k e ok lams own cont place f =
          free_made t term e (term_used term ok place (subst (λ o. is_in (cont_variable o) y ≡ true → Q) (sym cont) (cont_used k f)))
          (subst (AllByRecursion (LamOk (around term))) (sym lams) (no_procs (around term) (args_of term) ok)) (subst (AllByRecursion PartOk) (sym own) (cont_ok k [] f))

      named_free : (k : Cont) (t : ℕ) (rest_as : Cont → ℕ → Type 0) → (FreeCont k y → Q) → ((j : Cont) (u : ℕ) → (FreeCont j y → Q) → rest_as j u → Free u y → Q) → WithName x k t rest_as → Free t y → Q
      named_free (Continuation.Var k) t rest_as f g h = g (Continuation.Var k) t f h
      named_free (Continuation.Lam v body) t rest_as f g h =
          free_made t (Step.Join h.0 v body h.1) h.2 nothing_used tt
          ((λ r out. f (r, not_only (v.0 == y) out)), ((λ r out. g (Continuation.Var h.0) h.1 (λ q. absurd (true≢false (sym q ∙ not_only (h.0.0 == y) out))) h.3 r), tt))

      lambda_for : (form key : ℕ) (bound held : List ℕ) (params : List Var) (body : ℕ) (k : Cont) (t : ℕ) → (is_in bound y ≡ true → Q) → (FreeCont k y → Q) → LambdaFor x conv form bound held key params body k t → Free t y → Q
      lambda_for form key bound held params body (Continuation.Var k) t b f h =
          free_made t (Step.Give (Continuation.Var k) (Argument.Proc h.0)) h.2 (λ e. or_split (k.0 == y) false e f (λ q. absurd (false≢true q))) (lam_ok form bound params body h.0 [] b h.1.lam_at, tt) tt
      lambda_for form key bound held params body (Continuation.Lam v rest) t b f h =
          free_made t (Step.Labels (v ∷ []) (h.0 ∷ []) rest) h.3 nothing_used (lam_ok form bound params body h.0 (named (v ∷ [])) b h.2.lam_at, tt) ((λ r out. f (r, not_only (v.0 == y) out)), tt)

      pub if_free : (form : ℕ) (bound held : List ℕ) (first second : ℕ) (k : Cont) (a : Arg) (first_at second_at u : ℕ) → (is_in bound y ≡ true → Q) → (FreeCont k y → Q) → conv form bound held first k first_at → conv form bound held second k second_at → AllByRecursion ArgOk (a ∷ []) → Stands x u (Step.If a first_at second_at) → Free u y → Q
      if_free form bound held first second k a first_at second_at u b f h1 h2 ok s =
          free_made u (Step.If a first_at second_at) s (term_used (Step.If a first_at second_at) ok nothing_used nothing_used) (no_procs [] (a ∷ []) ok)
          ((λ r out. go form bound held first k first_at b f h1 r), ((λ r out. go form bound held second k second_at b f h2 r), tt))

      pub block_free : (form : ℕ) (bound held : List ℕ) (items : List ℕ) (k : Cont) (t : ℕ) → (is_in bound y ≡ true → Q) → (FreeCont k y → Q) → BlockAs x conv form bound held items k t → Free t y → Q
      block_free form bound held [] k t b f h = absurd h
      block_free form bound held (key ∷ []) k t b f h = go form bound held key k t b f h
      block_free form bound held (key ∷ next ∷ keys) k t b f h = go form bound held key (Continuation.Lam h.0 h.1) t b (λ r. block_free form bound held (next ∷ keys) k h.1 b f h.4 r.0) h.3

      -- what stands behind the values of a LET
      pub let_free : (form : ℕ) (bound inner held : List ℕ) (vars : List Var) (args : List Arg) (body : ℕ) (k : Cont) (behind start : ℕ) → (is_in bound y ≡ true → Q) → (FreeCont k y → Q) → Assigned x inner vars args behind start → conv form (adding vars bound) (adding vars held) body k start → AllByRecursion ArgOk args → Free behind y → Q
      let_free form bound inner held vars args body k behind start b f as_given h given =
          assigned_free inner vars args behind start given (λ vs. go form (adding vars bound) (adding vars held) body k start (adding_in vars bound vs b) f h) as_given

      -- ---- LABELS

      -- a name is outside of what these bind
      names_out : (names : List Var) → is_in (map variable_of (named names)) y ≡ false → AllByRecursion VarOk names
      names_out [] e = tt
      names_out (v ∷ names) e = by (v.0 == y) refl e (names_out names)
        where
          by : (b : Bool) → (v.0 == y) ≡ b → (b || is_in (map variable_of (named names)) y) ≡ false → (is_in (map variable_of (named names)) y ≡ false → AllByRecursion VarOk names) → AllByRecursion VarOk (v ∷ names)
          by true q e f = absurd (true≢false e)
          by false q e f = ((λ p. absurd (true≢false (sym p ∙ q))), f e)

      names_vars : (vars names : List Var) → Names x.unit vars names → AllByRecursion AssignedOk vars → AllByRecursion VarOk names → AllByRecursion VarOk vars
      names_vars [] [] h a o = tt
      names_vars (v ∷ vars) (z ∷ names) h a o = (by h.0, names_vars vars names h.1 a.1 o.1)
        where
          by : (is_assigned x.unit v ≡ true) ⊎ (z ≡ v) → VarOk v
          by (inl e) = a.0 e
          by (inr e) = subst VarOk e o.0
      names_vars [] (z ∷ names) h a o = absurd h
      names_vars (v ∷ vars) [] h a o = absurd h

      pub sets_free : (held : List ℕ) (vars names : List Var) (t next : ℕ) → AllByRecursion VarOk vars → AllByRecursion VarOk names → (Free next y → Q) → Sets x held vars names t next → Free t y → Q
      sets_free held [] [] t next vs ns f h = λ r. f (subst (λ u. Free u y) (sym h) r)
      sets_free held (v ∷ vars) (z ∷ names) t next vs ns f (inl h) = sets_free held vars names t next vs.1 ns.1 f h.1
      sets_free held (v ∷ vars) (z ∷ names) t next vs ns f (inr h) =
          plain_free t (Step.Set v (Argument.Var z) (Continuation.Lam h.1.0 h.1.1)) (Continuation.Lam h.1.0 h.1.1) h.1.3 (ns.0, tt) refl refl refl (λ e. or_split (v.0 == y) false e vs.0 (λ q. absurd (false≢true q)))
          (λ r. sets_free held vars names h.1.1 next vs.1 ns.1 f h.1.4 r.0)
      sets_free held [] (z ∷ names) t next vs ns f h = absurd h
      sets_free held (v ∷ vars) [] t next vs ns f h = absurd h

      lambda_node : (form key : ℕ) (bound : List ℕ) (l : ℕ) (names : List Name) (node : Option Core) → (is_in bound y ≡ true → Q) → LambdaNode x conv form bound key node l → LamOk names l
      lambda_node form key bound l names (Some (Node.Lambda params body)) b h = lam_ok form bound params body l names b h.lam_at
      lambda_node form key bound l names None b h = absurd h
      lambda_node form key bound l names (Some (Node.Const c)) b h = absurd h
      lambda_node form key bound l names (Some (Node.Local v)) b h = absurd h
      lambda_node form key bound l names (Some (Node.Global g)) b h = absurd h
      lambda_node form key bound l names (Some (Node.Builtin c)) b h = absurd h
      lambda_node form key bound l names (Some (Node.Op o)) b h = absurd h
      lambda_node form key bound l names (Some (Node.If test first second)) b h = absurd h
      lambda_node form key bound l names (Some (Node.Block items)) b h = absurd h
      lambda_node form key bound l names (Some (Node.Let vars values body)) b h = absurd h
      lambda_node form key bound l names (Some (Node.Labels vars lambdas body)) b h = absurd h
      lambda_node form key bound l names (Some (Node.SetLocal v value)) b h = absurd h
      lambda_node form key bound l names (Some (Node.SetGlobal g value)) b h = absurd h
      lambda_node form key bound l names (Some (Node.Catch v body)) b h = absurd h
      lambda_node form key bound l names (Some (Node.Object proc methods)) b h = absurd h
      lambda_node form key bound l names (Some (Node.Call operator operands tail)) b h = absurd h
      lambda_node form key bound l names (Some (Node.Prim c operands)) b h = absurd h

      -- each under what is known of a variable that is free outside of the names
      lambda_nodes : (form : ℕ) (bound : List ℕ) (keys lams : List ℕ) (ns : List Var) → (AllByRecursion VarOk ns → is_in bound y ≡ true → Q) → LambdaNodes x conv form bound keys lams → AllByRecursion (LamOk (named ns)) lams
      lambda_nodes form bound [] [] ns b h = tt
      lambda_nodes form bound (key ∷ keys) (l ∷ lams) ns b h = (
        (λ lam e r out.
            let o = params_out lam.params (OwnK lam.k.0 ∷ named ns) out in
            lambda_node form key bound l (named ns) (node_at x.unit form key) (b (names_out ns (tail (lam.k.0 == y) o.1))) h.0 lam e r out),
        lambda_nodes form bound keys lams ns b h.1,
      )
        where
          tail : (c : Bool) → (c || is_in (map variable_of (named ns)) y) ≡ false → is_in (map variable_of (named ns)) y ≡ false
          tail true e = absurd (true≢false e)
          tail false e = e
      lambda_nodes form bound [] (l ∷ lams) ns b h = absurd h
      lambda_nodes form bound (key ∷ keys) [] ns b h = absurd h

      -- behind the Labels, where the names are bound
      pub labels_behind : (form : ℕ) (bound held : List ℕ) (vars : List Var) (keys : List ℕ) (body : ℕ) (k : Cont) (t : ℕ) → (is_in bound y ≡ true → Q) → (FreeCont k y → Q) → (h : LabelsAs x conv form bound held vars keys body k t) → AllByRecursion AssignedOk vars → AllByRecursion VarOk h.names → Free h.behind y → Q
      labels_behind form bound held vars keys body k t b f h assigned ns =
          let vs = names_vars vars h.names h.names_for assigned ns in
          sets_free (adding h.names (adding_assigned x.unit vars held)) vars h.names h.behind h.start vs ns (go form (adding vars bound) (adding vars held) body k h.start (adding_in vars bound vs b) f h.body_as) h.sets

      pub labels_free : (form : ℕ) (bound held : List ℕ) (vars : List Var) (keys : List ℕ) (body : ℕ) (k : Cont) (t : ℕ) → (is_in bound y ≡ true → Q) → (FreeCont k y → Q) → LabelsAs x conv form bound held vars keys body k t → Free t y → Q
      labels_free form bound held vars keys body k t b f h =
          unset_free held vars t h.at (λ assigned.
          free_made h.at (Step.Labels h.names h.lams h.behind) h.stands nothing_used
          (lambda_nodes form (adding vars bound) keys h.lams h.names (λ ns. adding_in vars bound (names_vars vars h.names h.names_for assigned ns) b) h.lambdas)
          ((λ r out. labels_behind form bound held vars keys body k t b f h assigned (names_out h.names out) r), tt))
          h.unset

      -- ---- CATCH, OBJECT

      pub catch_inner : (form : ℕ) (bound held : List ℕ) (v : Var) (body : ℕ) (k : Cont) (t : ℕ) → (is_in bound y ≡ true → Q) → (FreeCont k y → Q) → (h : CatchAs x conv form bound held v body k t) → VarOk h.name → Free h.inner y → Q
      catch_inner form bound held v body k t b f h name =
          assigned_free (h.name.0 ∷ held) (v ∷ []) (Argument.Var h.name ∷ []) h.inner h.start (name, tt)
          (λ vs. go form (v.0 ∷ bound) (v.0 ∷ held) body (Continuation.Lam h.value h.end) h.start (adding_in (v ∷ []) bound vs b)
          (λ r. plain_free h.end (Step.Uncatch k (Argument.Var h.value)) k h.ends ((λ q. absurd (true≢false (sym q ∙ r.1))), tt) refl refl refl nothing_used f r.0) h.body_as)
          h.assigned

      catch_free : (form : ℕ) (bound held : List ℕ) (v : Var) (body : ℕ) (k : Cont) (t : ℕ) → (is_in bound y ≡ true → Q) → (FreeCont k y → Q) → CatchAs x conv form bound held v body k t → Free t y → Q
      catch_free form bound held v body k t b f h =
          free_made t (Step.Catch h.name h.inner k) h.stands (term_used (Step.Catch h.name h.inner k) tt nothing_used (cont_used k f)) tt
          ((λ r out. catch_inner form bound held v body k t b f h (λ q. absurd (true≢false (sym q ∙ not_only (h.name.0 == y) out))) r), cont_ok k [] f)

      methods_free : (form : ℕ) (bound : List ℕ) (methods : List Method) (ops lams : List ℕ) → (is_in bound y ≡ true → Q) → MethodsAs x conv form bound methods ops lams → AllByRecursion (LamOk []) lams
      methods_free form bound [] [] [] b h = tt
      methods_free form bound (m ∷ methods) (o ∷ ops) (l ∷ lams) b h = (lam_ok form bound m.params m.body l [] b h.1, methods_free form bound methods ops lams b h.2)
      methods_free form bound [] [] (l ∷ lams) b h = absurd h
      methods_free form bound [] (o ∷ ops) lams b h = absurd h
      methods_free form bound (m ∷ methods) [] lams b h = absurd h
      methods_free form bound (m ∷ methods) (o ∷ ops) [] b h = absurd h

      pub object_last : (form : ℕ) (bound : List ℕ) (methods : List Method) (ops lams : List ℕ) (k : Cont) (a : Arg) (u : ℕ) → (is_in bound y ≡ true → Q) → (FreeCont k y → Q) → MethodsAs x conv form bound methods ops lams → AllByRecursion ArgOk (a ∷ []) → Stands x u (Step.Object a ops lams k) → Free u y → Q
      object_last form bound methods ops lams k a u b f h ok s =
          free_made u (Step.Object a ops lams k) s (term_used (Step.Object a ops lams k) ok nothing_used (cont_used k f))
          (each_append (LamOk []) (filter_map proc_of (a ∷ [])) lams (no_procs [] (a ∷ []) ok) (methods_free form bound methods ops lams b h)) (cont_ok k [] f)

      global_free : (g : ℕ) (k : Cont) (t : ℕ) → (FreeCont k y → Q) → Stands x t (if is_proc x.unit g then Step.Give k (Argument.Global g) else Step.GlobalGet g k) → Free t y → Q
      global_free g k t f h = by (is_proc x.unit g) h
        where
          by : (b : Bool) → Stands x t (if b then Step.Give k (Argument.Global g) else Step.GlobalGet g k) → Free t y → Q
          by true h = give_k t k (Argument.Global g) h tt f
          by false h = plain_free t (Step.GlobalGet g k) k h tt refl refl refl nothing_used f

      node_free : (form : ℕ) (bound held : List ℕ) (key : ℕ) (k : Cont) (t : ℕ) (node : Option Core) → (is_in bound y ≡ true → Q) → (FreeCont k y → Q) → ConvertsNode x conv form bound held key node k t → Free t y → Q
      node_free form bound held key k t None b f h = absurd h
      node_free form bound held key k t (Some (Node.Const c)) b f h = give_k t k (Argument.Const c) h tt f
      node_free form bound held key k t (Some (Node.Local v)) b f h = give_k t k (Argument.Var v) h.1 (λ q. b (subst (λ n. is_in bound n ≡ true) (eqb-true v.0 y q) h.0)) f
      node_free form bound held key k t (Some (Node.Global g)) b f h = global_free g k t f h
      node_free form bound held key k t (Some (Node.Builtin c)) b f h = give_k t k (Argument.Builtin c) h tt f
      node_free form bound held key k t (Some (Node.Op o)) b f h = give_k t k (Argument.Op o) h tt f
      node_free form bound held key k t (Some (Node.Lambda params body)) b f h = lambda_for form key bound held params body k t b f h
      node_free form bound held key k t (Some (Node.If test first second)) b f h =
          named_free k t (IfAs x conv form bound held test first second) f
          (λ j u g r. over_free form bound held (test ∷ []) (r.over.0 ∷ []) (Step.If r.over.0 r.first_at r.second_at) u b (λ given w s. if_free form bound held first second j r.over.0 r.first_at r.second_at w b g r.first_as r.second_as given s) r.over.1) h
      node_free form bound held key k t (Some (Node.Block items)) b f h = block_free form bound held items k t b f h
      node_free form bound held key k t (Some (Node.Let vars values body)) b f h =
          values_free form bound held (map (own_place x.unit) vars) values h.args t h.behind h.inner b (let_free form bound h.inner held vars h.args body k h.behind h.start b f h.assigned h.body_as) h.values
      node_free form bound held key k t (Some (Node.Labels vars lambdas body)) b f h = labels_free form bound held vars lambdas body k t b f h
      node_free form bound held key k t (Some (Node.SetLocal v value)) b f h =
          over_free form bound held (value ∷ []) (h.1.0 ∷ []) (Step.Set v h.1.0 k) t b
          (λ given w s. plain_free w (Step.Set v h.1.0 k) k s given refl refl refl (λ e. or_split (v.0 == y) false e (λ q. b (subst (λ n. is_in bound n ≡ true) (eqb-true v.0 y q) h.0)) (λ q. absurd (false≢true q))) f) h.1.1
      node_free form bound held key k t (Some (Node.SetGlobal g value)) b f h =
          over_free form bound held (value ∷ []) (h.1.0 ∷ []) (Step.GlobalSet g h.1.0 k) t b (λ given w s. plain_free w (Step.GlobalSet g h.1.0 k) k s given refl refl refl nothing_used f) h.1.1
      node_free form bound held key k t (Some (Node.Catch v body)) b f h = named_free k t (CatchAs x conv form bound held v body) f (λ j u g r. catch_free form bound held v body j u b g r) h
      node_free form bound held key k t (Some (Node.Object proc methods)) b f h =
          over_free form bound held (proc ∷ []) (h.over.0 ∷ []) (Step.Object h.over.0 h.ops h.lams k) t b (λ given w s. object_last form bound methods h.ops h.lams k h.over.0 w b f h.methods_as given s) h.over.1
      node_free form bound held key k t (Some (Node.Call operator operands tail)) b f h =
          over_free form bound held (operator ∷ operands) (h.f ∷ h.args) (Step.Call h.f h.args k) t b (λ given w s. plain_free w (Step.Call h.f h.args k) k s given refl refl refl nothing_used f) h.over
      node_free form bound held key k t (Some (Node.Prim c operands)) b f h =
          over_free form bound held operands h.args (Step.Prim c h.args k) t b (λ given w s. plain_free w (Step.Prim c h.args k) k s given refl refl refl nothing_used f) h.over

    -- ---- all nodes

    pub within_free : (n : ℕ) (form : ℕ) (bound held : List ℕ) (key : ℕ) (k : Cont) (t : ℕ) → (is_in bound y ≡ true → Q) → (FreeCont k y → Q) → ConvertsWithin x n form bound held key k t → Free t y → Q
    within_free zero form bound held key k t b f h = absurd h
    within_free (suc n) form bound held key k t b f h = node_free n (within_free n) form bound held key k t (node_at x.unit form key) b f h
