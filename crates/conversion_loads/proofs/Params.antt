-- A parameter that stands for an assigned one weighs nothing.
use Rattle.std.specs.List.{AllByRecursion}
use Rattle.std.proofs.Common.{◌≡◌, ◌==◌, ◌||◌, ◌≤◌, ◌+◌, ℕ, Bool, true, false, inl, inr, List, [], ◌∷◌, length, refl, sym, ap, ◌∙◌, subst, arith}
use Rattle.std.proofs.lemmas.Bool.{true≢false, eqb-true}
use Rattle.t_base.specs.declared.basics.Var.{Var}
use Rattle.t_meaning.specs.Costs.{is_assigned}
use Rattle.cps_ir.specs.declared.args.Arg.TheVariants as Argument
use Rattle.cps_ir.specs.Parts.{is_assigned as cps_assigned}
use Rattle.cps_ir.specs.Reaches.{is_in}
use Rattle.cps_ir.specs.Loads.{one_if}
use Rattle.cps_ir.proofs.Counts.{tot}
use Rattle.cps_conversion.specs.Conversion.{Translation, Assigned, AreNew, variables, adding}

module _ (x : Translation) (same : (v : Var) → cps_assigned x.cps v.0 ≡ is_assigned x.unit v) where
  abbrev pub assigned_count : List Var → ℕ
  assigned_count vars = tot (λ v. one_if (is_assigned x.unit v)) vars

  pub same_assigned : (v z : Var) → (v.0 == z.0) ≡ true → is_assigned x.unit v ≡ is_assigned x.unit z
  same_assigned v z e = sym (same v) ∙ ap (cps_assigned x.cps) (eqb-true v.0 z.0 e) ∙ same z

  var_of : (v z : Var) → Argument.Var v ≡ Argument.Var z → v ≡ z
  var_of v z e = cc

  -- a variable that is held isn't among those that are bound as they are
  still_out : (z : Var) → is_assigned x.unit z ≡ false → (base held around : List ℕ) (vars ys : List Var) (t next : ℕ) → Assigned x around vars (variables ys) t next → AreNew x held ys → is_in held z.0 ≡ true → is_in (adding vars base) z.0 ≡ true → is_in base z.0 ≡ true
  still_out z un base held around [] [] t next h new there e = e
  still_out z un base held around (v ∷ vars) (y ∷ ys) t next (inl h) new there e =
      by (v.0 == z.0) refl (still_out z un (v.0 ∷ base) (y.0 ∷ held) around vars ys t next h.2 new.1 (more (y.0 == z.0)) e)
    where
      more : (b : Bool) → (b || is_in held z.0) ≡ true
      more true = refl
      more false = there

      by : (b : Bool) → (v.0 == z.0) ≡ b → (b || is_in base z.0) ≡ true → is_in base z.0 ≡ true
      by true q r = absurd (true≢false (sym there ∙ ap (is_in held) (sym (eqb-true v.0 z.0 q)) ∙ ap (λ (u : Var). is_in held u.0) (sym (var_of y v h.1)) ∙ new.0.apart))
      by false q r = r
  still_out z un base held around (v ∷ vars) (y ∷ ys) t next (inr h) new there e =
      by (v.0 == z.0) refl (still_out z un (v.0 ∷ base) (y.0 ∷ held) (v.0 ∷ around) vars ys h.2.0 next h.2.2 new.1 (more (y.0 == z.0)) e)
    where
      more : (b : Bool) → (b || is_in held z.0) ≡ true
      more true = refl
      more false = there

      by : (b : Bool) → (v.0 == z.0) ≡ b → (b || is_in base z.0) ≡ true → is_in base z.0 ≡ true
      by true q r = absurd (true≢false (sym h.0 ∙ same_assigned v z q ∙ un))
      by false q r = r
  still_out z un base held around [] (y ∷ ys) t next h new there e = absurd h
  still_out z un base held around (v ∷ vars) [] t next h new there e = absurd h

  module _ (opens : ℕ → Bool) where
    -- each that is open is bound there, and those that are bound so far and not assigned are held
    pub params_fewer : (base held around : List ℕ) (vars ys : List Var) (t next : ℕ) → Assigned x around vars (variables ys) t next → AreNew x held ys
        → ((z : Var) → is_assigned x.unit z ≡ false → is_in base z.0 ≡ true → is_in held z.0 ≡ true)
        → AllByRecursion (λ (y : Var). opens y.0 ≡ true → is_in (adding vars base) y.0 ≡ true) ys
        → tot (λ (y : Var). one_if (opens y.0)) ys + assigned_count vars ≤ length ys
    params_fewer base held around [] [] t next h new inside each = omega arith
    params_fewer base held around (v ∷ vars) (y ∷ ys) t next (inl h) new inside each =
        let rest = params_fewer (v.0 ∷ base) (y.0 ∷ held) around vars ys t next h.2 new.1 grown each.1 in
        let one = at_most (opens y.0) in
        let none : one_if (is_assigned x.unit v) ≡ 0 = ap one_if h.0 in
        omega (arith, rest, one, none)
      where
        at_most : (b : Bool) → one_if b ≤ 1
        at_most true = omega arith
        at_most false = omega arith

        grown : (z : Var) → is_assigned x.unit z ≡ false → is_in (v.0 ∷ base) z.0 ≡ true → is_in (y.0 ∷ held) z.0 ≡ true
        grown z un e = subst (λ (u : Var). is_in (u.0 ∷ held) z.0 ≡ true) (sym (var_of y v h.1)) (both (v.0 == z.0) (inside z un) e)
          where
            both : (b : Bool) → (is_in base z.0 ≡ true → is_in held z.0 ≡ true) → (b || is_in base z.0) ≡ true → (b || is_in held z.0) ≡ true
            both true f e = refl
            both false f e = f e
    params_fewer base held around (v ∷ vars) (y ∷ ys) t next (inr h) new inside each =
        let rest = params_fewer (v.0 ∷ base) (y.0 ∷ held) (v.0 ∷ around) vars ys h.2.0 next h.2.2 new.1 grown each.1 in
        let none = closed (opens y.0) refl in
        let one : one_if (is_assigned x.unit v) ≡ 1 = ap one_if h.0 in
        omega (arith, rest, one, none)
      where
        or_right : (b : Bool) (c : Bool) → c ≡ true → (b || c) ≡ true
        or_right true c e = refl
        or_right false c e = e

        not_v : (b : Bool) (z : Var) → is_assigned x.unit z ≡ false → (v.0 == z.0) ≡ b → (b || is_in base z.0) ≡ true → is_in base z.0 ≡ true
        not_v true z un q e = absurd (true≢false (sym h.0 ∙ same_assigned v z q ∙ un))
        not_v false z un q e = e

        grown : (z : Var) → is_assigned x.unit z ≡ false → is_in (v.0 ∷ base) z.0 ≡ true → is_in (y.0 ∷ held) z.0 ≡ true
        grown z un e = or_right (y.0 == z.0) (is_in held z.0) (inside z un (not_v (v.0 == z.0) z un refl e))

        equal_self : (n : ℕ) → (n == n) ≡ true
        equal_self n = grind arith

        closed : (b : Bool) → opens y.0 ≡ b → one_if b ≡ 0
        closed false q = refl
        closed true q =
            let e = still_out y new.0.unassigned (v.0 ∷ base) (y.0 ∷ held) (v.0 ∷ around) vars ys h.2.0 next h.2.2 new.1 (ap (λ b. b || is_in held y.0) (equal_self y.0)) (each.0 q) in
            absurd (true≢false (sym (inside y new.0.unassigned (not_v (v.0 == y.0) y new.0.unassigned refl e)) ∙ new.0.apart))
    params_fewer base held around [] (y ∷ ys) t next h new inside each = absurd h
    params_fewer base held around (v ∷ vars) [] t next h new inside each = absurd h
