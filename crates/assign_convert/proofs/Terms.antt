-- The terms that stand in a program's place for it with cells: none is a Set, and so no variable is assigned.
use Rattle.std.specs.List.{filter_map, cons_option, list_any}
use Rattle.std.proofs.Common.{◌≡◌, ℕ, zero, suc, ◌≤◌, List, [], ◌∷◌, map, Option, Some, None, Bool, true, false, if◌then◌else◌, ◌||◌, slice_get, refl, sym, ap, ◌∙◌, subst, arith}
use Rattle.std.specs.Option.{option_map}
use Rattle.t_base.specs.declared.basics.Var.{Var}
use Rattle.cps_ir.specs.declared.args.Arg.{Arg}
use Rattle.cps_ir.specs.declared.args.Arg.TheVariants as Argument
use Rattle.cps_ir.specs.declared.terms.Cont.{Cont}
use Rattle.cps_ir.specs.declared.terms.Cont.TheVariants as Continuation
use Rattle.cps_ir.specs.declared.terms.Term.{Term}
use Rattle.cps_ir.specs.declared.terms.Term.TheVariants as Node
use Rattle.cps_ir.specs.declared.terms.Cps.{Cps}
use Rattle.cps_ir.specs.Terms.{moves_of}
use Rattle.cps_ir.specs.Parts.{assigns, is_assigned, walked}
use Rattle.assign_convert.specs.AssignedCells.{read, given, celled}

-- a program with the terms of another one
abbrev pub with_terms : Cps → Cps → Cps
with_terms a d = record a { terms = d.terms }

-- ---- by cases

-- what holds of both choices holds of the choice
pub either : {X : Type 0} (P : X → Type 0) (b : Bool) (x y : X) → P x → P y → P (if b then x else y)
either P true x y h k = h
either P false x y h k = k

module _ (f : ℕ → Bool) where
  -- what holds of a Give and of the read of a cell holds of what stands for a read
  pub of_read : (P : Term → Type 0) (k : Cont) (value : Arg) → P (Node.Give k value) → ((x : Var) → value ≡ Argument.Var x → P (Node.CellGet x k)) → P (read f k value)
  of_read P k (Argument.Const c) h g = h
  of_read P k (Argument.Var x) h g = either P (f x.0) (Node.CellGet x k) (Node.Give k (Argument.Var x)) (g x refl) h
  of_read P k (Argument.Proc l) h g = h
  of_read P k (Argument.Global n) h g = h
  of_read P k (Argument.Builtin b) h g = h
  of_read P k (Argument.Op o) h g = h

  -- and so of what stands for a Give, where it holds of a new cell
  pub of_given : (P : Term → Type 0) (k : Cont) (value : Arg) → P (Node.Give k value) → ((x : Var) → value ≡ Argument.Var x → P (Node.CellGet x k))
      → ((param : Var) (body : ℕ) → k ≡ Continuation.Lam param body → P (Node.Cell param value body)) → P (given f k value)
  of_given P (Continuation.Var k) value h g c = of_read P (Continuation.Var k) value h g
  of_given P (Continuation.Lam param body) value h g c = either P (f param.0) (Node.Cell param value body) (read f (Continuation.Lam param body) value) (c param body refl) (of_read P (Continuation.Lam param body) value h g)

  -- ---- no Set

  pub no_set : (x : ℕ) (term : Term) → assigns x (celled f term) ≡ false
  no_set x (Node.Give k value) = of_given (λ t. assigns x t ≡ false) k value refl (λ y e. refl) (λ param body e. refl)
  no_set x (Node.Set y value k) = refl
  no_set x (Node.Call g args k) = refl
  no_set x (Node.Prim b args k) = refl
  no_set x (Node.If test s t) = refl
  no_set x (Node.Labels vars lams body) = refl
  no_set x (Node.Join k param body rest) = refl
  no_set x (Node.Cell y value rest) = refl
  no_set x (Node.CellGet y k) = refl
  no_set x (Node.CellSet y value k) = refl
  no_set x (Node.GlobalGet g k) = refl
  no_set x (Node.GlobalInit g value k) = refl
  no_set x (Node.GlobalSet g value k) = refl
  no_set x (Node.Catch escape body k) = refl
  no_set x (Node.Uncatch k value) = refl
  no_set x (Node.Object proc ops methods k) = refl
  no_set x (Node.Halt value) = refl

  -- no more moves
  pub no_more_moves : (term : Term) → moves_of (celled f term) ≤ moves_of term
  no_more_moves (Node.Give k value) = of_given (λ t. moves_of t ≤ 2) k value (omega arith) (λ y e. omega arith) (λ param body e. omega arith)
  no_more_moves (Node.Set y value k) = omega arith
  no_more_moves (Node.Call g args k) = omega arith
  no_more_moves (Node.Prim b args k) = omega arith
  no_more_moves (Node.If test s t) = omega arith
  no_more_moves (Node.Labels vars lams body) = omega arith
  no_more_moves (Node.Join k param body rest) = omega arith
  no_more_moves (Node.Cell y value rest) = omega arith
  no_more_moves (Node.CellGet y k) = omega arith
  no_more_moves (Node.CellSet y value k) = omega arith
  no_more_moves (Node.GlobalGet g k) = omega arith
  no_more_moves (Node.GlobalInit g value k) = omega arith
  no_more_moves (Node.GlobalSet g value k) = omega arith
  no_more_moves (Node.Catch escape body k) = omega arith
  no_more_moves (Node.Uncatch k value) = omega arith
  no_more_moves (Node.Object proc ops methods k) = omega arith
  no_more_moves (Node.Halt value) = omega arith

  -- ---- places

  -- the term at a place stands for the one at that place
  pub at_place : (ts : List Term) (t : ℕ) → slice_get (map (celled f) ts) t ≡ option_map (celled f) (slice_get ts t)
  at_place [] t = refl
  at_place (x ∷ ts) zero = refl
  at_place (x ∷ ts) (suc t) = at_place ts t

  pub none_assigned : (x : ℕ) (ts : List Term) (ps : List ℕ) → list_any (assigns x) (filter_map (slice_get (map (celled f) ts)) ps) ≡ false
  none_assigned x ts [] = refl
  none_assigned x ts (p ∷ ps) = subst (λ o. list_any (assigns x) (cons_option o (filter_map (slice_get (map (celled f) ts)) ps)) ≡ false) (sym (at_place ts p)) (by_option (slice_get ts p) (none_assigned x ts ps))
    where
      by_option : (o : Option Term) → list_any (assigns x) (filter_map (slice_get (map (celled f) ts)) ps) ≡ false → list_any (assigns x) (cons_option (option_map (celled f) o) (filter_map (slice_get (map (celled f) ts)) ps)) ≡ false
      by_option None h = h
      by_option (Some t) h = ap (λ b. b || list_any (assigns x) (filter_map (slice_get (map (celled f) ts)) ps)) (no_set x t) ∙ h

-- no variable of a program is assigned whose terms stand so
pub unassigned : (f : ℕ → Bool) (ts : List Term) (b : Cps) → b.terms.items ≡ map (celled f) ts → (x : ℕ) → is_assigned b x ≡ false
unassigned f ts b e x = subst (λ us. list_any (assigns x) (filter_map (slice_get us) (walked b)) ≡ false) (sym e) (none_assigned f x ts (walked b))
