-- Marks of variables, and the terms that stand for others by them.
use Rattle.std.specs.List.{filter_map, cons_option, list_any}
use Rattle.std.proofs.Common.{◌≡◌, ℕ, zero, suc, ◌+◌, ◌<◌, ◌≤◌, Bool, ◌||◌, List, [], ◌∷◌, ◌++◌, length, take, map, get_or, slice_get, cond, refl, sym, ap, ◌∙◌, arith}
use Rattle.std.proofs.lemmas.List.{take_more, take-append-le}
use Rattle.std.proofs.lemmas.List.Elements.{filter_map-append}
use Rattle.std.proofs.lemmas.List.Folds.{list_any-append}
use Rattle.cps_ir.specs.declared.args.Arg.{Arg}
use Rattle.cps_ir.specs.declared.args.Arg.TheVariants as Argument
use Rattle.cps_ir.specs.declared.terms.Cont.{Cont}
use Rattle.cps_ir.specs.declared.terms.Cont.TheVariants as Continuation
use Rattle.cps_ir.specs.declared.terms.Term.{Term}
use Rattle.cps_ir.specs.declared.terms.Term.TheVariants as Node
use Rattle.cps_ir.specs.Parts.{assigns}
use Rattle.cps_walk.specs.Marked.{is_marked}
use Rattle.cps_walk.proofs.MarkLemmas.{or_nothing}
use Rattle.assign_convert.specs.AssignedCells.{read, given, celled}

-- ---- terms in turn

abbrev pub assigned_in : List Term → List ℕ → ℕ → Bool
assigned_in terms places x = list_any (assigns x) (filter_map (slice_get terms) places)

one_more : (terms : List Term) (i : ℕ) (d : Term) (x : ℕ) → i < length terms → list_any (assigns x) (cons_option (slice_get terms i) []) ≡ assigns x (get_or terms i d)
one_more [] i d x lt = absurd (omega (arith, lt))
one_more (t ∷ terms) zero d x lt = sym (or_nothing (assigns x t))
one_more (t ∷ terms) (suc i) d x lt = one_more terms i d x (omega (arith, lt))

-- one term more
pub assigned_more : (terms : List Term) (places : List ℕ) (i d : ℕ) (e : Term) (old new : List Bool) → i < length places → get_or places i d < length terms
    → ((x : ℕ) → is_marked old x ≡ assigned_in terms (take i places) x) → ((x : ℕ) → is_marked new x ≡ (is_marked old x || assigns x (get_or terms (get_or places i d) e)))
    → (x : ℕ) → is_marked new x ≡ assigned_in terms (take (i + 1) places) x
assigned_more terms places i d e old new lt there h g x =
    g x ∙ ap (λ b. b || assigns x (get_or terms (get_or places i d) e)) (h x) ∙ ap (λ b. assigned_in terms (take i places) x || b) (sym (one_more terms (get_or places i d) e x there))
    ∙ sym (list_any-append (assigns x) (filter_map (slice_get terms) (take i places)) (filter_map (slice_get terms) (get_or places i d ∷ [])))
    ∙ ap (list_any (assigns x)) (sym (filter_map-append (slice_get terms) (take i places) (get_or places i d ∷ [])))
    ∙ ap (λ ps. assigned_in terms ps x) (sym (take_more places i d lt))

-- ---- terms by equal marks

module _ (f g : ℕ → Bool) (e : (x : ℕ) → f x ≡ g x) where
  read_same : (k : Cont) (value : Arg) → read f k value ≡ read g k value
  read_same k (Argument.Var x) = ap (λ b. cond b (Node.CellGet x k) (Node.Give k (Argument.Var x))) (e x.0)
  read_same k (Argument.Const c) = refl
  read_same k (Argument.Proc l) = refl
  read_same k (Argument.Global i) = refl
  read_same k (Argument.Builtin b) = refl
  read_same k (Argument.Op o) = refl

  given_same : (k : Cont) (value : Arg) → given f k value ≡ given g k value
  given_same (Continuation.Var k) value = read_same (Continuation.Var k) value
  given_same (Continuation.Lam param body) value =
      ap (λ b. cond b (Node.Cell param value body) (read f (Continuation.Lam param body) value)) (e param.0) ∙ ap (λ t. cond (g param.0) (Node.Cell param value body) t) (read_same (Continuation.Lam param body) value)

  celled_same : (term : Term) → celled f term ≡ celled g term
  celled_same (Node.Give k value) = given_same k value
  celled_same (Node.Set y value k) = refl
  celled_same (Node.Call h args k) = refl
  celled_same (Node.Prim b args k) = refl
  celled_same (Node.If test s t) = refl
  celled_same (Node.Labels vars lams body) = refl
  celled_same (Node.Join k param body rest) = refl
  celled_same (Node.Cell y value rest) = refl
  celled_same (Node.CellGet y k) = refl
  celled_same (Node.CellSet y value k) = refl
  celled_same (Node.GlobalGet i k) = refl
  celled_same (Node.GlobalInit i value k) = refl
  celled_same (Node.GlobalSet i value k) = refl
  celled_same (Node.Catch escape body k) = refl
  celled_same (Node.Uncatch k value) = refl
  celled_same (Node.Object proc ops methods k) = refl
  celled_same (Node.Halt value) = refl

  pub all_celled_same : (ts : List Term) → map (celled f) ts ≡ map (celled g) ts
  all_celled_same [] = refl
  all_celled_same (t ∷ ts) = ap (λ x. x ∷ map (celled f) ts) (celled_same t) ∙ ap (λ xs. celled g t ∷ xs) (all_celled_same ts)

-- a list taken whole
pub taken_all : {X : Type 0} (xs : List X) (i : ℕ) → length xs ≤ i → take i xs ≡ xs
taken_all [] zero le = refl
taken_all [] (suc i) le = refl
taken_all (x ∷ xs) zero le = absurd (omega (arith, le))
taken_all (x ∷ xs) (suc i) le = ap (λ ys. x ∷ ys) (taken_all xs i (omega (arith, le)))

-- a list that is put in place of another one as long
pub refilled : {X : Type 0} (n : ℕ) (xs ys : List X) → length xs ≡ n → take n (xs ++ ys) ≡ xs
refilled n xs ys e = take-append-le n xs ys (omega (arith, e)) ∙ taken_all xs n (omega (arith, e))
