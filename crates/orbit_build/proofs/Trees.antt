-- The nodes of a form that is built stand for terms.
use Rattle.std.proofs.Common.{◌≡◌, ℕ, zero, suc, ◌+◌, ◌<◌, ◌≤◌, true, List, [], ◌∷◌, length, slice_get, Some, ap, ◌∙◌, subst, arith, ⊎_elim}
use Rattle.std.specs.Prelude.{max, All}
use Rattle.std.specs.List.{list_all}
use Rattle.std.proofs.Math.Nat.{max-le}
use Rattle.std.proofs.lemmas.Option.{slice_get_cases, slice_get_within, get_or_from_slice_get}
use Rattle.std.proofs.lemmas.List.Sums.{AllPass-from_list_all}
use Rattle.t_base.specs.declared.builtins.Builtin.{Builtin}
use Rattle.t_base.specs.declared.builtins.Builtin.TheVariants.{Add}
use Rattle.t_base.specs.declared.shared_parts.Const.{Const}
use Rattle.t_base.specs.declared.shared_parts.Const.TheVariants as Constant
use Rattle.t_base.specs.declared.shared_parts.Shared.{Shared}
use Rattle.t_prim.specs.SharedParts.{IsConst}
use Rattle.t_core.specs.declared.forms.Core.{Core}
use Rattle.t_core.specs.declared.forms.Core.TheVariants as Node
use Rattle.t_core.specs.Nodes.{places_of}
use Rattle.t_core.specs.Whole.{NamesAreThere, IsShaped}
use Rattle.orbit_build.specs.Sums.{is_fixnum, is_built_node, Term, Literal, Sum, HasFixnums, IsTerm}
use Rattle.orbit_build.proofs.TermRuns.{nesting}
use Rattle.orbit_build.proofs.OnlyAdd.{false_true, add_only}

-- what holds of all elements holds of the one at a place
pub all_at : {X : Type 0} (P : X → Type 0) (xs : List X) (k : ℕ) (x : X) → slice_get xs k ≡ Some x → All P xs → P x
all_at P xs k x e h = subst P (get_or_from_slice_get xs k x x e) (h k x (slice_get_within xs k x e))

module _ (shared : Shared) (nodes : List Core) (names : All (NamesAreThere shared) nodes) (shapes : All (IsShaped shared nodes) nodes) (built : list_all is_built_node nodes ≡ true)
    (before : (k : ℕ) (node : Core) → slice_get nodes k ≡ Some node → All (λ place. place < k) (places_of node)) where
  -- the node at a place stands for a term
  pub record Stands (k : ℕ) : Type 0 where
    pub term : Term
    pub is : IsTerm nodes k term
    pub fixnums : HasFixnums term
    pub shallow : nesting term ≤ k

  constant_stands : (k : ℕ) (c : Const) → slice_get nodes k ≡ Some (Node.Const c) → is_fixnum c ≡ true → IsConst shared c → Stands k
  constant_stands k (Constant.Fix v) at is i = record { term = Literal v; is = at; fixnums = i; shallow = omega arith }
  constant_stands k (Constant.Char c) at is i = absurd (false_true is)
  constant_stands k Constant.Nil at is i = absurd (false_true is)
  constant_stands k Constant.True at is i = absurd (false_true is)
  constant_stands k (Constant.Sym n) at is i = absurd (false_true is)
  constant_stands k (Constant.Str s) at is i = absurd (false_true is)
  constant_stands k (Constant.Pair p) at is i = absurd (false_true is)

  sum_stands : (k : ℕ) (operands : List ℕ) → slice_get nodes k ≡ Some (Node.Prim Add operands) → length operands ≡ 2 → All (λ place. place < k) (places_of (Node.Prim Add operands)) → ((i : ℕ) → i < k → Stands i) → Stands k
  sum_stands k [] at two below parts = absurd (omega (arith, two))
  sum_stands k (i ∷ []) at two below parts = absurd (omega (arith, two))
  sum_stands k (i ∷ j ∷ []) at two below parts =
      let li : i < k = below 0 0 (omega arith) in
      let lj : j < k = below 1 0 (omega arith) in
      let a = parts i li in
      let b = parts j lj in
      record {
        term = Sum a.term b.term;
        is = (i, j, at, li, lj, a.is, b.is);
        fixnums = (a.fixnums, b.fixnums);
        shallow = let m : max (nesting a.term + 1) (nesting b.term + 1) ≤ k = max-le (omega (arith, a.shallow)) (omega (arith, b.shallow)) in omega (arith, m);
      }
  sum_stands k (i ∷ j ∷ l ∷ operands) at two below parts = absurd (omega (arith, two))

  node_stands : (k : ℕ) (node : Core) → slice_get nodes k ≡ Some node → is_built_node node ≡ true → NamesAreThere shared node → IsShaped shared nodes node → All (λ place. place < k) (places_of node) → ((i : ℕ) → i < k → Stands i) → Stands k
  node_stands k (Node.Const c) at is i s below parts = constant_stands k c at is i
  node_stands k (Node.Prim q operands) at is i s below parts =
      let e = add_only q is in
      sum_stands k operands (at ∙ ap (λ (p : Builtin). Some (Node.Prim p operands)) e) (subst (λ (p : Builtin). IsShaped shared nodes (Node.Prim p operands)) e s) below parts
  node_stands k (Node.Local v) at is i s below parts = absurd (false_true is)
  node_stands k (Node.Global g) at is i s below parts = absurd (false_true is)
  node_stands k (Node.Builtin p) at is i s below parts = absurd (false_true is)
  node_stands k (Node.Op o) at is i s below parts = absurd (false_true is)
  node_stands k (Node.Lambda params body) at is i s below parts = absurd (false_true is)
  node_stands k (Node.If test a b) at is i s below parts = absurd (false_true is)
  node_stands k (Node.Block items) at is i s below parts = absurd (false_true is)
  node_stands k (Node.Let vars values body) at is i s below parts = absurd (false_true is)
  node_stands k (Node.Labels vars lambdas body) at is i s below parts = absurd (false_true is)
  node_stands k (Node.SetLocal v value) at is i s below parts = absurd (false_true is)
  node_stands k (Node.SetGlobal g value) at is i s below parts = absurd (false_true is)
  node_stands k (Node.Catch v body) at is i s below parts = absurd (false_true is)
  node_stands k (Node.Object proc methods) at is i s below parts = absurd (false_true is)
  node_stands k (Node.Call operator operands last) at is i s below parts = absurd (false_true is)

  pub node_of : (k : ℕ) → k < length nodes → (node : Core) × (slice_get nodes k ≡ Some node)
  node_of k lt = ⊎_elim (λ h. (h.0, h.2)) (λ h. absurd (let le = h.0 in omega (arith, le, lt))) (slice_get_cases nodes k).1

  stands_within : (n k : ℕ) → k < n → k < length nodes → Stands k
  stands_within zero k lt there = absurd (omega arith)
  stands_within (suc n) k lt there =
      let x = node_of k there in
      node_stands k x.0 x.1 (all_at (λ node. is_built_node node ≡ true) nodes k x.0 x.1 (AllPass-from_list_all is_built_node nodes built)) (all_at (NamesAreThere shared) nodes k x.0 x.1 names)
      (all_at (IsShaped shared nodes) nodes k x.0 x.1 shapes) (before k x.0 x.1) (λ i li. stands_within n i (omega arith) (omega arith))

  pub stands : (k : ℕ) → k < length nodes → Stands k
  stands k there = stands_within (length nodes) k there there
