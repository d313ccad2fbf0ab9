-- The roots of two forms that are alike.
use Rattle.std.proofs.Common.{◌≡◌, ℕ, ◌<◌, Bool, false, List, [], length, inl, inr, refl, sym, ap, ◌∙◌, arith}
use Rattle.std.specs.Option.{option_map_or}
use Rattle.std.proofs.lemmas.Option.{slice_get_within}
use Rattle.t_base.specs.declared.basics.Span.{Span}
use Rattle.t_base.specs.declared.basics.Var.{Var}
use Rattle.t_base.specs.declared.shared_parts.Shared.{Shared}
use Rattle.t_core.specs.declared.forms.Core.{Core}
use Rattle.t_core.specs.declared.forms.Core.TheVariants as Node
use Rattle.t_core.specs.declared.forms.Form.{Form}
use Rattle.t_core.specs.Nodes.{is_lambda}
use Rattle.t_core.specs.Whole.{is_lambda_at}
use Rattle.expand_laws.specs.Renaming.{Renaming, IsSameNode, Alike, alike, RootsAlike, nodes_of}

lambda_same : (shared other : Shared) (related : Var → Var → Type 0) (c d : Core) → IsSameNode shared other related c d → is_lambda c ≡ is_lambda d
lambda_same shared other related (Node.Const a) (Node.Const b) h = refl
lambda_same shared other related (Node.Local a) (Node.Local b) h = refl
lambda_same shared other related (Node.Global a) (Node.Global b) h = refl
lambda_same shared other related (Node.Builtin a) (Node.Builtin b) h = refl
lambda_same shared other related (Node.Op a) (Node.Op b) h = refl
lambda_same shared other related (Node.Lambda a b) (Node.Lambda c d) h = refl
lambda_same shared other related (Node.If a b c) (Node.If d e f) h = refl
lambda_same shared other related (Node.Block a) (Node.Block b) h = refl
lambda_same shared other related (Node.Let a b c) (Node.Let d e f) h = refl
lambda_same shared other related (Node.Labels a b c) (Node.Labels d e f) h = refl
lambda_same shared other related (Node.SetLocal a b) (Node.SetLocal c d) h = refl
lambda_same shared other related (Node.SetGlobal a b) (Node.SetGlobal c d) h = refl
lambda_same shared other related (Node.Catch a b) (Node.Catch c d) h = refl
lambda_same shared other related (Node.Object a b) (Node.Object c d) h = refl
lambda_same shared other related (Node.Call a b c) (Node.Call d e f) h = refl
lambda_same shared other related (Node.Prim a b) (Node.Prim c d) h = refl
lambda_same shared other related _ _ h = absurd h

-- what is known of the roots of two forms that are alike
pub record SameRoots (nodes others : List Core) (root top : ℕ) : Type 0 where
  pub lambdas : is_lambda_at nodes root ≡ is_lambda_at others top
  pub some : 0 < length nodes → 0 < length others
  pub all : 0 < length others → 0 < length nodes

roots_from_nodes : (renaming : Renaming) (shared other : Shared) (form twin : Form) (ss ts : List Span) (tail : Bool) (k j : ℕ)
    → Alike renaming shared other (nodes_of form ss) (nodes_of twin ts) tail k j → SameRoots form.nodes.items twin.nodes.items k j
roots_from_nodes renaming shared other form twin ss ts tail k j (alike t kk jj c d s g h p q same parts) = record {
  lambdas = ap (λ o. option_map_or is_lambda o false) g ∙ lambda_same shared other _ c d same ∙ ap (λ o. option_map_or is_lambda o false) (sym h);
  some = λ _. let there : jj < length twin.nodes.items = slice_get_within twin.nodes.items jj d h in omega arith;
  all = λ _. let there : kk < length form.nodes.items = slice_get_within form.nodes.items kk c g in omega arith;
}

pub none_here : (nodes : List Core) → nodes ≡ [] → 0 < length nodes → ⊥
none_here nodes e some = let f : length nodes ≡ 0 = ap length e in absurd (omega arith)

pub same_roots : (renaming : Renaming) (shared other : Shared) (form twin : Form) (ss ts : List Span) → RootsAlike renaming shared other form ss twin ts
    → SameRoots form.nodes.items twin.nodes.items form.root twin.root
same_roots renaming shared other form twin ss ts (inl none) = record {
  lambdas = ap (λ nodes. is_lambda_at nodes form.root) none.0 ∙ ap (λ nodes. is_lambda_at nodes twin.root) (sym none.1);
  some = λ some. absurd (none_here form.nodes.items none.0 some);
  all = λ some. absurd (none_here twin.nodes.items none.1 some);
}
same_roots renaming shared other form twin ss ts (inr a) = roots_from_nodes renaming shared other form twin ss ts false form.root twin.root a
