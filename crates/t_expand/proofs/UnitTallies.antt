-- What is counted of the forms of a unit, from one form to the next.
use Rattle.std.proofs.Common.{◌≡◌, ℕ, ◌<◌, List, [], ◌∷◌, ◌++◌, length, sym, ap, subst, ◌∙◌, arith}
use Rattle.std.specs.Prelude.{All}
use Rattle.std.specs.List.{flat_map}
use Rattle.std.proofs.lemmas.List.{append-nil, map-append}
use Rattle.std.proofs.lemmas.List.Concat.{flat_map-append}
use Rattle.std.proofs.lemmas.List.Elements.{All-push}
use Rattle.t_base.specs.declared.basics.Var.{Var}
use Rattle.t_base.specs.declared.shared_parts.Shared.{Shared}
use Rattle.t_core.specs.declared.forms.Core.{Core}
use Rattle.t_core.specs.declared.forms.Form.{Form}
use Rattle.t_core.specs.Nodes.{binders_of}
use Rattle.t_core.specs.Whole.{IsTree, pair_of}
use Rattle.expansion.specs.Counting.{Once, numbers}
use Rattle.expansion.specs.Strings.{string_of}
use Rattle.expansion.specs.Trees.{Grown}
use Rattle.expand_laws.proofs.Placing.{grown_none, is_tree}
use Rattle.t_expand.specs.Tallies.{AreNamed, Before, IsTallied, AreTallied, RootTallied, bound_by, named_by}
use Rattle.t_expand.specs.declared.driver_state.Expansion.{Expansion}
use Rattle.t_expand.specs.declared.unit_top.Rooted.{Rooted}

-- ---- lists

pub bound_more : (forms : List Form) (form : Form) → bound_by (forms ++ form ∷ []) ≡ bound_by forms ++ numbers (flat_map binders_of form.nodes.items)
bound_more forms form =
    let bound = λ (f : Form). flat_map binders_of f.nodes.items in
    ap numbers (flat_map-append bound forms (form ∷ [])) ∙ map-append (λ (v : Var). v.0) (flat_map bound forms) (flat_map bound (form ∷ []))
    ∙ ap (λ (l : List Var). bound_by forms ++ numbers l) (append-nil (bound form))

pub named_more : (of : Core → List ℕ) (forms : List Form) (form : Form) → named_by of (forms ++ form ∷ []) ≡ named_by of forms ++ flat_map of form.nodes.items
named_more of forms form =
    let named = λ (f : Form). flat_map of f.nodes.items in
    flat_map-append named forms (form ∷ []) ∙ ap (λ (l : List ℕ). named_by of forms ++ l) (append-nil (named form))

-- ---- strings and pairs that are named

pub named_same : (strings pairs : List ℕ) (s t : Shared) → t.strings ≡ s.strings → t.pairs ≡ s.pairs → AreNamed strings pairs s → AreNamed strings pairs t
named_same strings pairs s t e f n =
    record { strings_once = rw (e, f) n.strings_once; pairs_once = rw f n.pairs_once; lower = rw f n.lower }

pub named_are : (strings pairs ss ps : List ℕ) (s : Shared) → ss ≡ strings → ps ≡ pairs → AreNamed strings pairs s → AreNamed ss ps s
named_are strings pairs ss ps s e f n = rw (e, f) n

-- ---- a form more

abbrev pub before_of : List Form → Before
before_of forms = record { variables = bound_by forms; strings = named_by string_of forms; pairs = named_by pair_of forms }

abbrev pub IsFormTree : Form → Type 0
IsFormTree form = 0 < length form.nodes.items → IsTree form.nodes.items form.root

pub tallied_same : (forms : List Form) (a b : Expansion) → b.next ≡ a.next → b.shared ≡ a.shared → AreTallied forms a → AreTallied forms b
tallied_same forms a b next shared t = record { trees = t.trees; variables = rw next t.variables; named = rw shared t.named }

-- no node of a form yet
pub starts : (forms : List Form) (a b : Expansion) → b.nodes.nodes ≡ [] → b.next ≡ a.next → b.shared ≡ a.shared → AreTallied forms a → IsTallied (before_of forms) b [] []
starts forms a b nodes next shared t = record {
  trees = subst (λ (l : List Core). Grown 0 l []) (sym nodes) (grown_none 0);
  variables = rw (next, nodes, append-nil (bound_by forms)) t.variables;
  named = rw (shared, nodes, append-nil (named_by string_of forms), append-nil (named_by pair_of forms)) t.named;
}

-- its nodes
pub root_tallied : (forms : List Form) (x : Rooted) (a b : Expansion) → x.nodes.items ≡ a.nodes.nodes → b.next ≡ a.next → b.shared ≡ a.shared
    → IsTallied (before_of forms) a (x.root ∷ []) [] → RootTallied forms x b
root_tallied forms x a b nodes next shared t = record {
  tree = λ some. is_tree x.nodes.items x.root (subst (λ (l : List Core). Grown 0 l (x.root ∷ [])) (sym nodes) t.trees);
  variables = rw (next, nodes) (subst (λ (l : List Var). Once 0 a.next (bound_by forms ++ numbers l)) (append-nil (flat_map binders_of a.nodes.nodes)) t.variables);
  named = rw (shared, nodes) t.named;
}

pub none_tallied : (forms : List Form) (x : Rooted) (a b : Expansion) → x.nodes.items ≡ [] → b.next ≡ a.next → b.shared ≡ a.shared → AreTallied forms a → RootTallied forms x b
none_tallied forms x a b nodes next shared t = record {
  tree = λ some. absurd (let e : length x.nodes.items ≡ 0 = ap length nodes in omega (arith, some, e));
  variables = rw (next, nodes, append-nil (bound_by forms)) t.variables;
  named = rw (shared, nodes, append-nil (named_by string_of forms), append-nil (named_by pair_of forms)) t.named;
}

-- the form
pub tallied_more : (forms : List Form) (form : Form) (x : Rooted) (a b : Expansion) → form.nodes.items ≡ x.nodes.items → form.root ≡ x.root → b.next ≡ a.next
    → b.shared.strings ≡ a.shared.strings → b.shared.pairs ≡ a.shared.pairs → All IsFormTree forms → RootTallied forms x a → AreTallied (forms ++ form ∷ []) b
tallied_more forms form x a b nodes root next strings pairs trees t = record {
  trees = All-push IsFormTree forms form trees (rw (nodes, root) t.tree);
  variables = rw (next, bound_more forms form, nodes) t.variables;
  named = named_are _ _ (named_by string_of (forms ++ form ∷ [])) (named_by pair_of (forms ++ form ∷ [])) b.shared
      (named_more string_of forms form ∙ ap (λ (l : List Core). named_by string_of forms ++ flat_map string_of l) nodes)
      (named_more pair_of forms form ∙ ap (λ (l : List Core). named_by pair_of forms ++ flat_map pair_of l) nodes)
      (named_same _ _ a.shared b.shared strings pairs t.named);
}
