-- Nodes that are made.
use Rattle.std.proofs.Common.{◌≡◌, ℕ, List, [], ◌∷◌, ◌++◌, map, length, sym, ap, subst, ◌∙◌}
use Rattle.t_base.specs.declared.shared_parts.Const.{Const}
use Rattle.t_core.specs.declared.forms.Core.{Core}
use Rattle.t_core.specs.declared.forms.Core.TheVariants as Node
use Rattle.t_core.specs.Nodes.{parts_of, places_of, binders_of}
use Rattle.t_core.specs.Whole.{pair_in, pair_of}
use Rattle.t_forms.specs.Data.{Datum}
use Rattle.t_forms.specs.Held.{Held}
use Rattle.t_rows.specs.declared.rows.Shape.TheVariants as shape
use Rattle.t_rows.specs.Given.{IsShape}
use Rattle.expansion.specs.Meaning.{Fits, IsQuoted}
use Rattle.expansion.specs.Strings.{string_in, string_of}
use Rattle.core_frames.specs.Building.{part_of, IsBuilt}
use Rattle.t_expand.specs.Driving.{NodeMade}
use Rattle.t_expand.specs.Tallies.{AreNamed, places_done, variables_around, fresh_done}
use Rattle.core_frames.specs.declared.build.Done.{Done}
use Rattle.t_expand.specs.declared.driver_state.Expansion.{Expansion}
use Rattle.core_frames.specs.declared.frames.NodeState.{NodeState}
use Rattle.t_expand.proofs.NamingLemmas.{none_named}
use Rattle.t_expand.proofs.FitLemmas.{fits_shape, fits_constant}
use Rattle.t_expand.proofs.TallyLemmas.{around_none, built_places, built_binders, built_strings, built_pairs}

-- a node of parts
pub made_built : (e h : Expansion) (state : NodeState) (done : List Done) (c : Core) (place : ℕ) → h.shared ≡ e.shared → h.nodes.nodes ≡ e.nodes.nodes ++ c ∷ []
    → h.nodes.spans ≡ e.nodes.spans ++ state.span ∷ [] → place ≡ length e.nodes.nodes → place ≡ length e.nodes.spans → IsBuilt state.shape state.tail done c → NodeMade e h state done place
made_built e h state done c place on_shared nodes spans at span_at built = record {
  core = c;
  nodes = nodes;
  spans = spans;
  at = at;
  span_at = span_at;
  parts = built.parts;
  fits = λ vars s is. fits_shape e.shared.names e.forms h.shared vars state.tail state.shape s c is built.shaped;
  places = built_places state.shape state.tail done c built;
  binders = built_binders state.shape state.tail done c built;
  named = λ strings pairs n. subst (λ s. AreNamed (strings ++ string_of c) (pairs ++ pair_of c) s) (sym on_shared)
      (none_named strings pairs (string_of c) (pair_of c) e.shared (built_strings state.shape state.tail c built.shaped) (built_pairs state.shape state.tail c built.shaped) n);
}

-- a constant
pub made_constant : (e h : Expansion) (state : NodeState) (done : List Done) (key : ℕ) (k : Const) (c : Core) (place : ℕ) → state.shape ≡ shape.Constant key → c ≡ Node.Const k → done ≡ []
    → h.nodes.nodes ≡ e.nodes.nodes ++ c ∷ [] → h.nodes.spans ≡ e.nodes.spans ++ state.span ∷ [] → place ≡ length e.nodes.nodes → place ≡ length e.nodes.spans
    → ((d : Datum) → Held e.shared.names e.forms key d → IsQuoted h.shared d k)
    → ((strings pairs : List ℕ) → AreNamed strings pairs e.shared → AreNamed (strings ++ string_in k) (pairs ++ pair_in k) h.shared) → NodeMade e h state done place
made_constant e h state done key k c place shape_is is none nodes spans at span_at quoted named = record {
  core = c;
  nodes = nodes;
  spans = spans;
  at = at;
  span_at = span_at;
  parts = ap (λ n. parts_of n state.tail) is ∙ ap (map part_of) (sym none);
  fits = λ vars s of. subst (λ n. Fits h.shared vars state.tail s n) (sym is)
      (fits_constant e.shared.names e.forms h.shared vars state.tail key s k (subst (λ x. IsShape e.shared.names e.forms vars x s) shape_is of) quoted);
  places = ap places_of is ∙ sym (ap places_done none);
  binders = ap binders_of is ∙ sym (ap (λ l. variables_around state.shape (fresh_done l)) none ∙ around_none state.shape);
  named = λ strings pairs n. subst (λ x. AreNamed (strings ++ string_of x) (pairs ++ pair_of x) h.shared) (sym is) (named strings pairs n);
}
