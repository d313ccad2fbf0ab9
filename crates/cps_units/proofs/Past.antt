-- A number above the variables of all nodes is above what the unit binds and assigns.
use Rattle.std.specs.List.{list_any}
use Rattle.std.proofs.Common.{◌≡◌, ℕ, ◌+◌, ◌<◌, List, All, length, take, get_or, slice_get, Option, Some, None, option_and_then, refl, subst}
use Rattle.std.proofs.lemmas.Option.{slice_get_within, get_or_from_slice_get}
use Rattle.std.proofs.lemmas.List.Folds.{Any-from_list_any}
use Rattle.t_core.specs.declared.forms.Core.{Core}
use Rattle.t_core.specs.declared.forms.Form.{Form}
use Rattle.t_core.specs.declared.forms.UnitCore.{UnitCore}
use Rattle.t_core.specs.Nodes.{binders_of}
use Rattle.t_meaning.specs.Costs.{assigns}
use Rattle.t_meaning.specs.Programs.{node_at}
use Rattle.cps_units.specs.Numbers.{IsPastNode, ArePastNodes, IsPastUnit}
use Rattle.cps_units.proofs.Walked.{weaker, all_more, node_less}

abbrev pub IsPastForm : ℕ → Form → Type 0
IsPastForm n form = All (IsPastNode n) form.nodes.items

all_at : {X : Type 0} (P : X → Type 0) (xs : List X) (i : ℕ) (x : X) → All P xs → slice_get xs i ≡ Some x → P x
all_at P xs i x all e = subst P (get_or_from_slice_get xs i x x e) (all i x (slice_get_within xs i x e))

form_of : (unit : UnitCore) (form key : ℕ) (node : Core) → node_at unit form key ≡ Some node → (f : Form) × (slice_get unit.forms.items form ≡ Some f) × (slice_get f.nodes.items key ≡ Some node)
form_of unit form key node there = by (slice_get unit.forms.items form) refl there
  where
    by : (o : Option Form) → slice_get unit.forms.items form ≡ o → option_and_then (λ f. slice_get f.nodes.items key) o ≡ Some node
        → (f : Form) × (slice_get unit.forms.items form ≡ Some f) × (slice_get f.nodes.items key ≡ Some node)
    by None e h = cc
    by (Some f) e h = (f, e, h)

pub past_unit : (unit : UnitCore) (n : ℕ) → All (IsPastForm n) unit.forms.items → IsPastUnit unit n
past_unit unit n all = record {
  binders = λ form at v b.
      let f = form_of unit form at b.node b.there in
      let node = all_at (IsPastNode n) f.0.nodes.items at b.node (all_at (IsPastForm n) unit.forms.items form f.0 all f.1) f.2 in
      subst (λ m. m < n) b.number (all_at (λ w. w.0 < n) (binders_of b.node) b.place b.var node.binders b.binds);
  assigned = λ v e.
      let a = Any-from_list_any (λ form. list_any (assigns v) form.nodes.items) unit.forms.items e in
      let b = Any-from_list_any (assigns v) a.1.nodes.items a.4 in
      let past = subst (IsPastForm n) a.3 (all a.0 a.1 a.2) in
      let node = subst (IsPastNode n) b.3 (past b.0 b.1 b.2) in
      node.assigned v b.4;
}

pub form_more : (n m : ℕ) (forms : List Form) (i : ℕ) (d : Form) → i < length forms → All (IsPastForm n) (take i forms) → ArePastNodes n m (get_or forms i d).nodes.items → All (IsPastForm m) (take (i + 1) forms)
form_more n m forms i d lt all h = all_more (IsPastForm n) (IsPastForm m) forms i d lt (λ f. weaker (IsPastNode n) (IsPastNode m) (node_less n m h.least_first) f.nodes.items) all h.past
