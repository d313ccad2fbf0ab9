-- Before the first form nothing is bound or named.
use Rattle.std.proofs.Common.{ℕ, ◌<◌, List, [], ◌++◌, length, sym, subst, arith}
use Rattle.std.proofs.lemmas.List.Elements.{All-nil}
use Rattle.t_base.specs.declared.shared_parts.Const.{Const}
use Rattle.t_prim.specs.SharedParts.{HasLowerParts}
use Rattle.t_core.specs.declared.forms.Form.{Form}
use Rattle.t_core.specs.Whole.{IsTree, pair_in}
use Rattle.expansion.specs.Counting.{EachOnce}
use Rattle.expansion.specs.Strings.{string_in}
use Rattle.expand_laws.proofs.Counting.{once_none, times_none}
use Rattle.t_expand.specs.Outcome.{IsStarted}
use Rattle.t_expand.specs.Tallies.{AreTallied, named_by_pairs}
use Rattle.t_expand.specs.declared.driver_state.Expansion.{Expansion}
use Rattle.unit_tops.specs.declared.entries.Entries.{Entries}
use Rattle.t_forms.specs.declared.arena.Cell.{Cell}

none_named : EachOnce 0 []
none_named = record { within = λ k h. absurd (omega arith); above = λ k h. times_none k }

none_lower : HasLowerParts []
none_lower = record { parts_below = λ k p e. absurd (let x : ⊥ = cc in x) }

pub nothing_tallied : (names : List (List ℕ)) (forms : List Cell) (entries : Entries) (e : Expansion) → IsStarted names forms entries e → AreTallied [] e
nothing_tallied names forms entries e s = record {
  trees = All-nil (λ (form : Form). 0 < length form.nodes.items → IsTree form.nodes.items form.root);
  variables = once_none 0 e.next;
  named = record {
    strings_once =
        subst (λ ps. EachOnce (length e.shared.strings.items) ([] ++ named_by_pairs string_in ps)) (sym s.pairs)
        (subst (λ (l : List (List ℕ)). EachOnce (length l) []) (sym s.strings) none_named);
    pairs_once = subst (λ (ps : List (Const × Const)). EachOnce (length ps) ([] ++ named_by_pairs pair_in ps)) (sym s.pairs) none_named;
    lower = subst HasLowerParts (sym s.pairs) none_lower;
  };
}
