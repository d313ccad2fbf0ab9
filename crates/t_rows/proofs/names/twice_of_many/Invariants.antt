use Rattle.std.proofs.Common.{◌≡◌, ℕ, nat_eq, List, take}
use Rattle.std.specs.HashSet.{contains}
use Rattle.std.specs.List.{list_any}
use Rattle.t_forms.specs.declared.scope.LocalName.{LocalName}
use Rattle.t_forms.specs.Lookup.{is_same_key}
use Rattle.t_rows.specs.Numbers.{number_of_name}
use Rattle.t_rows.proofs.TwiceLemmas.{AreTwice}
use Rattle.t_rows.proofs.names.twice_of_many.Given as goal

abbrev pub invariant-binders : goal.invariant-binders
invariant-binders l = record {
  refused : (texts : List (List ℕ)) → AreTwice texts (take l.i l.binders) l.refusals.items;
  known : (n : LocalName) → contains nat_eq l.seen (number_of_name n) ≡ list_any (λ x. is_same_key n x.name) (take l.i l.binders);
}
