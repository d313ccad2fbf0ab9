use Rattle.std.proofs.Common.{◌≡◌, ◌+◌, ◌≤◌, take, sum_by}
use Rattle.std.specs.Prelude.{◌^◌}
use Rattle.t_core.specs.Counts.{Pairs, form_count}
use Rattle.t_core.specs.Limits.{greatest}
use Rattle.core_size.specs.Sizes.{KnowsSizes}
use Rattle.core_size.proofs.sizes.largest_form.Given as goal

abbrev pub invariant-forms : goal.invariant-forms
invariant-forms l = record {
  few : l.bulk ≤ 2 ^ 31;
  bulk_is : (pairs : Pairs) → KnowsSizes l.sizes pairs → l.bulk ≡ sum_by (λ form. form_count pairs form + 8) (take l.form-index l.forms);
  most_is : (pairs : Pairs) → KnowsSizes l.sizes pairs → l.most ≡ greatest (form_count pairs) (take l.form-index l.forms);
}
