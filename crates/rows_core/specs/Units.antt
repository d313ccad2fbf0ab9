-- The units of the tests.
use Rattle.std.specs.Prelude.{◌≡◌, ℕ, zero, suc, ◌+◌, ◌<◌, ◌≤◌, List, [], ◌∷◌, length, slice_get, Some, sum_by, pos}
use Rattle.t_base.specs.declared.shared_parts.Const.{Const}
use Rattle.t_base.specs.declared.shared_parts.Const.TheVariants as Constant
use Rattle.t_core.specs.declared.forms.Core.TheVariants as Node
use Rattle.t_core.specs.declared.forms.FormKind.TheVariants.{Plain}
use Rattle.t_core.specs.declared.forms.Form.{Form}
use Rattle.t_core.specs.Counts.{form_count}

abbrev pub rest_of : ℕ → Const
rest_of zero = Constant.Nil
rest_of (suc k) = Constant.Pair k

-- a list of so many ones, its last pair first
pub record IsOnes (n : ℕ) (pairs : List (Const × Const)) : Type 0 where
  pub count : length pairs ≡ n
  pub each : (k : ℕ) → k < n → slice_get pairs k ≡ Some (Constant.Fix (pos 1), rest_of k)

-- the form `(quote c)`
pub record IsQuote (c : Const) (form : Form) : Type 0 where
  pub kind : form.kind ≡ Plain
  pub nodes : form.nodes.items ≡ Node.Const c ∷ []

-- the forms have at most so many nodes together, and 8 more for each, whatever pairs there are
abbrev pub HaveAtMost : ℕ → List Form → Type 0
HaveAtMost bulk forms = (pairs : List (Const × Const)) → sum_by (λ form. form_count pairs form + 8) forms ≤ bulk
