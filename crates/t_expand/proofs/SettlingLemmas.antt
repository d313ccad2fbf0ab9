-- Globals as the forms before leave them.
use Rattle.std.proofs.Common.{◌≡◌, ℕ, zero, suc, ◌<◌, ◌≤◌, Bool, true, false, if◌then◌else◌, List, [], ◌∷◌, ◌++◌, length, get_or, set, refl, sym, ap, ◌∙◌, arith}
use Rattle.t_base.specs.declared.shared_parts.Global1.{Global1}
use Rattle.t_base.specs.declared.shared_parts.GlobalKind.TheVariants.{Proc}
use Rattle.t_core.specs.declared.forms.Core.{Core}
use Rattle.t_core.specs.declared.forms.Form.{Form}
use Rattle.t_core.specs.declared.forms.FormKind.{FormKind}
use Rattle.t_core.specs.declared.forms.FormKind.TheVariants.{Define}
use Rattle.t_core.specs.Whole.{is_lambda_at}
use Rattle.expansion.specs.Settling.{with_procedure, settled, all_settled}

pub set_procedure : (g : ℕ) (xs : List Global1) (d : Global1) → g < length xs
    → set xs g (record { name = (get_or xs g d).name; kind = Proc }) ≡ with_procedure g xs
set_procedure g [] d lt = absurd (omega (arith, lt))
set_procedure zero (x ∷ xs) d lt = refl
set_procedure (suc g) (x ∷ xs) d lt = ap (λ l. x ∷ l) (set_procedure g xs d (omega (arith, lt)))

-- a place past the end
pub with_none : (g : ℕ) (xs : List Global1) → length xs ≤ g → with_procedure g xs ≡ xs
with_none g [] le = refl
with_none zero (x ∷ xs) le = absurd (omega (arith, le))
with_none (suc g) (x ∷ xs) le = ap (λ l. x ∷ l) (with_none g xs (omega (arith, le)))

-- by a DEFINE with a LAMBDA as root, with another root, and of a global that isn't there
pub settled_set : (globals : List Global1) (kind : FormKind) (g : ℕ) (nodes : List Core) (root : ℕ) (x : Global1) → kind ≡ Define g → is_lambda_at nodes root ≡ true
    → g < length globals → x ≡ get_or globals g x → set globals g (record { name = x.name; kind = Proc }) ≡ settled globals kind nodes root
settled_set globals kind g nodes root x is lambda lt there =
    ap (λ (y : Global1). set globals g (record { name = y.name; kind = Proc })) there ∙ set_procedure g globals x lt
    ∙ sym (ap (λ k. settled globals k nodes root) is ∙ ap (λ (b : Bool). if b then with_procedure g globals else globals) lambda)

pub settled_not : (globals : List Global1) (kind : FormKind) (g : ℕ) (nodes : List Core) (root : ℕ) → kind ≡ Define g → is_lambda_at nodes root ≡ false
    → globals ≡ settled globals kind nodes root
settled_not globals kind g nodes root is other =
    sym (ap (λ k. settled globals k nodes root) is ∙ ap (λ (b : Bool). if b then with_procedure g globals else globals) other)

pub settled_past : (globals : List Global1) (kind : FormKind) (g : ℕ) (nodes : List Core) (root : ℕ) → kind ≡ Define g → length globals ≤ g
    → globals ≡ settled globals kind nodes root
settled_past globals kind g nodes root is le = sym (ap (λ k. settled globals k nodes root) is ∙ by (is_lambda_at nodes root))
  where
    by : (b : Bool) → (if b then with_procedure g globals else globals) ≡ globals
    by true = with_none g globals le
    by false = refl

pub settled_more : (globals : List Global1) (forms : List Form) (form : Form)
    → all_settled globals (forms ++ form ∷ []) ≡ settled (all_settled globals forms) form.kind form.nodes.items form.root
settled_more globals [] form = refl
settled_more globals (x ∷ forms) form = settled_more (settled globals x.kind x.nodes.items x.root) forms form

-- one form more
pub settled_next : (first a b : List Global1) (forms more : List Form) (form : Form) → a ≡ all_settled first forms → b ≡ settled a form.kind form.nodes.items form.root
    → more ≡ forms ++ form ∷ [] → b ≡ all_settled first more
settled_next first a b forms more form so_far now e =
    now ∙ ap (λ l. settled l form.kind form.nodes.items form.root) so_far ∙ sym (ap (all_settled first) e ∙ settled_more first forms form)
