-- The first refusal is one.
use Rattle.std.proofs.Common.{◌≡◌, ◌⊎◌, ℕ, ◌<◌, ◌≤◌, ◌==◌, if◌then◌else◌, arith, inl, inr, refl, sym, ap, ◌∙◌}
use Rattle.t_rows.specs.declared.refusal.SyntaxKind.{SyntaxKind}
use Rattle.t_rows.specs.declared.refusal.SyntaxKind.TheVariants.{BadForm, Twice, ParamTwice, NotOperation, NotSettable, NotTopLevel, ConstantSet, FreeName}
use Rattle.expansion.specs.Refusals.{number}

pub same_start : (a b m n : ℕ) → (a < b) ⊎ (a ≡ b) × (m ≤ n) → (b < a) ⊎ (b ≡ a) × (n ≤ m) → a ≡ b
same_start a b m n (inl h) (inl i) = omega arith
same_start a b m n (inl h) (inr i) = omega arith
same_start a b m n (inr h) i = h.0

pub same_number : (a b m n : ℕ) → (a < b) ⊎ (a ≡ b) × (m ≤ n) → (b < a) ⊎ (b ≡ a) × (n ≤ m) → m ≡ n
same_number a b m n (inl h) (inl i) = omega arith
same_number a b m n (inl h) (inr i) = omega arith
same_number a b m n (inr h) (inl i) = omega arith
same_number a b m n (inr h) (inr i) = omega arith

-- ---- a kind by its number

kind_of : ℕ → SyntaxKind
kind_of n =
    if n == 1 then BadForm
    else if n == 2 then Twice
    else if n == 3 then ParamTwice
    else if n == 4 then NotOperation
    else if n == 5 then NotSettable
    else if n == 6 then NotTopLevel
    else if n == 7 then ConstantSet
    else FreeName

kind_again : (k : SyntaxKind) → kind_of (number k) ≡ k
unfolding kind_of
kind_again BadForm = refl
kind_again Twice = refl
kind_again ParamTwice = refl
kind_again NotOperation = refl
kind_again NotSettable = refl
kind_again NotTopLevel = refl
kind_again ConstantSet = refl
kind_again FreeName = refl

pub same_kind : (a b : SyntaxKind) → number a ≡ number b → a ≡ b
same_kind a b e = sym (kind_again a) ∙ ap kind_of e ∙ kind_again b
