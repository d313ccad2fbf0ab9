-- The sizes of the test units.
use Rattle.std.proofs.Common.{◌≡◌, ℕ, zero, suc, ◌+◌, ◌*◌, ◌-◌, ◌^◌, ◌<◌, ◌≤◌, List, [], ◌∷◌, ◌++◌, length, slice_get, Some, refl, sym, ap, subst, ◌∙◌, pos, arith, length-append, add-one, inl, inr}
use Rattle.std.proofs.lemmas.Bool.{cases_lt}
use Rattle.std.proofs.lemmas.List.Sums.{sum_by-append}
use Rattle.std.proofs.lemmas.Option.{slice_get_within}
use Rattle.t_base.specs.declared.basics.Var.{Var}
use Rattle.t_base.specs.declared.shared_parts.Const.{Const}
use Rattle.t_base.specs.declared.shared_parts.Const.TheVariants as Constant
use Rattle.t_prim.specs.SharedParts.{HasLowerParts, StandsBelow}
use Rattle.t_core.specs.declared.forms.Core.TheVariants as Node
use Rattle.t_core.specs.declared.forms.FormKind.TheVariants.{Plain}
use Rattle.t_core.specs.declared.forms.Form.{Form}
use Rattle.t_core.specs.Counts.{form_count, datum_nodes}
use Rattle.t_core.proofs.DatumLemmas.{datum_atom, datum_pair}
use Rattle.rows_core.specs.Units.{IsOnes, IsQuote, HaveAtMost, rest_of}

pub no_pairs_lower : (pairs : List (Const × Const)) → pairs ≡ [] → HasLowerParts pairs
no_pairs_lower pairs e = record { parts_below = λ k p found. absurd (omega (arith, slice_get_within pairs k p found, ap length e)) }

rest_stands_below : (k : ℕ) → StandsBelow k (rest_of k)
rest_stands_below zero = tt
rest_stands_below (suc k) = omega arith

pub ones_lower : (n : ℕ) (pairs : List (Const × Const)) → IsOnes n pairs → HasLowerParts pairs
ones_lower n pairs o = record { parts_below = below }
  where
    below : (k : ℕ) (p : Const × Const) → slice_get pairs k ≡ Some p → StandsBelow k p.0 × StandsBelow k p.1
    below k p found =
        let within : k < n = omega (arith, slice_get_within pairs k p found, o.count) in
        let is : (Constant.Fix (pos 1), rest_of k) ≡ p = cc (o.each k within) in
        let P : Const × Const → Type 0 = λ q. StandsBelow k q.0 × StandsBelow k q.1 in
        subst P is (tt, rest_stands_below k)

-- a list of k + 1 ones
pub ones_size : (n : ℕ) (pairs : List (Const × Const)) → IsOnes n pairs → (k : ℕ) → k < n → datum_nodes pairs (Constant.Pair k) ≡ 2 * k + 3
ones_size n pairs o zero lt =
    let whole = datum_pair pairs (ones_lower n pairs o) (Constant.Pair zero) (Constant.Fix (pos 1), rest_of zero) (o.each zero lt) in
    omega (arith, whole, datum_atom pairs (Constant.Fix (pos 1)) refl, datum_atom pairs Constant.Nil refl)
ones_size n pairs o (suc k) lt =
    let whole = datum_pair pairs (ones_lower n pairs o) (Constant.Pair (suc k)) (Constant.Fix (pos 1), rest_of (suc k)) (o.each (suc k) lt) in
    omega (arith, whole, datum_atom pairs (Constant.Fix (pos 1)) refl, ones_size n pairs o k (omega arith))

-- the count of a quoted constant
quote_size : (c : Const) (form : Form) (pairs : List (Const × Const)) → IsQuote c form → form_count pairs form ≡ datum_nodes pairs c
quote_size c form pairs q = rw (q.kind, q.nodes) (omega arith)

pub list_lower : (n : ℕ) (made pairs : List (Const × Const)) → IsOnes n made → pairs ≡ made → HasLowerParts pairs
list_lower n made pairs o same = subst HasLowerParts (sym same) (ones_lower n made o)

-- a form of a quoted list of ones is small
pub list_small : (n : ℕ) (made pairs : List (Const × Const)) (form : Form) → IsOnes n made → pairs ≡ made → IsQuote (Constant.Pair (n - 1)) form → 0 < n → n < 1000000 → form_count pairs form + 8 ≤ 2 ^ 31
list_small n made pairs form o same q some few =
    let size : form_count pairs form ≡ datum_nodes made (Constant.Pair (n - 1)) = quote_size (Constant.Pair (n - 1)) form pairs q ∙ ap (λ ps. datum_nodes ps (Constant.Pair (n - 1))) same in
    omega (arith, size, ones_size n made o (n - 1) (omega arith))

module _ {X : Type 0} where
  get_early : (xs ys : List X) (k : ℕ) → k < length xs → slice_get (xs ++ ys) k ≡ slice_get xs k
  get_early [] ys k lt = absurd (omega arith)
  get_early (x ∷ xs) ys zero lt = refl
  get_early (x ∷ xs) ys (suc k) lt = get_early xs ys k (omega arith)

  get_last : (xs : List X) (y : X) → slice_get (xs ++ y ∷ []) (length xs) ≡ Some y
  get_last [] y = refl
  get_last (x ∷ xs) y = get_last xs y

-- one more
pub ones_push : (n : ℕ) (pairs : List (Const × Const)) (rest : Const) → IsOnes n pairs → rest ≡ rest_of n → IsOnes (n + 1) (pairs ++ (Constant.Fix (pos 1), rest) ∷ [])
ones_push n pairs rest o is = record { count = omega (arith, length-append pairs ((Constant.Fix (pos 1), rest) ∷ []), o.count); each = each }
  where
    each : (k : ℕ) → k < n + 1 → slice_get (pairs ++ (Constant.Fix (pos 1), rest) ∷ []) k ≡ Some (Constant.Fix (pos 1), rest_of k)
    each k lt = elim (cases_lt k n) [ inl early ↦ get_early pairs ((Constant.Fix (pos 1), rest) ∷ []) k (omega (arith, o.count)) ∙ o.each k early | inr late ↦ last k (omega arith) ]
      where
        last : (j : ℕ) → j ≡ n → slice_get (pairs ++ (Constant.Fix (pos 1), rest) ∷ []) j ≡ Some (Constant.Fix (pos 1), rest_of j)
        last j e =
            let here : j ≡ length pairs = e ∙ sym o.count in
            rw here (get_last pairs (Constant.Fix (pos 1), rest)) ∙ ap (λ r. Some (Constant.Fix (pos 1), r)) (is ∙ ap rest_of (sym e))

pub rest_next : (k : ℕ) → Constant.Pair k ≡ rest_of (k + 1)
rest_next k = rw add-one refl

-- the count of a LAMBDA around a constant
pub lambda_size : (form : Form) (vars : List Var) (n : ℕ) → form.kind ≡ Plain → form.nodes.items ≡ Node.Const Constant.Nil ∷ Node.Lambda vars 0 ∷ [] → length vars ≡ n → n < 10000 → HaveAtMost 10010 (form ∷ [])
lambda_size form vars n kind nodes count small pairs =
    let size : form_count pairs form ≡ datum_nodes pairs Constant.Nil + (1 + length vars) = rw (kind, nodes) (omega arith) in
    omega (arith, size, datum_atom pairs Constant.Nil refl)

pub more_forms : (k : ℕ) (forms : List Form) (form : Form) → HaveAtMost (k * 10010) forms → HaveAtMost 10010 (form ∷ []) → HaveAtMost ((k + 1) * 10010) (forms ++ form ∷ [])
more_forms k forms form before one pairs = omega (arith, sum_by-append (λ f. form_count pairs f + 8) forms (form ∷ []), before pairs, one pairs)

-- what a push to a known list gives
pub pushed : {X : Type 0} (x : X) {new old ys : List X} → new ≡ old ++ x ∷ [] → old ≡ ys → new ≡ ys ++ x ∷ []
pushed x e known = e ∙ ap (λ l. l ++ x ∷ []) known
