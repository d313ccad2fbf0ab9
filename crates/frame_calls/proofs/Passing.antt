-- Parameters with what they get.
use Rattle.std.proofs.Common.{◌≡◌, ℕ, zero, suc, ◌+◌, ◌<◌, List, [], ◌∷◌, slice_get, Option, Some, None, refl, ap, ◌∙◌, arith}
use Rattle.std.proofs.lemmas.Bool.{ne_eqb, eq-eqb}
use Rattle.word_ir.specs.Word.{Word}
use Rattle.word_ir.specs.State.{Own, kept}
use Rattle.word_ir.specs.State as word_state
use Rattle.word_ir.specs.Stamps.{Stamp}
use Rattle.word_trees.specs.Cores.{bound_words, bound_stamps}
use Rattle.select_rows.specs.Macros.{var}
use Rattle.frame_calls.specs.Codes.{params_from}

-- a variable that is none of them
not_word : (n k : ℕ) (ws : List (Option Word)) (env : word_state.Env Word) (x : ℕ) → x < n → kept (bound_words (params_from n k) ws env) (Own x) ≡ kept env (Own x)
not_word n zero ws env x lt = refl
not_word n (suc k) [] env x lt = refl
not_word n (suc k) (Some w ∷ ws) env x lt = not_word (suc n) k ws ((Own n, w) ∷ env) x (omega (arith, lt)) ∙ rw (ne_eqb n x (λ eq. absurd (omega (arith, eq, lt)))) refl
not_word n (suc k) (None ∷ ws) env x lt = not_word (suc n) k ws env x (omega (arith, lt))

not_stamp : (n k : ℕ) (ws : List Stamp) (env : word_state.Env Stamp) (x : ℕ) → x < n → kept (bound_stamps (params_from n k) ws env) (Own x) ≡ kept env (Own x)
not_stamp n zero ws env x lt = refl
not_stamp n (suc k) [] env x lt = refl
not_stamp n (suc k) (w ∷ ws) env x lt = not_stamp (suc n) k ws ((Own n, w) ∷ env) x (omega (arith, lt)) ∙ rw (ne_eqb n x (λ eq. absurd (omega (arith, eq, lt)))) refl

pub word_bound : (n k i : ℕ) (ws : List (Option Word)) (env : word_state.Env Word) (w : Word) → i < k → slice_get ws i ≡ Some (Some w) → kept (bound_words (params_from n k) ws env) (Own (n + i)) ≡ Some w
word_bound n zero i ws env w lt at = absurd (omega (arith, lt))
word_bound n (suc k) i [] env w lt at = absurd (cc)
word_bound n (suc k) zero (Some x ∷ ws) env w lt at =
    let same : x ≡ w = cc in
    let m : n + 0 ≡ n = omega arith in
    ap (λ y. kept (bound_words (params_from (suc n) k) ws ((Own n, x) ∷ env)) (Own y)) m ∙ (not_word (suc n) k ws ((Own n, x) ∷ env) n (omega arith) ∙ (rw (eq-eqb n n refl) (ap Some same)))
word_bound n (suc k) zero (None ∷ ws) env w lt at = absurd (cc)
word_bound n (suc k) (suc i) (Some x ∷ ws) env w lt at =
    let m : n + suc i ≡ suc n + i = omega arith in
    ap (λ y. kept (bound_words (params_from (suc n) k) ws ((Own n, x) ∷ env)) (Own y)) m ∙ word_bound (suc n) k i ws ((Own n, x) ∷ env) w (omega (arith, lt)) at
word_bound n (suc k) (suc i) (None ∷ ws) env w lt at =
    let m : n + suc i ≡ suc n + i = omega arith in
    ap (λ y. kept (bound_words (params_from (suc n) k) ws env) (Own y)) m ∙ word_bound (suc n) k i ws env w (omega (arith, lt)) at

pub stamp_bound : (n k i : ℕ) (ws : List Stamp) (env : word_state.Env Stamp) (w : Stamp) → i < k → slice_get ws i ≡ Some w → kept (bound_stamps (params_from n k) ws env) (Own (n + i)) ≡ Some w
stamp_bound n zero i ws env w lt at = absurd (omega (arith, lt))
stamp_bound n (suc k) i [] env w lt at = absurd (cc)
stamp_bound n (suc k) zero (x ∷ ws) env w lt at =
    let same : x ≡ w = cc in
    let m : n + 0 ≡ n = omega arith in
    ap (λ y. kept (bound_stamps (params_from (suc n) k) ws ((Own n, x) ∷ env)) (Own y)) m ∙ (not_stamp (suc n) k ws ((Own n, x) ∷ env) n (omega arith) ∙ (rw (eq-eqb n n refl) (ap Some same)))
stamp_bound n (suc k) (suc i) (x ∷ ws) env w lt at =
    let m : n + suc i ≡ suc n + i = omega arith in
    ap (λ y. kept (bound_stamps (params_from (suc n) k) ws ((Own n, x) ∷ env)) (Own y)) m ∙ stamp_bound (suc n) k i ws ((Own n, x) ∷ env) w (omega (arith, lt)) at

pub param_at : (n k i : ℕ) → i < k → slice_get (params_from n k) i ≡ Some (var (n + i))
param_at n zero i lt = absurd (omega (arith, lt))
param_at n (suc k) zero lt = let m : n ≡ n + 0 = omega arith in ap (λ y. Some (var y)) m
param_at n (suc k) (suc i) lt = let m : suc n + i ≡ n + suc i = omega arith in param_at (suc n) k i (omega (arith, lt)) ∙ ap (λ y. Some (var y)) m
