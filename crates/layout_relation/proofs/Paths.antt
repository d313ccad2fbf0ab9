-- Steps of the frames from one state to another, with the moves that they take, and what holds of all states on the way.
use Rattle.std.proofs.Common.{◌≡◌, ℕ, ◌+◌, ◌-◌, ◌≤◌, length, refl, sym, ap, subst, ◌∙◌, arith, ⊎_elim}
use Rattle.std.proofs.lemmas.Bool.{cases_lt}
use Rattle.program_runs.specs.Follows.{after}
use Rattle.program_runs.proofs.Simulate.{after_add}
use Rattle.frame_ir.specs.declared.forms.Frames.{Frames}
use Rattle.frame_ir.specs.States.{State}
use Rattle.frame_ir.specs.Running.{step}

-- `Low` is of words of heap and of live frames
pub record Path (p : Frames) (Low : ℕ → ℕ → Type 0) (s u : State) (most : ℕ) : Type 0 where
  pub count : ℕ
  pub goes : after (step p) count s ≡ u
  pub moves : u.moves ≤ s.moves + most
  pub low : (i : ℕ) → 1 ≤ i → i ≤ count → let t = after (step p) i s in Low t.store.heap (length t.live)

module _ (p : Frames) (Low : ℕ → ℕ → Type 0) where
  abbrev pub stays : (s : State) → Path p Low s s 0
  stays s = record { count = 0; goes = refl; moves = omega arith; low = λ i a b. absurd (omega (arith, a, b)) }

  abbrev pub steps : (s u : State) (most : ℕ) → step p s ≡ u → u.moves ≤ s.moves + most → Low u.store.heap (length u.live) → Path p Low s u most
  steps s u most e le low = record {
    count = 1;
    goes = e;
    moves = le;
    low = λ i a b. let one : 1 ≡ i = omega (arith, a, b) in subst (λ i. let t = after (step p) i s in Low t.store.heap (length t.live)) one (subst (λ t. Low t.store.heap (length t.live)) (sym e) low);
  }

  abbrev pub follows : (s t u : State) (m n : ℕ) → Path p Low s t m → Path p Low t u n → Path p Low s u (m + n)
  follows s t u m n a b = record {
    count = a.count + b.count;
    goes = after_add (step p) a.count b.count s ∙ ap (after (step p) b.count) a.goes ∙ b.goes;
    moves = let x = a.moves in let y = b.moves in omega (arith, x, y);
    low = λ i g l. ⊎_elim
        (λ above.
        let k = i - a.count in
        let e : a.count + k ≡ i = omega (arith, above) in
        let j : after (step p) i s ≡ after (step p) k t = ap (λ n. after (step p) n s) (sym e) ∙ after_add (step p) a.count k s ∙ ap (after (step p) k) a.goes in
        subst (λ t. Low t.store.heap (length t.live)) (sym j) (b.low k (omega (arith, above)) (omega (arith, l, above))))
        (λ below. a.low i g below)
        (cases_lt a.count i);
  }

  pub more_path : (s u : State) (m n : ℕ) → m ≤ n → Path p Low s u m → Path p Low s u n
  more_path s u m n le path = record { count = path.count; goes = path.goes; moves = let a = path.moves in omega (arith, a, le); low = path.low }
