-- The run of words with homes is the run of the words.
use Rattle.std.proofs.Common.{◌≡◌, ℕ, zero, suc, ◌+◌, ◌*◌, ◌/◌, ◌≤◌, List, [], ◌++◌, length, map, drop, replicate, Option, Some, None, refl, sym, ap, subst, ◌∙◌, arith, inl, inr}
use Rattle.std.proofs.lemmas.List.{take-append-drop, map-append}
use Rattle.program_runs.specs.Runs.{End, Broken, Run, Observation}
use Rattle.program_runs.specs.Keeps.{KeepsAlike, EndsWithin, IsSafe}
use Rattle.program_runs.specs.Follows.{after, run_of}
use Rattle.program_runs.proofs.Prefixes.{prefix_of_eq}
use Rattle.word_ir.specs.declared.placed.Placed.{Placed}
use Rattle.word_ir.specs.declared.words.StaticWord.{StaticWord}
use Rattle.word_ir.specs.declared.words.Words.{Words}
use Rattle.word_ir.specs.Word.{Word, Number}
use Rattle.word_ir.specs.Storage.{Sizes, HEAP_START}
use Rattle.word_ir.specs.State.{Setting, stack_end, State, static_word, start, seen}
use Rattle.word_ir.specs.Step.{words_in, placed_in, step, words_run, placed_run}
use Rattle.word_ir.specs.Ranges.{HasWords, IsInPlace}
use Rattle.word_ir.proofs.Places.{start_in_place, step_in_place}
use Rattle.word_ir.proofs.Steady.{step_fixed}
use Rattle.trace_regs.specs.Homes.{Serves}
use Rattle.trace_regs.proofs.Stepping.{Next, next_step}

-- ---- runs that are the same

pub same_runs_keep : (a b : Run) → ((k : ℕ) → b k ≡ a k) → IsSafe a → KeepsAlike 1 0 a b
same_runs_keep a b same safe = record {
  ends_only = λ k e q. let ended : (a k).end ≡ Some e = ap (λ (x : Observation). x.end) (sym (same k)) ∙ q in (safe k e ended, (k, record { ended = ended; output = ap (λ (x : Observation). x.output) (sym (same k)) }));
  ends = λ j e q. (j, ap (λ (x : Observation). x.end) (same j) ∙ q, ap (λ (x : Observation). x.output) (same j), moves j);
  shows = λ j. (j, prefix_of_eq _ _ (ap (λ (x : Observation). x.output) (sym (same j))), moves j);
  shows_only = λ k. (k, prefix_of_eq _ _ (ap (λ (x : Observation). x.output) (same k)));
  heap = λ k. let e : (b k).heap ≡ (a k).heap = ap (λ (x : Observation). x.heap) (same k) in (k, omega (arith, e));
  waiting = λ k. let e : (b k).waiting ≡ (a k).waiting = ap (λ (x : Observation). x.waiting) (same k) in (k, omega (arith, e));
}
  where
    moves : (j : ℕ) → (b j).moves ≤ 1 * (a j).moves + 0
    moves j = let e : (b j).moves ≡ (a j).moves = ap (λ (x : Observation). x.moves) (same j) in omega (arith, e)

pub same_runs_are_safe : (a b : Run) → ((k : ℕ) → b k ≡ a k) → IsSafe a → IsSafe b
same_runs_are_safe a b same safe k e q = safe k e (ap (λ (x : Observation). x.end) (sym (same k)) ∙ q)

pub unbroken : EndsWithin Broken → ⊥
unbroken (inl h) = h
unbroken (inr h) = h

module _ (words : Words) (placed : Placed) (sizes : Sizes) (serves : Serves words placed) where
  abbrev m : Setting
  m = words_in words sizes

  abbrev n : Setting
  n = placed_in placed sizes

  -- the static words that stand behind the program's own
  abbrev pub more_words : List Word
  more_words = map static_word (drop (length words.statics.items) placed.words.statics.items)

  statics_are : map static_word placed.words.statics.items ≡ map static_word words.statics.items ++ more_words
  statics_are =
      let own : ℕ = length words.statics.items in
      let parts : placed.words.statics.items ≡ words.statics.items ++ drop own placed.words.statics.items =
      sym (take-append-drop own placed.words.statics.items) ∙ ap (λ (l : List StaticWord). l ++ drop own placed.words.statics.items) (serves.of).statics in
      ap (map static_word) parts ∙ map-append static_word words.statics.items (drop own placed.words.statics.items)

  starting : List Word → ℕ → State
  starting statics entry = record {
    storage = record { statics = statics; heap = replicate (sizes.heap / 4) (Number 0); stack = replicate (sizes.stack / 4) (Number 0) };
    next = HEAP_START;
    top = stack_end m;
    env = [];
    block = entry;
    place = 0;
    output = [];
    end = None;
    moves = 0;
  }

  pub start_next : Next words placed sizes serves (start m) (start n) more_words
  unfolding starting
  start_next = record {
    env = [];
    is = ap (λ (l : List Word). starting l placed.words.entry) statics_are ∙ ap (λ (e : ℕ). starting (map static_word words.statics.items ++ more_words) e) (serves.of).entry;
    agree = λ v c. refl;
  }

  -- ---- at each bound

  ended_next : (s t : State) (e : End) → s.end ≡ Some e → Next words placed sizes serves s t more_words → Next words placed sizes serves (step m s) (step n t) more_words
  ended_next s t e q next =
      let first : step m s ≡ s = step_fixed m s e q in
      let second : step n t ≡ t = step_fixed n t e (ap (λ (u : State). u.end) next.is ∙ q) in
      subst (λ (u : State). Next words placed sizes serves u (step n t) more_words) (sym first) (subst (λ (u : State). Next words placed sizes serves s u more_words) (sym second) next)

  pub always_next : (s t : State) → IsInPlace m s → Next words placed sizes serves s t more_words → ((step m s).end ≡ Some Broken → ⊥) → Next words placed sizes serves (step m s) (step n t) more_words
  always_next s t place next sound = by s.end refl
    where
      by : (o : Option End) → s.end ≡ o → Next words placed sizes serves (step m s) (step n t) more_words
      by (Some e) q = ended_next s t e q next
      by None q = next_step words placed sizes serves s t more_words place q sound next

  alike_after : (k : ℕ) (s t : State) → IsInPlace m s → Next words placed sizes serves s t more_words → IsSafe (run_of (step m) (seen m) s) → seen n (after (step n) k t) ≡ seen m (after (step m) k s)
  alike_after zero s t place next safe = ap (seen n) next.is
  alike_after (suc k) s t place next safe =
      alike_after k (step m s) (step n t) (step_in_place m s place) (always_next s t place next (λ e. unbroken (safe 1 Broken e))) (λ j e q. safe (suc j) e q)

  pub run_alike : HasWords sizes → IsSafe (words_run words sizes) → (k : ℕ) → placed_run placed sizes k ≡ words_run words sizes k
  run_alike whole safe k = alike_after k (start m) (start n) (start_in_place m whole) start_next safe

pub homes_run_alike : (words : Words) (placed : Placed) (sizes : Sizes) → Serves words placed → HasWords sizes → IsSafe (words_run words sizes) → (k : ℕ) → placed_run placed sizes k ≡ words_run words sizes k
homes_run_alike words placed sizes serves whole safe k = run_alike words placed sizes serves whole safe k

pub homes_keep : (words : Words) (placed : Placed) (sizes : Sizes) → Serves words placed → HasWords sizes → IsSafe (words_run words sizes) → KeepsAlike 1 0 (words_run words sizes) (placed_run placed sizes)
homes_keep words placed sizes serves whole safe = same_runs_keep (words_run words sizes) (placed_run placed sizes) (λ k. run_alike words placed sizes serves whole safe k) safe
