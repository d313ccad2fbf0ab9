-- The stamped run of words with homes is the stamped run of the words.
use Rattle.std.proofs.Common.{◌≡◌, ℕ, zero, suc, ◌+◌, ◌/◌, Bool, true, false, List, [], ◌∷◌, ◌++◌, length, drop, replicate, Option, Some, None, refl, sym, ap, subst, ◌∙◌, arith, length-append}
use Rattle.std.specs.List.{AllByRecursion}
use Rattle.std.proofs.lemmas.List.{length-map, take-append-drop}
use Rattle.program_runs.specs.Runs.{End, Broken}
use Rattle.program_runs.specs.Keeps.{KeepsAlike, IsSafe}
use Rattle.program_runs.specs.Follows.{after, run_of}
use Rattle.word_ir.specs.declared.placed.Home.{Home}
use Rattle.word_ir.specs.declared.placed.Placed.{Placed}
use Rattle.word_ir.specs.declared.words.StaticWord.{StaticWord}
use Rattle.word_ir.specs.declared.words.Words.{Words}
use Rattle.word_ir.specs.Word.{Word}
use Rattle.word_ir.specs.Storage.{Sizes}
use Rattle.word_ir.specs.Lines.{Line, line_at, operands_of}
use Rattle.word_ir.specs.State.{Setting, Env, State, seen}
use Rattle.word_ir.specs.Effects.{word_of, line_effect}
use Rattle.word_ir.specs.Step.{words_in, placed_in, broken, done, step}
use Rattle.word_ir.specs.Stamps.{Stamp, Marks, Stamped, unmarked, stamp_of, stamped_start, line_may, marked, counted, stamped_done, stamped_unless, stamped_step, stamped_seen, stamped_words_run, stamped_placed_run}
use Rattle.t_base.specs.declared.basics.Var.{Var}
use Rattle.word_ir.specs.WholePlaced.{needed}
use Rattle.word_ir.specs.Ranges.{HasWords, IsInPlace}
use Rattle.word_ir.specs.Marked.{MarksFit}
use Rattle.word_ir.proofs.Places.{start_in_place, step_in_place}
use Rattle.word_ir.proofs.MarksKept.{step_keeps_marks, start_has_marks}
use Rattle.word_ir.proofs.Stamping.{stamped_fixed, step_comes, Comes, Plain, Breaks}
use Rattle.word_ir.proofs.CopiesWeigh.{line_same}
use Rattle.trace_regs.specs.Homes.{Serves}
use Rattle.trace_regs.proofs.Keepers.{chosen, refused, Agree}
use Rattle.trace_regs.proofs.Matching.{beside, words_same, line_meets}
use Rattle.trace_regs.proofs.Stepping.{step_done, live_at, Next, Spot, spot, agree_uses, next_step}
use Rattle.trace_regs.proofs.Stamping.{marks_beside, stamps_same, line_may_same, marks_meet}
use Rattle.trace_regs.proofs.Keeping.{more_words, start_next, same_runs_keep, same_runs_are_safe, unbroken}

stamped_none : (t u : Stamped) (end : Option End) → end ≡ None → stamped_unless end t u ≡ u
stamped_none t u None e = refl
stamped_none t u (Some d) e = absurd (cc)

stamped_going : (m : Setting) (t : Stamped) → t.state.end ≡ None → stamped_step m t ≡ stamped_done m t (line_at m.words t.state.block t.state.place)
unfolding stamped_step
stamped_going m t e = stamped_none t _ t.state.end e

module _ (words : Words) (placed : Placed) (sizes : Sizes) (serves : Serves words placed) where
  abbrev m : Setting
  m = words_in words sizes

  abbrev n : Setting
  n = placed_in placed sizes

  abbrev homes : List Home
  homes = placed.at.items

  abbrev more : List Word
  more = more_words words placed sizes serves

  -- so many static words stand behind the program's own
  abbrev extra : ℕ
  extra = length more

  -- the second is the first one with more static words and with homes
  pub record StampedNext (t u : Stamped) : Type 0 where
    pub state : Next words placed sizes serves t.state u.state more
    pub env : Env Stamp
    pub is : u.marks ≡ marks_beside t.marks extra env
    pub agree : Agree homes t.marks.env env (live_at words placed sizes serves t.state.block t.state.place)

  -- a state and marks
  abbrev both : State → Marks → Stamped
  both s k = record { state = s; marks = k }

  module _ (s : State) (k : Marks) (f : Env Word) (g : Env Stamp) (line : Line) (place : IsInPlace m s) (fit : MarksFit m s k) (going : s.end ≡ None)
      (kept : Agree homes s.env f (live_at words placed sizes serves s.block s.place)) (stamps : Agree homes k.env g (live_at words placed sizes serves s.block s.place)) (there : line_at words s.block s.place ≡ Some line) where
    abbrev t : State
    t = beside s more f

    abbrev l : Marks
    l = marks_beside k extra g

    -- what the step comes to, where it may be made
    abbrev first : Stamped
    first = both (step m s) (counted (marked m s k line (line_effect m s line)))

    abbrev second : Stamped
    second = both (step n t) (counted (marked n t l line (line_effect n t line)))

    found : line_at placed.words s.block s.place ≡ Some line
    found = line_same words placed.words s.block s.place (serves.of).blocks ∙ there

    at : Spot words placed sizes serves s line
    at = spot words placed sizes serves s line found

    kept_here : Agree homes s.env f (needed ((serves.whole).lodgings.live) (line ∷ (at.stand).rest))
    kept_here = subst (λ (vars : List Var). Agree homes s.env f vars) at.lives kept

    stamps_here : Agree homes k.env g (needed ((serves.whole).lodgings.live) (line ∷ (at.stand).rest))
    stamps_here = subst (λ (vars : List Var). Agree homes k.env g vars) at.lives stamps

    words_are : AllByRecursion (λ x. word_of m s x ≡ word_of n t x) (operands_of line)
    words_are = words_same words placed sizes serves s more f place (operands_of line) (agree_uses words placed sizes serves Word s line at s.env f kept_here)

    stamps_are : AllByRecursion (λ x. stamp_of m s k x ≡ stamp_of n t l x) (operands_of line)
    stamps_are = stamps_same words placed sizes serves s more f place k extra g (operands_of line) (agree_uses words placed sizes serves Stamp s line at k.env g stamps_here)

    stepped : step m s ≡ done m s (Some line)
    stepped = step_done m s going ∙ ap (done m s) there

    allowed : ((step m s).end ≡ Some Broken → ⊥) → StampedNext first second
    allowed sound =
        let meets = line_meets words placed sizes serves s more f place line words_are in
        let marks = marks_meet words placed sizes serves s more f place k extra g line at fit stamps_here words_are stamps_are (line_effect m s line) (line_effect n t line) meets
        (λ e. sound (ap (λ (u : State). u.end) stepped ∙ e)) in
        record {
          state = next_step words placed sizes serves s t more place going sound (record { env = f; is = refl; agree = kept });
          env = marks.env;
          is = ap counted marks.is;
          agree = subst (λ (u : State). Agree homes (marked m s k line (line_effect m s line)).env marks.env (live_at words placed sizes serves u.block u.place)) (sym stepped) marks.agree;
        }

    pub next_marked : ((stamped_done m (both s k) (Some line)).state.end ≡ Some Broken → ⊥) → StampedNext (stamped_done m (both s k) (Some line)) (stamped_done n (both t l) (Some line))
    next_marked sound = by (line_may m s k line) refl
      where
        by : (b : Bool) → line_may m s k line ≡ b → StampedNext (stamped_done m (both s k) (Some line)) (stamped_done n (both t l) (Some line))
        by false q = absurd (sound (ap (λ (u : Stamped). u.state.end) (refused (line_may m s k line) first (both (broken s) k) q)))
        by true q =
            let left : stamped_done m (both s k) (Some line) ≡ first = chosen (line_may m s k line) first (both (broken s) k) q in
            let may : line_may n t l line ≡ true = sym (line_may_same words placed sizes serves s more f place k extra g line words_are stamps_are) ∙ q in
            let right : stamped_done n (both t l) (Some line) ≡ second = chosen (line_may n t l line) second (both (broken t) l) may in
            subst (λ (u : Stamped). StampedNext u (stamped_done n (both t l) (Some line))) (sym left)
            (subst (λ (u : Stamped). StampedNext first u) (sym right) (allowed (λ e. sound (ap (λ (u : Stamped). u.state.end) left ∙ e))))

  next_done : (s : State) (k : Marks) (f : Env Word) (g : Env Stamp) → IsInPlace m s → MarksFit m s k → s.end ≡ None → Agree homes s.env f (live_at words placed sizes serves s.block s.place)
      → Agree homes k.env g (live_at words placed sizes serves s.block s.place) → (o : Option Line) → line_at words s.block s.place ≡ o → ((stamped_done m (both s k) o).state.end ≡ Some Broken → ⊥)
      → StampedNext (stamped_done m (both s k) o) (stamped_done n (both (beside s more f) (marks_beside k extra g)) o)
  next_done s k f g place fit going kept stamps None there sound =
      absurd (sound (ap (λ (u : State). u.end) (step_done m s going ∙ ap (done m s) there)))
  next_done s k f g place fit going kept stamps (Some line) there sound = next_marked s k f g line place fit going kept stamps there sound

  stamped_next : (t u : Stamped) → IsInPlace m t.state → MarksFit m t.state t.marks → t.state.end ≡ None → ((stamped_step m t).state.end ≡ Some Broken → ⊥) → StampedNext t u → StampedNext (stamped_step m t) (stamped_step n u)
  stamped_next t u place fit going sound next =
      let s : State = t.state in
      let k : Marks = t.marks in
      let f : Env Word = next.state.env in
      let v : Stamped = both (beside s more f) (marks_beside k extra next.env) in
      let same : u ≡ v = ap (λ (x : State). both x u.marks) next.state.is ∙ ap (λ (y : Marks). both (beside s more f) y) next.is in
      let lines : line_at placed.words s.block s.place ≡ line_at words s.block s.place = line_same words placed.words s.block s.place (serves.of).blocks in
      let first : stamped_step m t ≡ stamped_done m t (line_at words s.block s.place) = stamped_going m t going in
      let second : stamped_step n v ≡ stamped_done n v (line_at words s.block s.place) = stamped_going n v going ∙ ap (stamped_done n v) lines in
      let after : StampedNext (stamped_done m t (line_at words s.block s.place)) (stamped_done n v (line_at words s.block s.place)) =
      next_done s k f next.env place fit going next.state.agree next.agree (line_at words s.block s.place) refl (λ e. sound (ap (λ (x : Stamped). x.state.end) first ∙ e)) in
      subst (λ (x : Stamped). StampedNext x (stamped_step n u)) (sym first)
      (subst (λ (x : Stamped). StampedNext (stamped_done m t (line_at words s.block s.place)) x) (sym (ap (stamped_step n) same ∙ second)) after)

  ended_next : (t u : Stamped) (e : End) → t.state.end ≡ Some e → StampedNext t u → StampedNext (stamped_step m t) (stamped_step n u)
  ended_next t u e q next =
      let first : stamped_step m t ≡ t = stamped_fixed m t e q in
      let second : stamped_step n u ≡ u = stamped_fixed n u e (ap (λ (x : State). x.end) next.state.is ∙ q) in
      subst (λ (x : Stamped). StampedNext x (stamped_step n u)) (sym first) (subst (λ (x : Stamped). StampedNext t x) (sym second) next)

  always_next : (t u : Stamped) → IsInPlace m t.state → MarksFit m t.state t.marks → ((stamped_step m t).state.end ≡ Some Broken → ⊥) → StampedNext t u → StampedNext (stamped_step m t) (stamped_step n u)
  always_next t u place fit sound next = by t.state.end refl
    where
      by : (o : Option End) → t.state.end ≡ o → StampedNext (stamped_step m t) (stamped_step n u)
      by (Some e) q = ended_next t u e q next
      by None q = stamped_next t u place fit q sound next

  -- ---- the pointers of a stamped run stay in place

  comes_in_place : (s t : State) → IsInPlace m s → Comes m s t → IsInPlace m t
  comes_in_place s t place (Plain e) = subst (IsInPlace m) (sym e) (step_in_place m s place)
  comes_in_place s t place (Breaks e) = subst (IsInPlace m) (sym e) (record {
    next_from = place.next_from;
    next_to = place.next_to;
    next_whole = place.next_whole;
    top_from = place.top_from;
    top_to = place.top_to;
    top_whole = place.top_whole;
    statics = place.statics;
    heap = place.heap;
    stack = place.stack;
  })

  -- ---- at each bound

  alike_after : (j : ℕ) (t u : Stamped) → IsInPlace m t.state → MarksFit m t.state t.marks → StampedNext t u → IsSafe (run_of (stamped_step m) (stamped_seen m) t)
      → stamped_seen n (after (stamped_step n) j u) ≡ stamped_seen m (after (stamped_step m) j t)
  alike_after zero t u place fit next safe = ap (λ (x : State). seen n x) next.state.is
  alike_after (suc j) t u place fit next safe =
      alike_after j (stamped_step m t) (stamped_step n u) (comes_in_place t.state (stamped_step m t).state place (step_comes m t)) (step_keeps_marks m t place fit)
      (always_next t u place fit (λ e. unbroken (safe 1 Broken e)) next) (λ i e q. safe (suc i) e q)

  -- ---- the start

  nones : ℕ → List Stamp
  nones i = replicate i None

  none_more : (a b : ℕ) → nones (a + b) ≡ nones a ++ nones b
  unfolding nones
  none_more zero b = ap (λ (i : ℕ). nones i) (let e : 0 + b ≡ b = omega arith in e)
  none_more (suc a) b = ap (λ (i : ℕ). nones i) (let e : suc a + b ≡ suc (a + b) = omega arith in e) ∙ ap (λ (l : List Stamp). None ∷ l) (none_more a b)

  longs_are : length placed.words.statics.items ≡ length words.statics.items + extra
  longs_are =
      let own : ℕ = length words.statics.items in
      let behind : List StaticWord = drop own placed.words.statics.items in
      let parts : placed.words.statics.items ≡ words.statics.items ++ behind =
      sym (take-append-drop own placed.words.statics.items) ∙ ap (λ (l : List StaticWord). l ++ behind) (serves.of).statics in
      let both_lengths = length-append words.statics.items behind in
      let mapped : extra ≡ length behind = length-map _ _ in
      let whole : length placed.words.statics.items ≡ length (words.statics.items ++ behind) = ap length parts in
      omega (arith, both_lengths, mapped, whole)

  marking : List Stamp → Marks
  marking statics = record { steps = 0; env = []; longs = record { statics = statics; heap = replicate (sizes.heap / 4) None; stack = replicate (sizes.stack / 4) None }; live = [] }

  starts_marked : unmarked n ≡ marks_beside (unmarked m) extra []
  unfolding marking nones
  starts_marked = ap marking (ap nones longs_are ∙ none_more (length words.statics.items) extra)

  starts_next : StampedNext (stamped_start m) (stamped_start n)
  starts_next = record { state = start_next words placed sizes serves; env = []; is = starts_marked; agree = λ v c. refl }

  pub stamped_alike : HasWords sizes → IsSafe (stamped_words_run words sizes) → (j : ℕ) → stamped_placed_run placed sizes j ≡ stamped_words_run words sizes j
  stamped_alike whole safe j = alike_after j (stamped_start m) (stamped_start n) (start_in_place m whole) (start_has_marks m) starts_next safe

pub stamped_homes_run_alike : (words : Words) (placed : Placed) (sizes : Sizes) → Serves words placed → HasWords sizes → IsSafe (stamped_words_run words sizes) → (k : ℕ)
    → stamped_placed_run placed sizes k ≡ stamped_words_run words sizes k
stamped_homes_run_alike words placed sizes serves whole safe k = stamped_alike words placed sizes serves whole safe k

pub stamped_homes_keep : (words : Words) (placed : Placed) (sizes : Sizes) → Serves words placed → HasWords sizes → IsSafe (stamped_words_run words sizes)
    → IsSafe (stamped_placed_run placed sizes) × KeepsAlike 1 0 (stamped_words_run words sizes) (stamped_placed_run placed sizes)
stamped_homes_keep words placed sizes serves whole safe = (
  same_runs_are_safe (stamped_words_run words sizes) (stamped_placed_run placed sizes) (λ k. stamped_alike words placed sizes serves whole safe k) safe,
  same_runs_keep (stamped_words_run words sizes) (stamped_placed_run placed sizes) (λ k. stamped_alike words placed sizes serves whole safe k) safe,
)
