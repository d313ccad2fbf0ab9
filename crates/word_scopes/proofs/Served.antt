-- In the run of a whole program each variable that is used has a word, unless a call has brought too little.
use Rattle.std.proofs.Common.{◌≡◌, ℕ, zero, suc, ◌<◌, Bool, true, false, List, ◌∷◌, is_some, slice_index, Option, Some, None, All, Contains, refl, sym, ap, subst, ◌∙◌, arith, ◌⊎◌, inl, inr, ⊎_elim}
use Rattle.std.proofs.lemmas.Bool.{true≢false}
use Rattle.std.proofs.lemmas.List.Elements.{All-contains, All-contains_itself, All-weaker, Contains-append_left}
use Rattle.t_base.specs.declared.basics.Var.{Var}
use Rattle.program_runs.specs.Runs.{End}
use Rattle.program_runs.specs.Follows.{after}
use Rattle.program_runs.proofs.Simulate.{after_last}
use Rattle.word_ir.specs.declared.operands.Operand.TheVariants as operand
use Rattle.word_ir.specs.Lines.{Line, Op, Last, line_at, uses_of, binds_of, moves_of}
use Rattle.word_ir.specs.State.{Setting, keeper_of, State, start, held, is_in_frame}
use Rattle.word_ir.specs.Effects.{word_of, op_effect, end_effect, line_effect}
use Rattle.word_ir.specs.Step.{changed, moving, broken, done, unless_ended, step, words_in, placed_in}
use Rattle.word_ir.specs.Ranges.{HasWords, IsInPlace}
use Rattle.word_ir.specs.Whole.{taken_blocks, HasScopes, HasShapes}
use Rattle.word_ir.specs.WholePlaced.{without, HasLodgings}
use Rattle.word_ir.proofs.Places.{start_in_place, step_in_place}
use Rattle.word_scopes.specs.Ahead.{lines_ahead, used_ahead, HasWord, HasVariables, EntersShort, EnteredShort, MeetsUnbound}
use Rattle.word_scopes.specs.Laws.{IsWholeIn, Plain, Homed, IsServed}
use Rattle.word_scopes.proofs.Reading.{Stands, stands, used_in_scope}
use Rattle.word_scopes.proofs.Given.{held_outside}
use Rattle.word_scopes.proofs.Taken.{HoldsTaken, start_taken, step_taken}
use Rattle.word_scopes.proofs.Followed.{op_does, end_does}
use Rattle.word_scopes.proofs.Scoped.{InScope, start_scope, op_scope, end_scope, same_scope}
use Rattle.word_scopes.proofs.Deep.{IsDeep, start_deep, op_deep, end_deep, same_deep, frames_held}

-- ---- what is used has words

has_variables : (m : Setting) (sees : List (List Var)) (s : State) → InScope m sees s
    → ((v : Var) → Contains (used_ahead (lines_ahead m.words s.block s.place)) v → is_in_frame (keeper_of m.homes v) ≡ true → is_some (held s (keeper_of m.homes v)) ≡ true) → HasVariables m s
has_variables m sees s scoped framed =
    let used : List Var = used_ahead (lines_ahead m.words s.block s.place) in
    record { ahead = All-weaker (Contains used) (HasWord m s) (λ v c. by v c (is_in_frame (keeper_of m.homes v)) refl) used (All-contains_itself used) }
  where
    by : (v : Var) → Contains (used_ahead (lines_ahead m.words s.block s.place)) v → (b : Bool) → is_in_frame (keeper_of m.homes v) ≡ b → HasWord m s v
    by v c true e = framed v c e
    by v c false e = held_outside s (keeper_of m.homes v) e (scoped.kept v (used_in_scope sees scoped.scope (lines_ahead m.words s.block s.place) scoped.fits v c) e)

line_has : (m : Setting) (s : State) (line : Line) → Stands m.words s.block s.place line → HasVariables m s → (v : Var) → Contains (uses_of line) v → HasWord m s v
line_has m s line at h v c =
    let all : All (HasWord m s) (used_ahead (line ∷ at.rest)) = subst (λ l. All (HasWord m s) (used_ahead l)) at.here h.ahead in
    All-contains (HasWord m s) (used_ahead (line ∷ at.rest)) v all (Contains-append_left (uses_of line) (without (binds_of line) (used_ahead at.rest)) v c)

-- ---- a step

module _ (m : Setting) (Q : State → Type 0) (P : Type 0) (same : (s t : State) → t.block ≡ s.block → t.place ≡ s.place → t.env ≡ s.env → t.top ≡ s.top → Q s → Q t) where
  moved_on : (n : ℕ) (t : State) → P ⊎ Q t → P ⊎ Q (moving n t)
  moved_on n t (inl short) = inl short
  moved_on n t (inr h) = inr (same t (moving n t) refl refl refl refl h)

  -- what holds behind each line holds behind a step
  stepped : (s : State) → Q s
      → (s.end ≡ None → (line : Line) → line_at m.words s.block s.place ≡ Some line → P ⊎ Q (changed s (line_effect m s line))) → P ⊎ Q (step m s)
  unfolding step
  stepped s h lines = by s.end refl (line_at m.words s.block s.place) refl
    where
      by : (end : Option End) → s.end ≡ end → (line : Option Line) → line_at m.words s.block s.place ≡ line → P ⊎ Q (unless_ended end s (done m s line))
      by (Some e) q line r = inr h
      by None q None r = inr (same s (broken s) refl refl refl refl h)
      by None q (Some line) r = moved_on (moves_of line) (changed s (line_effect m s line)) (lines q line r)

-- ---- a program without homes

module _ (m : Setting) (w : HasScopes m.words) (shapes : HasShapes m.words) where
  scope_line : (s : State) → HoldsTaken m s → InScope m w.sees s → HasVariables m s → s.end ≡ None → (line : Line) → line_at m.words s.block s.place ≡ Some line
      → EntersShort m s ⊎ InScope m w.sees (changed s (line_effect m s line))
  scope_line s holds scoped has runs (Op o) e = inr (op_scope m w shapes s holds scoped o (stands m.words s.block s.place (Op o) e) (op_effect m s o) (op_does m s o).does)
  scope_line s holds scoped has runs (Last d) e =
      let at = stands m.words s.block s.place (Last d) e in
      end_scope m w shapes s holds scoped d at (end_effect m s d) (end_does m s holds runs d e (line_has m s (Last d) at has)).does

  scope_step : (s : State) → HoldsTaken m s → InScope m w.sees s → HasVariables m s → EntersShort m s ⊎ InScope m w.sees (step m s)
  scope_step s holds scoped has =
      stepped m (InScope m w.sees) (EntersShort m s) (λ a b e f g t. same_scope m w shapes a b e f g) s scoped (λ runs line e. scope_line s holds scoped has runs line e)

  module _ (account : HasLodgings m.words m.homes) where
    deep_line : (s : State) → HoldsTaken m s → IsDeep m account s → HasVariables m s → s.end ≡ None → (line : Line) → line_at m.words s.block s.place ≡ Some line
        → EntersShort m s ⊎ IsDeep m account (changed s (line_effect m s line))
    deep_line s holds deep has runs (Op o) e = inr (op_deep m account s deep o (stands m.words s.block s.place (Op o) e) (op_effect m s o) (op_does m s o).does)
    deep_line s holds deep has runs (Last d) e =
        let at = stands m.words s.block s.place (Last d) e in
        inr (end_deep m account s deep d at (end_effect m s d) (end_does m s holds runs d e (line_has m s (Last d) at has)).does)

    deep_step : (s : State) → HoldsTaken m s → IsDeep m account s → HasVariables m s → EntersShort m s ⊎ IsDeep m account (step m s)
    deep_step s holds deep has =
        stepped m (IsDeep m account) (EntersShort m s) (λ a b e f g t. same_deep m account a b e f t) s deep (λ runs line e. deep_line s holds deep has runs line e)

-- ---- runs

module _ (m : Setting) where
  abbrev behind : ℕ → State
  behind n = after (step m) n (start m)

  last_step : (n : ℕ) → step m (behind n) ≡ behind (suc n)
  last_step n = sym (after_last (step m) n (start m))

  -- what holds at the start and behind each step, or a call has brought too little
  runs_keep : (Q : State → Type 0) → Q (start m) → ((n : ℕ) → Q (behind n) → EntersShort m (behind n) ⊎ Q (step m (behind n))) → (n : ℕ) → EnteredShort m n ⊎ Q (behind n)
  runs_keep Q first steps zero = inr first
  runs_keep Q first steps (suc n) = by (runs_keep Q first steps n)
    where
      next : EntersShort m (behind n) ⊎ Q (step m (behind n)) → EnteredShort m (suc n) ⊎ Q (behind (suc n))
      next (inl short) = inl (record { before = n; earlier = omega arith; short = short })
      next (inr h) = inr (subst Q (last_step n) h)

      by : EnteredShort m n ⊎ Q (behind n) → EnteredShort m (suc n) ⊎ Q (behind (suc n))
      by (inl short) = let low : short.before < n = short.earlier in inl (record { before = short.before; earlier = omega (arith, low); short = short.short })
      by (inr h) = next (steps n h)

  taken_behind : (n : ℕ) → HoldsTaken m (behind n)
  taken_behind zero = start_taken m
  taken_behind (suc n) = subst (HoldsTaken m) (last_step n) (step_taken m (behind n) (taken_behind n))

  placed_behind : HasWords m.sizes → (n : ℕ) → IsInPlace m (behind n)
  placed_behind w zero = start_in_place m w
  placed_behind w (suc n) = subst (IsInPlace m) (last_step n) (step_in_place m (behind n) (placed_behind w n))

  no_word : (s : State) → MeetsUnbound m s → HasVariables m s → ⊥
  no_word s meets h =
      let has : is_some (word_of m s (operand.Var meets.var)) ≡ true = line_has m s meets.line (stands m.words s.block s.place meets.line meets.stands) h meets.var meets.used in
      true≢false (sym has ∙ ap is_some meets.lacks)

  served : (n : ℕ) → EnteredShort m n ⊎ HasVariables m (behind n) → IsServed m n
  served n h = record { variables = h; lacking = λ meets. ⊎_elim (λ short. short) (λ has. absurd (no_word (behind n) meets has)) h }

  plain_served : HasScopes m.words → HasShapes m.words → ((v : Var) → is_in_frame (keeper_of m.homes v) ≡ false) → (n : ℕ) → IsServed m n
  plain_served w shapes free n =
      served n
      (⊎_elim (λ short. inl short) (λ scoped. inr (all (behind n) scoped))
      (runs_keep (InScope m w.sees) (start_scope m w shapes (start m) refl refl) (λ k scoped. scope_step m w shapes (behind k) (taken_behind k) scoped (all (behind k) scoped)) n))
    where
      all : (s : State) → InScope m w.sees s → HasVariables m s
      all s scoped = has_variables m w.sees s scoped (λ v c e. absurd (true≢false (sym e ∙ free v)))

  -- with homes
  record Lives (w : HasScopes m.words) (account : HasLodgings m.words m.homes) (s : State) : Type 0 where
    scoped : InScope m w.sees s
    deep : IsDeep m account s

  homed_served : HasScopes m.words → HasShapes m.words → HasLodgings m.words m.homes → HasWords m.sizes → (n : ℕ) → IsServed m n
  homed_served w shapes account sizes n =
      served n (⊎_elim (λ short. inl short) (λ lives. inr (all n lives)) (runs_keep (Lives w account) first (λ k lives. both k lives (all k lives)) n))
    where
      all : (k : ℕ) → Lives w account (behind k) → HasVariables m (behind k)
      all k lives = has_variables m w.sees (behind k) lives.scoped (frames_held m account (behind k) (placed_behind sizes k) lives.deep)

      empty : slice_index account.depths m.words.entry ≡ 0
      empty = All-contains (λ b. slice_index account.depths b ≡ 0) (m.words.entry ∷ taken_blocks m.words) m.words.entry account.empty (0, omega arith, refl)

      first : Lives w account (start m)
      first = record { scoped = start_scope m w shapes (start m) refl refl; deep = start_deep m account (start m) m.words.entry refl refl (omega (arith, empty)) }

      both : (k : ℕ) → Lives w account (behind k) → HasVariables m (behind k) → EntersShort m (behind k) ⊎ Lives w account (step m (behind k))
      both k lives has =
          ⊎_elim (λ short. inl short)
          (λ scoped. ⊎_elim (λ short. inl short) (λ deep. inr (record { scoped = scoped; deep = deep })) (deep_step m w shapes account (behind k) (taken_behind k) lives.deep has))
          (scope_step m w shapes (behind k) (taken_behind k) lives.scoped has)

pub variables_have_words : (m : Setting) → IsWholeIn m → (n : ℕ) → IsServed m n
variables_have_words m (Plain words sizes w) n = plain_served (words_in words sizes) w.scopes w.shapes (λ v. refl) n
variables_have_words m (Homed placed sizes w whole) n = homed_served (placed_in placed sizes) whole.words.scopes whole.words.shapes whole.lodgings w n
