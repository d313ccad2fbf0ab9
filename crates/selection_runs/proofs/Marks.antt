-- Marks go with storage in all runs of words.
use Rattle.std.proofs.Common.{ℕ, zero, suc, Bool, true, false, if◌then◌else◌, Option, Some, None}
use Rattle.program_runs.specs.Runs.{End}
use Rattle.program_runs.specs.Follows.{after}
use Rattle.word_ir.specs.Lines.{Line, line_at}
use Rattle.word_ir.specs.Marked.{MarksFit}
use Rattle.word_ir.specs.Ranges.{IsInPlace}
use Rattle.word_ir.specs.State.{Setting, State}
use Rattle.word_ir.specs.Step.{broken}
use Rattle.word_ir.specs.Stamps.{Stamped, line_may, stamped_done, stamped_unless, stamped_step}
use Rattle.word_ir.proofs.MarksKept.{step_keeps_marks}
use Rattle.word_ir.proofs.Places.{step_in_place}

module _ (m : Setting) where
  broken_in_place : (s : State) → IsInPlace m s → IsInPlace m (broken s)
  broken_in_place s h = record { next_from = h.next_from; next_to = h.next_to; next_whole = h.next_whole; top_from = h.top_from; top_to = h.top_to; top_whole = h.top_whole; statics = h.statics; heap = h.heap; stack = h.stack }

  by_test : (b : Bool) (u v : Stamped) → IsInPlace m u.state → IsInPlace m v.state → IsInPlace m (if b then u else v).state
  by_test true u v h k = h
  by_test false u v h k = k

  by_line : (t : Stamped) (o : Option Line) → IsInPlace m t.state → IsInPlace m (stamped_done m t o).state
  by_line t None h = step_in_place m t.state h
  by_line t (Some line) h = by_test (line_may m t.state t.marks line) _ _ (step_in_place m t.state h) (broken_in_place t.state h)

  by_end : (o : Option End) (t u : Stamped) → IsInPlace m t.state → IsInPlace m u.state → IsInPlace m (stamped_unless o t u).state
  by_end (Some e) t u h k = h
  by_end None t u h k = k

  stays_in_place : (t : Stamped) → IsInPlace m t.state → IsInPlace m (stamped_step m t).state
  unfolding stamped_step
  stays_in_place t h = by_end t.state.end t (stamped_done m t (line_at m.words t.state.block t.state.place)) h (by_line t (line_at m.words t.state.block t.state.place) h)

  pub marks_after : (count : ℕ) (t : Stamped) → IsInPlace m t.state → MarksFit m t.state t.marks → IsInPlace m (after (stamped_step m) count t).state × MarksFit m (after (stamped_step m) count t).state (after (stamped_step m) count t).marks
  marks_after zero t h k = (h, k)
  marks_after (suc count) t h k = marks_after count (stamped_step m t) (stays_in_place t h) (step_keeps_marks m t h k)
