-- The run of the words keeps the run of the frames.
use Rattle.std.proofs.Common.{◌≡◌, ℕ, Some, false, refl, arith}
use Rattle.program_runs.specs.Runs.{End, Broken, IsProper}
use Rattle.program_runs.specs.Keeps.{KeepsWithin}
use Rattle.program_runs.specs.Follows.{after, runs}
use Rattle.program_runs.proofs.Follow.{steady_goes_on}
use Rattle.program_runs.proofs.Simulate.{machine_steady, starts_at}
use Rattle.program_runs.proofs.SimulateWithin.{simulates_keeps_within}
use Rattle.program_runs.proofs.Weaken.{stamped_then_plain}
use Rattle.word_ir.specs.declared.words.Words.{Words}
use Rattle.word_ir.specs.Storage.{Sizes}
use Rattle.word_ir.specs.Step.{words_in, words_run}
use Rattle.word_ir.specs.Stamps.{stamped_start, stamped_words_run}
use Rattle.word_ir.proofs.Stamping.{stamped_steps_add, stamped_is_seen_as_plain}
use Rattle.frame_ir.specs.declared.forms.Frames.{Frames}
use Rattle.frame_ir.specs.States.{Doing, Running, Calling, Looking, Entering, Ended, Stale, Wrong, end_of}
use Rattle.frame_ir.specs.Running.{step, start, run}
use Rattle.word_selection.specs.Selections.{IsSelected}
use Rattle.selection_steps.specs.Settings.{Setting, is_broken, room_of}
use Rattle.selection_steps.specs.Related.{Related}
use Rattle.selection_steps.specs.Led.{most_moves}
use Rattle.selection_runs.specs.Laws.{room_for, IsPlain, HasSizes, SelectedKeepsStamped, SelectedKeeps}
use Rattle.selection_runs.proofs.ProperEnds.{ends_properly}
use Rattle.selection_runs.proofs.Matching.{a, b, measure, potential, simulates}
use Rattle.selection_runs.proofs.Starting.{start_related, start_bare}

-- a state with a proper end isn't broken
not_broken : (d : Doing) → ((e : End) → end_of d ≡ Some e → IsProper e) → is_broken d ≡ false
not_broken (Running ops last env) h = refl
not_broken (Calling f args) h = refl
not_broken (Looking op methods args) h = refl
not_broken (Entering code args) h = refl
not_broken (Ended end) h = refl
not_broken Stale h = absurd (h Broken refl)
not_broken Wrong h = absurd (h Broken refl)

abbrev setting : (p : Frames) (words : Words) (sizes : Sizes) (selected : IsSelected p words) → IsPlain p → HasSizes sizes → Setting
setting p words sizes selected plain has = record {
  p = p;
  words = words;
  sizes = sizes;
  selected = selected;
  whole = plain.whole;
  small = plain.small;
  heap = has.heap;
  stack = has.stack;
  whole_sizes = has.whole;
  sound = λ n. not_broken (after (step p) n (start p)).doing (λ e is. ends_properly p plain.sound n e is);
  plain = plain.plain;
}

kept_by : (m : Setting) → ((n : ℕ) (e : End) → (runs (a m) (start m.p) n).end ≡ Some e → IsProper e) → KeepsWithin (room_of m) most_moves 0 (runs (a m) (start m.p)) (runs (b m) (stamped_start (words_in m.words m.sizes)))
kept_by m proper =
    let bare = start_bare m in
    let moves = bare.0 in
    let saved = bare.2 in
    simulates_keeps_within (room_of m) (a m) (b m) (Related m) (measure m) (potential m) most_moves 0 (simulates m) (start m.p) (stamped_start (words_in m.words m.sizes))
    (starts_at (a m) (b m) (Related m) (potential m) most_moves 0 (start m.p) (stamped_start (words_in m.words m.sizes)) (start_related m) (omega (arith, moves, saved)) (record { heap = (0, omega arith); waiting = (0, omega arith) }))
    (steady_goes_on (runs (b m) (stamped_start (words_in m.words m.sizes))) (machine_steady (b m).step (b m).seen (stamped_steps_add (words_in m.words m.sizes)) (stamped_start (words_in m.words m.sizes))))
    proper

pub selected_keeps_stamped : SelectedKeepsStamped
selected_keeps_stamped p words sizes selected plain has = kept_by (setting p words sizes selected plain has) (ends_properly p plain.sound)

pub selected_keeps : SelectedKeeps
selected_keeps p words sizes selected plain has =
    stamped_then_plain (room_for p sizes) 40 0 (run p) (stamped_words_run words sizes) (words_run words sizes) (stamped_is_seen_as_plain (words_in words sizes)) (selected_keeps_stamped p words sizes selected plain has)
