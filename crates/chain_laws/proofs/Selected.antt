-- Selection at sizes that a run may have.
use Rattle.std.proofs.Common.{◌≡◌, ℕ, ◌%◌, ◌^◌, ◌≤◌, ◌&&◌, Bool, true, false, ◌==◌, refl, arith}
use Rattle.std.specs.Prelude.{nat_le}
use Rattle.std.proofs.lemmas.Bool.{eqb-true, leb-true}
use Rattle.program_runs.proofs.Weaken.{within_with_more, safe_never_broken}
use Rattle.frame_ir.specs.Running.{run}
use Rattle.word_ir.specs.Step.{words_run}
use Rattle.m68020_step.specs.declared.machine.Sizes.{Sizes}
use Rattle.m68020_step.specs.Boot.{is_size}
use Rattle.selection_runs.specs.Laws.{HasSizes, SelectedKeeps}
use Rattle.passes_keep.specs.Chains.{AreSizes, word_sizes, room_at}
use Rattle.chain_laws.specs.Laws.{SelectedIsKept}

-- ---- sizes

first_holds : (a b : Bool) → (a && b) ≡ true → a ≡ true
first_holds true b h = refl
first_holds false b h = absurd (cc)

second_holds : (a b : Bool) → (a && b) ≡ true → b ≡ true
second_holds true b h = h
second_holds false b h = absurd (cc)

size_is_even : (n : ℕ) → is_size n ≡ true → n % 8 ≡ 0
size_is_even n h = eqb-true (n % 8) 0 (first_holds (n % 8 == 0) (nat_le 64 n) (first_holds ((n % 8 == 0) && nat_le 64 n) (nat_le n 268435456) h))

size_is_small : (n : ℕ) → is_size n ≡ true → n ≤ 2 ^ 28
size_is_small n h = leb-true n 268435456 (second_holds ((n % 8 == 0) && nat_le 64 n) (nat_le n 268435456) h)

has_sizes : (sizes : Sizes) → AreSizes sizes → HasSizes (word_sizes sizes)
has_sizes sizes are =
    record {
      whole = record { heap = size_is_even sizes.heap are.heap; stack = size_is_even sizes.stack are.stack };
      heap = size_is_small sizes.heap are.heap;
      stack = size_is_small sizes.stack are.stack;
    }

-- ---- selection

pub selected_is_kept : SelectedKeeps → SelectedIsKept
selected_is_kept keeps p words selected whole small plain sizes are safe =
    within_with_more (room_at p.shared.size sizes) 40 0 40 40 (run p) (words_run words (word_sizes sizes)) (omega arith) (omega arith)
    (keeps p words (word_sizes sizes) selected (record { whole = whole; small = small; sound = safe_never_broken (run p) safe; plain = plain }) (has_sizes sizes are))
