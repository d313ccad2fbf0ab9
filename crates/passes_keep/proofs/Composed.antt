-- The passes composed, one after the other.
use Rattle.std.proofs.Common.{◌≡◌, ℕ, ◌+◌, ◌*◌, ◌%◌, ◌≤◌, ◌&&◌, Bool, true, false, ◌==◌, refl, ap, subst, ◌∙◌, arith}
use Rattle.std.specs.Prelude.{nat_le}
use Rattle.std.proofs.lemmas.Bool.{eqb-true}
use Rattle.program_runs.specs.Runs.{Run}
use Rattle.program_runs.specs.Keeps.{Keeps, KeepsAlike, KeepsWithin, IsSafe, Room}
use Rattle.program_runs.proofs.Compose.{keeps_composes, keeps_then_within, within_then_alike}
use Rattle.program_runs.proofs.Weaken.{within_with_more, keeps_is_safe, within_is_safe}
use Rattle.t_base.specs.declared.shared_parts.Shared.{Shared}
use Rattle.t_core.specs.declared.forms.UnitCore.{UnitCore}
use Rattle.t_meaning.specs.Units.{meaning_at_most}
use Rattle.cps_ir.specs.Running.{run_at_most}
use Rattle.cps_conversion.specs.Law.{ConversionKeepsMost}
use Rattle.frame_ir.specs.Running.{run}
use Rattle.layout_relation.specs.Laws.{LaidOutKeeps}
use Rattle.word_ir.specs.Ranges.{HasWords}
use Rattle.word_ir.specs.Step.{words_run, placed_run}
use Rattle.m68020_step.specs.declared.machine.Sizes.{Sizes}
use Rattle.m68020_step.specs.Boot.{is_size}
use Rattle.image_runs.specs.Images.{items_run}
use Rattle.passes_keep.specs.Chains.{AreSizes, word_sizes, room_at, Chain}
use Rattle.passes_keep.specs.Laws.{ItemsKeepMeaning}

-- ---- sizes

first_holds : (a b : Bool) → (a && b) ≡ true → a ≡ true
first_holds true b h = refl
first_holds false b h = absurd (cc)

size_is_even : (n : ℕ) → is_size n ≡ true → n % 8 ≡ 0
size_is_even n h = eqb-true (n % 8) 0 (first_holds (n % 8 == 0) (nat_le 64 n) (first_holds ((n % 8 == 0) && nat_le 64 n) (nat_le n 268435456) h))

has_words : (sizes : Sizes) → AreSizes sizes → HasWords (word_sizes sizes)
has_words sizes are = record { heap = size_is_even sizes.heap are.heap; stack = size_is_even sizes.stack are.stack }

-- ---- moves

factor_enough : (n : ℕ) → 13 * (1 * (40 * (4 * (n + 8) * (1 * 5)))) ≤ 10467 * (n + 8)
factor_enough n = omega arith

once_enough : (n : ℕ) → 13 * (1 * (40 * (4 * (n + 8) * (1 * 5 + 0) + 0) + 40) + 0) + 13 ≤ 10467 * (n + 8)
once_enough n = omega arith

-- ---- the chain

-- any seven runs, each of which keeps the one before it
module _ (room : Room) (n : ℕ) (meant converted celled framed worded placed itemed : Run) where
  composed :
      Keeps 5 5 meant converted → Keeps 1 0 converted celled → Keeps (4 * (n + 8)) 0 celled framed
      → (IsSafe framed → KeepsWithin room 40 40 framed worded)
      → (IsSafe worded → KeepsAlike 1 0 worded placed)
      → (IsSafe placed → KeepsAlike 13 13 placed itemed)
      → KeepsWithin room (10467 * (n + 8)) (10467 * (n + 8)) meant itemed
  composed converts cells lays selects assigns emits =
      let to_celled : Keeps (1 * 5) (1 * 5 + 0) meant celled = keeps_composes 5 5 1 0 meant converted celled converts cells in
      let to_framed : Keeps (4 * (n + 8) * (1 * 5)) (4 * (n + 8) * (1 * 5 + 0) + 0) meant framed = keeps_composes (1 * 5) (1 * 5 + 0) (4 * (n + 8)) 0 meant celled framed to_celled lays in
      let selected = selects (keeps_is_safe (4 * (n + 8)) 0 celled framed lays) in
      let to_worded : KeepsWithin room (40 * (4 * (n + 8) * (1 * 5))) (40 * (4 * (n + 8) * (1 * 5 + 0) + 0) + 40) meant worded =
      keeps_then_within room (4 * (n + 8) * (1 * 5)) (4 * (n + 8) * (1 * 5 + 0) + 0) 40 40 meant framed worded to_framed selected in
      let assigned = assigns (within_is_safe room 40 40 framed worded selected) in
      let to_placed : KeepsWithin room (1 * (40 * (4 * (n + 8) * (1 * 5)))) (1 * (40 * (4 * (n + 8) * (1 * 5 + 0) + 0) + 40) + 0) meant placed =
      within_then_alike room (40 * (4 * (n + 8) * (1 * 5))) (40 * (4 * (n + 8) * (1 * 5 + 0) + 0) + 40) 1 0 meant worded placed to_worded assigned in
      let emitted = emits (within_is_safe room (1 * (40 * (4 * (n + 8) * (1 * 5)))) (1 * (40 * (4 * (n + 8) * (1 * 5 + 0) + 0) + 40) + 0) meant placed to_placed) in
      let to_itemed : KeepsWithin room (13 * (1 * (40 * (4 * (n + 8) * (1 * 5))))) (13 * (1 * (40 * (4 * (n + 8) * (1 * 5 + 0) + 0) + 40) + 0) + 13) meant itemed =
      within_then_alike room (1 * (40 * (4 * (n + 8) * (1 * 5)))) (1 * (40 * (4 * (n + 8) * (1 * 5 + 0) + 0) + 40) + 0) 13 13 meant placed itemed to_placed emitted in
      within_with_more room (13 * (1 * (40 * (4 * (n + 8) * (1 * 5))))) (13 * (1 * (40 * (4 * (n + 8) * (1 * 5 + 0) + 0) + 40) + 0) + 13) (10467 * (n + 8)) (10467 * (n + 8)) meant itemed (factor_enough n) (once_enough n) to_itemed

-- the shared parts, and so the size, are the unit's all the way
module _ (unit : UnitCore) (chain : Chain unit) where
  celled_shared : chain.celled.shared ≡ unit.shared
  celled_shared = chain.cells.cells.shared ∙ chain.converts.translated.shared

  frames_size : chain.frames.shared.size ≡ unit.shared.size
  frames_size = ap (λ (s : Shared). s.size) (chain.laid_out.shared ∙ celled_shared)

  celled_size : chain.celled.shared.size ≡ unit.shared.size
  celled_size = ap (λ (s : Shared). s.size) celled_shared

pub items_keep_meaning : ConversionKeepsMost → LaidOutKeeps → ItemsKeepMeaning
items_keep_meaning converts lays unit chain sizes are =
    composed (room_at unit.shared.size sizes) unit.shared.size (meaning_at_most unit) (run_at_most chain.cps) (run_at_most chain.celled) (run chain.frames)
    (words_run chain.words (word_sizes sizes)) (placed_run chain.placed (word_sizes sizes)) (items_run chain.placed.words chain.assembled sizes)
    (converts unit chain.cps chain.converts)
    (chain.cells.keeps (λ l. true))
    (subst (λ (n : ℕ). Keeps (4 * (n + 8)) 0 (run_at_most chain.celled) (run chain.frames)) (celled_size unit chain) (lays chain.celled chain.frames chain.cells.whole chain.laid_out))
    (λ safe. subst (λ (n : ℕ). KeepsWithin (room_at n sizes) 40 40 (run chain.frames) (words_run chain.words (word_sizes sizes))) (frames_size unit chain) (chain.selected sizes are safe))
    (λ safe. chain.assigned (word_sizes sizes) (has_words sizes are) safe)
    (λ safe. chain.emitted sizes are safe)

pub factor_within : (n : ℕ) → 10467 * (n + 8) ≤ 1048576 * (n + 8)
factor_within n = omega arith
