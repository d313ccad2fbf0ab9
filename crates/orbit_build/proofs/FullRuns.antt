-- How the run of a faithful image ends otherwise than by a value or a fault.
use Rattle.std.proofs.Common.{◌≡◌, ℕ, ◌<◌, Bool, true, false, List, Some, ap, subst, ⊎_elim}
use Rattle.std.specs.Prelude.{option_map}
use Rattle.program_runs.specs.Runs.{Run, Full, Broken}
use Rattle.program_runs.specs.Keeps.{Room, HasCost, KeepsWithin}
use Rattle.program_runs.proofs.Weaken.{heap_cost_exceeds, stack_cost_exceeds}
use Rattle.t_core.specs.declared.forms.UnitCore.{UnitCore}
use Rattle.t_meaning.specs.Units.{meaning_at_most}
use Rattle.image_file.specs.Grammar.{Parts, IsImageOf}
use Rattle.image_file.proofs.Laws.{one_image}
use Rattle.m68020_step.specs.declared.machine.Sizes.{Sizes}
use Rattle.m68020_step.specs.declared.registers.Why.{Why}
use Rattle.m68020_step.specs.Boot.{is_size}
use Rattle.machine_services.specs.declared.exit.Exit.TheVariants as exit
use Rattle.machine_services.specs.Observed.{end_of}
use Rattle.orbit_monitor.specs.Run.{run}
use Rattle.orbit_monitor.specs.Observed.{observed}
use Rattle.orbit_build.specs.Faithful.{Faithful, KeepsMeaning, TellsRoom, room_of}
use Rattle.orbit_build.specs.Full.{CostsMore, IsFullFor}

lacks : (room : Room) (a : Run) (stack : Bool) (asked left : ℕ) → HasCost room a (Full stack asked left) → left < asked
lacks room a false asked left h = h.0
lacks room a true asked left h = h.0

costs_more : (unit : UnitCore) (sizes : Sizes) (stack : Bool) (asked left : ℕ) → HasCost (room_of unit sizes) (meaning_at_most unit) (Full stack asked left) → CostsMore stack unit sizes
costs_more unit sizes false asked left h = heap_cost_exceeds (room_of unit sizes) (meaning_at_most unit) asked left h
costs_more unit sizes true asked left h = stack_cost_exceeds (room_of unit sizes) (meaning_at_most unit) asked left h

module _ (text bytes : List ℕ) (image : Parts) (sizes : Sizes) (steps : ℕ) (faithful : Faithful text bytes) (spelled : IsImageOf bytes image) (heap : is_size sizes.heap ≡ true) (stack_size : is_size sizes.stack ≡ true) where
  same : faithful.image ≡ image
  same = one_image bytes faithful.image image faithful.spelled spelled

  keeps : KeepsMeaning faithful.unit image
  keeps = subst (λ (p : Parts). KeepsMeaning faithful.unit p) same faithful.keeps

  tells : TellsRoom image
  tells = subst (λ (p : Parts). TellsRoom p) same faithful.tells

  -- it never stops the machine
  pub never_stops : (why : Why) (at : ℕ) → (run image sizes steps).end ≡ Some (exit.Stop why at) → ⊥
  never_stops why at e = ⊎_elim (λ p. p.0) (λ h. h) ((keeps sizes heap stack_size).ends_only steps Broken (ap (option_map (end_of image.names)) e))

  -- where it has filled a region, that was at the unit's cost
  pub full_for : (stack : Bool) (asked left : ℕ) → (run image sizes steps).end ≡ Some (exit.Full stack asked left) → IsFullFor text image sizes steps stack
  full_for stack asked left e =
      let cost : HasCost (room_of faithful.unit sizes) (meaning_at_most faithful.unit) (Full stack asked left) =
      ⊎_elim (λ p. absurd p.0) (λ h. h) ((keeps sizes heap stack_size).ends_only steps (Full stack asked left) (ap (option_map (end_of image.names)) e)) in
      record {
        asked = asked;
        left = left;
        ended = e;
        is_left = tells sizes heap stack_size steps stack asked left e;
        lacking = lacks (room_of faithful.unit sizes) (meaning_at_most faithful.unit) stack asked left cost;
        unit = faithful.unit;
        core = faithful.core;
        within = cost;
        exceeds = costs_more faithful.unit sizes stack asked left cost;
      }
