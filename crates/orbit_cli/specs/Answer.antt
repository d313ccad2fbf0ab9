-- What is put of an image, which is the answer of its run or its listing, and of a text that is checked.
use Rattle.std.specs.Prelude.{ℕ, Bool, true, false, List, [], ◌++◌, Option, Some, None}
use Rattle.m68020_step.specs.declared.machine.Sizes.{Sizes}
use Rattle.t_core.specs.declared.forms.UnitCore.{UnitCore}
use Rattle.t_core.specs.Counts.{form_count, weight_of}
use Rattle.t_core.specs.Limits.{greatest}
use Rattle.image_file.specs.Grammar.{Parts}
use Rattle.orbit_tools.specs.Listing.{listing_of}
use Rattle.machine_services.specs.declared.exit.Exit.{Exit}
use Rattle.machine_services.specs.declared.exit.Exit.TheVariants as exit
use Rattle.word_faces.specs.Faces.{shown_of}
use Rattle.orbit_monitor.specs.Answering.{Loaded, fresh, run_on, last_after}
use Rattle.orbit_cli.specs.declared.status.Status.{Status}
use Rattle.orbit_cli.specs.declared.status.Status.TheVariants as status
use Rattle.orbit_cli.specs.Lines.{shown_text, value_line, fault_line, full_line, limit_line, stop_line, counts_line}

-- what is put to out, the line that is put to err, and the status
pub record Answer : Type 0 where
  pub out : List ℕ
  pub err : List ℕ
  pub status : Status

-- behind output whose last byte is this one: the line of the value, where the run halted
abbrev pub value_text : List (List ℕ) → Option ℕ → Option Exit → List ℕ
value_text names last (Some (exit.Done face)) = value_line last (shown_text (shown_of names face))
value_text names last (Some (exit.Fault fault)) = []
value_text names last (Some (exit.Full stack asked left)) = []
value_text names last (Some (exit.Stop why at)) = []
value_text names last None = []

-- the line of an end, or that so many instructions ran and none of them ended the run
abbrev pub end_line : ℕ → Option Exit → List ℕ
end_line steps (Some (exit.Done face)) = []
end_line steps (Some (exit.Fault fault)) = fault_line fault
end_line steps (Some (exit.Full stack asked left)) = full_line stack asked left
end_line steps (Some (exit.Stop why at)) = stop_line why at
end_line steps None = limit_line steps

abbrev pub full_status : Bool → Status
full_status true = status.StackFull
full_status false = status.HeapFull

abbrev pub end_status : Option Exit → Status
end_status (Some (exit.Done face)) = status.Done
end_status (Some (exit.Fault fault)) = status.SourceFault
end_status (Some (exit.Full stack asked left)) = full_status stack
end_status (Some (exit.Stop why at)) = status.MachineStop
end_status None = status.StepLimit

-- where the run put this output and ended so, if it ended
abbrev pub answer_at : Loaded → List ℕ → Option Exit → ℕ → Answer
answer_at b output end steps = record {
  out = output ++ value_text b.names (last_after b.last output) end;
  err = end_line steps end;
  status = end_status end;
}

-- of a program that is loaded, from where it is
abbrev pub answer_on : Loaded → ℕ → Answer
answer_on b steps = answer_at b (run_on b steps).output (run_on b steps).end steps

-- of an image
abbrev pub answer : Parts → Sizes → ℕ → Answer
answer image sizes steps = answer_on (fresh image sizes) steps

-- of what is put without a run
abbrev pub printed : List ℕ → Answer
printed text = record { out = text; err = []; status = status.Done }

abbrev pub listing_answer : Parts → Answer
listing_answer image = printed (listing_of image.code)

-- the nodes of the largest form
abbrev pub most_nodes : UnitCore → ℕ
most_nodes unit = greatest (form_count unit.shared.pairs.items) unit.forms.items

abbrev pub counts_answer : UnitCore → Answer
counts_answer unit = printed (counts_line (most_nodes unit) (weight_of unit))
