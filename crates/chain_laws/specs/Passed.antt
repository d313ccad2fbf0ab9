-- A unit with what the passes make of it, by their relations.
use Rattle.t_core.specs.declared.forms.UnitCore.{UnitCore}
use Rattle.cps_ir.specs.declared.terms.Cps.{Cps}
use Rattle.cps_conversion.specs.Conversion.{Converts}
use Rattle.assign_convert.specs.CellLaws.{IsCellForm}
use Rattle.frame_ir.specs.declared.forms.Frames.{Frames}
use Rattle.frame_ir.specs.Whole.{IsWhole}
use Rattle.layout_relation.specs.Laid.{IsLaidOut}
use Rattle.word_ir.specs.declared.words.Words.{Words}
use Rattle.word_ir.specs.declared.placed.Placed.{Placed}
use Rattle.word_selection.specs.Selections.{IsSelected}
use Rattle.trace_regs.specs.Homes.{Serves}
use Rattle.m68020_step.specs.Ranges.{AreBytes}
use Rattle.m68020_asm.specs.Items.{CanAssemble}
use Rattle.lap_items.specs.Program.{IsEmitted}
use Rattle.image_runs.specs.Images.{Assembled}

-- Each form is in the relation of its pass to the form before it; the frames are whole, and the items can be assembled.
pub record Passed (unit : UnitCore) : Type 0 where
  pub cps : Cps
  pub converts : Converts unit cps
  pub celled : Cps
  pub cells : IsCellForm cps celled
  pub frames : Frames
  pub laid_out : IsLaidOut celled frames
  pub framed : IsWhole frames
  pub words : Words
  pub selected : IsSelected frames words
  pub placed : Placed
  pub serves : Serves words placed
  pub assembled : Assembled
  pub emitted : IsEmitted placed assembled.items
  pub bytes : AreBytes assembled.bytes
  pub can : CanAssemble assembled.items
