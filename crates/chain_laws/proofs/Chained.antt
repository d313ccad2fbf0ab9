-- Forms that are in the relations of the passes make a chain of what these promise.
use Rattle.std.proofs.Common.{◌≡◌, true, All, refl, sym, subst}
use Rattle.std.proofs.lemmas.List.Elements.{All-weaker}
use Rattle.std.proofs.lemmas.List.Sums.{list_all-from_AllPass}
use Rattle.std.specs.List.{list_all}
use Rattle.t_core.specs.declared.forms.UnitCore.{UnitCore}
use Rattle.frame_ir.specs.declared.forms.Place.{Place}
use Rattle.frame_ir.specs.declared.forms.FrameOp.{FrameOp}
use Rattle.frame_ir.specs.declared.forms.FrameOp.TheVariants as Op
use Rattle.frame_ir.specs.declared.forms.Block.{Block}
use Rattle.frame_ir.specs.declared.forms.Frames.{Frames}
use Rattle.layout_relation.specs.Laws.{LaidOutIsSmall}
use Rattle.layout_laws.specs.Wholeness.{IsOnHeap, AreOnHeap, LaidOutIsOnHeap}
use Rattle.selection_steps.specs.Settings.{is_plain, is_plain_program}
use Rattle.trace_regs.specs.Homes.{HomesKeep}
use Rattle.passes_keep.specs.Chains.{Chain}
use Rattle.passes_keep.specs.Laws.{ImageKeepsMeaning}
use Rattle.chain_laws.specs.Passed.{Passed}
use Rattle.chain_laws.specs.Laws.{SelectedIsKept, EmittedIsKept, PassedKeepsMeaning}

op_is_plain : (op : FrameOp) → IsOnHeap op → is_plain op ≡ true
op_is_plain (Op.Closure to code kept at) h = subst (λ (x : Place). is_plain (Op.Closure to code kept x) ≡ true) (sym h) refl
op_is_plain op h = refl

block_is_plain : (b : Block) → All IsOnHeap b.ops.items → list_all is_plain b.ops.items ≡ true
block_is_plain b h = list_all-from_AllPass is_plain b.ops.items (All-weaker IsOnHeap (λ op. is_plain op ≡ true) op_is_plain b.ops.items h)

heap_is_plain : (p : Frames) → AreOnHeap p → is_plain_program p ≡ true
heap_is_plain p h =
    list_all-from_AllPass (λ b. list_all is_plain b.ops.items) p.blocks.items (All-weaker (λ b. All IsOnHeap b.ops.items) (λ b. list_all is_plain b.ops.items ≡ true) block_is_plain p.blocks.items h)

chain_of : SelectedIsKept → EmittedIsKept → LaidOutIsSmall → LaidOutIsOnHeap → HomesKeep → (unit : UnitCore) → Passed unit → Chain unit
chain_of selects emits small heap homes unit passed =
    record {
      cps = passed.cps;
      converts = passed.converts;
      celled = passed.celled;
      cells = passed.cells;
      frames = passed.frames;
      laid_out = passed.laid_out;
      words = passed.words;
      selected = selects passed.frames passed.words passed.selected passed.framed (small passed.celled passed.frames passed.laid_out).frames
          (heap_is_plain passed.frames (heap passed.celled passed.frames passed.cells.whole passed.laid_out));
      placed = passed.placed;
      assigned = λ sizes whole safe. homes passed.words passed.placed sizes passed.serves whole safe;
      assembled = passed.assembled;
      emitted = emits passed.words passed.placed passed.assembled passed.serves passed.emitted passed.bytes passed.can;
      can = passed.can;
    }

pub passed_keeps_meaning : ImageKeepsMeaning → SelectedIsKept → EmittedIsKept → LaidOutIsSmall → LaidOutIsOnHeap → HomesKeep → PassedKeepsMeaning
unfolding chain_of
passed_keeps_meaning keeps selects emits small heap homes unit passed sizes are = keeps unit (chain_of selects emits small heap homes unit passed) sizes are
