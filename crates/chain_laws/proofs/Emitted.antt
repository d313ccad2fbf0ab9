-- Emission at sizes that a run may have.
use Rattle.std.proofs.Common.{◌≡◌, ℕ, List, Some, slice_get, All, refl, subst, arith}
use Rattle.std.proofs.lemmas.Option.{get_or_from_slice_get, slice_get_within}
use Rattle.program_runs.proofs.Weaken.{alike_with_more}
use Rattle.word_ir.specs.declared.placed.Home.{Home}
use Rattle.word_ir.specs.declared.placed.Home.TheVariants as home
use Rattle.word_ir.specs.declared.placed.Placed.{Placed}
use Rattle.word_ir.specs.Names.{image_names}
use Rattle.word_ir.specs.Step.{placed_run}
use Rattle.m68020_asm.specs.Items.{CanAssemble}
use Rattle.lap_paths.specs.Paths.{Assembly}
use Rattle.lap_simulation.specs.Laws.{EmittedKeeps}
use Rattle.image_runs.specs.Images.{Assembled, items_run}
use Rattle.passes_keep.specs.Chains.{word_sizes}
use Rattle.chain_laws.specs.Laws.{EmittedIsKept}

abbrev assembly_of : Placed → (a : Assembled) → CanAssemble a.items → Assembly
assembly_of placed a can = record { names = image_names placed.words.shared.names; items = a.items; bytes = a.bytes; labels = a.labels; assembled = a.are; can = can }

pub emitted_is_kept : EmittedKeeps → EmittedIsKept
emitted_is_kept keeps words placed a serves emitted bytes can sizes are safe =
    alike_with_more 13 0 13 13 (placed_run placed (word_sizes sizes)) (items_run placed.words a sizes) (omega arith) (omega arith)
    (keeps (assembly_of placed a can) placed sizes.heap sizes.stack
    (record {
      whole = serves.whole;
      emitted = emitted;
      bytes = bytes;
      names = refl;
      heap_is = are.heap;
      stack_is = are.stack;
    }) safe)
