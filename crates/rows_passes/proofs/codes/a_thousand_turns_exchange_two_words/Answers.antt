use Rattle.std.proofs.Common.{subst, sym}
use Rattle.m68020_asm.specs.Items.{CanAssemble}
use Rattle.rows_passes.proofs.TurnLemmas.{turns_are_whole, turns_are_short}
use Rattle.rows_passes.proofs.codes.a_thousand_turns_exchange_two_words.Goals as goal

pub assign-requires-clause-whole : goal.assign-requires-clause-whole
assign-requires-clause-whole g c = turns_are_whole c.alloc-alloc.result c.in_ok-words.words c.in_ok-words.ensures

pub assemble-requires : goal.assemble-requires
assemble-requires g c =
    subst CanAssemble (sym c.as_slice.ensures.value)
    (c.in_ok-items.ensures.assembles
    (turns_are_short c.alloc-alloc.result c.in_ok-words.words c.in_ok-placed.placed c.in_ok-items.items.items c.in_ok-words.ensures c.in_ok-placed.ensures.serves c.in_ok-items.ensures.bytes))
