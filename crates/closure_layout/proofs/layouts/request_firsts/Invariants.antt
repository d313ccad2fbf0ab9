use Rattle.std.specs.Prelude.{[]}
use Rattle.layout_tables.specs.Additions.{Adds}
use Rattle.closure_layout.specs.Blocks.{StandFirst}
use Rattle.closure_layout.proofs.layouts.request_firsts.Given as goal

abbrev pub invariant-loop-place : goal.invariant-loop-place
invariant-loop-place l = record {
  stand : StandFirst l.tables l.place l.work.requests.items;
  adds : Adds l.fn.work l.work [] [];
}
