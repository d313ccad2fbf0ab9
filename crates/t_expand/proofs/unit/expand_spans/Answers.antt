use Rattle.std.proofs.Common.{List, refl}
use Rattle.t_reader.specs.Grammar.{Tree}
use Rattle.t_reader.specs.Unit.{HoldTrees, string_bytes}
use Rattle.t_expand.specs.Outcome.{IsPrepared, IsOutcome, IsText}
use Rattle.t_expand.proofs.UnitLemmas.{outcome_core, outcome_accepted, outcome_fault, outcome_refused, outcome_bytes}
use Rattle.t_expand.proofs.unit.expand_spans.Goals as goal
use Rattle.t_expand.proofs.unit.expand_spans.Goals.{After-drop-nodes-2}

is_prepared : (c : After-drop-nodes-2) (trees : List Tree) → HoldTrees c.args.unit.names c.args.unit.nodes.items c.args.unit.forms.items trees
    → IsPrepared c.args.unit.names trees c.in_ok-prepared.prepared.expansion c.in_ok-prepared.prepared.tops.items
is_prepared c trees held =
    let there : HoldTrees c.args.unit.names c.as_slice.result.now c.as_slice-2.result.now trees = rw (c.as_slice.ensures.value, c.as_slice-2.ensures.value) held in
    c.in_ok-prepared.ensures.prepared trees c.requires.whole.names_begin.0 there c.requires.whole.names_begin.1 c.requires.whole.names_distinct

is_text : (c : After-drop-nodes-2) (trees : List Tree) → HoldTrees c.args.unit.names c.args.unit.nodes.items c.args.unit.forms.items trees
    → IsText c.args.unit.names trees
is_text c trees held = record { text = c.args.unit; whole = c.requires.whole; held = held; names_are = refl }

outcome : (c : After-drop-nodes-2) (trees : List Tree) → HoldTrees c.args.unit.names c.args.unit.nodes.items c.args.unit.forms.items trees
    → IsOutcome trees c.expand_prepared.result
outcome c trees held = c.expand_prepared.ensures.outcome c.args.unit.names trees (is_text c trees held) (is_prepared c trees held)

pub returns-clause-core : goal.returns-clause-core
returns-clause-core c trees held = outcome_core trees c.expand_prepared.result (outcome c trees held)

pub returns-clause-accepted : goal.returns-clause-accepted
returns-clause-accepted c trees r held refused = outcome_accepted trees c.expand_prepared.result r (outcome c trees held) refused

pub returns-clause-fault : goal.returns-clause-fault
returns-clause-fault c trees kind span held e = outcome_fault trees c.expand_prepared.result kind span (outcome c trees held) e

pub returns-clause-refused : goal.returns-clause-refused
returns-clause-refused c trees r held first = outcome_refused trees c.expand_prepared.result r (outcome c trees held) first

pub returns-clause-bytes : goal.returns-clause-bytes
unfolding is_text
returns-clause-bytes c =
    let trees = c.requires.whole.data_ in
    let held = c.requires.whole.held in
    outcome_bytes c.expand_prepared.result c.args.unit.names (string_bytes c.args.unit.nodes.items)
    (c.expand_prepared.ensures.names c.args.unit.names trees (is_prepared c trees held))
    (c.expand_prepared.ensures.bytes c.args.unit.names trees (is_text c trees held) (is_prepared c trees held))

pub returns-clause-table : goal.returns-clause-table
returns-clause-table c =
    let trees = c.requires.whole.data_ in
    let held = c.requires.whole.held in
    c.expand_prepared.ensures.table c.args.unit.names trees c.args.ops.now.ops.items (is_text c trees held) (is_prepared c trees held) (c.requires.table trees held)
