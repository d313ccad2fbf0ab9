use Rattle.std.proofs.Common.{◌≡◌, ℕ, ◌<◌, List, Some, length, sym, ◌∙◌, arith}
use Rattle.std.proofs.lemmas.Option.{slice_get_within}
use Rattle.t_forms.specs.Data.{written}
use Rattle.t_forms.specs.Names.{defined_as, builtin_meaning}
use Rattle.t_forms.proofs.Bindings.{beyond_means}
use Rattle.t_forms.proofs.scope.written_meaning.Goals as goal

same_some : {a b : List ℕ} → Some a ≡ Some b → a ≡ b
same_some e = cc

pub returns-then-name-count : goal.returns-then-name-count
returns-then-name-count c text bounds vars at table =
    let there = table.texts c.args.name.0 text at in
    let same : c.text.result.now ≡ text = same_some (sym c.text.ensures ∙ at) in
    beyond_means vars there.0 (defined_as bounds (written text)) (builtin_meaning text) c.builtin_meaning.result there.2
    (sym (c.defined_at.ensures there.0 there.1) ∙ c.in-None.is) (rw (sym same) (c.builtin_meaning.ensures vars))

pub returns-else-name-count : goal.returns-else-name-count
returns-else-name-count c text bounds vars at table =
    let below : c.args.name.0 < length c.args.names.now = slice_get_within c.args.names.now c.args.name.0 text at in
    absurd (omega arith)
