use Rattle.std.proofs.Common.{◌<◌, ◌+◌, List, ap, sym, ◌∙◌, subst, sum_by, arith}
use Rattle.std.specs.Option.{option_map}
use Rattle.std.proofs.lemmas.Result.{on_ok_weaker}
use Rattle.orbit_build.specs.declared.term.Task.{Task}
use Rattle.orbit_build.specs.Sums.{places}
use Rattle.orbit_build.specs.Tasks.{Leads, steps, node_steps}
use Rattle.orbit_build.proofs.Pending.{read_fits, loaded, sum_found, split, fewer_parts, some_steps}
use Rattle.orbit_build.proofs.term.put_node.Goals as goal

pub word_of-requires : goal.word_of-requires
word_of-requires c = read_fits c.args.nodes.now c.args.key c.args.depth c.requires.0 _ c.requires.1 c.in-Some.ensures

pub unwrap-first-requires : goal.unwrap-first-requires
unwrap-first-requires c = sum_found c.args.nodes.now _ _ c.args.key c.args.depth c.requires.0 c.operands_at.ensures c.requires.1 c.in-None.ensures

pub returns-in-Some-clause-leads : goal.returns-in-Some-clause-leads
returns-in-Some-clause-leads c =
    on_ok_weaker c.push_load.result (λ e. loaded c.args.nodes.now c.args.waiting.now.items c.args.key c.args.depth _ c.in-Some.value c.requires.0 c.args.out.now.items c.push_load.new.out.items c.requires.1 c.in-Some.ensures c.word_of.ensures e) c.push_load.ensures

pub returns-in-Some-clause-fewer : goal.returns-in-Some-clause-fewer
returns-in-Some-clause-fewer c = on_ok_weaker c.push_load.result (λ e. let some = some_steps c.args.key in omega (arith, some)) c.push_load.ensures

pub returns-in-None-clause-leads : goal.returns-in-None-clause-leads
returns-in-None-clause-leads c =
    let found = ap (option_map (λ p. places p.0 p.1)) (sym c.unwrap-first.ensures) ∙ c.operands_at.ensures in
    on_ok_weaker c.put_off.result
    (λ e total h. subst (λ (l : List Task). Leads c.args.nodes.now l c.args.out.now.items total) (sym e) (split c.args.nodes.now c.args.waiting.now.items c.args.key c.args.depth _ _ c.args.out.now.items c.in-None.ensures found total h)) c.put_off.ensures

pub returns-in-None-clause-fewer : goal.returns-in-None-clause-fewer
returns-in-None-clause-fewer c =
    let found = ap (option_map (λ p. places p.0 p.1)) (sym c.unwrap-first.ensures) ∙ c.operands_at.ensures in
    let fewer = fewer_parts c.args.nodes.now c.args.waiting.now.items c.args.key c.args.depth _ _ c.requires.0 c.requires.1 c.in-None.ensures found in
    on_ok_weaker c.put_off.result (λ e. subst (λ (l : List Task). sum_by steps l < sum_by steps c.args.waiting.now.items + node_steps c.args.key) (sym e) fewer) c.put_off.ensures
