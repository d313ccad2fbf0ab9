use Rattle.std.proofs.Common.{ap, ◌∙◌, ◌+◌}
use Rattle.std.specs.Option.{option_map}
use Rattle.t_forms.proofs.NewCells.{pair_held}
use Rattle.t_forms.proofs.arena.Forms.cons.Goals as goal

pub returns-in_err-key-clause-grown : goal.returns-in_err-key-clause-grown
returns-in_err-key-clause-grown c = c.in_err-key.ensures.grown

pub returns-clause-held : goal.returns-clause-held
returns-clause-held c names h t held continues =
    pair_held names c.args.self.now c.add.new.self c.in_ok-key.key c.args.span c.args.head c.args.tail c.in_ok-count.count h t c.in_ok-key.ensures.place
    c.in_ok-key.ensures.cells (c.in_ok-count.ensures ∙ ap (option_map (λ n. n + 1)) (c.item_count-behind.ensures.continued names t continues)) held continues
