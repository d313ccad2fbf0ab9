use Rattle.std.proofs.Common.{◌∙◌, map, sym, ap}
use Rattle.cps_ir.specs.Parts.{variable_of, around}
use Rattle.cps_ir.specs.Reaches.{is_in}
use Rattle.cps_live.specs.Gathered.{numbers}
use Rattle.cps_live.proofs.Joined.{filled, named_numbers}
use Rattle.cps_live.proofs.gathering.hide_labels.Goals as goal

pub returns-in_ok-insert_all : goal.returns-in_ok-insert_all
returns-in_ok-insert_all c = λ m.
    filled c.args.outer.now c.insert_all.new.self (numbers c.as_slice.result.now) c.requires c.in_ok-insert_all.ensures m ∙ ap (λ xs. is_in (numbers xs) m) c.as_slice.ensures
    ∙ ap (λ ns. is_in ns m) (sym (named_numbers c.in-Labels.vars)) ∙ ap (λ t. is_in (map variable_of (around t)) m) (sym c.in-Labels.is)
