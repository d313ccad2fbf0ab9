use Rattle.std.specs.List.{flat_map}
use Rattle.std.proofs.Common.{◌∙◌, ℕ, List, ◌++◌, [], sym, ap}
use Rattle.std.proofs.lemmas.List.{append-nil}
use Rattle.cps_ir.specs.Parts.{own_parts}
use Rattle.cps_ir.specs.Reaches.{without}
use Rattle.cps_live.specs.Gathered.{numbers, list_at, seen_in}
use Rattle.cps_live.proofs.Joined.{named_numbers}
use Rattle.cps_live.proofs.gathering.push_own.Goals as goal

pub returns-in_ok-push_behind-in-Labels-clause-wanted : goal.returns-in_ok-push_behind-in-Labels-clause-wanted
returns-in_ok-push_behind-in-Labels-clause-wanted c =
    let seen = λ (ns : List ℕ). without ns (list_at c.args.lists.now c.in-Labels.body) in
    c.in_ok-push_behind-in-Labels.ensures.wanted
    ∙ ap (λ ws. c.args.wanted.now.items ++ ws)
    (ap (λ xs. seen (numbers xs)) c.as_slice.ensures ∙ ap seen (sym (named_numbers c.in-Labels.vars)) ∙ sym (append-nil _) ∙ ap (λ t. flat_map (seen_in c.args.lists.now) (own_parts [] t)) (sym c.in-Labels.is))
