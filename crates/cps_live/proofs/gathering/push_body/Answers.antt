use Rattle.std.proofs.Common.{◌∙◌, ◌++◌, ◌||◌, ap}
use Rattle.cps_ir.specs.Parts.{lam_binders}
use Rattle.cps_ir.specs.Reaches.{is_in}
use Rattle.cps_live.specs.Gathered.{numbers, list_at}
use Rattle.cps_live.proofs.Joined.{binders_hidden, body_seen}
use Rattle.cps_live.proofs.gathering.push_body.Goals as goal

pub returns-clause-wanted : goal.returns-clause-wanted
returns-clause-wanted c =
    c.in_ok-push_seen.ensures
    ∙ ap (λ ws. c.args.wanted.now.items ++ ws)
    (body_seen (list_at c.args.lists.now c.args.lam.now.body) c.args.hidden.now.outer c.insert.new.self (lam_binders c.args.lam.now)
    (binders_hidden c.args.hidden.now.inner c.insert_all.new.self c.insert.new.self c.args.lam.now c.requires
    (λ m. c.in_ok-insert_all.ensures m ∙ ap (λ xs. is_in c.args.hidden.now.inner m || is_in (numbers xs) m) c.as_slice.ensures) c.in_ok-insert.ensures))
