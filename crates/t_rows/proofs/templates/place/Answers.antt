use Rattle.std.proofs.Common.{slice_get}
use Rattle.t_rows.specs.Templates.{item_of, or_empty}
use Rattle.t_rows.proofs.Growth.{extends_trans}
use Rattle.t_rows.proofs.TemplateLemmas.{rest_at, before_item, open_grow}
use Rattle.t_rows.proofs.templates.place.Goals as goal

pub returns-in_ok-put-in_default-clause-grown : goal.returns-in_ok-put-in_default-clause-grown
returns-in_ok-put-in_default-clause-grown c = extends_trans c.in_ok-head-in_default.ensures.grown c.in_ok-put-in_default.ensures.grown

pub returns-in-Rest-clause-put : goal.returns-in-Rest-clause-put
returns-in-Rest-clause-put c names ds dss st h r none open_ =
    rw c.in-Rest.is (c.end.ensures names c.args.forms.now (or_empty (slice_get dss c.in-Rest.at)) st none
    (rw c.key_at.ensures (rest_at names c.args.forms.now c.args.rests.now dss c.in-Rest.at r)) open_)

pub returns-in_ok-put-in_default-clause-put : goal.returns-in_ok-put-in_default-clause-put
returns-in_ok-put-in_default-clause-put c names ds dss st h r none open_ =
    rw (before_item c.args.span ds dss c.args.piece st c.in_default.not-Open c.in_default.not-Close c.in_default.not-Rest)
    (c.in_ok-put-in_default.ensures.put names (item_of c.args.span ds c.args.piece) st (c.in_ok-head-in_default.ensures.made names ds h)
    (open_grow names c.args.forms.now c.item_of.new.forms c.args.lists.now.items c.args.lists.now.outer.items st c.in_ok-head-in_default.ensures.grown open_))
