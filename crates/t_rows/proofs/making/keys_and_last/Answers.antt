use Rattle.t_forms.specs.Held.{Held}
use Rattle.t_rows.proofs.ZipLemmas.{zip_push}
use Rattle.t_rows.proofs.making.keys_and_last.Goals as goal

pub returns : goal.returns
returns c names ds d h r = rw c.in_ok-push.ensures.items (zip_push (Held names c.args.forms.now) c.in_ok-keys.keys.items ds c.args.last d (c.in_ok-keys.ensures names ds h) r)
