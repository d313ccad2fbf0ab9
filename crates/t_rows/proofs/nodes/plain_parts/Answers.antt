use Rattle.std.proofs.Common.{[], ◌<◌, length, get_or, take, add-one}
use Rattle.std.proofs.Math.Seq.{take-suc}
use Rattle.std.proofs.lemmas.List.{take_all}
use Rattle.t_forms.specs.Held.{Held}
use Rattle.t_rows.specs.Given.{IsPart}
use Rattle.t_rows.specs.Rows.{plain}
use Rattle.t_rows.proofs.ZipLemmas.{collected, none_collected}
use Rattle.t_rows.proofs.PartLemmas.{zip_parts}
use Rattle.t_rows.proofs.nodes.plain_parts.Goals as goal

pub parts-init : goal.parts-init
parts-init c names ds h = rw c.in_ok-parts.ensures.items (none_collected (Held names c.args.forms.now) (IsPart names c.args.forms.now) plain ds h)

pub parts-preserved : goal.parts-preserved
parts-preserved c names ds h =
    let below : c.parts.form-index < length c.args.keys.now = c.parts-test.true in
    rw c.in_ok-push.ensures.items
    (collected (Held names c.args.forms.now) (IsPart names c.args.forms.now) plain (take c.parts.form-index c.args.keys.now) (get_or c.args.keys.now c.parts.form-index 0)
    c.parts.parts.items _ (λ xs k. c.parts.invariant names xs k) (λ d k. (rw c.new.ensures.items tt, k)) ds
    (rw (add-one, take-suc c.args.keys.now c.parts.form-index 0 below) at h))

pub returns : goal.returns
returns c names ds h =
    zip_parts names c.args.forms.now [] c.parts.parts.items _ (c.parts.invariant names ds (rw (take_all c.parts.form-index c.args.keys.now c.parts-test.false) h))
