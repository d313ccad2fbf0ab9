use Rattle.std.proofs.Common.{◌<◌, length, get_or, take, add-one, refl, sym, subst}
use Rattle.std.proofs.Math.Seq.{take-suc}
use Rattle.std.proofs.lemmas.List.{take_all}
use Rattle.form_rows.specs.declared.object.Method.{Method as CodeMethod}
use Rattle.form_rows.specs.Methods.{IsMethod}
use Rattle.t_rows.proofs.ZipLemmas.{ZipLast, zip_last}
use Rattle.t_rows.proofs.BindingLemmas.{none_left}
use Rattle.form_rows.proofs.object.with_methods.Goals as goal

pub methods-init : goal.methods-init
methods-init c around p ms apart s h z =
    rw (none_left (IsMethod c.args.names.now c.args.forms.now) (take 0 c.args.methods.now) ms z refl) (c.in_ok-object.ensures c.args.names.now around p h)

pub methods-preserved : goal.methods-preserved
methods-preserved c around p ms apart s h z =
    let below : c.methods.method-index < length c.args.methods.now = c.methods-test.true in
    let Is = IsMethod c.args.names.now c.args.forms.now in
    let item = c.method-item.result in
    let done = take c.methods.method-index c.args.methods.now in
    let here = get_or c.args.methods.now c.methods.method-index item in
    let l : ZipLast Is done here ms = zip_last Is done here ms (rw (add-one, take-suc c.args.methods.now c.methods.method-index item below) at z) in
    let k = subst (λ (x : CodeMethod). Is x l.last) (sym c.method-item.is) l.zip_last in
    rw l.parts (c.in_ok-add_method.ensures around l.last l.before p apart s k (c.methods.invariant around p l.before apart s h l.zip_before))

pub returns : goal.returns
returns c around p ms apart s h z =
    c.methods.invariant around p ms apart s h (rw (take_all c.methods.method-index c.args.methods.now c.methods-test.false) z)
