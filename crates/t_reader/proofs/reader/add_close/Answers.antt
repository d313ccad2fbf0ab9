use Rattle.std.proofs.Common.{◌≡◌, ◌∙◌, sym, ap, None, Some}
use Rattle.t_reader.specs.Grammar.{at, close_kind}
use Rattle.t_reader.specs.Build.{close_fault_of, last_frame}
use Rattle.t_reader.proofs.Depth.{answers}
use Rattle.t_reader.proofs.LastList.{close_fault, list_closes}
use Rattle.t_reader.proofs.reader.add_close.Goals as goal

pub returns-in_default-clause-gives : goal.returns-in_default-clause-gives
returns-in_default-clause-gives c text b r s =
    let frame_is : c.copied.result ≡ last_frame c.args.build.now.frames.items = c.copied.ensures ∙ c.last.ensures.value ∙ ap last_frame c.deref.ensures.value in
    let fits : close_kind b ≡ None =
    close_fault text _ _ b _ _ r ∙ ap close_fault_of (sym frame_is ∙ c.in-Some-List.is ∙ ap Some c.in-Some-List.field-0-is) ∙ list_closes c.in-Some-List.open c.in-Some-List.first c.in-Some-List.tail c.in_default.not-Dot in
    answers _ _ _ (ap (at c.args.span) fits) (c.close.ensures.reached text b r s fits) c.close.ensures.memory

pub returns-in-Some-Quote-clause-gives : goal.returns-in-Some-Quote-clause-gives
returns-in-Some-Quote-clause-gives c text b r s =
    let frame_is : c.copied.result ≡ last_frame c.args.build.now.frames.items = c.copied.ensures ∙ c.last.ensures.value ∙ ap last_frame c.deref.ensures.value in
    rw c.fault-in-Some-Quote.ensures (ap (at c.args.span) (close_fault text _ _ b _ _ r ∙ ap close_fault_of (sym frame_is ∙ c.in-Some-Quote.is ∙ ap Some c.in-Some-Quote.field-0-is)))
