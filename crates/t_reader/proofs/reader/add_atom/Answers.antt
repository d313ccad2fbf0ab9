use Rattle.std.proofs.Common.{◌≡◌, ◌∙◌, sym, ap, refl, None}
use Rattle.t_reader.specs.Grammar.{at, datum_kind}
use Rattle.t_reader.specs.Build.{datum_fault_of, last_frame}
use Rattle.t_reader.proofs.Depth.{last_fault, answers}
use Rattle.t_reader.proofs.Steps.{takes}
use Rattle.t_reader.proofs.reader.add_atom.Goals as goal

pub returns-in-None-clause-gives : goal.returns-in-None-clause-gives
returns-in-None-clause-gives c b r s =
    let frame_is : c.copied.result ≡ last_frame c.args.build.now.frames.items = c.copied.ensures ∙ c.last.ensures.value ∙ ap last_frame c.deref.ensures.value in
    let fits : datum_kind b ≡ None = last_fault c.args.text.now _ _ b _ _ r ∙ ap datum_fault_of (sym frame_is) ∙ sym c.datum_fault.ensures ∙ c.in-None.is in
    answers _ _ _ (ap (at c.args.span) fits) (c.add_atom.ensures.reached c.args.text.now b r (takes b fits) s refl) c.add_atom.ensures.memory
