use Rattle.std.proofs.Common.{refl, subst, sym}
use Rattle.cps_convert.specs.Claims.{HasMarks}
use Rattle.unit_conversion.specs.Parts.{ArePartsOf}
use Rattle.unit_conversion.proofs.Making.{parts_made}
use Rattle.unit_conversion.proofs.program.parts_of.Goals as goal

pub returns : goal.returns
returns c = λ marks.
    let unit = c.args.unit.now in
    let known = c.args.known.now in
    let same = c.as_slice-marks.ensures.value in
    let here = subst (λ l. HasMarks unit l) (sym same) marks in
    subst (λ l. ArePartsOf unit l known.base (record { globals = c.in_ok-globals.globals; defaults = c.in_ok-defaults.defaults; made = c.forms.new.made; entry = c.in_ok-entry.entry })) same
    (parts_made unit c.as_slice-marks.result.now known.base (record { terms = c.new.result; procedures = c.new-2.result; first = c.in_ok-first.first; next = known.base }) c.global_lams.new.made c.default_lams.new.made
    (record { globals = c.in_ok-globals.globals; defaults = c.in_ok-defaults.defaults; made = c.forms.new.made; entry = c.in_ok-entry.entry }) refl c.in_ok-first.ensures (c.in_ok-globals.ensures here) (c.in_ok-defaults.ensures here) (c.in_ok-entry.ensures here))
