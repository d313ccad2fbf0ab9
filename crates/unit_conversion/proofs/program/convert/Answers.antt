use Rattle.std.proofs.Common.{◌≡◌, ℕ, ◌∙◌, subst}
use Rattle.cps_ir.specs.Parts.{is_assigned as cps_assigned}
use Rattle.cps_walk.specs.Marked.{is_marked}
use Rattle.unit_conversion.proofs.Joining.{enough, converts}
use Rattle.unit_conversion.proofs.program.convert.Goals as goal

pub check_apart-requires-clause-there : goal.check_apart-requires-clause-there
check_apart-requires-clause-there c =
    let setting = c.in_ok-known.ensures c.requires in
    enough c.args.unit c.in_ok-known.known.marks.items c.in_ok-known.known.base c.in_ok-parts.parts c.in_ok-cps.cps (c.in_ok-parts.ensures setting.marked) c.in_ok-cps.ensures

pub returns-clause-converts : goal.returns-clause-converts
returns-clause-converts c =
    let setting = c.in_ok-known.ensures c.requires in
    let assigned : (x : ℕ) → cps_assigned c.in_ok-cps.cps x ≡ is_marked c.in_ok-known.known.marks.items x =
    subst (λ l. (x : ℕ) → cps_assigned c.in_ok-cps.cps x ≡ is_marked l x) c.as_slice.ensures.value (c.in_ok-check_assigned.ensures c.in_ok-check_apart.ensures.ordered) in
    converts c.args.unit c.in_ok-known.known.marks.items c.in_ok-known.known.base c.in_ok-parts.parts c.in_ok-cps.cps setting (c.in_ok-parts.ensures setting.marked) c.in_ok-cps.ensures (λ v. assigned v.0 ∙ setting.marked v)
