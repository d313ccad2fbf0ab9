use Rattle.std.proofs.Common.{◌≡◌, sym, ap, ◌∙◌, true, false, Err, rules}
use Rattle.std.proofs.lemmas.Result.{err_from_is_err_and}
use Rattle.t_core.specs.declared.limiting.LimitFault.{LimitFault}
use Rattle.orbit_build.proofs.FaultLemmas.{over_as}
use Rattle.orbit_build.proofs.build.compile.Goals as goal

pub returns-in_err-limits-clause-limit : goal.returns-in_err-limits-clause-limit
returns-in_err-limits-clause-limit c = λ fault e.
    let p = err_from_is_err_and c.from_residual-in_err-limits.result c.from_residual-in_err-limits.ensures.1 in
    let same = over_as c.from_residual-in_err-limits.result p.0 c.in_err-limits.field-0.0 fault p.1 p.2 e in
    record { unit = c.in_ok-unit.unit; core = c.in_ok-unit.ensures.core; over = sym c.in_err-limits.ensures ∙ ap (λ (f : LimitFault). Err f) same }

pub returns-then-not-is_built-clause-unbuilt : goal.returns-then-not-is_built-clause-unbuilt
returns-then-not-is_built-clause-unbuilt c = λ e.
    let fails : c.is_built.result ≡ false = search rules in
    record { unit = c.in_ok-unit.unit; core = c.in_ok-unit.ensures.core; within = sym c.in_ok-limits.ensures; unbuilt = sym c.is_built.ensures ∙ fails }

pub returns-clause-faithful : goal.returns-clause-faithful
returns-clause-faithful c =
    let i = c.in_ok-bytes.ensures.image in
    record { unit = c.in_ok-unit.unit; core = c.in_ok-unit.ensures.core; within = sym c.in_ok-limits.ensures; image = i.image; spelled = i.spelled; keeps = i.keeps; tells = i.tells }

pub returns-clause-built : goal.returns-clause-built
returns-clause-built c =
    let holds : c.is_built.result ≡ true = search rules in
    record { unit = c.in_ok-unit.unit; core = c.in_ok-unit.ensures.core; within = sym c.in_ok-limits.ensures; built = sym c.is_built.ensures ∙ holds }
