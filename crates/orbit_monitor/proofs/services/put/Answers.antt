use Rattle.std.proofs.Common.{ℕ, sym, ap, refl, ◌∙◌, Option, Result, Ok, Err, take, drop}
use Rattle.std.specs.Prelude.{OnErr}
use Rattle.std.proofs.lemmas.List.{take-append-drop}
use Rattle.orbit_monitor.specs.declared.services.Outcome.{Outcome}
use Rattle.orbit_monitor.specs.declared.services.Outcome.TheVariants as outcome
use Rattle.orbit_monitor.specs.Turn.{FailsIn}
use Rattle.machine_services.specs.Services.{Puts}
use Rattle.orbit_monitor.proofs.Turns.{last_after-none}
use Rattle.orbit_monitor.proofs.services.put.Goals as goal

on_err : {T E : Type 0} (r : Result T E) (P : Type 0) → P → OnErr r P
on_err (Ok x) P p = tt
on_err (Err e) P p = p

pub returns-in_err-put-clause-part : goal.returns-in_err-put-clause-part
returns-in_err-put-clause-part g c =
    let bytes = c.args.bytes.now in
    let taken = c.in_err-put.field-0.0.taken in
    let fails : FailsIn g.S.Sink.took (Puts bytes) c.args.out.now c.put.new.self = record {
      bytes = bytes;
      is = refl;
      front = take taken bytes;
      rest = drop taken bytes;
      due = sym (take-append-drop taken bytes);
      given = c.in_err-put.ensures.err.1;
    } in
    on_err c.from_residual.result (FailsIn g.S.Sink.took (Puts bytes) c.args.out.now c.put.new.self) fails

pub returns-clause-outcome : goal.returns-clause-outcome
returns-clause-outcome g c =
    ap (λ (last : Option ℕ). let x : Outcome = outcome.Put last in x) (c.copied.ensures ∙ c.last.ensures.value ∙ sym (last_after-none c.args.bytes.now))
