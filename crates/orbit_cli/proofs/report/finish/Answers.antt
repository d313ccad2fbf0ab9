use Rattle.std.proofs.Common.{None, Some, refl, ap, inr, ◌∙◌}
use Rattle.machine_services.specs.declared.exit.Exit.TheVariants.{Stop}
use Rattle.word_faces.specs.Faces.{shown_of}
use Rattle.orbit_monitor.specs.Answering.{Loaded}
use Rattle.orbit_cli.specs.declared.status.Status.TheVariants as status
use Rattle.orbit_cli.specs.Lines.{shown_text, value_line}
use Rattle.orbit_cli.specs.Changes.{change}
use Rattle.orbit_cli.proofs.Reports.{service_cut_off, ended_so, halted}
use Rattle.orbit_cli.proofs.Served.{served_map, other_serves}
use Rattle.orbit_cli.proofs.report.finish.Goals as goal

pub returns-in-Sink-clause-reports : goal.returns-in-Sink-clause-reports
returns-in-Sink-clause-reports g c =
    inr (
      record {
        cut = record {
          failed = c.in-Sink.ensures.cause;
          front = service_cut_off g.S.Sink.took c.args.boot.now _ c.args.steps _ _ c.in-Sink.ensures.sink;
        };
        noted = c.unwritten.ensures.noted;
      },
      c.unwritten.ensures.status,
    )

pub returns-in-Done-clause-reports : goal.returns-in-Done-clause-reports
returns-in-Done-clause-reports g c =
    halted g.S.Sink g.E.Sink g.met.S.Sink.took_both c.args.out.now c.run.new.out c.halt.new.out c.args.boot.now c.args.steps c.in-Done.face _ _ c.halt.result
    c.in-Done.ensures.end
    (ap (λ (l : Loaded). value_line l.last (shown_text (shown_of l.names c.in-Done.face))) c.in-Done.ensures.loaded)
    c.in-Done.ensures.took
    c.run.ensures.later
    c.halt.ensures.reports

pub returns-in-Steps-clause-reports : goal.returns-in-Steps-clause-reports
returns-in-Steps-clause-reports g c =
    ended_so g.S.Sink g.E.Sink c.args.boot.now c.args.steps None _ (change c.args.err.now c.put_limit.new.sink) status.StepLimit c.put_limit.result
    c.in-Steps.ensures.end refl refl (λ e. cc) c.in-Steps.ensures.took c.put_limit.ensures

pub returns-in-Stop-clause-reports : goal.returns-in-Stop-clause-reports
returns-in-Stop-clause-reports g c =
    ended_so g.S.Sink g.E.Sink c.args.boot.now c.args.steps (Some (Stop c.in-Stop.why c.in-Stop.at)) _ (change c.args.err.now c.put_stop.new.sink) status.MachineStop c.put_stop.result
    c.in-Stop.ensures.end refl refl (λ e. cc) c.in-Stop.ensures.took c.put_stop.ensures

pub returns-in-Sink-clause-taken : goal.returns-in-Sink-clause-taken
returns-in-Sink-clause-taken g c = other_serves _ status.WriteFault _ c.unwritten.ensures.status tt

pub returns-in-Done-clause-taken : goal.returns-in-Done-clause-taken
returns-in-Done-clause-taken g c = served_map c.halt.result _ _ (λ taken. taken ∙ c.in-Done.ensures.stands) c.halt.ensures.taken
