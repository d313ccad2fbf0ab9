use Rattle.std.proofs.Common.{Option, Some, refl, sym, ap, ◌∙◌, subst}
use Rattle.orbit_cli.specs.declared.words.Command.{Command}
use Rattle.orbit_cli.specs.Words.{Command as Asked}
use Rattle.orbit_cli.specs.Words.{names_fetched}
use Rattle.orbit_cli.specs.Command.{view_of}
use Rattle.orbit_cli.specs.Changes.{change, AsksFor}
use Rattle.orbit_cli.specs.Outcome.{CommandOutcome}
use Rattle.orbit_cli.specs.declared.status.Status.TheVariants as status
use Rattle.orbit_cli.proofs.Served.{if_served, served_and, other_serves}
use Rattle.orbit_cli.proofs.top.orbit.Goals as goal

pub returns-in-Some-Compile : goal.returns-in-Some-Compile
returns-in-Some-Compile g c = record {
  comes =
      subst (λ (command : Option Asked). CommandOutcome g.F.Folder g.S.Sink g.E.Sink (change c.args.folder.now c.compile_text.new.folder) (change c.args.out.now c.args.out.now) (change c.args.err.now c.compile_text.new.err) command c.compile_text.result)
      (ap (λ (held : Command). Some (view_of held)) (sym c.in-Some-Compile.field-0-is) ∙ c.in-Some-Compile.ensures.value) (refl, c.compile_text.ensures.outcome);
  served = served_and c.compile_text.result _ _ c.compile_text.ensures.served (if_served c.compile_text.result _ refl);
  asked =
      subst (λ (command : Option Asked). AsksFor g.F.Folder (change c.args.folder.now c.compile_text.new.folder) (names_fetched command))
      (ap (λ (held : Command). Some (view_of held)) (sym c.in-Some-Compile.field-0-is) ∙ c.in-Some-Compile.ensures.value) c.compile_text.ensures.asks;
}

pub returns-in-Some-Run : goal.returns-in-Some-Run
returns-in-Some-Run g c = record {
  comes =
      subst (λ (command : Option Asked). CommandOutcome g.F.Folder g.S.Sink g.E.Sink (change c.args.folder.now c.run_image.new.folder) (change c.args.out.now c.run_image.new.out) (change c.args.err.now c.run_image.new.err) command c.run_image.result)
      (ap (λ (held : Command). Some (view_of held)) (sym c.in-Some-Run.field-0-is) ∙ c.in-Some-Run.ensures.value) c.run_image.ensures.outcome;
  served = served_and c.run_image.result _ _ c.run_image.ensures.served c.run_image.ensures.taken;
  asked =
      subst (λ (command : Option Asked). AsksFor g.F.Folder (change c.args.folder.now c.run_image.new.folder) (names_fetched command))
      (ap (λ (held : Command). Some (view_of held)) (sym c.in-Some-Run.field-0-is) ∙ c.in-Some-Run.ensures.value) c.run_image.ensures.asks;
}

pub returns-in-Some-Go : goal.returns-in-Some-Go
returns-in-Some-Go g c = record {
  comes =
      subst (λ (command : Option Asked). CommandOutcome g.F.Folder g.S.Sink g.E.Sink (change c.args.folder.now c.compile_and_run.new.folder) (change c.args.out.now c.compile_and_run.new.out) (change c.args.err.now c.compile_and_run.new.err) command c.compile_and_run.result)
      (ap (λ (held : Command). Some (view_of held)) (sym c.in-Some-Go.field-0-is) ∙ c.in-Some-Go.ensures.value) c.compile_and_run.ensures.outcome;
  served = served_and c.compile_and_run.result _ _ c.compile_and_run.ensures.served c.compile_and_run.ensures.taken;
  asked =
      subst (λ (command : Option Asked). AsksFor g.F.Folder (change c.args.folder.now c.compile_and_run.new.folder) (names_fetched command))
      (ap (λ (held : Command). Some (view_of held)) (sym c.in-Some-Go.field-0-is) ∙ c.in-Some-Go.ensures.value) c.compile_and_run.ensures.asks;
}

pub returns-in-Some-Check : goal.returns-in-Some-Check
returns-in-Some-Check g c = record {
  comes =
      subst (λ (command : Option Asked). CommandOutcome g.F.Folder g.S.Sink g.E.Sink (change c.args.folder.now c.check.new.folder) (change c.args.out.now c.check.new.out) (change c.args.err.now c.check.new.err) command c.check.result)
      (ap (λ (held : Command). Some (view_of held)) (sym c.in-Some-Check.field-0-is) ∙ c.in-Some-Check.ensures.value) c.check.ensures.outcome;
  served = served_and c.check.result _ _ c.check.ensures.served c.check.ensures.taken;
  asked =
      subst (λ (command : Option Asked). AsksFor g.F.Folder (change c.args.folder.now c.check.new.folder) (names_fetched command))
      (ap (λ (held : Command). Some (view_of held)) (sym c.in-Some-Check.field-0-is) ∙ c.in-Some-Check.ensures.value) c.check.ensures.asks;
}

pub returns-in-Some-List : goal.returns-in-Some-List
returns-in-Some-List g c = record {
  comes =
      subst (λ (command : Option Asked). CommandOutcome g.F.Folder g.S.Sink g.E.Sink (change c.args.folder.now c.list_image.new.folder) (change c.args.out.now c.list_image.new.out) (change c.args.err.now c.list_image.new.err) command c.list_image.result)
      (ap (λ (held : Command). Some (view_of held)) (sym c.in-Some-List.field-0-is) ∙ c.in-Some-List.ensures.value) c.list_image.ensures.outcome;
  served = served_and c.list_image.result _ _ c.list_image.ensures.served c.list_image.ensures.taken;
  asked =
      subst (λ (command : Option Asked). AsksFor g.F.Folder (change c.args.folder.now c.list_image.new.folder) (names_fetched command))
      (ap (λ (held : Command). Some (view_of held)) (sym c.in-Some-List.field-0-is) ∙ c.in-Some-List.ensures.value) c.list_image.ensures.asks;
}

pub returns-in-None : goal.returns-in-None
returns-in-None g c = record {
  comes =
      subst (λ (command : Option Asked). CommandOutcome g.F.Folder g.S.Sink g.E.Sink (change c.args.folder.now c.args.folder.now) (change c.args.out.now c.args.out.now) (change c.args.err.now c.misused.new.err) command c.misused.result)
      c.in-None.ensures.value (record { usage = c.misused.ensures.status; idle = refl; untouched = refl; noted = c.misused.ensures.noted });
  served = other_serves _ status.Usage _ c.misused.ensures.status tt;
  asked =
      subst (λ (command : Option Asked). AsksFor g.F.Folder (change c.args.folder.now c.args.folder.now) (names_fetched command))
      c.in-None.ensures.value (g.met.F.Folder.fetched_nothing c.args.folder.now);
}
