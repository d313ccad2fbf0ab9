use Rattle.std.proofs.Common.{refl}
use Rattle.form_rows.proofs.definitions.define_headed.Goals as goal

pub returns-in-None-clause-definition : goal.returns-in-None-clause-definition
returns-in-None-clause-definition c names fs bs h r = rw (c.in-None.ensures names fs h) refl

pub returns-in-None-split-clause-definition : goal.returns-in-None-split-clause-definition
returns-in-None-split-clause-definition c names fs bs h r =
    let f = c.in-Some.ensures names fs h in
    rw (f.2, c.in-None-split.ensures names bs r) refl

pub returns-in-Some-split-clause-definition : goal.returns-in-Some-split-clause-definition
returns-in-Some-split-clause-definition c names fs bs h r =
    let f = c.in-Some.ensures names fs h in
    let b = c.in-Some-split.ensures names bs r in
    rw (f.2, b.2) (c.define_procedure.ensures.definition names f.0 f.1 b.0 b.1 f.3 f.4 (rw b.2 at r))
