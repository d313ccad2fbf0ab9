use Rattle.std.proofs.Common.{refl}
use Rattle.t_reader.specs.Grammar.{nil}
use Rattle.t_forms.specs.Data.{given}
use Rattle.t_rows.specs.Templates.{atom_of}
use Rattle.t_rows.proofs.TemplateLemmas.{given_held, given_none, item_atom}
use Rattle.t_rows.proofs.templates.item_of.Goals as goal

pub returns-in-Some-clause-made : goal.returns-in-Some-clause-made
returns-in-Some-clause-made c names ds h =
    rw c.in-Given.is (given_held names c.args.forms.now c.args.span c.args.given.now ds c.in-Given.at c.in-Some.key h c.in-Some.ensures)

pub returns-in_ok-nil-in-None-clause-made : goal.returns-in_ok-nil-in-None-clause-made
returns-in_ok-nil-in-None-clause-made c names ds h =
    rw (c.in-Given.is, given_none names c.args.forms.now c.args.span c.args.given.now ds c.in-Given.at h c.in-None.ensures)
    (c.in_ok-nil-in-None.ensures.made names (given nil) refl)

pub returns-in_ok-key-in_default-clause-made : goal.returns-in_ok-key-in_default-clause-made
returns-in_ok-key-in_default-clause-made c names ds h =
    rw (item_atom c.args.span ds c.args.piece c.in_default.not-Given) (c.in_ok-key-in_default.ensures.made names (atom_of c.args.piece) (c.atom_of.ensures names))
