use Rattle.std.proofs.Common.{◌≡◌, refl}
use Rattle.t_rows.specs.Rows.{refusal}
use Rattle.t_rows.specs.declared.refusal.SyntaxKind.TheVariants.{BadForm}
use Rattle.t_expand.proofs.FirstLemmas.{first_one, none_of}
use Rattle.t_expand.proofs.driver_state.Expansion.expand_broken.Goals as goal

pub returns-clause-refused : goal.returns-clause-refused
returns-clause-refused c = first_one c.args.self.now.first c.note.new.self.first _ c.note.ensures.first

pub returns-clause-tallied : goal.returns-clause-tallied
returns-clause-tallied c forms tallied none =
    absurd (none_of (λ r. r ≡ refusal BadForm c.args.span) c.args.self.now.first c.note.new.self.first none
    (first_one c.args.self.now.first c.note.new.self.first _ c.note.ensures.first) (refusal BadForm c.args.span) refl)
