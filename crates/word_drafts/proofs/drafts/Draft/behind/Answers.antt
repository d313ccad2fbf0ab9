use Rattle.std.proofs.Common.{rules, refl}
use Rattle.word_drafts.proofs.drafts.Draft.behind.Goals as goal

pub returns : goal.returns
returns c = record {
  block = record { params = c.from_vec-params.result; ops = c.args.ops; last = c.args.last };
  has = refl;
  last = refl;
  is = search rules;
  blocks = search rules;
  number = refl;
  ops = refl;
  params = refl;
  heads = refl;
  begun = refl;
}
