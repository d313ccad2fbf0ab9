use Rattle.std.proofs.Common.{rules, ◌≡◌, length, refl}
use Rattle.word_drafts.proofs.drafts.Draft.split.Goals as goal

pub returns : goal.returns
returns c =
    let number : c.in-Ok.next ≡ length c.args.self.now.blocks.items = search rules in
    record {
      block = record { params = c.replace-params.result; ops = c.replace-ops.result; last = c.args.last };
      empty = c.empty_block.result;
      ops = search rules;
      params = search rules;
      last = refl;
      blocks = search rules;
      number = number;
      none = search rules;
      heads = refl;
      begun = refl;
    }
