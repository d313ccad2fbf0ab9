use Rattle.std.proofs.Common.{◌∙◌}
use Rattle.core_frames.proofs.NodeLemmas.{block_of}
use Rattle.core_frames.proofs.build.block_keys.Goals as goal

pub returns : goal.returns
returns c =
    block_of _ c.in_ok-keys.keys.items c.args.last.at c.args.tail _ _ (c.from_vec.ensures ∙ c.in_ok-push.ensures.items) c.in_ok-keys.ensures (c.is_plain.ensures c.if-not-is_plain.false)
