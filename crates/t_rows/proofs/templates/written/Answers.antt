use Rattle.std.proofs.Common.{◌≡◌, ◌+◌, ◌-◌, ◌<◌, arith, [], length, drop}
use Rattle.std.proofs.Math.Seq.{drop-length}
use Rattle.t_rows.specs.declared.templates.Piece.TheVariants as piece
use Rattle.t_rows.specs.Templates.{lists_from}
use Rattle.t_rows.proofs.Growth.{extends_trans, all_held_grow, all_lists_grow, items_grow}
use Rattle.t_rows.proofs.TemplateLemmas.{lists_at}
use Rattle.t_rows.proofs.templates.written.Goals as goal

pub pieces-init : goal.pieces-init
pieces-init c = record {
  within = omega arith;
  grown = c.in_ok-nil.ensures.grown;
  nil = c.in_ok-nil.ensures.made;
  lists = λ names ds dss h r. rw (drop-length c.args.template.now, c.new.ensures.items) (c.in_ok-nil.ensures.made names, tt);
}

pub pieces-preserved : goal.pieces-preserved
pieces-preserved c =
    let below : c.pieces.at - 1 < length c.args.template.now = omega arith in
    let at : c.pieces.at ≡ c.pieces.at - 1 + 1 = omega arith in
    record {
      within = omega arith;
      grown = extends_trans c.pieces.invariant.grown c.in_ok-place.ensures.grown;
      nil = λ names. items_grow c.in_ok-place.ensures.grown names _ [] (c.pieces.invariant.nil names);
      lists = λ names ds dss h r.
          rw (lists_at c.args.span ds dss c.args.template.now (c.pieces.at - 1) c.pieces.at piece.Open below at)
          (c.in_ok-place.ensures.put names ds dss (lists_from c.args.span ds dss (drop c.pieces.at c.args.template.now))
          (all_held_grow c.pieces.invariant.grown names c.args.given.now ds h) (all_lists_grow c.pieces.invariant.grown names c.args.rests.now dss r)
          (c.pieces.invariant.nil names) (c.pieces.invariant.lists names ds dss h r));
    }
