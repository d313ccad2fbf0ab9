use Rattle.std.proofs.Common.{sym, arith, rules}
use Rattle.orbit_tools.proofs.LineByLine.{lines-next, lines-end}
use Rattle.orbit_tools.proofs.lines.listing.Goals as goal

pub lines-preserved : goal.lines-preserved
lines-preserved c = record {
  whole = lines-next c.lines.out.items c.put_first.new.out.items _ c.lines.at c.in_ok-size.size c.lines.rest.now c.split_at.result.1.now c.lines.invariant.whole c.in_ok-size.ensures.line c.split_at.ensures.back (omega (arith, c.in_ok-size.ensures.some, c.in_ok-size.ensures.within)) (sym c.in_ok-size.ensures.size) (omega (arith, c.in_ok-size.ensures.some));
  place = omega (arith, c.split_at.ensures.back_len, c.lines.invariant.place, c.in_ok-size.ensures.within);
  even = omega (arith, c.split_at.ensures.back_len, c.lines.invariant.even, c.in_ok-size.ensures.even, c.in_ok-size.ensures.within);
}

pub returns : goal.returns
returns c = lines-end c.lines.out.items _ c.lines.at c.lines.rest.now c.lines.invariant.whole (search rules)
