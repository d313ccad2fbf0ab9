use Rattle.std.proofs.Common.{◌≡◌, ◌+◌, ◌%◌, ◌++◌, length}
use Rattle.orbit_tools.specs.Listing.{lines, listing_of}
use Rattle.orbit_tools.proofs.lines.listing.Given as goal

-- what stands there and the lines of what remains are the whole
abbrev pub invariant-lines : goal.invariant-lines
invariant-lines l = record {
  whole : l.out.items ++ lines l.at 0 l.rest ≡ listing_of l.image.code.items;
  place : l.at + length l.rest ≡ 65536 + length l.image.code.items;
  even : length l.rest % 2 ≡ 0;
}

abbrev pub decreases-lines : goal.decreases-lines
decreases-lines l = length l.rest
