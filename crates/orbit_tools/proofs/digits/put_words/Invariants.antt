use Rattle.std.proofs.Common.{◌≡◌, ◌++◌, length}
use Rattle.orbit_tools.specs.Listing.{words}
use Rattle.orbit_tools.proofs.digits.put_words.Given as goal

-- what stands there and what remains are the whole
abbrev pub invariant-words : goal.invariant-words
invariant-words l = l.out.items ++ words l.rest ≡ l.initial.out.items ++ words l.bytes

abbrev pub decreases-words : goal.decreases-words
decreases-words l = length l.rest
