-- Lists of the code that hold what they are to hold, where that is few enough.
use Rattle.std.proofs.Common.{◌<◌, ◌^◌, List, length, refl}
use Rattle.std.specs.Global.{Vec, Global}
use Rattle.std.proofs.Math.Nat.{le_refl}
use denote.RawPtr.{null_ptr}

-- a list of the code has fewer items than that
abbrev pub IsShort : {X : Type 0} → List X → Type 0
IsShort xs = length xs < 2 ^ 63

-- the list of the code with these items
abbrev pub vec_of : {X : Type 0} → Global → (xs : List X) → IsShort xs → Vec X
vec_of alloc xs short = record { ptr = null_ptr; len = length xs; cap = length xs; alloc = alloc; items = xs; ok = (refl, le_refl (length xs)); small = short }
