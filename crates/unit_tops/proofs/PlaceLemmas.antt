-- What stands at a place of a list.
use Rattle.std.proofs.Common.{◌≡◌, ◌≢◌, ℕ, ◌<◌, List, length, Some, slice_get, slice_set, ap, ◌∙◌}
use Rattle.std.proofs.lemmas.List.{get_or-set_other, get_or-set_same, length-set}
use Rattle.std.proofs.lemmas.Option.{slice_get_within, slice_get-get_or, get_or_from_slice_get}

pub got_same : {A : Type 0} (xs : List A) (i : ℕ) (x was : A) → slice_get xs i ≡ Some was → slice_get (slice_set xs i x) i ≡ Some x
got_same xs i x was h =
    let below : i < length xs = slice_get_within xs i was h in
    let within : i < length (slice_set xs i x) = rw (length-set xs i x) below in
    slice_get-get_or (slice_set xs i x) i x within ∙ ap Some (get_or-set_same xs i x x below)

pub got_other : {A : Type 0} (xs : List A) (i j : ℕ) (x y : A) → j ≢ i → slice_get xs j ≡ Some y → slice_get (slice_set xs i x) j ≡ Some y
got_other xs i j x y ne h =
    let below : j < length xs = slice_get_within xs j y h in
    let within : j < length (slice_set xs i x) = rw (length-set xs i x) below in
    slice_get-get_or (slice_set xs i x) j y within ∙ ap Some (get_or-set_other xs i j x y ne ∙ get_or_from_slice_get xs j y y h)
