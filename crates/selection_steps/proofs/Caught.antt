-- Live CATCHes are counted.
use Rattle.std.proofs.Common.{◌≡◌, ℕ, ◌+◌, ◌<◌, Bool, false, if◌then◌else◌, List, [], ◌∷◌, ◌++◌, length, Option, Some, slice_get, refl, ap, ◌∙◌}
use Rattle.std.specs.List.{AllByRecursion}
use Rattle.std.specs.Option.{option_map_or}
use Rattle.frame_ir.specs.Values.{Frame}
use Rattle.frame_stacks.proofs.Raising.{get_more}
use Rattle.selection_steps.specs.Led.{caught}

abbrev pub one_if : Bool → ℕ
one_if b = if b then 1 else 0

abbrev is_catch_in : Option Frame → ℕ
is_catch_in o = one_if (option_map_or (λ f. f.catch) o false)

-- the youngest frame and the others
pub caught_first : (frames : List Frame) (live : List ℕ) (birth : ℕ) (older : List ℕ) (f : Frame) → live ≡ birth ∷ older → slice_get frames birth ≡ Some f → caught frames live ≡ one_if f.catch + caught frames older
caught_first frames live birth older f is found = ap (caught frames) is ∙ ap (λ o. is_catch_in o + caught frames older) found

pub caught_more : (frames : List Frame) (f : Frame) (births : List ℕ) → AllByRecursion (λ b. b < length frames) births → caught (frames ++ f ∷ []) births ≡ caught frames births
caught_more frames f [] all = refl
caught_more frames f (b ∷ births) all = ap (λ o. is_catch_in o + caught (frames ++ f ∷ []) births) (get_more frames f b all.0) ∙ ap (λ n. is_catch_in (slice_get frames b) + n) (caught_more frames f births all.1)

last_frame : (frames : List Frame) (f : Frame) → slice_get (frames ++ f ∷ []) (length frames) ≡ Some f
last_frame [] f = refl
last_frame (g ∷ frames) f = last_frame frames f

-- with a frame more
pub caught_pushed : (frames : List Frame) (f : Frame) (births : List ℕ) → AllByRecursion (λ b. b < length frames) births → caught (frames ++ f ∷ []) (length frames ∷ births) ≡ one_if f.catch + caught frames births
caught_pushed frames f births all = ap (λ o. is_catch_in o + caught (frames ++ f ∷ []) births) (last_frame frames f) ∙ ap (λ n. one_if f.catch + n) (caught_more frames f births all)
