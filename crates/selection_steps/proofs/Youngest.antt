-- The youngest frame, where the step that looks at it isn't wrong.
use Rattle.std.proofs.Common.{◌≡◌, ℕ, Bool, true, false, if◌then◌else◌, List, [], ◌∷◌, Some, slice_get, refl}
use Rattle.frame_ir.specs.Values.{Frame}
use Rattle.frame_ir.specs.States.{State, wrong, or_wrong, youngest, older_than_youngest, in_pushed, in_catch}
use Rattle.selection_steps.specs.Settings.{IsSound}
use Rattle.selection_steps.proofs.Leading.{lookup}

first_of : (live : List ℕ) (birth : ℕ) → youngest live ≡ Some birth → live ≡ birth ∷ older_than_youngest live
first_of [] birth is = absurd (cc)
first_of (b ∷ older) birth is = cc

plain : (P : State → Type 0) (b : Bool) (s u : State) → IsSound (if b then wrong s else u) → (b ≡ false → IsSound u → P u) → P (if b then wrong s else u)
plain P true s u sound h = absurd (cc)
plain P false s u sound h = h refl sound

pub with_pushed : (P : State → Type 0) (s : State) (go : ℕ → Frame → State) → IsSound (in_pushed s go)
    → ((birth : ℕ) (f : Frame) → s.live ≡ birth ∷ older_than_youngest s.live → slice_get s.frames birth ≡ Some f → f.catch ≡ false → IsSound (go birth f) → P (go birth f)) → P (in_pushed s go)
with_pushed P s go sound h =
    lookup P (youngest s.live) s (λ birth. or_wrong (slice_get s.frames birth) s (λ f. if f.catch then wrong s else go birth f)) sound
    (λ birth first sound2. lookup P (slice_get s.frames birth) s (λ f. if f.catch then wrong s else go birth f) sound2
    (λ f found sound3. plain P f.catch s (go birth f) sound3 (λ is sound4. h birth f (first_of s.live birth first) found is sound4)))

caught_by : (P : State → Type 0) (b : Bool) (s u : State) → IsSound (if b then u else wrong s) → (b ≡ true → IsSound u → P u) → P (if b then u else wrong s)
caught_by P true s u sound h = h refl sound
caught_by P false s u sound h = absurd (cc)

-- the same of a CATCH's frame
pub with_catch_frame : (P : State → Type 0) (s : State) (go : ℕ → Frame → State) → IsSound (in_catch s go)
    → ((birth : ℕ) (f : Frame) → s.live ≡ birth ∷ older_than_youngest s.live → slice_get s.frames birth ≡ Some f → f.catch ≡ true → IsSound (go birth f) → P (go birth f)) → P (in_catch s go)
with_catch_frame P s go sound h =
    lookup P (youngest s.live) s (λ birth. or_wrong (slice_get s.frames birth) s (λ f. if f.catch then go birth f else wrong s)) sound
    (λ birth first sound2. lookup P (slice_get s.frames birth) s (λ f. if f.catch then go birth f else wrong s) sound2
    (λ f found sound3. caught_by P f.catch s (go birth f) sound3 (λ is sound4. h birth f (first_of s.live birth first) found is sound4)))
