-- What stays where a frame is pushed.
use Rattle.std.proofs.Common.{◌≡◌, ℕ, zero, suc, ◌+◌, ◌-◌, ◌*◌, ◌/◌, ◌%◌, ◌<◌, ◌≤◌, ◌==◌, ◌||◌, Bool, true, false, if◌then◌else◌, List, [], ◌∷◌, ◌++◌, length, slice_get, Option, Some, None, refl, sym, ap, ◌∙◌, subst, arith, length-append}
use Rattle.std.specs.List.{AllByRecursion, list_any}
use Rattle.std.specs.Option.{option_map_or}
use Rattle.std.proofs.lemmas.Bool.{ne_eqb}
use Rattle.std.proofs.lemmas.Option.{slice_get_within}
use Rattle.word_ir.specs.Word.{Word, Number, Code}
use Rattle.word_ir.specs.Storage.{Sizes, Regions}
use Rattle.word_ir.specs.Stamps.{Stamp}
use Rattle.frame_ir.specs.Values.{Value, Lasting, InFrame, CellAt, Frame, even, frame_words, captured_from}
use Rattle.frame_ir.specs.States.{State, Thing, APair, AVector, AClosure, AnObject, AnEscape, ACell, is_live, with_frame}
use Rattle.frame_words.specs.Layouts.{Layout}
use Rattle.frame_words.specs.Contents.{Escapes}
use Rattle.frame_words.specs.Holding.{IsMade, HoldsData}
use Rattle.select_rows.proofs.Keeping.{get_some}
use Rattle.frame_words.proofs.Segments.{get_left}
use Rattle.frame_stacks.specs.Stacks.{Stack, Ways, words_of_frames, frames_place, stack_address, live_from, frame_at, born_first, StandsFor, IsStored, pushed_at, IsRaised}
use Rattle.frame_stacks.specs.Frames.{HoldsSlot, HoldsFrame, HoldsAll, HoldsFrames}

-- ---- data

made_more : (l : Layout) (s : State) (f : Frame) (x : Thing) → IsMade l s x → IsMade l (with_frame s f) x
made_more l s f (APair k) h = h
made_more l s f (AVector k) h = h
made_more l s f (AClosure i) h = h
made_more l s f (AnObject i) h = h
made_more l s f (AnEscape b) h = let n : length (s.frames ++ f ∷ []) ≡ length s.frames + 1 = length-append s.frames (f ∷ []) in omega (arith, n, h)
made_more l s f (ACell k) h = h

all_made_more : (l : Layout) (s : State) (f : Frame) (xs : List Thing) → AllByRecursion (IsMade l s) xs → AllByRecursion (IsMade l (with_frame s f)) xs
all_made_more l s f [] h = tt
all_made_more l s f (x ∷ xs) h = (made_more l s f x h.0, all_made_more l s f xs h.1)

pub data_of_more : (sizes : Sizes) (l : Layout) (e : Escapes) (s : State) (f : Frame) (storage : Regions Word) (next : ℕ) (output : List ℕ) → HoldsData sizes l e s storage next output → HoldsData sizes l e (with_frame s f) storage next output
data_of_more sizes l e s f storage next output h = record {
  heap = h.heap;
  taken = h.taken;
  next_is = h.next_is;
  room = h.room;
  small = h.small;
  distinct = h.distinct;
  made = all_made_more l s f s.made h.made;
  pairs_apart = h.pairs_apart;
  laid_out = h.laid_out;
  front = h.front;
  front_length = h.front_length;
  statics = h.statics;
  fixed = h.fixed;
  globals = h.globals;
  globals_known = h.globals_known;
  output_is = h.output_is;
}

-- ---- frames that were there

pub get_more : (frames : List Frame) (f : Frame) (b : ℕ) → b < length frames → slice_get (frames ++ f ∷ []) b ≡ slice_get frames b
get_more frames f b lt = let o = get_some frames b lt in get_left frames (f ∷ []) b o.0 o.1 ∙ sym o.1

pub words_more : (frames : List Frame) (f : Frame) (births : List ℕ) → AllByRecursion (λ b. b < length frames) births → words_of_frames (frames ++ f ∷ []) births ≡ words_of_frames frames births
words_more frames f [] h = refl
words_more frames f (b ∷ births) h = rw (get_more frames f b h.0, words_more frames f births h.1) refl

from_below_by : (n b x : ℕ) (births : List ℕ) (q : Bool) → AllByRecursion (λ y. y < n) (x ∷ births) → AllByRecursion (λ y. y < n) (live_from b births) → AllByRecursion (λ y. y < n) (if q then x ∷ births else live_from b births)
from_below_by n b x births true h rest = h
from_below_by n b x births false h rest = rest

from_below : (n b : ℕ) (births : List ℕ) → AllByRecursion (λ y. y < n) births → AllByRecursion (λ y. y < n) (live_from b births)
from_below n b [] h = tt
from_below n b (x ∷ births) h = from_below_by n b x births (x == b) h (from_below n b births h.1)

stored_raised : {k raised : Stack} {count step place : ℕ} {x : Word} {stamp : Stamp} → IsRaised k raised count → IsStored k step place x stamp → IsStored raised step place x stamp
stored_raised {k} {raised} {count} {step} {place} {x} {stamp} r h =
    let n : (stack_address place - raised.top) / 4 ≡ count + (stack_address place - k.top) / 4 = omega (arith, r.top, h.pushed) in
    record {
      reads = r.reads place h.pushed ∙ h.reads;
      stamped = r.stamps place h.pushed ∙ h.stamped;
      pushed = omega (arith, r.top, h.pushed);
      marked = ap (slice_get raised.live) n ∙ (r.marks ((stack_address place - k.top) / 4) ∙ h.marked);
    }

module _ (sizes : Sizes) (l : Layout) (g : Ways) (s : State) (f : Frame) (k raised : Stack) (step : ℕ) (below : AllByRecursion (λ b. b < length s.frames) s.live) (r : IsRaised k raised (frame_words f)) where
  abbrev more : State
  more = with_frame s f

  abbrev ways : Ways
  ways = pushed_at g (length s.frames) step

  pub born_stays : (b : ℕ) → b < length s.frames → ways.born b ≡ g.born b
  born_stays b lt = rw (ne_eqb b (length s.frames) (λ eq. absurd (omega (arith, lt, eq)))) refl

  pub first_stays : (births : List ℕ) → AllByRecursion (λ b. b < length s.frames) births → born_first ways births ≡ born_first g births
  first_stays [] h = refl
  first_stays (b ∷ births) h = born_stays b h.0

  pub place_stays : (births : List ℕ) → AllByRecursion (λ b. b < length s.frames) births → frames_place sizes more.frames births ≡ frames_place sizes s.frames births
  place_stays births h = ap (λ n. sizes.stack / 4 - n) (words_more s.frames f births h)

  pub was_live : (b : ℕ) → b < length s.frames → is_live more b ≡ true → is_live s b ≡ true
  was_live b lt h = let other : (length s.frames == b) ≡ false = ne_eqb (length s.frames) b (λ eq. absurd (omega (arith, lt, eq))) in subst (λ q. (q || is_live s b) ≡ true) other h

  pub address_stays : (b : ℕ) → b < length s.frames → frame_at sizes s b ≡ frame_at sizes more b
  address_stays b lt =
      let other : (length s.frames == b) ≡ false = ne_eqb (length s.frames) b (λ eq. absurd (omega (arith, lt, eq))) in
      let from : live_from b (length s.frames ∷ s.live) ≡ live_from b s.live = rw other refl in
      ap stack_address (sym (place_stays (live_from b s.live) (from_below (length s.frames) b s.live below)) ∙ ap (frames_place sizes more.frames) (sym from))

  pub stands_more : (v : Value) (x : Word) (stamp : Stamp) → StandsFor sizes l g s v x stamp → StandsFor sizes l ways more v x stamp
  stands_more (Lasting v) x stamp h = record { number = h.number; known = h.known; is = h.is }
  stands_more (CellAt n) x stamp h = record { number = h.number; known = h.known; is = h.is }
  stands_more (InFrame b slot) x stamp h = record {
    number = h.number;
    is = h.is;
    tag = h.tag;
    pushed = let n : length (s.frames ++ f ∷ []) ≡ length s.frames + 1 = length-append s.frames (f ∷ []) in omega (arith, n, h.pushed);
    address = λ there. h.address (was_live b h.pushed there) ∙ ap (λ a. a + 8 + 4 * even slot + 2) (address_stays b h.pushed);
    stamped = λ there. h.stamped (was_live b h.pushed there) ∙ ap Some (sym (born_stays b h.pushed));
  }

  word_raised : {place : ℕ} {x : Word} {stamp : Stamp} (b : ℕ) → b < length s.frames → IsStored k (g.born b) place x stamp → IsStored raised (ways.born b) place x stamp
  word_raised {place} {x} {stamp} b lt h = subst (λ n. IsStored raised n place x stamp) (sym (born_stays b lt)) (stored_raised r h)

  slot_raised : (b place : ℕ) (x : Frame) (slot : ℕ) (v : Value) → b < length s.frames → HoldsSlot sizes l g s k b place x slot v → HoldsSlot sizes l ways more raised b place x slot v
  slot_raised b place x slot v lt h = record { within = h.within; word = h.word; stamp = h.stamp; stored = word_raised b lt h.stored; stands = stands_more v h.word h.stamp h.stands }

  frame_raised : (b : ℕ) (births : List ℕ) (place : ℕ) (x : Frame) → b < length s.frames → AllByRecursion (λ y. y < length s.frames) births → HoldsFrame sizes l g s k b births place x → HoldsFrame sizes l ways more raised b births place x
  frame_raised b births place x lt older h = record {
    back = word_raised b lt h.back;
    next = subst (λ n. IsStored raised (ways.born b) (place + 1) (Number (stack_address n)) (Some (born_first ways births))) (sym (place_stays births older))
        (subst (λ n. IsStored raised (ways.born b) (place + 1) (Number (stack_address (frames_place sizes s.frames births))) (Some n)) (sym (first_stays births older)) (word_raised b lt h.next));
    slots = λ slot v found. slot_raised b place x slot v lt (h.slots slot v found);
    headers = λ slot c found. word_raised b lt (h.headers slot c found);
    codes = λ slot c found. word_raised b lt (h.codes slot c found);
    captured = λ slot i c v found there. slot_raised b place x (captured_from slot + i) v lt (h.captured slot i c v found there);
    marks = λ i inside.
        let m = h.marks i inside in
        let n : (stack_address (place + i) - raised.top) / 4 ≡ frame_words f + (stack_address (place + i) - k.top) / 4 = omega (arith, r.top, h.back.pushed) in
        (m.0, ap (slice_get raised.live) n ∙ (r.marks ((stack_address (place + i) - k.top) / 4) ∙ (m.1 ∙ ap (λ z. Some (record { birth = z; written = m.0 })) (sym (born_stays b lt)))));
    catches = h.catches;
  }

  frames_raised : (births : List ℕ) → AllByRecursion (λ y. y < length s.frames) births → HoldsAll sizes l g s k births → HoldsAll sizes l ways more raised births
  frames_raised [] lt h = tt
  frames_raised (b ∷ births) lt h = (
    h.0,
    get_more s.frames f b lt.0 ∙ h.1,
    h.2,
    subst (λ place. HoldsFrame sizes l ways more raised b births place h.0) (sym (place_stays (b ∷ births) lt)) (frame_raised b births (frames_place sizes s.frames (b ∷ births)) h.0 lt.0 lt.1 h.3),
    frames_raised births lt.1 h.4,
  )

pub live_below : (sizes : Sizes) (l : Layout) (g : Ways) (s : State) (k : Stack) (births : List ℕ) → HoldsAll sizes l g s k births → AllByRecursion (λ b. b < length s.frames) births
live_below sizes l g s k [] h = tt
live_below sizes l g s k (b ∷ births) h = (slice_get_within s.frames b h.0 h.1, live_below sizes l g s k births h.4)

pub all_raised : (sizes : Sizes) (l : Layout) (g : Ways) (s : State) (f : Frame) (k raised : Stack) (step : ℕ) → HoldsFrames sizes l g s k → IsRaised k raised (frame_words f) → HoldsAll sizes l (pushed_at g (length s.frames) step) (with_frame s f) raised s.live
all_raised sizes l g s f k raised step h r =
    let below : AllByRecursion (λ b. b < length s.frames) s.live = live_below sizes l g s k s.live h.frames in
    frames_raised sizes l g s f k raised step below r s.live below h.frames
