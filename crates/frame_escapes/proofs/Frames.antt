-- Frames of a Push or a CATCH are popped, one by one.
use Rattle.std.proofs.Common.{◌≡◌, ℕ, zero, suc, ◌+◌, ◌-◌, ◌/◌, ◌<◌, ◌≤◌, ◌==◌, ◌||◌, Bool, true, false, List, [], ◌∷◌, length, drop, refl, ap, ◌∙◌, subst, arith}
use Rattle.std.specs.List.{AllByRecursion, list_any}
use Rattle.std.proofs.lemmas.Bool.{ne_eqb, eqb-true}
use Rattle.std.proofs.lemmas.List.{length-drop}
use Rattle.word_ir.specs.Storage.{Sizes}
use Rattle.frame_ir.specs.States.{State, is_live, older_than, with_live}
use Rattle.frame_words.specs.Layouts.{Layout}
use Rattle.frame_stacks.specs.Stacks.{Stack, Ways, words_of_frames, frames_place, stack_address, live_from}
use Rattle.frame_stacks.specs.Frames.{HoldsAll, HoldsFrames}
use Rattle.frame_stacks.proofs.Pops.{above, all_popped}

-- ---- among some births

abbrev pub among : ℕ → List ℕ → Bool
among b births = list_any (λ x. x == b) births

pub among_more : (x b : ℕ) (births : List ℕ) → among b births ≡ true → among b (x ∷ births) ≡ true
among_more x b births h = by_test (x == b) (among b births) h
  where
    by_test : (p q : Bool) → q ≡ true → (p || q) ≡ true
    by_test true q h = refl
    by_test false q h = h

lower_by : (x b birth : ℕ) (xs : List ℕ) (q : Bool) → (x == b) ≡ q → x < birth → (among b xs ≡ true → b < birth) → (q || among b xs) ≡ true → b < birth
lower_by x b birth xs true eq lt next h = let n : x ≡ b = eqb-true x b eq in omega (arith, n, lt)
lower_by x b birth xs false eq lt next h = next h

pub among_lower : (b birth : ℕ) (xs : List ℕ) → AllByRecursion (λ x. x < birth) xs → among b xs ≡ true → b < birth
among_lower b birth [] all h = absurd (cc)
among_lower b birth (x ∷ xs) all h = lower_by x b birth xs (x == b) refl all.0 (among_lower b birth xs all.1) h

-- the live frames from one on
pub record AreLast (s : State) (births : List ℕ) : Type 0 where
  pub live : (b : ℕ) → among b births ≡ true → is_live s b ≡ true
  pub older : (b : ℕ) → among b births ≡ true → older_than b s.live ≡ older_than b births
  pub from : (b : ℕ) → among b births ≡ true → live_from b s.live ≡ live_from b births

pub all_last : (s : State) → AreLast s s.live
all_last s = record { live = λ b h. h; older = λ b h. refl; from = λ b h. refl }

pub older_last : (s : State) (x : ℕ) (births : List ℕ) → AllByRecursion (λ b. b < x) births → AreLast s (x ∷ births) → AreLast s births
older_last s x births lower h = record {
  live = λ b there. h.live b (among_more x b births there);
  older = λ b there. let lt : b < x = among_lower b x births lower there in h.older b (among_more x b births there) ∙ rw (ne_eqb x b (λ eq. absurd (omega (arith, eq, lt)))) refl;
  from = λ b there. let lt : b < x = among_lower b x births lower there in h.from b (among_more x b births there) ∙ rw (ne_eqb x b (λ eq. absurd (omega (arith, eq, lt)))) refl;
}

-- ---- one frame

module _ (sizes : Sizes) (l : Layout) (g : Ways) (s : State) (k : Stack) (birth : ℕ) (births : List ℕ) (h : HoldsFrames sizes l g s k) (live : s.live ≡ birth ∷ births) where
  all : HoldsAll sizes l g s k (birth ∷ births)
  all = subst (HoldsAll sizes l g s k) live h.frames

  abbrev from : ℕ
  from = frames_place sizes s.frames (birth ∷ births)

  abbrev base : ℕ
  base = frames_place sizes s.frames births

  top_is : k.top ≡ stack_address from
  top_is = h.top ∙ ap (λ xs. stack_address (frames_place sizes s.frames xs)) live

  room_is : words_of_frames s.frames (birth ∷ births) ≤ sizes.stack / 4
  room_is = subst (λ xs. words_of_frames s.frames xs ≤ sizes.stack / 4) live h.room

  count_is : length k.live ≡ words_of_frames s.frames (birth ∷ births)
  count_is = h.marks ∙ ap (words_of_frames s.frames) live

  pub one_popped : HoldsFrames sizes l g (with_live s births) (above k base)
  one_popped = record {
    whole = h.whole;
    small = h.small;
    room = omega (arith, room_is);
    top = refl;
    words = h.words;
    stamps = h.stamps;
    marks = omega (arith, length-drop ((stack_address base - k.top) / 4) k.live, top_is, room_is, count_is);
    frames = all_popped sizes l g s birth births live all.2 k from base top_is (omega arith) births (omega arith) all.4;
  }

-- ---- any number of frames

drop_of : {X : Type 0} (xs : List X) (a b : ℕ) → a ≡ b → drop a xs ≡ drop b xs
drop_of xs a b e = ap (λ k. drop k xs) e

drop_again : {X : Type 0} (n m : ℕ) (xs : List X) → drop m (drop n xs) ≡ drop (n + m) xs
drop_again zero m xs = let e : m ≡ 0 + m = omega arith in ap (λ k. drop k xs) e
drop_again (suc n) zero [] = drop_of [] (suc (n + 0)) (suc n + 0) (omega arith)
drop_again (suc n) (suc m) [] = drop_of [] (suc (n + suc m)) (suc n + suc m) (omega arith)
drop_again (suc n) m (x ∷ xs) = let e : suc (n + m) ≡ suc n + m = omega arith in drop_again n m xs ∙ ap (λ k. drop k (x ∷ xs)) e

above_here : (k : Stack) (place : ℕ) → k.top ≡ stack_address place → k ≡ above k place
above_here k place at =
    let n : 0 ≡ (stack_address place - k.top) / 4 = omega (arith, at) in
    ap (λ top. record { top = top; words = k.words; stamps = k.stamps; live = k.live }) at
    ∙ ap (λ i. record { top = stack_address place; words = k.words; stamps = k.stamps; live = drop i k.live }) n

above_again : (k : Stack) (start middle place : ℕ) → k.top ≡ stack_address start → start ≤ middle → middle ≤ place → above (above k middle) place ≡ above k place
above_again k start middle place at le up =
    let n : (stack_address middle - k.top) / 4 + (stack_address place - stack_address middle) / 4 ≡ (stack_address place - k.top) / 4 = omega (arith, at, le, up) in
    ap (λ live. record { top = stack_address place; words = k.words; stamps = k.stamps; live = live })
    (drop_again ((stack_address middle - k.top) / 4) ((stack_address place - stack_address middle) / 4) k.live ∙ ap (λ i. drop i k.live) n)

-- the frames that are left, on the stack from the first of them on
pub record FramesLeft (sizes : Sizes) (l : Layout) (g : Ways) (s : State) (k : Stack) (births : List ℕ) : Type 0 where
  pub frames : HoldsFrames sizes l g (with_live s births) (above k (frames_place sizes s.frames births))
  pub up : frames_place sizes s.frames s.live ≤ frames_place sizes s.frames births

pub all_left : (sizes : Sizes) (l : Layout) (g : Ways) (s : State) (k : Stack) → HoldsFrames sizes l g s k → FramesLeft sizes l g s k s.live
all_left sizes l g s k h = record { frames = subst (HoldsFrames sizes l g s) (above_here k (frames_place sizes s.frames s.live) h.top) h; up = omega arith }

pub older_left : (sizes : Sizes) (l : Layout) (g : Ways) (s : State) (k : Stack) (birth : ℕ) (births : List ℕ) → HoldsFrames sizes l g s k → FramesLeft sizes l g s k (birth ∷ births) → FramesLeft sizes l g s k births
older_left sizes l g s k birth births h o = record {
  frames = subst (HoldsFrames sizes l g (with_live s births)) (above_again k (frames_place sizes s.frames s.live) (frames_place sizes s.frames (birth ∷ births)) (frames_place sizes s.frames births) h.top o.up (omega arith))
      (one_popped sizes l g (with_live s (birth ∷ births)) (above k (frames_place sizes s.frames (birth ∷ births))) birth births o.frames refl);
  up = omega (arith, o.up);
}
