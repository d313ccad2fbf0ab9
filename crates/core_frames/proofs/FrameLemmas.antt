-- The nodes under way, on their stacks.
use Rattle.std.proofs.Common.{◌≡◌, ℕ, zero, suc, ◌+◌, ◌-◌, ◌<◌, ◌==◌, ◌≤◌, Bool, Some, None, option_map, slice_get, List, [], ◌∷◌, ◌++◌, length, take, drop, reverse, get_or, slice_set, refl, sym, ap, subst, ◌∙◌, arith}
use Rattle.std.proofs.lemmas.Bool.{ne_eqb}
use Rattle.std.proofs.lemmas.List.{reverse-reverse, reverse-append, length_push, length-reverse, length-set, take-append-le, drop-append-le}
use Rattle.std.proofs.Math.Seq.{set-append_seam, get_or-append_seam}
use Rattle.t_rows.specs.declared.rows.Part.{Part}
use Rattle.core_frames.specs.Frames.{Frame, waiting, frames, is_last, NoneLeft, IsTaken}
use Rattle.core_frames.specs.declared.build.Done.{Done}
use Rattle.core_frames.specs.declared.build.Fresh.{Fresh}
use Rattle.core_frames.specs.declared.frames.CountedNode.{CountedNode}
use Rattle.core_frames.specs.declared.frames.NodeState.{NodeState}
use Rattle.std.proofs.lemmas.Option.{same_Some}

-- ---- the last item of a list, which is the first one backwards

-- what stands behind others is at the place that their length is
pub seam : {A : Type 0} (past : List A) (x : A) (others : List A) → slice_get (past ++ x ∷ others) (length past) ≡ Some x
seam [] x others = refl
seam (y ∷ past) x others = seam past x others

from_back : {A : Type 0} (xs : List A) (x : A) (rest : List A) → reverse xs ≡ x ∷ rest → xs ≡ reverse rest ++ x ∷ []
from_back xs x rest e = sym (reverse-reverse xs) ∙ ap reverse e ∙ reverse-append (x ∷ []) rest

back_push : {A : Type 0} (xs : List A) (x : A) → reverse (xs ++ x ∷ []) ≡ x ∷ reverse xs
back_push xs x = reverse-append xs (x ∷ [])

back_place : {A : Type 0} (xs : List A) (n : ℕ) (x : A) (rest : List A) → reverse xs ≡ x ∷ rest → n ≡ length xs - 1 → n ≡ length (reverse rest)
back_place xs n x rest e at =
    let count : length xs ≡ length (reverse rest) + 1 = ap length (from_back xs x rest e) ∙ length_push (reverse rest) x in omega arith

back_get : {A : Type 0} (xs : List A) (n : ℕ) (x d : A) (rest : List A) → reverse xs ≡ x ∷ rest → n ≡ length xs - 1 → get_or xs n d ≡ x
back_get xs n x d rest e at =
    ap (λ l. get_or l n d) (from_back xs x rest e) ∙ ap (λ k. get_or (reverse rest ++ x ∷ []) k d) (back_place xs n x rest e at) ∙ get_or-append_seam (reverse rest) x [] d

back_set : {A : Type 0} (xs : List A) (n : ℕ) (x y : A) (rest : List A) → reverse xs ≡ x ∷ rest → n ≡ length xs - 1 → reverse (slice_set xs n y) ≡ y ∷ rest
back_set xs n x y rest e at =
    ap (λ l. reverse (slice_set l n y)) (from_back xs x rest e) ∙ ap (λ k. reverse (slice_set (reverse rest ++ x ∷ []) k y)) (back_place xs n x rest e at)
    ∙ ap reverse (set-append_seam (reverse rest) x [] y) ∙ back_push (reverse rest) y ∙ ap (λ l. y ∷ l) (reverse-reverse rest)

-- ---- the innermost node

pub record Innermost (cs : List CountedNode) (left : List Part) (done : List Done) (f : Frame) (others : List Frame) : Type 0 where
  pub c : CountedNode
  pub rest : List CountedNode
  pub are : cs ≡ c ∷ rest
  pub this : record { state = c.state; left = take c.left_count left; done = drop (length done - c.done_count) done } ≡ f
  pub behind : frames rest (drop c.left_count left) (take (length done - c.done_count) done) ≡ others

pub innermost : (cs : List CountedNode) (left : List Part) (done : List Done) (f : Frame) (others : List Frame) → f ∷ others ≡ frames cs left done → Innermost cs left done f others
innermost [] left done f others e = absurd (cc)
innermost (c ∷ cs) left done f others e = record {
  c = c;
  rest = cs;
  are = refl;
  this = let q : f ∷ others ≡ record { state = c.state; left = take c.left_count left; done = drop (length done - c.done_count) done } ∷ frames cs (drop c.left_count left) (take (length done - c.done_count) done) = e in cc;
  behind = let q : f ∷ others ≡ record { state = c.state; left = take c.left_count left; done = drop (length done - c.done_count) done } ∷ frames cs (drop c.left_count left) (take (length done - c.done_count) done) = e in cc;
}

-- ---- what the calls do

abbrev with_bound : CountedNode → Fresh → CountedNode
with_bound c bound = record c { state = record c.state { bound = bound } }

abbrev with_tail : CountedNode → Bool → CountedNode
with_tail c part_tail = record c { state = record c.state { part_tail = part_tail } }

abbrev with_parts : CountedNode → List Part → List Done → Frame
with_parts c left done = record { state = c.state; left = left; done = done }

-- the variables around the part that is waited for are others, and its place
pub waits_in : (counted : List CountedNode) (left : List Part) (done : List Done) (f : Frame) (others : List Frame) (n : ℕ) (a b : CountedNode) (bound : Fresh) (part_tail : Bool)
    → f ∷ others ≡ frames (reverse counted) left done → n ≡ length counted - 1 → a ≡ get_or counted n a
    → b ≡ get_or (slice_set counted n (with_bound a bound)) n b
    → frames (reverse (slice_set (slice_set counted n (with_bound a bound)) n (with_tail b part_tail))) left done ≡ waiting f bound part_tail ∷ others
waits_in counted left done f others n a b bound part_tail e at read again =
    let i = innermost (reverse counted) left done f others e in
    let a_is : a ≡ i.c = read ∙ back_get counted n i.c a i.rest i.are at in
    let first = back_set counted n i.c (with_bound a bound) i.rest i.are at in
    let at_first : n ≡ length (slice_set counted n (with_bound a bound)) - 1 = at ∙ ap (λ k. k - 1) (sym (length-set counted n (with_bound a bound))) in
    let b_is : b ≡ with_bound a bound = again ∙ back_get (slice_set counted n (with_bound a bound)) n (with_bound a bound) b i.rest first at_first in
    let second = back_set (slice_set counted n (with_bound a bound)) n (with_bound a bound) (with_tail b part_tail) i.rest first at_first in
    ap (λ l. frames l left done) second
    ∙ ap (λ x. frames (with_tail x part_tail ∷ i.rest) left done) (b_is ∙ ap (λ x. with_bound x bound) a_is)
    ∙ ap (λ l. record { state = record i.c.state { bound = bound; part_tail = part_tail }; left = take i.c.left_count left; done = drop (length done - i.c.done_count) done } ∷ l) i.behind
    ∙ ap (λ g. waiting g bound part_tail ∷ others) i.this

-- one more part is done
pub done_in : (counted : List CountedNode) (left : List Part) (done after : List Done) (f : Frame) (others : List Frame) (n m : ℕ) (a b : CountedNode) (d : Done)
    → f ∷ others ≡ frames (reverse counted) left done → n ≡ length counted - 1 → a ≡ get_or counted n a → b ≡ get_or counted n b → m ≡ a.done_count + 1 → after ≡ done ++ d ∷ []
    → frames (reverse (slice_set counted n (record b { done_count = m }))) left after ≡ record f { done = f.done ++ d ∷ [] } ∷ others
done_in counted left done after f others n m a b d e at read again more pushed =
    let i = innermost (reverse counted) left done f others e in
    let a_is : a ≡ i.c = read ∙ back_get counted n i.c a i.rest i.are at in
    let b_is : b ≡ i.c = again ∙ back_get counted n i.c b i.rest i.are at in
    let m_is : m ≡ i.c.done_count + 1 = more ∙ ap (λ x. x.done_count + 1) a_is in
    let k = length done - i.c.done_count in
    let count : length (done ++ d ∷ []) - (i.c.done_count + 1) ≡ k = ap (λ x. x - (i.c.done_count + 1)) (length_push done d) ∙ omega arith in
    let le : k ≤ length done = omega arith in
    ap (λ l. frames l left after) (back_set counted n i.c (record b { done_count = m }) i.rest i.are at)
    ∙ ap (λ l. frames (record b { done_count = m } ∷ i.rest) left l) pushed
    ∙ ap (λ x. frames (record x { done_count = m } ∷ i.rest) left (done ++ d ∷ [])) b_is
    ∙ ap (λ x. frames (record i.c { done_count = x } ∷ i.rest) left (done ++ d ∷ [])) m_is
    ∙ ap (λ x. with_parts i.c (take i.c.left_count left) (drop x (done ++ d ∷ [])) ∷ frames i.rest (drop i.c.left_count left) (take x (done ++ d ∷ []))) count
    ∙ ap (λ x. with_parts i.c (take i.c.left_count left) x ∷ frames i.rest (drop i.c.left_count left) (take k (done ++ d ∷ []))) (drop-append-le k done (d ∷ []) le)
    ∙ ap (λ x. with_parts i.c (take i.c.left_count left) (drop k done ++ d ∷ []) ∷ frames i.rest (drop i.c.left_count left) x) (take-append-le k done (d ∷ []) le)
    ∙ ap (λ l. with_parts i.c (take i.c.left_count left) (drop k done ++ d ∷ []) ∷ l) i.behind
    ∙ ap (λ (g : Frame). record g { done = g.done ++ d ∷ [] } ∷ others) i.this

-- a part is taken away
pub taken_in : (counted : List CountedNode) (left rest : List Part) (done : List Done) (before : List Frame) (n : ℕ) (a b : CountedNode) (part : Part) → frames (reverse counted) (reverse left) done ≡ before
    → 0 < length counted → n ≡ length counted - 1 → a ≡ get_or counted n a → b ≡ get_or counted n b → 0 < a.left_count → left ≡ rest ++ part ∷ []
    → IsTaken before (frames (reverse (slice_set counted n (record b { left_count = b.left_count - 1 }))) (reverse rest) done) (Some part)
taken_in counted left rest done before n a b part view some at read again pos popped =
    subst (λ l. IsTaken l (frames (reverse (slice_set counted n (record b { left_count = b.left_count - 1 }))) (reverse rest) done) (Some part)) view (by (reverse counted) refl)
  where
    taken : (c : CountedNode) (cs : List CountedNode) → reverse counted ≡ c ∷ cs
        → (more : List Part) × (take c.left_count (reverse left) ≡ part ∷ more)
        × (frames (reverse (slice_set counted n (record b { left_count = b.left_count - 1 }))) (reverse rest) done
        ≡ with_parts c more (drop (length done - c.done_count) done) ∷ frames cs (drop c.left_count (reverse left)) (take (length done - c.done_count) done))
    taken c cs are =
        let a_is : a ≡ c = read ∙ back_get counted n c a cs are at in
        let b_is : b ≡ c = again ∙ back_get counted n c b cs are at in
        let some : 0 < c.left_count = subst (λ x. 0 < x.left_count) a_is pos in
        let back : reverse left ≡ part ∷ reverse rest = ap reverse popped ∙ back_push rest part in
        let count : c.left_count ≡ suc (c.left_count - 1) = omega arith in (
          take (c.left_count - 1) (reverse rest),
          ap (λ l. take c.left_count l) back ∙ ap (λ k. take k (part ∷ reverse rest)) count,
          ap (λ l. frames l (reverse rest) done) (back_set counted n c (record b { left_count = b.left_count - 1 }) cs are at)
              ∙ ap (λ x. frames (record x { left_count = x.left_count - 1 } ∷ cs) (reverse rest) done) b_is
              ∙ ap (λ l. with_parts c (take (c.left_count - 1) (reverse rest)) (drop (length done - c.done_count) done) ∷ frames cs l (take (length done - c.done_count) done))
              (sym (ap (λ l. drop c.left_count l) back ∙ ap (λ k. drop k (part ∷ reverse rest)) count)),
        )

    by : (cs : List CountedNode) → reverse counted ≡ cs → IsTaken (frames cs (reverse left) done) (frames (reverse (slice_set counted n (record b { left_count = b.left_count - 1 }))) (reverse rest) done) (Some part)
    by [] e = let none : length counted ≡ 0 = sym (length-reverse counted) ∙ ap length e in absurd (omega arith)
    by (c ∷ cs) e = taken c cs e

-- the first of the frames is that with this state
pub first_frame : (fs : List Frame) (h : NodeState) → Some h ≡ option_map (λ (f : Frame). f.state) (slice_get fs 0) → (f : Frame) × (others : List Frame) × (fs ≡ f ∷ others) × (h ≡ f.state)
first_frame [] h e = absurd (cc)
first_frame (f ∷ others) h e = (f, others, refl, same_Some h f.state e)

pub no_frame : (fs : List Frame) → None ≡ option_map (λ (f : Frame). f.state) (slice_get fs 0) → fs ≡ []
no_frame [] e = refl
no_frame (f ∷ others) e = absurd (cc)

none_taken : {A : Type 0} (n : ℕ) (xs : List A) → take n xs ≡ [] → drop n xs ≡ xs
none_taken zero xs e = refl
none_taken (suc n) [] e = refl
none_taken (suc n) (x ∷ xs) e = absurd (cc)

-- the innermost node ends
pub popped_in : (counted rest : List CountedNode) (left : List Part) (done : List Done) (c : CountedNode) (before : List Frame) → frames (reverse counted) left done ≡ before → NoneLeft before
    → counted ≡ rest ++ c ∷ [] → frames (reverse rest) left (take (length done - c.done_count) done) ≡ drop 1 before
popped_in counted rest left done c before view none popped =
    let is : frames (c ∷ reverse rest) left done ≡ before = sym (ap (λ l. frames l left done) (ap reverse popped ∙ back_push rest c)) ∙ view in
    let nothing : take c.left_count left ≡ [] = subst (λ l. NoneLeft l) (sym is) none in
    ap (λ l. frames (reverse rest) l (take (length done - c.done_count) done)) (sym (none_taken c.left_count left nothing)) ∙ ap (drop 1) is

-- whether no part of the innermost node is left
pub last_in : (counted : List CountedNode) (left : List Part) (done : List Done) (c : CountedNode) (b : Bool) → Some c ≡ slice_get counted (length counted - 1) → (c.left_count ≡ 0 → ⊥) → b ≡ (length left == 0)
    → b ≡ is_last (frames (reverse counted) (reverse left) done)
last_in counted left done c b got some is = by (reverse counted) refl
  where
    same : (x : CountedNode) (xs : List CountedNode) → reverse counted ≡ x ∷ xs → c ≡ x
    same x xs e =
        same_Some c x (got ∙ ap (λ l. slice_get l (length counted - 1)) (from_back counted x xs e)
        ∙ ap (λ n. slice_get (reverse xs ++ x ∷ []) n) (back_place counted (length counted - 1) x xs e refl) ∙ seam (reverse xs) x [])

    any : (n : ℕ) (ps : List Part) → reverse left ≡ ps → (n ≡ 0 → ⊥) → b ≡ (length (take n ps) == 0)
    any zero ps e h = absurd (h refl)
    any (suc n) [] e h = let none : length left ≡ 0 = sym (length-reverse left) ∙ ap length e in is ∙ ap (λ k. k == 0) none
    any (suc n) (p ∷ ps) e h =
        let some_left : length left ≡ suc (length ps) = sym (length-reverse left) ∙ ap length e in
        is ∙ ap (λ k. k == 0) some_left ∙ ne_eqb (suc (length ps)) 0 (λ q. cc) ∙ sym (ne_eqb (suc (length (take n ps))) 0 (λ q. cc))

    by : (cs : List CountedNode) → reverse counted ≡ cs → b ≡ is_last (frames cs (reverse left) done)
    by [] e =
        let none : counted ≡ [] = sym (reverse-reverse counted) ∙ ap reverse e in
        let q : Some c ≡ None = got ∙ ap (λ l. slice_get l (length counted - 1)) none in absurd (cc)
    by (x ∷ xs) e = any x.left_count (reverse left) refl (λ z. some (ap (λ y. y.left_count) (same x xs e) ∙ z))
