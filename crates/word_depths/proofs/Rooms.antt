-- Homes in the stack that are used are inside of it.
use Rattle.std.proofs.Common.{zero, suc, ◌≤◌, ◌<◌, List, [], ◌∷◌, ◌++◌, subst, arith, length}
use Rattle.std.specs.Prelude.{All, Contains}
use Rattle.std.specs.List.{flat_map}
use Rattle.std.proofs.lemmas.Bool.{le-ltb, lt-ltb}
use Rattle.t_base.specs.declared.basics.Var.{Var}
use Rattle.word_ir.specs.Storage.{STACK_START, place_from}
use Rattle.word_ir.specs.State.{Keeper, keeper_of, stack_at}
use Rattle.word_ir.specs.Lines.{Line, uses_of, exits_of, binds_of, line_in}
use Rattle.word_ir.specs.Whole.{vars_at}
use Rattle.word_ir.specs.WholePlaced.{needed, without, LiesWithin}
use Rattle.word_depths.specs.Laws.{UsedHomesHaveRoom}
use Rattle.word_depths.proofs.Standing.{from_line}

all_left : {X : Type 0} (P : X → Type 0) (xs ys : List X) → All P (xs ++ ys) → (x : X) → Contains xs x → P x
all_left P [] ys h x c = absurd (omega (arith, c.1))
all_left P (y ∷ xs) ys h x (zero, lt, is) = subst P is (h 0 x (omega arith))
all_left P (y ∷ xs) ys h x (suc i, lt, is) = all_left P xs ys (λ j d le. h (suc j) d (omega (arith, le))) x (i, omega (arith, lt), is)

left_in : {X : Type 0} (xs ys : List X) (x : X) → Contains xs x → Contains (xs ++ ys) x
left_in [] ys x c = absurd (omega (arith, c.1))
left_in (y ∷ xs) ys x (zero, lt, is) = (0, omega arith, is)
left_in (y ∷ xs) ys x (suc i, lt, is) = let r = left_in xs ys x (i, omega (arith, lt), is) in (suc r.0, omega (arith, r.1), r.2)

pub used_homes_have_room : UsedHomesHaveRoom
used_homes_have_room placed sizes whole s d v n place uses at =
    let f = from_line (d.is).ops.items (d.is).last s.place in
    let line : Line = line_in d.is s.place in
    let live = whole.lodgings.live in
    let P : Var → Type 0 = λ w. LiesWithin d.depth (keeper_of placed.at.items w) in
    let turned = flat_map (vars_at live) (exits_of line) in
    let after = without (binds_of line) (needed live f.0) in
    let all : All P ((uses_of line ++ turned) ++ after) = subst (λ (l : List Line). All P (needed live l)) f.1 d.within in
    let here : P v = all_left P (uses_of line ++ turned) after all v (left_in (uses_of line) turned v uses) in
    let low : n < d.depth = subst (λ (k : Keeper). LiesWithin d.depth k) at here in
    let from : STACK_START ≤ stack_at s n = omega (arith, place.top_from) in
    let inside : place_from STACK_START (stack_at s n) < length s.storage.stack = omega (arith, low, d.deep, place.top_from, place.top_whole, place.stack) in
    rw (le-ltb (stack_at s n) STACK_START from) (lt-ltb (place_from STACK_START (stack_at s n)) (length s.storage.stack) inside)
