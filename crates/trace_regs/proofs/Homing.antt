-- Homes for one more variable.
use Rattle.std.proofs.Common.{◌≡◌, ◌≢◌, ℕ, ◌+◌, ◌-◌, ◌<◌, ◌≤◌, List, [], ◌∷◌, ◌++◌, length, get_or, replicate, slice_get, Some, AllPairs, refl, sym, ap, subst, ◌∙◌, arith, length-append, append_assoc, get_or-set_same, get_or-set_other, ◌⊎◌, inl, inr}
use Rattle.std.specs.List.{flat_map}
use Rattle.std.proofs.lemmas.Bool.{cases_lt}
use Rattle.std.proofs.lemmas.List.{length-set, length-replicate, get_or_append_left}
use Rattle.std.proofs.lemmas.List.Elements.{All-set, All-append, All-replicate, All-weaker}
use Rattle.std.proofs.lemmas.Option.{slice_get_within, get_or_from_slice_get, slice_get-get_or}
use Rattle.t_base.specs.declared.basics.Var.{Var}
use Rattle.word_ir.specs.declared.placed.Home.{Home}
use Rattle.word_ir.specs.declared.placed.Home.TheVariants as home
use Rattle.word_ir.specs.declared.words.WordOp.{WordOp}
use Rattle.word_ir.specs.declared.words.WordEnd.{WordEnd}
use Rattle.word_ir.specs.declared.words.WordBlock.{WordBlock}
use Rattle.word_ir.specs.Lines.{op_binds, binds_of, lines_from}
use Rattle.word_ir.specs.Whole.{binders_in}
use Rattle.trace_regs.specs.Assignment.{spare, with_home, IsBetween, HaveHomes}

-- ---- what a block binds

binds_from : (ops : List WordOp) (end : WordEnd) → flat_map binds_of (lines_from ops end) ≡ flat_map op_binds ops
binds_from [] end = refl
binds_from (o ∷ ops) end = ap (λ l. op_binds o ++ l) (binds_from ops end)

pub binders_behind : (old : List Var) (block : WordBlock) → (old ++ block.params) ++ flat_map op_binds block.ops.items ≡ old ++ binders_in block
binders_behind old block = append_assoc old block.params (flat_map op_binds block.ops.items) ∙ ap (λ l. old ++ (block.params ++ l)) (sym (binds_from block.ops.items block.last))

-- ---- one more home

filled : List Home → ℕ → List Home
filled homes number = homes ++ replicate (number + 1 - length homes) spare

filled_long : (homes : List Home) (number : ℕ) → number < length (filled homes number)
unfolding filled
filled_long homes number =
    let n = length-append homes (replicate (number + 1 - length homes) spare) in
    let r = length-replicate (number + 1 - length homes) spare in
    omega (arith, n, r)

here : (homes : List Home) (number : ℕ) (h : Home) → slice_get (with_home homes number h) number ≡ Some h
unfolding filled
here homes number h =
    let long = filled_long homes number in
    let same = length-set (filled homes number) number h in
    slice_get-get_or (with_home homes number h) number h (omega (arith, long, same)) ∙ ap (λ x. Some x) (get_or-set_same (filled homes number) number h h long)

there : (homes : List Home) (number k : ℕ) (h x : Home) → k ≢ number → slice_get homes k ≡ Some x → slice_get (with_home homes number h) k ≡ Some x
unfolding filled
there homes number k h x ne found =
    let within : k < length homes = slice_get_within homes k x found in
    let n = length-append homes (replicate (number + 1 - length homes) spare) in
    let same = length-set (filled homes number) number h in
    let other : get_or (with_home homes number h) k x ≡ get_or (filled homes number) k x = get_or-set_other (filled homes number) number k h x ne in
    let old : get_or (filled homes number) k x ≡ get_or homes k x = get_or_append_left homes (replicate (number + 1 - length homes) spare) x k within in
    slice_get-get_or (with_home homes number h) k x (omega (arith, within, n, same)) ∙ ap (λ y. Some y) (other ∙ old ∙ get_or_from_slice_get homes k x x found)

wider : (low a b : ℕ) (h : Home) → a ≤ b → IsBetween low a h → IsBetween low b h
wider low a b (home.D i) le is = is
wider low a b (home.A i) le is = is
wider low a b (home.Stack n) le is = is
wider low a b (home.Static p) le is = (is.0, omega (arith, is.1, le))

other_number : (vars : List Var) (i j : ℕ) (v w : Var) → AllPairs (λ v w. v ≢ w) vars → i < j → slice_get vars i ≡ Some v → slice_get vars j ≡ Some w → v.0 ≢ w.0
other_number vars i j v w distinct lt at_i at_j same =
    let within : j < length vars = slice_get_within vars j w at_j in
    distinct i j v lt within (get_or_from_slice_get vars i v v at_i ∙ var_is v w same ∙ sym (get_or_from_slice_get vars j w v at_j))
  where
    var_is : (v w : Var) → v.0 ≡ w.0 → v ≡ w
    var_is v w e = ap (λ (n : ℕ). record { 0 = n }) e

pub one_more : (low i place : ℕ) (vars : List Var) (homes new : List Home) (v : Var) → AllPairs (λ v w. v ≢ w) vars → slice_get vars i ≡ Some v → place ≡ low + i → new ≡ with_home homes v.0 (home.Static place)
    → HaveHomes low i vars homes → HaveHomes low (i + 1) vars new
one_more low i place vars homes new v distinct at_i is made h = subst (λ (l : List Home). HaveHomes low (i + 1) vars l) (sym made) (record {
  each = λ j w lt at_j. by j w lt at_j (cases_lt j i);
  only = All-set (IsBetween low (low + (i + 1))) (homes ++ replicate (v.0 + 1 - length homes) spare) v.0 (home.Static place) (omega (arith, is), omega (arith, is))
      (All-append (IsBetween low (low + (i + 1))) homes (replicate (v.0 + 1 - length homes) spare)
      (All-weaker (IsBetween low (low + i)) (IsBetween low (low + (i + 1))) (λ x b. wider low (low + i) (low + (i + 1)) x (omega arith) b) homes h.only)
      (All-replicate (IsBetween low (low + (i + 1))) (v.0 + 1 - length homes) spare refl));
})
  where
    by : (j : ℕ) (w : Var) → j < i + 1 → slice_get vars j ≡ Some w → (j < i) ⊎ (i ≤ j) → slice_get (with_home homes v.0 (home.Static place)) w.0 ≡ Some (home.Static (low + j))
    by j w lt at_j (inl less) = there homes v.0 w.0 (home.Static place) (home.Static (low + j)) (other_number vars j i w v distinct less at_j at_i) (h.each j w less at_j)
    by j w lt at_j (inr le) =
        let same : i ≡ j = omega (arith, lt, le) in
        let found : Some v ≡ Some w = sym at_i ∙ ap (slice_get vars) same ∙ at_j in
        let var : v ≡ w = cc in
        let number : place ≡ low + j = omega (arith, is, same) in
        subst (λ (u : Var). slice_get (with_home homes v.0 (home.Static place)) u.0 ≡ Some (home.Static (low + j))) var
        (here homes v.0 (home.Static place) ∙ ap (λ (p : ℕ). Some (home.Static p)) number)
