-- Frames that lay out a program are small.
use Rattle.std.proofs.Common.{◌≡◌, ◌≢◌, ℕ, zero, suc, ◌+◌, ◌%◌, ◌≤◌, ◌<◌, List, [], ◌∷◌, ◌++◌, length, Some, slice_index_or, refl, sym, ap, subst, ◌∙◌, arith, All, AllPairs}
use Rattle.std.specs.List.{AllByRecursion}
use Rattle.std.proofs.Math.Nat.{mod-lt}
use Rattle.std.proofs.lemmas.Bool.{true≢false, eq-eqb}
use Rattle.std.proofs.lemmas.Option.{slice_get-get_or}
use Rattle.std.proofs.lemmas.List.Elements.{All-from_recursion}
use Rattle.t_base.specs.declared.basics.Var.{Var}
use Rattle.cps_ir.specs.declared.args.Arg.{Arg}
use Rattle.cps_ir.specs.declared.terms.Cont.{Cont}
use Rattle.cps_ir.specs.declared.terms.Term.{Term}
use Rattle.cps_ir.specs.declared.terms.Cps.{Cps}
use Rattle.frame_ir.specs.declared.forms.Place.TheVariants as At
use Rattle.frame_ir.specs.declared.forms.FrameOp.{FrameOp}
use Rattle.frame_ir.specs.declared.forms.FrameOp.TheVariants as Op
use Rattle.frame_ir.specs.declared.forms.FrameEnd.{FrameEnd}
use Rattle.frame_ir.specs.declared.forms.Block.{Block}
use Rattle.frame_ir.specs.declared.forms.Frames.{Frames}
use Rattle.frame_ir.specs.Values.{even, record_words}
use Rattle.frame_ir.specs.Operations.{slots_of, slots_behind}
use Rattle.frame_ir.specs.Sizes.{most_frame_words, most_record_words, AreSmall, IsSmallRecord, OpKeepsOnce}
use Rattle.layout_relation.specs.Links.{IsIn, first, later}
use Rattle.layout_relation.specs.Contexts.{Context, Return, Purpose, CodeOf, MethodOf, Begins, ArmOf, PassesOn, Resumes}
use Rattle.layout_relation.specs.Laid.{Sketch, IsFor, numbers, AreDistinct, most_needs, Fetches, fetches_none, fetches_one, MakesClosure, Prepares, prepares_none, prepares_same, prepares_closure, Labels, labels_none, labels_one, Gives, gives_out, gives_join, gives_jump, gives_here, gives_unused, GoesOn, goes_here, goes_to, Lays, lays, LaysTerm, lays_tail_call, lays_call, lays_prim, lays_if, lays_labels, lays_join, lays_give, lays_global_get, lays_global_init, lays_global_set, lays_cell, lays_cell_get, lays_cell_set, lays_object, lays_tail_catch, lays_catch, lays_tail_uncatch, lays_uncatch, lays_halt, BlockFits, IsLaidOut}
use Rattle.layout_relation.specs.Laws.{LaidOutIsSmall}
use Rattle.layout_relation.proofs.Lists.{zipped_length, in_is_not, some_at}
use Rattle.layout_relation.proofs.Arriving.{block_at}

-- ---- what holds of each operation

abbrev IsGood : Cps → FrameOp → Type 0
IsGood cps (Op.Closure to code kept at) = (at ≡ At.Heap) × (length kept ≤ cps.shared.size)
IsGood cps (Op.Push kept back) = (length kept ≤ most_needs cps) × AreDistinct (numbers kept)
IsGood cps (Op.Object to template proc kept) = length kept ≤ cps.shared.size
IsGood cps _ = Unit {0}

abbrev AreGood : Cps → List FrameOp → Type 0
AreGood cps ops = AllByRecursion (IsGood cps) ops

good_join : (cps : Cps) (xs ys : List FrameOp) → AreGood cps xs → AreGood cps ys → AreGood cps (xs ++ ys)
good_join cps [] ys h k = k
good_join cps (x ∷ xs) ys h k = (h.0, good_join cps xs ys h.1 k)

-- ---- small frames

frame_heap : {X : Type 0} (s : ℕ) → At.Frame s ≡ At.Heap → X
frame_heap s h = cc

static_heap : {X : Type 0} → At.Static ≡ At.Heap → X
static_heap h = cc

-- no closure is built in a frame
no_slots : (cps : Cps) (above : ℕ) (ops : List FrameOp) (n : ℕ) → AreGood cps ops → slots_behind above ops n ≡ n
no_slots cps zero [] n h = refl
no_slots cps (suc above) [] n h = refl
no_slots cps zero (Op.Closure to code kept At.Heap ∷ ops) n h = no_slots cps zero ops n h.1
no_slots cps (suc above) (Op.Closure to code kept At.Heap ∷ ops) n h = no_slots cps (suc above) ops n h.1
no_slots cps above (Op.Closure to code kept (At.Frame s) ∷ ops) n h = frame_heap s h.0.0
no_slots cps above (Op.Closure to code kept At.Static ∷ ops) n h = static_heap h.0.0
no_slots cps zero (Op.Push kept back ∷ ops) n h = no_slots cps (suc zero) ops n h.1
no_slots cps (suc above) (Op.Push kept back ∷ ops) n h = no_slots cps (suc (suc above)) ops n h.1
no_slots cps zero (Op.CatchOpen to back ∷ ops) n h = no_slots cps (suc zero) ops n h.1
no_slots cps (suc above) (Op.CatchOpen to back ∷ ops) n h = no_slots cps (suc (suc above)) ops n h.1
no_slots cps zero (Op.Pop ∷ ops) n h = refl
no_slots cps (suc above) (Op.Pop ∷ ops) n h = no_slots cps above ops n h.1
no_slots cps zero (Op.CatchClose ∷ ops) n h = refl
no_slots cps (suc above) (Op.CatchClose ∷ ops) n h = no_slots cps above ops n h.1
no_slots cps zero (_ ∷ ops) n h = no_slots cps zero ops n h.1
no_slots cps (suc above) (_ ∷ ops) n h = no_slots cps (suc above) ops n h.1

even_most : (n : ℕ) → even n ≤ n + 1
even_most n = let m : n % 2 < 2 = mod-lt n (omega arith) in omega (arith, m)

small_push : (cps : Cps) (ops : List FrameOp) (kept : List Var) → AreGood cps ops → length kept ≤ most_needs cps → even (2 + slots_of ops (length kept)) ≤ most_frame_words cps.shared.size
small_push cps ops kept h le = let e = no_slots cps zero ops (length kept) h in let m = even_most (2 + slots_of ops (length kept)) in omega (arith, e, m, le)

small_ops : (cps : Cps) (ops : List FrameOp) → AreGood cps ops → AreSmall cps.shared.size ops
small_ops cps [] h = tt
small_ops cps (Op.Push kept back ∷ ops) h = (small_push cps ops kept h.1 h.0.0, small_ops cps ops h.1)
small_ops cps (_ ∷ ops) h = (tt, small_ops cps ops h.1)

-- ---- small records

small_record : (n size : ℕ) → n ≤ size → record_words n ≤ most_record_words size
small_record n size le = let m : (3 + n) % 2 < 2 = mod-lt (3 + n) (omega arith) in omega (arith, m, le)

small_records : (cps : Cps) (ops : List FrameOp) → AreGood cps ops → AllByRecursion (IsSmallRecord cps.shared.size) ops
small_records cps [] h = tt
small_records cps (Op.Closure to code kept at ∷ ops) h = (small_record (length kept) cps.shared.size h.0.1, small_records cps ops h.1)
small_records cps (Op.Object to template proc kept ∷ ops) h = (small_record (length kept) cps.shared.size h.0, small_records cps ops h.1)
small_records cps (_ ∷ ops) h = (tt, small_records cps ops h.1)

-- ---- each variable once

in_at : (xs : List Var) (j : ℕ) (d : Var) → j < length xs → IsIn (slice_index_or xs j d).0 (numbers xs)
in_at [] j d lt = absurd (omega (arith, lt))
in_at (x ∷ xs) zero d lt = first x.0 (numbers xs)
in_at (x ∷ xs) (suc j) d lt = later (slice_index_or xs j d).0 x.0 (numbers xs) (in_at xs j d (omega (arith, lt)))

kept_once : (xs : List Var) → AreDistinct (numbers xs) → AllPairs (λ x y. x ≢ y) xs
kept_once [] h i j d lt less = absurd (omega (arith, lt))
kept_once (x ∷ xs) h zero zero d lt less = absurd (omega (arith, less))
kept_once (x ∷ xs) h (suc i) zero d lt less = absurd (omega (arith, less))
kept_once (x ∷ xs) h zero (suc j) d lt less = λ (e : x ≡ slice_index_or xs j d). true≢false (sym (eq-eqb (slice_index_or xs j d).0 x.0 (sym (ap (λ (z : Var). z.0) e))) ∙ in_is_not (numbers xs) x.0 (slice_index_or xs j d).0 h.0 (in_at xs j d (omega (arith, lt))))
kept_once (x ∷ xs) h (suc i) (suc j) d lt less = kept_once xs h.1 i j d (omega (arith, lt)) (omega (arith, less))

once_ops : (cps : Cps) (ops : List FrameOp) → AreGood cps ops → AllByRecursion OpKeepsOnce ops
once_ops cps [] h = tt
once_ops cps (Op.Push kept back ∷ ops) h = (kept_once kept h.0.1, once_ops cps ops h.1)
once_ops cps (_ ∷ ops) h = (tt, once_ops cps ops h.1)

-- ---- what is laid out is good

module _ (cps : Cps) (p : Frames) (laid : IsLaidOut cps p) where
  abbrev w : Sketch
  w = laid.sketch

  closure_good : (vars : List (ℕ × ℕ)) (l : ℕ) (to : Var) (code : ℕ) (kept : List Var) (ms : List FrameOp) → MakesClosure cps w vars l to code kept ms → IsGood cps (Op.Closure to code kept At.Heap)
  closure_good vars l to code kept ms h = (refl, (let a = zipped_length _ _ _ h.holds in let b = laid.small l in omega (arith, a, b)))

  prepares_good : (vars : List (ℕ × ℕ)) (args : List Arg) (ms : List FrameOp) (bs : List Arg) → Prepares cps w vars args ms bs → AreGood cps ms
  prepares_good vars args ms bs prepares_none = tt
  prepares_good vars args ms bs (prepares_same a b as_ ns cs h rest) = prepares_good vars as_ ns cs rest
  prepares_good vars args ms bs (prepares_closure l to code kept as_ ns cs h u rest) = (closure_good vars l to code kept ns h, prepares_good vars as_ ns cs rest)

  labels_good : (vars : List (ℕ × ℕ)) (xs : List Var) (lams : List ℕ) (ms : List FrameOp) (tos : List Var) → Labels cps w vars xs lams ms tos → AreGood cps ms
  labels_good vars xs lams ms tos labels_none = tt
  labels_good vars xs lams ms tos (labels_one x l to code kept ys ls ns ts h rest) = (closure_good vars l to code kept ns h, labels_good vars ys ls ns ts rest)

  fetches_good : (get : Var → ℕ → FrameOp) → ((y : Var) (slot : ℕ) → IsGood cps (get y slot)) → (apart : ℕ) (kept : List ℕ) (before behind : List (ℕ × ℕ)) (ops : List FrameOp) → Fetches get apart kept before behind ops → AreGood cps ops
  fetches_good get good apart kept before behind ops (fetches_none vars) = tt
  fetches_good get good apart kept before behind ops (fetches_one x y slot bs as_ ms e unused other more) = (good y slot, fetches_good get good apart kept ((x, y.0) ∷ bs) as_ ms more)

  push_good : (kept : List Var) (back : ℕ) (r : Return) → IsFor w back (Resumes r) → length r.kept ≡ length kept → AreDistinct (numbers kept) → IsGood cps (Op.Push kept back)
  push_good kept back r for count once = ((let a = (block_at cps p laid back (Resumes r) for).fits.small in omega (arith, a, count)), once)

  mutual
    gives_good : (c : Context) (t : ℕ) (k : Cont) (a : Arg) (ops : List FrameOp) (last : FrameEnd) → Gives cps w c t k a ops last → AreGood cps ops
    gives_good c t k a ops last (gives_out c2 t2 j a2 out none) = tt
    gives_good c t k a ops last (gives_join c2 t2 j a2 m rest ys meets for held new few) = tt
    gives_good c t k a ops last (gives_jump c2 t2 param body a2 block needs ys for held new few) = tt
    gives_good c t k a ops last (gives_here c2 t2 param body x ops2 last2 fresh plain lower laying) = lays_good _ body ops2 last2 laying
    gives_good c t k a ops last (gives_unused c2 t2 param body a2 ops2 last2 fresh lower laying) = lays_good c2 body ops2 last2 laying

    goes_good : (c : Context) (t : ℕ) (ops : List FrameOp) (last : FrameEnd) → GoesOn cps w c t ops last → AreGood cps ops
    goes_good c t ops last (goes_here c2 t2 ops2 last2 laying) = lays_good c2 t2 ops2 last2 laying
    goes_good c t ops last (goes_to c2 t2 block needs ys for held few) = tt

    lays_good : (c : Context) (t : ℕ) (ops : List FrameOp) (last : FrameEnd) → Lays cps w c t ops last → AreGood cps ops
    lays_good c t ops last (lays c2 t2 term ops2 last2 is fits) = term_good c2 t2 term ops2 last2 fits

    term_good : (c : Context) (t : ℕ) (term : Term) (ops : List FrameOp) (last : FrameEnd) → LaysTerm cps w c t term ops last → AreGood cps ops
    term_good c t term ops last (lays_tail_call c2 t2 f args k ms g bs prep out none) = prepares_good c2.vars _ ms _ prep
    term_good c t term ops last (lays_call c2 t2 f args k ms g bs r kept back prep awaits for held once) = good_join cps ms _ (prepares_good c2.vars _ ms _ prep) (push_good kept back r for (zipped_length _ _ _ held) once, tt)
    term_good c t term ops last (lays_prim c2 t2 f args k ms bs to ops2 last2 prep unused gives) = good_join cps ms _ (prepares_good c2.vars _ ms _ prep) (tt, gives_good c2 t2 k _ ops2 last2 gives)
    term_good c t term ops last (lays_if c2 t2 test one other ms x there_arm other_arm prep fy fn) = prepares_good c2.vars _ ms _ prep
    term_good c t term ops last (lays_labels c2 t2 xs lams body ms tos ops2 last2 labels fresh distinct unused apart lower onward) = good_join cps ms ops2 (labels_good _ xs lams ms tos labels) (goes_good _ body ops2 last2 onward)
    term_good c t term ops last (lays_join c2 t2 k param body rest block needs ops2 last2 lower laying) = lays_good _ rest ops2 last2 laying
    term_good c t term ops last (lays_give c2 t2 k value ms x ops2 last2 prep apart gives) = good_join cps ms ops2 (prepares_good c2.vars _ ms _ prep) (gives_good c2 t2 k x ops2 last2 gives)
    term_good c t term ops last (lays_global_get c2 t2 g k to ops2 last2 lt unused gives) = (tt, gives_good c2 t2 k _ ops2 last2 gives)
    term_good c t term ops last (lays_global_init c2 t2 g value k ms x ops2 last2 lt none prep gives) = good_join cps ms _ (prepares_good c2.vars _ ms _ prep) (tt, gives_good c2 t2 k x ops2 last2 gives)
    term_good c t term ops last (lays_global_set c2 t2 g value k ms x ops2 last2 lt none prep gives) = good_join cps ms _ (prepares_good c2.vars _ ms _ prep) (tt, gives_good c2 t2 k x ops2 last2 gives)
    term_good c t term ops last (lays_cell c2 t2 x value rest ms y to ops2 last2 prep fresh celled unused onward) = good_join cps ms _ (prepares_good c2.vars _ ms _ prep) (tt, goes_good _ rest ops2 last2 onward)
    term_good c t term ops last (lays_cell_get c2 t2 x y k to ops2 last2 there celled unused gives) = (tt, gives_good c2 t2 k _ ops2 last2 gives)
    term_good c t term ops last (lays_cell_set c2 t2 x y value k ms z ops2 last2 prep there celled gives) = good_join cps ms _ (prepares_good c2.vars _ ms _ prep) (tt, gives_good c2 t2 k z ops2 last2 gives)
    term_good c t term ops last (lays_object c2 t2 proc names methods k ms x template shape needs kept to ops2 last2 prep count is_shape are_methods held small unused gives) =
        good_join cps ms _ (prepares_good c2.vars _ ms _ prep) ((let h = zipped_length _ _ _ held in omega (arith, h, small)), gives_good c2 t2 k _ ops2 last2 gives)
    term_good c t term ops last (lays_tail_catch c2 t2 x body k to back ops2 last2 out none passes fresh plain unused onward) = (tt, goes_good _ body ops2 last2 onward)
    term_good c t term ops last (lays_catch c2 t2 x body k r kept to back ops2 last2 awaits for held once fresh plain unused onward) = (push_good kept back r for (zipped_length _ _ _ held) once, (tt, goes_good _ body ops2 last2 onward))
    term_good c t term ops last (lays_tail_uncatch c2 t2 k value outer ms y ops2 last2 open_ prep gives) = good_join cps ms _ (prepares_good c2.vars _ ms _ prep) (tt, gives_good _ t2 k y ops2 last2 gives)
    term_good c t term ops last (lays_uncatch c2 t2 k value outer ms y ops2 last2 open_ prep gives) = good_join cps ms _ (prepares_good c2.vars _ ms _ prep) (tt, (tt, gives_good _ t2 k y ops2 last2 gives))
    term_good c t term ops last (lays_halt c2 t2 value ms x prep) = prepares_good c2.vars _ ms _ prep

  block_good : (purpose : Purpose) (b : Block) → BlockFits cps w purpose b → AreGood cps b.ops.items
  block_good (CodeOf l) b fits = fetches_good (λ y slot. Op.ClosureGet y fits.self slot) (λ y slot. tt) fits.self.0 _ _ _ b.ops.items fits.fetches
  block_good (MethodOf l kept) b fits = fetches_good (λ y slot. Op.ClosureGet y fits.self slot) (λ y slot. tt) fits.self.0 _ _ _ b.ops.items fits.fetches
  block_good (Begins start) b fits = lays_good _ start.term b.ops.items b.last fits.lays
  block_good (ArmOf c t) b fits = lays_good c t b.ops.items b.last fits.lays
  block_good PassesOn b fits = subst (AreGood cps) (sym fits.ops) tt
  block_good (Resumes r) b fits = subst (AreGood cps) (sym fits.ops) (good_join cps fits.gets _ (fetches_good (λ y slot. Op.FrameGet y slot) (λ y slot. tt) fits.value.0 _ _ _ fits.gets fits.fetches) (tt, goes_good _ r.body fits.rest b.last fits.goes))

  -- each block has a purpose
  all_good : (k : ℕ) (d : Block) → k < length p.blocks.items → AreGood cps (slice_index_or p.blocks.items k d).ops.items
  all_good k d lt =
      let found = some_at w.purposes k (let e = laid.count in omega (arith, e, lt)) in
      let blk = block_at cps p laid k found.0 found.1 in
      let e = same_block (slice_index_or p.blocks.items k d) blk.block (sym (slice_get-get_or p.blocks.items k d lt) ∙ blk.is) in
      subst (λ b. AreGood cps b.ops.items) (sym e) (block_good found.0 blk.block blk.fits)
    where
      same_block : (a b : Block) → Some a ≡ Some b → a ≡ b
      same_block a b h = cc

pub laid_out_is_small : LaidOutIsSmall
laid_out_is_small cps p laid = record {
  frames = λ k d lt. subst (λ n. AreSmall n (slice_index_or p.blocks.items k d).ops.items) (sym (ap (λ s. s.size) laid.shared)) (small_ops cps _ (all_good cps p laid k d lt));
  records = λ k d lt. subst (λ n. All (IsSmallRecord n) (slice_index_or p.blocks.items k d).ops.items) (sym (ap (λ s. s.size) laid.shared)) (All-from_recursion _ _ (small_records cps _ (all_good cps p laid k d lt)));
  once = λ k d lt. All-from_recursion OpKeepsOnce _ (once_ops cps _ (all_good cps p laid k d lt));
}
