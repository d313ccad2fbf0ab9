-- What follows where the assigned variables of a program became cells, in one.
use Rattle.std.specs.Prelude.{All, filter}
use Rattle.std.specs.List.{AllByRecursion, filter_map, list_any, cons_option}
use Rattle.std.proofs.Common.{◌≡◌, ℕ, zero, suc, ◌+◌, ◌≤◌, Bool, true, false, ◌||◌, List, [], ◌∷◌, length, map, get_or, Option, Some, None, slice_get, refl, sym, ap, ◌∙◌, subst, arith}
use Rattle.std.proofs.lemmas.List.Elements.{All-map}
use Rattle.cps_ir.specs.declared.terms.Term.{Term}
use Rattle.cps_ir.specs.declared.terms.Term.TheVariants as Node
use Rattle.cps_ir.specs.declared.terms.Cps.{Cps}
use Rattle.cps_ir.specs.Parts.{assigns, is_assigned, walked, root_lams, reached_terms}
use Rattle.cps_ir.specs.MarkFacts.{marked_lams, marked_vars, run_marked}
use Rattle.cps_ir.specs.Whole.{IsWhole}
use Rattle.cps_ir.specs.Loads.{HasLoads, term_load, lam_load, args_count}
use Rattle.cps_ir.proofs.ProperLists.{each_more, each_of_all}
use Rattle.cps_ir.proofs.Closed.{all_of_each}
use Rattle.cps_ir.proofs.Dearer.{marks_change_heap_alone}
use Rattle.cps_ir.proofs.Proper.{whole_ends_properly}
use Rattle.cps_ir.proofs.Counts.{tot, sum_tot}
use Rattle.assign_convert.specs.AssignedCells.{celled, AreCells}
use Rattle.assign_convert.specs.CellLaws.{makes_cell, is_set, is_catch, has_outer, Without, HasSameLoads, HasNoMoreBulk, CellsAreSound}
use Rattle.assign_convert.proofs.Terms.{with_terms}
use Rattle.assign_convert.proofs.Ruled.{Ruled, LamAlone, LamRuled, reached_alone, walked_ruled, lams_of_roots}
use Rattle.assign_convert.proofs.Kept.{IsNoMore, no_more_keeps, same_parts, cells_no_more, cells_keep}
use Rattle.assign_convert.proofs.Shapes.{Stays, of_celled, count_same, walked_same}
use Rattle.assign_convert.proofs.Loaded.{load_same, lam_load_same, room_same, loads_after}
use Rattle.assign_convert.proofs.Wholes.{whole_after}
use Rattle.assign_convert.proofs.MarksStay.{lams_marked_same, vars_marked_same}
use Rattle.assign_convert.proofs.OneCell.{one_cell}

-- ---- kinds

no_set_stays : (f : ℕ → Bool) (t : Term) → Stays f t → is_set t ≡ false
no_set_stays f (Node.Give k value) s = refl
no_set_stays f (Node.Set x value k) s = absurd s
no_set_stays f (Node.Call y args k) s = refl
no_set_stays f (Node.Prim c args k) s = refl
no_set_stays f (Node.If test x y) s = refl
no_set_stays f (Node.Labels vars lams body) s = refl
no_set_stays f (Node.Join k param body rest) s = refl
no_set_stays f (Node.Cell x value rest) s = refl
no_set_stays f (Node.CellGet x k) s = refl
no_set_stays f (Node.CellSet x value k) s = refl
no_set_stays f (Node.GlobalGet i k) s = refl
no_set_stays f (Node.GlobalInit i value k) s = refl
no_set_stays f (Node.GlobalSet i value k) s = refl
no_set_stays f (Node.Catch escape inner k) s = refl
no_set_stays f (Node.Uncatch k value) s = refl
no_set_stays f (Node.Object proc ops methods k) s = refl
no_set_stays f (Node.Halt value) s = refl

no_set : (f : ℕ → Bool) (t : Term) → is_set (celled f t) ≡ false
no_set f t = of_celled f (λ t u. is_set u ≡ false) (no_set_stays f) (λ k x s e. refl) (λ param body value e. refl) (λ x value k. refl) t

catch_same : (f : ℕ → Bool) (t : Term) → is_catch (celled f t) ≡ is_catch t
catch_same f t = of_celled f (λ t u. is_catch u ≡ is_catch t) (λ t s. refl) (λ k x s e. refl) (λ param body value e. refl) (λ x value k. refl) t

outer_same : (f : ℕ → Bool) (t : Term) → has_outer t ≡ false → has_outer (celled f t) ≡ false
outer_same f t h = of_celled f (λ t u. has_outer t ≡ false → has_outer u ≡ false) (λ t s h. h) (λ k x s e h. refl) (λ param body value e h. h) (λ x value k h. h) t h

fewer_args : (f : ℕ → Bool) (t : Term) → args_count (celled f t) ≤ args_count t
fewer_args f t = of_celled f (λ t u. args_count u ≤ args_count t) (λ t s. omega arith) (λ k x s e. omega arith) (λ param body value e. omega arith) (λ x value k. omega arith) t

all_fewer : (f : ℕ → Bool) (ts : List Term) → tot args_count (map (celled f) ts) ≤ tot args_count ts
all_fewer f [] = omega arith
all_fewer f (t ∷ ts) = let le = fewer_args f t in let rest = all_fewer f ts in omega (arith, le, rest)

-- ---- nothing assigned

none_unset : (x : ℕ) (t : Term) → is_set t ≡ false → assigns x t ≡ false
none_unset x (Node.Set y value k) h = cc
none_unset x (Node.Give k value) h = refl
none_unset x (Node.Call y args k) h = refl
none_unset x (Node.Prim c args k) h = refl
none_unset x (Node.If test y z) h = refl
none_unset x (Node.Labels vars lams body) h = refl
none_unset x (Node.Join k param body rest) h = refl
none_unset x (Node.Cell y value rest) h = refl
none_unset x (Node.CellGet y k) h = refl
none_unset x (Node.CellSet y value k) h = refl
none_unset x (Node.GlobalGet i k) h = refl
none_unset x (Node.GlobalInit i value k) h = refl
none_unset x (Node.GlobalSet i value k) h = refl
none_unset x (Node.Catch escape inner k) h = refl
none_unset x (Node.Uncatch k value) h = refl
none_unset x (Node.Object proc ops methods k) h = refl
none_unset x (Node.Halt value) h = refl

unset_at : (ts : List Term) (p : ℕ) (t : Term) → AllByRecursion (λ t. is_set t ≡ false) ts → slice_get ts p ≡ Some t → is_set t ≡ false
unset_at [] p t h e = cc
unset_at (x ∷ ts) zero t h e = subst (λ z. is_set z ≡ false) (value x t e) h.0
  where
    value : (x y : Term) → Some x ≡ Some y → x ≡ y
    value x y e = cc
unset_at (x ∷ ts) (suc p) t h e = unset_at ts p t h.1 e

unset_none : (x : ℕ) (ts : List Term) (ps : List ℕ) → AllByRecursion (λ t. is_set t ≡ false) ts → list_any (assigns x) (filter_map (slice_get ts) ps) ≡ false
unset_none x ts [] h = refl
unset_none x ts (p ∷ ps) h = by_option (slice_get ts p) refl (unset_none x ts ps h)
  where
    by_option : (o : Option Term) → slice_get ts p ≡ o → list_any (assigns x) (filter_map (slice_get ts) ps) ≡ false → list_any (assigns x) (cons_option o (filter_map (slice_get ts) ps)) ≡ false
    by_option None e r = r
    by_option (Some t) e r = ap (λ c. c || list_any (assigns x) (filter_map (slice_get ts) ps)) (none_unset x t (unset_at ts p t h e)) ∙ r

same_unset : (f : ℕ → Bool) → ((x : ℕ) → f x ≡ false) → (t : Term) → is_set t ≡ false → celled f t ≡ t
same_unset f none t h = of_celled f (λ t u. is_set t ≡ false → u ≡ t) (λ t s h. refl) (λ k x s e h. absurd (differ (f x.0) (none x.0) e)) (λ param body value e h. absurd (differ (f param.0) (none param.0) e)) (λ x value k h. cc) t h
  where
    differ : (b : Bool) → b ≡ false → b ≡ true → ⊥
    differ b p q = cc

all_unset : (f : ℕ → Bool) → ((x : ℕ) → f x ≡ false) → (ts : List Term) → AllByRecursion (λ t. is_set t ≡ false) ts → map (celled f) ts ≡ ts
all_unset f none [] h = refl
all_unset f none (t ∷ ts) h = ap (λ x. x ∷ map (celled f) ts) (same_unset f none t h.0) ∙ ap (λ xs. t ∷ xs) (all_unset f none ts h.1)

-- ---- the whole

module _ (a d : Cps) (terms : d.terms.items ≡ map (celled (is_assigned a)) a.terms.items) (whole : IsWhole a) (loads : HasLoads a) where
  reached : AllByRecursion (Ruled a) (walked a)
  reached = walked_ruled a whole.formed loads

  roots : AllByRecursion (LamRuled a) (root_lams a)
  roots = lams_of_roots a whole.formed loads

  pub same_loads : HasSameLoads a (with_terms a d)
  same_loads = record {
    reached = walked_same a d terms;
    terms = all_of_each (λ t. term_load (with_terms a d) t ≡ term_load a t) (walked a) (each_more (Ruled a) (λ t. term_load (with_terms a d) t ≡ term_load a t) (walked a) (load_same a d terms) reached);
    procedures = all_of_each (λ lam. lam_load (with_terms a d) lam ≡ lam_load a lam) (root_lams a) (each_more (LamRuled a) (λ lam. lam_load (with_terms a d) lam ≡ lam_load a lam) (root_lams a) (lam_load_same a d terms) roots);
  }

  pub bulk : HasNoMoreBulk a (with_terms a d)
  bulk =
      let counts = sum_tot args_count a.terms.items in
      let after = sum_tot args_count d.terms.items in
      let same = ap (tot args_count) terms in
      let fewer = all_fewer (is_assigned a) a.terms.items in
      record { terms = ap (λ n. n + length a.lams.items) (count_same a d terms); args = omega (arith, counts, after, same, fewer); room = room_same a d terms reached roots }

  all_terms : (P Q : Term → Type 0) → ((t : Term) → P t → Q (celled (is_assigned a) t)) → All P a.terms.items → All Q d.terms.items
  all_terms P Q turn h = subst (All Q) (sym terms) (All-map Q (celled (is_assigned a)) a.terms.items (λ k e lt. turn _ (h k e lt)))

  pub no_sets : Without is_set (with_terms a d)
  no_sets = subst (All (λ t. is_set t ≡ false)) (sym terms) (All-map (λ t. is_set t ≡ false) (celled (is_assigned a)) a.terms.items (λ k e lt. no_set (is_assigned a) (get_or a.terms.items k e)))

  pub no_catches : Without is_catch a → Without is_catch (with_terms a d)
  no_catches h = all_terms (λ t. is_catch t ≡ false) (λ t. is_catch t ≡ false) (λ t e. catch_same (is_assigned a) t ∙ e) h

  pub no_outer : Without has_outer a → Without has_outer (with_terms a d)
  no_outer h = all_terms (λ t. has_outer t ≡ false) (λ t. has_outer t ≡ false) (outer_same (is_assigned a)) h

  pub stays : Without is_set a → d.terms.items ≡ a.terms.items
  stays h =
      let each = each_of_all (λ t. is_set t ≡ false) a.terms.items h in
      terms ∙ all_unset (is_assigned a) (λ x. unset_none x a.terms.items (walked a) each) a.terms.items each

-- a run with fewer procedures counted as escaping, from the same of the argument
marked_no_more : (a c : Cps) → IsWhole a → HasLoads a → AreCells a c → ((l : ℕ) → marked_lams c l ≡ marked_lams a l) → (n : ℕ) → IsNoMore (run_marked a n) (run_marked c n)
marked_no_more a c whole loads e same n =
    let down = cells_no_more a c whole loads e (marked_lams c) n in
    let up = marks_change_heap_alone a (marked_lams c) (marked_lams a) (λ l h. sym (same l) ∙ h) n in
    record {
      output = down.output ∙ sym up.output;
      end = down.end ∙ sym up.end;
      heap = (let x = down.heap in let y = up.heap in omega (arith, x, y));
      waiting = down.waiting ∙ sym up.waiting;
      moves = (let x = down.moves in let y = up.moves in omega (arith, x, y));
    }

pub cells_are_sound : CellsAreSound
cells_are_sound a b whole loads e =
    let same = same_parts a b e in
    let alone = reached_alone a whole.formed loads in
    let roots = each_more (LamRuled a) (LamAlone a) (root_lams a) (λ lam h. h.alone) (lams_of_roots a whole.formed loads) in
    let lam_marks : (l : ℕ) → marked_lams b l ≡ marked_lams a l = λ l. ap (λ c. marked_lams c l) same ∙ lams_marked_same a b e.terms alone roots l in
    record {
      cells = e;
      keeps = cells_keep a b whole loads e;
      keeps_marked = no_more_keeps (run_marked a) (run_marked b) (marked_no_more a b whole loads e lam_marks) (λ n d q. whole_ends_properly a (marked_lams a) whole n d q);
      lam_marks = lam_marks;
      var_marks = λ x h. ap (λ c. marked_vars c x) same ∙ vars_marked_same a b e.terms alone roots x h;
      whole = subst IsWhole (sym same) (whole_after a b e.terms whole loads);
      loads = subst HasLoads (sym same) (loads_after a b e.terms (walked_ruled a whole.formed loads) (lams_of_roots a whole.formed loads) loads);
      same_loads = subst (HasSameLoads a) (sym same) (same_loads a b e.terms whole loads);
      bulk = subst (HasNoMoreBulk a) (sym same) (bulk a b e.terms whole loads);
      no_set = no_sets a b e.terms whole loads;
      one_cell = λ x h. ap (λ c. length (filter (makes_cell x) (reached_terms c))) same ∙ one_cell a b e.terms x h whole loads;
      unassigned = stays a b e.terms whole loads;
      catches = no_catches a b e.terms whole loads;
      outer = no_outer a b e.terms whole loads;
    }
