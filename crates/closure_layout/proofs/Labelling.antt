-- The closures of a Labels.
use Rattle.std.proofs.Common.{◌≡◌, ℕ, zero, suc, ◌+◌, ◌<◌, ◌||◌, nat_lt, false, List, [], ◌∷◌, ◌++◌, length, take, get_or, refl, sym, ap, subst, ◌∙◌, arith, append_assoc}
use Rattle.std.specs.List.{AllByRecursion}
use Rattle.std.proofs.lemmas.List.{append-nil, map-append, take_all, length-take-le}
use Rattle.t_base.specs.declared.basics.Var.{Var}
use Rattle.cps_ir.specs.declared.terms.Cps.{Cps}
use Rattle.cps_ir.specs.declared.terms.Term.TheVariants as Node
use Rattle.cps_ir.specs.Reaches.{is_in}
use Rattle.cps_ir.proofs.ProperLists.{each_append, each_more}
use Rattle.frame_ir.specs.declared.forms.Place.TheVariants as At
use Rattle.frame_ir.specs.declared.forms.FrameOp.{FrameOp}
use Rattle.frame_ir.specs.declared.forms.FrameOp.TheVariants as Op
use Rattle.frame_ir.specs.declared.forms.FrameEnd.{FrameEnd}
use Rattle.layout_relation.specs.Contexts.{IsUnused, paired}
use Rattle.layout_relation.specs.Laid.{Sketch, MakesClosure, Labels, labels_none, labels_one, AreDistinct, numbers, made_by, GoesOn, lays_labels}
use Rattle.layout_tables.specs.declared.tables.Tables.{Tables}
use Rattle.layout_tables.specs.declared.requests.Work.{Work}
use Rattle.layout_tables.specs.declared.lines.Line.{Line}
use Rattle.layout_tables.specs.declared.lines.Step.TheVariants.{Done}
use Rattle.layout_tables.specs.Sketches.{Scoped, Ever, Grows, AreBelow, KnowsFirst, counted, sketch_of, context_at, context_of, rank_of}
use Rattle.layout_steps.specs.Steps.{MakesNew, IsLaid, Ends}
use Rattle.closure_layout.specs.Labelled.{MayName, MakesAll}
use Rattle.layout_tables.proofs.Basics.{take_more}
use Rattle.layout_tables.proofs.Growing.{later, grows_none, grows_same, grows_more, below_more}
use Rattle.layout_steps.proofs.Preparing.{unused_above, more_differs, made_by_join, is_in_join}
use Rattle.closure_layout.proofs.Walking.{pairs_below}
use Rattle.frame_ir.specs.Parts.{arms_of}
use Rattle.layout_tables.specs.Additions.{Adds, Rises, bound_by}
use Rattle.layout_tables.proofs.Adding.{adds_none, adds_more, adds_behind, adds_bound, rises_counted, bound_by_join}

head_same : (a b : ℕ) (as_ bs : List ℕ) → a ∷ as_ ≡ b ∷ bs → a ≡ b
head_same a b as_ bs h = cc

tail_same : (a b : ℕ) (as_ bs : List ℕ) → a ∷ as_ ≡ b ∷ bs → as_ ≡ bs
tail_same a b as_ bs h = cc

pub counted_at : (tos : List Var) (n m i : ℕ) (d : Var) → numbers tos ≡ counted n m → i < length tos → (get_or tos i d).0 ≡ n + i
counted_at [] n m i d e lt = absurd (omega (arith, lt))
counted_at (t ∷ ts) n zero i d e lt = cc
counted_at (t ∷ ts) n (suc m) zero d e lt = let h = head_same t.0 n (numbers ts) (counted (suc n) m) e in omega (arith, h)
counted_at (t ∷ ts) n (suc m) (suc i) d e lt = let h = counted_at ts (suc n) m i d (tail_same t.0 n (numbers ts) (counted (suc n) m) e) (omega (arith, lt)) in omega (arith, h)

all_unused : (tos : List Var) (n m : ℕ) (vars : Scoped) → numbers tos ≡ counted n m → AreBelow n vars → AllByRecursion (λ y. IsUnused vars y.0) tos
all_unused [] n m vars e below = tt
all_unused (t ∷ ts) n zero vars e below = cc
all_unused (t ∷ ts) n (suc m) vars e below = (unused_above n t.0 vars (let h = head_same t.0 n (numbers ts) (counted (suc n) m) e in omega (arith, h)) below, all_unused ts (suc n) m vars (tail_same t.0 n (numbers ts) (counted (suc n) m) e) (below_more n (suc n) vars (omega arith) below))

module _ (cps : Cps) (v : Sketch) (vars : Scoped) where
  pub labels_more : (xs : List Var) (ls : List ℕ) (ms : List FrameOp) (ts : List Var) (x : Var) (l : ℕ) (to : Var) (code : ℕ) (kept : List Var) → Labels cps v vars xs ls ms ts → AllByRecursion (λ y. y < to.0) (made_by ms) → MakesClosure cps v vars l to code kept []
      → Labels cps v vars (xs ++ x ∷ []) (ls ++ l ∷ []) (ms ++ Op.Closure to code kept At.Heap ∷ []) (ts ++ to ∷ [])
  labels_more xs ls ms ts x l to code kept labels_none h m = labels_one x l to code kept [] [] [] [] m labels_none
  labels_more xs ls ms ts x l to code kept (labels_one x2 l2 to2 code2 kept2 ys js ns us makes rest) h m = labels_one x2 l2 to2 code2 kept2 (ys ++ x ∷ []) (js ++ l ∷ []) (ns ++ Op.Closure to code kept At.Heap ∷ []) (us ++ to ∷ [])
      (record { lambda = makes.lambda; runs = makes.runs; holds = makes.holds; later = subst (λ zs. is_in zs to2.0 ≡ false) (sym (made_by_join ns (Op.Closure to code kept At.Heap ∷ []))) (is_in_join (made_by ns) (to.0 ∷ []) to2.0 makes.later (ap (λ b. b || false) (more_differs to2.0 to.0 h.0))) })
      (labels_more ys js ns us x l to code kept rest h.1 m)

pub record MakesSoFar (w : Tables) (vars : Scoped) (old new : Work) (before after : List FrameOp) (lams : List ℕ) (tos : List Var) (place : ℕ) : Type 0 where
  pub made : List FrameOp
  pub ops : after ≡ before ++ made
  pub grows : Grows w old new
  pub next : new.next ≡ old.next
  pub adds : Adds old new [] []
  pub binds : length tos ≡ length lams → bound_by made ≡ numbers (take place tos)
  pub below : (n : ℕ) → numbers tos ≡ counted n (length lams) → AllByRecursion (λ y. y < n + place) (made_by made)
  pub labels : (cps : Cps) (n : ℕ) → KnowsFirst cps w → numbers tos ≡ counted n (length lams) → Ever w new (λ v. (xs : List Var) → length xs ≡ place → Labels cps v vars xs (take place lams) made (take place tos))

no_labels : (cps : Cps) (v : Sketch) (vars : Scoped) (xs : List Var) → length xs ≡ 0 → Labels cps v vars xs [] [] []
no_labels cps v vars [] e = labels_none
no_labels cps v vars (x ∷ xs) e = absurd (omega (arith, e))

pub makes_none : (w : Tables) (vars : Scoped) (old : Work) (before : List FrameOp) (lams : List ℕ) (tos : List Var) → MakesSoFar w vars old old before before lams tos 0
makes_none w vars old before lams tos = record { made = []; ops = sym (append-nil before); grows = grows_none w old; next = refl; adds = adds_none old; binds = λ len. refl; below = λ n e. tt; labels = λ cps n k e ps ts f g xs len. no_labels cps (sketch_of w ps ts) vars xs len }

pub makes_more : (w : Tables) (vars : Scoped) (old mid new : Work) (before after behind : List FrameOp) (lams : List ℕ) (tos : List Var) (place dl : ℕ) (d : Var) (op : FrameOp) → MakesSoFar w vars old mid before after lams tos place → place < length lams → length tos ≡ length lams
    → MakesNew w vars mid new (get_or lams place dl) (get_or tos place d) op → behind ≡ after ++ op ∷ [] → MakesSoFar w vars old new before behind lams tos (place + 1)
makes_more w vars old mid new before after behind lams tos place dl d op s lt len m pushed =
    let l = get_or lams place dl in
    let to = get_or tos place d in
    let there : place < length tos = omega (arith, lt, len) in
    record {
      made = s.made ++ Op.Closure to m.code m.kept At.Heap ∷ [];
      ops = pushed ∙ ap (λ zs. zs ++ op ∷ []) s.ops ∙ append_assoc before s.made (op ∷ []) ∙ ap (λ o. before ++ (s.made ++ o ∷ [])) m.is;
      grows = grows_more w old mid new s.grows m.grows;
      next = m.next ∙ s.next;
      adds = adds_more old mid new [] [] [] [] s.adds m.adds;
      binds = λ same. bound_by_join s.made (Op.Closure to m.code m.kept At.Heap ∷ []) ∙ ap (λ zs. zs ++ to.0 ∷ []) (s.binds same) ∙ sym (map-append (λ x. x.0) (take place tos) (to ∷ [])) ∙ ap numbers (sym (take_more tos place d there));
      below = λ n e. let at = counted_at tos n (length lams) place d e there in
          subst (AllByRecursion (λ y. y < n + (place + 1))) (sym (made_by_join s.made (Op.Closure to m.code m.kept At.Heap ∷ [])))
          (each_append (λ y. y < n + (place + 1)) (made_by s.made) (to.0 ∷ []) (each_more (λ y. y < n + place) (λ y. y < n + (place + 1)) (made_by s.made) (λ y a. omega (arith, a)) (s.below n e)) (omega (arith, at), tt));
      labels = λ cps n k e ps ts f g xs count.
          let at = counted_at tos n (length lams) place d e there in
          let whole : xs ≡ take place xs ++ get_or xs place d ∷ [] = sym (take_all (place + 1) xs (omega (arith, count))) ∙ take_more xs place d (omega (arith, count)) in
          subst (λ zs. Labels cps (sketch_of w ps ts) vars zs (take (place + 1) lams) (s.made ++ Op.Closure to m.code m.kept At.Heap ∷ []) (take (place + 1) tos)) (sym whole)
          (subst (λ ls. Labels cps (sketch_of w ps ts) vars (take place xs ++ get_or xs place d ∷ []) ls (s.made ++ Op.Closure to m.code m.kept At.Heap ∷ []) (take (place + 1) tos)) (sym (take_more lams place dl lt))
          (subst (λ us. Labels cps (sketch_of w ps ts) vars (take place xs ++ get_or xs place d ∷ []) (take place lams ++ l ∷ []) (s.made ++ Op.Closure to m.code m.kept At.Heap ∷ []) us) (sym (take_more tos place d there))
          (labels_more cps (sketch_of w ps ts) vars (take place xs) (take place lams) s.made (take place tos) (get_or xs place d) l to m.code m.kept
          (later w mid new (λ z. (ys : List Var) → length ys ≡ place → Labels cps z vars ys (take place lams) s.made (take place tos)) m.grows (s.labels cps n k e) ps ts f g (take place xs) (length-take-le place xs (omega (arith, count))))
          (each_more (λ y. y < n + place) (λ y. y < to.0) (made_by s.made) (λ y a. omega (arith, a, at)) (s.below n e))
          (record { lambda = subst (λ j. nat_lt l j ≡ false) k m.lambda; runs = m.runs ps ts f g; holds = m.holds; later = refl }))));
    }

pub makes_all : (w : Tables) (vars : Scoped) (old new : Work) (before after : List FrameOp) (lams : List ℕ) (tos : List Var) (place : ℕ) → MakesSoFar w vars old new before after lams tos place → place ≡ length lams → length tos ≡ length lams → MakesAll w vars old new before after lams tos
makes_all w vars old new before after lams tos place s e len = record {
  made = s.made;
  ops = s.ops;
  grows = s.grows;
  next = s.next;
  adds = s.adds;
  binds = λ same. s.binds same ∙ ap numbers (take_all place tos (omega (arith, e, len)));
  labels = λ cps n k c ps ts f g xs count. subst (λ ls. Labels cps (sketch_of w ps ts) vars xs ls s.made tos) (take_all place lams (omega (arith, e)))
      (subst (λ us. Labels cps (sketch_of w ps ts) vars xs (take place lams) s.made us) (take_all place tos (omega (arith, e, len))) (s.labels cps n k c ps ts f g xs (count ∙ sym e)));
}

pub laid_labels : (cps : Cps) (w : Tables) (old one mid new : Work) (before after : Line) (t body : ℕ) (names : List Var) (lams : List ℕ) (tos : List Var) (last : FrameEnd) → KnowsFirst cps w → AreBelow old.next before.scope → length names ≡ length lams → length tos ≡ length lams → MayName w before.scope before.site names → AreDistinct (numbers names)
    → rank_of w body < rank_of w t → numbers tos ≡ counted old.next (length lams) → one.next ≡ old.next + length lams → one.requests ≡ old.requests → one.templates ≡ old.templates → after.scope ≡ paired (numbers names) tos ++ before.scope
    → MakesAll w after.scope one mid before.ops.items after.ops.items lams tos → Ends w mid new last (λ v. GoesOn cps v (context_at w after.scope before.site) body [] last) → IsLaid cps w old new before after t (Node.Labels names lams body) (Done last)
laid_labels cps w old one mid new before after t body names lams tos last first below len count may distinct lower fresh next rs ts scope all ends = record {
  made = all.made;
  ops = all.ops;
  leads = record {
    grows = grows_more w old one new (grows_same w old one rs ts (omega (arith, next))) (grows_more w one mid new all.grows ends.grows);
    adds = adds_behind old one new (bound_by all.made) [] (arms_of last)
        (subst (λ zs. Adds old one zs []) (sym (all.binds count)) (adds_bound old one (numbers tos) rs (subst (λ zs. Rises old.next zs one.next) (sym fresh) (rises_counted old.next (length lams) one.next (omega (arith, next))))))
        (adds_more one mid new [] [] [] (arms_of last) all.adds ends.adds);
    below = subst (AreBelow new.next) (sym scope) (each_append (λ p. p.1 < new.next) (paired (numbers names) tos) before.scope
        (pairs_below (numbers names) tos old.next (length lams) new.next fresh (let a = all.next in let b = ends.next in omega (arith, a, b, next))) (below_more old.next new.next before.scope (let a = all.next in let b = ends.next in omega (arith, a, b, next)) below));
    reaches = λ ps qs f g. lays_labels (context_of w before) t names lams body all.made tos [] last
        (subst (λ vs. Labels cps (sketch_of w ps qs) vs names lams all.made tos) scope (later w mid new (λ z. (ys : List Var) → length ys ≡ length lams → Labels cps z after.scope ys lams all.made tos) ends.grows (all.labels cps old.next first fresh) ps qs f g names len))
        may distinct (all_unused tos old.next (length lams) before.scope fresh below) tt lower
        (subst (λ vs. GoesOn cps (sketch_of w ps qs) (context_at w vs before.site) body [] last) scope (ends.ever ps qs f g));
  };
}
