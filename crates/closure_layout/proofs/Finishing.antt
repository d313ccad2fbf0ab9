-- The whole layout.
use Rattle.std.specs.Prelude.{IsSomeAnd}
use Rattle.std.specs.Option.{option_map}
use Rattle.std.proofs.Common.{◌≡◌, ℕ, ◌+◌, ◌<◌, ◌≤◌, false, List, [], ◌∷◌, ◌++◌, length, slice_get, Some, None, Option, refl, sym, ap, subst, ◌∙◌, arith, append_assoc, ⊎_elim}
use Rattle.std.proofs.lemmas.Bool.{cases_order}
use Rattle.std.proofs.lemmas.List.{append-nil, length-append, length-map}
use Rattle.std.proofs.lemmas.Option.{slice_get-map, slice_get_within}
use Rattle.t_base.specs.declared.basics.Var.{Var}
use Rattle.cps_ir.specs.declared.terms.Cps.{Cps}
use Rattle.frame_ir.specs.declared.forms.Block.{Block}
use Rattle.layout_relation.specs.Contexts.{Purpose, Begins, NoExit}
use Rattle.layout_relation.specs.Laid.{IsFor, numbers, BlockFits, IsLaidOut}
use Rattle.layout_relation.proofs.Lists.{get_front, some_at}
use Rattle.layout_tables.specs.declared.tables.Tables.{Tables}
use Rattle.layout_tables.specs.declared.requests.Work.{Work}
use Rattle.layout_tables.specs.declared.requests.Request.{Request}
use Rattle.layout_tables.specs.declared.requests.Request.TheVariants as For
use Rattle.layout_tables.specs.Around.{Around}
use Rattle.layout_tables.specs.Sketches.{Ever, Grows, lam_needs, purpose_of, purposes_of, sketch_of}
use Rattle.closure_layout.specs.Blocks.{AreLaid, StandFirst, IsBlockFor, binds_of, bound_in, arms_in}
use Rattle.layout_tables.proofs.Growing.{grows_more, later}
use Rattle.cps_ir.specs.Parts.{first_lams, is_assigned}
use Rattle.frame_ir.specs.declared.forms.Frames.{Frames}
use Rattle.std.specs.List.{AllByRecursion}
use Rattle.cps_ir.proofs.ProperLists.{each_append, each_at, each_more}
use Rattle.frame_ir.specs.Parts.{arms_of}
use Rattle.layout_tables.specs.Additions.{Adds, SeesBelow, arms_from}
use Rattle.layout_tables.proofs.Adding.{adds_none, adds_more, sees_more}
use Rattle.closure_layout.proofs.Rising.{arms_above}

-- ---- the first codes

same_some : {X : Type 0} (a b : X) → Some a ≡ Some b → a ≡ b
same_some a b h = cc

pub at_end : {X : Type 0} (xs : List X) (x : X) → slice_get (xs ++ x ∷ []) (length xs) ≡ Some x
at_end [] x = refl
at_end (y ∷ xs) x = at_end xs x

-- a place that is below the next one is below or last
by_place : {P : Type 0} (k n : ℕ) → k < n + 1 → (k < n → P) → (k ≡ n → P) → P
by_place k n lt f g = ⊎_elim (λ e. g e) (λ h. ⊎_elim (λ l. f l) (λ l. absurd (omega (arith, lt, l))) h) (cases_order k n)

pub stand_none : (w : Tables) (rs : List Request) → rs ≡ [] → StandFirst w 0 rs
stand_none w rs e = (ap length e, λ l lt. absurd (omega (arith, lt)))

pub stand_more : (w : Tables) (n m : ℕ) (rs new : List Request) → StandFirst w n rs → m ≡ n → new ≡ rs ++ For.CodeOf m ∷ [] → lam_needs w m ≡ [] → StandFirst w (n + 1) new
stand_more w n m rs new h e pushed none = (
  ap length pushed ∙ length-append rs (For.CodeOf m ∷ []) ∙ ap (λ k. k + 1) h.0,
  λ l lt. by_place {P = (slice_get new l ≡ Some (For.CodeOf l)) × (lam_needs w l ≡ [])} l n lt
      (λ less. (subst (λ zs. slice_get zs l ≡ Some (For.CodeOf l)) (sym pushed) (get_front rs (For.CodeOf m ∷ []) l (For.CodeOf l) (h.1 l less).0), (h.1 l less).1))
      (λ same. (subst (λ zs. slice_get zs l ≡ Some (For.CodeOf l)) (sym pushed) (subst (λ k. slice_get (rs ++ For.CodeOf m ∷ []) l ≡ Some (For.CodeOf k)) (e ∙ sym same) (subst (λ k. slice_get (rs ++ For.CodeOf m ∷ []) k ≡ Some (For.CodeOf m)) (h.0 ∙ sym same) (at_end rs (For.CodeOf m)))), subst (λ k. lam_needs w k ≡ []) (e ∙ sym same) none)),
)

pub none_needed : (w : Tables) (l n : ℕ) (xs : List Var) → numbers xs ≡ lam_needs w l → n ≡ length xs → n ≤ 0 → lam_needs w l ≡ []
none_needed w l n [] e f le = sym e
none_needed w l n (x ∷ xs) e f le = absurd (omega (arith, f, le))

-- ---- what blocks add

never : (k : ℕ) (b : Block) → slice_get [] k ≡ Some b → ⊥
never k b h = cc

bound_in_join : (xs ys : List Block) → bound_in (xs ++ ys) ≡ bound_in xs ++ bound_in ys
bound_in_join [] ys = refl
bound_in_join (b ∷ xs) ys = ap (λ zs. binds_of b ++ zs) (bound_in_join xs ys) ∙ sym (append_assoc (binds_of b) (bound_in xs) (bound_in ys))

arms_in_join : (xs ys : List Block) → arms_in (xs ++ ys) ≡ arms_in xs ++ arms_in ys
arms_in_join [] ys = refl
arms_in_join (b ∷ xs) ys = ap (λ zs. arms_of b.last ++ zs) (arms_in_join xs ys) ∙ sym (append_assoc (arms_of b.last) (arms_in xs) (arms_in ys))

blocks_add : (old mid new : Work) (blocks : List Block) (b : Block) → Adds old mid (bound_in blocks) (arms_in blocks) → Adds mid new (binds_of b) (arms_of b.last) → Adds old new (bound_in (blocks ++ b ∷ [])) (arms_in (blocks ++ b ∷ []))
blocks_add old mid new blocks b g h =
    subst (λ xs. Adds old new xs (arms_in (blocks ++ b ∷ []))) (sym (bound_in_join blocks (b ∷ []) ∙ ap (λ zs. bound_in blocks ++ zs) (append-nil (binds_of b))))
    (subst (Adds old new (bound_in blocks ++ binds_of b)) (sym (arms_in_join blocks (b ∷ []) ∙ ap (λ zs. arms_in blocks ++ zs) (append-nil (arms_of b.last))))
    (adds_more old mid new (bound_in blocks) (binds_of b) (arms_in blocks) (arms_of b.last) g h))

-- the arms of the last block stand behind it
arms_later : (mid new : Work) (blocks : List Block) (b : Block) (place k : ℕ) (c : Block) → length blocks ≡ place → place < length mid.requests.items → Adds mid new (binds_of b) (arms_of b.last) → ((j : ℕ) (d : Block) → slice_get blocks j ≡ Some d → AllByRecursion (λ arm. j < arm) (arms_of d.last))
    → slice_get (blocks ++ b ∷ []) k ≡ Some c → AllByRecursion (λ arm. k < arm) (arms_of c.last)
arms_later mid new blocks b place k c count lt adds so_far e =
    by_place {P = AllByRecursion (λ arm. k < arm) (arms_of c.last)} k (length blocks) (subst (λ n. k < n) (length-append blocks (b ∷ [])) (slice_get_within (blocks ++ b ∷ []) k c e))
    (λ less. let found = some_at blocks k less in so_far k c (found.1 ∙ ap Some (same_some found.0 c (sym (get_front blocks (b ∷ []) k found.0 found.1) ∙ e))))
    (λ same. subst (λ (d : Block). AllByRecursion (λ arm. k < arm) (arms_of d.last)) (same_some b c (sym (at_end blocks b) ∙ subst (λ j. slice_get (blocks ++ b ∷ []) j ≡ Some c) same e))
    (subst (AllByRecursion (λ arm. k < arm)) adds.asks
    (each_more (λ a. length mid.requests.items ≤ a) (λ a. k < a) (arms_from (length mid.requests.items) adds.added) (λ a le. omega (arith, le, same, count, lt)) (arms_above (length mid.requests.items) adds.added))))

-- ---- blocks

module _ (cps : Cps) (w : Tables) where
  pub record Fitted (work : Work) (blocks : List Block) (k : ℕ) (p : Purpose) : Type 0 where
    pub block : Block
    pub is : slice_get blocks k ≡ Some block
    pub fits : Ever w work (λ v. BlockFits cps v p block)

  pub record BlocksSoFar (old work : Work) (blocks : List Block) (place : ℕ) : Type 0 where
    pub grows : Grows w old work
    pub adds : Adds old work (bound_in blocks) (arms_in blocks)
    pub later : (k : ℕ) (b : Block) → slice_get blocks k ≡ Some b → AllByRecursion (λ arm. k < arm) (arms_of b.last)
    pub count : length blocks ≡ place
    pub within : place ≤ length work.requests.items
    pub fits : (k : ℕ) (p : Purpose) → k < place → slice_get (purposes_of w work.requests.items) k ≡ Some p → Fitted work blocks k p

  pub blocks_none : (old : Work) (blocks : List Block) → blocks ≡ [] → BlocksSoFar old old blocks 0
  blocks_none old blocks e = record { grows = record { requests = λ k x h. h; templates = λ k x h. h; next = omega arith }; adds = subst (λ bs. Adds old old (bound_in bs) (arms_in bs)) (sym e) (adds_none old); later = λ k b h. absurd (never k b (subst (λ bs. slice_get bs k ≡ Some b) e h)); count = ap length e; within = omega arith; fits = λ k p lt. absurd (omega (arith, lt)) }

  pub blocks_more : (old mid new : Work) (blocks more : List Block) (place : ℕ) (r : Request) (b : Block) → BlocksSoFar old mid blocks place → slice_get mid.requests.items place ≡ Some r → IsBlockFor cps w mid new r b → more ≡ blocks ++ b ∷ [] → BlocksSoFar old new more (place + 1)
  blocks_more old mid new blocks more place r b s asked laid pushed =
      let here : slice_get (purposes_of w new.requests.items) place ≡ Some (purpose_of w r) = laid.grows.requests place (purpose_of w r) (slice_get-map (purpose_of w) mid.requests.items place ∙ ap (option_map (purpose_of w)) asked) in
      record {
        grows = grows_more w old mid new s.grows laid.grows;
        adds = subst (λ bs. Adds old new (bound_in bs) (arms_in bs)) (sym pushed) (blocks_add old mid new blocks b s.adds laid.adds);
        later = λ k c e. arms_later mid new blocks b place k c s.count (slice_get_within mid.requests.items place r asked) laid.adds s.later (subst (λ bs. slice_get bs k ≡ Some c) pushed e);
        count = ap length pushed ∙ length-append blocks (b ∷ []) ∙ ap (λ k. k + 1) s.count;
        within = let lt = slice_get_within (purposes_of w new.requests.items) place (purpose_of w r) here in let e = length-map new.requests.items (purpose_of w) in omega (arith, lt, e);
        fits = λ k p lt e. by_place {P = Fitted new more k p} k place lt
            (λ less.
            let found = some_at (purposes_of w mid.requests.items) k (let n = length-map mid.requests.items (purpose_of w) in let h = s.within in omega (arith, n, h, less)) in
            let fit = s.fits k found.0 less found.1 in
            let same = same_some found.0 p (sym (laid.grows.requests k found.0 found.1) ∙ e) in
            record { block = fit.block; is = subst (λ zs. slice_get zs k ≡ Some fit.block) (sym pushed) (get_front blocks (b ∷ []) k fit.block fit.is); fits = subst (λ q. Ever w new (λ v. BlockFits cps v q fit.block)) same (later w mid new (λ v. BlockFits cps v found.0 fit.block) laid.grows fit.fits) })
            (λ same.
            let q = same_some (purpose_of w r) p (sym here ∙ subst (λ j. slice_get (purposes_of w new.requests.items) j ≡ Some p) same e) in
            record { block = b; is = subst (λ zs. slice_get zs k ≡ Some b) (sym pushed) (subst (λ j. slice_get (blocks ++ b ∷ []) j ≡ Some b) (s.count ∙ sym same) (at_end blocks b)); fits = subst (λ z. Ever w new (λ v. BlockFits cps v z b)) q laid.fits });
      }

  -- what is asked for sees only variables that there are
  pub blocks_see : (old work : Work) (blocks : List Block) (place : ℕ) (r : Request) → BlocksSoFar old work blocks place → AllByRecursion (SeesBelow old.next) old.requests.items → slice_get work.requests.items place ≡ Some r → SeesBelow work.next r
  blocks_see old work blocks place r s first_ones e =
      each_at (SeesBelow work.next) work.requests.items place r
      (subst (AllByRecursion (SeesBelow work.next)) (sym s.adds.requests)
      (each_append (SeesBelow work.next) old.requests.items s.adds.added (each_more (SeesBelow old.next) (SeesBelow work.next) old.requests.items (sees_more old.next work.next s.grows.next) first_ones) s.adds.sees)) e

  pub blocks_all : (old new : Work) (blocks : List Block) (place : ℕ) → BlocksSoFar old new blocks place → length new.requests.items ≤ place → AreLaid cps w old new blocks
  blocks_all old new blocks place s le = record {
    grows = s.grows;
    adds = s.adds;
    later = s.later;
    count = let c = s.count in let h = s.within in omega (arith, c, h, le);
    fits = λ k p e.
        let lt = slice_get_within (purposes_of w new.requests.items) k p e in
        let n = length-map new.requests.items (purpose_of w) in
        let fit = s.fits k p (omega (arith, lt, n, le)) e in
        subst (λ o. IsSomeAnd o (λ b. Ever w new (λ v. BlockFits cps v p b))) (sym fit.is) fit.fits;
  }

  -- ---- all of it

  pub some_more : {X : Type 0} (P Q : X → Type 0) (o : Option X) → ((x : X) → P x → Q x) → IsSomeAnd o P → IsSomeAnd o Q
  some_more P Q None f h = h
  some_more P Q (Some x) f h = f x h

  unfoldable pub laid_out : (one two three : Work) (p : Frames) (blocks : List Block) (vars : List Var) (site : Around) → w.first ≡ first_lams cps → ((l : ℕ) → length (lam_needs w l) ≤ cps.shared.size) → StandFirst w w.first one.requests.items → two.requests.items ≡ one.requests.items ++ For.Begins vars site cps.entry ∷ []
      → p.entry ≡ length one.requests.items → vars ≡ [] → site ≡ record { joins = []; own = None; catches = [] } → AreLaid cps w two three blocks → p.blocks.items ≡ blocks → p.templates.items ≡ three.templates.items → p.shared ≡ cps.shared → ((x : ℕ) → is_assigned cps x ≡ false) → IsLaidOut cps p
  laid_out one two three p blocks vars site first small stand asked entry none bare laid same templates shared unassigned =
      let final = sketch_of w (purposes_of w three.requests.items) three.templates.items in
      let start : Purpose = Begins (record { vars = []; exits = NoExit; catches = []; term = cps.entry }) in
      let there : (k : ℕ) (r : Request) → slice_get two.requests.items k ≡ Some r → IsFor final k (purpose_of w r) = λ k r e. laid.grows.requests k (purpose_of w r) (slice_get-map (purpose_of w) two.requests.items k ∙ ap (option_map (purpose_of w)) e) in
      record {
        sketch = final;
        shared = shared;
        count = length-map three.requests.items (purpose_of w) ∙ laid.count ∙ ap length (sym same);
        entry = subst (λ k. IsFor final k start) (sym entry)
            (subst (λ a. IsFor final (length one.requests.items) (purpose_of w (For.Begins [] a cps.entry))) bare (subst (λ vs. IsFor final (length one.requests.items) (purpose_of w (For.Begins vs site cps.entry))) none
            (there (length one.requests.items) (For.Begins vars site cps.entry) (subst (λ zs. slice_get zs (length one.requests.items) ≡ Some (For.Begins vars site cps.entry)) (sym asked) (at_end one.requests.items (For.Begins vars site cps.entry))))));
        firsts = λ l lt. let h = stand.1 l (omega (arith, lt, first)) in
            (there l (For.CodeOf l) (subst (λ zs. slice_get zs l ≡ Some (For.CodeOf l)) (sym asked) (get_front one.requests.items (For.Begins vars site cps.entry ∷ []) l (For.CodeOf l) h.0)), h.1);
        blocks = λ k q e. subst (λ bs. IsSomeAnd (slice_get bs k) (BlockFits cps final q)) (sym same)
            (some_more (λ b. Ever w three (λ v. BlockFits cps v q b)) (BlockFits cps final q) (slice_get blocks k) (λ b h. h (purposes_of w three.requests.items) three.templates.items (λ j x z. z) (λ j x z. z)) (laid.fits k q e));
        small = small;
        templates = templates;
        unassigned = unassigned;
      }
