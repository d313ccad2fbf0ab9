-- Closures that are made at once: their addresses, their records, and that what was made stays the same.
use Rattle.std.proofs.Common.{◌≡◌, ℕ, zero, suc, ◌+◌, ◌≤◌, ◌<◌, nat_eq, Bool, true, false, List, [], ◌∷◌, ◌++◌, length, slice_get, refl, sym, ap, subst, ◌∙◌, arith, ⊎_elim}
use Rattle.std.proofs.lemmas.Bool.{eq-eqb, ne_eqb, eqb-true, eqb-false}
use Rattle.std.proofs.lemmas.Option.{slice_get_within}
use Rattle.t_base.specs.declared.basics.Var.{Var}
use Rattle.cps_ir.specs.declared.terms.Cps.{Cps}
use Rattle.cps_ir.specs.States.{Closure, State}
use Rattle.frame_ir.specs.declared.forms.Place.TheVariants as At
use Rattle.frame_ir.specs.declared.forms.FrameOp.{FrameOp}
use Rattle.frame_ir.specs.declared.forms.FrameOp.TheVariants as Op
use Rattle.frame_ir.specs.Values.{Closure as FrameClosure, record_words}
use Rattle.frame_ir.specs.States.{State as FrameState}
use Rattle.frame_ir.specs.Groups.{made}
use Rattle.layout_relation.specs.Links.{IsIn, first, later, Zipped, Ties, IsTied, Links, Extends, IsOneToOne, SameStore}
use Rattle.layout_relation.specs.Laid.{Sketch, MakesClosure, Labels, labels_none, labels_one}
use Rattle.layout_relation.specs.Related.{SameClosure, ClosuresAt, Parts, parts_of, FrameParts, parts_at, SameParts, SameMade}
use Rattle.layout_relation.proofs.Lists.{get_front, get_behind, in_right, in_cases, in_none, in_either, some_at, zipped_at}
use Rattle.layout_relation.proofs.Growing.{store_grows, globals_grow, cells_grow, objects_grow, closure_grows}

-- ---- ties of new closures

abbrev pub ties : {X : Type 0} → ℕ → ℕ → List X → Ties
ties i j [] = []
ties i j (x ∷ xs) = (i, j) ∷ ties (suc i) (suc j) xs

abbrev pub tied : {X : Type 0} → Links → ℕ → ℕ → List X → Links
tied links i j xs = record links { closures = ties i j xs ++ links.closures }

pub tied_extends : {X : Type 0} (links : Links) (i j : ℕ) (xs : List X) → Extends links (tied links i j xs)
tied_extends links i j xs = record { closures = λ a b h. in_right (a, b) (ties i j xs) links.closures h; escapes = λ a b h. h; objects = omega arith; cells = omega arith }

-- a new tie: the same distance from both first numbers
pub record NewTie (n i j a b : ℕ) : Type 0 where
  pub place : ℕ
  pub within : place < n
  pub left : a ≡ i + place
  pub right : b ≡ j + place

fst_same : (a b c d : ℕ) → ◌≡◌ {A = ℕ × ℕ} (a, b) (c, d) → a ≡ c
fst_same a b c d e = ap {A = ℕ × ℕ} {B = ℕ} (λ p. p.0) e

snd_same : (a b c d : ℕ) → ◌≡◌ {A = ℕ × ℕ} (a, b) (c, d) → b ≡ d
snd_same a b c d e = ap {A = ℕ × ℕ} {B = ℕ} (λ p. p.1) e

later_tie : (n i j : ℕ) (p : ℕ × ℕ) → NewTie n (suc i) (suc j) p.0 p.1 → NewTie (suc n) i j p.0 p.1
later_tie n i j p t = let w = t.within in let a = t.left in let b = t.right in record { place = suc t.place; within = omega (arith, w); left = omega (arith, a); right = omega (arith, b) }

pub new_tie : {X : Type 0} (xs : List X) (i j : ℕ) (p : ℕ × ℕ) → IsIn p (ties i j xs) → NewTie (length xs) i j p.0 p.1
new_tie [] i j p h = absurd (in_none p h)
new_tie (x ∷ xs) i j p h = ⊎_elim
    (λ e. record { place = 0; within = omega arith; left = let same = ap {A = ℕ × ℕ} {B = ℕ} (λ q. q.0) e in omega (arith, same); right = let same = ap {A = ℕ × ℕ} {B = ℕ} (λ q. q.1) e in omega (arith, same) })
    (λ k. later_tie (length xs) i j p (new_tie xs (suc i) (suc j) p k))
    (in_cases p (i, j) (ties (suc i) (suc j) xs) h)

pub tie_at : {X : Type 0} (xs : List X) (i j k : ℕ) → k < length xs → IsIn (i + k, j + k) (ties i j xs)
tie_at [] i j k lt = absurd (omega (arith, lt))
tie_at (x ∷ xs) i j zero lt = subst (λ a. IsIn (a, j + 0) ((i, j) ∷ ties (suc i) (suc j) xs)) (let e : i ≡ i + 0 = omega arith in e) (subst (λ b. IsIn (i, b) ((i, j) ∷ ties (suc i) (suc j) xs)) (let e : j ≡ j + 0 = omega arith in e) (first (i, j) (ties (suc i) (suc j) xs)))
tie_at (x ∷ xs) i j (suc k) lt =
    subst (λ a. IsIn (a, j + suc k) ((i, j) ∷ ties (suc i) (suc j) xs)) (let e : suc i + k ≡ i + suc k = omega arith in e)
    (subst (λ b. IsIn (suc i + k, b) ((i, j) ∷ ties (suc i) (suc j) xs)) (let e : suc j + k ≡ j + suc k = omega arith in e)
    (later (suc i + k, suc j + k) (i, j) (ties (suc i) (suc j) xs) (tie_at xs (suc i) (suc j) k (omega (arith, lt)))))

-- two numbers, as far apart as two others
eqb_alike : (a b c d : ℕ) → (a ≡ b → c ≡ d) → (c ≡ d → a ≡ b) → nat_eq a b ≡ nat_eq c d
eqb_alike a b c d f g = by (nat_eq a b) refl
  where
    by : (t : Bool) → nat_eq a b ≡ t → t ≡ nat_eq c d
    by true e = sym (eq-eqb c d (f (eqb-true a b e)))
    by false e = sym (ne_eqb c d (λ (h : c ≡ d). eqb-false a b e (g h)))

-- where the numbers that are tied so far are below the new ones
pub still_one : {X : Type 0} (xs : List X) (old : Ties) (i j : ℕ) → ((a b : ℕ) → IsTied old a b → (a < i) × (b < j)) → IsOneToOne old → IsOneToOne (ties i j xs ++ old)
still_one xs old i j below one a b c d h k = ⊎_elim
    (λ h1. let x = new_tie xs i j (a, b) h1 in let x1 = x.left in let x2 = x.right in ⊎_elim
    (λ k1. let y = new_tie xs i j (c, d) k1 in let y1 = y.left in let y2 = y.right in eqb_alike a c b d (λ e. omega (arith, e, x1, x2, y1, y2)) (λ e. omega (arith, e, x1, x2, y1, y2)))
    (λ k2. let y = below c d k2 in let y1 = y.0 in let y2 = y.1 in eqb_alike a c b d (λ e. absurd (omega (arith, e, x1, y1))) (λ e. absurd (omega (arith, e, x2, y2))))
    (in_either (c, d) (ties i j xs) old k))
    (λ h2. let x = below a b h2 in let x1 = x.0 in let x2 = x.1 in ⊎_elim
    (λ k1. let y = new_tie xs i j (c, d) k1 in let y1 = y.left in let y2 = y.right in eqb_alike a c b d (λ e. absurd (omega (arith, e, x1, y1))) (λ e. absurd (omega (arith, e, x2, y2))))
    (λ k2. one a b c d h2 k2)
    (in_either (c, d) (ties i j xs) old k))
    (in_either (a, b) (ties i j xs) old h)

-- ---- what is seen of states behind the making

-- closures more, with so many words of heap
pub record Closes (s t : State) (cs : List Closure) (words : ℕ) : Type 0 where
  pub parts : parts_of t ≡ record (parts_of s) { store = record s.store { heap = s.store.heap + words }; closures = s.closures ++ cs }
  pub waiting : t.waiting ≡ s.waiting
  pub moves : t.moves ≡ s.moves

abbrev pub words_in : List FrameClosure → ℕ
words_in [] = 0
words_in (r ∷ rs) = record_words (length r.captured) + words_in rs

abbrev pub moves_in : List FrameClosure → ℕ
moves_in [] = 0
moves_in (r ∷ rs) = 1 + length r.captured + moves_in rs

pub record Builds (s t : FrameState) (rs : List FrameClosure) : Type 0 where
  pub parts : parts_at t ≡ record (parts_at s) { store = record s.store { heap = s.store.heap + words_in rs }; closures = s.closures ++ rs }
  pub frames : t.frames ≡ s.frames
  pub live : t.live ≡ s.live
  pub moves : t.moves ≡ s.moves + moves_in rs

-- what was made stays the same
pub made_more : (cps : Cps) (w : Sketch) (links : Links) (s s2 : State) (t t2 : FrameState) (cs : List Closure) (rs : List FrameClosure) (words : ℕ) → SameMade cps w links s t → Closes s s2 cs words → Builds t t2 rs
    → words_in rs ≤ words → Zipped (SameClosure w (tied links (length s.closures) (length t.closures) cs)) cs rs → SameMade cps w (tied links (length s.closures) (length t.closures) cs) s2 t2
made_more cps w links s s2 t t2 cs rs words h c b few same =
    let new = tied links (length s.closures) (length t.closures) cs in
    let more = tied_extends links (length s.closures) (length t.closures) cs in
    let below : (a d : ℕ) → IsTied links.closures a d → (a < length s.closures) × (d < length t.closures) = λ a d k. let at = h.closures a d k in (slice_get_within s.closures a at.left at.is, slice_get_within t.closures d at.right at.at) in
    let there : (i j : ℕ) → IsTied new.closures i j → ClosuresAt w new (s.closures ++ cs) (t.closures ++ rs) i j = λ i j k. ⊎_elim
    (λ n. new_there (new_tie cs (length s.closures) (length t.closures) (i, j) n))
    (λ o. let at = h.closures i j o in record { left = at.left; right = at.right; is = get_front s.closures cs i at.left at.is; at = get_front t.closures rs j at.right at.at; same = closure_grows links new more w at.left at.right at.same })
    (in_either (i, j) (ties (length s.closures) (length t.closures) cs) links.closures k) in
    let x : Parts = record (parts_of s) { store = record s.store { heap = s.store.heap + words }; closures = s.closures ++ cs } in
    let y : FrameParts = record (parts_at t) { store = record t.store { heap = t.store.heap + words_in rs }; closures = t.closures ++ rs } in
    let all : SameParts cps w new x y = record {
      one = record { closures = still_one cs links.closures (length s.closures) (length t.closures) below h.one.closures; escapes = h.one.escapes };
      store = wider (store_grows links new more s.store t.store h.store);
      closures = there;
      globals = globals_grow links new more s.globals t.globals h.globals;
      count = h.count;
      procedures = λ g code e. let k = h.procedures g code e in (k.0, more.closures code code k.1);
      cells = cells_grow links new more s.locations t.cells h.cells;
      objects = objects_grow links new more w s.objects t.objects h.objects;
      located = h.located;
      objected = h.objected;
      escapes = h.escapes;
    } in
    subst (λ z. SameParts cps w new z (parts_at t2)) (sym c.parts) (subst (λ z. SameParts cps w new x z) (sym b.parts) all)
  where
    new_there : {i j : ℕ} → NewTie (length cs) (length s.closures) (length t.closures) i j → ClosuresAt w (tied links (length s.closures) (length t.closures) cs) (s.closures ++ cs) (t.closures ++ rs) i j
    new_there {i} {j} n =
        let found = some_at cs n.place n.within in
        let other = zipped_at (SameClosure w (tied links (length s.closures) (length t.closures) cs)) cs rs n.place found.0 same found.1 in
        record {
          left = found.0;
          right = other.y;
          is = ap (slice_get (s.closures ++ cs)) n.left ∙ get_behind s.closures cs n.place ∙ found.1;
          at = ap (slice_get (t.closures ++ rs)) n.right ∙ get_behind t.closures rs n.place ∙ other.is;
          same = other.related;
        }

    wider : {links : Links} → SameStore links s.store t.store → SameStore links (record s.store { heap = s.store.heap + words }) (record t.store { heap = t.store.heap + words_in rs })
    wider st = record { names = st.names; strings = st.strings; pairs = st.pairs; vectors = st.vectors; output = st.output; heap = let low = st.heap in omega (arith, low, few) }

-- ---- the making

-- the closures that operations make, in these variables
pub data Makes (cps : Cps) (w : Sketch) (vars : List (ℕ × ℕ)) : List ℕ → List FrameOp → List Var → Type 0 where
  makes_none : Makes cps w vars [] [] []
  makes_one : (l : ℕ) (to : Var) (code : ℕ) (kept : List Var) (lams : List ℕ) (made : List FrameOp) (tos : List Var) → MakesClosure cps w vars l to code kept made
      → Makes cps w vars lams made tos → Makes cps w vars (l ∷ lams) (Op.Closure to code kept At.Heap ∷ made) (to ∷ tos)

pub labels_make : (cps : Cps) (w : Sketch) (vars : List (ℕ × ℕ)) (xs : List Var) (lams : List ℕ) (made : List FrameOp) (tos : List Var) → Labels cps w vars xs lams made tos → Makes cps w vars lams made tos
labels_make cps w vars xs lams made tos labels_none = makes_none
labels_make cps w vars xs lams made tos (labels_one x l to code kept ys ls ms ts h rest) = makes_one l to code kept ls ms ts h (labels_make cps w vars ys ls ms ts rest)
