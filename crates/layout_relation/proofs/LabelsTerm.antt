-- Names whose closures see each other.
use Rattle.std.proofs.Common.{◌≡◌, ℕ, suc, ◌+◌, ◌*◌, ◌≤◌, ◌<◌, ◌==◌, false, if◌then◌else◌, List, [], ◌∷◌, ◌++◌, length, Some, refl, sym, ap, subst, ◌∙◌, arith, inl, inr, ⊎_elim}
use Rattle.t_base.specs.declared.basics.Var.{Var}
use Rattle.t_prim.specs.Values.{Val, ClosureV}
use Rattle.std.specs.Prelude.{sum_by}
use Rattle.std.specs.List.{AllByRecursion}
use Rattle.cps_ir.specs.Reaches.{is_in}
use Rattle.cps_ir.specs.declared.terms.Term.TheVariants as Node
use Rattle.cps_ir.specs.declared.terms.Cps.{Cps}
use Rattle.cps_ir.specs.States.{Meant, Direct, Bound, taking, with_closures, Scope, State, Program, marked, all_escape, At, going as going_to}
use Rattle.cps_ir.specs.Giving.{lam_words}
use Rattle.cps_ir.specs.Running.{performed, new_closures, closures_of}
use Rattle.frame_ir.specs.declared.forms.FrameOp.{FrameOp}
use Rattle.frame_ir.specs.declared.forms.FrameEnd.{FrameEnd}
use Rattle.frame_ir.specs.declared.forms.Frames.{Frames}
use Rattle.frame_ir.specs.Values.{Lasting, Env, value_at}
use Rattle.frame_ir.specs.States.{Running, State as FrameState, going}
use Rattle.frame_ir.specs.Groups.{makings, with_addresses, addressed, youngest_birth}
use Rattle.layout_relation.specs.Links.{IsIn, first as at_first, later, IsTied, Links, closure}
use Rattle.layout_relation.specs.Contexts.{Context, Exits, IsUnneeded, IsFresh, IsUnused, paired}
use Rattle.layout_relation.specs.Laid.{Sketch, numbers, AreDistinct, Labels, labels_none, labels_one, made_by, labelled, GoesOn, StartsApart, IsLaidOut}
use Rattle.layout_relation.specs.Related.{HoldAll, Leads, leads_bound, Waits}
use Rattle.layout_relation.proofs.Growing.{hold_grows, waits_grow}
use Rattle.layout_relation.proofs.Lists.{in_left, in_right, in_either, in_cases, in_none, in_is_not, all_in}
use Rattle.layout_relation.proofs.Scopes.{other_meant, eqb_flip, eqb_same, hold_more}
use Rattle.layout_relation.proofs.Made.{ties as ties_of, tied, tied_extends, tie_at, Closes, made_more, labels_make}
use Rattle.layout_relation.proofs.Arguments.{TiedFrom}
use Rattle.layout_relation.proofs.Calling.{bounds, bind_all}
use Rattle.layout_relation.proofs.Paths.{more_path}
use Rattle.layout_relation.proofs.Preparing.{remade, group}
use Rattle.layout_relation.proofs.Arriving.{bound_later, arrives_after}
use Rattle.layout_relation.proofs.Handing.{LowBelow, Reaches, found_first, direct_same, goes_arrives}
use Rattle.layout_relation.proofs.Staged.{Staged}

module _ (cps : Cps) (p : Frames) (laid : IsLaidOut cps p) (Low : ℕ → ℕ → Type 0) where
  abbrev w : Sketch
  w = laid.sketch

  abbrev P : Program
  P = marked cps all_escape

  abbrev small_needs : (l : ℕ) → length (w.needs l) ≤ cps.shared.size
  small_needs l = laid.small l

  closures_count : (lams : List ℕ) (scope : Scope) → length (closures_of lams scope) ≡ length lams
  closures_count [] scope = refl
  closures_count (l ∷ lams) scope = ap suc (closures_count lams scope)

  -- the variables that are made are those of the names
  made_is : (vars : List (ℕ × ℕ)) (xs : List Var) (lams : List ℕ) (ms : List FrameOp) (tos : List Var) → Labels cps w vars xs lams ms tos → made_by ms ≡ numbers tos
  made_is vars xs lams ms tos labels_none = refl
  made_is vars xs lams ms tos (labels_one x l to code kept ys ls ns ts h rest) = ap (λ zs. to.0 ∷ zs) (made_is vars ys ls ns ts rest)

  labels_count : (vars : List (ℕ × ℕ)) (xs : List Var) (lams : List ℕ) (ms : List FrameOp) (tos : List Var) (n : ℕ) → Labels cps w vars xs lams ms tos → length xs ≡ length (new_closures n lams)
  labels_count vars xs lams ms tos n labels_none = refl
  labels_count vars xs lams ms tos n (labels_one x l to code kept ys ls ns ts h rest) = ap suc (labels_count vars ys ls ns ts (suc n) rest)

  names_count : (vars : List (ℕ × ℕ)) (xs : List Var) (lams : List ℕ) (ms : List FrameOp) (tos : List Var) → Labels cps w vars xs lams ms tos → length lams ≡ length xs
  names_count vars xs lams ms tos labels_none = refl
  names_count vars xs lams ms tos (labels_one x l to code kept ys ls ns ts h rest) = ap suc (names_count vars ys ls ns ts rest)

  -- one name more is first or last
  shuffle : (q : ℕ × ℕ) (xs ys : List (ℕ × ℕ)) (r : ℕ × ℕ) → IsIn r (q ∷ xs ++ ys) → IsIn r (xs ++ q ∷ ys)
  shuffle q xs ys r h = ⊎_elim
      (λ e. subst (λ z. IsIn z (xs ++ q ∷ ys)) (sym e) (in_right q xs (q ∷ ys) (at_first q ys)))
      (λ k. ⊎_elim (λ a. in_left r xs (q ∷ ys) a) (λ b. in_right r xs (q ∷ ys) (later r q ys b)) (in_either r xs ys k))
      (in_cases r q (xs ++ ys) h)

  -- names that none of these is, and variables that none of these is held in
  abbrev pub NamesApart : List ℕ → List (ℕ × ℕ) → Type 0
  NamesApart xs held = (x : ℕ) → IsIn x xs → (a b : ℕ) → IsIn (a, b) held → (a == x) ≡ false

  abbrev pub HoldersApart : List ℕ → List (ℕ × ℕ) → Type 0
  HoldersApart ys held = (y : ℕ) → IsIn y ys → (a b : ℕ) → IsIn (a, b) held → (b == y) ≡ false

  scope_later : (links : Links) (scope : Scope) (env : Env) (held : List (ℕ × ℕ)) (x : ℕ) (meant : Meant) → ((a b : ℕ) → IsIn (a, b) held → (a == x) ≡ false) → HoldAll w links scope env held → HoldAll w links (Bound x meant ∷ scope) env held
  scope_later links scope env held x meant apart h a b i =
      let k = h a b i in
      record { meant = k.meant; value = k.value; is = other_meant x a meant scope (eqb_flip a x (apart a b i)) ∙ k.is; at = k.at; same = k.same }

  first_apart : (x : ℕ) (xs : List ℕ) (held : List (ℕ × ℕ)) (y : ℕ) → is_in xs x ≡ false → NamesApart (x ∷ xs) held → NamesApart xs ((x, y) ∷ held)
  first_apart x xs held y e apart z i a b k = ⊎_elim
      (λ q. subst (λ c. (c == z) ≡ false) (sym (ap {A = ℕ × ℕ} {B = ℕ} (λ r. r.0) q)) (eqb_flip z x (in_is_not xs x z e i)))
      (λ r. apart z (later z x xs i) a b r)
      (in_cases (a, b) (x, y) held k)

  second_apart : (y : ℕ) (ys : List ℕ) (held : List (ℕ × ℕ)) (x : ℕ) → is_in ys y ≡ false → HoldersApart (y ∷ ys) held → HoldersApart ys ((x, y) ∷ held)
  second_apart y ys held x e apart z i a b k = ⊎_elim
      (λ q. subst (λ c. (c == z) ≡ false) (sym (ap {A = ℕ × ℕ} {B = ℕ} (λ r. r.1) q)) (eqb_flip z y (in_is_not ys y z e i)))
      (λ r. apart z (later z y ys i) a b r)
      (in_cases (a, b) (x, y) held k)

  -- the names hold their closures, and what was held is held
  labels_hold : (links : Links) (vars : List (ℕ × ℕ)) (xs : List Var) (lams : List ℕ) (ms : List FrameOp) (tos : List Var) (scope : Scope) (env : Env) (held : List (ℕ × ℕ)) (i j birth : ℕ) → Labels cps w vars xs lams ms tos → HoldAll w links scope env held → NamesApart (numbers xs) held
      → HoldersApart (made_by ms) held → AreDistinct (numbers xs) → AllByRecursion (λ x. w.celled x.0 ≡ false) xs → TiedFrom cps w small_needs links scope vars links i j (length lams)
      → HoldAll w links (bounds xs (new_closures i lams) scope) (with_addresses j birth (makings ms) env) (paired (numbers xs) tos ++ held)
  labels_hold links vars xs lams ms tos scope env held i j birth labels_none h names holders distinct plain ties = h
  labels_hold links vars xs lams ms tos scope env held i j birth (labels_one x l to code kept ys ls ns ts m rest) h names holders distinct plain ties =
      let scope2 : Scope = Bound x.0 (Direct (ClosureV i)) ∷ scope in
      let env2 : Env = (to.0, Lasting (ClosureV j)) ∷ env in
      let h1 = scope_later links scope env held x.0 (Direct (ClosureV i)) (λ a b q. names x.0 (at_first x.0 (numbers ys)) a b q) h in
      let h2 = bound_later w links scope2 env held to.0 (Lasting (ClosureV j)) (λ a b q. holders to.0 (at_first to.0 (made_by ns)) a b q) h1 in
      let tie : IsTied links.closures i j = subst (λ a. IsTied links.closures a j) (let e : i + 0 ≡ i = omega arith in e) (subst (λ b. IsTied links.closures (i + 0) b) (let e : j + 0 ≡ j = omega arith in e) (ties 0 (omega arith))) in
      let h3 = hold_more w links scope2 env2 held x.0 to.0 (record { meant = Direct (ClosureV i); value = Lasting (ClosureV j); is = found_first cps p laid Low x.0 (Direct (ClosureV i)) scope; at = ap (λ b. if b then Some (Lasting (ClosureV j)) else value_at env to.0) (eqb_same to.0); same = direct_same cps p laid Low links x.0 (ClosureV i) (ClosureV j) plain.0 (closure i j tie) }) h2 in
      let more = labels_hold links vars ys ls ns ts scope2 env2 ((x.0, to.0) ∷ held) (suc i) (j + 1) birth rest h3 (first_apart x.0 (numbers ys) held to.0 distinct.0 names) (second_apart to.0 (made_by ns) held x.0 m.later holders) distinct.1 plain.1
      (λ k lt. subst (λ a. IsTied links.closures a (j + 1 + k)) (let e : i + suc k ≡ suc i + k = omega arith in e) (subst (λ b. IsTied links.closures (i + suc k) b) (let e : j + suc k ≡ j + 1 + k = omega arith in e) (ties (suc k) (omega (arith, lt))))) in
      λ a b q. more a b (shuffle (x.0, to.0) (paired (numbers ys) ts) held (a, b) q)

  fresh_apart : (c : Context) (xs : List Var) → AllByRecursion (λ x. IsFresh c x.0 × (w.celled x.0 ≡ false)) xs → NamesApart (numbers xs) c.vars
  fresh_apart c [] h x i a b k = absurd (in_none x i)
  fresh_apart c (y ∷ xs) h x i a b k = ⊎_elim
      (λ e. subst (λ z. (a == z) ≡ false) (sym e) (all_in (λ p. (p.0 == y.0) ≡ false) c.vars (a, b) h.0.0.0 k))
      (λ r. fresh_apart c xs h.1 x r a b k)
      (in_cases x y.0 (numbers xs) i)

  unused_apart : (vars : List (ℕ × ℕ)) (ys : List Var) → AllByRecursion (λ y. IsUnused vars y.0) ys → HoldersApart (numbers ys) vars
  unused_apart vars [] h x i a b k = absurd (in_none x i)
  unused_apart vars (y ∷ ys) h x i a b k = ⊎_elim
      (λ e. subst (λ z. (b == z) ≡ false) (sym e) (all_in (λ p. (p.1 == y.0) ≡ false) vars (a, b) h.0 k))
      (λ r. unused_apart vars ys h.1 x r a b k)
      (in_cases x y.0 (numbers ys) i)

  plain_names : (c : Context) (xs : List Var) → AllByRecursion (λ x. IsFresh c x.0 × (w.celled x.0 ≡ false)) xs → AllByRecursion (λ x. w.celled x.0 ≡ false) xs
  plain_names c [] h = tt
  plain_names c (x ∷ xs) h = (h.0.1, plain_names c xs h.1)

  names_lead : (exits : Exits) (xs : List Var) (vs : List Val) (scope : Scope) (c : Context) → c.exits ≡ exits → AllByRecursion (λ x. IsFresh c x.0 × (w.celled x.0 ≡ false)) xs → Leads scope exits → Leads (bounds xs vs scope) exits
  names_lead exits [] vs scope c e h leads = leads
  names_lead exits (x ∷ xs) [] scope c e h leads = leads
  names_lead exits (x ∷ xs) (v ∷ vs) scope c e h leads = names_lead exits xs vs (Bound x.0 (Direct v) ∷ scope) c e h.1 (leads_bound x.0 (Direct v) scope exits (subst (λ es. IsUnneeded es x.0) e h.0.0.1) leads)

  pub labels_reaches : (c : Context) (t : ℕ) (scope : Scope) (env : Env) (s : State) (u : FrameState) (xs : List Var) (lams : List ℕ) (body : ℕ) (ms : List FrameOp) (tos : List Var) (ops : List FrameOp) (last : FrameEnd)
      → Labels cps w (paired (numbers xs) tos ++ c.vars) xs lams ms tos → AllByRecursion (λ x. IsFresh c x.0 × (w.celled x.0 ≡ false)) xs → AreDistinct (numbers xs) → AllByRecursion (λ y. IsUnused c.vars y.0) tos
      → StartsApart ops → w.rank body < w.rank t → GoesOn cps w (labelled xs tos c) body ops last → Staged cps p w Low c scope env s (performed P scope (Node.Labels xs lams body) s) u
      → Reaches cps p w Low (performed P scope (Node.Labels xs lams body) s) (going (Running (ms ++ ops) last env) u) (length xs * (1 + cps.shared.size) + (cps.shared.size + 4)) (w.rank t)
  labels_reaches c t scope env s u xs lams body ms tos ops last labels fresh distinct unused apart lower onward g =
      let i = length s.closures in
      let j = length u.closures in
      let vs = new_closures i lams in
      let inner = bounds xs vs scope in
      let cs = closures_of lams inner in
      let words = sum_by (lam_words P) lams in
      let new = tied g.links i j cs in
      let more = tied_extends g.links i j cs in
      let s2 = taking words (with_closures s cs) in
      let final = going_to (At body inner) s2 in
      let there : performed P scope (Node.Labels xs lams body) s ≡ final = bind_all cps p laid Low xs vs scope s (λ inner t. going_to (At body inner) (taking words (with_closures t (closures_of lams inner)))) (labels_count (paired (numbers xs) tos ++ c.vars) xs lams ms tos i labels) in
      let count : length cs ≡ length lams = closures_count lams inner in
      let ties : TiedFrom cps w small_needs new scope (paired (numbers xs) tos ++ c.vars) new i j (length lams) = λ k lt. in_left (i + k, j + k) (ties_of i j cs) g.links.closures (tie_at cs i j k (omega (arith, lt, count))) in
      let held = labels_hold new (paired (numbers xs) tos ++ c.vars) xs lams ms tos scope env c.vars i j (youngest_birth u) labels (hold_grows g.links new more w scope env c.vars g.held) (fresh_apart c xs fresh) (subst (λ ys. HoldersApart ys c.vars) (sym (made_is (paired (numbers xs) tos ++ c.vars) xs lams ms tos labels)) (unused_apart c.vars tos unused)) distinct (plain_names c xs fresh) ties in
      let env2 = addressed (makings ms) env u in
      let gr = group cps p w laid.small Low new inner (paired (numbers xs) tos ++ c.vars) lams ms ops tos last env u (labels_make cps w (paired (numbers xs) tos ++ c.vars) xs lams ms tos labels) apart held in
      let closes : Closes s s2 cs words = record { parts = refl; waiting = refl; moves = refl } in
      let made2 = made_more cps w g.links s s2 u gr.state cs gr.records words g.made closes gr.builds gr.words gr.same in
      let at = going (Running ops last env2) gr.state in
      let heap = ap (λ z. z.store.heap) there in
      let low0 = g.made.store.heap in
      let path = gr.path (λ h le. g.low h (length u.live) (omega (arith, le, heap, low0)) (inl (omega arith))) in
      let waits = subst (λ fs. Waits w new fs c.catches s.waiting gr.state.live) (sym gr.builds.frames) (subst (λ l. Waits w new u.frames c.catches s.waiting l) (sym gr.builds.live) (waits_grow g.links new more w u.frames u.frames (λ i f h. h) c.catches s.waiting u.live g.waits)) in
      let lows : LowBelow cps p laid Low gr.state = λ n le. g.low gr.state.store.heap n (let e = made2.store.heap in omega (arith, e, heap)) (inl (let e = ap length gr.builds.live in omega (arith, le, e))) in
      let arrives = goes_arrives cps p laid Low new final gr.state (labelled xs tos c) body inner ops last env2 onward held (names_lead c.exits xs vs scope c refl fresh g.leads) waits (remade cps w new s2 final gr.state gr.state made2 refl refl) refl lows in
      let names = names_count (paired (numbers xs) tos ++ c.vars) xs lams ms tos labels in
      let path2 = more_path p Low (going (Running (ms ++ ops) last env) u) at (length lams * (1 + cps.shared.size)) (length xs * (1 + cps.shared.size)) (let e = ap (λ n. n * (1 + cps.shared.size)) names in omega (arith, e)) path in
      subst (λ f. Reaches cps p w Low f (going (Running (ms ++ ops) last env) u) (length xs * (1 + cps.shared.size) + (cps.shared.size + 4)) (w.rank t)) (sym there) (record {
        arrives = arrives_after cps p w Low final (going (Running (ms ++ ops) last env) u) at (length xs * (1 + cps.shared.size)) (cps.shared.size + 4) path2 arrives;
        goes = inr lower;
      })
