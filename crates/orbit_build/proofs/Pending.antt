-- Tasks that are done, and what is then still to be put out.
use Rattle.std.proofs.Common.{◌≡◌, true, ℕ, zero, suc, ◌+◌, ◌<◌, ◌≤◌, List, [], ◌∷◌, ◌++◌, Option, Some, None, slice_get, to_z, of_z, w32, refl, sym, ap, ◌∙◌, subst, arith, append_assoc, append-nil}
use Rattle.std.specs.Prelude.{ℤ, pos, negsuc, sum_by, option_map}
use Rattle.std.specs.Option.{IsSome}
use Rattle.std.proofs.lemmas.List.Sums.{sum_by-append}
use Rattle.std.proofs.lemmas.Bool.{ltb-true}
use Rattle.std.proofs.lemmas.Int.{to_z-of_z}
use Rattle.m68020_code.specs.Table.{spelling}
use Rattle.t_core.specs.declared.forms.Core.{Core}
use Rattle.t_prim.specs.Operands.{in_range}
use Rattle.orbit_build.specs.declared.term.Task.{Task}
use Rattle.orbit_build.specs.declared.term.Task.TheVariants as task
use Rattle.orbit_build.specs.Sums.{Term, Literal, Sum, HasFixnums, IsTerm, IsTermAt, most_open, as_fixnum, as_sum, Places, places}
use Rattle.orbit_build.specs.Code.{word, load, save, add_saved, bytes_of, term_code}
use Rattle.orbit_build.specs.Tasks.{IsNodeCode, IsCodeOf, AreCode, Leads, node_steps, steps}

none_some : {A : Type 0} (x : A) → None ≡ Some x → ⊥
none_some x e = cc

-- ---- steps

pub some_steps : (key : ℕ) → 2 ≤ node_steps key
some_steps zero = omega arith
some_steps (suc key) = let h = some_steps key in omega (arith, h)

more_steps : (i key : ℕ) → i ≤ key → node_steps i ≤ node_steps key
more_steps zero key le = some_steps key
more_steps (suc i) zero le = absurd (omega arith)
more_steps (suc i) (suc key) le = let h = more_steps i key (omega arith) in omega (arith, h)

two_below : (i j key : ℕ) → i < key → j < key → node_steps i + node_steps j + 2 < node_steps key
two_below i j zero li lj = absurd (omega arith)
two_below i j (suc key) li lj =
    let a = more_steps i key (omega arith) in
    let b = more_steps j key (omega arith) in
    let c = some_steps key in
    omega (arith, a, b, c)

-- ---- what is read

-- a fixnum that was read is the same
read_back : (z : ℤ) → in_range z ≡ true → to_z w32 (of_z w32 z) ≡ z
read_back (pos n) h = to_z-of_z w32 (pos n) (record { sfits = let lt = ltb-true n 536870912 h in omega (arith, lt) })
read_back (negsuc n) h = to_z-of_z w32 (negsuc n) (record { sfits = let lt = ltb-true n 536870912 h in omega (arith, lt) })

-- ---- tasks

module _ (nodes : List Core) where
  push : (ts : List Task) (t : Task) (code rest : List ℕ) → IsCodeOf nodes t code → AreCode nodes ts rest → AreCode nodes (ts ++ t ∷ []) (code ++ rest)
  push [] t code rest h r = ([], code, refl, h, ap (λ (l : List ℕ). code ++ l) r ∙ append-nil code)
  push (u ∷ us) t code rest h r = (code ++ r.0, r.1, push us t code r.0 h r.2, r.3, ap (λ (l : List ℕ). code ++ l) r.4 ∙ sym (append_assoc code r.0 r.1))

  -- the code of the last task comes first
  record Popped (ts : List Task) (t : Task) (rest : List ℕ) : Type 0 where
    code : List ℕ
    others : List ℕ
    is : IsCodeOf nodes t code
    are : AreCode nodes ts others
    rest_is : rest ≡ code ++ others

  pop : (ts : List Task) (t : Task) (rest : List ℕ) → AreCode nodes (ts ++ t ∷ []) rest → Popped ts t rest
  pop [] t rest r = record { code = r.1; others = []; is = r.3; are = refl; rest_is = r.4 ∙ ap (λ (l : List ℕ). l ++ r.1) r.2 ∙ sym (append-nil r.1) }
  pop (u ∷ us) t rest r =
      let p = pop us t r.0 r.2 in
      record {
        code = p.code;
        others = p.others ++ r.1;
        is = p.is;
        are = (p.others, r.1, p.are, r.3, refl);
        rest_is = r.4 ∙ ap (λ (l : List ℕ). l ++ r.1) p.rest_is ∙ append_assoc p.code p.others r.1;
      }

  pub last_code : (all ts : List Task) (t : Task) (out total : List ℕ) → all ≡ ts ++ t ∷ [] → Leads nodes all out total → (code : List ℕ) × IsCodeOf nodes t code
  last_code all ts t out total e h = let p = pop ts t h.rest (subst (λ (l : List Task). AreCode nodes l h.rest) e h.code) in (p.code, p.is)

  -- the last task has put out its code
  leads_done : (ts : List Task) (t : Task) (out code total : List ℕ) → ((c : List ℕ) → IsCodeOf nodes t c → c ≡ code) → Leads nodes (ts ++ t ∷ []) out total → Leads nodes ts (out ++ code) total
  leads_done ts t out code total only h =
      let p = pop ts t h.rest h.code in
      record {
        rest = p.others;
        code = p.are;
        total_is = append_assoc out code p.others ∙ ap (λ (l : List ℕ). out ++ (l ++ p.others)) (sym (only p.code p.is)) ∙ ap (λ (l : List ℕ). out ++ l) (sym p.rest_is) ∙ h.total_is;
      }

  pub saved : (ts : List Task) (depth : ℕ) (out now : List ℕ) → now ≡ out ++ spelling (save depth) → (total : List ℕ) → Leads nodes (ts ++ task.Save depth ∷ []) out total → Leads nodes ts now total
  saved ts depth out now e total h = subst (λ (l : List ℕ). Leads nodes ts l total) (sym e) (leads_done ts (task.Save depth) out (spelling (save depth)) total (λ c k. k.1) h)

  pub added : (ts : List Task) (depth : ℕ) (out now : List ℕ) → now ≡ out ++ bytes_of (add_saved depth) → (total : List ℕ) → Leads nodes (ts ++ task.Add depth ∷ []) out total → Leads nodes ts now total
  added ts depth out now e total h = subst (λ (l : List ℕ). Leads nodes ts l total) (sym e) (leads_done ts (task.Add depth) out (bytes_of (add_saved depth)) total (λ c k. k.1) h)

  -- ---- a literal

  literal_value : (t : Term) (key : ℕ) (v : ℤ) → IsTerm nodes key t → Some v ≡ as_fixnum (slice_get nodes key) → t ≡ Literal v
  literal_value (Literal w) key v h e = let same : Some v ≡ Some w = e ∙ ap as_fixnum h in cc
  literal_value (Sum a b) key v h e = absurd (none_some v (sym (e ∙ ap as_fixnum h.2)))

  literal_fits : (key depth : ℕ) (code : List ℕ) (v : ℤ) → IsNodeCode nodes key depth code → Some v ≡ as_fixnum (slice_get nodes key) → in_range v ≡ true
  literal_fits key depth code v h e = subst HasFixnums (literal_value h.term key v h.is e) h.fixnums

  pub read_fits : (key depth : ℕ) (code : List ℕ) (v : ℤ) → IsNodeCode nodes key depth code → Some v ≡ as_fixnum (slice_get nodes key) → in_range (to_z w32 (of_z w32 v)) ≡ true
  read_fits key depth code v h e = let fits = literal_fits key depth code v h e in ap in_range (read_back v fits) ∙ fits

  pub loaded : (ts : List Task) (key depth w : ℕ) (v : ℤ) (code out now : List ℕ) → IsNodeCode nodes key depth code → Some v ≡ as_fixnum (slice_get nodes key) → w ≡ word (to_z w32 (of_z w32 v)) → now ≡ out ++ spelling (load w)
      → (total : List ℕ) → Leads nodes (ts ++ task.Node key depth ∷ []) out total → Leads nodes ts now total
  loaded ts key depth w v code out now n e is now_is total h =
      let same : w ≡ word v = is ∙ ap word (read_back v (literal_fits key depth code v n e)) in
      subst (λ (l : List ℕ). Leads nodes ts l total) (sym (now_is ∙ ap (λ (x : ℕ). out ++ spelling (load x)) same))
      (leads_done ts (task.Node key depth) out (spelling (load (word v))) total (λ c k. k.code_is ∙ ap (λ (t : Term). term_code depth t) (literal_value k.term key v k.is e)) h)

  -- ---- a sum

  -- a node that is no literal has two operands
  record Parts (key depth : ℕ) (code : List ℕ) : Type 0 where
    i : ℕ
    j : ℕ
    first : List ℕ
    second : List ℕ
    found : as_sum (slice_get nodes key) ≡ Some (places i j)
    before : i < key
    behind : j < key
    is_first : IsNodeCode nodes i depth first
    is_second : IsNodeCode nodes j (depth + 1) second
    low : depth < most_open
    code_is : code ≡ first ++ (spelling (save depth) ++ (second ++ bytes_of (add_saved depth)))

  parts_by : (t : Term) (key depth : ℕ) (code : List ℕ) → IsTerm nodes key t → HasFixnums t → depth + key < most_open → code ≡ term_code depth t → None ≡ as_fixnum (slice_get nodes key) → Parts key depth code
  parts_by (Literal v) key depth code h f low is e = absurd (none_some v (e ∙ ap as_fixnum h))
  parts_by (Sum a b) key depth code h f low is e =
      let li = h.3 in
      let lj = h.4 in
      record {
        i = h.0;
        j = h.1;
        first = term_code depth a;
        second = term_code (depth + 1) b;
        found = ap as_sum h.2;
        before = li;
        behind = lj;
        is_first = record { term = a; is = h.5; fixnums = f.0; low = omega (arith, li, low); code_is = refl };
        is_second = record { term = b; is = h.6; fixnums = f.1; low = omega (arith, lj, low); code_is = refl };
        low = omega (arith, low);
        code_is = is;
      }

  parts : (key depth : ℕ) (code : List ℕ) → IsNodeCode nodes key depth code → None ≡ as_fixnum (slice_get nodes key) → Parts key depth code
  parts key depth code h e = parts_by h.term key depth code h.is h.fixnums h.low h.code_is e

  pub sum_found : {A : Type 0} (f : A → Places) (r : Option A) (key depth : ℕ) (code : List ℕ) → option_map f r ≡ as_sum (slice_get nodes key) → IsNodeCode nodes key depth code → None ≡ as_fixnum (slice_get nodes key) → IsSome r
  sum_found {A = A} f r key depth code found h e = by_result r (found ∙ (parts key depth code h e).found)
    where
      by_result : (r : Option A) → option_map f r ≡ Some (places (parts key depth code h e).i (parts key depth code h e).j) → IsSome r
      by_result None x = absurd (none_some _ x)
      by_result (Some p) x = refl

  same_places : (p q : Places) → Some p ≡ Some q → p ≡ q
  same_places p q e = cc

  same_first : (i j k l : ℕ) → Some (places i j) ≡ Some (places k l) → i ≡ k
  same_first i j k l e = ap (λ (p : Places). p.first) (same_places (places i j) (places k l) e)

  same_second : (i j k l : ℕ) → Some (places i j) ≡ Some (places k l) → j ≡ l
  same_second i j k l e = ap (λ (p : Places). p.second) (same_places (places i j) (places k l) e)

  pub depth_low : (key depth : ℕ) (code : List ℕ) → IsNodeCode nodes key depth code → depth < most_open
  depth_low key depth code h = omega (arith, h.low)

  split_at : (ts : List Task) (key depth : ℕ) (out total : List ℕ) → (h : Leads nodes (ts ++ task.Node key depth ∷ []) out total) → (p : Popped ts (task.Node key depth) h.rest) → (q : Parts key depth p.code)
      → Leads nodes (ts ++ task.Add depth ∷ task.Node q.j (depth + 1) ∷ task.Save depth ∷ task.Node q.i depth ∷ []) out total
  split_at ts key depth out total h p q =
      let one = push ts (task.Add depth) (bytes_of (add_saved depth)) p.others (q.low, refl) p.are in
      let two = push _ (task.Node q.j (depth + 1)) q.second _ q.is_second one in
      let three = push _ (task.Save depth) (spelling (save depth)) _ (q.low, refl) two in
      let four = push _ (task.Node q.i depth) q.first _ q.is_first three in
      record {
        rest = q.first ++ (spelling (save depth) ++ (q.second ++ (bytes_of (add_saved depth) ++ p.others)));
        code = subst (λ (l : List Task). AreCode nodes l (q.first ++ (spelling (save depth) ++ (q.second ++ (bytes_of (add_saved depth) ++ p.others))))) (four_tasks ts _ _ _ _) four;
        total_is = ap (λ (l : List ℕ). out ++ l) (sym (grouped q.first (spelling (save depth)) q.second (bytes_of (add_saved depth)) p.others) ∙ ap (λ (l : List ℕ). l ++ p.others) (sym q.code_is) ∙ sym p.rest_is) ∙ h.total_is;
      }
    where
      four_tasks : (ts : List Task) (a b c d : Task) → (((ts ++ a ∷ []) ++ b ∷ []) ++ c ∷ []) ++ d ∷ [] ≡ ts ++ a ∷ b ∷ c ∷ d ∷ []
      four_tasks ts a b c d = simp append_assoc

      grouped : (f s g a o : List ℕ) → (f ++ (s ++ (g ++ a))) ++ o ≡ f ++ (s ++ (g ++ (a ++ o)))
      grouped f s g a o = simp append_assoc

  pub split : (ts : List Task) (key depth i j : ℕ) (out : List ℕ) → None ≡ as_fixnum (slice_get nodes key) → Some (places i j) ≡ as_sum (slice_get nodes key) → (total : List ℕ) → Leads nodes (ts ++ task.Node key depth ∷ []) out total
      → Leads nodes (ts ++ task.Add depth ∷ task.Node j (depth + 1) ∷ task.Save depth ∷ task.Node i depth ∷ []) out total
  split ts key depth i j out e found total h =
      let p = pop ts (task.Node key depth) h.rest h.code in
      let q = parts key depth p.code p.is e in
      let same : Some (places i j) ≡ Some (places q.i q.j) = found ∙ q.found in
      subst (λ (k : ℕ). Leads nodes (ts ++ task.Add depth ∷ task.Node k (depth + 1) ∷ task.Save depth ∷ task.Node i depth ∷ []) out total) (sym (same_second i j q.i q.j same))
      (subst (λ (k : ℕ). Leads nodes (ts ++ task.Add depth ∷ task.Node q.j (depth + 1) ∷ task.Save depth ∷ task.Node k depth ∷ []) out total) (sym (same_first i j q.i q.j same)) (split_at ts key depth out total h p q))

  -- ---- fewer steps are left

  pub fewer_parts : (ts : List Task) (key depth i j : ℕ) (code : List ℕ) → IsNodeCode nodes key depth code → None ≡ as_fixnum (slice_get nodes key) → Some (places i j) ≡ as_sum (slice_get nodes key)
      → sum_by steps (ts ++ task.Add depth ∷ task.Node j (depth + 1) ∷ task.Save depth ∷ task.Node i depth ∷ []) < sum_by steps ts + node_steps key
  fewer_parts ts key depth i j code h e found =
      let q = parts key depth code h e in
      let same : Some (places i j) ≡ Some (places q.i q.j) = found ∙ q.found in
      let li : i < key = subst (λ (k : ℕ). k < key) (sym (same_first i j q.i q.j same)) q.before in
      let lj : j < key = subst (λ (k : ℕ). k < key) (sym (same_second i j q.i q.j same)) q.behind in
      let both = two_below i j key li lj in
      let all = sum_by-append steps ts (task.Add depth ∷ task.Node j (depth + 1) ∷ task.Save depth ∷ task.Node i depth ∷ []) in
      omega (arith, both, all)

-- ---- a whole term

pub begins : (nodes : List Core) (root : ℕ) (t : Term) (out : List ℕ) → IsTermAt nodes root t → Leads nodes (task.Node root 0 ∷ []) out (out ++ term_code 0 t)
begins nodes root t out h =
    record {
      rest = term_code 0 t;
      code = ([], term_code 0 t, refl, record { term = t; is = h.is; fixnums = h.fixnums; low = omega (arith, h.low); code_is = refl }, refl);
      total_is = refl;
    }

pub ends : (nodes : List Core) (out total : List ℕ) → Leads nodes [] out total → out ≡ total
ends nodes out total h = sym (append-nil out) ∙ ap (λ (l : List ℕ). out ++ l) (sym h.code) ∙ h.total_is
