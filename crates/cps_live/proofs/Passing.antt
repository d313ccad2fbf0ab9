-- The k of a Join that is free in a term was met before the term.
use Rattle.std.specs.List.{AllByRecursion, filter_map, flat_map, cons_option}
use Rattle.std.proofs.Common.{◌≡◌, ℕ, zero, suc, ◌+◌, ◌<◌, ◌==◌, true, false, List, [], ◌∷◌, length, take, get_or, slice_get, Option, Some, None, refl, sym, ap, ◌∙◌, subst, arith}
use Rattle.std.proofs.lemmas.Bool.{false≢true, eqb-true}
use Rattle.std.proofs.lemmas.List.{take_more}
use Rattle.t_base.specs.declared.basics.Var.{Var}
use Rattle.cps_ir.specs.declared.terms.Term.{Term}
use Rattle.cps_ir.specs.declared.terms.Term.TheVariants as Node
use Rattle.cps_ir.specs.declared.terms.Cps.{Cps}
use Rattle.cps_ir.specs.Parts.{Part, parts_of, walked, used_by}
use Rattle.cps_ir.specs.Reaches.{is_in, without, binds_of, free_at}
use Rattle.cps_ir.specs.Whole.{IsFormed}
use Rattle.cps_ir.proofs.ProperLists.{some_same}
use Rattle.cps_ir.proofs.Closed.{or_left, or_right, same_number}
use Rattle.cps_ir.proofs.Apart.{any_or, any_left, any_right, either_in}
use Rattle.cps_ir.proofs.Inside.{in_each}
use Rattle.cps_known.specs.LiveVariables.{join_k}
use Rattle.cps_live.specs.declared.lives.Free.{Free}
use Rattle.cps_live.specs.FreeVariables.{IsFree}
use Rattle.cps_live.specs.Gathered.{list_at}
use Rattle.cps_live.specs.LiveLaws.{JoinsAreBefore}
use Rattle.cps_live.specs.Needs.{IsJoin, Meets}
use Rattle.cps_live.proofs.JoinsFirst.{joins_before}
use Rattle.cps_live.proofs.NeedLemmas.{Kinds, KnowsBodies, free_list, body_walked}
use Rattle.cps_live.proofs.FewNeeded.{param_is_no_k, in_without}
use Rattle.cps_live.proofs.Unfolds.{IsFreeBy, walked_free}

-- a Join with this k
record Found (u : Cps) (k : ℕ) : Type 0 where
  pub param : ℕ
  pub body : ℕ
  pub join : IsJoin u k param body

module _ (u : Cps) where
  one_found : (t k : ℕ) (term : Term) → is_in (walked u) t ≡ true → slice_get u.terms.items t ≡ Some term → is_in (join_k term) k ≡ true → Found u k
  one_found t k (Node.Join j param body rest) i e h = any_or (j.0 == k) false (λ q. record { param = param.0; body = body; join = record { at = t; var = j; value = param; rest = rest; reached = i; is = e; k_is = eqb-true j.0 k q; param_is = refl } }) (λ q. absurd (false≢true q)) h
  one_found t j (Node.Call f args k) i e h = absurd (false≢true h)
  one_found t j (Node.Prim p args k) i e h = absurd (false≢true h)
  one_found t j (Node.If test a b) i e h = absurd (false≢true h)
  one_found t j (Node.Labels vars lams body) i e h = absurd (false≢true h)
  one_found t j (Node.Give k value) i e h = absurd (false≢true h)
  one_found t j (Node.Set x value k) i e h = absurd (false≢true h)
  one_found t j (Node.Cell x value rest) i e h = absurd (false≢true h)
  one_found t j (Node.CellGet x k) i e h = absurd (false≢true h)
  one_found t j (Node.CellSet x value k) i e h = absurd (false≢true h)
  one_found t j (Node.GlobalGet g k) i e h = absurd (false≢true h)
  one_found t j (Node.GlobalInit g value k) i e h = absurd (false≢true h)
  one_found t j (Node.GlobalSet g value k) i e h = absurd (false≢true h)
  one_found t j (Node.Catch x body k) i e h = absurd (false≢true h)
  one_found t j (Node.Uncatch k value) i e h = absurd (false≢true h)
  one_found t j (Node.Object proc ops methods k) i e h = absurd (false≢true h)
  one_found t j (Node.Halt value) i e h = absurd (false≢true h)

  found_among : (k : ℕ) (ts : List ℕ) → ((t : ℕ) → is_in ts t ≡ true → is_in (walked u) t ≡ true) → is_in (flat_map join_k (filter_map (slice_get u.terms.items) ts)) k ≡ true → Found u k
  found_among k [] all h = absurd (false≢true h)
  found_among k (t ∷ ts) all h = at_option (slice_get u.terms.items t) refl (λ g. found_among k ts (λ s i. all s (or_right (t == s) _ i)) g) h
    where
      at_option : (o : Option Term) → slice_get u.terms.items t ≡ o → (is_in (flat_map join_k (filter_map (slice_get u.terms.items) ts)) k ≡ true → Found u k) → is_in (flat_map join_k (cons_option o (filter_map (slice_get u.terms.items) ts))) k ≡ true → Found u k
      at_option None e go g = go g
      at_option (Some term) e go g = either_in (join_k term) (flat_map join_k (filter_map (slice_get u.terms.items) ts)) k (λ a. one_found t k term (all t (or_left (t == t) _ (same_number t t refl))) e a) go g

  -- the k of each Join among some places is met
  abbrev pub AreMet : List ℕ → List ℕ → Type 0
  AreMet done met = (k param body : ℕ) (j : IsJoin u k param body) → is_in done j.at ≡ true → is_in met k ≡ true

  pub none_is_met : (met : List ℕ) → AreMet [] met
  none_is_met met k param body j i = absurd (false≢true i)

  abbrev Step : List ℕ → List ℕ → List ℕ → List ℕ → List (List Var) → List (List Var) → List (List Var) → Term → Type 0
  Step js cs met after old new free term = (k : ℕ) → is_in met k ≡ true → is_in after k ≡ true

  same_met : (met after : List ℕ) → after ≡ met → (k : ℕ) → is_in met k ≡ true → is_in after k ≡ true
  same_met met after e k i = subst (λ zs. is_in zs k ≡ true) (sym e) i

  met_more : (js cs met after : List ℕ) (old new free : List (List Var)) (term : Term) → Meets js cs met after old new free term → Step js cs met after old new free term
  met_more js cs met after old new free (Node.Join x param body rest) h = λ k i. h.met k ∙ or_left (is_in met k) _ i
  met_more js cs met after old new free (Node.Call f args k) h = same_met met after h.0
  met_more js cs met after old new free (Node.Prim p args k) h = same_met met after h.0
  met_more js cs met after old new free (Node.If test a b) h = same_met met after h.0
  met_more js cs met after old new free (Node.Labels vars lams body) h = same_met met after h.0
  met_more js cs met after old new free (Node.Give k value) h = same_met met after h.0
  met_more js cs met after old new free (Node.Set x value k) h = same_met met after h.0
  met_more js cs met after old new free (Node.Cell x value rest) h = same_met met after h.0
  met_more js cs met after old new free (Node.CellGet x k) h = same_met met after h.0
  met_more js cs met after old new free (Node.CellSet x value k) h = same_met met after h.0
  met_more js cs met after old new free (Node.GlobalGet g k) h = same_met met after h.0
  met_more js cs met after old new free (Node.GlobalInit g value k) h = same_met met after h.0
  met_more js cs met after old new free (Node.GlobalSet g value k) h = same_met met after h.0
  met_more js cs met after old new free (Node.Catch x body k) h = same_met met after h.0
  met_more js cs met after old new free (Node.Uncatch k value) h = same_met met after h.0
  met_more js cs met after old new free (Node.Object proc ops methods k) h = same_met met after h.0
  met_more js cs met after old new free (Node.Halt value) h = same_met met after h.0

  met_on : (js cs met after : List ℕ) (old new free : List (List Var)) (t : ℕ) (term : Term) → slice_get u.terms.items t ≡ Some term → Meets js cs met after old new free term → (k param body : ℕ) (j : IsJoin u k param body) → j.at ≡ t → is_in after k ≡ true
  met_on js cs met after old new free t term e h k param body j same = here (Node.Join j.var j.value body j.rest) (some_same _ _ (sym e ∙ ap (slice_get u.terms.items) (sym same) ∙ j.is)) refl
    where
      here : (join : Term) → term ≡ join → join ≡ Node.Join j.var j.value body j.rest → is_in after k ≡ true
      here join q r = by (subst (Meets js cs met after old new free) (q ∙ r) h)
        where
          by : Meets js cs met after old new free (Node.Join j.var j.value body j.rest) → is_in after k ≡ true
          by m = m.met k ∙ or_right (is_in met k) _ (same_number j.var.0 k j.k_is)

  pub met_next : (js cs met after : List ℕ) (old new free : List (List Var)) (places : List ℕ) (i d : ℕ) (term : Term) → i < length places → slice_get u.terms.items (get_or places i d) ≡ Some term → Meets js cs met after old new free term → AreMet (take i places) met → AreMet (take (i + 1) places) after
  met_next js cs met after old new free places i d term lt e h am k param body j there =
      either_in (take i places) (get_or places i d ∷ []) j.at (λ a. met_more js cs met after old new free term h k (am k param body j a))
      (λ q. any_or (get_or places i d == j.at) false (λ s. met_on js cs met after old new free (get_or places i d) term e h k param body j (sym (eqb-true (get_or places i d) j.at s))) (λ s. absurd (false≢true s)) q)
      (subst (λ ps. is_in ps j.at ≡ true) (take_more places i d lt) there)

  before_at : (xs before : List ℕ) (i d : ℕ) → JoinsAreBefore u before xs → i < length xs → (k param body : ℕ) (j : IsJoin u k param body) → is_in (free_at u (get_or xs i d)) k ≡ true → {Q : Type 0} → (is_in before j.at ≡ true → Q) → (is_in (take i xs) j.at ≡ true → Q) → Q
  before_at [] before i d h lt k param body j f left right = absurd (omega (arith, lt))
  before_at (t ∷ xs) before zero d h lt k param body j f left right = left (h.0 k param body j f)
  before_at (t ∷ xs) before (suc i) d h lt k param body j f left right =
      before_at xs (t ∷ before) i d h.1 (omega (arith, lt)) k param body j f (λ q. any_or (t == j.at) (is_in before j.at) (λ a. right (or_left (t == j.at) _ a)) (λ c. left c) q) (λ c. right (or_right (t == j.at) _ c))

each_member : (P : ℕ → Type 0) (xs : List ℕ) → ((x : ℕ) → is_in xs x ≡ true → P x) → AllByRecursion P xs
each_member P [] h = tt
each_member P (x ∷ xs) h = (h x (or_left (x == x) _ (same_number x x refl)), each_member P xs (λ y i. h y (or_right (x == y) _ i)))

module _ (u : Cps) (formed : IsFormed u) (js cs met : List ℕ) (kinds : Kinds u js cs) (places : List ℕ) (i d : ℕ) (all : places ≡ walked u) (lt : i < length places) (am : AreMet u (take i places) met) where
  known_here : (x : ℕ) → is_in (free_at u (get_or places i d)) x ≡ true → is_in js x ≡ true → is_in met x ≡ true
  known_here x f e =
      let found = found_among u x (walked u) (λ t h. h) (sym (kinds.joins x) ∙ e) in
      before_at u places [] i d (subst (JoinsAreBefore u []) (sym all) (joins_before u formed)) lt x found.param found.body found.join f (λ q. absurd (false≢true q)) (λ c. am x found.param found.body found.join c)

  body_free : (t : ℕ) (k param : Var) (body rest : ℕ) → is_in (walked u) t ≡ true → slice_get u.terms.items t ≡ Some (Node.Join k param body rest) → (x : ℕ) → is_in (free_at u body) x ≡ true → (x == param.0) ≡ false → is_in (free_at u t) x ≡ true
  body_free t k param body rest w e x f apart =
      let F = λ (p : Part). without (binds_of p) (free_at u p.at) in
      let by = in_each (IsFreeBy u) (walked u) t (walked_free u formed) w in
      subst (λ zs. is_in zs x ≡ true) (sym by.free)
      (any_right (λ z. z == x) (used_by by.term) (flat_map F (parts_of u [] by.term))
      (subst (λ r. is_in (flat_map F (parts_of u [] r)) x ≡ true) (some_same _ _ (sym e ∙ by.is)) (any_left (λ z. z == x) (without (param.0 ∷ []) (free_at u body)) _ (in_without x param.0 (free_at u body) f apart))))

  module _ (free : Free) (is : IsFree u free) (walks : is_in (walked u) (get_or places i d) ≡ true) where
    pub known_at : AllByRecursion (λ x. is_in js x ≡ true → is_in met x ≡ true) (list_at free.at.items (get_or places i d))
    known_at = each_member (λ x. is_in js x ≡ true → is_in met x ≡ true) (list_at free.at.items (get_or places i d)) (λ x h. known_here x (sym (free_list u formed free (get_or places i d) is walks x) ∙ h))

    pub known_bodies : KnowsBodies u formed js met free (get_or places i d)
    known_bodies k param body rest e = each_member (λ x. is_in js x ≡ true → is_in met x ≡ true) (list_at free.at.items body)
        (λ x h q.
        let found = found_among u x (walked u) (λ t g. g) (sym (kinds.joins x) ∙ q) in
        let f = sym (free_list u formed free body is (body_walked u formed (get_or places i d) k param body rest walks e) x) ∙ h in
        let this : IsJoin u k.0 param.0 body = record { at = get_or places i d; var = k; value = param; rest = rest; reached = walks; is = e; k_is = refl; param_is = refl } in
        known_here x (body_free (get_or places i d) k param body rest walks e x f (param_is_no_k u formed x found.param found.body k.0 param.0 body found.join this)) q)
