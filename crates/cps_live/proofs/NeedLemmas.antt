-- What terms need, a term more at a time.
use Rattle.std.specs.Prelude.{AllPairs, ◌≢◌, IsSomeAnd}
use Rattle.std.specs.List.{AllByRecursion, filter_map, flat_map, cons_option}
use Rattle.std.specs.Option.{option_map_or}
use Rattle.std.proofs.Common.{◌≡◌, ℕ, zero, suc, ◌+◌, ◌<◌, ◌==◌, Bool, true, false, not, ◌&&◌, ◌||◌, if◌then◌else◌, List, [], ◌∷◌, length, map, take, get_or, set, replicate, slice_get, Option, Some, None, refl, sym, ap, ◌∙◌, subst, arith}
use Rattle.std.proofs.lemmas.Bool.{true≢false, false≢true, eqb-true, eq-eqb}
use Rattle.std.proofs.lemmas.List.{take_more}
use Rattle.std.proofs.lemmas.List.Folds.{list_any-append}
use Rattle.t_base.specs.declared.basics.Var.{Var}
use Rattle.cps_ir.specs.declared.terms.Term.{Term}
use Rattle.cps_ir.specs.declared.terms.Term.TheVariants as Node
use Rattle.cps_ir.specs.declared.terms.Cps.{Cps}
use Rattle.cps_ir.specs.Parts.{walked, reached_terms, reached_lams, own_binders, lam_binders}
use Rattle.cps_ir.specs.Reaches.{is_in, free_at}
use Rattle.cps_ir.specs.Whole.{IsFormed}
use Rattle.cps_ir.proofs.ProperLists.{some_same, none_some, each_more}
use Rattle.cps_ir.proofs.Closed.{or_left, or_right, same_number}
use Rattle.cps_ir.proofs.Apart.{Distinct, apart, left_part, right_part, any_left, any_right, any_or, either_in, unless, distinct_binders}
use Rattle.cps_ir.proofs.Inside.{in_each}
use Rattle.cps_known.specs.LiveVariables.{join_k, continuations}
use Rattle.cps_walk.specs.Walks.{part_places, places_under}
use Rattle.cps_live.specs.declared.lives.Free.{Free}
use Rattle.cps_live.specs.declared.needs.Needs.{Needs}
use Rattle.cps_live.specs.FreeVariables.{AreFree, IsFree}
use Rattle.cps_live.specs.Gathered.{numbers, list_at}
use Rattle.cps_live.specs.Needs.{IsJoin, IsNeeded, lives, joined, AreNeeded, HasNeeds, expansion, MeetsJoin, Meets}
use Rattle.cps_live.proofs.Joined.{or_none}
use Rattle.cps_live.proofs.Behind.{AreBehind, walk_is_behind}
use Rattle.cps_live.proofs.LiveLemmas.{put_here, put_apart, put_length, so_many, empty_at, contains_in, in_contains, some_holds}

-- ---- a Join is told by its k

pub in_terms : {X : Type 0} (f : X → List ℕ) (xs : List X) (ts : List ℕ) (t x : ℕ) (term : X) → is_in ts t ≡ true → slice_get xs t ≡ Some term → is_in (f term) x ≡ true → is_in (flat_map f (filter_map (slice_get xs) ts)) x ≡ true
in_terms f xs [] t x term i e h = absurd (false≢true i)
in_terms f xs (s ∷ ts) t x term i e h = by_option (slice_get xs s) refl (λ j. in_terms f xs ts t x term j e h)
  where
    by_option : (o : Option _) → slice_get xs s ≡ o → (is_in ts t ≡ true → is_in (flat_map f (filter_map (slice_get xs) ts)) x ≡ true) → is_in (flat_map f (cons_option o (filter_map (slice_get xs) ts))) x ≡ true
    by_option None q go = any_or (s == t) (is_in ts t) (λ same. none_some term (sym q ∙ ap (slice_get xs) (eqb-true s t same) ∙ e)) go i
    by_option (Some r) q go =
        any_or (s == t) (is_in ts t)
        (λ same. any_left (λ z. z == x) (f r) (flat_map f (filter_map (slice_get xs) ts)) (subst (λ y. is_in (f y) x ≡ true) (some_same term r (sym e ∙ sym (ap (slice_get xs) (eqb-true s t same)) ∙ q)) h))
        (λ j. any_right (λ z. z == x) (f r) (flat_map f (filter_map (slice_get xs) ts)) (go j)) i

pub one_place : (xs : List Term) (ts : List ℕ) → Distinct (flat_map own_binders (filter_map (slice_get xs) ts)) → (x s t : ℕ) (a b : Term) → is_in ts s ≡ true → is_in ts t ≡ true → slice_get xs s ≡ Some a → slice_get xs t ≡ Some b
    → is_in (own_binders a) x ≡ true → is_in (own_binders b) x ≡ true → s ≡ t
one_place xs [] d x s t a b i j e q h g = absurd (false≢true i)
one_place xs (r ∷ ts) d x s t a b i j e q h g = by_option (slice_get xs r) refl d (λ dd ii jj. one_place xs ts dd x s t a b ii jj e q h g)
  where
    rest : List ℕ
    rest = flat_map own_binders (filter_map (slice_get xs) ts)

    by_option : (o : Option Term) → slice_get xs r ≡ o → Distinct (flat_map own_binders (cons_option o (filter_map (slice_get xs) ts))) → (Distinct rest → is_in ts s ≡ true → is_in ts t ≡ true → s ≡ t) → s ≡ t
    by_option None w dd go =
        any_or (r == s) (is_in ts s) (λ same. none_some a (sym w ∙ ap (slice_get xs) (eqb-true r s same) ∙ e))
        (λ ii. any_or (r == t) (is_in ts t) (λ same. none_some b (sym w ∙ ap (slice_get xs) (eqb-true r t same) ∙ q)) (λ jj. go dd ii jj) j) i
    by_option (Some c) w dd go =
        any_or (r == s) (is_in ts s)
        (λ first. any_or (r == t) (is_in ts t) (λ second. sym (eqb-true r s first) ∙ eqb-true r t second)
        (λ jj. absurd (apart (own_binders c) rest x dd (here s a first e h) (in_terms own_binders xs ts t x b jj q g))) j)
        (λ ii. any_or (r == t) (is_in ts t) (λ second. absurd (apart (own_binders c) rest x dd (here t b second q g) (in_terms own_binders xs ts s x a ii e h))) (λ jj. go (right_part (own_binders c) rest dd) ii jj) j) i
      where
        here : (y : ℕ) (d : Term) → (r == y) ≡ true → slice_get xs y ≡ Some d → is_in (own_binders d) x ≡ true → is_in (own_binders c) x ≡ true
        here y d same z k = subst (λ term. is_in (own_binders term) x ≡ true) (some_same d c (sym z ∙ sym (ap (slice_get xs) (eqb-true r y same)) ∙ w)) k

module _ (u : Cps) where
  -- ---- what stands under the k of a Join

  pub record Entry (k : ℕ) (xs : List ℕ) : Type 0 where
    pub param : ℕ
    pub body : ℕ
    pub join : IsJoin u k param body
    pub each : (x : ℕ) → is_in xs x ≡ true → IsNeeded u body x × ((x == param) ≡ false)
    pub all : (x : ℕ) → IsNeeded u body x → (x == param) ≡ false → is_in xs x ≡ true

  abbrev pub IsTable : List ℕ → List (List Var) → Type 0
  IsTable met lists = (k : ℕ) → is_in met k ≡ true → Entry k (list_at lists k)

  pub record Kinds (js cs : List ℕ) : Type 0 where
    pub joins : (m : ℕ) → is_in js m ≡ is_in (flat_map join_k (reached_terms u)) m
    pub ks : (m : ℕ) → is_in cs m ≡ is_in (continuations u) m

  -- the terms at these places have their lists, the others have none
  pub record AreNeededSoFar (done : List ℕ) (lists : List (List Var)) : Type 0 where
    pub counted : length lists ≡ length u.terms.items
    pub reached : (t : ℕ) → is_in done t ≡ true → IsSomeAnd (slice_get lists t) (AreNeeded u t)
    pub unreached : (t : ℕ) → t < length u.terms.items → is_in done t ≡ false → slice_get lists t ≡ Some []

module _ (u : Cps) (formed : IsFormed u) where
  -- two Joins with one k are one
  pub record SameJoin (param body other second : ℕ) : Type 0 where
    pub param_same : param ≡ other
    pub body_same : body ≡ second

  pub binds_k : (k param : Var) (body rest : ℕ) (x : ℕ) → k.0 ≡ x → is_in (own_binders (Node.Join k param body rest)) x ≡ true
  binds_k k param body rest x e = or_right (param.0 == x) _ (or_left (k.0 == x) _ (same_number k.0 x e))

  one_join : (k param body other second : ℕ) → IsJoin u k param body → IsJoin u k other second → SameJoin param body other second
  one_join k param body other second a b =
      let at : a.at ≡ b.at =
      one_place u.terms.items (walked u) (left_part (flat_map own_binders (reached_terms u)) (flat_map lam_binders (reached_lams u)) (distinct_binders u formed)) k a.at b.at _ _ a.reached b.reached a.is b.is (binds_k a.var a.value body a.rest k a.k_is)
      (binds_k b.var b.value second b.rest k b.k_is) in
      let same = some_same _ _ (sym a.is ∙ ap (slice_get u.terms.items) at ∙ b.is) in
      parts a.var b.var a.value b.value body second a.rest b.rest same a.param_is b.param_is
    where
      parts : (j k2 v w : Var) (x y r s : ℕ) → Node.Join j v x r ≡ Node.Join k2 w y s → v.0 ≡ param → w.0 ≡ other → SameJoin param x other y
      parts j k2 v w x y r s e p q = let values : v ≡ w = cc in let bodies : x ≡ y = cc in record { param_same = sym p ∙ ap (λ (z : Var). z.0) values ∙ q; body_same = bodies }

  -- ---- what the variables of a list of free ones stand for

  pub not_false : (b : Bool) → not b ≡ true → b ≡ false
  not_false true e = absurd (false≢true e)
  not_false false e = refl

  pub both : (a b : Bool) → (a && b) ≡ true → (a ≡ true) × (b ≡ true)
  both true b e = (refl, e)
  both false b e = absurd (false≢true e)

  other_way : (a b : ℕ) → not (a == b) ≡ true → (b == a) ≡ false
  other_way a b e = unless (b == a) (λ q. true≢false (sym (same_number a b (sym (eqb-true b a q))) ∙ not_false (a == b) e))

  way_back : (a b : ℕ) → (b == a) ≡ false → not (a == b) ≡ true
  way_back a b e = by (a == b) refl
    where
      by : (t : Bool) → (a == b) ≡ t → not t ≡ true
      by true q = absurd (true≢false (sym (same_number b a (sym (eqb-true a b q))) ∙ e))
      by false q = refl

  module _ (js cs met : List ℕ) (lists : List (List Var)) (kinds : Kinds u js cs) (table : IsTable u met lists) where
    abbrev E : ℕ → List ℕ
    E x = expansion js cs lists x

    one_each : (t x m : ℕ) → is_in (free_at u t) x ≡ true → (is_in js x ≡ true → is_in met x ≡ true) → is_in (E x) m ≡ true → IsNeeded u t m
    one_each t x m free known h = by_join (is_in js x) refl h
      where
        by_k : (b : Bool) → is_in cs x ≡ b → is_in (if b then [] else x ∷ []) m ≡ true → IsNeeded u t m
        by_k true e i = absurd (false≢true i)
        by_k false e i =
            any_or (x == m) false
            (λ same. subst (IsNeeded u t) (eqb-true x m same)
            (lives t x (ap (λ b. b && not (is_in (continuations u) x)) free ∙ ap not (sym (kinds.ks x) ∙ e)))) (λ n. absurd (false≢true n)) i

        by_join : (b : Bool) → is_in js x ≡ b → is_in (if b then list_at lists x else (if is_in cs x then [] else x ∷ [])) m ≡ true → IsNeeded u t m
        by_join true e i = let entry = table x (known e) in let both_hold = entry.each m i in joined t m x entry.param entry.body entry.join free both_hold.1 both_hold.0
        by_join false e i = by_k (is_in cs x) refl i

    all_each : (t : ℕ) (fs : List ℕ) → AllByRecursion (λ x. is_in (free_at u t) x ≡ true) fs → AllByRecursion (λ x. is_in js x ≡ true → is_in met x ≡ true) fs → (m : ℕ) → is_in (flat_map E fs) m ≡ true → IsNeeded u t m
    all_each t [] f k m h = absurd (false≢true h)
    all_each t (x ∷ fs) f k m h = either_in (E x) (flat_map E fs) m (λ a. one_each t x m f.0 k.0 a) (λ b. all_each t fs f.1 k.1 m b) h

    in_flat : (fs : List ℕ) (x m : ℕ) → is_in fs x ≡ true → is_in (E x) m ≡ true → is_in (flat_map E fs) m ≡ true
    in_flat [] x m i h = absurd (false≢true i)
    in_flat (y ∷ fs) x m i h =
        any_or (y == x) (is_in fs x) (λ same. any_left (λ z. z == m) (E y) (flat_map E fs) (subst (λ z. is_in (E z) m ≡ true) (sym (eqb-true y x same)) h)) (λ j. any_right (λ z. z == m) (E y) (flat_map E fs) (in_flat fs x m j h)) i

    join_is_k : (m : ℕ) → is_in js m ≡ true → is_in (continuations u) m ≡ true
    join_is_k m e = any_left (λ z. z == m) (flat_map join_k (reached_terms u)) (map (λ lam. lam.k.0) (reached_lams u)) (sym (kinds.joins m) ∙ e)

    all_found : (t : ℕ) (fs : List ℕ) → ((x : ℕ) → is_in fs x ≡ is_in (free_at u t) x) → AllByRecursion (λ x. is_in js x ≡ true → is_in met x ≡ true) fs → (m : ℕ) → IsNeeded u t m → is_in (flat_map E fs) m ≡ true
    all_found t fs f known m (lives s x live) =
        let parts = both (is_in (free_at u s) x) (not (is_in (continuations u) x)) live in
        let no_k = not_false (is_in (continuations u) x) parts.1 in
        let no_join : is_in js x ≡ false = unless (is_in js x) (λ e. true≢false (sym (join_is_k x e) ∙ no_k)) in
        in_flat fs x x (f x ∙ parts.0)
        (ap (λ b. is_in (if b then list_at lists x else (if is_in cs x then [] else x ∷ [])) x) no_join ∙ ap (λ b. is_in (if b then [] else x ∷ []) x) (kinds.ks x ∙ no_k) ∙ or_left (x == x) false (same_number x x refl))
    all_found t fs f known m (joined s x k param body join free apart_from needed) =
        let is_join : is_in js k ≡ true =
        kinds.joins k ∙ in_terms join_k u.terms.items (walked u) join.at k _ join.reached join.is (or_left (join.var.0 == k) false (same_number join.var.0 k join.k_is)) in
        let there : is_in fs k ≡ true = f k ∙ free in
        let entry = table k (in_each (λ y. is_in js y ≡ true → is_in met y ≡ true) fs k known there is_join) in
        let same = one_join k param body entry.param entry.body join entry.join in
        in_flat fs k x there
        (ap (λ b. is_in (if b then list_at lists k else (if is_in cs k then [] else k ∷ [])) x) is_join
        ∙ entry.all x (subst (λ b. IsNeeded u b x) same.body_same needed) (subst (λ p. (x == p) ≡ false) same.param_same apart_from))

    pub list_needed : (t : ℕ) (fs : List ℕ) (ys : List Var) → ((x : ℕ) → is_in fs x ≡ is_in (free_at u t) x) → AllByRecursion (λ x. is_in js x ≡ true → is_in met x ≡ true) fs → ((m : ℕ) → is_in (numbers ys) m ≡ is_in (flat_map E fs) m)
        → AllPairs (λ x y. x ≢ y) (numbers ys) → AreNeeded u t ys
    list_needed t fs ys f known e once = record {
      once = once;
      each = λ m i. all_each t fs (members fs (λ x j. sym (f x) ∙ j)) known m (sym (e m) ∙ i);
      all = λ m n. e m ∙ all_found t fs f known m n;
    }
      where
        members : (xs : List ℕ) → ((x : ℕ) → is_in xs x ≡ true → is_in (free_at u t) x ≡ true) → AllByRecursion (λ x. is_in (free_at u t) x ≡ true) xs
        members [] g = tt
        members (x ∷ xs) g = (g x (or_left (x == x) _ (same_number x x refl)), members xs (λ y j. g y (or_right (x == y) _ j)))

    -- a Join is met
    pub table_met : (t : ℕ) (k param : Var) (body rest : ℕ) (after : List ℕ) (new free : List (List Var)) → is_in (walked u) t ≡ true → slice_get u.terms.items t ≡ Some (Node.Join k param body rest)
        → ((x : ℕ) → is_in (list_at free body) x ≡ is_in (free_at u body) x) → MeetsJoin js cs met after lists new free k.0 param.0 body → AllByRecursion (λ x. is_in js x ≡ true → is_in met x ≡ true) (list_at free body) → IsTable u after new
    table_met t k param body rest after new free i e f h known c there =
        by (k.0 == c) refl
      where
        members : (xs : List ℕ) → ((x : ℕ) → is_in xs x ≡ true → is_in (free_at u body) x ≡ true) → AllByRecursion (λ x. is_in (free_at u body) x ≡ true) xs
        members [] g = tt
        members (x ∷ xs) g = (g x (or_left (x == x) _ (same_number x x refl)), members xs (λ y j. g y (or_right (x == y) _ j)))

        entry : Entry u k.0 (list_at new k.0)
        entry = record {
          param = param.0;
          body = body;
          join = record { at = t; var = k; value = param; rest = rest; reached = i; is = e; k_is = refl; param_is = refl };
          each = λ m j.
              let parts = both (is_in (flat_map E (list_at free body)) m) (not (param.0 == m)) (sym (h.here m) ∙ j) in
              (all_each body (list_at free body) (members (list_at free body) (λ x q. sym (f x) ∙ q)) known m parts.0, other_way param.0 m parts.1);
          all = λ m n q. h.here m ∙ ap (λ b. b && not (param.0 == m)) (all_found body (list_at free body) f known m n) ∙ way_back param.0 m q;
        }

        by : (b : Bool) → (k.0 == c) ≡ b → Entry u c (list_at new c)
        by true q = subst (λ x. Entry u x (list_at new x)) (eqb-true k.0 c q) entry
        by false q = subst (Entry u c) (sym (h.others c q)) (table c (any_or (is_in met c) (k.0 == c) (λ a. a) (λ b. absurd (true≢false (sym b ∙ q))) (sym (h.met c) ∙ there)))

  -- ---- a term more

  pub free_list : (free : Free) (t : ℕ) → IsFree u free → is_in (walked u) t ≡ true → (x : ℕ) → is_in (list_at free.at.items t) x ≡ is_in (free_at u t) x
  free_list free t f i x = at_option (slice_get free.at.items t) (f.reached t (in_contains (walked u) t i))
    where
      at_option : (o : Option (List Var)) → IsSomeAnd o (AreFree u t) → is_in (option_map_or numbers o []) x ≡ is_in (free_at u t) x
      at_option None h = absurd h
      at_option (Some xs) h = h.exact x

  pub part_walked : (ts : List ℕ) (t : ℕ) → AreBehind u ts → is_in ts t ≡ true → AllByRecursion (λ p. is_in ts p ≡ true) (places_under u t)
  part_walked [] t b i = absurd (false≢true i)
  part_walked (s ∷ ts) t b i =
      any_or (s == t) (is_in ts t) (λ same. each_more (λ p. is_in ts p ≡ true) (λ p. is_in (s ∷ ts) p ≡ true) (places_under u t) (λ p h. or_right (s == p) _ h) (subst (λ z. AllByRecursion (λ p. is_in ts p ≡ true) (places_under u z)) (eqb-true s t same) b.0))
      (λ j. each_more (λ p. is_in ts p ≡ true) (λ p. is_in (s ∷ ts) p ≡ true) (places_under u t) (λ p h. or_right (s == p) _ h) (part_walked ts t b.1 j)) i

  pub body_walked : (t : ℕ) (k param : Var) (body rest : ℕ) → is_in (walked u) t ≡ true → slice_get u.terms.items t ≡ Some (Node.Join k param body rest) → is_in (walked u) body ≡ true
  body_walked t k param body rest i e =
      (subst (AllByRecursion (λ p. is_in (walked u) p ≡ true)) (ap (λ o. option_map_or (part_places u) o []) e) (part_walked (walked u) t (walk_is_behind u formed) i)).0

  same_table : (met after : List ℕ) (lists new : List (List Var)) → IsTable u met lists → (after ≡ met) × (new ≡ lists) → IsTable u after new
  same_table met after lists new table h = subst (λ m. IsTable u m new) (sym h.0) (subst (IsTable u met) (sym h.1) table)

  -- what is free in the body of a Join there was met, where it is a Join's k
  abbrev pub KnowsBodies : List ℕ → List ℕ → Free → ℕ → Type 0
  KnowsBodies js met free t = (k param : Var) (body rest : ℕ) → slice_get u.terms.items t ≡ Some (Node.Join k param body rest) → AllByRecursion (λ x. is_in js x ≡ true → is_in met x ≡ true) (list_at free.at.items body)

  pub table_step : (js cs met after : List ℕ) (lists new : List (List Var)) (free : Free) (t : ℕ) (term : Term) → Kinds u js cs → IsTable u met lists → IsFree u free → is_in (walked u) t ≡ true → slice_get u.terms.items t ≡ Some term
      → Meets js cs met after lists new free.at.items term → KnowsBodies js met free t → IsTable u after new
  table_step js cs met after lists new free t (Node.Join k param body rest) kinds table f i e h known = table_met js cs met lists kinds table t k param body rest after new free.at.items i e (free_list free body f (body_walked t k param body rest i e)) h (known k param body rest e)
  table_step js cs met after lists new free t (Node.Call g args k) kinds table f i e h known = same_table met after lists new table h
  table_step js cs met after lists new free t (Node.Prim b args k) kinds table f i e h known = same_table met after lists new table h
  table_step js cs met after lists new free t (Node.If test x y) kinds table f i e h known = same_table met after lists new table h
  table_step js cs met after lists new free t (Node.Labels vars lams body) kinds table f i e h known = same_table met after lists new table h
  table_step js cs met after lists new free t (Node.Give k value) kinds table f i e h known = same_table met after lists new table h
  table_step js cs met after lists new free t (Node.Set x value k) kinds table f i e h known = same_table met after lists new table h
  table_step js cs met after lists new free t (Node.Cell x value rest) kinds table f i e h known = same_table met after lists new table h
  table_step js cs met after lists new free t (Node.CellGet x k) kinds table f i e h known = same_table met after lists new table h
  table_step js cs met after lists new free t (Node.CellSet x value k) kinds table f i e h known = same_table met after lists new table h
  table_step js cs met after lists new free t (Node.GlobalGet g k) kinds table f i e h known = same_table met after lists new table h
  table_step js cs met after lists new free t (Node.GlobalInit g value k) kinds table f i e h known = same_table met after lists new table h
  table_step js cs met after lists new free t (Node.GlobalSet g value k) kinds table f i e h known = same_table met after lists new table h
  table_step js cs met after lists new free t (Node.Catch x body k) kinds table f i e h known = same_table met after lists new table h
  table_step js cs met after lists new free t (Node.Uncatch k value) kinds table f i e h known = same_table met after lists new table h
  table_step js cs met after lists new free t (Node.Object proc ops methods k) kinds table f i e h known = same_table met after lists new table h
  table_step js cs met after lists new free t (Node.Halt value) kinds table f i e h known = same_table met after lists new table h

  pub more_needed : (js cs met : List ℕ) (lists old new : List (List Var)) (free : Free) (places : List ℕ) (i d : ℕ) (t : ℕ) (xs : List Var) → Kinds u js cs → IsTable u met lists → IsFree u free → places ≡ walked u → i < length places → t ≡ get_or places i d
      → AreNeededSoFar u (take i places) old → AllByRecursion (λ x. is_in js x ≡ true → is_in met x ≡ true) (list_at free.at.items t) → ((m : ℕ) → is_in (numbers xs) m ≡ is_in (flat_map (expansion js cs lists) (list_at free.at.items t)) m)
      → AllPairs (λ x y. x ≢ y) (numbers xs) → t < length u.terms.items → new ≡ set old t xs → AreNeededSoFar u (take (i + 1) places) new
  more_needed js cs met lists old new free places i d t xs kinds table f all lt same so_far known e once there put = record {
    counted = ap length put ∙ put_length old t xs ∙ so_far.counted;
    reached = λ r j. subst (λ ls. IsSomeAnd (slice_get ls r) (AreNeeded u r)) (sym put) (by_test r (t == r) refl (sym (members r) ∙ j));
    unreached = λ r low j. ap (λ ls. slice_get ls r) put ∙ elsewhere r low (t == r) refl (sym (members r) ∙ j);
  }
    where
      members : (r : ℕ) → is_in (take (i + 1) places) r ≡ (is_in (take i places) r || (t == r))
      members r =
          ap (λ ps. is_in ps r) (take_more places i d lt) ∙ list_any-append (λ y. y == r) (take i places) (get_or places i d ∷ []) ∙ ap (λ b. is_in (take i places) r || b) (or_none (get_or places i d == r))
          ∙ ap (λ n. is_in (take i places) r || (n == r)) (sym same)

      walks : is_in (walked u) t ≡ true
      walks = subst (λ ps. is_in ps t ≡ true) all (subst (λ n. is_in places n ≡ true) (sym same) (got places i d lt))
        where
          got : (ps : List ℕ) (n e : ℕ) → n < length ps → is_in ps (get_or ps n e) ≡ true
          got [] n e low = absurd (omega (arith, low))
          got (p ∷ ps) zero e low = or_left (p == p) _ (same_number p p refl)
          got (p ∷ ps) (suc n) e low = or_right (p == get_or ps n e) _ (got ps n e (omega (arith, low)))

      here : AreNeeded u t xs
      here = list_needed js cs met lists kinds table t (list_at free.at.items t) xs (free_list free t f walks) known e once

      by_test : (r : ℕ) (b : Bool) → (t == r) ≡ b → (is_in (take i places) r || b) ≡ true → IsSomeAnd (slice_get (set old t xs) r) (AreNeeded u r)
      by_test r true q j =
          subst (λ s. IsSomeAnd (slice_get (set old t xs) s) (AreNeeded u s)) (eqb-true t r q) (subst (λ o. IsSomeAnd o (AreNeeded u t)) (sym (put_here old t xs (let c = so_far.counted in omega (arith, there, c)))) here)
      by_test r false q j =
          subst (λ o. IsSomeAnd o (AreNeeded u r)) (sym (put_apart old t r xs (λ s. true≢false (sym (eq-eqb t r s) ∙ q)))) (so_far.reached r (sym (or_none (is_in (take i places) r)) ∙ j))

      elsewhere : (r : ℕ) → r < length u.terms.items → (b : Bool) → (t == r) ≡ b → (is_in (take i places) r || b) ≡ false → slice_get (set old t xs) r ≡ Some []
      elsewhere r low true q j = absurd (true≢false (sym (or_right (is_in (take i places) r) true refl) ∙ j))
      elsewhere r low false q j = put_apart old t r xs (λ s. true≢false (sym (eq-eqb t r s) ∙ q)) ∙ so_far.unreached r low (sym (or_none (is_in (take i places) r)) ∙ j)

pub none_needed : (u : Cps) (lists : List (List Var)) → lists ≡ replicate (length u.terms.items) [] → AreNeededSoFar u [] lists
none_needed u lists e = record {
  counted = ap length e ∙ so_many (length u.terms.items);
  reached = λ t i. absurd (false≢true i);
  unreached = λ t lt i. ap (λ ls. slice_get ls t) e ∙ empty_at (length u.terms.items) t lt;
}

pub no_table : (u : Cps) (met : List ℕ) (lists : List (List Var)) → met ≡ [] → IsTable u met lists
no_table u met lists e k i = absurd (false≢true (subst (λ ms. is_in ms k ≡ true) e i))

pub all_needed : (u : Cps) (done : List ℕ) (needs : Needs) → AreNeededSoFar u done needs.at.items → done ≡ walked u → HasNeeds u needs
all_needed u done needs h e = record {
  counted = h.counted;
  reached = λ t c. h.reached t (subst (λ ts. is_in ts t ≡ true) (sym e) (contains_in (walked u) t c.0 c.1 c.2));
  unreached = λ t lt no. some_holds (slice_get needs.at.items t) (h.unreached t lt (unless (is_in done t) (λ i. no (in_contains (walked u) t (subst (λ ts. is_in ts t ≡ true) e i)))));
}

pub at_place : (ps all : List ℕ) (n e : ℕ) → ps ≡ all → n < length ps → is_in all (get_or ps n e) ≡ true
at_place ps all n e same lt = subst (λ qs. is_in qs (get_or ps n e) ≡ true) same (got ps n lt)
  where
    got : (qs : List ℕ) (k : ℕ) → k < length qs → is_in qs (get_or qs k e) ≡ true
    got [] k low = absurd (omega (arith, low))
    got (q ∷ qs) zero low = or_left (q == q) _ (same_number q q refl)
    got (q ∷ qs) (suc k) low = or_right (q == get_or qs k e) _ (got qs k (omega (arith, low)))
