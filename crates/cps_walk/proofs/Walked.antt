-- What is reached, a term at a time.
use Rattle.std.specs.Prelude.{All, IsSomeAnd}
use Rattle.std.specs.List.{AllByRecursion, flat_map}
use Rattle.std.specs.Option.{option_map_or}
use Rattle.std.proofs.Common.{◌≡◌, ℕ, zero, suc, ◌≤◌, ◌<◌, List, [], ◌∷◌, ◌++◌, length, map, reverse, slice_get, Option, Some, None, refl, sym, ap, ◌∙◌, subst, arith, append_assoc}
use Rattle.std.proofs.lemmas.List.{map-append, reverse-append, reverse-reverse}
use Rattle.std.proofs.lemmas.List.Folds.{flat_map-map}
use Rattle.std.proofs.lemmas.Grind.{flat_map-append}
use Rattle.cps_ir.specs.declared.terms.Lam.{Lam}
use Rattle.cps_ir.specs.declared.terms.Term.{Term}
use Rattle.cps_ir.specs.declared.terms.Cps.{Cps}
use Rattle.cps_ir.specs.Parts.{Name, Part, own_parts, lambdas_of, around, lambda_part, parts_of, root_lams, root_parts, depth_of, walked, walked_within}
use Rattle.cps_ir.specs.Whole.{UsesVariables, HoldsWithin, IsFormed}
use Rattle.cps_ir.proofs.ProperLists.{none_some, each_append, each_more, each_joined}
use Rattle.cps_ir.proofs.Closed.{parts_same, all_of_each}
use Rattle.cps_ir.proofs.Inside.{flat_same}
use Rattle.cps_walk.specs.Walks.{places_of, part_places, root_places, places_under}

abbrev pub whole_walk : Cps → ℕ → List ℕ
whole_walk u t = walked_within u (depth_of u) t

-- the places of a LAMBDA's part is its body's
bodies_same : (names : List Name) (lams : List Lam) → map (λ p. p.at) (map (lambda_part names) lams) ≡ map (λ lam. lam.body) lams
bodies_same names [] = refl
bodies_same names (l ∷ lams) = ap (λ ls. l.body ∷ ls) (bodies_same names lams)

pub parts_placed : (u : Cps) (term : Term) → places_of (parts_of u [] term) ≡ part_places u term
parts_placed u term = map-append (λ (p : Part). p.at) (map (lambda_part (around term)) (lambdas_of u term)) (own_parts [] term) ∙ ap (λ ls. ls ++ places_of (own_parts [] term)) (bodies_same (around term) (lambdas_of u term))

pub roots_placed : (u : Cps) → places_of (root_parts u) ≡ root_places u
roots_placed u = ap (λ ls. u.entry ∷ ls) (bodies_same [] (root_lams u))

each_placed : (P : ℕ → Type 0) (ps : List Part) → AllByRecursion (λ p. P p.at) ps → AllByRecursion P (places_of ps)
each_placed P [] h = tt
each_placed P (p ∷ ps) h = (h.0, each_placed P ps h.1)

-- ---- depths

module _ (u : Cps) where
  abbrev Holds : ℕ → List Name → Part → Type 0
  Holds k names x = HoldsWithin UsesVariables u k (x.binds ++ names) x.catches x.at

  -- a fact on the places of the parts, whatever catches are open
  at_parts : (Q : ℕ → Type 0) (k : ℕ) (names : List Name) (cs : List ℕ) (term : Term) → ((ns : List Name) (ds : List ℕ) (r : ℕ) → HoldsWithin UsesVariables u k ns ds r → Q r) → AllByRecursion (Holds k names) (parts_of u cs term) → AllByRecursion (λ x. Q x.at) (parts_of u [] term)
  at_parts Q k names cs term f h =
      parts_same (λ bound at. Q at) u cs [] term (each_more (Holds k names) (λ x. Q x.at) (parts_of u cs term) (λ x g. f (x.binds ++ names) x.catches x.at g) h)

  walk_stable : (k : ℕ) (names : List Name) (cs : List ℕ) (t : ℕ) → HoldsWithin UsesVariables u k names cs t → (d e : ℕ) → k ≤ d → k ≤ e → walked_within u d t ≡ walked_within u e t
  unfolding HoldsWithin walked_within
  walk_stable zero names cs t h d e ld le = absurd h
  walk_stable (suc k) names cs t h zero e ld le = absurd (omega (arith, ld))
  walk_stable (suc k) names cs t h (suc d) zero ld le = absurd (omega (arith, le))
  walk_stable (suc k) names cs t h (suc d) (suc e) ld le = at_option (slice_get u.terms.items t) (λ ns ds r g. walk_stable k ns ds r g d e (omega (arith, ld)) (omega (arith, le))) h
    where
      at_option : (o : Option Term) → ((ns : List Name) (ds : List ℕ) (r : ℕ) → HoldsWithin UsesVariables u k ns ds r → walked_within u d r ≡ walked_within u e r)
          → IsSomeAnd o (λ term. UsesVariables names cs term × AllByRecursion (Holds k names) (parts_of u cs term))
          → t ∷ option_map_or (λ term. flat_map (λ p. walked_within u d p.at) (parts_of u [] term)) o [] ≡ t ∷ option_map_or (λ term. flat_map (λ p. walked_within u e p.at) (parts_of u [] term)) o []
      at_option None go h = absurd h
      at_option (Some term) go h =
          ap (λ zs. t ∷ zs) (flat_same (λ p. walked_within u d p.at) (λ p. walked_within u e p.at) (parts_of u [] term) (at_parts (λ r. walked_within u d r ≡ walked_within u e r) k names cs term go h.1))

  -- a term and all that it is made of are there, nested no deeper than a program's
  pub record Deep (t : ℕ) : Type 0 where
    pub depth : ℕ
    pub names : List Name
    pub catches : List ℕ
    pub small : depth ≤ depth_of u
    pub holds : HoldsWithin UsesVariables u depth names catches t

  -- a term that is there, with its parts
  pub record Opens (t : ℕ) : Type 0 where
    pub there : t < length u.terms.items
    pub walk : whole_walk u t ≡ t ∷ flat_map (whole_walk u) (places_under u t)
    pub parts : AllByRecursion Deep (places_under u t)

  below : {X : Type 0} (xs : List X) (i : ℕ) (x : X) → slice_get xs i ≡ Some x → i < length xs
  below [] i x e = none_some x e
  below (y ∷ xs) zero x e = omega arith
  below (y ∷ xs) (suc i) x e = let lt = below xs i x e in omega (arith, lt)

  opened : (k : ℕ) (names : List Name) (cs : List ℕ) (t : ℕ) → HoldsWithin UsesVariables u k names cs t → k ≤ depth_of u → Opens t
  unfolding HoldsWithin walked_within
  opened zero names cs t h le = absurd h
  opened (suc k) names cs t h le = at_option (slice_get u.terms.items t) refl h
    where
      at_option : (o : Option Term) → slice_get u.terms.items t ≡ o → IsSomeAnd o (λ term. UsesVariables names cs term × AllByRecursion (Holds k names) (parts_of u cs term)) → Opens t
      at_option None e h = absurd h
      at_option (Some term) e h =
          let n = length u.terms.items in
          let small : k ≤ n = omega (arith, le) in
          let under : places_under u t ≡ part_places u term = ap (λ o. option_map_or (part_places u) o []) e in
          record {
            there = below u.terms.items t term e;
            walk = ap (λ o. t ∷ option_map_or (λ r. flat_map (λ p. walked_within u n p.at) (parts_of u [] r)) o []) e
                ∙ ap (λ zs. t ∷ zs)
                (flat_same (λ p. walked_within u n p.at) (λ p. walked_within u (suc n) p.at) (parts_of u [] term)
                (at_parts (λ r. walked_within u n r ≡ walked_within u (suc n) r) k names cs term (λ ns ds r g. walk_stable k ns ds r g n (suc n) small (omega (arith, small))) h.1)
                ∙ sym (flat_map-map (walked_within u (suc n)) (λ (p : Part). p.at) (parts_of u [] term)) ∙ ap (flat_map (walked_within u (suc n))) (parts_placed u term ∙ sym under));
            parts = subst (AllByRecursion Deep) (parts_placed u term ∙ sym under)
                (each_placed Deep (parts_of u [] term) (at_parts Deep k names cs term (λ ns ds r g. record { depth = k; names = ns; catches = ds; small = omega (arith, le); holds = g }) h.1));
          }

  pub opens : (t : ℕ) → Deep t → Opens t
  opens t h = opened h.depth h.names h.catches t h.holds h.small

  -- what is reached is there
  reached_there : (k : ℕ) (names : List Name) (cs : List ℕ) (t : ℕ) → HoldsWithin UsesVariables u k names cs t → AllByRecursion (λ x. x < length u.terms.items) (walked_within u k t)
  unfolding HoldsWithin walked_within
  reached_there zero names cs t h = absurd h
  reached_there (suc k) names cs t h = at_option (slice_get u.terms.items t) refl h (λ ns ds r g. reached_there k ns ds r g)
    where
      at_option : (o : Option Term) → slice_get u.terms.items t ≡ o → IsSomeAnd o (λ term. UsesVariables names cs term × AllByRecursion (Holds k names) (parts_of u cs term))
          → ((ns : List Name) (ds : List ℕ) (r : ℕ) → HoldsWithin UsesVariables u k ns ds r → AllByRecursion (λ x. x < length u.terms.items) (walked_within u k r))
          → AllByRecursion (λ x. x < length u.terms.items) (t ∷ option_map_or (λ term. flat_map (λ p. walked_within u k p.at) (parts_of u [] term)) o [])
      at_option None e h go = absurd h
      at_option (Some term) e h go = (
        below u.terms.items t term e,
        each_joined (λ p. walked_within u k p.at) (λ x. x < length u.terms.items) (parts_of u [] term) (at_parts (λ r. AllByRecursion (λ x. x < length u.terms.items) (walked_within u k r)) k names cs term go h.1),
      )

-- ---- the whole

module _ (u : Cps) (formed : IsFormed u) where
  pub walked_there : All (λ t. t < length u.terms.items) (walked u)
  walked_there =
      all_of_each (λ t. t < length u.terms.items) (walked u)
      (each_joined (λ p. walked_within u (depth_of u) p.at) (λ x. x < length u.terms.items) (root_parts u)
      (each_more (λ p. HoldsWithin UsesVariables u (depth_of u) p.binds p.catches p.at) (λ p. AllByRecursion (λ x. x < length u.terms.items) (walked_within u (depth_of u) p.at)) (root_parts u)
      (λ p h. reached_there u (depth_of u) p.binds p.catches p.at h) formed.scopes.used))

  pub roots_deep : AllByRecursion (Deep u) (root_places u)
  roots_deep =
      subst (AllByRecursion (Deep u)) (roots_placed u)
      (each_placed (Deep u) (root_parts u)
      (each_more (λ p. HoldsWithin UsesVariables u (depth_of u) p.binds p.catches p.at) (λ p. Deep u p.at) (root_parts u)
      (λ p h. record { depth = depth_of u; names = p.binds; catches = p.catches; small = omega arith; holds = h }) formed.scopes.used))

  pub roots_walked : walked u ≡ flat_map (whole_walk u) (root_places u)
  roots_walked = sym (flat_map-map (walked_within u (depth_of u)) (λ (p : Part). p.at) (root_parts u)) ∙ ap (flat_map (walked_within u (depth_of u))) (roots_placed u)

-- ---- a walk on its way

-- these places were visited, and these wait, the next one last
pub record IsOnItsWay (u : Cps) (places waiting : List ℕ) : Type 0 where
  pub all : walked u ≡ places ++ flat_map (whole_walk u) (reverse waiting)
  pub deep : AllByRecursion (Deep u) (reverse waiting)

pub sets_out : (u : Cps) (waiting : List ℕ) → IsFormed u → waiting ≡ [] ++ reverse (root_places u) → IsOnItsWay u [] waiting
sets_out u waiting formed e =
    let r : reverse waiting ≡ root_places u = ap reverse e ∙ reverse-reverse (root_places u) in
    record { all = roots_walked u formed ∙ ap (flat_map (whole_walk u)) (sym r); deep = subst (AllByRecursion (Deep u)) (sym r) (roots_deep u formed) }

last_first : (rest : List ℕ) (t : ℕ) → reverse (rest ++ t ∷ []) ≡ t ∷ reverse rest
last_first rest t = reverse-append rest (t ∷ [])

pub next_there : (u : Cps) (places waiting rest : List ℕ) (t : ℕ) → IsOnItsWay u places waiting → waiting ≡ rest ++ t ∷ [] → t < length u.terms.items
next_there u places waiting rest t h e = (opens u t (subst (AllByRecursion (Deep u)) (ap reverse e ∙ last_first rest t) h.deep).0).there

pub goes_on : (u : Cps) (places waiting rest after next : List ℕ) (t : ℕ) → IsOnItsWay u places waiting → waiting ≡ rest ++ t ∷ [] → after ≡ places ++ t ∷ [] → next ≡ rest ++ reverse (places_under u t) → IsOnItsWay u after next
goes_on u places waiting rest after next t h e p q =
    let deep = subst (AllByRecursion (Deep u)) (ap reverse e ∙ last_first rest t) h.deep in
    let o = opens u t deep.0 in
    let r : reverse next ≡ places_under u t ++ reverse rest = ap reverse q ∙ reverse-append rest (reverse (places_under u t)) ∙ ap (λ ls. ls ++ reverse rest) (reverse-reverse (places_under u t)) in
    record {
      all = h.all ∙ ap (λ ls. places ++ flat_map (whole_walk u) ls) (ap reverse e ∙ last_first rest t)
          ∙ ap (λ ls. places ++ (ls ++ flat_map (whole_walk u) (reverse rest))) o.walk
          ∙ sym (append_assoc places (t ∷ []) (flat_map (whole_walk u) (places_under u t) ++ flat_map (whole_walk u) (reverse rest)))
          ∙ ap (λ ls. ls ++ (flat_map (whole_walk u) (places_under u t) ++ flat_map (whole_walk u) (reverse rest))) (sym p)
          ∙ ap (λ ls. after ++ ls) (sym (flat_map-append (whole_walk u) (places_under u t) (reverse rest)) ∙ ap (flat_map (whole_walk u)) (sym r));
      deep = subst (AllByRecursion (Deep u)) (sym r) (each_append (Deep u) (places_under u t) (reverse rest) o.parts deep.1);
    }

-- fewer are left
pub fewer_left : (u : Cps) (places waiting : List ℕ) → IsOnItsWay u places waiting → length places ≤ length (walked u)
fewer_left u places waiting h = subst (λ ls. length places ≤ length ls) (sym h.all) (by_length places (flat_map (whole_walk u) (reverse waiting)))
  where
    by_length : (xs ys : List ℕ) → length xs ≤ length (xs ++ ys)
    by_length [] ys = omega arith
    by_length (x ∷ xs) ys = let le = by_length xs ys in omega (arith, le)
