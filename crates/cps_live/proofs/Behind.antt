-- The parts of a term stand behind it in the walk.
use Rattle.std.specs.Prelude.{IsSomeAnd}
use Rattle.std.specs.List.{AllByRecursion, flat_map}
use Rattle.std.specs.Option.{option_map_or}
use Rattle.std.proofs.Common.{◌≡◌, ℕ, zero, suc, ◌==◌, true, List, [], ◌∷◌, ◌++◌, slice_get, Option, Some, None, refl, sym, ap, ◌∙◌, subst, append_assoc}
use Rattle.std.proofs.lemmas.List.{append-nil}
use Rattle.cps_ir.specs.declared.terms.Term.{Term}
use Rattle.cps_ir.specs.declared.terms.Cps.{Cps}
use Rattle.cps_ir.specs.Parts.{Name, Part, parts_of, root_parts, depth_of, walked, walked_within}
use Rattle.cps_ir.specs.Reaches.{is_in}
use Rattle.cps_ir.specs.Whole.{UsesVariables, HoldsWithin, IsFormed}
use Rattle.cps_ir.proofs.ProperLists.{each_more}
use Rattle.cps_ir.proofs.Closed.{parts_same}
use Rattle.cps_ir.proofs.Apart.{in_head, any_left, any_right}
use Rattle.cps_walk.specs.Walks.{places_of, part_places, places_under}
use Rattle.cps_walk.proofs.Walked.{parts_placed}

-- each place of a part stands behind the place of its term
abbrev pub AreBehind : Cps → List ℕ → Type 0
AreBehind u [] = Unit {0}
AreBehind u (t ∷ ts) = AllByRecursion (λ p. is_in ts p ≡ true) (places_under u t) × AreBehind u ts

pub behind_right : (u : Cps) (xs ys : List ℕ) → AreBehind u (xs ++ ys) → AreBehind u ys
behind_right u [] ys h = h
behind_right u (x ∷ xs) ys h = behind_right u xs ys h.1

each_placed : (P : ℕ → Type 0) (ps : List Part) → AllByRecursion (λ p. P p.at) ps → AllByRecursion P (places_of ps)
each_placed P [] h = tt
each_placed P (p ∷ ps) h = (h.0, each_placed P ps h.1)

module _ (u : Cps) where
  abbrev Holds : ℕ → List Name → Part → Type 0
  Holds k names x = HoldsWithin UsesVariables u k (x.binds ++ names) x.catches x.at

  -- a walk can stand before places that are in order
  abbrev Goes : ℕ → ℕ → Type 0
  Goes k t = (rest : List ℕ) → AreBehind u rest → AreBehind u (walked_within u k t ++ rest)

  go_all : (k : ℕ) (ps : List Part) → AllByRecursion (λ p. Goes k p.at) ps → (rest : List ℕ) → AreBehind u rest → AreBehind u (flat_map (λ p. walked_within u k p.at) ps ++ rest)
  go_all k [] h rest b = b
  go_all k (p ∷ ps) h rest b =
      let f = λ (x : Part). walked_within u k x.at in
      subst (AreBehind u) (sym (append_assoc (f p) (flat_map f ps) rest)) (h.0 (flat_map f ps ++ rest) (go_all k ps h.1 rest b))

  -- a walk begins with its place
  begins : (k : ℕ) (names : List Name) (cs : List ℕ) (t : ℕ) → HoldsWithin UsesVariables u k names cs t → is_in (walked_within u k t) t ≡ true
  unfolding HoldsWithin walked_within
  begins zero names cs t h = absurd h
  begins (suc k) names cs t h = in_head t _

  -- so each part is there
  each_there : (k : ℕ) (ps : List Part) (rest : List ℕ) → AllByRecursion (λ p. is_in (walked_within u k p.at) p.at ≡ true) ps → AllByRecursion (λ p. is_in (flat_map (λ x. walked_within u k x.at) ps ++ rest) p.at ≡ true) ps
  each_there k [] rest h = tt
  each_there k (p ∷ ps) rest h =
      let f = λ (x : Part). walked_within u k x.at in (
        any_left (λ y. y == p.at) (f p ++ flat_map f ps) rest (any_left (λ y. y == p.at) (f p) (flat_map f ps) h.0),
        each_more (λ q. is_in (flat_map f ps ++ rest) q.at ≡ true) (λ q. is_in ((f p ++ flat_map f ps) ++ rest) q.at ≡ true) ps
            (λ q e. subst (λ zs. is_in zs q.at ≡ true) (sym (append_assoc (f p) (flat_map f ps) rest)) (any_right (λ y. y == q.at) (f p) (flat_map f ps ++ rest) e)) (each_there k ps rest h.1),
      )

  goes : (k : ℕ) (names : List Name) (cs : List ℕ) (t : ℕ) → HoldsWithin UsesVariables u k names cs t → Goes k t
  unfolding HoldsWithin walked_within
  goes zero names cs t h rest b = absurd h
  goes (suc k) names cs t h rest b = at_option (slice_get u.terms.items t) refl h (λ ns ds r g. begins k ns ds r g) (λ ns ds r g. goes k ns ds r g)
    where
      at_option : (o : Option Term) → slice_get u.terms.items t ≡ o → IsSomeAnd o (λ term. UsesVariables names cs term × AllByRecursion (Holds k names) (parts_of u cs term))
          → ((ns : List Name) (ds : List ℕ) (r : ℕ) → HoldsWithin UsesVariables u k ns ds r → is_in (walked_within u k r) r ≡ true)
          → ((ns : List Name) (ds : List ℕ) (r : ℕ) → HoldsWithin UsesVariables u k ns ds r → Goes k r)
          → AreBehind u (t ∷ (option_map_or (λ term. flat_map (λ p. walked_within u k p.at) (parts_of u [] term)) o [] ++ rest))
      at_option None e h first go = absurd h
      at_option (Some term) e h first go =
          let ps = parts_of u [] term in
          let under : places_under u t ≡ places_of ps = ap (λ o. option_map_or (part_places u) o []) e ∙ sym (parts_placed u term) in
          let f = λ (x : Part). walked_within u k x.at in (
            subst (AllByRecursion (λ p. is_in (flat_map f ps ++ rest) p ≡ true)) (sym under)
                (each_placed (λ p. is_in (flat_map f ps ++ rest) p ≡ true) ps
                (each_there k ps rest
                (parts_same (λ bound at. is_in (walked_within u k at) at ≡ true) u cs [] term
                (each_more (Holds k names) (λ x. is_in (walked_within u k x.at) x.at ≡ true) (parts_of u cs term) (λ x g. first (x.binds ++ names) x.catches x.at g) h.1)))),
            go_all k ps (parts_same (λ bound at. Goes k at) u cs [] term (each_more (Holds k names) (λ x. Goes k x.at) (parts_of u cs term) (λ x g. go (x.binds ++ names) x.catches x.at g) h.1)) rest b,
          )

  pub walk_is_behind : IsFormed u → AreBehind u (walked u)
  walk_is_behind formed =
      subst (AreBehind u) (append-nil (walked u))
      (go_all (depth_of u) (root_parts u)
      (each_more (λ p. HoldsWithin UsesVariables u (depth_of u) p.binds p.catches p.at) (λ p. Goes (depth_of u) p.at) (root_parts u) (λ p h. goes (depth_of u) p.binds p.catches p.at h) formed.scopes.used) [] tt)

  -- the places at which walks begin are walked
  pub roots_walked : IsFormed u → AllByRecursion (λ p. is_in (walked u) p.at ≡ true) (root_parts u)
  roots_walked formed =
      subst (λ zs. AllByRecursion (λ p. is_in zs p.at ≡ true) (root_parts u)) (append-nil (walked u))
      (each_there (depth_of u) (root_parts u) []
      (each_more (λ p. HoldsWithin UsesVariables u (depth_of u) p.binds p.catches p.at) (λ p. is_in (walked_within u (depth_of u) p.at) p.at ≡ true) (root_parts u) (λ p h. begins (depth_of u) p.binds p.catches p.at h) formed.scopes.used))
