-- What is free in a term that is reached, by what is free in its parts.
use Rattle.std.specs.Prelude.{IsSomeAnd}
use Rattle.std.specs.List.{AllByRecursion, flat_map}
use Rattle.std.specs.Option.{option_map_or}
use Rattle.std.proofs.Common.{◌≡◌, ℕ, zero, suc, ◌≤◌, List, [], ◌∷◌, ◌++◌, length, slice_get, Option, Some, None, refl, ap, ◌∙◌, arith}
use Rattle.cps_ir.specs.declared.terms.Term.{Term}
use Rattle.cps_ir.specs.declared.terms.Cps.{Cps}
use Rattle.cps_ir.specs.Parts.{Name, Part, parts_of, root_parts, depth_of, walked, walked_within, used_by}
use Rattle.cps_ir.specs.Reaches.{without, binds_of, free_within, free_at}
use Rattle.cps_ir.specs.Whole.{UsesVariables, HoldsWithin, IsFormed}
use Rattle.cps_ir.proofs.ProperLists.{each_more, each_joined}
use Rattle.cps_ir.proofs.Closed.{parts_same}
use Rattle.cps_ir.proofs.Inside.{flat_same, free_stable}

-- the term at a place, with what is free in it
pub record IsFreeBy (u : Cps) (t : ℕ) : Type 0 where
  pub term : Term
  pub is : slice_get u.terms.items t ≡ Some term
  pub free : free_at u t ≡ used_by term ++ flat_map (λ p. without (binds_of p) (free_at u p.at)) (parts_of u [] term)

module _ (u : Cps) where
  abbrev Holds : ℕ → List Name → Part → Type 0
  Holds k names x = HoldsWithin UsesVariables u k (x.binds ++ names) x.catches x.at

  free_by : (k : ℕ) (names : List Name) (cs : List ℕ) (t : ℕ) → HoldsWithin UsesVariables u k names cs t → k ≤ depth_of u → AllByRecursion (IsFreeBy u) (walked_within u k t)
  unfolding HoldsWithin walked_within free_within
  free_by zero names cs t h le = absurd h
  free_by (suc k) names cs t h le = at_option (slice_get u.terms.items t) refl h (λ ns ds r g. free_by k ns ds r g (omega (arith, le)))
    where
      at_option : (o : Option Term) → slice_get u.terms.items t ≡ o → IsSomeAnd o (λ term. UsesVariables names cs term × AllByRecursion (Holds k names) (parts_of u cs term))
          → ((ns : List Name) (ds : List ℕ) (r : ℕ) → HoldsWithin UsesVariables u k ns ds r → AllByRecursion (IsFreeBy u) (walked_within u k r))
          → AllByRecursion (IsFreeBy u) (t ∷ option_map_or (λ term. flat_map (λ p. walked_within u k p.at) (parts_of u [] term)) o [])
      at_option None e h go = absurd h
      at_option (Some term) e h go =
          let n = length u.terms.items in
          let small : k ≤ n = omega (arith, le) in
          let ps = parts_of u [] term in
          let f = λ (x : Part). without (binds_of x) (free_within u n x.at) in (
            record {
              term = term;
              is = e;
              free = ap (λ o. option_map_or (λ r. used_by r ++ flat_map f (parts_of u [] r)) o []) e
                  ∙ ap (λ zs. used_by term ++ zs)
                  (flat_same f (λ x. without (binds_of x) (free_within u (suc n) x.at)) ps
                  (parts_same (λ bound at. without bound (free_within u n at) ≡ without bound (free_within u (suc n) at)) u cs [] term
                  (each_more (Holds k names) (λ x. without (binds_of x) (free_within u n x.at) ≡ without (binds_of x) (free_within u (suc n) x.at)) (parts_of u cs term)
                  (λ x g. ap (λ zs. without (binds_of x) zs) (free_stable u UsesVariables k (x.binds ++ names) x.catches x.at g n (suc n) small (omega (arith, small)))) h.1)));
            },
            each_joined (λ p. walked_within u k p.at) (IsFreeBy u) ps
                (parts_same (λ bound at. AllByRecursion (IsFreeBy u) (walked_within u k at)) u cs [] term
                (each_more (Holds k names) (λ x. AllByRecursion (IsFreeBy u) (walked_within u k x.at)) (parts_of u cs term) (λ x g. go (x.binds ++ names) x.catches x.at g) h.1)),
          )

  pub walked_free : IsFormed u → AllByRecursion (IsFreeBy u) (walked u)
  walked_free formed =
      each_joined (λ p. walked_within u (depth_of u) p.at) (IsFreeBy u) (root_parts u)
      (each_more (λ p. HoldsWithin UsesVariables u (depth_of u) p.binds p.catches p.at) (λ p. AllByRecursion (IsFreeBy u) (walked_within u (depth_of u) p.at)) (root_parts u)
      (λ p h. free_by (depth_of u) p.binds p.catches p.at h (omega arith)) formed.scopes.used)
