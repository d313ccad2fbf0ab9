-- A program that stands for a unit is whole but for fitting.
use Rattle.std.specs.Prelude.{IsSomeAnd}
use Rattle.std.specs.List.{AllByRecursion}
use Rattle.std.proofs.Common.{◌≡◌, ◌<◌, ℕ, zero, suc, List, [], ◌∷◌, ◌++◌, length, map, take, Option, Some, None, slice_get, refl, subst, arith, append-nil}
use Rattle.t_base.specs.declared.shared_parts.Const.TheVariants as Constant
use Rattle.cps_ir.specs.declared.args.Arg.TheVariants as Argument
use Rattle.cps_ir.specs.declared.terms.Lam.{Lam}
use Rattle.cps_ir.specs.declared.terms.Term.{Term}
use Rattle.cps_ir.specs.declared.terms.Cps.{Cps}
use Rattle.cps_ir.specs.Parts.{Name, OwnK, named, Part, lambda_part, parts_of, first_lams, root_parts, depth_of}
use Rattle.cps_ir.specs.Whole.{HoldsWithin, HoldsOfEach, UsesVariables, LeadsOn}
use Rattle.cps_ir.proofs.ProperLists.{each_more, each_of_all}
use Rattle.cps_walk.specs.Walks.{root_places}
use Rattle.cps_order.specs.Order.{IsOrdered}
use Rattle.cps_conversion.specs.Conversion.{Translation, IsTranslated}
use Rattle.conversion_laws.proofs.Firsts.{first_found}
use Rattle.conversion_laws.proofs.Shaped.{converted_is_shaped}
use Rattle.conversion_scopes.specs.Formed.{ConvertedIsFormed}
use Rattle.conversion_scopes.proofs.Once.{named_once, bound_once}
use Rattle.conversion_scopes.proofs.Scopes.{Fine, Good, GoodLam, none_bound}
use Rattle.conversion_scopes.proofs.Walk.{lam_good, within_good, forms_good}

-- a weaker fact
module _ (P Q : List Name → List ℕ → Term → Type 0) (f : (scope : List Name) (catches : List ℕ) (term : Term) → P scope catches term → Q scope catches term) (cps : Cps) where
  holds_more : (depth : ℕ) (scope : List Name) (catches : List ℕ) (t : ℕ) → HoldsWithin P cps depth scope catches t → HoldsWithin Q cps depth scope catches t
  unfolding HoldsWithin
  holds_more zero scope catches t h = absurd h
  holds_more (suc depth) scope catches t h = at_option (λ s c r g. holds_more depth s c r g) (slice_get cps.terms.items t) h
    where
      at_option : ((s : List Name) (c : List ℕ) (r : ℕ) → HoldsWithin P cps depth s c r → HoldsWithin Q cps depth s c r) → (o : Option Term)
          → IsSomeAnd o (λ term. P scope catches term × AllByRecursion (λ p. HoldsWithin P cps depth (p.binds ++ scope) p.catches p.at) (parts_of cps catches term))
          → IsSomeAnd o (λ term. Q scope catches term × AllByRecursion (λ p. HoldsWithin Q cps depth (p.binds ++ scope) p.catches p.at) (parts_of cps catches term))
      at_option go None h = absurd h
      at_option go (Some term) h = (
        f scope catches term h.0,
        each_more (λ p. HoldsWithin P cps depth (p.binds ++ scope) p.catches p.at) (λ p. HoldsWithin Q cps depth (p.binds ++ scope) p.catches p.at) (parts_of cps catches term) (λ p g. go (p.binds ++ scope) p.catches p.at g) h.1,
      )

  each_holds : HoldsOfEach P cps → HoldsOfEach Q cps
  each_holds h = each_more (λ p. HoldsWithin P cps (depth_of cps) p.binds p.catches p.at) (λ p. HoldsWithin Q cps (depth_of cps) p.binds p.catches p.at) (root_parts cps) (λ p g. holds_more (depth_of cps) p.binds p.catches p.at g) h

module _ (x : Translation) (tr : IsTranslated x) (ordered : IsOrdered x.cps) where
  pub first_good : (l : ℕ) → l < first_lams x.cps → GoodLam x.unit x.cps ordered [] [] l
  first_good l lt = let r = first_found x tr l lt in lam_good x ordered tr.depth (within_good x ordered tr.depth) r.0.form [] r.0.params r.0.body l [] [] (none_bound []) r.1

  abbrev FineAt : Part → Type 0
  FineAt p = HoldsWithin (Fine x.unit x.cps) x.cps (depth_of x.cps) p.binds p.catches p.at

  lams_fine : (n : ℕ) (lams : List Lam) → ((l : ℕ) (lam : Lam) → l < n → slice_get lams l ≡ Some lam → Good x.unit x.cps ordered ((named lam.params ++ OwnK lam.k.0 ∷ []) ++ []) [] lam.body)
      → AllByRecursion (λ u. u < length x.cps.terms.items) (map (λ (lam : Lam). lam.body) (take n lams)) → AllByRecursion FineAt (map (lambda_part []) (take n lams))
  lams_fine zero lams f low = tt
  lams_fine (suc n) [] f low = tt
  lams_fine (suc n) (lam ∷ lams) f low =
      let lt = low.0 in (
        subst (λ s. HoldsWithin (Fine x.unit x.cps) x.cps (depth_of x.cps) s [] lam.body) (append-nil (named lam.params ++ OwnK lam.k.0 ∷ [])) ((f 0 lam (omega arith) refl).each (depth_of x.cps) (omega (arith, lt))),
        lams_fine n lams (λ l m lt e. f (suc l) m (omega (arith, lt)) e) low.1,
      )

  pub all_fine : HoldsOfEach (Fine x.unit x.cps) x.cps
  all_fine =
      let low = each_of_all (λ u. u < length x.cps.terms.items) (root_places x.cps) ordered.roots in
      let lt = low.0 in (
        (forms_good x ordered tr.depth 0 x.unit.forms.items (Argument.Const Constant.Nil) x.cps.entry [] tt tr.forms).each (depth_of x.cps) (omega (arith, lt)),
        lams_fine (first_lams x.cps) x.cps.lams.items (λ l lam lt e. (first_good l lt).body lam e) low.1,
      )

pub converted_is_formed : ConvertedIsFormed
converted_is_formed unit cps w small c owed =
    let s = converted_is_shaped unit cps w small c owed in
    let fine = all_fine (record { unit = unit; cps = cps; origins = c.origins }) c.translated owed.ordered in
    record {
      places = record { entry = s.entry; firsts = s.firsts; bodies = s.bodies; terms = s.names; named_once = named_once cps owed.ordered };
      scopes = record { bound_once = bound_once cps owed.ordered owed; used = each_holds (Fine unit cps) UsesVariables (λ scope catches term f. f.uses) cps fine };
      shapes = s.shapes;
      ways = each_holds (Fine unit cps) LeadsOn (λ scope catches term f. f.leads) cps fine;
      shared = s.shared;
    }
