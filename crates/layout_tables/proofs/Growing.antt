-- More requests.
use Rattle.std.proofs.Common.{◌≡◌, ℕ, ◌≤◌, List, [], ◌∷◌, ◌++◌, length, slice_get, Some, refl, sym, subst, arith}
use Rattle.std.proofs.lemmas.List.{map-append}
use Rattle.layout_relation.specs.Laid.{Sketch, IsFor}
use Rattle.layout_relation.proofs.Lists.{get_front}
use Rattle.layout_tables.specs.declared.tables.Tables.{Tables}
use Rattle.layout_tables.specs.declared.requests.Request.{Request}
use Rattle.layout_tables.specs.declared.requests.Work.{Work}
use Rattle.layout_tables.specs.Sketches.{purposes_of, purpose_of, Ever, Grows, Scoped, AreBelow}

module _ (w : Tables) where
  pub later : (old new : Work) (P : Sketch → Type 0) → Grows w old new → Ever w old P → Ever w new P
  later old new P g h purposes templates f e = h purposes templates (λ k x s. f k x (g.requests k x s)) (λ k x s. e k x (g.templates k x s))

  pub grows_none : (old : Work) → Grows w old old
  grows_none old = record { requests = λ k x e. e; templates = λ k x e. e; next = omega arith }

  pub grows_same : (old new : Work) → new.requests ≡ old.requests → new.templates ≡ old.templates → old.next ≤ new.next → Grows w old new
  grows_same old new r t n = record {
    requests = λ k x e. subst (λ rs. slice_get (purposes_of w rs.items) k ≡ Some x) (sym r) e;
    templates = λ k x e. subst (λ ts. slice_get ts.items k ≡ Some x) (sym t) e;
    next = n;
  }

  pub grows_more : (old mid new : Work) → Grows w old mid → Grows w mid new → Grows w old new
  grows_more old mid new g h = record {
    requests = λ k x e. h.requests k x (g.requests k x e);
    templates = λ k x e. h.templates k x (g.templates k x e);
    next = let a = g.next in let b = h.next in omega (arith, a, b);
  }

  abbrev pub IsAsked : Work → Work → Request → Type 0
  IsAsked old new r = (new.requests.items ≡ old.requests.items ++ r ∷ []) × (new.templates ≡ old.templates) × (new.next ≡ old.next)

  pub grows_asked : (old new : Work) (r : Request) → new.requests.items ≡ old.requests.items ++ r ∷ [] → new.templates ≡ old.templates → new.next ≡ old.next → Grows w old new
  grows_asked old new r rs ts n = record {
    requests = λ k x e. subst (λ zs. slice_get (purposes_of w zs) k ≡ Some x) (sym rs) (subst (λ zs. slice_get zs k ≡ Some x) (sym (map-append (purpose_of w) old.requests.items (r ∷ []))) (get_front (purposes_of w old.requests.items) (purpose_of w r ∷ []) k x e));
    templates = λ k x e. subst (λ zs. slice_get zs.items k ≡ Some x) (sym ts) e;
    next = omega (arith, n);
  }

  at_end : (xs : List Request) (r : Request) → slice_get (purposes_of w (xs ++ r ∷ [])) (length xs) ≡ Some (purpose_of w r)
  at_end [] r = refl
  at_end (x ∷ xs) r = at_end xs r

  pub asked : (old new : Work) (r : Request) (place : ℕ) → new.requests.items ≡ old.requests.items ++ r ∷ [] → place ≡ length old.requests.items → Ever w new (λ v. IsFor v place (purpose_of w r))
  asked old new r place rs e purposes templates f g = f place (purpose_of w r) (subst (λ zs. slice_get (purposes_of w zs) place ≡ Some (purpose_of w r)) (sym rs) (subst (λ k. slice_get (purposes_of w (old.requests.items ++ r ∷ [])) k ≡ Some (purpose_of w r)) (sym e) (at_end old.requests.items r)))

pub below_more : (n m : ℕ) (vars : Scoped) → n ≤ m → AreBelow n vars → AreBelow m vars
below_more n m [] le h = tt
below_more n m (p ∷ vars) le h = ((let a = h.0 in omega (arith, a, le)), below_more n m vars le h.1)
