-- What is fetched so far.
use Rattle.std.proofs.Common.{◌≡◌, ℕ, ◌+◌, ◌<◌, ◌≤◌, List, [], ◌∷◌, ◌++◌, length, get_or, Option, Some, None, refl, sym, ap, subst, ◌∙◌, arith, append_assoc}
use Rattle.std.proofs.lemmas.List.{append-nil, length-append}
use Rattle.std.proofs.lemmas.Option.{slice_get-map, slice_get-get_or}
use Rattle.std.specs.Option.{option_map}
use Rattle.t_base.specs.declared.basics.Var.{Var}
use Rattle.frame_ir.specs.declared.forms.FrameOp.{FrameOp}
use Rattle.layout_relation.specs.Laid.{numbers, Fetches, fetches_none}
use Rattle.layout_tables.specs.declared.requests.Work.{Work}
use Rattle.layout_tables.specs.Sketches.{Scoped, AreBelow}
use Rattle.closure_layout.specs.Blocks.{get_of, IsFetched}
use Rattle.layout_tables.proofs.Growing.{below_more}
use Rattle.layout_steps.proofs.Preparing.{unused_above, more_differs}
use Rattle.closure_layout.proofs.Walking.{fetches_more}
use Rattle.layout_tables.specs.Additions.{Adds, bound_by}
use Rattle.layout_tables.proofs.Adding.{adds_none, adds_ops, adds_variable}

get_binds : (from : Option Var) (to : Var) (slot : ℕ) → bound_by (get_of from to slot ∷ []) ≡ to.0 ∷ []
get_binds None to slot = refl
get_binds (Some from) to slot = refl

pub record FetchedSoFar (old new : Work) (vars held : Scoped) (before after : List FrameOp) (needs : List Var) (place : ℕ) (from : Option Var) : Type 0 where
  pub made : List FrameOp
  pub ops : after ≡ before ++ made
  pub count : length made ≡ place
  pub below : AreBelow new.next held
  pub requests : new.requests ≡ old.requests
  pub templates : new.templates ≡ old.templates
  pub next : old.next ≤ new.next
  pub adds : Adds old new (bound_by made) []
  pub fetches : (apart : ℕ) → apart < old.next → Fetches (get_of from) apart (numbers needs) vars held made

pub fetched_none : (old : Work) (vars : Scoped) (before : List FrameOp) (needs : List Var) (from : Option Var) → AreBelow old.next vars → FetchedSoFar old old vars vars before before needs 0 from
fetched_none old vars before needs from below = record { made = []; ops = sym (append-nil before); count = refl; below = below; requests = refl; templates = refl; next = omega arith; adds = adds_none old; fetches = λ apart lt. fetches_none vars }

pub fetched_more : (old mid new : Work) (vars held more : Scoped) (before after behind : List FrameOp) (needs : List Var) (place : ℕ) (from : Option Var) (d to : Var) (op : FrameOp) → FetchedSoFar old mid vars held before after needs place from → place < length needs
    → new.requests ≡ mid.requests → new.templates ≡ mid.templates → new.next ≡ mid.next + 1 → to.0 ≡ mid.next → op ≡ get_of from to place → behind ≡ after ++ op ∷ [] → more ≡ ((get_or needs place d).0, to.0) ∷ held
    → FetchedSoFar old new vars more before behind needs (place + 1) from
fetched_more old mid new vars held more before after behind needs place from d to op f lt rs ts n is e pushed holds = record {
  made = f.made ++ op ∷ [];
  ops = pushed ∙ ap (λ zs. zs ++ op ∷ []) f.ops ∙ append_assoc before f.made (op ∷ []);
  count = length-append f.made (op ∷ []) ∙ ap (λ k. k + 1) f.count;
  below = subst (AreBelow new.next) (sym holds) (omega (arith, is, n), below_more mid.next new.next held (omega (arith, n)) f.below);
  requests = rs ∙ f.requests;
  templates = ts ∙ f.templates;
  next = let k = f.next in omega (arith, k, n);
  adds = adds_ops old mid new f.made (op ∷ []) f.adds (subst (λ zs. Adds mid new zs []) (sym (ap (λ o. bound_by (o ∷ [])) e ∙ get_binds from to place)) (adds_variable mid new to.0 rs is n));
  fetches = λ apart less. subst (λ hs. Fetches (get_of from) apart (numbers needs) vars hs (f.made ++ op ∷ [])) (sym holds) (subst (λ o. Fetches (get_of from) apart (numbers needs) vars (((get_or needs place d).0, to.0) ∷ held) (f.made ++ o ∷ [])) (sym e)
      (fetches_more (get_of from) apart (numbers needs) vars held f.made (get_or needs place d).0 place to (f.fetches apart less)
      (slice_get-map (λ (x : Var). x.0) needs place ∙ ap (option_map (λ (x : Var). x.0)) (slice_get-get_or needs place d lt)) (unused_above mid.next to.0 held (omega (arith, is)) f.below) (more_differs apart to.0 (let k = f.next in omega (arith, less, k, is)))));
}

pub fetched_all : (old new : Work) (vars held : Scoped) (before after : List FrameOp) (needs : List Var) (place : ℕ) (from : Option Var) → FetchedSoFar old new vars held before after needs place from → place ≡ length needs → IsFetched old new vars held before after needs from
fetched_all old new vars held before after needs place from f e = record { made = f.made; ops = f.ops; count = f.count ∙ e; below = f.below; requests = f.requests; templates = f.templates; next = f.next; adds = f.adds; fetches = f.fetches }
