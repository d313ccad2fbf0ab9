-- The places of the parts of joined lists.
use Rattle.std.specs.List.{filter_map}
use Rattle.std.proofs.Common.{◌≡◌, ℕ, ◌+◌, ◌<◌, List, [], ◌∷◌, ◌++◌, length, take, get_or, map, reverse, sym, ap, ◌∙◌, append_assoc}
use Rattle.std.proofs.lemmas.List.Elements.{filter_map-append}
use Rattle.std.proofs.lemmas.List.{map-append, take_more, reverse-append}
use Rattle.cps_ir.specs.declared.args.Arg.{Arg}
use Rattle.cps_ir.specs.declared.terms.Lam.{Lam}
use Rattle.cps_ir.specs.declared.terms.Cps.{Cps}
use Rattle.cps_ir.specs.Parts.{proc_of, lambda_at}
use Rattle.cps_walk.specs.Walks.{bodies_of, bodies_in}

pub bodies_joined : (cps : Cps) (xs ys : List ℕ) → bodies_of cps (xs ++ ys) ≡ bodies_of cps xs ++ bodies_of cps ys
bodies_joined cps xs ys = ap (λ ls. map (λ (lam : Lam). lam.body) ls) (filter_map-append (lambda_at cps) xs ys) ∙ map-append (λ (lam : Lam). lam.body) (filter_map (lambda_at cps) xs) (filter_map (lambda_at cps) ys)

pub bodies_in_joined : (cps : Cps) (xs ys : List Arg) → bodies_in cps (xs ++ ys) ≡ bodies_in cps xs ++ bodies_in cps ys
bodies_in_joined cps xs ys = ap (bodies_of cps) (filter_map-append proc_of xs ys) ∙ bodies_joined cps (filter_map proc_of xs) (filter_map proc_of ys)

-- one procedure more, one argument more
pub bodies_more : (cps : Cps) (old before after : List ℕ) (xs : List ℕ) (i d : ℕ) → i < length xs → before ≡ old ++ bodies_of cps (take i xs) → after ≡ before ++ bodies_of cps (get_or xs i d ∷ []) → after ≡ old ++ bodies_of cps (take (i + 1) xs)
bodies_more cps old before after xs i d lt e h =
    h ∙ ap (λ ws. ws ++ bodies_of cps (get_or xs i d ∷ [])) e ∙ append_assoc old (bodies_of cps (take i xs)) (bodies_of cps (get_or xs i d ∷ []))
    ∙ ap (λ ws. old ++ ws) (sym (bodies_joined cps (take i xs) (get_or xs i d ∷ [])) ∙ ap (bodies_of cps) (sym (take_more xs i d lt)))

pub bodies_in_more : (cps : Cps) (old before after : List ℕ) (xs : List Arg) (i : ℕ) (d : Arg) → i < length xs → before ≡ old ++ bodies_in cps (take i xs) → after ≡ before ++ bodies_in cps (get_or xs i d ∷ []) → after ≡ old ++ bodies_in cps (take (i + 1) xs)
bodies_in_more cps old before after xs i d lt e h =
    h ∙ ap (λ ws. ws ++ bodies_in cps (get_or xs i d ∷ [])) e ∙ append_assoc old (bodies_in cps (take i xs)) (bodies_in cps (get_or xs i d ∷ []))
    ∙ ap (λ ws. old ++ ws) (sym (bodies_in_joined cps (take i xs) (get_or xs i d ∷ [])) ∙ ap (bodies_in cps) (sym (take_more xs i d lt)))

-- one place more from a list to another, the last one first
pub moved_more : (parts rest waiting after all : List ℕ) (x : ℕ) → waiting ++ reverse parts ≡ all → parts ≡ rest ++ x ∷ [] → after ≡ waiting ++ x ∷ [] → after ++ reverse rest ≡ all
moved_more parts rest waiting after all x h e q =
    ap (λ ws. ws ++ reverse rest) q ∙ append_assoc waiting (x ∷ []) (reverse rest) ∙ ap (λ ws. waiting ++ ws) (sym (reverse-append rest (x ∷ []))) ∙ ap (λ ws. waiting ++ reverse ws) (sym e) ∙ h
