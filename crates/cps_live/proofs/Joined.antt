-- Lists that are put behind each other, and what is seen of the parts of a term.
use Rattle.std.specs.List.{filter_map, flat_map, cons_option}
use Rattle.std.proofs.Common.{◌≡◌, ℕ, zero, suc, ◌+◌, ◌<◌, ◌==◌, Bool, true, false, not, ◌||◌, cond, List, [], ◌∷◌, ◌++◌, length, take, map, get_or, slice_get, refl, sym, ap, ◌∙◌, arith, append_assoc}
use Rattle.std.proofs.lemmas.List.{take_more, map-append, append-nil}
use Rattle.std.proofs.lemmas.List.Elements.{filter_map-append}
use Rattle.std.proofs.lemmas.List.Folds.{list_any-append}
use Rattle.std.proofs.lemmas.Grind.{flat_map-append}
use Rattle.t_base.specs.declared.basics.Var.{Var}
use Rattle.cps_ir.specs.declared.args.Arg.{Arg}
use Rattle.cps_ir.specs.declared.terms.Lam.{Lam}
use Rattle.cps_ir.specs.declared.terms.Term.{Term}
use Rattle.cps_ir.specs.declared.terms.Cps.{Cps}
use Rattle.cps_ir.specs.Parts.{proc_of, arg_variable, arg_variables, Name, OwnK, named, variable_of, own_parts, lambda_at, lambdas_of, around, lambda_part, parts_of, lams_of, lam_binders}
use Rattle.cps_ir.specs.Reaches.{is_in, without, binds_of}
use Rattle.cps_known.specs.LiveVariables.{join_k}
use Rattle.cps_live.specs.Gathered.{numbers, list_at, seen_in, seen_in_lambdas, lambda_ks}

-- ---- loops that add a part of a list at a time

pub joined_more : {X Y : Type 0} (f : List X → List Y) → ((xs ys : List X) → f (xs ++ ys) ≡ f xs ++ f ys) → (old before after : List Y) (xs : List X) (i : ℕ) (d : X) → i < length xs
    → before ≡ old ++ f (take i xs) → after ≡ before ++ f (get_or xs i d ∷ []) → after ≡ old ++ f (take (i + 1) xs)
joined_more f joins old before after xs i d lt e h =
    h ∙ ap (λ ws. ws ++ f (get_or xs i d ∷ [])) e ∙ append_assoc old (f (take i xs)) (f (get_or xs i d ∷ []))
    ∙ ap (λ ws. old ++ ws) (sym (joins (take i xs) (get_or xs i d ∷ [])) ∙ ap f (sym (take_more xs i d lt)))

pub procs_more : (old before after : List ℕ) (xs : List Arg) (i : ℕ) (d : Arg) → i < length xs → before ≡ old ++ filter_map proc_of (take i xs) → after ≡ before ++ filter_map proc_of (get_or xs i d ∷ []) → after ≡ old ++ filter_map proc_of (take (i + 1) xs)
procs_more = joined_more (filter_map proc_of) (filter_map-append proc_of)

pub variables_more : (old before after : List ℕ) (xs : List Arg) (i : ℕ) (d : Arg) → i < length xs → before ≡ old ++ arg_variables (take i xs) → after ≡ before ++ arg_variables (get_or xs i d ∷ []) → after ≡ old ++ arg_variables (take (i + 1) xs)
variables_more = joined_more arg_variables (filter_map-append arg_variable)

ks_joined : (cps : Cps) (xs ys : List ℕ) → lambda_ks cps (xs ++ ys) ≡ lambda_ks cps xs ++ lambda_ks cps ys
ks_joined cps xs ys = ap (λ ls. map (λ (lam : Lam). lam.k.0) ls) (filter_map-append (lambda_at cps) xs ys) ∙ map-append (λ (lam : Lam). lam.k.0) (filter_map (lambda_at cps) xs) (filter_map (lambda_at cps) ys)

pub ks_more : (cps : Cps) (old before after : List ℕ) (xs : List ℕ) (i d : ℕ) → i < length xs → before ≡ old ++ lambda_ks cps (take i xs) → after ≡ before ++ lambda_ks cps (get_or xs i d ∷ []) → after ≡ old ++ lambda_ks cps (take (i + 1) xs)
ks_more cps = joined_more (lambda_ks cps) (ks_joined cps)

pub seen_more : (cps : Cps) (lists : List (List Var)) (names old before after : List ℕ) (xs : List ℕ) (i d : ℕ) → i < length xs → before ≡ old ++ seen_in_lambdas cps lists names (take i xs)
    → after ≡ before ++ seen_in_lambdas cps lists names (get_or xs i d ∷ []) → after ≡ old ++ seen_in_lambdas cps lists names (take (i + 1) xs)
seen_more cps lists names = joined_more (seen_in_lambdas cps lists names) joins
  where
    g : Lam → List ℕ
    g = λ (lam : Lam). without (lam_binders lam ++ names) (list_at lists lam.body)

    joins : (xs ys : List ℕ) → seen_in_lambdas cps lists names (xs ++ ys) ≡ seen_in_lambdas cps lists names xs ++ seen_in_lambdas cps lists names ys
    joins xs ys = ap (flat_map g) (filter_map-append (lambda_at cps) xs ys) ∙ flat_map-append g (filter_map (lambda_at cps) xs) (filter_map (lambda_at cps) ys)

-- ---- the terms at some places

one_term : {X : Type 0} (g : Term → List X) (terms : List Term) (i : ℕ) (d : Term) → i < length terms → flat_map g (cons_option (slice_get terms i) []) ≡ g (get_or terms i d)
one_term g [] i d lt = absurd (omega (arith, lt))
one_term g (t ∷ terms) zero d lt = append-nil (g t)
one_term g (t ∷ terms) (suc i) d lt = one_term g terms i d (omega (arith, lt))

terms_more : {X : Type 0} (g : Term → List X) (terms : List Term) (old before after : List X) (places : List ℕ) (i d : ℕ) (e : Term) → i < length places → get_or places i d < length terms
    → before ≡ old ++ flat_map g (filter_map (slice_get terms) (take i places)) → after ≡ before ++ g (get_or terms (get_or places i d) e) → after ≡ old ++ flat_map g (filter_map (slice_get terms) (take (i + 1) places))
terms_more g terms old before after places i d e lt there b a =
    joined_more (λ ps. flat_map g (filter_map (slice_get terms) ps))
    (λ xs ys. ap (flat_map g) (filter_map-append (slice_get terms) xs ys) ∙ flat_map-append g (filter_map (slice_get terms) xs) (filter_map (slice_get terms) ys))
    old before after places i d lt b (a ∙ ap (λ ws. before ++ ws) (sym (one_term g terms (get_or places i d) e there)))

pub join_ks_more : (terms : List Term) (old before after : List ℕ) (places : List ℕ) (i d : ℕ) (e : Term) → i < length places → get_or places i d < length terms
    → before ≡ old ++ flat_map join_k (filter_map (slice_get terms) (take i places)) → after ≡ before ++ join_k (get_or terms (get_or places i d) e) → after ≡ old ++ flat_map join_k (filter_map (slice_get terms) (take (i + 1) places))
join_ks_more = terms_more join_k

-- the k of the LAMBDAs of terms, a term at a time
mapped : (f : Lam → ℕ) (g : Term → List Lam) (ts : List Term) → flat_map (λ t. map f (g t)) ts ≡ map f (flat_map g ts)
mapped f g [] = refl
mapped f g (t ∷ ts) = ap (λ ws. map f (g t) ++ ws) (mapped f g ts) ∙ sym (map-append f (g t) (flat_map g ts))

pub inner_ks_more : (cps : Cps) (old before after : List ℕ) (places : List ℕ) (i d : ℕ) (e : Term) → i < length places → get_or places i d < length cps.terms.items
    → before ≡ old ++ map (λ lam. lam.k.0) (flat_map (lambdas_of cps) (filter_map (slice_get cps.terms.items) (take i places)))
    → after ≡ before ++ map (λ lam. lam.k.0) (lambdas_of cps (get_or cps.terms.items (get_or places i d) e))
    → after ≡ old ++ map (λ lam. lam.k.0) (flat_map (lambdas_of cps) (filter_map (slice_get cps.terms.items) (take (i + 1) places)))
inner_ks_more cps old before after places i d e lt there b a =
    let f = λ (lam : Lam). lam.k.0 in
    let g = λ (t : Term). map f (lambdas_of cps t) in
    terms_more g cps.terms.items old before after places i d e lt there (b ∙ ap (λ ws. old ++ ws) (sym (mapped f (lambdas_of cps) (filter_map (slice_get cps.terms.items) (take i places))))) a
    ∙ ap (λ ws. old ++ ws) (mapped f (lambdas_of cps) (filter_map (slice_get cps.terms.items) (take (i + 1) places)))

-- ---- numbers that are there

pub without_same : (a b xs : List ℕ) → ((m : ℕ) → is_in a m ≡ is_in b m) → without a xs ≡ without b xs
without_same a b [] h = refl
without_same a b (x ∷ xs) h = ap (λ t. cond (not t) (x ∷ without a xs) (without a xs)) (h x) ∙ ap (λ zs. cond (not (is_in b x)) (x ∷ zs) zs) (without_same a b xs h)

pub or_none : (b : Bool) → (b || false) ≡ b
or_none true = refl
or_none false = refl

-- a set that was empty
pub filled : (old new xs : List ℕ) → old ≡ [] → ((m : ℕ) → is_in new m ≡ (is_in old m || is_in xs m)) → (m : ℕ) → is_in new m ≡ is_in xs m
filled old new xs e h m = h m ∙ ap (λ os. is_in os m || is_in xs m) e

pub named_numbers : (xs : List Var) → map variable_of (named xs) ≡ numbers xs
named_numbers [] = refl
named_numbers (x ∷ xs) = ap (λ ns. x.0 ∷ ns) (named_numbers xs)

-- ---- LAMBDAs

-- the parameters and the k were put into an empty set
pub binders_hidden : (old first second : List ℕ) (lam : Lam) → old ≡ [] → ((m : ℕ) → is_in first m ≡ (is_in old m || is_in (numbers lam.params) m)) → ((m : ℕ) → is_in second m ≡ (is_in first m || lam.k.0 == m))
    → (m : ℕ) → is_in second m ≡ is_in (lam_binders lam) m
binders_hidden old first second lam e h g m =
    g m ∙ ap (λ b. b || lam.k.0 == m) (filled old first (numbers lam.params) e h m) ∙ ap (λ b. is_in (numbers lam.params) m || b) (sym (or_none (lam.k.0 == m)))
    ∙ sym (list_any-append (λ y. y == m) (numbers lam.params) (lam.k.0 ∷ []))

pub body_seen : (list names hidden binders : List ℕ) → ((m : ℕ) → is_in hidden m ≡ is_in binders m) → without (hidden ++ names) list ≡ without (binders ++ names) list
body_seen list names hidden binders h =
    without_same (hidden ++ names) (binders ++ names) list
    (λ m. list_any-append (λ y. y == m) hidden names ∙ ap (λ b. b || is_in names m) (h m) ∙ sym (list_any-append (λ y. y == m) binders names))

binders_named : (xs : List Var) (k : ℕ) (names : List Name) → map variable_of (named xs ++ OwnK k ∷ names) ≡ (numbers xs ++ k ∷ []) ++ map variable_of names
binders_named [] k names = refl
binders_named (x ∷ xs) k names = ap (λ ns. x.0 ∷ ns) (binders_named xs k names)

lambdas_seen : (lists : List (List Var)) (outer : List ℕ) (names : List Name) → ((m : ℕ) → is_in outer m ≡ is_in (map variable_of names) m) → (lams : List Lam)
    → flat_map (λ (r : Lam). without (lam_binders r ++ outer) (list_at lists r.body)) lams ≡ flat_map (seen_in lists) (map (lambda_part names) lams)
lambdas_seen lists outer names h [] = refl
lambdas_seen lists outer names h (r ∷ lams) =
    ap (λ ws. ws ++ flat_map (λ (r : Lam). without (lam_binders r ++ outer) (list_at lists r.body)) lams)
    (without_same (lam_binders r ++ outer) (binds_of (lambda_part names r)) (list_at lists r.body)
    (λ m. list_any-append (λ y. y == m) (lam_binders r) outer ∙ ap (λ b. is_in (lam_binders r) m || b) (h m) ∙ sym (list_any-append (λ y. y == m) (lam_binders r) (map variable_of names))
    ∙ ap (λ ns. is_in ns m) (sym (binders_named r.params r.k.0 names))))
    ∙ ap (λ ws. seen_in lists (lambda_part names r) ++ ws) (lambdas_seen lists outer names h lams)

-- all parts of a term
pub parts_seen : (cps : Cps) (lists : List (List Var)) (term : Term) (outer lams old between after : List ℕ) → lams ≡ lams_of term → ((m : ℕ) → is_in outer m ≡ is_in (map variable_of (around term)) m)
    → between ≡ old ++ seen_in_lambdas cps lists outer lams → after ≡ between ++ flat_map (seen_in lists) (own_parts [] term) → after ≡ old ++ flat_map (seen_in lists) (parts_of cps [] term)
parts_seen cps lists term outer lams old between after e h b a =
    let inner = map (lambda_part (around term)) (lambdas_of cps term) in
    let own = own_parts [] term in
    a ∙ ap (λ ws. ws ++ flat_map (seen_in lists) own) (b ∙ ap (λ ls. old ++ seen_in_lambdas cps lists outer ls) e ∙ ap (λ ws. old ++ ws) (lambdas_seen lists outer (around term) h (lambdas_of cps term)))
    ∙ append_assoc old (flat_map (seen_in lists) inner) (flat_map (seen_in lists) own) ∙ ap (λ ws. old ++ ws) (sym (flat_map-append (seen_in lists) inner own))
