-- Lists that are walked from the first item to the last.
use Rattle.std.specs.List.{list_any, flat_map}
use Rattle.std.proofs.Common.{◌≡◌, ℕ, ◌+◌, ◌<◌, ◌≤◌, Bool, ◌||◌, true, false, List, [], ◌∷◌, ◌++◌, All, length, take, get_or, slice_index_or, refl, sym, ap, ◌∙◌, subst, arith}
use Rattle.std.proofs.lemmas.List.{take_more}
use Rattle.std.proofs.lemmas.List.Elements.{All-append, All-cons, All-nil}
use Rattle.std.proofs.lemmas.List.Concat.{flat_map-cons}
use Rattle.std.proofs.lemmas.Grind.{flat_map-append}
use Rattle.std.proofs.lemmas.List.Folds.{list_any-append}
use Rattle.t_base.specs.declared.basics.Var.{Var}
use Rattle.t_core.specs.declared.forms.Core.{Core}
use Rattle.t_core.specs.declared.forms.Method.{Method}
use Rattle.cps_walk.proofs.MarkLemmas.{or_nothing}
use Rattle.cps_units.specs.Numbers.{IsPast, IsPastNode, ArePastNodes}

-- ---- any item

pub any_more : {X : Type 0} (p : X → Bool) (xs : List X) (i : ℕ) (d : X) → i < length xs → list_any p (take (i + 1) xs) ≡ (list_any p (take i xs) || p (get_or xs i d))
any_more p xs i d lt =
    ap (list_any p) (take_more xs i d lt) ∙ list_any-append p (take i xs) (get_or xs i d ∷ []) ∙ ap (λ b. list_any p (take i xs) || b) (sym (or_nothing (p (get_or xs i d))))

or_more : (a b c : Bool) → ((a || b) || c) ≡ (a || (b || c))
or_more true b c = refl
or_more false b c = refl

pub then_any : {X : Type 0} (p : X → Bool) (xs : List X) (i : ℕ) (d : X) (old b c : Bool) → i < length xs → c ≡ (b || p (get_or xs i d)) → b ≡ (old || list_any p (take i xs)) → c ≡ (old || list_any p (take (i + 1) xs))
then_any p xs i d old b c lt e h =
    e ∙ ap (λ z. z || p (get_or xs i d)) h ∙ or_more old (list_any p (take i xs)) (p (get_or xs i d)) ∙ ap (λ z. old || z) (sym (any_more p xs i d lt))

-- ---- all items

pub weaker : {X : Type 0} (P Q : X → Type 0) → ((x : X) → P x → Q x) → (xs : List X) → All P xs → All Q xs
weaker P Q h xs all = λ k d lt. h (slice_index_or xs k d) (all k d lt)

one : {X : Type 0} (P : X → Type 0) (x : X) → P x → All P (x ∷ [])
one P x h = All-cons P x [] h (All-nil P)

pub all_more : {X : Type 0} (P Q : X → Type 0) (xs : List X) (i : ℕ) (d : X) → i < length xs → ((x : X) → P x → Q x) → All P (take i xs) → Q (get_or xs i d) → All Q (take (i + 1) xs)
all_more P Q xs i d lt h all last =
    subst (All Q) (sym (take_more xs i d lt)) (All-append Q (take i xs) (get_or xs i d ∷ []) (weaker P Q h (take i xs) all) (one Q (get_or xs i d) last))

-- ---- numbers

pub past_less : (n m : ℕ) → n ≤ m → (v : Var) → v.0 < n → v.0 < m
past_less n m le v lt = omega (arith, le, lt)

pub past_none : (least : ℕ) → IsPast least least []
past_none least = record { least_first = omega arith; past = All-nil (λ v. v.0 < least) }

pub past_one : (least n : ℕ) (v : Var) → least ≤ n → v.0 < n → IsPast least n (v ∷ [])
past_one least n v le lt = record { least_first = le; past = one (λ w. w.0 < n) v lt }

pub past_both : (least n m : ℕ) (xs ys : List Var) → IsPast least n xs → IsPast n m ys → IsPast least m (xs ++ ys)
past_both least n m xs ys h g = record {
  least_first = let a = h.least_first in let b = g.least_first in omega (arith, a, b);
  past = All-append (λ v. v.0 < m) xs ys (weaker (λ v. v.0 < n) (λ v. v.0 < m) (past_less n m g.least_first) xs h.past) g.past;
}

pub past_step : (least n m : ℕ) (xs : List Var) (i : ℕ) (d : Var) → i < length xs → IsPast least n (take i xs) → IsPast n m (get_or xs i d ∷ []) → IsPast least m (take (i + 1) xs)
past_step least n m xs i d lt h g = subst (IsPast least m) (sym (take_more xs i d lt)) (past_both least n m (take i xs) (get_or xs i d ∷ []) h g)

abbrev params : Method → List Var
params m = m.params

append_nil : {X : Type 0} (xs : List X) → xs ++ [] ≡ xs
append_nil [] = refl
append_nil (x ∷ xs) = ap (λ l. x ∷ l) (append_nil xs)

pub past_methods_step : (least n m : ℕ) (xs : List Method) (i : ℕ) (d : Method) → i < length xs → IsPast least n (flat_map (λ m. m.params) (take i xs)) → IsPast n m (get_or xs i d).params
    → IsPast least m (flat_map (λ m. m.params) (take (i + 1) xs))
past_methods_step least n m xs i d lt h g =
    let x = get_or xs i d in
    let e : flat_map params (take (i + 1) xs) ≡ flat_map params (take i xs) ++ x.params =
    ap (flat_map params) (take_more xs i d lt) ∙ flat_map-append params (take i xs) (x ∷ []) ∙ ap (λ l. flat_map params (take i xs) ++ l) (flat_map-cons params x [] ∙ append_nil x.params) in
    subst (IsPast least m) (sym e) (past_both least n m (flat_map params (take i xs)) x.params h g)

pub node_less : (n m : ℕ) → n ≤ m → (node : Core) → IsPastNode n node → IsPastNode m node
node_less n m le node h = record {
  binders = weaker (λ v. v.0 < n) (λ v. v.0 < m) (past_less n m le) _ h.binders;
  assigned = λ v e. let lt = h.assigned v e in omega (arith, le, lt);
}

pub nodes_none : (least : ℕ) → ArePastNodes least least []
nodes_none least = record { least_first = omega arith; past = All-nil (IsPastNode least) }

pub nodes_one : (least n : ℕ) (node : Core) → least ≤ n → IsPastNode n node → ArePastNodes least n (node ∷ [])
nodes_one least n node le h = record { least_first = le; past = one (IsPastNode n) node h }

pub nodes_step : (least n m : ℕ) (xs : List Core) (i : ℕ) (d : Core) → i < length xs → ArePastNodes least n (take i xs) → ArePastNodes n m (get_or xs i d ∷ []) → ArePastNodes least m (take (i + 1) xs)
nodes_step least n m xs i d lt h g = record {
  least_first = let a = h.least_first in let b = g.least_first in omega (arith, a, b);
  past = subst (All (IsPastNode m)) (sym (take_more xs i d lt)) (All-append (IsPastNode m) (take i xs) (get_or xs i d ∷ []) (weaker (IsPastNode n) (IsPastNode m) (node_less n m g.least_first) (take i xs) h.past) g.past);
}
