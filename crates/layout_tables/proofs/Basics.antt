-- Lists of variables, and of what is held.
use Rattle.std.proofs.Common.{◌≡◌, ℕ, zero, suc, ◌+◌, ◌<◌, ◌≤◌, ◌==◌, Bool, true, false, ◌||◌, List, [], ◌∷◌, ◌++◌, length, map, take, drop, reverse, get_or, Some, None, refl, sym, ap, subst, ◌∙◌, arith, min, if◌then◌else◌}
use Rattle.std.specs.Prelude.{not, filter}
use Rattle.std.specs.List.{AllByRecursion}
use Rattle.std.proofs.lemmas.Bool.{eqb-true, eq-eqb}
use Rattle.std.proofs.lemmas.List.{reverse-append, take_all, map-append}
use Rattle.t_base.specs.declared.basics.Var.{Var}
use Rattle.cps_ir.specs.Reaches.{is_in}
use Rattle.cps_ir.proofs.ProperLists.{each_append}
use Rattle.layout_relation.specs.Links.{IsIn, first, later, zip_none, zip_one}
use Rattle.layout_relation.specs.Contexts.{paired, IsUnneeded}
use Rattle.layout_relation.specs.Laid.{numbers, AreHeld}
use Rattle.layout_relation.proofs.Lists.{in_right, in_left, zipped_join}
use Rattle.layout_tables.specs.declared.scopes.Held.{Held}
use Rattle.layout_tables.specs.declared.sites.Join.{Join}
use Rattle.layout_tables.specs.declared.tables.Tables.{Tables}
use Rattle.layout_tables.specs.Sketches.{IsNotHeld, counted, exits_of, needs_behind}

-- ---- taking more

take_next : {X : Type 0} (xs : List X) (i : ℕ) (d : X) → i < length xs → take (suc i) xs ≡ take i xs ++ get_or xs i d ∷ []
take_next [] i d lt = absurd (omega (arith, lt))
take_next (x ∷ xs) zero d lt = refl
take_next (x ∷ xs) (suc i) d lt = ap (λ zs. x ∷ zs) (take_next xs i d (omega (arith, lt)))

pub take_more : {X : Type 0} (xs : List X) (i : ℕ) (d : X) → i < length xs → take (i + 1) xs ≡ take i xs ++ get_or xs i d ∷ []
take_more xs i d lt = let e : i + 1 ≡ suc i = omega arith in ap (λ n. take n xs) e ∙ take_next xs i d lt

-- ---- members

pub in_get : {X : Type 0} (xs : List X) (i : ℕ) (d : X) → i < length xs → IsIn (get_or xs i d) xs
in_get [] i d lt = absurd (omega (arith, lt))
in_get (x ∷ xs) zero d lt = first x xs
in_get (x ∷ xs) (suc i) d lt = later (get_or xs i d) x xs (in_get xs i d (omega (arith, lt)))

pub in_map : {X Y : Type 0} (f : X → Y) (x : X) (xs : List X) → IsIn x xs → IsIn (f x) (map f xs)
in_map f x xs (first a ms) = first (f a) (map f ms)
in_map f x xs (later a b ms k) = later (f a) (f b) (map f ms) (in_map f a ms k)

pub reverse_cons : {X : Type 0} (x : X) (xs : List X) → reverse (x ∷ xs) ≡ reverse xs ++ x ∷ []
reverse_cons x xs = reverse-append (x ∷ []) xs

pub in_reverse : {X : Type 0} (x : X) (xs : List X) → IsIn x xs → IsIn x (reverse xs)
in_reverse x xs (first a ms) = subst (IsIn a) (sym (reverse_cons a ms)) (in_right a (reverse ms) (a ∷ []) (first a []))
in_reverse x xs (later a b ms k) = subst (IsIn a) (sym (reverse_cons b ms)) (in_left a (reverse ms) (b ∷ []) (in_reverse a ms k))

pub is_in_there : (xs : List Var) (x : ℕ) (y : Var) → IsIn y xs → (y.0 == x) ≡ true → is_in (numbers xs) x ≡ true
is_in_there xs x y (first a ms) e = ap (λ b. b || is_in (numbers ms) x) e
is_in_there xs x y (later a b ms k) e = or_true (b.0 == x) (is_in (numbers ms) x) (is_in_there ms x a k e)
  where
    or_true : (p q : Bool) → q ≡ true → (p || q) ≡ true
    or_true true q h = refl
    or_true false q h = h

pub is_in_at : (xs : List Var) (i x : ℕ) (d : Var) → i < length xs → (get_or xs i d).0 ≡ x → is_in (numbers xs) x ≡ true
is_in_at xs i x d lt e = is_in_there xs x (get_or xs i d) (in_get xs i d lt) (eq-eqb _ _ e)

-- ---- what is held

abbrev pub pair_of : Held → ℕ × ℕ
pair_of h = (h.var.0, h.at.0)

pub held_at : (items : List Held) (i : ℕ) (d : Held) (x : ℕ) → i < length items → (get_or items i d).var.0 ≡ x → IsIn {X = ℕ × ℕ} (x, (get_or items i d).at.0) (map pair_of (reverse items))
held_at items i d x lt e = subst (λ z. IsIn {X = ℕ × ℕ} (z, (get_or items i d).at.0) (map pair_of (reverse items))) e (in_map pair_of (get_or items i d) (reverse items) (in_reverse (get_or items i d) items (in_get items i d lt)))

pub held_here : (items hs : List Held) (vars : List (ℕ × ℕ)) (i : ℕ) (d : Held) (x : ℕ) → hs ≡ items → map pair_of (reverse items) ≡ vars → i < length hs → (get_or hs i d).var.0 ≡ x → IsIn {X = ℕ × ℕ} (x, (get_or hs i d).at.0) vars
held_here items hs vars i d x same is lt e = subst (λ vs. IsIn {X = ℕ × ℕ} (x, (get_or hs i d).at.0) vs) (ap (λ zs. map pair_of (reverse zs)) same ∙ is) (held_at hs i d x lt e)

each_reverse : {X : Type 0} (P : X → Type 0) (xs : List X) → AllByRecursion P xs → AllByRecursion P (reverse xs)
each_reverse P [] h = tt
each_reverse P (x ∷ xs) h = subst (AllByRecursion P) (sym (reverse_cons x xs)) (each_append P (reverse xs) (x ∷ []) (each_reverse P xs h.1) (h.0, tt))

pub each_map : {X Y : Type 0} (f : X → Y) (P : Y → Type 0) (xs : List X) → AllByRecursion (λ x. P (f x)) xs → AllByRecursion P (map f xs)
each_map f P [] h = tt
each_map f P (x ∷ xs) h = (h.0, each_map f P xs h.1)

pub not_held : (items : List Held) (i x : ℕ) → length items ≤ i → AllByRecursion (λ h. (h.var.0 == x) ≡ false) (take i items) → IsNotHeld (map pair_of (reverse items)) x
not_held items i x le h = each_map pair_of (λ p. (p.0 == x) ≡ false) (reverse items) (each_reverse (λ h. (h.var.0 == x) ≡ false) items (subst (AllByRecursion (λ h. (h.var.0 == x) ≡ false)) (take_all i items le) h))

-- ---- pairs

paired_past : (xs : List Var) (ys : List Var) (n : ℕ) → n ≡ min (length xs) (length ys) → paired (numbers (drop n xs)) (drop n ys) ≡ []
paired_past [] ys n e = let z : n ≡ 0 = omega (arith, e) in subst (λ m. paired (numbers (drop m [])) (drop m ys) ≡ []) (sym z) refl
paired_past (x ∷ xs) [] n e = let z : n ≡ 0 = omega (arith, e) in subst (λ m. paired (numbers (drop m (x ∷ xs))) (drop m []) ≡ []) (sym z) refl
paired_past (x ∷ xs) (y ∷ ys) zero e = absurd (omega (arith, e))
paired_past (x ∷ xs) (y ∷ ys) (suc n) e = paired_past xs ys n (omega (arith, e))

pub pairs_begin : (xs : List Var) (ys : List Var) (n m : ℕ) (old : List (ℕ × ℕ)) → n ≡ min (length xs) (length ys) → m ≡ n → old ≡ paired (numbers (drop m xs)) (drop m ys) ++ old
pairs_begin xs ys n m old e f = ap (λ ps. ps ++ old) (sym (paired_past xs ys m (f ∙ e)))

-- ---- new variables

counted_next : (n k : ℕ) → counted n (suc k) ≡ counted n k ++ (n + k) ∷ []
counted_next n zero = let e : n ≡ n + 0 = omega arith in ap (λ m. m ∷ []) e
counted_next n (suc k) = let e : suc n + k ≡ n + suc k = omega arith in ap (λ ns. n ∷ ns) (counted_next (suc n) k ∙ ap (λ m. counted (suc n) k ++ m ∷ []) e)

pub counted_more : (n k : ℕ) → counted n (k + 1) ≡ counted n k ++ (n + k) ∷ []
counted_more n k = let e : k + 1 ≡ suc k = omega arith in ap (counted n) e ∙ counted_next n k

-- ---- what is needed

-- a number that isn't the parameter
kept_other : (p y : ℕ) (xs : List ℕ) (b : Bool) → (y == p) ≡ b → filter (λ z. not (z == p)) (y ∷ xs) ≡ (if b then filter (λ z. not (z == p)) xs else y ∷ filter (λ z. not (z == p)) xs)
kept_other p y xs true h = rw h refl
kept_other p y xs false h = rw h refl

differs : (x p y : ℕ) → (x == p) ≡ false → (y == p) ≡ true → (y == x) ≡ false
differs x p y e h = by (y == x) refl
  where
    by : (b : Bool) → (y == x) ≡ b → b ≡ false
    by true k = sym h ∙ ap (λ z. z == p) (eqb-true y x k) ∙ e
    by false k = refl

differs_too : (x p y : ℕ) → (x == p) ≡ true → (y == p) ≡ false → (y == x) ≡ false
differs_too x p y e h = by (y == x) refl
  where
    by : (b : Bool) → (y == x) ≡ b → b ≡ false
    by true k = sym e ∙ ap (λ z. z == p) (sym (eqb-true y x k)) ∙ h
    by false k = refl

pub is_in_behind : (xs : List ℕ) (p x : ℕ) → (x == p) ≡ false → is_in (filter (λ y. not (y == p)) xs) x ≡ is_in xs x
is_in_behind [] p x e = refl
is_in_behind (y ∷ xs) p x e = by (y == p) refl (is_in_behind xs p x e)
  where
    by : (b : Bool) → (y == p) ≡ b → is_in (filter (λ y. not (y == p)) xs) x ≡ is_in xs x → is_in (filter (λ y. not (y == p)) (y ∷ xs)) x ≡ ((y == x) || is_in xs x)
    by true h rest = ap (λ zs. is_in zs x) (kept_other p y xs true h) ∙ rest ∙ sym (ap (λ b. b || is_in xs x) (differs x p y e h))
    by false h rest = ap (λ zs. is_in zs x) (kept_other p y xs false h) ∙ ap (λ b. (y == x) || b) rest

pub not_behind : (xs : List ℕ) (p x : ℕ) → (x == p) ≡ true → is_in (filter (λ y. not (y == p)) xs) x ≡ false
not_behind [] p x e = refl
not_behind (y ∷ xs) p x e = by (y == p) refl (not_behind xs p x e)
  where
    by : (b : Bool) → (y == p) ≡ b → is_in (filter (λ y. not (y == p)) xs) x ≡ false → is_in (filter (λ y. not (y == p)) (y ∷ xs)) x ≡ false
    by true h rest = ap (λ zs. is_in zs x) (kept_other p y xs true h) ∙ rest
    by false h rest = ap (λ zs. is_in zs x) (kept_other p y xs false h) ∙ ap (λ b. b || is_in (filter (λ z. not (z == p)) xs) x) (differs_too x p y e h) ∙ rest

pub not_equal : (x p : ℕ) → (x ≡ p → ⊥) → (x == p) ≡ false
not_equal x p ne = by (x == p) refl
  where
    by : (b : Bool) → (x == p) ≡ b → b ≡ false
    by true k = absurd (ne (eqb-true x p k))
    by false k = refl

pub zipped_more_held : (vars : List (ℕ × ℕ)) (xs : List Var) (ys : List Var) (i : ℕ) (d : Var) (y : Var) → i < length xs → AreHeld vars (numbers (take i xs)) ys → IsIn {X = ℕ × ℕ} ((get_or xs i d).0, y.0) vars → AreHeld vars (numbers (take (i + 1) xs)) (ys ++ y ∷ [])
zipped_more_held vars xs ys i d y lt h k =
    subst (λ zs. AreHeld vars (numbers zs) (ys ++ y ∷ [])) (sym (take_more xs i d lt))
    (subst (λ ns. AreHeld vars ns (ys ++ y ∷ [])) (sym (map-append (λ (x : Var). x.0) (take i xs) (get_or xs i d ∷ [])))
    (zipped_join (λ x z. IsIn {X = ℕ × ℕ} (x, z.0) vars) (numbers (take i xs)) ys ((get_or xs i d).0 ∷ []) (y ∷ []) h (zip_one (get_or xs i d).0 y [] [] k zip_none)))

-- ---- Joins

pub unneeded_by : (w : Tables) (joins : List Join) (own : _) (x : ℕ) → AllByRecursion (λ j. is_in (needs_behind w j.param j.body) x ≡ false) joins → IsUnneeded (exits_of w joins own) x
unneeded_by w [] None x h = tt
unneeded_by w [] (Some k) x h = tt
unneeded_by w (j ∷ joins) own x h = (h.0, unneeded_by w joins own x h.1)

-- ---- the same items

pub same_more : {X : Type 0} (xs ys : List X) (i : ℕ) (d e : X) → i < length xs → length xs ≡ length ys → take i xs ≡ take i ys → get_or xs i d ≡ get_or ys i e → take (i + 1) xs ≡ take (i + 1) ys
same_more xs ys i d e lt len h k = take_more xs i d lt ∙ ap (λ zs. zs ++ get_or xs i d ∷ []) h ∙ ap (λ z. take i ys ++ z ∷ []) k ∙ sym (take_more ys i e (omega (arith, lt, len)))

pub same_all : {X : Type 0} (xs ys : List X) (i : ℕ) → length xs ≤ i → length xs ≡ length ys → take i xs ≡ take i ys → xs ≡ ys
same_all xs ys i le len h = sym (take_all i xs le) ∙ h ∙ take_all i ys (omega (arith, le, len))

pub same_var : (x y : Var) → x.0 ≡ y.0 → x ≡ y
same_var x y e = ap {A = ℕ} {B = Var} (λ n. record { 0 = n }) e

pub same_join : (x y : Join) → x.k.0 ≡ y.k.0 → x.param.0 ≡ y.param.0 → x.body ≡ y.body → x.block ≡ y.block → x ≡ y
same_join x y a b c d = by x.k y.k x.param y.param x.body y.body x.block y.block (same_var x.k y.k a) (same_var x.param y.param b) c d
  where
    made : Var → Var → ℕ → ℕ → Join
    made k p t n = record { k = k; param = p; body = t; block = n }

    by : (k j p q : Var) (t u n m : ℕ) → k ≡ j → p ≡ q → t ≡ u → n ≡ m → made k p t n ≡ made j q u m
    by k j p q t u n m e f g h = ap (λ z. made z p t n) e ∙ ap (λ z. made j z t n) f ∙ ap (λ z. made j q z n) g ∙ ap (λ z. made j q u z) h

pub below_all : (items : List Held) (i n : ℕ) → length items ≤ i → AllByRecursion (λ h. h.at.0 < n) (take i items) → AllByRecursion (λ p. p.1 < n) (map pair_of (reverse items))
below_all items i n le h = each_map pair_of (λ p. p.1 < n) (reverse items) (each_reverse (λ h. h.at.0 < n) items (subst (AllByRecursion (λ h. h.at.0 < n)) (take_all i items le) h))
