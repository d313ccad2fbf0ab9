-- Things that are added to those that stand in static words.
use Rattle.std.proofs.Common.{◌≡◌, ℕ, zero, suc, ◌+◌, ◌*◌, ◌<◌, ◌≤◌, ◌^◌, ◌==◌, Bool, true, false, ◌||◌, if◌then◌else◌, List, [], ◌∷◌, ◌++◌, length, map, take, get_or, Option, Some, None, is_some, option_map, refl, sym, ap, ◌∙◌, subst, arith}
use Rattle.std.proofs.lemmas.Bool.{eqb-true, eq-eqb, true≢false}
use Rattle.std.proofs.lemmas.List.{map-append, take_more}
use Rattle.t_prim.specs.Values.{Literal, PrintName}
use Rattle.t_prim.specs.Identity.{number_of}
use Rattle.word_ir.specs.Storage.{STATICS_START}
use Rattle.frame_ir.specs.declared.forms.Frames.{Frames}
use Rattle.frame_words.specs.Segments.{AreDistinct, place_of, total_of}
use Rattle.frame_words.specs.Layouts.{Fixed, ClosureOf, BuiltinOf, OperationOf, TextOf, SymbolOf, PairOf, TemplateOf, same_fixed}
use Rattle.frame_words.specs.ValueWords.{or_other, or_zero, tagged}
use Rattle.operand_drafts.specs.Places.{word_at}
use Rattle.static_names.specs.declared.things.Thing.{Thing}
use Rattle.static_names.specs.Named.{fixed_of}
use Rattle.static_tables.proofs.Same.{fixed_sound}
use Rattle.static_tables.specs.declared.statics.Statics.{Statics}
use Rattle.static_tables.specs.Tables.{words_of, front_of, tag_for, address_in, word_in, has, index_of, fixed_in, AreStatics, IsAppended, Adds}

-- ---- things by kind and number

pub false_of : (b : Bool) → (b ≡ true → ⊥) → b ≡ false
false_of true h = absurd (h refl)
false_of false h = refl

same_eqb : (a b c d : ℕ) → (a ≡ b → c ≡ d) → (c ≡ d → a ≡ b) → (a == b) ≡ (c == d)
same_eqb a b c d f g = by (c == d) refl
  where
    by : (t : Bool) → (c == d) ≡ t → (a == b) ≡ t
    by true e = eq-eqb a b (g (eqb-true c d e))
    by false e = false_of (a == b) (λ q. true≢false (sym (eq-eqb c d (f (eqb-true a b q))) ∙ e))

alike : (i a b : ℕ) → (8 * a + i == 8 * b + i) ≡ (a == b)
alike i a b = same_eqb (8 * a + i) (8 * b + i) a b (λ e. omega (arith, e)) (λ e. omega (arith, e))

other : (i j a b : ℕ) → i < 8 → j < 8 → (i ≡ j → ⊥) → (8 * a + i == 8 * b + j) ≡ false
other i j a b small less ne = false_of (8 * a + i == 8 * b + j) (λ q. let e = eqb-true (8 * a + i) (8 * b + j) q in ne (omega (arith, e, small, less)))

first_alike : (a b : ℕ) → (8 * a == 8 * b) ≡ (a == b)
first_alike a b = same_eqb (8 * a) (8 * b) a b (λ e. omega (arith, e)) (λ e. omega (arith, e))

first_other : (j a b : ℕ) → 0 < j → j < 8 → (8 * a == 8 * b + j) ≡ false
first_other j a b some less = false_of (8 * a == 8 * b + j) (λ q. let e = eqb-true (8 * a) (8 * b + j) q in absurd (omega (arith, e, some, less)))

other_first : (i a b : ℕ) → 0 < i → i < 8 → (8 * a + i == 8 * b) ≡ false
other_first i a b some less = false_of (8 * a + i == 8 * b) (λ q. let e = eqb-true (8 * a + i) (8 * b) q in absurd (omega (arith, e, some, less)))

pub index_same : (x y : Fixed) → (index_of x == index_of y) ≡ same_fixed x y
index_same (ClosureOf a) (ClosureOf b) = first_alike a b
index_same (ClosureOf a) (BuiltinOf b) = first_other 1 a (number_of b) (omega arith) (omega arith)
index_same (ClosureOf a) (OperationOf b) = first_other 2 a b (omega arith) (omega arith)
index_same (ClosureOf a) (TextOf (Literal b)) = first_other 3 a b (omega arith) (omega arith)
index_same (ClosureOf a) (TextOf (PrintName b)) = first_other 4 a b (omega arith) (omega arith)
index_same (ClosureOf a) (SymbolOf b) = first_other 5 a b (omega arith) (omega arith)
index_same (ClosureOf a) (PairOf b) = first_other 6 a b (omega arith) (omega arith)
index_same (ClosureOf a) (TemplateOf b) = first_other 7 a b (omega arith) (omega arith)
index_same (BuiltinOf a) (ClosureOf b) = other_first 1 (number_of a) b (omega arith) (omega arith)
index_same (BuiltinOf a) (BuiltinOf b) = alike 1 (number_of a) (number_of b)
index_same (BuiltinOf a) (OperationOf b) = other 1 2 (number_of a) b (omega arith) (omega arith) (λ e. absurd (omega (arith, e)))
index_same (BuiltinOf a) (TextOf (Literal b)) = other 1 3 (number_of a) b (omega arith) (omega arith) (λ e. absurd (omega (arith, e)))
index_same (BuiltinOf a) (TextOf (PrintName b)) = other 1 4 (number_of a) b (omega arith) (omega arith) (λ e. absurd (omega (arith, e)))
index_same (BuiltinOf a) (SymbolOf b) = other 1 5 (number_of a) b (omega arith) (omega arith) (λ e. absurd (omega (arith, e)))
index_same (BuiltinOf a) (PairOf b) = other 1 6 (number_of a) b (omega arith) (omega arith) (λ e. absurd (omega (arith, e)))
index_same (BuiltinOf a) (TemplateOf b) = other 1 7 (number_of a) b (omega arith) (omega arith) (λ e. absurd (omega (arith, e)))
index_same (OperationOf a) (ClosureOf b) = other_first 2 a b (omega arith) (omega arith)
index_same (OperationOf a) (BuiltinOf b) = other 2 1 a (number_of b) (omega arith) (omega arith) (λ e. absurd (omega (arith, e)))
index_same (OperationOf a) (OperationOf b) = alike 2 a b
index_same (OperationOf a) (TextOf (Literal b)) = other 2 3 a b (omega arith) (omega arith) (λ e. absurd (omega (arith, e)))
index_same (OperationOf a) (TextOf (PrintName b)) = other 2 4 a b (omega arith) (omega arith) (λ e. absurd (omega (arith, e)))
index_same (OperationOf a) (SymbolOf b) = other 2 5 a b (omega arith) (omega arith) (λ e. absurd (omega (arith, e)))
index_same (OperationOf a) (PairOf b) = other 2 6 a b (omega arith) (omega arith) (λ e. absurd (omega (arith, e)))
index_same (OperationOf a) (TemplateOf b) = other 2 7 a b (omega arith) (omega arith) (λ e. absurd (omega (arith, e)))
index_same (TextOf (Literal a)) (ClosureOf b) = other_first 3 a b (omega arith) (omega arith)
index_same (TextOf (Literal a)) (BuiltinOf b) = other 3 1 a (number_of b) (omega arith) (omega arith) (λ e. absurd (omega (arith, e)))
index_same (TextOf (Literal a)) (OperationOf b) = other 3 2 a b (omega arith) (omega arith) (λ e. absurd (omega (arith, e)))
index_same (TextOf (Literal a)) (TextOf (Literal b)) = alike 3 a b
index_same (TextOf (Literal a)) (TextOf (PrintName b)) = other 3 4 a b (omega arith) (omega arith) (λ e. absurd (omega (arith, e)))
index_same (TextOf (Literal a)) (SymbolOf b) = other 3 5 a b (omega arith) (omega arith) (λ e. absurd (omega (arith, e)))
index_same (TextOf (Literal a)) (PairOf b) = other 3 6 a b (omega arith) (omega arith) (λ e. absurd (omega (arith, e)))
index_same (TextOf (Literal a)) (TemplateOf b) = other 3 7 a b (omega arith) (omega arith) (λ e. absurd (omega (arith, e)))
index_same (TextOf (PrintName a)) (ClosureOf b) = other_first 4 a b (omega arith) (omega arith)
index_same (TextOf (PrintName a)) (BuiltinOf b) = other 4 1 a (number_of b) (omega arith) (omega arith) (λ e. absurd (omega (arith, e)))
index_same (TextOf (PrintName a)) (OperationOf b) = other 4 2 a b (omega arith) (omega arith) (λ e. absurd (omega (arith, e)))
index_same (TextOf (PrintName a)) (TextOf (Literal b)) = other 4 3 a b (omega arith) (omega arith) (λ e. absurd (omega (arith, e)))
index_same (TextOf (PrintName a)) (TextOf (PrintName b)) = alike 4 a b
index_same (TextOf (PrintName a)) (SymbolOf b) = other 4 5 a b (omega arith) (omega arith) (λ e. absurd (omega (arith, e)))
index_same (TextOf (PrintName a)) (PairOf b) = other 4 6 a b (omega arith) (omega arith) (λ e. absurd (omega (arith, e)))
index_same (TextOf (PrintName a)) (TemplateOf b) = other 4 7 a b (omega arith) (omega arith) (λ e. absurd (omega (arith, e)))
index_same (SymbolOf a) (ClosureOf b) = other_first 5 a b (omega arith) (omega arith)
index_same (SymbolOf a) (BuiltinOf b) = other 5 1 a (number_of b) (omega arith) (omega arith) (λ e. absurd (omega (arith, e)))
index_same (SymbolOf a) (OperationOf b) = other 5 2 a b (omega arith) (omega arith) (λ e. absurd (omega (arith, e)))
index_same (SymbolOf a) (TextOf (Literal b)) = other 5 3 a b (omega arith) (omega arith) (λ e. absurd (omega (arith, e)))
index_same (SymbolOf a) (TextOf (PrintName b)) = other 5 4 a b (omega arith) (omega arith) (λ e. absurd (omega (arith, e)))
index_same (SymbolOf a) (SymbolOf b) = alike 5 a b
index_same (SymbolOf a) (PairOf b) = other 5 6 a b (omega arith) (omega arith) (λ e. absurd (omega (arith, e)))
index_same (SymbolOf a) (TemplateOf b) = other 5 7 a b (omega arith) (omega arith) (λ e. absurd (omega (arith, e)))
index_same (PairOf a) (ClosureOf b) = other_first 6 a b (omega arith) (omega arith)
index_same (PairOf a) (BuiltinOf b) = other 6 1 a (number_of b) (omega arith) (omega arith) (λ e. absurd (omega (arith, e)))
index_same (PairOf a) (OperationOf b) = other 6 2 a b (omega arith) (omega arith) (λ e. absurd (omega (arith, e)))
index_same (PairOf a) (TextOf (Literal b)) = other 6 3 a b (omega arith) (omega arith) (λ e. absurd (omega (arith, e)))
index_same (PairOf a) (TextOf (PrintName b)) = other 6 4 a b (omega arith) (omega arith) (λ e. absurd (omega (arith, e)))
index_same (PairOf a) (SymbolOf b) = other 6 5 a b (omega arith) (omega arith) (λ e. absurd (omega (arith, e)))
index_same (PairOf a) (PairOf b) = alike 6 a b
index_same (PairOf a) (TemplateOf b) = other 6 7 a b (omega arith) (omega arith) (λ e. absurd (omega (arith, e)))
index_same (TemplateOf a) (ClosureOf b) = other_first 7 a b (omega arith) (omega arith)
index_same (TemplateOf a) (BuiltinOf b) = other 7 1 a (number_of b) (omega arith) (omega arith) (λ e. absurd (omega (arith, e)))
index_same (TemplateOf a) (OperationOf b) = other 7 2 a b (omega arith) (omega arith) (λ e. absurd (omega (arith, e)))
index_same (TemplateOf a) (TextOf (Literal b)) = other 7 3 a b (omega arith) (omega arith) (λ e. absurd (omega (arith, e)))
index_same (TemplateOf a) (TextOf (PrintName b)) = other 7 4 a b (omega arith) (omega arith) (λ e. absurd (omega (arith, e)))
index_same (TemplateOf a) (SymbolOf b) = other 7 5 a b (omega arith) (omega arith) (λ e. absurd (omega (arith, e)))
index_same (TemplateOf a) (PairOf b) = other 7 6 a b (omega arith) (omega arith) (λ e. absurd (omega (arith, e)))
index_same (TemplateOf a) (TemplateOf b) = alike 7 a b

pub fixed_self : (x : Fixed) → same_fixed x x ≡ true
fixed_self x = sym (index_same x x) ∙ eq-eqb (index_of x) (index_of x) refl

-- ---- places

-- the place among one thing more
place_more : {X : Type 0} (same : X → X → Bool) (size : X → ℕ) (xs : List X) (x y : X)
    → place_of same size (xs ++ x ∷ []) y ≡ or_other (place_of same size xs y) (if same x y then Some (total_of size xs) else None)
place_more same size [] x y = by (same x y)
  where
    by : (b : Bool) → (if b then Some 0 else option_map (λ n. size x + n) None) ≡ (if b then Some 0 else None)
    by true = refl
    by false = refl
place_more same size (z ∷ xs) x y = by (same z y) (place_of same size (xs ++ x ∷ []) y) (place_of same size xs y) (same x y) (place_more same size xs x y)
  where
    by : (b : Bool) (o q : Option ℕ) (c : Bool) → o ≡ or_other q (if c then Some (total_of size xs) else None)
        → (if b then Some 0 else option_map (λ n. size z + n) o) ≡ or_other (if b then Some 0 else option_map (λ n. size z + n) q) (if c then Some (size z + total_of size xs) else None)
    by true o q c e = refl
    by false o (Some n) c e = ap (option_map (λ n. size z + n)) e
    by false o None true e = ap (option_map (λ n. size z + n)) e
    by false o None false e = ap (option_map (λ n. size z + n)) e

total_more : {X : Type 0} (size : X → ℕ) (xs : List X) (x : X) → total_of size (xs ++ x ∷ []) ≡ total_of size xs + size x
total_more size [] x = omega arith
total_more size (z ∷ xs) x = let h = total_more size xs x in omega (arith, h)

pub has_place : (size : Fixed → ℕ) (xs : List Fixed) (y : Fixed) → is_some (place_of same_fixed size xs y) ≡ has xs y
has_place size [] y = refl
has_place size (x ∷ xs) y = by (same_fixed x y) (place_of same_fixed size xs y) (has_place size xs y)
  where
    by : (b : Bool) (o : Option ℕ) → is_some o ≡ has xs y → is_some (if b then Some 0 else option_map (λ n. size x + n) o) ≡ (b || has xs y)
    by true o e = refl
    by false (Some n) e = e
    by false None e = e

none_behind : (size : Fixed → ℕ) (z : Fixed) (zs : List Fixed) (x : Fixed) → place_of same_fixed size (z ∷ zs) x ≡ None → (same_fixed z x ≡ false) × (place_of same_fixed size zs x ≡ None)
none_behind size z zs x e = by (same_fixed z x) (place_of same_fixed size zs x) refl refl e
  where
    by : (b : Bool) (o : Option ℕ) → same_fixed z x ≡ b → place_of same_fixed size zs x ≡ o → (if b then Some 0 else option_map (λ n. size z + n) o) ≡ None → (same_fixed z x ≡ false) × (place_of same_fixed size zs x ≡ None)
    by true o f g h = absurd (cc)
    by false (Some n) f g h = absurd (cc)
    by false None f g h = (f, g)

distinct_more : (size : Fixed → ℕ) (xs : List Fixed) (x : Fixed) → AreDistinct same_fixed size xs → place_of same_fixed size xs x ≡ None → AreDistinct same_fixed size (xs ++ x ∷ [])
distinct_more size [] x d none = (refl, tt)
distinct_more size (z ∷ zs) x d none =
    let parts = none_behind size z zs x none in
    let apart : same_fixed x z ≡ false = false_of (same_fixed x z) (λ q. true≢false (sym (fixed_self z) ∙ subst (λ y. same_fixed z y ≡ false) (fixed_sound x z q) parts.0)) in (
      place_more same_fixed size zs x z ∙ (ap (λ o. or_other o (if same_fixed x z then Some (total_of size zs) else None)) d.0 ∙ ap (λ b. if b then Some (total_of size zs) else None) apart),
      distinct_more size zs x d.1 parts.1,
    )

-- ---- words

-- a thing without a word has no place
pub none_there : (p : Frames) (xs : List Fixed) (x : Fixed) → word_in p xs x ≡ 0 → place_of same_fixed (words_of p) xs x ≡ None
none_there p xs x e = by (place_of same_fixed (words_of p) xs x) e
  where
    by : (o : Option ℕ) → or_zero (tagged (tag_for x) (option_map (λ n. STATICS_START + 4 * (front_of p + n)) o)) ≡ 0 → o ≡ None
    by (Some n) f = absurd (omega (arith, f))
    by None f = refl

-- and one with a word has one
pub some_there : (p : Frames) (xs : List Fixed) (x : Fixed) → (word_in p xs x ≡ 0 → ⊥) → has xs x ≡ true
some_there p xs x ne = sym (has_place (words_of p) xs x) ∙ by (place_of same_fixed (words_of p) xs x) ne
  where
    by : (o : Option ℕ) → (or_zero (tagged (tag_for x) (option_map (λ n. STATICS_START + 4 * (front_of p + n)) o)) ≡ 0 → ⊥) → is_some o ≡ true
    by (Some n) f = refl
    by None f = absurd (f refl)

word_more : (p : Frames) (xs : List Fixed) (x y : Fixed) (words w old : ℕ) → words ≡ front_of p + total_of (words_of p) xs → place_of same_fixed (words_of p) xs x ≡ None
    → old ≡ word_in p xs y → w ≡ (if same_fixed x y then STATICS_START + 4 * words + tag_for x else old) → w ≡ word_in p (xs ++ x ∷ []) y
word_more p xs x y words w old count none is e = by (same_fixed x y) refl
  where
    by : (b : Bool) → same_fixed x y ≡ b → w ≡ word_in p (xs ++ x ∷ []) y
    by true f =
        let alike : x ≡ y = fixed_sound x y f in
        let at : place_of same_fixed (words_of p) (xs ++ x ∷ []) x ≡ Some (total_of (words_of p) xs) =
        place_more same_fixed (words_of p) xs x x ∙ (ap (λ o. or_other o (if same_fixed x x then Some (total_of (words_of p) xs) else None)) none ∙ ap (λ b. if b then Some (total_of (words_of p) xs) else None) (fixed_self x)) in
        let new : word_in p (xs ++ x ∷ []) x ≡ STATICS_START + 4 * (front_of p + total_of (words_of p) xs) + tag_for x = ap (λ o. or_zero (tagged (tag_for x) (option_map (λ n. STATICS_START + 4 * (front_of p + n)) o))) at in
        (e ∙ ap (λ b. if b then STATICS_START + 4 * words + tag_for x else old) f) ∙ (ap (λ n. STATICS_START + 4 * n + tag_for x) count ∙ (sym new ∙ ap (word_in p (xs ++ x ∷ [])) alike))
    by false f =
        let at : place_of same_fixed (words_of p) (xs ++ x ∷ []) y ≡ place_of same_fixed (words_of p) xs y =
        place_more same_fixed (words_of p) xs x y ∙ (ap (λ b. or_other (place_of same_fixed (words_of p) xs y) (if b then Some (total_of (words_of p) xs) else None)) f ∙ same_option (place_of same_fixed (words_of p) xs y)) in
        (e ∙ ap (λ b. if b then STATICS_START + 4 * words + tag_for x else old) f) ∙ (is ∙ ap (λ o. or_zero (tagged (tag_for y) (option_map (λ n. STATICS_START + 4 * (front_of p + n)) o))) (sym at))
      where
        same_option : (o : Option ℕ) → or_other o None ≡ o
        same_option (Some n) = refl
        same_option None = refl

-- ---- what stands there

or_assoc : (a b c : Bool) → (b || (a || c)) ≡ ((a || b) || c)
or_assoc true true c = refl
or_assoc true false c = refl
or_assoc false true c = refl
or_assoc false false c = refl

or_false : (a : Bool) → (a || false) ≡ a
or_false true = refl
or_false false = refl

pub has_joined : (xs ys : List Fixed) (y : Fixed) → has (xs ++ ys) y ≡ (has xs y || has ys y)
has_joined [] ys y = refl
has_joined (x ∷ xs) ys y = by (same_fixed x y) (has_joined xs ys y)
  where
    by : (b : Bool) → has (xs ++ ys) y ≡ (has xs y || has ys y) → (b || has (xs ++ ys) y) ≡ ((b || has xs y) || has ys y)
    by true e = refl
    by false e = e

or_swap : (a b : Bool) → (a || b) ≡ (b || a)
or_swap true true = refl
or_swap true false = refl
or_swap false true = refl
or_swap false false = refl

-- ---- one thing is added, or stands there

pub is_appended : (p : Frames) (t : Thing) (count : ℕ) (old new : Statics) → AreStatics p old → word_at old.table.items (index_of (fixed_of t)) ≡ 0 → count ≡ words_of p (fixed_of t)
    → IsAppended t count old new → Adds p (fixed_of t ∷ []) old new
is_appended p t count old new s zero_word is h = record {
  statics = record {
    table = λ y. word_more p (fixed_in old) (fixed_of t) y old.words (word_at new.table.items (index_of y)) (word_at old.table.items (index_of y)) s.words none (s.table y)
        (h.table (index_of y) ∙ ap (λ b. if b then STATICS_START + 4 * old.words + tag_for (fixed_of t) else word_at old.table.items (index_of y)) (index_same (fixed_of t) y))
        ∙ ap (λ xs. word_in p xs y) (sym list);
    words = let m = total_more (words_of p) (fixed_in old) (fixed_of t) in let a = h.words in let b = s.words in
        a ∙ (ap (λ n. n + count) b ∙ (ap (λ n. front_of p + total_of (words_of p) (fixed_in old) + n) is ∙ (sum (front_of p) (total_of (words_of p) (fixed_in old)) (words_of p (fixed_of t)) (total_of (words_of p) (fixed_in old ++ fixed_of t ∷ [])) m ∙ ap (λ xs. front_of p + total_of (words_of p) xs) (sym list))));
    few = h.few;
    distinct = subst (AreDistinct same_fixed (words_of p)) (sym list) (distinct_more (words_of p) (fixed_in old) (fixed_of t) s.distinct none);
  };
  has = λ y. ap (λ xs. has xs y) list ∙ (has_joined (fixed_in old) (fixed_of t ∷ []) y ∙ or_swap (has (fixed_in old) y) (has (fixed_of t ∷ []) y));
}
  where
    list : fixed_in new ≡ fixed_in old ++ fixed_of t ∷ []
    list = ap (map fixed_of) h.things ∙ map-append fixed_of old.things.items (t ∷ [])

    none : place_of same_fixed (words_of p) (fixed_in old) (fixed_of t) ≡ None
    none = none_there p (fixed_in old) (fixed_of t) (sym (s.table (fixed_of t)) ∙ zero_word)

    sum : (f a b m : ℕ) → m ≡ a + b → f + a + b ≡ f + m
    sum f a b m e = omega (arith, e)

pub is_there : (p : Frames) (t : Thing) (s : Statics) → AreStatics p s → (word_at s.table.items (index_of (fixed_of t)) ≡ 0 → ⊥) → Adds p (fixed_of t ∷ []) s s
is_there p t s h ne = record {
  statics = h;
  has = λ y. by y (same_fixed (fixed_of t) y) refl;
}
  where
    there : has (fixed_in s) (fixed_of t) ≡ true
    there = some_there p (fixed_in s) (fixed_of t) (λ e. ne (h.table (fixed_of t) ∙ e))

    by : (y : Fixed) (b : Bool) → same_fixed (fixed_of t) y ≡ b → has (fixed_in s) y ≡ ((same_fixed (fixed_of t) y || false) || has (fixed_in s) y)
    by y true f = rw f (subst (λ z. has (fixed_in s) z ≡ true) (fixed_sound (fixed_of t) y f) there)
    by y false f = rw f refl

-- ---- several are added

pub adds_none : (p : Frames) (s : Statics) → AreStatics p s → Adds p [] s s
adds_none p s h = record { statics = h; has = λ y. refl }

pub adds_both : (p : Frames) (xs ys : List Fixed) (old mid new : Statics) → Adds p xs old mid → Adds p ys mid new → Adds p (xs ++ ys) old new
adds_both p xs ys old mid new a b = record {
  statics = b.statics;
  has = λ y. b.has y ∙ (ap (λ h. has ys y || h) (a.has y) ∙ (or_assoc (has xs y) (has ys y) (has (fixed_in old) y) ∙ ap (λ h. h || has (fixed_in old) y) (sym (has_joined xs ys y))));
}

pub adds_more : (p : Frames) (old mid new : Statics) (things : List Thing) (i : ℕ) (d : Thing) → i < length things → Adds p (map fixed_of (take i things)) old mid → Adds p (fixed_of (get_or things i d) ∷ []) mid new
    → Adds p (map fixed_of (take (i + 1) things)) old new
adds_more p old mid new things i d lt a b =
    let list : map fixed_of (take (i + 1) things) ≡ map fixed_of (take i things) ++ fixed_of (get_or things i d) ∷ [] = ap (map fixed_of) (take_more things i d lt) ∙ map-append fixed_of (take i things) (get_or things i d ∷ []) in
    subst (λ xs. Adds p xs old new) (sym list) (adds_both p (map fixed_of (take i things)) (fixed_of (get_or things i d) ∷ []) old mid new a b)
