-- Places of homes.
use Rattle.std.proofs.Common.{◌≡◌, ℕ, suc, ◌+◌, ◌*◌, ◌/◌, ◌%◌, ◌≤◌, ◌==◌, Bool, true, false, ◌||◌, List, [], ◌∷◌, length, min, refl, ap, arith}
use Rattle.std.specs.List.{list_any}
use Rattle.std.proofs.lemmas.Bool.{ne_eqb, eq-eqb, eqb-true}
use Rattle.word_ir.specs.declared.placed.Home.{Home}
use Rattle.word_ir.specs.declared.placed.Home.TheVariants as home
use Rattle.word_ir.specs.Word.{Word, Number, Code}
use Rattle.word_ir.specs.WholePlaced.{IsHome}
use Rattle.word_ir.specs.declared.words.Words.{Words}
use Rattle.parallel_moves.specs.Moves.{scratch}
use Rattle.lap_items.specs.Homes.{number_of_home, home_at}
use Rattle.lap_items.proofs.Numbers.{IsNear}
use Rattle.lap_jumps.specs.Carries.{numbered, word_numbered, IsOne, is_place}

pub word_back : (w : Word) → word_numbered (numbered w) ≡ w
word_back (Number n) = let half : 2 * n / 2 ≡ n = omega arith in let even : 2 * n % 2 ≡ 0 = omega arith in rw (eq-eqb (2 * n % 2) 0 even) (ap Number half)
word_back (Code b) = let half : (2 * b + 1) / 2 ≡ b = omega arith in rw (ne_eqb ((2 * b + 1) % 2) 0 (λ e. absurd (omega (arith, e)))) (ap Code half)

pub near : (words : Words) (h : Home) → IsHome words h → IsNear (length words.statics.items) h
unfolding IsNear
near words (home.D i) is = is
near words (home.A i) is = is
near words (home.Stack n) is = is
near words (home.Static p) is = is

-- the home at a home's number
pub home_back : (statics : ℕ) (h : Home) → statics ≤ 33554432 → IsNear statics h → home_at (number_of_home h) ≡ h
unfolding IsNear
home_back statics (home.D i) few is =
    let it : min (4 * i / 4) 7 ≡ i = omega (arith, is) in
    rw (ne_eqb (4 * i) scratch (λ e. absurd (omega (arith, e))), eq-eqb (4 * i % 4) 0 (omega arith)) (ap home.D it)
home_back statics (home.A i) few is =
    let it : min ((4 * i + 1) / 4) 7 ≡ i = omega (arith, is) in
    rw (ne_eqb (4 * i + 1) scratch (λ e. absurd (omega (arith, e))), ne_eqb ((4 * i + 1) % 4) 0 (λ e. absurd (omega (arith, e))), eq-eqb ((4 * i + 1) % 4) 1 (omega arith)) (ap home.A it)
home_back statics (home.Static p) few is =
    let n : ℕ = number_of_home (home.Static p) in
    let it : n / 4 ≡ p = omega (arith, is, few) in
    rw (ne_eqb n scratch (λ e. absurd (omega (arith, e))), ne_eqb (n % 4) 0 (λ e. absurd (omega (arith, e))), ne_eqb (n % 4) 1 (λ e. absurd (omega (arith, e))), eq-eqb (n % 4) 2 (omega arith)) (ap home.Static it)
home_back statics (home.Stack p) few is =
    let n : ℕ = number_of_home (home.Stack p) in
    let it : n / 4 ≡ p = omega (arith, is) in
    rw (ne_eqb n scratch (λ e. absurd (omega (arith, e, is))), ne_eqb (n % 4) 0 (λ e. absurd (omega (arith, e))), ne_eqb (n % 4) 1 (λ e. absurd (omega (arith, e))), ne_eqb (n % 4) 2 (λ e. absurd (omega (arith, e)))) (ap home.Stack it)

-- ---- what a place is

pub data Place (homes : List Home) (p : ℕ) : Type 0 where
  Between : p ≡ scratch → Place homes p
  Lies : (h : Home) → IsOne homes h → number_of_home h ≡ p → Place homes p

one_more : (x : Home) (homes : List Home) (h : Home) → IsOne homes h → IsOne (x ∷ homes) h
one_more x homes h is = (suc is.0, is.1)

found : (homes : List Home) (p : ℕ) → list_any (λ h. number_of_home h == p) homes ≡ true → (h : Home) × IsOne homes h × (number_of_home h ≡ p)
found [] p is = absurd (cc)
found (x ∷ homes) p is = by (λ rest. found homes p rest) (number_of_home x == p) refl is
  where
    more : (h : Home) × IsOne homes h × (number_of_home h ≡ p) → (h : Home) × IsOne (x ∷ homes) h × (number_of_home h ≡ p)
    more f = (f.0, one_more x homes f.0 f.1, f.2)

    by : (list_any (λ h. number_of_home h == p) homes ≡ true → (h : Home) × IsOne homes h × (number_of_home h ≡ p)) → (b : Bool) → (number_of_home x == p) ≡ b → (b || list_any (λ h. number_of_home h == p) homes) ≡ true → (h : Home) × IsOne (x ∷ homes) h × (number_of_home h ≡ p)
    by others true e is = (x, (0, refl), eqb-true (number_of_home x) p e)
    by others false e is = more (others is)

pub place_told : (homes : List Home) (p : ℕ) → is_place homes p ≡ true → Place homes p
place_told homes p is = by (p == scratch) refl is
  where
    by : (b : Bool) → (p == scratch) ≡ b → (b || list_any (λ h. number_of_home h == p) homes) ≡ true → Place homes p
    by true e is = Between (eqb-true p scratch e)
    by false e is = let f = found homes p is in Lies f.0 f.1 f.2
