-- Closures that stand directly behind each other are made.
use Rattle.std.proofs.Common.{◌≡◌, ℕ, suc, ◌+◌, ◌*◌, ◌<◌, ◌≤◌, Bool, true, false, if◌then◌else◌, List, [], ◌∷◌, ◌++◌, length, Some, is_some, refl, sym, ap, ◌∙◌, subst, arith, append_assoc}
use Rattle.std.specs.List.{AllByRecursion, list_all}
use Rattle.std.proofs.lemmas.List.{length-append, append-nil}
use Rattle.t_base.specs.declared.basics.Var.{Var}
use Rattle.frame_ir.specs.declared.forms.Place.{Place}
use Rattle.frame_ir.specs.declared.forms.Place.TheVariants as At
use Rattle.frame_ir.specs.Values.{Value, Closure, Env, is_lasting, record_words}
use Rattle.frame_ir.specs.States.{State, Thing, AClosure, wrong, counted, taking, with_closure}
use Rattle.frame_ir.specs.Arguments.{kept_values}
use Rattle.frame_ir.specs.Groups.{Making, heap_count, address, with_addresses, is_empty, placed, made}
use Rattle.frame_words.specs.Layouts.{ClosureOf, fixed_place}
use Rattle.frame_heap.specs.Groups.{heap_records, AreOutside, closures_from, words_of_records, with_records}
use Rattle.frame_heap.specs.Laws.{AreKept, group_cost}
use Rattle.selection_steps.specs.Settings.{Setting, choice_of, layout_of, IsSound}
use Rattle.word_selection.specs.Selections.{IsClosureCode}
use Rattle.selection_steps.proofs.Leading.{AreBelow, below_more, lookup}

-- ---- what is known of a closure that is to be made

abbrev pub IsPlaced : Setting → ℕ → Place → Type 0
IsPlaced m code At.Heap = Unit {0}
IsPlaced m code (At.Frame slot) = ⊥
IsPlaced m code At.Static = is_some (fixed_place (layout_of m) (ClosureOf code)) ≡ true

pub record IsFitMaking (m : Setting) (x : Making) : Type 0 where
  pub below : x.to.0 < (choice_of m).free
  pub code : IsClosureCode m.p x.code
  pub placed_at : IsPlaced m x.code x.at

-- ---- moves

abbrev pub group_moves : List Making → ℕ
group_moves [] = 0
group_moves (x ∷ ms) = 1 + length x.kept + group_moves ms

pub costs_within : (ms : List Making) → group_cost ms ≤ 35 * group_moves ms
costs_within [] = omega arith
costs_within (x ∷ ms) = omega (arith, costs_within ms)

-- ---- variables

pub addresses_below : (m : Setting) (next birth : ℕ) (ms : List Making) (env : Env) → AllByRecursion (IsFitMaking m) ms → AreBelow (choice_of m).free env → AreBelow (choice_of m).free (with_addresses next birth ms env)
addresses_below m next birth [] env fits lower = lower
addresses_below m next birth (x ∷ ms) env fits lower =
    addresses_below m (next + heap_count x.at) birth ms ((x.to.0, address next birth x.code x.at) ∷ env) fits.1 (below_more (choice_of m).free env x.to.0 (address next birth x.code x.at) fits.0.below lower)

-- ---- the state behind

-- with closures, what was made, words of the heap and moves
abbrev pub grown : State → List Closure → List Thing → ℕ → ℕ → State
grown s closures things heap moves = record s { closures = closures; made = things; store = record s.store { heap = heap }; moves = moves }

abbrev pub after_group : State → List Closure → ℕ → State
after_group s cs moves = record (with_records s cs) { moves = moves }

same_grown : (s : State) (a b : List Closure) (c d : List Thing) (h k : ℕ) (m n : ℕ) → a ≡ b → c ≡ d → h ≡ k → m ≡ n → grown s a c h m ≡ grown s b d k n
same_grown s a b c d h k m n x y z w = ap (λ q. grown s q c h m) x ∙ (ap (λ q. grown s b q h m) y ∙ (ap (λ q. grown s b d q m) z ∙ ap (λ q. grown s b d k q) w))

-- a closure more in front
one_more : (s : State) (c : Closure) (cs : List Closure) (n moves : ℕ)
    → after_group (taking (record_words (length c.captured)) (with_closure (counted n s) c)) cs (s.moves + n + moves) ≡ after_group s (c ∷ cs) (s.moves + (n + moves))
one_more s c cs n moves =
    let len : length (s.closures ++ c ∷ []) ≡ suc (length s.closures) = let e = length-append s.closures (c ∷ []) in omega (arith, e) in
    same_grown s ((s.closures ++ c ∷ []) ++ cs) (s.closures ++ c ∷ cs)
    ((s.made ++ AClosure (length s.closures) ∷ []) ++ closures_from (length (s.closures ++ c ∷ [])) cs) (s.made ++ closures_from (length s.closures) (c ∷ cs))
    (s.store.heap + record_words (length c.captured) + words_of_records cs) (s.store.heap + words_of_records (c ∷ cs)) (s.moves + n + moves) (s.moves + (n + moves))
    (append_assoc s.closures (c ∷ []) cs)
    (append_assoc s.made (AClosure (length s.closures) ∷ []) (closures_from (length (s.closures ++ c ∷ [])) cs) ∙ ap (λ k. s.made ++ AClosure (length s.closures) ∷ closures_from k cs) len)
    (omega arith) (omega arith)

none_more : (s : State) (n moves : ℕ) (cs : List Closure) → after_group (counted n s) cs (s.moves + n + moves) ≡ after_group s cs (s.moves + (n + moves))
none_more s n moves cs = ap (after_group s cs) (let e : s.moves + n + moves ≡ s.moves + (n + moves) = omega arith in e)

sound_then : (b : Bool) (s u : State) → IsSound (if b then u else wrong s) → (b ≡ true) × IsSound u
sound_then true s u sound = (refl, sound)
sound_then false s u sound = absurd (cc)

empty_is : (vs : List Value) → is_empty vs ≡ true → vs ≡ []
empty_is [] is = refl
empty_is (v ∷ vs) is = absurd (cc)

abbrev GoesTo : Setting → (P : State → Type 0) → List Making → Env → State → (State → State) → Type 0
GoesTo m P ms env s go =
    (vss : List (List Value)) → AreKept env ms vss → AreOutside (layout_of m) ms vss → IsSound (go (after_group s (heap_records ms vss) (s.moves + group_moves ms))) → P (go (after_group s (heap_records ms vss) (s.moves + group_moves ms)))

then_is : (P : State → Type 0) (b : Bool) (s u : State) → b ≡ true → P u → P (if b then u else wrong s)
then_is P true s u is p = p
then_is P false s u is p = absurd (cc)

placed_then : (m : Setting) (P : State → Type 0) (to : Var) (code : ℕ) (kept : List Var) (at : Place) (ms : List Making) (env : Env) (s : State) (go : State → State) (vs : List Value)
    → ((t : State) → IsSound (made ms env t go) → GoesTo m P ms env t go → P (made ms env t go)) → IsPlaced m code at → kept_values env kept ≡ Some vs
    → IsSound (placed at (record { code = code; captured = vs }) (counted (1 + length kept) s) (λ t. made ms env t go))
    → GoesTo m P (record { to = to; code = code; kept = kept; at = at } ∷ ms) env s go → P (placed at (record { code = code; captured = vs }) (counted (1 + length kept) s) (λ t. made ms env t go))
placed_then m P to code kept At.Heap ms env s go vs again is have sound h =
    let ok = sound_then (list_all is_lasting vs) (counted (1 + length kept) s) (made ms env (taking (record_words (length vs)) (with_closure (counted (1 + length kept) s) (record { code = code; captured = vs }))) go) sound in
    then_is P (list_all is_lasting vs) (counted (1 + length kept) s) (made ms env (taking (record_words (length vs)) (with_closure (counted (1 + length kept) s) (record { code = code; captured = vs }))) go) ok.0
    (again (taking (record_words (length vs)) (with_closure (counted (1 + length kept) s) (record { code = code; captured = vs }))) ok.1
    (λ vss kepts outside sound2.
    let same = one_more s (record { code = code; captured = vs }) (heap_records ms vss) (1 + length kept) (group_moves ms) in
    subst (λ u. P (go u)) (sym same) (h (vs ∷ vss) (have, kepts) (ok.0, outside) (subst (λ u. IsSound (go u)) same sound2))))
placed_then m P to code kept (At.Frame slot) ms env s go vs again is have sound h = absurd is
placed_then m P to code kept At.Static ms env s go vs again is have sound h =
    let ok = sound_then (is_empty vs) (counted (1 + length kept) s) (made ms env (counted (1 + length kept) s) go) sound in
    then_is P (is_empty vs) (counted (1 + length kept) s) (made ms env (counted (1 + length kept) s) go) ok.0
    (again (counted (1 + length kept) s) ok.1
    (λ vss kepts outside sound2.
    let same = none_more s (1 + length kept) (group_moves ms) (heap_records ms vss) in
    subst (λ u. P (go u)) (sym same) (h (vs ∷ vss) (have, kepts) ((empty_is vs ok.0, is), outside) (subst (λ u. IsSound (go u)) same sound2))))

pub group_made : (m : Setting) (P : State → Type 0) (ms : List Making) (env : Env) (s : State) (go : State → State) → AllByRecursion (IsFitMaking m) ms → IsSound (made ms env s go) → GoesTo m P ms env s go → P (made ms env s go)
group_made m P [] env s go fits sound h =
    let same : after_group s [] (s.moves + 0) ≡ s = same_grown s (s.closures ++ []) s.closures (s.made ++ []) s.made (s.store.heap + 0) s.store.heap (s.moves + 0) s.moves (append-nil s.closures) (append-nil s.made) (omega arith) (omega arith) in
    subst (λ u. P (go u)) same (h [] tt tt (subst (λ u. IsSound (go u)) (sym same) sound))
group_made m P (x ∷ ms) env s go fits sound h =
    lookup P (kept_values env x.kept) s (λ vs. placed x.at (record { code = x.code; captured = vs }) (counted (1 + length x.kept) s) (λ t. made ms env t go)) sound
    (λ vs have sound2. placed_then m P x.to x.code x.kept x.at ms env s go vs (λ t sound3 h3. group_made m P ms env t go fits.1 sound3 h3) fits.0.placed_at have sound2 h)
