-- The forms at top level of data of a text are made of such data, and no larger.
use Rattle.std.proofs.Common.{◌≡◌, inl, ℕ, ◌≤◌, Bool, true, false, List, [], ◌∷◌, length, map, Option, Some, None, refl, if◌then◌else◌, arith}
use Rattle.t_base.specs.declared.basics.Span.{Span}
use Rattle.t_objects.specs.declared.words.Word.{Word}
use Rattle.t_forms.specs.Data.{Datum, span_of, items_of, word_of}
use Rattle.t_rows.specs.Rows.{Definition, definition_of_word}
use Rattle.expansion.specs.Units.{Top, expression, is_defining, defining_or_broken, defines, definition_of_items, top_of, is_herald_items, without_herald, tops_of}
use Rattle.expand_laws.proofs.Fineness.{ArePure, items_size, size_some, items_pure, definition_fine}
use Rattle.expand_laws.proofs.Made.{IsRight}
use Rattle.expand_laws.proofs.OneTop.{IsFineTop}
use Rattle.expand_laws.proofs.Sizes.{size}
use Rattle.expand_laws.proofs.Reached.{IsPure}
use Rattle.expand_laws.proofs.DataSizes.{data_size}
use Rattle.expand_laws.proofs.Tables.{AreFine}
use Rattle.expand_laws.proofs.TopsMade.{top_size, tops_size}

abbrev pub IsFineTopWithin : List (List ℕ) → ℕ → Top → Type 0
IsFineTopWithin names n t = IsFineTop names t × (top_size t ≤ n)

of_definition : (names : List (List ℕ)) (s : Span) (n : ℕ) (ds : List Datum) (w : Option Word) (o : Option Definition) → ArePure names ds → definition_of_word s ds w ≡ o → 1 ≤ n
    → items_size ds ≤ n → IsFineTopWithin names n (defining_or_broken s o)
of_definition names s n ds w None p e some le = (tt, some)
of_definition names s n ds w (Some d) p e some le = let f = definition_fine names s ds w d p e in let few = f.1 in (f.0, omega (arith, few, le))

of_word : (names : List (List ℕ)) (d f : Datum) (ds : List Datum) (b : Bool) → IsPure (IsRight names) d → ArePure names ds → items_size ds ≤ size d
    → IsFineTopWithin names (size d) (if b then defining_or_broken (span_of d) (definition_of_word (span_of d) ds (word_of f)) else expression d)
of_word names d f ds true p q le = of_definition names (span_of d) (size d) ds (word_of f) (definition_of_word (span_of d) ds (word_of f)) q refl (size_some d) le
of_word names d f ds false p q le = (inl p, omega arith)

of_items : (names : List (List ℕ)) (d : Datum) (o : Option (List Datum)) → items_of d ≡ o → IsPure (IsRight names) d
    → IsFineTopWithin names (size d) (if defines o then defining_or_broken (span_of d) (definition_of_items (span_of d) o) else expression d)
of_items names d None e p = (inl p, omega arith)
of_items names d (Some []) e p = (inl p, omega arith)
of_items names d (Some (f ∷ ds)) e p =
    let i = items_pure names d (f ∷ ds) p e in
    let same = i.1 in
    let pure = i.0 in
    of_word names d f ds (is_defining (word_of f)) p pure.1 (omega (arith, same))

pub top_fine : (names : List (List ℕ)) (d : Datum) → IsPure (IsRight names) d → IsFineTopWithin names (size d) (top_of d)
top_fine names d p = of_items names d (items_of d) refl p

tops_fine : (names : List (List ℕ)) (ds : List Datum) → ArePure names ds → AreFine names (map top_of ds) × (tops_size (map top_of ds) ≤ data_size ds)
tops_fine names [] p = (tt, omega arith)
tops_fine names (d ∷ ds) p =
    let one = top_fine names d p.0 in
    let rest = tops_fine names ds p.1 in
    let a = one.1 in
    let b = rest.1 in
    ((one.0, rest.0), omega (arith, a, b))

without : (names : List (List ℕ)) (d : Datum) (ds : List Datum) (b : Bool) → ArePure names (d ∷ ds)
    → ArePure names (if b then ds else d ∷ ds) × (data_size (if b then ds else d ∷ ds) ≤ data_size (d ∷ ds)) × (length (if b then ds else d ∷ ds) ≤ length (d ∷ ds))
without names d ds true p = (p.1, omega arith, omega arith)
without names d ds false p = (p, omega arith, omega arith)

herald_fine : (names : List (List ℕ)) (ds : List Datum) → ArePure names ds → ArePure names (without_herald ds) × (data_size (without_herald ds) ≤ data_size ds) × (length (without_herald ds) ≤ length ds)
herald_fine names [] p = (tt, omega arith, omega arith)
herald_fine names (d ∷ ds) p = without names d ds (is_herald_items (items_of d)) p

pub all_fine : (names : List (List ℕ)) (ds : List Datum) → ArePure names ds → AreFine names (tops_of ds) × (tops_size (tops_of ds) ≤ data_size ds)
all_fine names ds p =
    let h = herald_fine names ds p in
    let f = tops_fine names (without_herald ds) h.0 in
    let a = h.1 in
    let b = f.1 in
    (f.0, omega (arith, a, b))
