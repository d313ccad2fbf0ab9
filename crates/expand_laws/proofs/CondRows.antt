-- The table ends on COND and CASE.
use Rattle.std.proofs.Common.{◌≡◌, ℕ, ◌+◌, ◌<◌, ◌≤◌, Bool, true, false, ◌||◌, if◌then◌else◌, List, [], ◌∷◌, Some, arith}
use Rattle.std.specs.Prelude.{codes}
use Rattle.t_base.specs.declared.basics.Span.{Span}
use Rattle.t_reader.specs.Grammar.{Value}
use Rattle.t_forms.specs.declared.arena.New.TheVariants as new
use Rattle.t_forms.specs.Data.{Datum, items_of, listed, a_variable, word_of}
use Rattle.t_rows.specs.Rows.{stands_for, word_, body, is_else, is_arrow, test_answer, received, cond_plain, cond_clause, cond_row}
use Rattle.expand_laws.proofs.Reached.{HasMadeValues}
use Rattle.expand_laws.proofs.Sizes.{size, total, size_some, size_listed, items_size}
use Rattle.expand_laws.proofs.Fine.{pure_head, listed_tail, IsSmall, item_small}
use Rattle.expand_laws.proofs.Worths.{worth, worths, worth_listed, items_worth, worth_some}
use Rattle.expand_laws.proofs.Always.{Within, RowWithin, more, row_more, refused, formed, either_row}
use Rattle.expand_laws.proofs.Atoms.{nil_within}
use Rattle.expand_laws.proofs.Blocks.{if_form, block_form, body_within}
use Rattle.expand_laws.proofs.Lets.{test_within, or_two}
use Rattle.expand_laws.proofs.Below.{Below, AllItems, AllSmall, below_always, small_always, smalls_always}

either_within : (right : Value → Type 0) (n : ℕ) (b : Bool) (x y : Datum) → Within right n x → Within right n y → Within right n (if b then x else y)
either_within right n true x y h k = h
either_within right n false x y h k = k

-- ---- COND

received_within : {right : Value → Type 0} → HasMadeValues right → (n : ℕ) (s : Span) (f : Datum) → Below right n → IsSmall right n f → 4 + size f < n
    → Within right (97 + worth f) (received s f)
received_within {right} m n s f below h l =
    let called : size (listed s (f ∷ a_variable s new.Answer ∷ [])) < n = omega (arith, l) in
    either_within right (97 + worth f) (is_else (word_of f) || is_arrow (word_of f)) f (listed s (f ∷ a_variable s new.Answer ∷ []))
    (more (97 + worth f) (small_always right n f below h) (omega arith))
    (more (97 + worth f) (below_always right n (listed s (f ∷ a_variable s new.Answer ∷ [])) below called (pure_head right f h.is_pure, (tt, m.nil_right))) (omega arith))

cond_plain_ends : {right : Value → Type 0} → HasMadeValues right → (k n : ℕ) (s : Span) (a : Datum) (bs : List Datum) (rest : Datum) → Below right n → IsSmall right n a
    → AllSmall right n bs → 1 + total (a ∷ bs) < n → Within right k rest → RowWithin right (60 + worths (a ∷ bs) + k) (cond_plain s a bs rest)
cond_plain_ends {right} m k n s a [] rest below h hb l hr = more (60 + worths (a ∷ []) + k) (or_two m k s a rest (small_always right n a below h) hr) (omega arith)
cond_plain_ends {right} m k n s a (b ∷ []) rest below h hb l hr =
    more (60 + worths (a ∷ b ∷ []) + k)
    (if_form s a (listed s (word_ s (codes "block") ∷ b ∷ [])) rest (small_always right n a below h) (block_form right s (b ∷ []) (smalls_always right n (b ∷ []) below hb)) hr)
    (omega arith)
cond_plain_ends {right} m k n s a (arrow ∷ f ∷ []) rest below h hb l hr =
    let one = size_some a in
    let i : 4 + size f < n = omega (arith, l, one) in
    let ha = small_always right n a below h in
    let bound = 60 + worths (a ∷ arrow ∷ f ∷ []) + k in
    let some = worth_some arrow in
    either_row right bound (is_arrow (word_of arrow)) (stands_for (test_answer s a (received s f) rest))
    (stands_for (listed s (word_ s (codes "if") ∷ a ∷ listed s (word_ s (codes "block") ∷ arrow ∷ f ∷ []) ∷ rest ∷ [])))
    (more bound (test_within m (97 + worth f) k s a (received s f) rest ha (received_within m n s f below hb.1.0 i) hr) (omega (arith, some)))
    (more bound
    (if_form s a (listed s (word_ s (codes "block") ∷ arrow ∷ f ∷ [])) rest ha (block_form right s (arrow ∷ f ∷ []) (smalls_always right n (arrow ∷ f ∷ []) below hb)) hr)
    (omega arith))
cond_plain_ends {right} m k n s a (b ∷ c ∷ d ∷ ds) rest below h hb l hr =
    more (60 + worths (a ∷ b ∷ c ∷ d ∷ ds) + k)
    (if_form s a (listed s (word_ s (codes "block") ∷ b ∷ c ∷ d ∷ ds)) rest (small_always right n a below h)
    (block_form right s (b ∷ c ∷ d ∷ ds) (smalls_always right n (b ∷ c ∷ d ∷ ds) below hb)) hr)
    (omega arith)

cond_rest : {right : Value → Type 0} → HasMadeValues right → (n : ℕ) (s : Span) (others : List Datum) → Below right n → AllItems right others → 3 + total others < n
    → Within right (112 + worths others) (listed s (word_ s (codes "cond") ∷ others))
cond_rest m n s others below h l =
    let e = size_listed s others in
    let k : size (listed s (word_ s (codes "cond") ∷ others)) < n = omega (arith, l, e) in
    let w = worth_listed s others in
    more (112 + worths others) (below (listed s (word_ s (codes "cond") ∷ others)) k (tt, listed_tail m s others h)) (omega (arith, w))

cond_clause_ends : {right : Value → Type 0} → HasMadeValues right → (n : ℕ) (s : Span) (others items : List Datum) → Below right n → AllItems right others
    → AllSmall right n items → 1 + total items < n → 3 + total others < n → RowWithin right (60 + worths items + (112 + worths others)) (cond_clause s others items)
cond_clause_ends m n s [] [] below ho h k l = refused (omega arith)
cond_clause_ends m n s (o ∷ os) [] below ho h k l = refused (omega arith)
cond_clause_ends m n s [] (a ∷ []) below ho h k l =
    cond_plain_ends m (112 + worths []) n s a [] (listed s (word_ s (codes "cond") ∷ [])) below h.0 h.1 k (cond_rest m n s [] below ho l)
cond_clause_ends {right} m n s [] (a ∷ b ∷ bs) below ho h k l =
    either_row right (60 + worths (a ∷ b ∷ bs) + (112 + worths [])) (is_else (word_of a)) (stands_for (body s (b ∷ bs)))
    (cond_plain s a (b ∷ bs) (listed s (word_ s (codes "cond") ∷ [])))
    (more (60 + worths (a ∷ b ∷ bs) + (112 + worths [])) (body_within right s (b ∷ bs) (smalls_always right n (b ∷ bs) below h.1)) (omega arith))
    (cond_plain_ends m (112 + worths []) n s a (b ∷ bs) (listed s (word_ s (codes "cond") ∷ [])) below h.0 h.1 k (cond_rest m n s [] below ho l))
cond_clause_ends m n s (o ∷ os) (a ∷ bs) below ho h k l =
    cond_plain_ends m (112 + worths (o ∷ os)) n s a bs (listed s (word_ s (codes "cond") ∷ o ∷ os)) below h.0 h.1 k (cond_rest m n s (o ∷ os) below ho l)

pub cond_row_ends : {right : Value → Type 0} → HasMadeValues right → (n : ℕ) (s : Span) (ds : List Datum) → Below right n → AllItems right ds → 3 + total ds ≤ n
    → RowWithin right (112 + worths ds) (cond_row s ds)
cond_row_ends m n s [] below h l = more (112 + worths []) (nil_within m s) (omega arith)
cond_row_ends {right} m n s (c ∷ others) below h l = formed right (112 + worths (c ∷ others)) s (cond_clause s others) (items_of c) (omega arith) clause
  where
    clause : (items : List Datum) → items_of c ≡ Some items → RowWithin right (112 + worths (c ∷ others)) (cond_clause s others items)
    clause items e =
        let z = items_size c items e in
        let i : size c ≤ n = omega (arith, l) in
        let k : 1 + total items < n = omega (arith, l, z) in
        let one = size_some c in
        let j : 3 + total others < n = omega (arith, l, one) in
        let w = items_worth c items e in
        row_more right (60 + worths items + (112 + worths others)) (112 + worths (c ∷ others)) (cond_clause s others items)
        (cond_clause_ends m n s others items below h.1 (item_small right n c items h.0 i e) k j) (omega (arith, w))
