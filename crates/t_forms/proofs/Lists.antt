-- Lists among the cells.
use Rattle.std.proofs.Common.{◌≡◌, ℕ, ◌+◌, List, [], ◌∷◌, length, slice_get, Option, Some, None, refl, sym, ap, subst, ◌∙◌, arith}
use Rattle.std.specs.Option.{option_map}
use Rattle.t_base.specs.declared.basics.Span.{Span}
use Rattle.t_reader.specs.Grammar.{fix, char, nil, truth, string, symbol}
use Rattle.t_objects.specs.declared.words.Word.{Word}
use Rattle.t_objects.specs.Words.{word_named}
use Rattle.t_forms.specs.declared.arena.Form.{Form}
use Rattle.t_forms.specs.declared.arena.Form.TheVariants as form
use Rattle.t_forms.specs.declared.arena.Cell.{Cell}
use Rattle.t_forms.specs.Data.{Atom, given, variable, builtin, operation, listing, Datum, atom, cons, items_of, count_of, listed}
use Rattle.t_forms.specs.Held.{cell, count_form, IsSymbol, IsAtom, Held, Continues}

-- ---- items

pub items_listed : (s : Span) (ds : List Datum) → items_of (listed s ds) ≡ Some ds
items_listed s [] = refl
items_listed s (d ∷ ds) = rw (items_listed s ds) refl

counted : (m : Option (List Datum)) (head : Datum) → option_map (λ n. n + 1) (option_map length m) ≡ option_map length (option_map (λ items. head ∷ items) m)
counted None head = refl
counted (Some ds) head = ap Some (let e : length ds + 1 ≡ length (head ∷ ds) = omega arith in e)

-- the count is that of the items
pub count_is : (d : Datum) → count_of d ≡ option_map length (items_of d)
count_is (atom s (given (fix z))) = refl
count_is (atom s (given (char c))) = refl
count_is (atom s (given nil)) = refl
count_is (atom s (given truth)) = refl
count_is (atom s (given (string bytes))) = refl
count_is (atom s (given (symbol text))) = refl
count_is (atom s (variable v)) = refl
count_is (atom s (builtin p)) = refl
count_is (atom s (operation o)) = refl
count_is (atom s listing) = refl
count_is (cons s head tail) = ap (option_map (λ n. n + 1)) (count_is tail) ∙ counted (items_of tail) head

pub count_listed : (s : Span) (ds : List Datum) → count_of (listed s ds) ≡ Some (length ds)
count_listed s ds = count_is (listed s ds) ∙ ap (option_map length) (items_listed s ds)

-- the items behind the first
pub items_behind : (s : Span) (head tail : Datum) (ds : List Datum) → items_of (cons s head tail) ≡ Some ds
    → (others : List Datum) × (items_of tail ≡ Some others) × (ds ≡ head ∷ others)
items_behind s head tail ds e = behind (items_of tail) e
  where
    behind : (m : Option (List Datum)) → option_map (λ items. head ∷ items) m ≡ Some ds → (others : List Datum) × (m ≡ Some others) × (ds ≡ head ∷ others)
    behind None e = cc
    behind (Some others) e = (others, refl, let same : ds ≡ head ∷ others = cc in same)

-- only the empty list ends a list of items
pub atom_items : (s : Span) (a : Atom) (ds : List Datum) → items_of (atom s a) ≡ Some ds → (a ≡ given nil) × (ds ≡ [])
atom_items s (given (fix z)) ds e = cc
atom_items s (given (char c)) ds e = cc
atom_items s (given nil) ds e = (refl, let same : ds ≡ [] = cc in same)
atom_items s (given truth) ds e = cc
atom_items s (given (string bytes)) ds e = cc
atom_items s (given (symbol text)) ds e = cc
atom_items s (variable v) ds e = cc
atom_items s (builtin p) ds e = cc
atom_items s (operation o) ds e = cc
atom_items s listing ds e = cc

-- ---- what a cell tells

symbol_count : (names : List (List ℕ)) (f : Form) (text : List ℕ) (w : Option Word) → IsSymbol names f text w → count_form f ≡ None
symbol_count names f text None is = rw is.1 refl
symbol_count names f text (Some w) is = rw is refl

atom_count : (names : List (List ℕ)) (f : Form) (s : Span) (a : Atom) → IsAtom names f a → count_form f ≡ count_of (atom s a)
atom_count names f s (given (fix z)) is = rw is refl
atom_count names f s (given (char c)) is = rw is refl
atom_count names f s (given nil) is = rw is refl
atom_count names f s (given truth) is = rw is refl
atom_count names f s (given (string bytes)) is = rw is refl
atom_count names f s (given (symbol text)) is = symbol_count names f text (word_named text) is
atom_count names f s (variable v) is = rw is refl
atom_count names f s (builtin p) is = rw is refl
atom_count names f s (operation o) is = rw is refl
atom_count names f s listing is = rw is refl

form_of : Option Cell → Form
form_of None = form.Nil
form_of (Some c) = c.form

same_form : {a b : Cell} → Some a ≡ Some b → a.form ≡ b.form
unfolding form_of
same_form e = ap form_of e

pub cell_count : (names : List (List ℕ)) (cells : List Cell) (k : ℕ) (d : Datum) (c : Cell) → slice_get cells k ≡ Some c → Continues names cells k d
    → count_form c.form ≡ count_of d
cell_count names cells k (atom s a) c at h =
    let same : c.form ≡ h.1 = same_form (sym at ∙ h.2) in
    rw same (atom_count names h.1 s a h.3)
cell_count names cells k (cons s head tail) c at h =
    let same : c.form ≡ form.Pair h.1 h.2 (count_of (cons s head tail)) = same_form (sym at ∙ h.3) in
    rw same refl

pub no_cell : (names : List (List ℕ)) (cells : List Cell) (k : ℕ) (d : Datum) → slice_get cells k ≡ None → Continues names cells k d → ⊥
no_cell names cells k (atom s a) at h = let e : None ≡ Some (cell h.0 h.1) = sym at ∙ h.2 in cc
no_cell names cells k (cons s head tail) at h = let e : None ≡ Some (cell h.0 (form.Pair h.1 h.2 (count_of (cons s head tail)))) = sym at ∙ h.3 in cc

-- ---- what goes on a list

pub held_continues : (names : List (List ℕ)) (cells : List Cell) (k : ℕ) (d : Datum) → Held names cells k d → Continues names cells k d
held_continues names cells k (atom s a) h = (s, h.0, h.1, h.2)
held_continues names cells k (cons s head tail) h = (s, h.0, h.1, h.2, h.3, h.4, h.5, h.6)

-- Where a datum goes on, so does the list of its items with any span.
pub continues_listed : (names : List (List ℕ)) (cells : List Cell) (k : ℕ) (d : Datum) (s : Span) (ds : List Datum) → Continues names cells k d
    → items_of d ≡ Some ds → Continues names cells k (listed s ds)
continues_listed names cells k (atom t a) s ds h e =
    let nil_ = atom_items t a ds e in
    rw nil_.1 (h.0, h.1, h.2, subst (λ (x : Atom). IsAtom names h.1 x) nil_.0 h.3)
continues_listed names cells k (cons t head tail) s ds h e =
    let behind = items_behind t head tail ds e in
    let same : count_of (cons t head tail) ≡ count_of (cons s head (listed s behind.0)) =
    ap (option_map (λ n. n + 1)) (count_is tail ∙ ap (option_map length) behind.1 ∙ sym (count_listed s behind.0)) in
    rw behind.2
    (h.0, h.1, h.2, h.3 ∙ ap (λ n. Some (cell h.0 (form.Pair h.1 h.2 n))) same, h.4, h.5, h.6, continues_listed names cells h.2 tail s behind.0 h.7 behind.1)
