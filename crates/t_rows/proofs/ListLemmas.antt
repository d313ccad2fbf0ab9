-- What a cell says of the datum that it holds.
use Rattle.std.proofs.Common.{◌≡◌, false, ℕ, ◌+◌, ◌<◌, List, [], ◌∷◌, length, slice_get, Option, Some, None, is_none, if◌then◌else◌, refl, sym, ap, ◌∙◌, subst, add-one}
use Rattle.std.specs.Option.{option_map}
use Rattle.t_base.specs.declared.basics.Span.{Span}
use Rattle.t_base.specs.declared.basics.Name.{Name as NamePlace}
use Rattle.t_reader.specs.Grammar.{fix, char, nil, truth, string, symbol}
use Rattle.t_objects.specs.declared.words.Word.{Word}
use Rattle.t_objects.specs.Words.{word_named}
use Rattle.t_forms.specs.declared.arena.New.{New}
use Rattle.t_forms.specs.declared.arena.Form.{Form}
use Rattle.t_forms.specs.declared.arena.Form.TheVariants as form
use Rattle.t_forms.specs.declared.arena.Cell.{Cell}
use Rattle.t_forms.specs.declared.scope.LocalName.TheVariants as key
use Rattle.t_forms.specs.Data.{given, variable, builtin, operation, listing, Datum, atom, cons, items_of, count_of, written, made}
use Rattle.t_forms.specs.Held.{cell, Held, Continues, IsSymbol}
use Rattle.t_rows.specs.Lists.{AreItems, AreItemsOf, IsSplit, IsNameOf, IsHeadOf, is_pair}

-- the form of a cell
pub form_at : {o : Option Cell} {x : Cell} {f : Form} → Some x ≡ o → x.form ≡ f → o ≡ Some (cell x.span f)
form_at {x = x} e is = sym e ∙ ap (λ g. Some (cell x.span g)) is

pub pair_is : {f : Form} {i j : ℕ} {c n : Option ℕ} → f ≡ form.Pair i j c → c ≡ n → f ≡ form.Pair i j n
pair_is {i = i} {j = j} p q = p ∙ ap (λ m. form.Pair i j m) q

form_or : Form → Option Cell → Form
form_or f None = f
form_or f (Some x) = x.form

pub same_form : {o : Option Cell} {u v : Span} {f g : Form} → o ≡ Some (cell u f) → o ≡ Some (cell v g) → f ≡ g
unfolding form_or
same_form {f = f} p q = ap (form_or f) (sym p ∙ q)

-- ---- symbols

-- a symbol's form is a word or a place among the names
pub data IsSpelling (f : Form) : Type 0 where
  a_word : (w : Word) → f ≡ form.Word w → IsSpelling f
  a_place : (n : NamePlace) → f ≡ form.Sym n → IsSpelling f

pub spelling : (names : List (List ℕ)) (f : Form) (text : List ℕ) (w : Option Word) → IsSymbol names f text w → IsSpelling f
spelling names f text (Some w) h = a_word w h
spelling names f text None h = a_place h.0 h.1

-- ---- lists

counts-cons : (head : Datum) (items : Option (List Datum)) → option_map (λ n. n + 1) (option_map length items) ≡ option_map length (option_map (λ ds. head ∷ ds) items)
counts-cons head None = refl
counts-cons head (Some ds) = ap (λ n. Some n) (add-one (length ds))

-- the count of a list is its length
pub counts : (d : Datum) → count_of d ≡ option_map length (items_of d)
counts (atom s (given (fix z))) = refl
counts (atom s (given (char n))) = refl
counts (atom s (given nil)) = refl
counts (atom s (given truth)) = refl
counts (atom s (given (string text))) = refl
counts (atom s (given (symbol text))) = refl
counts (atom s (variable v)) = refl
counts (atom s (builtin p)) = refl
counts (atom s (operation o)) = refl
counts (atom s listing) = refl
counts (cons s head tail) = ap (λ n. option_map (λ m. m + 1) n) (counts tail) ∙ counts-cons head (items_of tail)

pub held-continues : (names : List (List ℕ)) (cells : List Cell) (k : ℕ) (d : Datum) → Held names cells k d → Continues names cells k d
held-continues names cells k (atom s a) h = (s, h.0, h.1, h.2)
held-continues names cells k (cons s head tail) h = (s, h.0, h.1, h.2, h.3, h.4, h.5, h.6)

abbrev pub AreItemsIf : List (List ℕ) → List Cell → ℕ → Option (List Datum) → Type 0
AreItemsIf names cells k None = Unit {0}
AreItemsIf names cells k (Some ds) = AreItems names cells k ds

items-cons : (names : List (List ℕ)) (cells : List Cell) (k : ℕ) (u : Span) (i j : ℕ) (head : Datum) (items : Option (List Datum)) (c : Option ℕ) → c ≡ option_map length items
    → slice_get cells k ≡ Some (cell u (form.Pair i j (option_map (λ n. n + 1) c))) → i < k → j < k → Held names cells i head → AreItemsIf names cells j items
    → AreItemsIf names cells k (option_map (λ ds. head ∷ ds) items)
items-cons names cells k u i j head None c e p l m h r = tt
items-cons names cells k u i j head (Some ds) c e p l m h r =
    (u, i, j, subst (λ (n : Option ℕ). slice_get cells k ≡ Some (cell u (form.Pair i j (option_map (λ n. n + 1) n)))) e p, l, m, h, r)

pub items-continue : (names : List (List ℕ)) (cells : List Cell) (k : ℕ) (d : Datum) → Continues names cells k d → AreItemsIf names cells k (items_of d)
items-continue names cells k (atom s (given (fix z))) h = tt
items-continue names cells k (atom s (given (char n))) h = tt
items-continue names cells k (atom s (given nil)) h = (h.0, h.2 ∙ ap (λ f. Some (cell h.0 f)) h.3)
items-continue names cells k (atom s (given truth)) h = tt
items-continue names cells k (atom s (given (string text))) h = tt
items-continue names cells k (atom s (given (symbol text))) h = tt
items-continue names cells k (atom s (variable v)) h = tt
items-continue names cells k (atom s (builtin p)) h = tt
items-continue names cells k (atom s (operation o)) h = tt
items-continue names cells k (atom s listing) h = tt
items-continue names cells k (cons s head tail) h =
    items-cons names cells k h.0 h.1 h.2 head (items_of tail) (count_of tail) (counts tail) h.3 h.4 h.5 h.6 (items-continue names cells h.2 tail h.7)

some-items : (names : List (List ℕ)) (cells : List Cell) (k : ℕ) (o : Option (List Datum)) → AreItemsIf names cells k o → (o ≡ None → ⊥)
    → (ds : List Datum) × (o ≡ Some ds) × AreItems names cells k ds
some-items names cells k None h not = absurd (not refl)
some-items names cells k (Some ds) h not = (ds, refl, h)

nil-lists : (names : List (List ℕ)) (cells : List Cell) (k : ℕ) (u : Span) (d : Datum) → slice_get cells k ≡ Some (cell u form.Nil) → Held names cells k d → items_of d ≡ None → ⊥
nil-lists names cells k u (atom s (given (fix z))) p h e = let q = same_form p h.1 in cc
nil-lists names cells k u (atom s (given (char n))) p h e = let q = same_form p h.1 in cc
nil-lists names cells k u (atom s (given nil)) p h e = let q = same_form p h.1 in cc
nil-lists names cells k u (atom s (given truth)) p h e = let q = same_form p h.1 in cc
nil-lists names cells k u (atom s (given (string text))) p h e = let q = same_form p h.1 in cc
nil-lists names cells k u (atom s (given (symbol text))) p h e =
    let e = same_form p h.1 in elim (spelling names h.0 text (word_named text) h.2) [ a_word w q ↦ cc | a_place n q ↦ cc ]
nil-lists names cells k u (atom s (variable v)) p h e = let q = same_form p h.1 in cc
nil-lists names cells k u (atom s (builtin b)) p h e = let q = same_form p h.1 in cc
nil-lists names cells k u (atom s (operation o)) p h e = let q = same_form p h.1 in cc
nil-lists names cells k u (atom s listing) p h e = let q = same_form p h.1 in cc
nil-lists names cells k u (cons s head tail) p h e = let q = same_form p h.2 in cc

pair-counts : (names : List (List ℕ)) (cells : List Cell) (k : ℕ) (u : Span) (i j : ℕ) (c : Option ℕ) (d : Datum) → slice_get cells k ≡ Some (cell u (form.Pair i j c)) → Held names cells k d
    → c ≡ option_map length (items_of d)
pair-counts names cells k u i j c (atom s (given (fix z))) p h = let q = same_form p h.1 in cc
pair-counts names cells k u i j c (atom s (given (char n))) p h = let q = same_form p h.1 in cc
pair-counts names cells k u i j c (atom s (given nil)) p h = let q = same_form p h.1 in cc
pair-counts names cells k u i j c (atom s (given truth)) p h = let q = same_form p h.1 in cc
pair-counts names cells k u i j c (atom s (given (string text))) p h = let q = same_form p h.1 in cc
pair-counts names cells k u i j c (atom s (given (symbol text))) p h =
    let e = same_form p h.1 in elim (spelling names h.0 text (word_named text) h.2) [ a_word w q ↦ cc | a_place n q ↦ cc ]
pair-counts names cells k u i j c (atom s (variable v)) p h = let q = same_form p h.1 in cc
pair-counts names cells k u i j c (atom s (builtin b)) p h = let q = same_form p h.1 in cc
pair-counts names cells k u i j c (atom s (operation o)) p h = let q = same_form p h.1 in cc
pair-counts names cells k u i j c (atom s listing) p h = let q = same_form p h.1 in cc
pair-counts names cells k u i j c (cons s head tail) p h =
    let q = same_form p h.2 in
    let e : c ≡ count_of (cons s head tail) = cc in
    e ∙ counts (cons s head tail)

pub items-nil : (names : List (List ℕ)) (cells : List Cell) (k : ℕ) (u : Span) (d : Datum) → slice_get cells k ≡ Some (cell u form.Nil) → Held names cells k d → AreItemsOf names cells (Some k) d
items-nil names cells k u d p h =
    some-items names cells k (items_of d) (items-continue names cells k d (held-continues names cells k d h)) (nil-lists names cells k u d p h)

no-length : (o : Option (List Datum)) → None ≡ option_map length o → o ≡ None
no-length None e = refl
no-length (Some ds) e = cc

some-length : (n : ℕ) (o : Option (List Datum)) → Some n ≡ option_map length o → o ≡ None → ⊥
some-length n None e not = cc
some-length n (Some ds) e not = cc

pub items-pair : (names : List (List ℕ)) (cells : List Cell) (k : ℕ) (u : Span) (i j n : ℕ) (d : Datum) → slice_get cells k ≡ Some (cell u (form.Pair i j (Some n))) → Held names cells k d
    → AreItemsOf names cells (Some k) d
items-pair names cells k u i j n d p h =
    some-items names cells k (items_of d) (items-continue names cells k d (held-continues names cells k d h))
    (some-length n (items_of d) (pair-counts names cells k u i j (Some n) d p h))

pub items-dotted : (names : List (List ℕ)) (cells : List Cell) (k : ℕ) (u : Span) (i j : ℕ) (d : Datum) → slice_get cells k ≡ Some (cell u (form.Pair i j None)) → Held names cells k d
    → items_of d ≡ None
items-dotted names cells k u i j d p h = no-length (items_of d) (pair-counts names cells k u i j None d p h)

pub items-none : (names : List (List ℕ)) (cells : List Cell) (k : ℕ) (x : Cell) (d : Datum) → Some x ≡ slice_get cells k → (x.form ≡ form.Nil → ⊥)
    → ((i j : ℕ) (c : Option ℕ) → x.form ≡ form.Pair i j c → ⊥) → Held names cells k d → items_of d ≡ None
items-none names cells k x (atom s (given (fix z))) p nil_ pair_ h = refl
items-none names cells k x (atom s (given (char n))) p nil_ pair_ h = refl
items-none names cells k x (atom s (given nil)) p nil_ pair_ h = let e : x.form ≡ form.Nil = cc in absurd (nil_ e)
items-none names cells k x (atom s (given truth)) p nil_ pair_ h = refl
items-none names cells k x (atom s (given (string text))) p nil_ pair_ h = refl
items-none names cells k x (atom s (given (symbol text))) p nil_ pair_ h = refl
items-none names cells k x (atom s (variable v)) p nil_ pair_ h = refl
items-none names cells k x (atom s (builtin b)) p nil_ pair_ h = refl
items-none names cells k x (atom s (operation o)) p nil_ pair_ h = refl
items-none names cells k x (atom s listing) p nil_ pair_ h = refl
items-none names cells k x (cons s head tail) p nil_ pair_ h =
    let e : x.form ≡ form.Pair h.0 h.1 (count_of (cons s head tail)) = cc in absurd (pair_ h.0 h.1 (count_of (cons s head tail)) e)

pub nowhere : (names : List (List ℕ)) (cells : List Cell) (k : ℕ) (d : Datum) → None ≡ slice_get cells k → Held names cells k d → ⊥
nowhere names cells k (atom s a) e h = cc
nowhere names cells k (cons s head tail) e h = cc

-- ---- the first item

pub split-pair : (names : List (List ℕ)) (cells : List Cell) (k : ℕ) (u : Span) (i j : ℕ) (c : Option ℕ) (ds : List Datum) → slice_get cells k ≡ Some (cell u (form.Pair i j c))
    → AreItems names cells k ds → IsSplit names cells (Some (i, j)) ds
split-pair names cells k u i j c [] p h = let q = same_form p h.1 in cc
split-pair names cells k u i j c (d ∷ ds) p h =
    let q = same_form p h.3 in
    let a : h.1 ≡ i = cc in
    let b : h.2 ≡ j = cc in
    (d, ds, refl, subst (λ (n : ℕ). Held names cells n d) a h.6, subst (λ (n : ℕ). AreItems names cells n ds) b h.7)

pub split-none : (names : List (List ℕ)) (cells : List Cell) (k : ℕ) (x : Cell) (ds : List Datum) → Some x ≡ slice_get cells k
    → ((i j : ℕ) (c : Option ℕ) → x.form ≡ form.Pair i j c → ⊥) → AreItems names cells k ds → ds ≡ []
split-none names cells k x [] p pair_ h = refl
split-none names cells k x (d ∷ ds) p pair_ h =
    let e : x.form ≡ form.Pair h.1 h.2 (Some (length ds + 1)) = cc in absurd (pair_ h.1 h.2 (Some (length ds + 1)) e)

pub split-nowhere : (names : List (List ℕ)) (cells : List Cell) (k : ℕ) (ds : List Datum) → None ≡ slice_get cells k → AreItems names cells k ds → ds ≡ []
split-nowhere names cells k [] e h = refl
split-nowhere names cells k (d ∷ ds) e h = cc

pub count-nil : (names : List (List ℕ)) (cells : List Cell) (k : ℕ) (u : Span) (ds : List Datum) → slice_get cells k ≡ Some (cell u form.Nil) → AreItems names cells k ds → 0 ≡ length ds
count-nil names cells k u [] p h = refl
count-nil names cells k u (d ∷ ds) p h = let q = same_form p h.3 in cc

pub count-pair : (names : List (List ℕ)) (cells : List Cell) (k : ℕ) (u : Span) (i j n : ℕ) (ds : List Datum) → slice_get cells k ≡ Some (cell u (form.Pair i j (Some n)))
    → AreItems names cells k ds → n ≡ length ds
count-pair names cells k u i j n [] p h = let q = same_form p h.1 in cc
count-pair names cells k u i j n (d ∷ ds) p h =
    let q = same_form p h.3 in
    let e : n ≡ length ds + 1 = cc in
    e ∙ add-one (length ds)

-- ---- names

named : (names : List (List ℕ)) (f : Form) (n : NamePlace) (text : List ℕ) (w : Option Word) → IsSymbol names f text w → f ≡ form.Sym n
    → (w ≡ None) × (slice_get names n.0 ≡ Some text)
named names f n text (Some w) h p = cc
named names f n text None h p = let e : h.0 ≡ n = cc in (refl, subst (λ (m : NamePlace). slice_get names m.0 ≡ Some text) e h.2)

pub name-symbol : (names : List (List ℕ)) (cells : List Cell) (k : ℕ) (u : Span) (n : NamePlace) (d : Datum) → slice_get cells k ≡ Some (cell u (form.Sym n)) → Held names cells k d
    → IsNameOf names (Some (key.Written n)) d
name-symbol names cells k u n (atom s (given (fix z))) p h = let q = same_form p h.1 in cc
name-symbol names cells k u n (atom s (given (char x))) p h = let q = same_form p h.1 in cc
name-symbol names cells k u n (atom s (given nil)) p h = let q = same_form p h.1 in cc
name-symbol names cells k u n (atom s (given truth)) p h = let q = same_form p h.1 in cc
name-symbol names cells k u n (atom s (given (string text))) p h = let q = same_form p h.1 in cc
name-symbol names cells k u n (atom s (given (symbol text))) p h =
    let e = named names h.0 n text (word_named text) h.2 (same_form h.1 p) in
    (written text, ap (λ w. if is_none w then Some (written text) else None) e.0, (n, refl, e.1))
name-symbol names cells k u n (atom s (variable v)) p h = let q = same_form p h.1 in cc
name-symbol names cells k u n (atom s (builtin b)) p h = let q = same_form p h.1 in cc
name-symbol names cells k u n (atom s (operation o)) p h = let q = same_form p h.1 in cc
name-symbol names cells k u n (atom s listing) p h = let q = same_form p h.1 in cc
name-symbol names cells k u n (cons s head tail) p h = let q = same_form p h.2 in cc

pub name-variable : (names : List (List ℕ)) (cells : List Cell) (k : ℕ) (u : Span) (v : New) (d : Datum) → slice_get cells k ≡ Some (cell u (form.Variable v)) → Held names cells k d
    → IsNameOf names (Some (key.Made v)) d
name-variable names cells k u v (atom s (given (fix z))) p h = let q = same_form p h.1 in cc
name-variable names cells k u v (atom s (given (char x))) p h = let q = same_form p h.1 in cc
name-variable names cells k u v (atom s (given nil)) p h = let q = same_form p h.1 in cc
name-variable names cells k u v (atom s (given truth)) p h = let q = same_form p h.1 in cc
name-variable names cells k u v (atom s (given (string text))) p h = let q = same_form p h.1 in cc
name-variable names cells k u v (atom s (given (symbol text))) p h =
    let e = same_form p h.1 in elim (spelling names h.0 text (word_named text) h.2) [ a_word w q ↦ cc | a_place n q ↦ cc ]
name-variable names cells k u v (atom s (variable w)) p h =
    let q = same_form h.1 p in
    let e : w ≡ v = cc in
    (made v, ap (λ n. Some (made n)) e, refl)
name-variable names cells k u v (atom s (builtin b)) p h = let q = same_form p h.1 in cc
name-variable names cells k u v (atom s (operation o)) p h = let q = same_form p h.1 in cc
name-variable names cells k u v (atom s listing) p h = let q = same_form p h.1 in cc
name-variable names cells k u v (cons s head tail) p h = let q = same_form p h.2 in cc

-- ---- the first part

pub head-pair : (names : List (List ℕ)) (cells : List Cell) (k : ℕ) (u : Span) (i j : ℕ) (c : Option ℕ) (d : Datum) → slice_get cells k ≡ Some (cell u (form.Pair i j c)) → Held names cells k d
    → IsHeadOf names cells (Some i) d
head-pair names cells k u i j c (atom s (given (fix z))) p h = let q = same_form p h.1 in cc
head-pair names cells k u i j c (atom s (given (char n))) p h = let q = same_form p h.1 in cc
head-pair names cells k u i j c (atom s (given nil)) p h = let q = same_form p h.1 in cc
head-pair names cells k u i j c (atom s (given truth)) p h = let q = same_form p h.1 in cc
head-pair names cells k u i j c (atom s (given (string text))) p h = let q = same_form p h.1 in cc
head-pair names cells k u i j c (atom s (given (symbol text))) p h =
    let e = same_form p h.1 in elim (spelling names h.0 text (word_named text) h.2) [ a_word w q ↦ cc | a_place n q ↦ cc ]
head-pair names cells k u i j c (atom s (variable v)) p h = let q = same_form p h.1 in cc
head-pair names cells k u i j c (atom s (builtin b)) p h = let q = same_form p h.1 in cc
head-pair names cells k u i j c (atom s (operation o)) p h = let q = same_form p h.1 in cc
head-pair names cells k u i j c (atom s listing) p h = let q = same_form p h.1 in cc
head-pair names cells k u i j c (cons s head tail) p h =
    let q = same_form p h.2 in
    let same : h.0 ≡ i = cc in
    (s, head, tail, refl, subst (λ (n : ℕ). Held names cells n head) same h.5)

pub head-none : (names : List (List ℕ)) (cells : List Cell) (k : ℕ) (x : Cell) (d : Datum) → Some x ≡ slice_get cells k → ((i j : ℕ) (c : Option ℕ) → x.form ≡ form.Pair i j c → ⊥)
    → Held names cells k d → is_pair d ≡ false
head-none names cells k x (atom s a) p pair_ h = refl
head-none names cells k x (cons s head tail) p pair_ h =
    let e : x.form ≡ form.Pair h.0 h.1 (count_of (cons s head tail)) = cc in absurd (pair_ h.0 h.1 (count_of (cons s head tail)) e)
