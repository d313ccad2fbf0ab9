-- What cells stand for stays when cells are added.
use Rattle.std.proofs.Common.{◌≡◌, ℕ, ◌+◌, ◌<◌, add-one, List, [], ◌∷◌, ◌++◌, length, slice_get, Option, Some, refl, sym, ap, ◌∙◌, subst, suc, append_assoc}
use Rattle.std.proofs.lemmas.List.{append-nil}
use Rattle.std.specs.Option.{option_map}
use Rattle.std.proofs.lemmas.Option.{slice_get_within}
use Rattle.t_base.specs.declared.basics.Span.{Span}
use Rattle.t_forms.specs.declared.arena.Form.TheVariants as form
use Rattle.t_forms.specs.declared.arena.Cell.{Cell}
use Rattle.t_forms.specs.Data.{Datum, atom, cons, listed, count_of}
use Rattle.t_forms.specs.Held.{cell, Held, Continues}
use Rattle.t_rows.specs.Lists.{Grows, AreItems, AreHeld, AreLists}
use Rattle.t_rows.proofs.ZipLemmas.{zip_weaker}

at_append : (cells more : List Cell) (k : ℕ) (x : Cell) → slice_get cells k ≡ Some x → slice_get (cells ++ more) k ≡ Some x
at_append [] more k x e = cc
at_append (c ∷ cells) more Prim.Native.Nat.zero x e = e
at_append (c ∷ cells) more (suc k) x e = at_append cells more k x e

pub kept_at : {a b : List Cell} → Grows a b → (k : ℕ) (x : Cell) → slice_get a k ≡ Some x → slice_get b k ≡ Some x
kept_at {a = a} g k x e = subst (λ (cells : List Cell). slice_get cells k ≡ Some x) (sym g.is) (at_append a g.more k x e)

pub extends_same : {a : List Cell} → Grows a a
extends_same {a = a} = record { more = []; is = sym (append-nil a) }

pub extends_trans : {a b c : List Cell} → Grows a b → Grows b c → Grows a c
extends_trans {a = a} g h = record { more = g.more ++ h.more; is = h.is ∙ ap (λ cells. cells ++ h.more) g.is ∙ append_assoc a g.more h.more }

pub extends_one : {a b : List Cell} (x : Cell) → b ≡ a ++ x ∷ [] → Grows a b
extends_one x e = record { more = x ∷ []; is = e }

mutual
  pub held_grows : {a b : List Cell} → Grows a b → (names : List (List ℕ)) (k : ℕ) (d : Datum) → Held names a k d → Held names b k d
  held_grows g names k (atom s a) h = (h.0, kept_at g k _ h.1, h.2)
  held_grows g names k (cons s head tail) h = (h.0, h.1, kept_at g k _ h.2, h.3, h.4, held_grows g names h.0 head h.5, continues_grows g names h.1 tail h.6)

  pub continues_grows : {a b : List Cell} → Grows a b → (names : List (List ℕ)) (k : ℕ) (d : Datum) → Continues names a k d → Continues names b k d
  continues_grows g names k (atom s a) h = (h.0, h.1, kept_at g k _ h.2, h.3)
  continues_grows g names k (cons s head tail) h =
      (h.0, h.1, h.2, kept_at g k _ h.3, h.4, h.5, held_grows g names h.1 head h.6, continues_grows g names h.2 tail h.7)

pub items_grow : {a b : List Cell} → Grows a b → (names : List (List ℕ)) (k : ℕ) (ds : List Datum) → AreItems names a k ds → AreItems names b k ds
items_grow g names k [] h = (h.0, kept_at g k _ h.1)
items_grow g names k (d ∷ ds) h =
    (h.0, h.1, h.2, kept_at g k _ h.3, h.4, h.5, held_grows g names h.1 d h.6, items_grow g names h.2 ds h.7)

pub all_held_grow : {a b : List Cell} → Grows a b → (names : List (List ℕ)) (keys : List ℕ) (ds : List Datum) → AreHeld names a keys ds → AreHeld names b keys ds
all_held_grow {a = a} {b = b} g names keys ds h = zip_weaker (Held names a) (Held names b) (λ k d r. held_grows g names k d r) keys ds h

pub all_lists_grow : {a b : List Cell} → Grows a b → (names : List (List ℕ)) (keys : List ℕ) (dss : List (List Datum)) → AreLists names a keys dss → AreLists names b keys dss
all_lists_grow {a = a} {b = b} g names keys dss h = zip_weaker (AreItems names a) (AreItems names b) (λ k ds r. items_grow g names k ds r) keys dss h

-- ---- one more cell

at_end : (cells : List Cell) (x : Cell) → slice_get (cells ++ x ∷ []) (length cells) ≡ Some x
at_end [] x = refl
at_end (c ∷ cells) x = at_end cells x

pub last_at : (a : List Cell) {b : List Cell} {k : ℕ} {x : Cell} → b ≡ a ++ x ∷ [] → k ≡ length a → slice_get b k ≡ Some x
last_at a {x = x} e l = rw (e, l) (at_end a x)

pub held_within : (names : List (List ℕ)) (cells : List Cell) (k : ℕ) (d : Datum) → Held names cells k d → k < length cells
held_within names cells k (atom s a) h = slice_get_within cells k _ h.1
held_within names cells k (cons s head tail) h = slice_get_within cells k _ h.2

pub items_within : (names : List (List ℕ)) (cells : List Cell) (k : ℕ) (ds : List Datum) → AreItems names cells k ds → k < length cells
items_within names cells k [] h = slice_get_within cells k _ h.1
items_within names cells k (d ∷ ds) h = slice_get_within cells k _ h.3

pub listed_count : (s : Span) (ds : List Datum) → count_of (listed s ds) ≡ Some (length ds)
listed_count s [] = refl
listed_count s (d ∷ ds) = ap (λ n. option_map (λ m. m + 1) n) (listed_count s ds) ∙ ap (λ n. Some n) (add-one (length ds))

pub items_list : (names : List (List ℕ)) (cells : List Cell) (k : ℕ) (s : Span) (ds : List Datum) → AreItems names cells k ds → Continues names cells k (listed s ds)
items_list names cells k s [] h = (h.0, form.Nil, h.1, refl)
items_list names cells k s (d ∷ ds) h = (
  h.0,
  h.1,
  h.2,
  subst (λ (n : Option ℕ). slice_get cells k ≡ Some (cell h.0 (form.Pair h.1 h.2 (option_map (λ m. m + 1) n)))) (sym (listed_count s ds)) h.3,
  h.4,
  h.5,
  h.6,
  items_list names cells h.2 s ds h.7,
)

-- where the first cell has the span, the items are the list
pub items_held : (names : List (List ℕ)) (cells : List Cell) (k : ℕ) (x : Cell) (s : Span) (ds : List Datum) → Some x ≡ slice_get cells k → x.span ≡ s → AreItems names cells k ds
    → Held names cells k (listed s ds)
unfolding items_list
items_held names cells k x s [] p e h =
    let u : h.0 ≡ s = cc in
    (form.Nil, subst (λ (v : Span). slice_get cells k ≡ Some (cell v form.Nil)) u h.1, refl)
items_held names cells k x s (d ∷ ds) p e h =
    let u : h.0 ≡ s = cc in
    let r = items_list names cells k s (d ∷ ds) h in (
      h.1,
      h.2,
      subst (λ (v : Span). slice_get cells k ≡ Some (cell v (form.Pair h.1 h.2 (count_of (listed s (d ∷ ds)))))) u r.3,
      h.4,
      h.5,
      h.6,
      r.7,
    )

pub cons_made : (a : List Cell) (b : List Cell) (names : List (List ℕ)) (s : Span) (k i j n : ℕ) (m : Option ℕ) (d : Datum) (ds : List Datum) → b ≡ a ++ cell s (form.Pair i j m) ∷ [] → k ≡ length a → n ≡ length ds
    → m ≡ Some (n + 1) → Held names a i d → AreItems names a j ds → AreItems names b k (d ∷ ds)
cons_made a b names s k i j n m d ds e l c p h r =
    let below : i < k = rw l (held_within names a i d h) in
    let behind : j < k = rw l (items_within names a j ds r) in
    let g : Grows a b = extends_one _ e in
    let count : m ≡ Some (length ds + 1) = p ∙ ap (λ x. Some (x + 1)) c in
    (s, i, j, last_at a e l ∙ ap (λ x. Some (cell s (form.Pair i j x))) count, below, behind, held_grows g names i d h, items_grow g names j ds r)

pub list_made : (a : List Cell) (b : List Cell) (names : List (List ℕ)) (s : Span) (k i j n : ℕ) (m : Option ℕ) (d : Datum) (ds : List Datum) → b ≡ a ++ cell s (form.Pair i j m) ∷ [] → k ≡ length a → n ≡ length ds
    → m ≡ Some (n + 1) → Held names a i d → AreItems names a j ds → Held names b k (listed s (d ∷ ds))
list_made a b names s k i j n m d ds e l c p h r =
    let below : i < k = rw l (held_within names a i d h) in
    let behind : j < k = rw l (items_within names a j ds r) in
    let g : Grows a b = extends_one _ e in
    let count : m ≡ option_map (λ x. x + 1) (count_of (listed s ds)) = p ∙ ap (λ x. Some (x + 1)) c ∙ ap (λ x. option_map (λ y. y + 1) x) (sym (listed_count s ds)) in
    (i, j, last_at a e l ∙ ap (λ x. Some (cell s (form.Pair i j x))) count, below, behind, held_grows g names i d h, items_list names b j s ds (items_grow g names j ds r))
