-- Pieces of templates.
use Rattle.std.proofs.Common.{◌≡◌, ℕ, ◌+◌, ◌<◌, add-one, drop-cons, List, [], ◌∷◌, ◌++◌, length, reverse, drop, get_or, slice_get, Option, Some, None, unwrap_or, refl, sym, subst}
use Rattle.std.proofs.lemmas.List.{reverse-append}
use Rattle.t_base.specs.declared.basics.Span.{Span}
use Rattle.t_objects.specs.declared.words.Word.{Word}
use Rattle.t_objects.specs.declared.words.Word.TheVariants as word
use Rattle.t_objects.specs.Words.{word_named}
use Rattle.t_forms.specs.declared.arena.Cell.{Cell}
use Rattle.t_forms.specs.Data.{Datum, atom, listed, a_nil}
use Rattle.t_forms.specs.Held.{Held}
use Rattle.t_rows.specs.Lists.{Grows, AreItems, AreHeld, AreLists, AreOpen, AreRest}
use Rattle.t_rows.specs.declared.templates.Piece.{Piece}
use Rattle.t_rows.specs.declared.templates.Piece.TheVariants as piece
use Rattle.t_rows.specs.Templates.{written_word, atom_of, item_of, item, opened, ended, before, lists_from, or_nil, or_empty}
use Rattle.t_rows.proofs.ZipLemmas.{AtPlace, neither, both, zip_at}
use Rattle.t_rows.proofs.Growth.{all_lists_grow, items_grow}

-- a reserved word is written so
pub named_word : (w : Word) → word_named (written_word w) ≡ Some w
named_word word.Quote = refl
named_word word.Lambda = refl
named_word word.If = refl
named_word word.Cond = refl
named_word word.And = refl
named_word word.Or = refl
named_word word.Case = refl
named_word word.Block = refl
named_word word.Let = refl
named_word word.LetStar = refl
named_word word.Labels = refl
named_word word.Iterate = refl
named_word word.Do = refl
named_word word.Set = refl
named_word word.Lset = refl
named_word word.Define = refl
named_word word.Catch = refl
named_word word.Object = refl
named_word word.DefineOperation = refl
named_word word.Locative = refl
named_word word.Else = refl
named_word word.Arrow = refl

pub item_atom : (s : Span) (ds : List Datum) (p : Piece) → ((i : ℕ) → p ≡ piece.Given i → ⊥) → item_of s ds p ≡ atom s (atom_of p)
item_atom s ds piece.Open not = refl
item_atom s ds piece.Close not = refl
item_atom s ds (piece.Rest i) not = refl
item_atom s ds (piece.Given i) not = absurd (not i refl)
item_atom s ds (piece.Word w) not = refl
item_atom s ds (piece.Variable n) not = refl
item_atom s ds (piece.Builtin p) not = refl
item_atom s ds (piece.Operation o) not = refl
item_atom s ds piece.Listing not = refl
item_atom s ds piece.Nil not = refl
item_atom s ds piece.True not = refl

pub before_item : (s : Span) (ds : List Datum) (rests : List (List Datum)) (p : Piece) (st : List (List Datum)) → (p ≡ piece.Open → ⊥) → (p ≡ piece.Close → ⊥)
    → ((i : ℕ) → p ≡ piece.Rest i → ⊥) → before s ds rests p st ≡ item (item_of s ds p) st
before_item s ds rests piece.Open st o c r = absurd (o refl)
before_item s ds rests piece.Close st o c r = absurd (c refl)
before_item s ds rests (piece.Rest i) st o c r = absurd (r i refl)
before_item s ds rests (piece.Given i) st o c r = refl
before_item s ds rests (piece.Word w) st o c r = refl
before_item s ds rests (piece.Variable n) st o c r = refl
before_item s ds rests (piece.Builtin p) st o c r = refl
before_item s ds rests (piece.Operation p) st o c r = refl
before_item s ds rests piece.Listing st o c r = refl
before_item s ds rests piece.Nil st o c r = refl
before_item s ds rests piece.True st o c r = refl

-- ---- what is given

some_held : (names : List (List ℕ)) (cells : List Cell) (s : Span) (k : ℕ) (o : Option ℕ) (d : Option Datum) → AtPlace (Held names cells) o d → o ≡ Some k → Held names cells k (or_nil s d)
some_held names cells s k o d neither e = cc
some_held names cells s k o d (both j x h) e = let same : j ≡ k = cc in subst (λ (i : ℕ). Held names cells i x) same h

pub given_held : (names : List (List ℕ)) (cells : List Cell) (s : Span) (keys : List ℕ) (ds : List Datum) (i k : ℕ) → AreHeld names cells keys ds → Some k ≡ slice_get keys i
    → Held names cells k (or_nil s (slice_get ds i))
given_held names cells s keys ds i k h e = some_held names cells s k (slice_get keys i) (slice_get ds i) (zip_at (Held names cells) keys ds i h) (sym e)

no_datum : (names : List (List ℕ)) (cells : List Cell) (s : Span) (o : Option ℕ) (d : Option Datum) → AtPlace (Held names cells) o d → o ≡ None → or_nil s d ≡ a_nil s
no_datum names cells s o d neither e = refl
no_datum names cells s o d (both j x h) e = cc

pub given_none : (names : List (List ℕ)) (cells : List Cell) (s : Span) (keys : List ℕ) (ds : List Datum) (i : ℕ) → AreHeld names cells keys ds → None ≡ slice_get keys i
    → or_nil s (slice_get ds i) ≡ a_nil s
given_none names cells s keys ds i h e = no_datum names cells s (slice_get keys i) (slice_get ds i) (zip_at (Held names cells) keys ds i h) (sym e)

rest_of : (names : List (List ℕ)) (cells : List Cell) (o : Option ℕ) (d : Option (List Datum)) → AtPlace (AreItems names cells) o d → AreRest names cells o (or_empty d)
rest_of names cells o d neither = refl
rest_of names cells o d (both j x h) = h

pub rest_at : (names : List (List ℕ)) (cells : List Cell) (keys : List ℕ) (dss : List (List Datum)) (i : ℕ) → AreLists names cells keys dss
    → AreRest names cells (slice_get keys i) (or_empty (slice_get dss i))
rest_at names cells keys dss i h = rest_of names cells (slice_get keys i) (slice_get dss i) (zip_at (AreItems names cells) keys dss i h)

-- ---- the lists that are open

pub put_item : (names : List (List ℕ)) (a b : List Cell) (items made : ℕ) (outer : List ℕ) (d : Datum) (st : List (List Datum)) → Grows a b → AreOpen names a items outer st
    → ((ds : List Datum) → AreItems names a items ds → AreItems names b made (d ∷ ds)) → AreOpen names b made outer (item d st)
put_item names a b items made outer d [] g h k = absurd h
put_item names a b items made outer d (t ∷ others) g h k = (k t h.0, all_lists_grow g names (reverse outer) others h.1)

pub ended_list : (names : List (List ℕ)) (a b : List Cell) (items made : ℕ) (outer : List ℕ) (ds : List Datum) (st : List (List Datum)) → Grows a b → AreOpen names a items outer st
    → AreItems names b made ds → AreOpen names b made outer (ended ds st)
ended_list names a b items made outer ds [] g h k = absurd h
ended_list names a b items made outer ds (t ∷ others) g h k = (k, all_lists_grow g names (reverse outer) others h.1)

pub rest_items : (names : List (List ℕ)) (cells : List Cell) (nil : ℕ) (rest : Option ℕ) (ds : List Datum) → AreItems names cells nil [] → AreRest names cells rest ds
    → AreItems names cells (unwrap_or rest nil) ds
rest_items names cells nil None ds none h = rw h none
rest_items names cells nil (Some k) ds none h = h

pub closed_list : (names : List (List ℕ)) (a b : List Cell) (items made : ℕ) (outer : List ℕ) (st : List (List Datum)) → Grows a b → AreOpen names a items outer st
    → AreItems names b made [] → AreOpen names b made (outer ++ items ∷ []) ([] ∷ st)
closed_list names a b items made outer [] g h k = absurd h
closed_list names a b items made outer (t ∷ others) g h k =
    (k, rw (reverse-append outer (items ∷ [])) (items_grow g names items t h.0, all_lists_grow g names (reverse outer) others h.1))

-- the innermost list goes into the one around it
pub opened_list : (names : List (List ℕ)) (a b : List Cell) (items under made : ℕ) (outer : List ℕ) (s : Span) (st : List (List Datum)) → Grows a b
    → AreOpen names a items (outer ++ under ∷ []) st
    → ((t u : List Datum) → AreItems names a items t → AreItems names a under u → AreItems names b made (listed s t ∷ u)) → AreOpen names b made outer (opened s st)
opened_list names a b items under made outer s [] g h k = absurd h
opened_list names a b items under made outer s (t ∷ []) g h k = absurd (rw (reverse-append outer (under ∷ [])) at h.1)
opened_list names a b items under made outer s (t ∷ u ∷ others) g h k =
    let r = rw (reverse-append outer (under ∷ [])) at h.1 in
    (k t u h.0 r.0, all_lists_grow g names (reverse outer) others r.1)

pub open_grow : (names : List (List ℕ)) (a b : List Cell) (items : ℕ) (outer : List ℕ) (st : List (List Datum)) → Grows a b → AreOpen names a items outer st → AreOpen names b items outer st
open_grow names a b items outer [] g h = absurd h
open_grow names a b items outer (t ∷ others) g h = (items_grow g names items t h.0, all_lists_grow g names (reverse outer) others h.1)

pub lists_at : (s : Span) (ds : List Datum) (rests : List (List Datum)) (template : List Piece) (i j : ℕ) (d : Piece) → i < length template → j ≡ i + 1
    → lists_from s ds rests (drop i template) ≡ before s ds rests (get_or template i d) (lists_from s ds rests (drop j template))
lists_at s ds rests template i j d below e = rw (e, add-one i, drop-cons template i d below) refl
