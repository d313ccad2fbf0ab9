-- What is held stays held where cells are only added, and names too.
use Rattle.std.proofs.Common.{subst, ◌≡◌, ℕ, ◌<◌, List, [], ◌∷◌, ◌++◌, length, slice_get, Option, Some, None, sym, ap, ◌∙◌, append_assoc, length-append, append-nil, arith}
use Rattle.std.proofs.lemmas.Option.{slice_get_within, slice_get-get_or, get_or_from_slice_get}
use Rattle.std.proofs.Math.ListN.{get_or-append}
use Rattle.t_reader.specs.Grammar.{fix, char, nil, truth, string, symbol}
use Rattle.t_objects.specs.declared.words.Word.{Word}
use Rattle.t_objects.specs.Words.{word_named}
use Rattle.t_forms.specs.declared.arena.Form.{Form}
use Rattle.t_forms.specs.declared.arena.Cell.{Cell}
use Rattle.t_forms.specs.declared.scope.LocalName.{LocalName}
use Rattle.t_forms.specs.Data.{Atom, given, variable, builtin, operation, listing, Datum, atom, cons, Name, written, made}
use Rattle.t_forms.specs.Held.{IsSymbol, IsAtom, Held, Continues, AllHeld, Extends, IsName, AreNames}

-- what stands at a place stays there
abbrev pub Keeps : {A : Type 0} → List A → List A → Type 0
Keeps {A} old new = (k : ℕ) (x : A) → slice_get old k ≡ Some x → slice_get new k ≡ Some x

pub keeps_same : {A : Type 0} (xs : List A) → Keeps xs xs
keeps_same xs k x e = e

pub keeps_append : {A : Type 0} (xs more : List A) → Keeps xs (xs ++ more)
keeps_append xs more k x e =
    let below : k < length xs = slice_get_within xs k x e in
    let within : k < length (xs ++ more) = omega (arith, length-append xs more) in
    slice_get-get_or (xs ++ more) k x within ∙ ap Some (get_or-append xs more x k below ∙ get_or_from_slice_get xs k x x e)

pub kept_at : {a b : List Cell} → Extends a b → Keeps a b
kept_at {a = a} g k x e = subst (λ (cells : List Cell). slice_get cells k ≡ Some x) (sym g.is) (keeps_append a g.more k x e)

-- ---- cells that go on

pub extends_same : {a : List Cell} → Extends a a
extends_same {a = a} = record { more = []; is = sym (append-nil a) }

pub extends_equal : {a b : List Cell} → b ≡ a → Extends a b
extends_equal {a = a} e = record { more = []; is = e ∙ sym (append-nil a) }

pub extends_trans : {a b c : List Cell} → Extends a b → Extends b c → Extends a c
extends_trans {a = a} g h = record { more = g.more ++ h.more; is = h.is ∙ ap (λ cells. cells ++ h.more) g.is ∙ append_assoc a g.more h.more }

pub extends_one : {a b : List Cell} (x : Cell) → b ≡ a ++ x ∷ [] → Extends a b
extends_one x e = record { more = x ∷ []; is = e }

-- ---- under more names and cells

symbol_kept : (names more : List (List ℕ)) (f : Form) (text : List ℕ) (w : Option Word) → Keeps names more → IsSymbol names f text w → IsSymbol more f text w
symbol_kept names more f text None keeps is = (is.0, is.1, keeps is.0.0 text is.2)
symbol_kept names more f text (Some w) keeps is = is

pub atom_kept : (names more : List (List ℕ)) (f : Form) (a : Atom) → Keeps names more → IsAtom names f a → IsAtom more f a
atom_kept names more f (given (fix z)) keeps is = is
atom_kept names more f (given (char c)) keeps is = is
atom_kept names more f (given nil) keeps is = is
atom_kept names more f (given truth) keeps is = is
atom_kept names more f (given (string bytes)) keeps is = is
atom_kept names more f (given (symbol text)) keeps is = symbol_kept names more f text (word_named text) keeps is
atom_kept names more f (variable v) keeps is = is
atom_kept names more f (builtin p) keeps is = is
atom_kept names more f (operation o) keeps is = is
atom_kept names more f listing keeps is = is

mutual
  pub held_kept : (names more : List (List ℕ)) (cells larger : List Cell) (k : ℕ) (d : Datum) → Keeps names more → Keeps cells larger → Held names cells k d
      → Held more larger k d
  held_kept names more cells larger k (atom s a) ns cs h = (h.0, cs k _ h.1, atom_kept names more h.0 a ns h.2)
  held_kept names more cells larger k (cons s head tail) ns cs h =
      (h.0, h.1, cs k _ h.2, h.3, h.4, held_kept names more cells larger h.0 head ns cs h.5, continues_kept names more cells larger h.1 tail ns cs h.6)

  pub continues_kept : (names more : List (List ℕ)) (cells larger : List Cell) (k : ℕ) (d : Datum) → Keeps names more → Keeps cells larger
      → Continues names cells k d → Continues more larger k d
  continues_kept names more cells larger k (atom s a) ns cs h = (h.0, h.1, cs k _ h.2, atom_kept names more h.1 a ns h.3)
  continues_kept names more cells larger k (cons s head tail) ns cs h =
      (h.0, h.1, h.2, cs k _ h.3, h.4, h.5, held_kept names more cells larger h.1 head ns cs h.6, continues_kept names more cells larger h.2 tail ns cs h.7)

-- ---- under more cells

pub held_grows : {a b : List Cell} → Extends a b → (names : List (List ℕ)) (k : ℕ) (d : Datum) → Held names a k d → Held names b k d
held_grows {a = a} {b = b} g names k d h = held_kept names names a b k d (keeps_same names) (kept_at g) h

pub continues_grows : {a b : List Cell} → Extends a b → (names : List (List ℕ)) (k : ℕ) (d : Datum) → Continues names a k d → Continues names b k d
continues_grows {a = a} {b = b} g names k d h = continues_kept names names a b k d (keeps_same names) (kept_at g) h

pub all_held_grow : {a b : List Cell} → Extends a b → (names : List (List ℕ)) (ks : List ℕ) (ds : List Datum) → AllHeld names a ks ds → AllHeld names b ks ds
all_held_grow g names [] [] h = tt
all_held_grow g names [] (d ∷ ds) h = absurd h
all_held_grow g names (k ∷ ks) [] h = absurd h
all_held_grow g names (k ∷ ks) (d ∷ ds) h = (held_grows g names k d h.0, all_held_grow g names ks ds h.1)

-- ---- under more names

pub name_kept : (names more : List (List ℕ)) (k : LocalName) (n : Name) → Keeps names more → IsName names k n → IsName more k n
name_kept names more k (written text) keeps is = (is.0, is.1, keeps is.0.0 text is.2)
name_kept names more k (made v) keeps is = is

pub names_kept : (names more : List (List ℕ)) (ks : List LocalName) (ns : List Name) → Keeps names more → AreNames names ks ns → AreNames more ks ns
names_kept names more [] [] keeps are = tt
names_kept names more [] (n ∷ ns) keeps are = absurd are
names_kept names more (k ∷ ks) [] keeps are = absurd are
names_kept names more (k ∷ ks) (n ∷ ns) keeps are = (name_kept names more k n keeps are.0, names_kept names more ks ns keeps are.1)
