-- Constants of quoted data.
use Rattle.std.proofs.Common.{◌≡◌, ℕ, List, [], ◌∷◌, ◌++◌, Option, Some, None, slice_get, refl, sym, ap, subst, ◌∙◌, length, arith}
use Rattle.std.proofs.lemmas.List.{same_from_push}
use Rattle.std.proofs.lemmas.Option.{same_Some}
use Rattle.t_base.specs.declared.basics.Span.{Span}
use Rattle.t_base.specs.declared.shared_parts.Const.{Const}
use Rattle.t_base.specs.declared.shared_parts.Const.TheVariants as Constant
use Rattle.t_base.specs.declared.shared_parts.Shared.{Shared}
use Rattle.t_reader.specs.Grammar.{fix, char, nil, truth, string, symbol}
use Rattle.t_objects.specs.declared.words.Word.{Word}
use Rattle.t_objects.specs.Words.{word_named}
use Rattle.t_forms.specs.declared.arena.Cell.{Cell}
use Rattle.t_forms.specs.declared.arena.Form.{Form}
use Rattle.t_forms.specs.declared.arena.Form.TheVariants as form
use Rattle.t_forms.specs.Data.{Atom, given, variable, builtin, operation, listing, Datum, atom, cons, count_of}
use Rattle.t_forms.specs.Held.{cell, Held, Continues, IsAtom, IsSymbol}
use Rattle.expansion.proofs.Added.{Adds_refl, Adds_trans, slice_get-Adds}
use Rattle.expansion.specs.Meaning.{IsQuoted}
use Rattle.t_expand.specs.Quoting.{AddsConstants, IsHalf, StandsIn, as_root, in_pair, Quotes, IsConstant}
use Rattle.t_expand.specs.declared.quoted.Half.{Half}
use Rattle.t_expand.specs.declared.quoted.Half.TheVariants as half
use Rattle.t_expand.specs.declared.quoted.Quoting.TheVariants as quoting
use Rattle.t_expand.proofs.SpellingLemmas.{named_spelling}

-- ---- what is added

pub AddsConstants_refl : (s : Shared) → AddsConstants s s
AddsConstants_refl s = record { names = refl; strings = Adds_refl s.strings.items; pairs = Adds_refl s.pairs.items; globals = refl; ops = refl }

pub AddsConstants_trans : (s t u : Shared) → AddsConstants s t → AddsConstants t u → AddsConstants s u
AddsConstants_trans s t u a b = record {
  names = b.names ∙ a.names;
  strings = Adds_trans s.strings.items t.strings.items u.strings.items a.strings b.strings;
  pairs = Adds_trans s.pairs.items t.pairs.items u.pairs.items a.pairs b.pairs;
  globals = b.globals ∙ a.globals;
  ops = b.ops ∙ a.ops;
}

pub IsQuoted-Adds : (old new : Shared) → AddsConstants old new → (d : Datum) (c : Const) → IsQuoted old d c → IsQuoted new d c
IsQuoted-Adds old new a (atom s (given (fix z))) c h = h
IsQuoted-Adds old new a (atom s (given (char b))) c h = h
IsQuoted-Adds old new a (atom s (given nil)) c h = h
IsQuoted-Adds old new a (atom s (given truth)) c h = h
IsQuoted-Adds old new a (atom s (given (string bytes))) c h = (h.0, h.1, slice_get-Adds old.strings.items new.strings.items h.0 bytes a.strings h.2)
IsQuoted-Adds old new a (atom s (given (symbol text))) c h = (h.0, h.1, ap (λ names. slice_get names (h.0).0) a.names ∙ h.2)
IsQuoted-Adds old new a (atom s (variable n)) c h = h
IsQuoted-Adds old new a (atom s (builtin p)) c h = h
IsQuoted-Adds old new a (atom s (operation o)) c h = h
IsQuoted-Adds old new a (atom s listing) c h = h
IsQuoted-Adds old new a (cons s head tail) c h =
    (h.0, h.1, h.2, slice_get-Adds old.pairs.items new.pairs.items h.0 h.1 a.pairs h.3, IsQuoted-Adds old new a head (h.1).0 h.4, IsQuoted-Adds old new a tail (h.1).1 h.5)

Continues-same : (names others : List (List ℕ)) (cells : List Cell) (k : ℕ) (d : Datum) → others ≡ names → Continues names cells k d → Continues others cells k d
Continues-same names others cells k d e h = subst (λ n. Continues n cells k d) (sym e) h

IsHalf-Adds : (old new : Shared) → AddsConstants old new → (cells : List Cell) (h : Half) (d whole : Datum) → IsHalf old cells h d whole → IsHalf new cells h d whole
IsHalf-Adds old new a cells (half.Tail k) d whole i = (i.0, i.1, i.2, Continues-same old.names new.names cells k i.1 a.names i.3)
IsHalf-Adds old new a cells (half.Head c) d whole i = (i.0, i.1, i.2, IsQuoted-Adds old new a i.1 c i.3)

StandsIn-Adds : (old new : Shared) → AddsConstants old new → (cells : List Cell) (halves : List Half) (d root : Datum) → StandsIn old cells halves d root → StandsIn new cells halves d root
StandsIn-Adds old new a cells halves d root (as_root _ _ _ e f) = as_root halves d root e f
StandsIn-Adds old new a cells halves d root (in_pair _ front h _ whole _ e i st) =
    in_pair halves front h d whole root e (IsHalf-Adds old new a cells h d whole i) (StandsIn-Adds old new a cells front whole root st)

-- ---- atoms

atom_symbol : (names : List (List ℕ)) (shared : Shared) → shared.names ≡ names → (s : Span) (f : Form) (text : List ℕ) (c : Const) (o : Option Word) → word_named text ≡ o → IsSymbol names f text o
    → IsConstant shared f c → IsQuoted shared (atom s (given (symbol text))) c
atom_symbol names shared e s f text c (Some w) o h i =
    let j : IsConstant shared (form.Word w) c = subst (λ g. IsConstant shared g c) h i in
    (j.0, j.1, j.2 ∙ ap Some (sym (named_spelling text w o)))
atom_symbol names shared e s f text c None o h i =
    let j : IsConstant shared (form.Sym h.0) c = subst (λ g. IsConstant shared g c) h.1 i in
    (h.0, j, ap (λ l. slice_get l (h.0).0) e ∙ h.2)

pub atom_quoted : (names : List (List ℕ)) (shared : Shared) → shared.names ≡ names → (s : Span) (f : Form) (a : Atom) (c : Const) → IsAtom names f a → IsConstant shared f c → IsQuoted shared (atom s a) c
atom_quoted names shared e s f (given (fix z)) c h i = subst (λ g. IsConstant shared g c) h i
atom_quoted names shared e s f (given (char b)) c h i = subst (λ g. IsConstant shared g c) h i
atom_quoted names shared e s f (given nil) c h i = subst (λ g. IsConstant shared g c) h i
atom_quoted names shared e s f (given truth) c h i = subst (λ g. IsConstant shared g c) h i
atom_quoted names shared e s f (given (string bytes)) c h i = subst (λ g. IsConstant shared g c) h i
atom_quoted names shared e s f (given (symbol text)) c h i = atom_symbol names shared e s f text c (word_named text) refl h i
atom_quoted names shared e s f (variable v) c h i = subst (λ g. IsConstant shared g c) h i
atom_quoted names shared e s f (builtin p) c h i = subst (λ g. IsConstant shared g c) h i
atom_quoted names shared e s f (operation o) c h i = subst (λ g. IsConstant shared g c) h i
atom_quoted names shared e s f listing c h i = subst (λ g. IsConstant shared g c) h i

-- a pair is no atom
symbol_no_pair : (names : List (List ℕ)) (f : Form) (text : List ℕ) (i j : ℕ) (n : Option ℕ) (o : Option Word) → f ≡ form.Pair i j n → IsSymbol names f text o → ⊥
symbol_no_pair names f text i j n (Some w) e h = cc
symbol_no_pair names f text i j n None e h = let g = h.1 in cc

no_pair : (names : List (List ℕ)) (f : Form) (i j : ℕ) (n : Option ℕ) (a : Atom) → f ≡ form.Pair i j n → IsAtom names f a → ⊥
no_pair names f i j n (given (fix z)) e h = cc
no_pair names f i j n (given (char b)) e h = cc
no_pair names f i j n (given nil) e h = cc
no_pair names f i j n (given truth) e h = cc
no_pair names f i j n (given (string bytes)) e h = cc
no_pair names f i j n (given (symbol text)) e h = symbol_no_pair names f text i j n (word_named text) e h
no_pair names f i j n (variable v) e h = cc
no_pair names f i j n (builtin p) e h = cc
no_pair names f i j n (operation o) e h = cc
no_pair names f i j n listing e h = cc

same_form : (a b : Cell) (o : Option Cell) → o ≡ Some a → o ≡ Some b → a.form ≡ b.form
same_form a b o e f = ap (λ c. c.form) (same_Some a b (sym e ∙ f))

pub Held-Continues : (names : List (List ℕ)) (cells : List Cell) (k : ℕ) (d : Datum) → Held names cells k d → Continues names cells k d
Held-Continues names cells k (atom s a) h = (s, h.0, h.1, h.2)
Held-Continues names cells k (cons s head tail) h = (s, h.0, h.1, h.2, h.3, h.4, h.5, h.6)

-- ---- steps

pub first_half : (shared : Shared) (cells : List Cell) (halves : List Half) (at i j : ℕ) (n : Option ℕ) (found : Cell) (root : Datum) → slice_get cells at ≡ Some found → found.form ≡ form.Pair i j n
    → Quotes shared cells halves (quoting.Datum at) root → Quotes shared cells (halves ++ half.Tail j ∷ []) (quoting.Datum i) root
first_half shared cells halves at i j n found root got pair q = by q.datum q.is_next q.stands
  where
    by : (d : Datum) → Continues shared.names cells at d → StandsIn shared cells halves d root → Quotes shared cells (halves ++ half.Tail j ∷ []) (quoting.Datum i) root
    by (atom s a) h st = absurd (no_pair shared.names h.1 i j n a (same_form (cell h.0 h.1) found (slice_get cells at) h.2 got ∙ pair) h.3)
    by (cons s head tail) h st =
        let e : form.Pair h.1 h.2 (count_of (cons s head tail)) ≡ form.Pair i j n = same_form (cell h.0 (form.Pair h.1 h.2 (count_of (cons s head tail)))) found (slice_get cells at) h.3 got ∙ pair in
        let f : h.1 ≡ i = cc in
        let g : h.2 ≡ j = cc in
        record {
          datum = head;
          is_next = subst (λ k. Continues shared.names cells k head) f (Held-Continues shared.names cells h.1 head h.6);
          stands = in_pair (halves ++ half.Tail j ∷ []) halves (half.Tail j) head (cons s head tail) root refl
              (s, tail, refl, subst (λ k. Continues shared.names cells k tail) g h.7) st;
        }

pub atom_made : (old new : Shared) → AddsConstants old new → (cells : List Cell) (halves : List Half) (at : ℕ) (found : Cell) (root : Datum) (c : Const) → slice_get cells at ≡ Some found → IsConstant new found.form c
    → Quotes old cells halves (quoting.Datum at) root → Quotes new cells halves (quoting.Made c) root
atom_made old new a cells halves at found root c got made q = by q.datum q.is_next q.stands
  where
    by : (d : Datum) → Continues old.names cells at d → StandsIn old cells halves d root → Quotes new cells halves (quoting.Made c) root
    by (atom s b) h st =
        let e : found.form ≡ h.1 = same_form found (cell h.0 h.1) (slice_get cells at) got h.2 in
        record {
          datum = atom s b;
          is_next = atom_quoted old.names new a.names s h.1 b c h.3 (subst (λ f. IsConstant new f c) e made);
          stands = StandsIn-Adds old new a cells halves (atom s b) root st;
        }
    by (cons s head tail) h st =
        let e : found.form ≡ form.Pair h.1 h.2 (count_of (cons s head tail)) = same_form found (cell h.0 (form.Pair h.1 h.2 (count_of (cons s head tail)))) (slice_get cells at) got h.3 in
        let i : IsConstant new (form.Pair h.1 h.2 (count_of (cons s head tail))) c = subst (λ f. IsConstant new f c) e made in absurd i

-- what stands in a pair, by the last half
record Around (shared : Shared) (cells : List Cell) (halves : List Half) (h : Half) (d root : Datum) : Type 0 where
  whole : Datum
  is_half : IsHalf shared cells h d whole
  stands : StandsIn shared cells halves whole root

around : (shared : Shared) (cells : List Cell) (all halves : List Half) (h : Half) (d root : Datum) → all ≡ halves ++ h ∷ [] → StandsIn shared cells all d root → Around shared cells halves h d root
around shared cells all halves h d root e (as_root _ _ _ f g) = absurd (no_push halves h (sym f ∙ e))
  where
    no_push : (xs : List Half) (x : Half) → [] ≡ xs ++ x ∷ [] → ⊥
    no_push [] x i = cc
    no_push (y ∷ xs) x i = cc
around shared cells all halves h d root e (in_pair _ front k _ whole _ f i st) =
    let same = same_from_push front halves k h (sym f ∙ e) in
    record {
      whole = whole;
      is_half = subst (λ x. IsHalf shared cells x d whole) same.1 i;
      stands = subst (λ x. StandsIn shared cells x whole root) same.0 st;
    }

pub second_half : (shared : Shared) (cells : List Cell) (halves : List Half) (k : ℕ) (c : Const) (root : Datum) → Quotes shared cells (halves ++ half.Tail k ∷ []) (quoting.Made c) root
    → Quotes shared cells (halves ++ half.Head c ∷ []) (quoting.Datum k) root
second_half shared cells halves k c root q =
    let a = around shared cells (halves ++ half.Tail k ∷ []) halves (half.Tail k) q.datum root refl q.stands in
    record {
      datum = (a.is_half).1;
      is_next = (a.is_half).3;
      stands = in_pair (halves ++ half.Head c ∷ []) halves (half.Head c) (a.is_half).1 a.whole root refl
          ((a.is_half).0, q.datum, (a.is_half).2, q.is_next) a.stands;
    }

pub pair_made : (old new : Shared) → AddsConstants old new → (cells : List Cell) (halves : List Half) (head c made : Const) (root : Datum) (place : ℕ) → made ≡ Constant.Pair place
    → slice_get new.pairs.items place ≡ Some (head, c) → Quotes old cells (halves ++ half.Head head ∷ []) (quoting.Made c) root → Quotes new cells halves (quoting.Made made) root
pair_made old new a cells halves head c made root place e found q =
    let b = around old cells (halves ++ half.Head head ∷ []) halves (half.Head head) q.datum root refl q.stands in
    let i : IsQuoted new (cons (b.is_half).0 (b.is_half).1 q.datum) made =
    (place, (head, c), e, found, IsQuoted-Adds old new a (b.is_half).1 head (b.is_half).3, IsQuoted-Adds old new a q.datum c q.is_next) in
    record {
      datum = b.whole;
      is_next = subst (λ d. IsQuoted new d made) (sym (b.is_half).2) i;
      stands = StandsIn-Adds old new a cells halves b.whole root b.stands;
    }

pub all_made : (shared : Shared) (cells : List Cell) (halves : List Half) (c : Const) (root : Datum) → halves ≡ [] → Quotes shared cells halves (quoting.Made c) root → IsQuoted shared root c
all_made shared cells halves c root e q = by q.stands
  where
    by : StandsIn shared cells halves q.datum root → IsQuoted shared root c
    by (as_root _ _ _ f g) = subst (λ d. IsQuoted shared d c) g q.is_next
    by (in_pair _ front h _ whole _ f i st) = absurd (no_push front h (sym e ∙ f))
      where
        no_push : (xs : List Half) (x : Half) → [] ≡ xs ++ x ∷ [] → ⊥
        no_push [] x j = cc
        no_push (y ∷ xs) x j = cc

pub begun : (shared : Shared) (cells : List Cell) (halves : List Half) (key : ℕ) (d : Datum) → halves ≡ [] → Held shared.names cells key d → Quotes shared cells halves (quoting.Datum key) d
begun shared cells halves key d e h =
    record { datum = d; is_next = Held-Continues shared.names cells key d h; stands = as_root halves d d e refl }

pub none_left : {A : Type 0} (xs : List A) (n : ℕ) → n ≡ length xs → n ≡ 0 → xs ≡ []
none_left [] n e h = refl
none_left (x ∷ xs) n e h = absurd (omega arith)
