-- Each node stays named once, and each datum in range.
use Rattle.std.proofs.Common.{◌≡◌, ◌≢◌, ℕ, zero, suc, ◌+◌, ◌-◌, ◌<◌, ◌≤◌, Bool, true, false, cond, List, [], ◌∷◌, ◌++◌, length, take, map, Option, Some, None, refl, sym, ap, subst, ◌∙◌, arith, AllPairs, ◌&&◌}
use Rattle.std.proofs.lemmas.Bool.Decides.{nat_tests}
use Rattle.std.specs.Prelude.{slice_get, ◌==◌, nat_le}
use Rattle.std.specs.List.{flat_map, list_all, list_any}
use Rattle.std.specs.Str.{bytes_eq}
use Rattle.std.specs.Char.{to_ascii_lowercase}
use Rattle.std.proofs.lemmas.List.{length-append, length-take, take_more, take_all}
use Rattle.std.proofs.lemmas.Option.{slice_get_within, get_or_from_slice_get}
use Rattle.std.proofs.lemmas.List.Sums.{sum_by-append}
use Rattle.std.proofs.lemmas.List.Folds.{list_all-append}
use Rattle.std.proofs.lemmas.Grind.{flat_map-append}
use Rattle.t_base.specs.Texts.{with_text}
use Rattle.t_base.specs.declared.basics.Span.{Span}
use Rattle.t_reader.specs.declared.build.Build.{Build}
use Rattle.t_reader.specs.declared.build.Frame.{Frame}
use Rattle.t_reader.specs.declared.build.Frame.TheVariants as frame
use Rattle.t_reader.specs.declared.build.Tail.TheVariants as tails
use Rattle.t_reader.specs.declared.unit.Datum.{Datum}
use Rattle.t_reader.specs.declared.unit.Datum.TheVariants as data_
use Rattle.t_reader.specs.declared.unit.Node.{Node}
use Rattle.t_reader.specs.declared.token.Atom.{Atom}
use Rattle.t_reader.specs.declared.token.Atom.TheVariants as atoms
use Rattle.t_reader.specs.Tokens.{is_name, are_ascii, IsLexeme}
use Rattle.t_reader.specs.Grammar.{symbol, atom_value, unescaped, inner}
use Rattle.t_reader.specs.Unit.{IsValue, node, IsWholeDatum, children, named_by, count_of}
use Rattle.t_reader.specs.Build.{AddsNode, KeepsNodes, IsWell, word_of, present, last_frame, ended, tail_ended, names_with}

-- ---- how often a place is named

count-append : (k : ℕ) (xs ys : List ℕ) → count_of k (xs ++ ys) ≡ count_of k xs + count_of k ys
count-append k xs ys = sum_by-append (λ j. cond (j == k) 1 0) xs ys

count-cons : (k x : ℕ) (xs : List ℕ) → count_of k (x ∷ xs) ≡ count_of k (x ∷ []) + count_of k xs
count-cons k x xs = count-append k (x ∷ []) xs

abbrev pub words_of : List Frame → List ℕ
words_of frames = flat_map word_of frames

words-push : (k : ℕ) (fs : List Frame) (f : Frame) → count_of k (words_of (fs ++ f ∷ [])) ≡ count_of k (words_of fs) + count_of k (words_of (f ∷ []))
words-push k fs f = ap (count_of k) (flat_map-append word_of fs (f ∷ [])) ∙ count-append k (words_of fs) (words_of (f ∷ []))

named-push : (k : ℕ) (ns : List Node) (n : Node) → count_of k (named_by (ns ++ n ∷ [])) ≡ count_of k (named_by ns) + count_of k (named_by (n ∷ []))
named-push k ns n = ap (count_of k) (flat_map-append (λ m. children m.datum) ns (n ∷ [])) ∙ count-append k (named_by ns) (named_by (n ∷ []))

named-one : (k : ℕ) (d : Datum) (s : Span) → count_of k (named_by (node s d ∷ [])) ≡ count_of k (children d)
named-one k d s = count-append k (children d) [] ∙ plain (count_of k (children d))
  where
    plain : (n : ℕ) → n + 0 ≡ n
    plain n = omega arith

present-suc : (k n : ℕ) → present k (n + 1) ≡ count_of k (n ∷ []) + present k n
present-suc k n = grind (arith, nat_tests)

present-one : (k n : ℕ) → 0 < present k n → k < n
present-one k n h = grind (arith, nat_tests)

self_once : (k : ℕ) → count_of k (k ∷ []) ≡ 1
self_once k = grind (arith, nat_tests)

-- a place in hand is the place of a node
pub in_hand : (k : ℕ) (hand : List ℕ) (b : Build) → IsWell hand b → 0 < count_of k hand → k < length b.nodes.items
in_hand k hand b w h = present-one k (length b.nodes.items) (omega (arith, w.once k))

pub first_in_hand : (x : ℕ) (hand : List ℕ) (b : Build) → IsWell (x ∷ hand) b → x < length b.nodes.items
first_in_hand x hand b w = in_hand x (x ∷ hand) b w (omega (arith, count-cons x x hand, self_once x))

-- ---- what moves between hand, items and frames

pub moves : (hand hand' : List ℕ) (old new : Build) → new.names ≡ old.names → new.nodes.items ≡ old.nodes.items
    → ((k : ℕ) → count_of k hand' + (count_of k new.items.items + count_of k (words_of new.frames.items)) ≡ count_of k hand + (count_of k old.items.items + count_of k (words_of old.frames.items)))
    → IsWell hand old → IsWell hand' new
moves hand hand' old new names nodes same w =
    record {
      once = λ k. rw nodes (omega (arith, same k, w.once k));
      data_whole = rw (names, nodes) w.data_whole;
      names_whole = rw names w.names_whole;
      names_distinct = rw names w.names_distinct;
    }

-- the node in hand becomes an item
pub puts_item : (hand : List ℕ) (x : ℕ) (old new : Build) → new.names ≡ old.names → new.nodes.items ≡ old.nodes.items → new.items.items ≡ old.items.items ++ x ∷ [] → new.frames.items ≡ old.frames.items
    → IsWell (x ∷ hand) old → IsWell hand new
puts_item hand x old new names nodes items frames w =
    moves (x ∷ hand) hand old new names nodes (λ k. rw (items, frames) (omega (arith, count-append k old.items.items (x ∷ []), count-cons k x hand))) w

-- the last item is taken in hand
pub takes_item : (hand : List ℕ) (x : ℕ) (old new : Build) → new.names ≡ old.names → new.nodes.items ≡ old.nodes.items → old.items.items ≡ new.items.items ++ x ∷ [] → new.frames.items ≡ old.frames.items
    → IsWell hand old → IsWell (x ∷ hand) new
takes_item hand x old new names nodes items frames w =
    moves hand (x ∷ hand) old new names nodes (λ k. rw (items, frames) (omega (arith, count-append k new.items.items (x ∷ []), count-cons k x hand))) w

-- a frame is added, whose word was in hand
pub puts_frame : (hand : List ℕ) (f : Frame) (old new : Build) → new.names ≡ old.names → new.nodes.items ≡ old.nodes.items → new.items.items ≡ old.items.items → new.frames.items ≡ old.frames.items ++ f ∷ []
    → IsWell (words_of (f ∷ []) ++ hand) old → IsWell hand new
puts_frame hand f old new names nodes items frames w =
    moves (words_of (f ∷ []) ++ hand) hand old new names nodes (λ k. rw (items, frames) (omega (arith, words-push k old.frames.items f, count-append k (words_of (f ∷ [])) hand))) w

-- the last frame is taken, its word in hand
pub takes_frame : (hand : List ℕ) (f : Frame) (old new : Build) → new.names ≡ old.names → new.nodes.items ≡ old.nodes.items → new.items.items ≡ old.items.items → old.frames.items ≡ new.frames.items ++ f ∷ []
    → IsWell hand old → IsWell (words_of (f ∷ []) ++ hand) new
takes_frame hand f old new names nodes items frames w =
    moves hand (words_of (f ∷ []) ++ hand) old new names nodes (λ k. rw (items, frames) (omega (arith, words-push k new.frames.items f, count-append k (words_of (f ∷ [])) hand))) w

pub same_well : (hand : List ℕ) (old new : Build) → new.names ≡ old.names → new.nodes.items ≡ old.nodes.items → new.items.items ≡ old.items.items → new.frames.items ≡ old.frames.items → IsWell hand old → IsWell hand new
same_well hand old new names nodes items frames w = moves hand hand old new names nodes (λ k. rw (items, frames) refl) w

pub swaps : (x y : ℕ) (b : Build) → IsWell (x ∷ y ∷ []) b → IsWell (y ∷ x ∷ []) b
swaps x y b w = moves (x ∷ y ∷ []) (y ∷ x ∷ []) b b refl refl (λ k. omega (arith, count-cons k x (y ∷ []), count-cons k y (x ∷ []))) w

-- ---- what is added

WholeDatum-more : (names names' : List (List ℕ)) (k : ℕ) → length names ≤ length names' → (d : Datum) → IsWholeDatum names k d → IsWholeDatum names' k d
WholeDatum-more names names' k l (data_.Fix z) h = h
WholeDatum-more names names' k l (data_.Char c) h = h
WholeDatum-more names names' k l data_.Nil h = h
WholeDatum-more names names' k l data_.True h = h
WholeDatum-more names names' k l (data_.Str bytes) h = h
WholeDatum-more names names' k l (data_.Sym n) h = omega arith
WholeDatum-more names names' k l (data_.Pair x y) h = h

-- what holds of the elements of a list and of one more
pushed : {A : Type 0} (P : ℕ → A → Type 0) (xs : List A) (x : A) → ((k : ℕ) (y : A) → slice_get xs k ≡ Some y → P k y) → P (length xs) x → (k : ℕ) (y : A) → slice_get (xs ++ x ∷ []) k ≡ Some y → P k y
pushed {A} P [] x h last zero y e = let same : x ≡ y = cc in let Q : A → Type 0 = λ v. P 0 v in subst Q same last
pushed P [] x h last (suc k) y e = absurd (none_some y e)
  where
    none_some : {B : Type 0} (z : B) → None ≡ Some z → ⊥
    none_some z f = cc
pushed P (z ∷ xs) x h last zero y e = h zero y e
pushed P (z ∷ xs) x h last (suc k) y e = pushed (λ j v. P (suc j) v) xs x (λ j v f. h (suc j) v f) last k y e

-- a node is added, and is in hand with its place
pub adds : (hand : List ℕ) (old new : Build) (key : ℕ) (s : Span) (d : Datum) → AddsNode old new key s d → IsWholeDatum old.names (length old.nodes.items) d → IsWell (children d ++ hand) old → IsWell (key ∷ hand) new
adds hand old new key s d a whole w =
    record {
      once = λ k.
          rw (a.nodes_are, a.place, a.rest_same.items_same, a.rest_same.frames_same)
          (omega (arith, w.once k, count-append k (children d) hand, count-cons k (length old.nodes.items) hand, named-push k old.nodes.items (node s d), named-one k d s, present-suc k (length old.nodes.items), ap (present k) (length-append old.nodes.items (node s d ∷ []))));
      data_whole = rw (a.nodes_are, a.rest_same.names_same) (pushed (λ k n. IsWholeDatum old.names k n.datum) old.nodes.items (node s d) w.data_whole whole);
      names_whole = rw a.rest_same.names_same w.names_whole;
      names_distinct = rw a.rest_same.names_same w.names_distinct;
    }

length-with_text : (names : List (List ℕ)) (t : List ℕ) → length names ≤ length (with_text names t)
length-with_text names t =
    let P : Bool → Type 0 = λ b. length names ≤ length (cond b names (names ++ t ∷ [])) in
    elim (list_any (bytes_eq t) names) as P [ true ↦ omega arith | false ↦ omega (arith, length-append names (t ∷ [])) ]

all-with_text : (names : List (List ℕ)) (t : List ℕ) → list_all is_name names ≡ true → is_name t ≡ true → list_all is_name (with_text names t) ≡ true
all-with_text names t h n =
    let P : Bool → Type 0 = λ b. list_all is_name (cond b names (names ++ t ∷ [])) ≡ true in
    elim (list_any (bytes_eq t) names) as P [ true ↦ h | false ↦ list_all-append is_name names (t ∷ []) ∙ rw (h, n) refl ]

-- a name is put
pub puts_name : (hand : List ℕ) (old new : Build) (t : List ℕ) → KeepsNodes old new → new.names ≡ with_text old.names t → is_name t ≡ true → AllPairs (λ x y. x ≢ y) new.names → IsWell hand old → IsWell hand new
puts_name hand old new t same names n apart w =
    record {
      once = rw (same.nodes_same, same.items_same, same.frames_same) w.once;
      data_whole = rw (names, same.nodes_same) (λ k x e. WholeDatum-more old.names (with_text old.names t) k (length-with_text old.names t) x.datum (w.data_whole k x e));
      names_whole = rw names (all-with_text old.names t w.names_whole n);
      names_distinct = apart;
    }

-- the pair of two nodes in hand
pub adds_pair : (hand : List ℕ) (old new : Build) (key : ℕ) (s : Span) (x y : ℕ) → AddsNode old new key s (data_.Pair x y) → IsWell (x ∷ y ∷ hand) old → IsWell (key ∷ hand) new
adds_pair hand old new key s x y a w =
    let second : 0 < count_of y (x ∷ y ∷ hand) = omega (arith, count-cons y x (y ∷ hand), count-cons y y hand, self_once y) in
    adds hand old new key s (data_.Pair x y) a (first_in_hand x (y ∷ hand) old w, in_hand y (x ∷ y ∷ hand) old w second) w

-- the three nodes of (w t)
pub quotes : (b0 b1 b2 b3 : Build) (k1 k2 k3 word node_ : ℕ) (s : Span) → AddsNode b0 b1 k1 s data_.Nil → AddsNode b1 b2 k2 s (data_.Pair node_ k1) → AddsNode b2 b3 k3 s (data_.Pair word k2)
    → IsWell (word ∷ node_ ∷ []) b0 → IsWell (k3 ∷ []) b3
quotes b0 b1 b2 b3 k1 k2 k3 word node_ s a b c w =
    let one : IsWell (k1 ∷ word ∷ node_ ∷ []) b1 = adds (word ∷ node_ ∷ []) b0 b1 k1 s data_.Nil a tt w in
    let turned : IsWell (node_ ∷ k1 ∷ word ∷ []) b1 =
    moves (k1 ∷ word ∷ node_ ∷ []) (node_ ∷ k1 ∷ word ∷ []) b1 b1 refl refl
    (λ k. omega (arith, count-cons k k1 (word ∷ node_ ∷ []), count-cons k word (node_ ∷ []), count-cons k node_ (k1 ∷ word ∷ []), count-cons k k1 (word ∷ []))) one in
    adds_pair [] b2 b3 k3 s word k2 c (swaps k2 word b2 (adds_pair (word ∷ []) b1 b2 k2 s node_ k1 b turned))

-- ---- frames

-- a list without its last element
pub popped : (fs front : List Frame) (n : ℕ) (f : Frame) → front ≡ take (n - 1) fs → n ≡ length fs → last_frame fs ≡ Some f → fs ≡ front ++ f ∷ []
popped fs front n f rest_ len last =
    let within : length fs - 1 < length fs = slice_get_within fs (length fs - 1) f last in
    let whole : take (length fs - 1 + 1) fs ≡ fs = take_all (length fs - 1 + 1) fs (omega arith) in
    sym whole ∙ take_more fs (length fs - 1) f within ∙ ap (λ (x : Frame). take (length fs - 1) fs ++ x ∷ []) (get_or_from_slice_get fs (length fs - 1) f f last) ∙ ap (λ (xs : List Frame). xs ++ f ∷ []) (sym (rest_ ∙ ap (λ m. take (m - 1) fs) len))

ended_words : (k : ℕ) (fs : List Frame) (o : Option Frame) → last_frame fs ≡ o → count_of k (words_of (ended o fs)) ≡ count_of k (words_of fs)
ended_words k fs None e = refl
ended_words k fs (Some (frame.Quote m w)) e = refl
ended_words k fs (Some (frame.List o n tails.Nothing)) e = refl
ended_words k fs (Some (frame.List o n tails.Datum)) e = refl
ended_words k fs (Some (frame.List o n tails.Dot)) e =
    let parts : fs ≡ take (length fs - 1) fs ++ frame.List o n tails.Dot ∷ [] = popped fs (take (length fs - 1) fs) (length fs) (frame.List o n tails.Dot) refl refl e in
    words-push k (take (length fs - 1) fs) (frame.List o n tails.Datum) ∙ sym (ap (λ (xs : List Frame). count_of k (words_of xs)) parts ∙ words-push k (take (length fs - 1) fs) (frame.List o n tails.Dot))

-- the datum behind a dot has come, and no word with it
pub ends_tail : (hand : List ℕ) (old new : Build) → new.names ≡ old.names → new.nodes.items ≡ old.nodes.items → new.items.items ≡ old.items.items → new.frames.items ≡ tail_ended old.frames.items → IsWell hand old → IsWell hand new
ends_tail hand old new names nodes items frames w =
    moves hand hand old new names nodes (λ k. rw (items, frames) (omega (arith, ended_words k old.frames.items (last_frame old.frames.items) refl))) w

-- ---- atoms

-- a node that names no other
pub adds_leaf : (hand : List ℕ) (old new : Build) (key : ℕ) (s : Span) (d : Datum) → AddsNode old new key s d → IsWholeDatum old.names (length old.nodes.items) d → children d ≡ [] → IsWell hand old → IsWell (key ∷ hand) new
adds_leaf hand old new key s d a whole none w =
    let P : List ℕ → Type 0 = λ cs. IsWell (cs ++ hand) old in
    adds hand old new key s d a whole (subst P (sym none) w)

pick : (P : List ℕ → Type 0) (c : Bool) {x y : List ℕ} → P x → P y → P (cond c x y)
pick P true p q = p
pick P false p q = q

second : (a b : Bool) → (a && b) ≡ true → b ≡ true
second true b h = h
second false b h = cc

both : (a b c : Bool) → (a && b) ≡ true → (b ≡ true → c ≡ true) → (a && c) ≡ true
both true b c h f = f h
both false b c h f = cc

unescaped-ascii : (escaped : Bool) (bs : List ℕ) → are_ascii bs ≡ true → are_ascii (unescaped escaped bs) ≡ true
unescaped-ascii true [] h = refl
unescaped-ascii false [] h = refl
unescaped-ascii true (b ∷ bs) h = both (nat_le b 127) (are_ascii bs) (are_ascii (unescaped false bs)) h (unescaped-ascii false bs)
unescaped-ascii false (b ∷ bs) h =
    let P : List ℕ → Type 0 = λ l. are_ascii l ≡ true in
    pick P (b == 92) (unescaped-ascii true bs (second (nat_le b 127) (are_ascii bs) h)) (both (nat_le b 127) (are_ascii bs) (are_ascii (unescaped false bs)) h (unescaped-ascii false bs))

take-ascii : (n : ℕ) (bs : List ℕ) → are_ascii bs ≡ true → are_ascii (take n bs) ≡ true
take-ascii zero bs h = refl
take-ascii (suc n) [] h = refl
take-ascii (suc n) (b ∷ bs) h = both (nat_le b 127) (are_ascii bs) (are_ascii (take n bs)) h (take-ascii n bs)

inner-ascii : (bs : List ℕ) → are_ascii bs ≡ true → are_ascii (inner bs) ≡ true
inner-ascii [] h = refl
inner-ascii (b ∷ bs) h = take-ascii (length bs - 1) bs (second (nat_le b 127) (are_ascii bs) h)

unescaped-le : (escaped : Bool) (bs : List ℕ) → length (unescaped escaped bs) ≤ length bs
unescaped-le true [] = omega arith
unescaped-le false [] = omega arith
unescaped-le true (b ∷ bs) = let h : length (unescaped false bs) ≤ length bs = unescaped-le false bs in omega arith
unescaped-le false (b ∷ bs) =
    let P : List ℕ → Type 0 = λ l. length l ≤ suc (length bs) in
    let plain : length (unescaped false bs) ≤ length bs = unescaped-le false bs in
    let behind : length (unescaped true bs) ≤ length bs = unescaped-le true bs in
    pick P (b == 92) (omega arith) (omega arith)

inner-le : (bs : List ℕ) → length (inner bs) ≤ length bs
inner-le [] = omega arith
inner-le (b ∷ bs) = omega (arith, length-take (length bs - 1) bs)

-- a string has no more bytes than its token
pub string-le : (bs : List ℕ) → length (unescaped false (inner bs)) ≤ length bs
string-le bs = omega (arith, unescaped-le false (inner bs), inner-le bs)

pub symbol_whole : (names : List (List ℕ)) (key : ℕ) (bytes : List ℕ) (d : Datum) → IsValue names d (symbol bytes) → IsWholeDatum names key d
symbol_whole names key bytes d v =
    let P : Datum → Type 0 = λ e. IsWholeDatum names key e in
    subst P (sym v.1) (slice_get_within names v.0.0 bytes v.2)

pub symbol_leaf : (names : List (List ℕ)) (bytes : List ℕ) (d : Datum) → IsValue names d (symbol bytes) → children d ≡ []
symbol_leaf names bytes d v = ap children v.1

pub atom_whole : (names : List (List ℕ)) (key : ℕ) (a : Atom) (bytes : List ℕ) (d : Datum) → IsValue names d (atom_value bytes a) → IsLexeme a bytes → IsWholeDatum names key d
atom_whole names key (atoms.Fix z) bytes d v h = let P : Datum → Type 0 = λ e. IsWholeDatum names key e in subst P (sym v) h
atom_whole names key (atoms.Char c) bytes d v h = let P : Datum → Type 0 = λ e. IsWholeDatum names key e in subst P (sym v) h
atom_whole names key atoms.Nil bytes d v h = let P : Datum → Type 0 = λ e. IsWholeDatum names key e in subst P (sym v) tt
atom_whole names key atoms.True bytes d v h = let P : Datum → Type 0 = λ e. IsWholeDatum names key e in subst P (sym v) tt
atom_whole names key atoms.Str bytes d v h = let P : Datum → Type 0 = λ e. IsWholeDatum names key e in subst P (sym v) (unescaped-ascii false (inner bytes) (inner-ascii bytes h))
atom_whole names key atoms.Sym bytes d v h = symbol_whole names key (map to_ascii_lowercase bytes) d v

pub atom_leaf : (names : List (List ℕ)) (a : Atom) (bytes : List ℕ) (d : Datum) → IsValue names d (atom_value bytes a) → children d ≡ []
atom_leaf names (atoms.Fix z) bytes d v = ap children v
atom_leaf names (atoms.Char c) bytes d v = ap children v
atom_leaf names atoms.Nil bytes d v = ap children v
atom_leaf names atoms.True bytes d v = ap children v
atom_leaf names atoms.Str bytes d v = ap children v
atom_leaf names atoms.Sym bytes d v = ap children v.1

-- the name of an atom is put
pub atom_named : (hand : List ℕ) (old new : Build) (a : Atom) (bytes : List ℕ) → KeepsNodes old new → new.names ≡ names_with old.names a bytes → IsLexeme a bytes → AllPairs (λ x y. x ≢ y) new.names → IsWell hand old → IsWell hand new
atom_named hand old new (atoms.Fix z) bytes s n h d w = same_well hand old new n s.nodes_same s.items_same s.frames_same w
atom_named hand old new (atoms.Char c) bytes s n h d w = same_well hand old new n s.nodes_same s.items_same s.frames_same w
atom_named hand old new atoms.Nil bytes s n h d w = same_well hand old new n s.nodes_same s.items_same s.frames_same w
atom_named hand old new atoms.True bytes s n h d w = same_well hand old new n s.nodes_same s.items_same s.frames_same w
atom_named hand old new atoms.Str bytes s n h d w = same_well hand old new n s.nodes_same s.items_same s.frames_same w
atom_named hand old new atoms.Sym bytes s n h d w = puts_name hand old new (map to_ascii_lowercase bytes) s n h d w
