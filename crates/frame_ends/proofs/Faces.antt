-- The face of a value's word.
use Rattle.std.proofs.Common.{◌≡◌, ℕ, zero, suc, ◌+◌, ◌-◌, ◌*◌, ◌/◌, ◌%◌, ◌^◌, ◌<◌, ◌≤◌, ◌==◌, false, List, [], ◌∷◌, length, slice_get, Option, Some, is_some, option_map, negsuc, refl, sym, ap, ◌∙◌, subst, arith}
use Rattle.std.specs.Int.{w32, from_be_bytes}
use Rattle.std.proofs.lemmas.Bool.{eq-eqb, ne_eqb, lt-ltb}
use Rattle.t_base.specs.declared.faults.Face.{Face}
use Rattle.t_base.specs.declared.faults.Face.TheVariants as face
use Rattle.program_runs.specs.Runs.{Shown}
use Rattle.t_prim.specs.Values.{Val, FixV, CharV, NilV, TrueV, SymbolV, StringV, PairV, VectorV, ClosureV, ObjectV, OperationV, BuiltinV, EscapeV}
use Rattle.t_prim.specs.Values as values
use Rattle.word_faces.specs.Faces.{face_of, kind_of, count_of}
use Rattle.word_faces.specs.Faces as faces
use Rattle.word_ir.specs.declared.words.Words.{Words}
use Rattle.word_ir.specs.Names.{image_names}
use Rattle.word_ir.specs.Word.{Word, Number, byte_of, moved}
use Rattle.word_ir.specs.Storage.{Sizes, Regions, long_at, byte_at, bytes_at}
use Rattle.frame_ir.specs.States.{State}
use Rattle.frame_words.specs.Layouts.{Layout, SymbolOf}
use Rattle.frame_words.specs.ValueWords.{word_for, tag_of, header_of}
use Rattle.frame_words.specs.Contents.{Escapes}
use Rattle.frame_words.specs.Holding.{HoldsData}
use Rattle.frame_words.specs.Origins.{InStatics, IsRead}
use Rattle.frame_words.proofs.Texts.{byte_from}
use Rattle.frame_words.proofs.Values.{tag_is, header_is, fixnum_is, char_is, IsFixnumWord, IsCharWord, in_statics, fixed_word, moved_back}
use Rattle.select_rows.proofs.NumberRows.{fixnum_again}
use Rattle.frame_ends.specs.Laws.{IsListed, AreListed}

-- ---- bytes of words

bytes_follow : (read : ℕ → Option Word) (xs : List ℕ) (a : ℕ) → ((i x : ℕ) → slice_get xs i ≡ Some x → byte_at read (a + i) ≡ Some x) → bytes_at read a (length xs) ≡ Some xs
bytes_follow read [] a h = refl
bytes_follow read (x ∷ xs) a h =
    let first : byte_at read a ≡ Some x = let n : a + 0 ≡ a = omega arith in subst (λ y. byte_at read y ≡ Some x) n (h 0 x refl) in
    let rest : bytes_at read (suc a) (length xs) ≡ Some xs = bytes_follow read xs (suc a) (λ i y at. let n : a + suc i ≡ suc a + i = omega arith in subst (λ z. byte_at read z ≡ Some y) n (h (suc i) y at)) in
    rw (first, rest) refl

abbrev bytes_of : ℕ → List ℕ → List ℕ
bytes_of n rest = byte_of n 0 ∷ byte_of n 1 ∷ byte_of n 2 ∷ byte_of n 3 ∷ rest

whole_word : (n : ℕ) → n < 2 ^ 32 → from_be_bytes w32 (byte_of n 0 ∷ byte_of n 1 ∷ byte_of n 2 ∷ byte_of n 3 ∷ []) ≡ n
whole_word n lt = omega (arith, lt)

counted : (k : ℕ) → k < 2 ^ 29 → count_of (4 * k) ≡ Some k
counted k lt =
    let q : 4 * k / 4 ≡ k = omega arith in
    rw (eq-eqb (4 * k % 4) 0 (omega arith), lt-ltb (4 * k) (2 ^ 31) (omega (arith, lt)), q) refl

module _ (read : ℕ → Option Word) (at n : ℕ) (aligned : at % 4 ≡ 0) (first : read at ≡ Some (Number n)) where
  first_byte : (i : ℕ) → i < 4 → byte_at read (at + i) ≡ Some (byte_of n i)
  first_byte i lt = byte_from read (at + i) at n i first (omega (arith, aligned, lt)) (omega (arith, aligned, lt))

  four : bytes_at read at 4 ≡ Some (bytes_of n [])
  four = bytes_follow read (bytes_of n []) at by_place
    where
      by_place : (i x : ℕ) → slice_get (bytes_of n []) i ≡ Some x → byte_at read (at + i) ≡ Some x
      by_place zero x e = first_byte 0 (omega arith) ∙ e
      by_place (suc zero) x e = first_byte 1 (omega arith) ∙ e
      by_place (suc (suc zero)) x e = first_byte 2 (omega arith) ∙ e
      by_place (suc (suc (suc zero))) x e = first_byte 3 (omega arith) ∙ e
      by_place (suc (suc (suc (suc i)))) x e = absurd (cc)

  eight : (m : ℕ) → read (at + 4) ≡ Some (Number m) → bytes_at read at 8 ≡ Some (bytes_of n (bytes_of m []))
  eight m second = bytes_follow read (bytes_of n (bytes_of m [])) at by_place
    where
      second_byte : (i : ℕ) → i < 4 → byte_at read (at + (4 + i)) ≡ Some (byte_of m i)
      second_byte i lt = byte_from read (at + (4 + i)) (at + 4) m i second (omega (arith, aligned, lt)) (omega (arith, aligned, lt))

      by_place : (i x : ℕ) → slice_get (bytes_of n (bytes_of m [])) i ≡ Some x → byte_at read (at + i) ≡ Some x
      by_place zero x e = first_byte 0 (omega arith) ∙ e
      by_place (suc zero) x e = first_byte 1 (omega arith) ∙ e
      by_place (suc (suc zero)) x e = first_byte 2 (omega arith) ∙ e
      by_place (suc (suc (suc zero))) x e = first_byte 3 (omega arith) ∙ e
      by_place (suc (suc (suc (suc zero)))) x e = second_byte 0 (omega arith) ∙ e
      by_place (suc (suc (suc (suc (suc zero))))) x e = second_byte 1 (omega arith) ∙ e
      by_place (suc (suc (suc (suc (suc (suc zero)))))) x e = second_byte 2 (omega arith) ∙ e
      by_place (suc (suc (suc (suc (suc (suc (suc zero))))))) x e = second_byte 3 (omega arith) ∙ e
      by_place (suc (suc (suc (suc (suc (suc (suc (suc i)))))))) x e = absurd (cc)

-- ---- faces

pub record HasFace (read : ℕ → Option Word) (names : List (List ℕ)) (n : ℕ) (shown : Shown) : Type 0 where
  pub face : Face
  pub is : face_of (bytes_at read) names n ≡ Some face
  pub shown_is : faces.shown_of names face ≡ shown

fixnum_face : (read : ℕ → Option Word) (names : List (List ℕ)) (n : ℕ) → n % 4 ≡ 0 → face_of (bytes_at read) names n ≡ option_map face.Fix (faces.fixnum_of n)
fixnum_face read names n tag = rw (eq-eqb (n % 4) 0 tag) refl

kind_face : (read : ℕ → Option Word) (names : List (List ℕ)) (n header kind : ℕ) → n % 4 ≡ 2 → 2 ≤ n → read (n - 2) ≡ Some (Number header) → header < 2 ^ 32 → (header == 0x19) ≡ false → kind_of header ≡ Some kind → HasFace read names n (Rattle.program_runs.specs.Runs.Kind kind)
kind_face read names n header kind tag le first small other is =
    let bytes : bytes_at read (n - 2) 4 ≡ Some (bytes_of header []) = four read (n - 2) header (omega (arith, tag, le)) first in
    let whole : from_be_bytes w32 (byte_of header 0 ∷ byte_of header 1 ∷ byte_of header 2 ∷ byte_of header 3 ∷ []) ≡ header = whole_word header small in
    record {
      face = face.Kind kind;
      is = rw (ne_eqb (n % 4) 0 (λ eq. absurd (omega (arith, eq, tag))), ne_eqb (n % 4) 1 (λ eq. absurd (omega (arith, eq, tag))), eq-eqb (n % 4) 2 tag, bytes, whole, other, is) refl;
      shown_is = refl;
    }

symbol_face : (read : ℕ → Option Word) (names : List (List ℕ)) (n k : ℕ) → n % 4 ≡ 2 → 2 ≤ n → read (n - 2) ≡ Some (Number 0x19) → read (n - 2 + 4) ≡ Some (Number (4 * k)) → k < length names → length names < 536870912 → HasFace read names n (Rattle.program_runs.specs.Runs.Symbol (Rattle.std.specs.Prelude.get_or names k []))
symbol_face read names n k tag le first second inside few =
    let bytes : bytes_at read (n - 2) 4 ≡ Some (bytes_of 0x19 []) = four read (n - 2) 0x19 (omega (arith, tag, le)) first in
    let both : bytes_at read (n - 2) 8 ≡ Some (bytes_of 0x19 (bytes_of (4 * k) [])) = eight read (n - 2) 0x19 (omega (arith, tag, le)) first (4 * k) second in
    let whole : from_be_bytes w32 (byte_of (4 * k) 0 ∷ byte_of (4 * k) 1 ∷ byte_of (4 * k) 2 ∷ byte_of (4 * k) 3 ∷ []) ≡ 4 * k = whole_word (4 * k) (omega (arith, inside, few)) in
    record {
      face = face.Symbol (record { 0 = k });
      is = rw (ne_eqb (n % 4) 0 (λ eq. absurd (omega (arith, eq, tag))), ne_eqb (n % 4) 1 (λ eq. absurd (omega (arith, eq, tag))), eq-eqb (n % 4) 2 tag, bytes, both, whole, counted k (omega (arith, inside, few)), lt-ltb k (length names) inside) refl;
      shown_is = refl;
    }

module _ (words : Words) (sizes : Sizes) (l : Layout) (e : Escapes) (s : State) (storage : Regions Word) (next : ℕ) (output : List ℕ) (h : HoldsData sizes l e s storage next output) (listed : AreListed words l s) (few : length (image_names words.shared.names) < 536870912) where
  abbrev names : List (List ℕ)
  names = image_names words.shared.names

  by_header : (v : Val) (n header kind : ℕ) → word_for l s v ≡ Some n → header_of v ≡ Some header → tag_of v ≡ 2 → header < 2 ^ 32 → (header == 0x19) ≡ false → kind_of header ≡ Some kind → HasFace (long_at storage) names n (Rattle.program_runs.specs.Runs.Kind kind)
  by_header v n header kind is hd tag small other kind_is =
      let t : n % 4 ≡ 2 = tag_is l s v n is ∙ tag in
      let le : 2 ≤ n = omega (arith, t) in
      let r : IsRead storage (moved n (negsuc 1)) (Number header) = header_is sizes l e s storage next output h v n header is hd in
      let place : moved n (negsuc 1) ≡ n - 2 = moved_back n 1 (omega (arith, le)) in
      kind_face (long_at storage) names n header kind t le (sym (ap (long_at storage) place) ∙ r.reads) small other kind_is

  pub face_is : (v : Val) (n : ℕ) → word_for l s v ≡ Some n → HasFace (long_at storage) names n (values.shown_of s.store v)
  face_is (FixV x) n is =
      let w : IsFixnumWord x n = fixnum_is l s x n is in
      let tag : n % 4 ≡ 0 = tag_is l s (FixV x) n is in
      let number : faces.fixnum_of n ≡ Some x = ap faces.fixnum_of w.word ∙ fixnum_again x w.fixnum in
      record { face = face.Fix x; is = fixnum_face (long_at storage) names n tag ∙ ap (option_map face.Fix) number; shown_is = refl }
  face_is (CharV c) n is =
      let w : IsCharWord c n = char_is l s c n is in
      let place : n / 256 ≡ c = omega (arith, w.word) in
      record {
        face = face.Char c;
        is = rw (ne_eqb (n % 4) 0 (λ eq. absurd (omega (arith, eq, w.word))), eq-eqb (n % 4) 1 (omega (arith, w.word)), ne_eqb n 5 (λ eq. absurd (omega (arith, eq, w.word))), ne_eqb n 9 (λ eq. absurd (omega (arith, eq, w.word))), eq-eqb (n % 256) 1 (omega (arith, w.word)), place, lt-ltb c 128 w.ascii) refl;
        shown_is = refl;
      }
  face_is NilV n is = let same : 5 ≡ n = cc in subst (λ m. HasFace (long_at storage) names m (values.shown_of s.store NilV)) same (record { face = face.Nil; is = refl; shown_is = refl })
  face_is TrueV n is = let same : 9 ≡ n = cc in subst (λ m. HasFace (long_at storage) names m (values.shown_of s.store TrueV)) same (record { face = face.True; is = refl; shown_is = refl })
  face_is (PairV k) n is =
      let tag : n % 4 ≡ 3 = tag_is l s (PairV k) n is in
      record {
        face = face.Kind 1;
        is = rw (ne_eqb (n % 4) 0 (λ eq. absurd (omega (arith, eq, tag))), ne_eqb (n % 4) 1 (λ eq. absurd (omega (arith, eq, tag))), ne_eqb (n % 4) 2 (λ eq. absurd (omega (arith, eq, tag)))) refl;
        shown_is = refl;
      }
  face_is (SymbolV k) n is =
      let t : n % 4 ≡ 2 = tag_is l s (SymbolV k) n is in
      let le : 2 ≤ n = omega (arith, t) in
      let o : InStatics l 2 (SymbolOf k) n = in_statics l 2 (SymbolOf k) n is in
      let q : IsListed words l s k = listed k (ap is_some o.found) in
      let first : IsRead storage (n - 2 + 4 * 0) (Number 0x19) = fixed_word sizes l e s storage next output h 2 (SymbolOf k) n 0 (Number 0x19) o refl in
      let second : IsRead storage (n - 2 + 4 * 1) (Number (4 * l.listed k)) = fixed_word sizes l e s storage next output h 2 (SymbolOf k) n 1 (Number (4 * l.listed k)) o refl in
      let zero_is : n - 2 + 4 * 0 ≡ n - 2 = omega arith in
      let one_is : n - 2 + 4 * 1 ≡ n - 2 + 4 = omega arith in
      subst (HasFace (long_at storage) names n) (sym q.shown)
      (symbol_face (long_at storage) names n (l.listed k) t le (sym (ap (long_at storage) zero_is) ∙ first.reads) (sym (ap (long_at storage) one_is) ∙ second.reads) q.inside few)
  face_is (StringV k) n is = by_header (StringV k) n 0x15 3 is refl refl (omega arith) refl refl
  face_is (VectorV k) n is = by_header (VectorV k) n 0x11 2 is refl refl (omega arith) refl refl
  face_is (ClosureV k) n is = by_header (ClosureV k) n 0x1D 4 is refl refl (omega arith) refl refl
  face_is (ObjectV k) n is = by_header (ObjectV k) n 0x21 5 is refl refl (omega arith) refl refl
  face_is (OperationV k) n is = by_header (OperationV k) n 0x25 6 is refl refl (omega arith) refl refl
  face_is (BuiltinV k) n is = by_header (BuiltinV k) n 0x29 4 is refl refl (omega arith) refl refl
  face_is (EscapeV k) n is = by_header (EscapeV k) n 0x2D 4 is refl refl (omega arith) refl refl
