-- The bytes of strings in static words.
use Rattle.std.proofs.Common.{◌≡◌, ℕ, zero, suc, ◌+◌, ◌-◌, ◌*◌, ◌/◌, ◌%◌, ◌^◌, ◌<◌, List, [], ◌∷◌, ◌++◌, length, slice_get, map, Option, Some, is_some, refl, sym, ap, ◌∙◌, subst, arith}
use Rattle.std.specs.Int.{w32, from_be_bytes}
use Rattle.std.specs.List.{AllByRecursion}
use Rattle.std.proofs.lemmas.Bool.{eq-eqb, lt-ltb}
use Rattle.t_prim.specs.Values.{Text, StringV, text_of}
use Rattle.word_faces.specs.Faces.{count_of}
use Rattle.word_faces.specs.Operands.{string_of}
use Rattle.word_ir.specs.Word.{Word, Number, byte_of}
use Rattle.word_ir.specs.Storage.{Sizes, Regions, long_at, byte_at, bytes_at}
use Rattle.frame_ir.specs.States.{State}
use Rattle.frame_words.specs.Layouts.{Layout, TextOf, packed}
use Rattle.frame_words.specs.ValueWords.{word_for}
use Rattle.frame_words.specs.Contents.{Escapes}
use Rattle.frame_words.specs.Holding.{HoldsData}
use Rattle.frame_words.specs.Origins.{InStatics, IsRead, IsTextHeld}
use Rattle.frame_words.proofs.Reading.{fixed_is, fixed_within}
use Rattle.frame_words.proofs.Values.{in_statics, packed_room, fixed_word}

-- ---- four bytes a word

abbrev AreCharacters : List ℕ → Type 0
AreCharacters bytes = AllByRecursion (λ byte. byte < 128) bytes

-- the word with a byte
record IsPacked (bytes : List ℕ) (i byte : ℕ) : Type 0 where
  word : ℕ
  there : slice_get (packed bytes) (i / 4) ≡ Some word
  is : byte_of word (i % 4) ≡ byte

one_packed : (a x : ℕ) → Some a ≡ Some x → a ≡ x
one_packed a x e = cc

byte_packed : (bytes : List ℕ) (i byte : ℕ) → AreCharacters bytes → slice_get bytes i ≡ Some byte → IsPacked bytes i byte
byte_packed [] i byte all at = absurd (cc)
byte_packed (a ∷ []) zero byte all at = let e : a ≡ byte = one_packed a byte at in record { word = a * 16777216; there = refl; is = omega (arith, e) }
byte_packed (a ∷ []) (suc i) byte all at = absurd (cc)
byte_packed (a ∷ b ∷ []) zero byte all at = let e : a ≡ byte = one_packed a byte at in record { word = a * 16777216 + b * 65536; there = refl; is = omega (arith, e, all.1.0) }
byte_packed (a ∷ b ∷ []) (suc zero) byte all at = let e : b ≡ byte = one_packed b byte at in record { word = a * 16777216 + b * 65536; there = refl; is = omega (arith, e, all.1.0) }
byte_packed (a ∷ b ∷ []) (suc (suc i)) byte all at = absurd (cc)
byte_packed (a ∷ b ∷ c ∷ []) zero byte all at = let e : a ≡ byte = one_packed a byte at in record { word = a * 16777216 + b * 65536 + c * 256; there = refl; is = omega (arith, e, all.1.0, all.1.1.0) }
byte_packed (a ∷ b ∷ c ∷ []) (suc zero) byte all at = let e : b ≡ byte = one_packed b byte at in record { word = a * 16777216 + b * 65536 + c * 256; there = refl; is = omega (arith, e, all.1.0, all.1.1.0) }
byte_packed (a ∷ b ∷ c ∷ []) (suc (suc zero)) byte all at = let e : c ≡ byte = one_packed c byte at in record { word = a * 16777216 + b * 65536 + c * 256; there = refl; is = omega (arith, e, all.1.0, all.1.1.0) }
byte_packed (a ∷ b ∷ c ∷ []) (suc (suc (suc i))) byte all at = absurd (cc)
byte_packed (a ∷ b ∷ c ∷ d ∷ rest) zero byte all at = let e : a ≡ byte = one_packed a byte at in record { word = a * 16777216 + b * 65536 + c * 256 + d; there = refl; is = omega (arith, e, all.1.0, all.1.1.0, all.1.1.1.0) }
byte_packed (a ∷ b ∷ c ∷ d ∷ rest) (suc zero) byte all at = let e : b ≡ byte = one_packed b byte at in record { word = a * 16777216 + b * 65536 + c * 256 + d; there = refl; is = omega (arith, e, all.1.0, all.1.1.0, all.1.1.1.0) }
byte_packed (a ∷ b ∷ c ∷ d ∷ rest) (suc (suc zero)) byte all at = let e : c ≡ byte = one_packed c byte at in record { word = a * 16777216 + b * 65536 + c * 256 + d; there = refl; is = omega (arith, e, all.1.0, all.1.1.0, all.1.1.1.0) }
byte_packed (a ∷ b ∷ c ∷ d ∷ rest) (suc (suc (suc zero))) byte all at = let e : d ≡ byte = one_packed d byte at in record { word = a * 16777216 + b * 65536 + c * 256 + d; there = refl; is = omega (arith, e, all.1.0, all.1.1.0, all.1.1.1.0) }
byte_packed (a ∷ b ∷ c ∷ d ∷ rest) (suc (suc (suc (suc i)))) byte all at =
    let h : IsPacked rest i byte = byte_packed rest i byte all.1.1.1.1 at in
    let q : suc (suc (suc (suc i))) / 4 ≡ suc (i / 4) = omega arith in
    let r : suc (suc (suc (suc i))) % 4 ≡ i % 4 = omega arith in
    record { word = h.word; there = ap (slice_get (packed (a ∷ b ∷ c ∷ d ∷ rest))) q ∙ h.there; is = ap (byte_of h.word) r ∙ h.is }

mapped_at : (ns : List ℕ) (more : List Word) (i n : ℕ) → slice_get ns i ≡ Some n → slice_get (map Number ns ++ more) i ≡ Some (Number n)
mapped_at [] more i n at = absurd (cc)
mapped_at (m ∷ ns) more zero n at = ap (λ x. Some (Number x)) (one_packed m n at)
mapped_at (m ∷ ns) more (suc i) n at = mapped_at ns more i n at

-- ---- bytes of words

pub byte_from : (read : ℕ → Option Word) (a base word i : ℕ) → read base ≡ Some (Number word) → a / 4 * 4 ≡ base → a % 4 ≡ i → byte_at read a ≡ Some (byte_of word i)
byte_from read a base word i at place offset = rw (place, at, offset) refl

bytes_follow : (read : ℕ → Option Word) (xs : List ℕ) (a : ℕ) → ((i x : ℕ) → slice_get xs i ≡ Some x → byte_at read (a + i) ≡ Some x) → bytes_at read a (length xs) ≡ Some xs
bytes_follow read [] a h = refl
bytes_follow read (x ∷ xs) a h =
    let first : byte_at read a ≡ Some x = let n : a + 0 ≡ a = omega arith in subst (λ y. byte_at read y ≡ Some x) n (h 0 x refl) in
    let rest : bytes_at read (suc a) (length xs) ≡ Some xs = bytes_follow read xs (suc a) (λ i y at. let n : a + suc i ≡ suc a + i = omega arith in subst (λ z. byte_at read z ≡ Some y) n (h (suc i) y at)) in
    rw (first, rest) refl

-- ---- a string's header, length and bytes

abbrev header_bytes : ℕ → List ℕ → List ℕ
header_bytes m bytes = 0 ∷ 0 ∷ 0 ∷ 21 ∷ byte_of m 0 ∷ byte_of m 1 ∷ byte_of m 2 ∷ byte_of m 3 ∷ bytes

four_bytes : (m : ℕ) → m < 2 ^ 32 → from_be_bytes w32 (byte_of m 0 ∷ byte_of m 1 ∷ byte_of m 2 ∷ byte_of m 3 ∷ []) ≡ m
four_bytes m lt = omega (arith, lt)

counted : (k : ℕ) → k < 2 ^ 29 → count_of (4 * k) ≡ Some k
counted k lt =
    let q : 4 * k / 4 ≡ k = omega arith in
    rw (eq-eqb (4 * k % 4) 0 (omega arith), lt-ltb (4 * k) (2 ^ 31) (omega (arith, lt)), q) refl

module _ (read : ℕ → Option Word) (at : ℕ) (bytes : List ℕ) (aligned : at % 4 ≡ 0) (short : length bytes < 2 ^ 29)
    (header : read at ≡ Some (Number 21)) (size : read (at + 4) ≡ Some (Number (4 * length bytes)))
    (items : (i x : ℕ) → slice_get bytes i ≡ Some x → byte_at read (at + (8 + i)) ≡ Some x) where
  header_at : (i : ℕ) → i < 4 → byte_at read (at + i) ≡ Some (byte_of 21 i)
  header_at i lt = byte_from read (at + i) at 21 i header (omega (arith, aligned, lt)) (omega (arith, aligned, lt))

  size_at : (i : ℕ) → i < 4 → byte_at read (at + (4 + i)) ≡ Some (byte_of (4 * length bytes) i)
  size_at i lt = byte_from read (at + (4 + i)) (at + 4) (4 * length bytes) i size (omega (arith, aligned, lt)) (omega (arith, aligned, lt))

  each_at : (more : List ℕ) → ((i x : ℕ) → slice_get more i ≡ Some x → byte_at read (at + (8 + i)) ≡ Some x) → (i x : ℕ) → slice_get (header_bytes (4 * length bytes) more) i ≡ Some x → byte_at read (at + i) ≡ Some x
  each_at more h zero x e = header_at 0 (omega arith) ∙ e
  each_at more h (suc zero) x e = header_at 1 (omega arith) ∙ e
  each_at more h (suc (suc zero)) x e = header_at 2 (omega arith) ∙ e
  each_at more h (suc (suc (suc zero))) x e = header_at 3 (omega arith) ∙ e
  each_at more h (suc (suc (suc (suc zero)))) x e = size_at 0 (omega arith) ∙ e
  each_at more h (suc (suc (suc (suc (suc zero))))) x e = size_at 1 (omega arith) ∙ e
  each_at more h (suc (suc (suc (suc (suc (suc zero)))))) x e = size_at 2 (omega arith) ∙ e
  each_at more h (suc (suc (suc (suc (suc (suc (suc zero))))))) x e = size_at 3 (omega arith) ∙ e
  each_at more h (suc (suc (suc (suc (suc (suc (suc (suc i)))))))) x e =
      let n : 8 + i ≡ suc (suc (suc (suc (suc (suc (suc (suc i))))))) = omega arith in
      subst (λ m. byte_at read (at + m) ≡ Some x) n (h i x e)

  eight : bytes_at read at 8 ≡ Some (header_bytes (4 * length bytes) [])
  eight = bytes_follow read (header_bytes (4 * length bytes) []) at (each_at [] (λ i x e. absurd (cc)))

  all_bytes : bytes_at read at (8 + length bytes) ≡ Some (header_bytes (4 * length bytes) bytes)
  all_bytes =
      let n : suc (suc (suc (suc (suc (suc (suc (suc (length bytes)))))))) ≡ 8 + length bytes = omega arith in
      subst (λ m. bytes_at read at m ≡ Some (header_bytes (4 * length bytes) bytes)) n (bytes_follow read (header_bytes (4 * length bytes) bytes) at (each_at bytes items))

  pub text_whole : (n : ℕ) → n ≡ at + 2 → string_of (bytes_at read) n ≡ Some bytes
  text_whole n is =
      let tag : n % 4 ≡ 2 = omega (arith, is, aligned) in
      let place : n - 2 ≡ at = omega (arith, is) in
      let count : count_of (from_be_bytes w32 (byte_of (4 * length bytes) 0 ∷ byte_of (4 * length bytes) 1 ∷ byte_of (4 * length bytes) 2 ∷ byte_of (4 * length bytes) 3 ∷ [])) ≡ Some (length bytes) =
      ap count_of (four_bytes (4 * length bytes) (omega (arith, short))) ∙ counted (length bytes) short in
      rw (eq-eqb (n % 4) 2 tag, place, eight, count, all_bytes) refl

-- ---- the whole

module _ (sizes : Sizes) (l : Layout) (e : Escapes) (s : State) (storage : Regions Word) (next : ℕ) (output : List ℕ) (h : HoldsData sizes l e s storage next output) where
  held_by : (t : Text) (n : ℕ) → InStatics l 2 (TextOf t) n → IsTextHeld storage (l.bytes t) n
  held_by t n o =
      let all : AreCharacters (l.bytes t) = h.laid_out.characters t (ap is_some o.found) in
      let room = packed_room (l.bytes t) in
      let le = fixed_within sizes l e s storage next output h (TextOf t) o.place o.found in
      let header : IsRead storage (n - 2 + 4 * 0) (Number 21) = fixed_word sizes l e s storage next output h 2 (TextOf t) n 0 (Number 21) o refl in
      let size : IsRead storage (n - 2 + 4 * 1) (Number (4 * length (l.bytes t))) = fixed_word sizes l e s storage next output h 2 (TextOf t) n 1 (Number (4 * length (l.bytes t))) o refl in
      let item : (i x : ℕ) → slice_get (l.bytes t) i ≡ Some x → byte_at (long_at storage) (n + i + 6) ≡ Some x = λ i x at.
      let p : IsPacked (l.bytes t) i x = byte_packed (l.bytes t) i x all at in
      let word : IsRead storage (n - 2 + 4 * suc (suc (i / 4))) (Number p.word) = fixed_word sizes l e s storage next output h 2 (TextOf t) n (suc (suc (i / 4))) (Number p.word) o (mapped_at (packed (l.bytes t)) _ (i / 4) p.word p.there) in
      byte_from (long_at storage) (n + i + 6) (n - 2 + 4 * suc (suc (i / 4))) p.word (i % 4) word.reads (omega (arith, o.word)) (omega (arith, o.word)) ∙ ap Some p.is in
      let first : n - 2 + 4 * 0 ≡ n - 2 = omega arith in
      let second : n - 2 + 4 * 1 ≡ n - 2 + 4 = omega arith in
      record {
        characters = all;
        byte_read = item;
        outside = λ i lt. omega (arith, o.word, le, room, lt);
        whole = text_whole (long_at storage) (n - 2) (l.bytes t) (omega (arith, o.word)) (omega (arith, le, room))
            (ap (long_at storage) (sym first) ∙ header.reads) (ap (long_at storage) (sym second) ∙ size.reads)
            (λ i x at. let a : n + i + 6 ≡ n - 2 + (8 + i) = omega (arith, o.word) in subst (λ y. byte_at (long_at storage) y ≡ Some x) a (item i x at))
            n (omega (arith, o.word));
      }

  same_bytes : (t : Text) (bytes : List ℕ) (o : Option (List ℕ)) → o ≡ Some (l.bytes t) → o ≡ Some bytes → l.bytes t ≡ bytes
  same_bytes t bytes o p q = cc

  pub text_held : (t : Text) (n : ℕ) (bytes : List ℕ) → word_for l s (StringV t) ≡ Some n → text_of s.store t ≡ Some bytes → IsTextHeld storage bytes n
  text_held t n bytes w there =
      let o = in_statics l 2 (TextOf t) n w in
      let m : text_of s.store t ≡ Some (l.bytes t) = fixed_is sizes l e s storage next output h (TextOf t) o.place o.found in
      subst (λ xs. IsTextHeld storage xs n) (same_bytes t bytes (text_of s.store t) m there) (held_by t n o)
