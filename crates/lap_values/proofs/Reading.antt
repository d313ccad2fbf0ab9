-- What the words read, services read of the machine.
use Rattle.std.proofs.Common.{◌≡◌, ℕ, suc, ◌+◌, ◌-◌, ◌*◌, ◌/◌, ◌%◌, ◌^◌, ◌<◌, ◌≤◌, ◌==◌, List, [], ◌∷◌, drop, Option, Some, None, refl, ap, sym, subst, ◌∙◌, arith}
use Rattle.std.specs.Prelude.{option_map, option_and_then}
use Rattle.std.proofs.lemmas.Bool.{lt-ltb, le-ltb}
use Rattle.std.proofs.lemmas.Option.{slice_get_within}
use Rattle.t_base.specs.declared.faults.Face.TheVariants as face
use Rattle.word_faces.specs.Faces.{Reader, word_in, fixnum_of, count_of, immediate_face, kind_of, name_at, symbol_face, object_face, extended_face, face_of}
use Rattle.word_faces.specs.Operands.{text_at, string_at, string_of}
use Rattle.word_faces.specs.Laws.{Alike}
use Rattle.word_faces.proofs.Alike.{alike_same, alike_if, alike_map, alike_then}
use Rattle.word_ir.specs.Word.{Word, Number, Code, number_of, byte_of}
use Rattle.word_ir.specs.Storage.{byte_at as word_byte, bytes_at as word_bytes, followed_by, place_from}
use Rattle.word_ir.specs.State.{Setting, State as WordState, word_at}
use Rattle.word_ir.specs.Effects.{reader}
use Rattle.word_ir.specs.Ranges.{IsInPlace}
use Rattle.m68020_step.specs.declared.storage.TheConstants.{STATICS_START, HEAP_START, STACK_START}
use Rattle.m68020_step.specs.Ranges.{HasBytes}
use Rattle.m68020_step.specs.Step.{State}
use Rattle.m68020_step.specs.Storage.{bytes_at, byte_at}
use Rattle.machine_services.specs.Services.{reader_of}
use Rattle.lap_runs.specs.Represents.{Represents}
use Rattle.lap_paths.specs.Housed.{IsHoused}
use Rattle.lap_paths.proofs.WordStorage.{Stands as StandsIn, InStatics, InHeap, InStack, stands, visible}
use Rattle.lap_lines.proofs.Bytes.{byte_there}
use Rattle.lap_values.proofs.Regions.{Within, one_within, within_there, all_within}

-- ---- what the services have wherever no fewer than one byte is read alike

-- what the first reads, the second reads, but for no bytes at all
abbrev pub ReadsBytes : Reader → Reader → Type 0
ReadsBytes a b = (at len : ℕ) → Alike (a at (suc len)) (b at (suc len))

symbol_alike : (a b : Reader) → ReadsBytes a b → (names : List (List ℕ)) (at : ℕ) → Alike (symbol_face a names at) (symbol_face b names at)
symbol_alike a b h names at =
    alike_map face.Symbol _ _ (alike_then _ _ _ _ (λ place. alike_same (name_at names place)) (alike_then _ _ _ _ (λ bytes. alike_same (count_of (word_in 4 bytes))) (h at 7)))

object_alike : (a b : Reader) → ReadsBytes a b → (names : List (List ℕ)) (at header : ℕ) → Alike (object_face a names at header) (object_face b names at header)
object_alike a b h names at header = alike_if (header == 0x19) _ _ _ _ (symbol_alike a b h names at) (alike_same (option_map face.Kind (kind_of header)))

extended_alike : (a b : Reader) → ReadsBytes a b → (names : List (List ℕ)) (at : ℕ) → Alike (extended_face a names at) (extended_face b names at)
extended_alike a b h names at = alike_then _ _ _ _ (λ bytes. object_alike a b h names at (word_in 0 bytes)) (h at 3)

pub faces_alike : (a b : Reader) → ReadsBytes a b → (names : List (List ℕ)) (word : ℕ) → Alike (face_of a names word) (face_of b names word)
faces_alike a b h names word =
    alike_if (word % 4 == 0) _ _ _ _ (alike_same (option_map face.Fix (fixnum_of word)))
    (alike_if (word % 4 == 1) _ _ _ _ (alike_same (immediate_face word))
    (alike_if (word % 4 == 2) _ _ _ _ (extended_alike a b h names (word - 2)) (alike_same (Some (face.Kind 1)))))

text_alike : (a b : Reader) → ReadsBytes a b → (at : ℕ) (count : Option ℕ) → Alike (text_at a at count) (text_at b at count)
text_alike a b h at None = alike_same None
text_alike a b h at (Some count) =
    let one : suc (7 + count) ≡ 8 + count = omega arith in
    alike_map (λ bytes. drop 8 bytes) _ _ (subst (λ k. Alike (a at k) (b at k)) one (h at (7 + count)))

string_alike : (a b : Reader) → ReadsBytes a b → (at : ℕ) → Alike (string_at a at) (string_at b at)
string_alike a b h at = alike_then _ _ _ _ (λ bytes. alike_if (word_in 0 bytes == 0x15) _ _ _ _ (text_alike a b h at (count_of (word_in 4 bytes))) (alike_same None)) (h at 7)

pub strings_alike : (a b : Reader) → ReadsBytes a b → (word : ℕ) → Alike (string_of a word) (string_of b word)
strings_alike a b h word = alike_if (word % 4 == 2) _ _ _ _ (string_alike a b h (word - 2)) (alike_same None)

-- ---- a byte of the words

record HasByte (m : Setting) (s : WordState) (at n : ℕ) : Type 0 where
  whole : ℕ
  there : word_at m s (at / 4 * 4) ≡ Some (Number whole)
  part : n ≡ byte_of whole (at % 4)

has_byte : (m : Setting) (s : WordState) (at n : ℕ) → word_byte (word_at m s) at ≡ Some n → HasByte m s at n
has_byte m s at n is = by (word_at m s (at / 4 * 4)) refl is
  where
    by : (o : Option Word) → word_at m s (at / 4 * 4) ≡ o → option_map (λ x. byte_of x (at % 4)) (option_and_then number_of o) ≡ Some n → HasByte m s at n
    by None e is = absurd (cc)
    by (Some (Code b)) e is = absurd (cc)
    by (Some (Number k)) e is = record { whole = k; there = e; part = cc }

-- the region in which a byte stands; each has room left behind what words use of it
data Region (at : ℕ) : Type 0 where
  OfStatics : STATICS_START ≤ at → suc at < HEAP_START → Region at
  OfHeap : HEAP_START ≤ at → suc at < STACK_START → Region at
  OfStack : STACK_START ≤ at → suc at < 2 ^ 32 → Region at

module _ (labels : List ℕ) (m : Setting) (s : WordState) (t : State) (housed : IsHoused m) (place : IsInPlace m s) (is : Represents m labels s t) (range : HasBytes t.storage) where
  abbrev read : ℕ → Option Word
  read = word_at m s

  region_of : (at n : ℕ) → word_byte read at ≡ Some n → Region at
  region_of at n e =
      let b = has_byte m s at n e in
      by b.whole (stands s.storage (at / 4 * 4) (Number b.whole) (visible m s (at / 4 * 4) (Number b.whole) b.there).there)
    where
      by : (whole : ℕ) → StandsIn s.storage (at / 4 * 4) (Number whole) → Region at
      by whole (InStatics low high there) = OfStatics (omega (arith, low)) (omega (arith, low, slice_get_within s.storage.statics (place_from STATICS_START (at / 4 * 4)) (Number whole) there, place.statics, housed.few))
      by whole (InHeap low high there) = OfHeap (omega (arith, low)) (omega (arith, low, slice_get_within s.storage.heap (place_from HEAP_START (at / 4 * 4)) (Number whole) there, place.heap, housed.heap))
      by whole (InStack low there) = OfStack (omega (arith, low)) (omega (arith, low, slice_get_within s.storage.stack (place_from STACK_START (at / 4 * 4)) (Number whole) there, place.stack, housed.stack))

  byte_is : (at n : ℕ) → word_byte read at ≡ Some n → byte_at t.storage at ≡ Some n
  byte_is at n e =
      let b = has_byte m s at n e in
      let same : at / 4 * 4 + at % 4 ≡ at = omega arith in
      subst (λ k. byte_at t.storage k ≡ Some n) same (byte_there t.storage (at / 4 * 4) (at % 4) b.whole range (omega arith) (omega arith) (is.words (at / 4 * 4) (Number b.whole) b.there).0 ∙ ap Some (sym b.part))

  in_statics : (at byte : ℕ) → STATICS_START ≤ at → at < HEAP_START → word_byte read at ≡ Some byte → (suc at < HEAP_START) × Within STATICS_START t.storage.statics at 1 (byte ∷ [])
  unfolding byte_at bytes_at
  in_statics at byte low high e = by (region_of at byte e)
    where
      by : Region at → (suc at < HEAP_START) × Within STATICS_START t.storage.statics at 1 (byte ∷ [])
      by (OfStatics from to) = let j = byte_is at byte e in let k = rw (le-ltb at STATICS_START low, lt-ltb at HEAP_START high) at j in (to, one_within STATICS_START t.storage.statics at byte k)
      by (OfHeap from to) = absurd (omega (arith, from, high))
      by (OfStack from to) = absurd (omega (arith, from, high))

  in_heap : (at byte : ℕ) → HEAP_START ≤ at → at < STACK_START → word_byte read at ≡ Some byte → (suc at < STACK_START) × Within HEAP_START t.storage.heap at 1 (byte ∷ [])
  unfolding byte_at bytes_at
  in_heap at byte low high e = by (region_of at byte e)
    where
      by : Region at → (suc at < STACK_START) × Within HEAP_START t.storage.heap at 1 (byte ∷ [])
      by (OfStatics from to) = absurd (omega (arith, low, to))
      by (OfHeap from to) =
          let before : STATICS_START ≤ at = omega (arith, low) in
          let j = byte_is at byte e in
          let k = rw (le-ltb at STATICS_START before, le-ltb at HEAP_START low, lt-ltb at STACK_START high) at j in (to, one_within HEAP_START t.storage.heap at byte k)
      by (OfStack from to) = absurd (omega (arith, from, high))

  in_stack : (at byte : ℕ) → STACK_START ≤ at → at < 2 ^ 32 → word_byte read at ≡ Some byte → (suc at < 2 ^ 32) × Within STACK_START t.storage.stack at 1 (byte ∷ [])
  unfolding byte_at bytes_at
  in_stack at byte low high e = by (region_of at byte e)
    where
      by : Region at → (suc at < 2 ^ 32) × Within STACK_START t.storage.stack at 1 (byte ∷ [])
      by (OfStatics from to) = absurd (omega (arith, low, to))
      by (OfHeap from to) = absurd (omega (arith, low, to))
      by (OfStack from to) =
          let before : STATICS_START ≤ at = omega (arith, low) in
          let middle : HEAP_START ≤ at = omega (arith, low) in
          let j = byte_is at byte e in
          let k = rw (le-ltb at STATICS_START before, le-ltb at HEAP_START middle, le-ltb at STACK_START low) at j in (to, one_within STACK_START t.storage.stack at byte k)

  -- bytes that the words have lie whole in one region
  bytes_are : (at len : ℕ) → Alike (word_bytes read at (suc len)) (reader_of t.storage at (suc len))
  unfolding bytes_at
  bytes_are at len bytes e = first (word_byte read at) refl e
    where
      by : (byte : ℕ) → word_byte read at ≡ Some byte → Region at → reader_of t.storage at (suc len) ≡ Some bytes
      by byte f (OfStatics low to) =
          let high : at < HEAP_START = omega (arith, to) in
          let w = all_within read STATICS_START HEAP_START t.storage.statics in_statics (suc len) at bytes low high (omega (arith, (in_statics at byte low high f).1.to)) e in
          rw (le-ltb at STATICS_START low, lt-ltb at HEAP_START high) (within_there STATICS_START t.storage.statics at (suc len) bytes w)
      by byte f (OfHeap low to) =
          let high : at < STACK_START = omega (arith, to) in
          let before : STATICS_START ≤ at = omega (arith, low) in
          let w = all_within read HEAP_START STACK_START t.storage.heap in_heap (suc len) at bytes low high (omega (arith, (in_heap at byte low high f).1.to)) e in
          rw (le-ltb at STATICS_START before, le-ltb at HEAP_START low, lt-ltb at STACK_START high) (within_there HEAP_START t.storage.heap at (suc len) bytes w)
      by byte f (OfStack low to) =
          let high : at < 2 ^ 32 = omega (arith, to) in
          let before : STATICS_START ≤ at = omega (arith, low) in
          let middle : HEAP_START ≤ at = omega (arith, low) in
          let w = all_within read STACK_START (2 ^ 32) t.storage.stack in_stack (suc len) at bytes low high (omega (arith, (in_stack at byte low high f).1.to)) e in
          rw (le-ltb at STATICS_START before, le-ltb at HEAP_START middle, le-ltb at STACK_START low) (within_there STACK_START t.storage.stack at (suc len) bytes w)

      first : (o : Option ℕ) → word_byte read at ≡ o → option_and_then (followed_by (word_bytes read (suc at) len)) o ≡ Some bytes → reader_of t.storage at (suc len) ≡ Some bytes
      first None f g = absurd (cc)
      first (Some byte) f g = by byte f (region_of at byte f)

  pub reads_bytes : ReadsBytes (reader m s) (reader_of t.storage)
  reads_bytes = bytes_are
