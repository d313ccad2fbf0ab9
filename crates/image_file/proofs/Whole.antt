-- The two laws of the whole: what is read is spelled so, and what is spelled so is read.
use Rattle.std.proofs.Common.{◌≡◌, ℕ, ◌+◌, ◌^◌, ◌<◌, ◌≤◌, List, [], ◌∷◌, ◌++◌, length, take, drop, Option, Some, None, Result, Ok, Err, refl, sym, ap, subst, ◌∙◌, arith}
use Rattle.std.specs.Prelude.{IfOk}
use Rattle.std.specs.List.{flat_map, AllByRecursion}
use Rattle.std.specs.Int.{w32, from_be_bytes}
use Rattle.std.proofs.lemmas.List.{take-append-drop, length-take, length-drop, length-append, drop-drop, take_at, drop_at}
use Rattle.std.proofs.lemmas.Nat.{from_be_bytes-to_be_bytes_4}
use Rattle.image_file.specs.declared.image.Image.{Image}
use Rattle.image_file.specs.declared.fault.ImageFault.{ImageFault}
use Rattle.image_file.specs.Grammar.{Parts, parts_of, four, AreDistinct, IsName, name_spelling, names_spelling, spelling, IsImage, IsImageOf}
use Rattle.image_file.specs.Reading.{Refusal, ◌>>=◌, Gives, unless, number_at, magic, version, entry, code_length, static_length, name_count, names_length, last_field, total, frame_refusal, field_refusal, names_start, with_names, names_at, parts_at, image_at}
use Rattle.image_file.proofs.Bytes.{IsBytes, IsBytes-drop, number_front, bind_ok, ok_is}
use Rattle.image_file.proofs.ManyNames.{names_take, names_again}
use Rattle.image_file.proofs.Rules.{IsFramed, FieldsHold, framed, no_frame_refusal, fields_hold, no_field_refusal}

unless_ok : {A : Type 0} (o : Option Refusal) (r : Result A Refusal) (y : A) → unless o r ≡ Ok y → (o ≡ None) × (r ≡ Ok y)
unless_ok None r y e = (refl, e)
unless_ok (Some d) r y e = absurd cc

unless_none : {A : Type 0} (o : Option Refusal) (r : Result A Refusal) → o ≡ None → unless o r ≡ r
unless_none None r e = refl
unless_none (Some d) r e = absurd cc

-- ---- what is read is spelled so

-- a field of the header, and what is behind it
field_is : (k : ℕ) (bytes : List ℕ) → IsBytes bytes → k + 4 ≤ length bytes → drop k bytes ≡ four (number_at k bytes) ++ drop (k + 4) bytes
field_is k bytes fits long =
    number_front (drop k bytes) (IsBytes-drop k bytes fits) (omega (arith, length-drop k bytes)) ∙ ap (λ (x : List ℕ). four (number_at k bytes) ++ x) (drop-drop 4 k bytes)

abbrev numbers_of : List ℕ → List ℕ
numbers_of bytes = magic bytes ∷ version bytes ∷ entry bytes ∷ code_length bytes ∷ static_length bytes ∷ name_count bytes ∷ names_length bytes ∷ last_field bytes ∷ []

more : (n : ℕ) (x y : List ℕ) → x ≡ y → four n ++ x ≡ four n ++ y
more n x y e = ap (λ (z : List ℕ). four n ++ z) e

header_is : (bytes : List ℕ) → IsBytes bytes → 32 ≤ length bytes → bytes ≡ flat_map four (numbers_of bytes) ++ drop 32 bytes
header_is bytes fits long =
    let f0 = field_is 0 bytes fits (omega arith) in
    let f1 = field_is 4 bytes fits (omega arith) in
    let f2 = field_is 8 bytes fits (omega arith) in
    let f3 = field_is 12 bytes fits (omega arith) in
    let f4 = field_is 16 bytes fits (omega arith) in
    let f5 = field_is 20 bytes fits (omega arith) in
    let f6 = field_is 24 bytes fits (omega arith) in
    let f7 = field_is 28 bytes fits (omega arith) in
    f0 ∙ more (magic bytes) _ _ (f1 ∙ more (version bytes) _ _ (f2 ∙ more (entry bytes) _ _ (f3 ∙ more (code_length bytes) _ _ (f4 ∙ more (static_length bytes) _ _ (f5 ∙ more (name_count bytes) _ _ (f6 ∙ more (names_length bytes) _ _ f7))))))

-- a part of the bytes, and what is behind it
part_is : (n k : ℕ) (bytes : List ℕ) → drop k bytes ≡ take n (drop k bytes) ++ drop (k + n) bytes
part_is n k bytes = sym (take-append-drop n (drop k bytes)) ∙ ap (λ (x : List ℕ). take n (drop k bytes) ++ x) (drop-drop n k bytes)

same_numbers : (a b c d e f g h a' b' d' e' f' g' h' : ℕ) → a ≡ a' → b ≡ b' → d ≡ d' → e ≡ e' → f ≡ f' → g ≡ g' → h ≡ h'
    → flat_map four (a ∷ b ∷ c ∷ d ∷ e ∷ f ∷ g ∷ h ∷ []) ≡ flat_map four (a' ∷ b' ∷ c ∷ d' ∷ e' ∷ f' ∷ g' ∷ h' ∷ [])
same_numbers a b c d e f g h a' b' d' e' f' g' h' p q r s t u v =
    let same : a ∷ b ∷ c ∷ d ∷ e ∷ f ∷ g ∷ h ∷ [] ≡ a' ∷ b' ∷ c ∷ d' ∷ e' ∷ f' ∷ g' ∷ h' ∷ [] = cc in
    ap (flat_map four) same

-- what the fields of a header that doesn't fail say of the parts behind it
record HasParts (bytes : List ℕ) (names : List (List ℕ)) : Type 0 where
  pub code : length (with_names bytes names).code ≡ code_length bytes
  pub statics : length (with_names bytes names).statics ≡ static_length bytes
  pub part : length (names_spelling names) ≡ names_length bytes

has_parts : (bytes : List ℕ) (names : List (List ℕ)) → total bytes ≡ length bytes → drop (names_start bytes) bytes ≡ names_spelling names → HasParts bytes names
has_parts bytes names whole spelled = record {
  code = omega (arith, length-take (code_length bytes) (drop 32 bytes), length-drop 32 bytes, whole);
  statics = omega (arith, length-take (static_length bytes) (drop (32 + code_length bytes) bytes), length-drop (32 + code_length bytes) bytes, whole);
  part = ap length (sym spelled) ∙ omega (arith, length-drop (names_start bytes) bytes, whole);
}

spelled_so : (bytes : List ℕ) (names : List (List ℕ)) → IsBytes bytes → IsFramed (length bytes) (magic bytes) (version bytes) (total bytes) → HasParts bytes names → length names ≡ name_count bytes → last_field bytes ≡ 0
    → drop (names_start bytes) bytes ≡ names_spelling names → bytes ≡ spelling (with_names bytes names)
spelled_so bytes names fits frame has counted last spelled =
    let p : Parts = with_names bytes names in
    let code_is = part_is (code_length bytes) 32 bytes in
    let statics_is = part_is (static_length bytes) (32 + code_length bytes) bytes in
    let behind : drop 32 bytes ≡ p.code ++ (p.statics ++ names_spelling names) = code_is ∙ ap (λ (x : List ℕ). p.code ++ x) (statics_is ∙ ap (λ (x : List ℕ). p.statics ++ x) spelled) in
    let numbers = same_numbers (magic bytes) (version bytes) (entry bytes) (code_length bytes) (static_length bytes) (name_count bytes) (names_length bytes) (last_field bytes) 0x4F524249 1 (length p.code) (length p.statics) (length names) (length (names_spelling names)) 0 frame.magic frame.version (sym has.code) (sym has.statics) (sym counted) (sym has.part) last in
    header_is bytes fits frame.long ∙ ap (λ (x : List ℕ). flat_map four (numbers_of bytes) ++ x) behind ∙ ap (λ (x : List ℕ). x ++ (p.code ++ (p.statics ++ names_spelling names))) numbers

is_image : (bytes : List ℕ) (names : List (List ℕ)) → FieldsHold (entry bytes) (code_length bytes) (static_length bytes) (names_length bytes) (last_field bytes) → HasParts bytes names → AllByRecursion IsName names → AreDistinct names → IsImage (with_names bytes names)
is_image bytes names h has each distinct = record {
  entry_even = h.entry_even;
  entry_from = h.entry_from;
  entry_to = omega (arith, h.entry_to, has.code);
  code_even = rw has.code h.code_even;
  code_some = rw has.code h.code_some;
  code_short = rw has.code h.code_short;
  statics_whole = rw has.statics h.statics_whole;
  statics_short = rw has.statics h.statics_short;
  names = each;
  names_short = rw has.part h.names_short;
  names_distinct = distinct;
}

pub whole_takes : (bytes : List ℕ) (p : Parts) → IsBytes bytes → image_at bytes ≡ Ok p → IsImageOf bytes p
unfolding image_at parts_at
whole_takes bytes p fits e =
    let a = unless_ok (frame_refusal bytes) (unless (field_refusal bytes) (parts_at bytes)) p e in
    let b = unless_ok (field_refusal bytes) (parts_at bytes) p a.1 in
    let c = bind_ok (names_at (name_count bytes) [] (names_start bytes) (drop (names_start bytes) bytes)) (λ names. Ok (with_names bytes names)) p b.1 in
    let frame = framed (length bytes) (magic bytes) (version bytes) (total bytes) a.0 in
    let fields = fields_hold (entry bytes) (code_length bytes) (static_length bytes) (names_length bytes) (last_field bytes) b.0 in
    let t = names_take (name_count bytes) [] (names_start bytes) (drop (names_start bytes) bytes) c.0 (IsBytes-drop (names_start bytes) bytes fits) (λ i j d lt within. absurd (omega arith)) c.1 in
    let has = has_parts bytes t.names frame.whole t.spelled in
    let made : with_names bytes t.names ≡ p = ap (with_names bytes) (sym t.joined) ∙ ok_is (with_names bytes c.0) p c.2 in
    subst (IsImageOf bytes) made (record {
      image = is_image bytes t.names fields has t.each (subst AreDistinct t.joined t.distinct);
      spelled = spelled_so bytes t.names fits frame has t.counted fields.last t.spelled;
    })

-- ---- what is spelled so is read

again : (n : ℕ) → n < 2 ^ 32 → from_be_bytes w32 (four n) ≡ n
again n lt = from_be_bytes-to_be_bytes_4 n lt

pub same_parts : (code statics : List ℕ) (at : ℕ) (p : Parts) → code ≡ p.code → statics ≡ p.statics → at ≡ p.entry → (let made : Parts = record { code = code; statics = statics; entry = at; names = p.names } in made) ≡ p
same_parts code statics at p c s e = rw (c, s, e) refl

-- each name takes at least a byte
names_long : (names : List (List ℕ)) → AllByRecursion IsName names → length names ≤ length (names_spelling names)
names_long [] h = omega arith
names_long (name ∷ names) h = omega (arith, names_long names h.1, length-append (name_spelling name) (names_spelling names))

record ReadsBack (p : Parts) : Type 0 where
  pub magic : magic (spelling p) ≡ 0x4F524249
  pub version : version (spelling p) ≡ 1
  pub entry : entry (spelling p) ≡ p.entry
  pub code : code_length (spelling p) ≡ length p.code
  pub statics : static_length (spelling p) ≡ length p.statics
  pub count : name_count (spelling p) ≡ length p.names
  pub part : names_length (spelling p) ≡ length (names_spelling p.names)
  pub last : last_field (spelling p) ≡ 0
  pub long : length (spelling p) ≡ 32 + length p.code + length p.statics + length (names_spelling p.names)

reads_back : (p : Parts) → IsImage p → ReadsBack p
reads_back p h = record {
  magic = again 0x4F524249 (omega arith);
  version = again 1 (omega arith);
  entry = again p.entry (omega (arith, h.entry_to, h.code_short));
  code = again (length p.code) (omega (arith, h.code_short));
  statics = again (length p.statics) (omega (arith, h.statics_short));
  count = again (length p.names) (omega (arith, names_long p.names h.names, h.names_short));
  part = again (length (names_spelling p.names)) (omega (arith, h.names_short));
  last = again 0 (omega arith);
  long = omega (arith, length-append p.code (p.statics ++ names_spelling p.names), length-append p.statics (names_spelling p.names));
}

statics_behind : (p : Parts) (c : ℕ) → c ≡ length p.code → drop (32 + c) (spelling p) ≡ p.statics ++ names_spelling p.names
statics_behind p c e = sym (drop-drop c 32 (spelling p)) ∙ drop_at p.code (p.statics ++ names_spelling p.names) c (sym e)

names_behind : (p : Parts) (c s : ℕ) → c ≡ length p.code → s ≡ length p.statics → drop (32 + c + s) (spelling p) ≡ names_spelling p.names
names_behind p c s e f = sym (drop-drop s (32 + c) (spelling p)) ∙ ap (drop s) (statics_behind p c e) ∙ drop_at p.statics (names_spelling p.names) s (sym f)

parts_again : (p : Parts) → IsImage p → ReadsBack p → parts_at (spelling p) ≡ Ok p
unfolding parts_at
parts_again p h back =
    let bytes : List ℕ = spelling p in
    let rest : drop (names_start bytes) bytes ≡ names_spelling p.names = names_behind p (code_length bytes) (static_length bytes) back.code back.statics in
    let names : names_at (name_count bytes) [] (names_start bytes) (drop (names_start bytes) bytes) ≡ Ok p.names = ap (λ (n : ℕ). names_at n [] (names_start bytes) (drop (names_start bytes) bytes)) back.count ∙ ap (names_at (length p.names) [] (names_start bytes)) rest ∙ names_again p.names [] (names_start bytes) h.names h.names_distinct in
    let code : take (code_length bytes) (drop 32 bytes) ≡ p.code = take_at p.code (p.statics ++ names_spelling p.names) (code_length bytes) (sym back.code) in
    let statics : take (static_length bytes) (drop (32 + code_length bytes) bytes) ≡ p.statics = ap (take (static_length bytes)) (statics_behind p (code_length bytes) back.code) ∙ take_at p.statics (names_spelling p.names) (static_length bytes) (sym back.statics) in
    ap (λ (r : Result (List (List ℕ)) Refusal). r >>= λ ns. Ok (with_names bytes ns)) names ∙ ap (λ (x : Parts). Ok x) (same_parts _ _ _ p code statics back.entry)

pub whole_again : (p : Parts) → IsImage p → image_at (spelling p) ≡ Ok p
unfolding image_at
whole_again p h =
    let bytes : List ℕ = spelling p in
    let back = reads_back p h in
    let frame : frame_refusal bytes ≡ None = no_frame_refusal (length bytes) (magic bytes) (version bytes) (total bytes) (record { long = omega (arith, back.long); magic = back.magic; version = back.version; whole = omega (arith, back.long, back.code, back.statics, back.part) }) in
    let fields : field_refusal bytes ≡ None = no_field_refusal (entry bytes) (code_length bytes) (static_length bytes) (names_length bytes) (last_field bytes) (record {
      entry_even = rw back.entry h.entry_even;
      entry_from = rw back.entry h.entry_from;
      entry_to = rw (back.entry, back.code) h.entry_to;
      code_even = rw back.code h.code_even;
      code_some = rw back.code h.code_some;
      code_short = rw back.code h.code_short;
      statics_whole = rw back.statics h.statics_whole;
      statics_short = rw back.statics h.statics_short;
      names_short = rw back.part h.names_short;
      last = back.last;
    }) in
    unless_none (frame_refusal bytes) (unless (field_refusal bytes) (parts_at bytes)) frame ∙ unless_none (field_refusal bytes) (parts_at bytes) fields ∙ parts_again p h back

pub is_found : (bytes : List ℕ) (r : Result Image ImageFault) → IsBytes bytes → Gives parts_of r (image_at bytes) → IfOk r (λ image. IsImageOf bytes (parts_of image))
is_found bytes (Ok image) fits given = whole_takes bytes (parts_of image) fits given
is_found bytes (Err e) fits given = tt

pub is_only : (bytes : List ℕ) (r : Result Image ImageFault) (p : Parts) → Gives parts_of r (image_at bytes) → IsImageOf bytes p → Gives parts_of r (Ok p)
is_only bytes r p given h = subst (Gives parts_of r) (ap image_at h.spelled ∙ whole_again p h.image) given
