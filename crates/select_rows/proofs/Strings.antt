-- The rows that read and put the bytes of strings.
use Rattle.std.proofs.Common.{◌≡◌, ℕ, zero, suc, ◌+◌, ◌*◌, ◌<◌, ◌≤◌, List, [], ◌∷◌, length, slice_get, Some, None, option_and_then, pos, negsuc, refl, ap, ◌∙◌, subst, arith}
use Rattle.std.specs.List.{AllByRecursion}
use Rattle.std.proofs.lemmas.Bool.{lt-ltb}
use Rattle.std.proofs.lemmas.Option.{slice_get_within}
use Rattle.t_base.specs.declared.basics.Var.{Var}
use Rattle.t_base.specs.declared.faults.Fault.TheVariants.{NotString}
use Rattle.t_base.specs.declared.builtins.Builtin.TheVariants as builtin
use Rattle.t_prim.specs.Values.{Val, Text, CharV, NilV, StringV, text_of, with_output}
use Rattle.t_prim.specs.Operands.{Row, Gives, Changes, or_fault, with_fixnum, with_element}
use Rattle.t_prim.specs.Operands as rows
use Rattle.word_ir.specs.declared.operands.Operand.{Operand}
use Rattle.word_ir.specs.declared.words.Arith.TheVariants as kind
use Rattle.word_ir.specs.declared.words.WordOp.TheVariants as op
use Rattle.word_ir.specs.declared.words.Words.{Words}
use Rattle.word_ir.specs.Word.{Number, moved, unsigned}
use Rattle.word_ir.specs.Storage.{Sizes, STACK_START, long_at, byte_at}
use Rattle.word_ir.specs.Computing as computing
use Rattle.word_ir.specs.Computing.{computed}
use Rattle.word_ir.specs.Effects.{Puts, or_broken}
use Rattle.word_ir.specs.Stamps.{Stamp}
use Rattle.frame_ir.specs.States.{State}
use Rattle.tagged_words.specs.Tags.{IsFixnum, fixnum_word, char_word}
use Rattle.tagged_words.proofs.Chars.{byte_bits, char_of_bits}
use Rattle.tagged_words.proofs.Fixnums.{number_of_fixnum}
use Rattle.word_trees.specs.Trees.{Tree, Do}
use Rattle.word_trees.specs.Cores.{Core, word_in, read_in, some_stamp, binding}
use Rattle.word_trees.proofs.Performing.{load_performs, load_byte_performs, compute_performs}
use Rattle.frame_words.specs.Layouts.{Layout}
use Rattle.frame_words.specs.ValueWords.{word_for}
use Rattle.frame_words.specs.Contents.{Escapes}
use Rattle.frame_words.specs.Holding.{HoldsData}
use Rattle.frame_words.specs.Origins.{IsTextRead, IsTextHeld}
use Rattle.frame_words.proofs.Reading.{outside_stack}
use Rattle.frame_words.proofs.Values.{text_is}
use Rattle.frame_words.proofs.Texts.{text_held}
use Rattle.select_rows.specs.Macros.{fixnum, index, var, of_var, word}
use Rattle.select_rows.specs.Kept.{Has, Keeps, Binds}
use Rattle.select_rows.specs.Codes.{code_of, IsCodeOf, make, give_nil}
use Rattle.select_rows.proofs.Keeping.{keeps_same, binds_one, binds_then, bound_word, word_binds, has_binds, may_read}
use Rattle.select_rows.proofs.Checks.{fault_performs, fixnum_performs, fixnum_held, object_performs, index_performs}
use Rattle.select_rows.proofs.Results.{performs, arrive}
use Rattle.select_rows.proofs.KindRows.{string_by_header, not_string}
use Rattle.select_rows.proofs.DataRows.{by_row, as_kind, kept_at}
use Rattle.select_rows.proofs.Puts.{puts_and_nil}

same_byte : (a b : ℕ) → Some a ≡ Some b → a ≡ b
same_byte a b e = cc

all_at : (bytes : List ℕ) (i byte : ℕ) → AllByRecursion (λ x. x < 128) bytes → slice_get bytes i ≡ Some byte → byte < 128
all_at [] i byte all at = absurd (cc)
all_at (a ∷ bytes) zero byte all at = subst (λ x. x < 128) (same_byte a byte at) all.0
all_at (a ∷ bytes) (suc i) byte all at = all_at bytes i byte all.1 at

-- the number of an element, which fits
place_shifted : (i : ℕ) → IsFixnum (pos i) → i < 536870912 → computed (kind.Shift (negsuc 1)) (fixnum_word (pos i)) 0 ≡ computing.Gives i
place_shifted i fix lt = let same : unsigned (pos i) ≡ i = omega (arith, lt) in number_of_fixnum (pos i) fix ∙ ap computing.Gives same

module _ (words : Words) (sizes : Sizes) (l : Layout) (e : Escapes) (t : ℕ) (s : State) (c : Core) (to : Var) (rest : Tree) (h : HoldsData sizes l e s c.storage c.next c.output) where
  -- a string, with what is known of it at a core where nothing but temporaries was bound
  pub text_performs : (k : ℕ) (a : Operand) (v : Val) (go : List ℕ → Row) (tail : Tree) → Has l s t c a v → 2 ≤ k
      → ((d : Core) (text : Text) (hk : Has l s t d a (StringV text)) → Binds t c d → (r : IsTextRead s d.storage text hk.number) → performs words sizes l e t s c to rest (go r.bytes) 1 k tail d)
      → performs words sizes l e t s c to rest (rows.with_string v s.store go) 1 (3 + (2 + (3 + k))) (Rattle.select_rows.specs.Macros.object a 0x15 13 t tail) c
  text_performs k a v go tail ha two p =
      object_performs words sizes l e t s c to rest t 0x15 13 k NotString c a v (rows.with_string v s.store go) tail (omega arith) ha (keeps_same sizes l e t s c h) two
      (λ d kd. fault_performs words sizes l e t s c to rest 13 NotString d refl kd)
      (λ other. ap (λ o. or_fault (option_and_then (text_of s.store) o) NotString go) (not_string v other))
      (λ d header binds.
      let is = string_by_header v header in
      let hk : Has l s t d a (StringV is.0) = as_kind words sizes l e t s c to rest h a v (StringV is.0) d is.1 (has_binds binds ha) in
      let r : IsTextRead s d.storage is.0 hk.number = text_is sizes l e s d.storage d.next d.output (kept_at words sizes l e t s c to rest h d binds).data_held is.0 hk.number hk.is in
      by_row words sizes l e t s c to rest h _ (go r.bytes) 1 k tail d
      (ap (λ y. rows.with_string y s.store go) is.1 ∙ ap (λ o. or_fault o NotString go) r.there) (p d is.0 hk binds r))

  pub put_string_performs : (a : Operand) (v : Val) → Has l s t c a v → performs words sizes l e t s c to rest (rows.with_string v s.store (λ bytes. Changes (with_output s.store bytes) NilV)) 1 12 (Rattle.select_rows.specs.Macros.object a 0x15 13 t (Do (op.Service 5 (a ∷ [])) (give_nil to rest))) c
  put_string_performs a v ha =
      text_performs 4 a v (λ bytes. Changes (with_output s.store bytes) NilV) _ ha (omega arith)
      (λ d text hk binds r.
      let kd : Keeps sizes l e t s s c d = kept_at words sizes l e t s c to rest h d binds in
      let held : IsTextHeld d.storage r.bytes hk.number = text_held sizes l e s d.storage d.next d.output kd.data_held text hk.number r.bytes hk.is r.there in
      puts_and_nil words sizes l e t s c to rest d 5 hk.number a r.bytes kd hk.held (ap (λ o. or_broken o Puts) held.whole))

  -- ---- a byte as a character

  element_performs : (d : Core) (a b : Operand) (n i byte : ℕ) (bytes : List ℕ) → Binds t c d → IsTextHeld d.storage bytes n → slice_get bytes i ≡ Some byte → length bytes < 536870912 → word_in d a ≡ Some (Number n) → Rattle.select_rows.specs.Kept.IsOlder t a → IsFixnum (pos i) → word_in d b ≡ Some (Number (fixnum_word (pos i)))
      → performs words sizes l e t s c to rest (Gives (CharV byte)) 1 12 (make (kind.Shift (negsuc 1)) b (word 0) (var (t + 2)) (Do (op.LoadByte (var (t + 3)) a (of_var (t + 2)) (pos 6)) (make (kind.Shift (pos 8)) (of_var (t + 3)) (word 0) (var (t + 4)) (make kind.Add (of_var (t + 4)) (word 1) to rest)))) d
  element_performs d a b n i byte bytes binds held at short ea older fix eb =
      let inside : i < length bytes = slice_get_within bytes i byte at in
      let ascii : byte < 128 = all_at bytes i byte held.characters at in
      let d' : Core = binding d (var (t + 2)) (Number i) None in
      let more : Binds t d d' = binds_one t d (t + 2) (Number i) None (omega arith) in
      let d'' : Core = binding d' (var (t + 3)) (Number byte) None in
      let next : Binds t d' d'' = binds_one t d' (t + 3) (Number byte) None (omega arith) in
      let d3 : Core = binding d'' (var (t + 4)) (Number (256 * byte)) None in
      let last : Binds t d'' d3 = binds_one t d'' (t + 4) (Number (256 * byte)) None (omega arith) in
      let whole : Binds t c d3 = binds_then t c d d3 binds (binds_then t d d' d3 more (binds_then t d' d'' d3 next last)) in
      let outside : n + i + 6 < STACK_START = held.outside i inside in
      let address : moved (n + i) (pos 6) ≡ n + i + 6 = omega (arith, outside) in
      let read : byte_at (read_in d') (moved (n + i) (pos 6)) ≡ Some byte = ap (byte_at (read_in d')) address ∙ held.byte_read i byte at in
      let known : word_for l s (CharV byte) ≡ Some (char_word byte) = rw (lt-ltb byte 128 ascii) refl in
      compute_performs words sizes _ (fixnum_word (pos i)) 0 i eb refl (place_shifted i fix (omega (arith, inside, short)))
      (load_byte_performs words sizes _ n i byte (word_binds t d d' a more older ∙ ea) (bound_word d (t + 2) (Number i) None) read (outside_stack d'.storage (moved (n + i) (pos 6)) (omega (arith, address, outside)))
      (compute_performs words sizes _ byte 0 (256 * byte) (bound_word d' (t + 3) (Number byte) None) refl (byte_bits byte (omega (arith, ascii)))
      (compute_performs words sizes _ (256 * byte) 1 (char_word byte) (bound_word d'' (t + 4) (Number (256 * byte)) None) refl (char_of_bits byte (omega (arith, ascii)))
      (arrive words sizes l e t s c to rest d3 (CharV byte) (char_word byte) None (kept_at words sizes l e t s c to rest h d3 whole) known))))

  pub string_element_performs : (a b : Operand) (v w : Val) → Has l s t c a v → Has l s t c b w → performs words sizes l e t s c to rest (rows.with_string v s.store (λ bytes. with_fixnum w (λ x. with_element bytes x (λ i byte. Gives (CharV byte))))) 1 28 (Rattle.select_rows.specs.Macros.object a 0x15 13 t (fixnum b (Do (op.Load (var (t + 1)) a (pos 2)) (index b (of_var (t + 1)) (make (kind.Shift (negsuc 1)) b (word 0) (var (t + 2)) (Do (op.LoadByte (var (t + 3)) a (of_var (t + 2)) (pos 6)) (make (kind.Shift (pos 8)) (of_var (t + 3)) (word 0) (var (t + 4)) (make kind.Add (of_var (t + 4)) (word 1) to rest)))))))) c
  string_element_performs a b v w ha hb =
      text_performs 20 a v (λ bytes. with_fixnum w (λ x. with_element bytes x (λ i byte. Gives (CharV byte)))) _ ha (omega arith)
      (λ d text hk binds r.
      let hd : Has l s t d b w = has_binds binds hb in
      fixnum_performs words sizes l e t s c to rest 17 d b w (λ x. with_element r.bytes x (λ i byte. Gives (CharV byte))) _ hd (kept_at words sizes l e t s c to rest h d binds) (omega arith)
      (λ x is.
      let f = fixnum_held words sizes l e t s c to rest d b w x hd is in
      let size : ℕ = fixnum_word (pos (length r.bytes)) in
      let stamp : Stamp = some_stamp (long_at d.longs (moved hk.number (pos 2))) in
      let d' : Core = binding d (var (t + 1)) (Number size) stamp in
      let more : Binds t d d' = binds_one t d (t + 1) (Number size) stamp (omega arith) in
      let all : Binds t c d' = binds_then t c d d' binds more in
      let ea : word_in d' a ≡ Some (Number hk.number) = word_binds t d d' a more hk.older ∙ hk.held in
      let eb : word_in d' b ≡ Some (Number (fixnum_word x)) = word_binds t d d' b more hd.older ∙ f.1 in
      let held : IsTextHeld d'.storage r.bytes hk.number = text_held sizes l e s d'.storage d'.next d'.output (kept_at words sizes l e t s c to rest h d' all).data_held text hk.number r.bytes hk.is r.there in
      load_performs words sizes _ hk.number (Number size) hk.held r.length_read.reads (may_read words sizes d a (moved hk.number (pos 2)) r.length_read.outside)
      (index_performs words sizes l e t s c to rest x r.bytes 12 d' b (of_var (t + 1)) (λ i byte. Gives (CharV byte)) _ f.0 eb (bound_word d (t + 1) (Number size) stamp) r.short (kept_at words sizes l e t s c to rest h d' all) (omega arith)
      (λ i byte at found.
      let ei : word_in d' b ≡ Some (Number (fixnum_word (pos i))) = eb ∙ ap (λ z. Some (Number (fixnum_word z))) at in
      element_performs d' a b hk.number i byte r.bytes all held found r.short ea hk.older (subst IsFixnum at f.0) ei))))

pub string_element_row : IsCodeOf builtin.StringElt (code_of builtin.StringElt)
string_element_row words sizes l e t s c to rest a b v w h ha hb = string_element_performs words sizes l e t s c to rest h a b v w ha hb

pub put_string_row : IsCodeOf builtin.PutString (code_of builtin.PutString)
put_string_row words sizes l e t s c to rest a v h ha = put_string_performs words sizes l e t s c to rest h a v ha
