-- The rows that read pairs, vectors, strings and symbols.
use Rattle.std.proofs.Common.{◌≡◌, ℕ, ◌+◌, ◌*◌, ◌^◌, ◌<◌, ◌≤◌, List, length, slice_get, Some, None, option_and_then, pos, negsuc, refl, sym, ap, ◌∙◌, subst, arith}
use Rattle.std.proofs.lemmas.Bool.{lt-ltb}
use Rattle.t_base.specs.declared.basics.Var.{Var}
use Rattle.t_base.specs.declared.faults.Fault.TheVariants.{NotPair, NotVector, NotString, NotSymbol}
use Rattle.t_base.specs.declared.builtins.Builtin.TheVariants as builtin
use Rattle.t_prim.specs.Values.{Val, PrintName, FixV, SymbolV, StringV, PairV, VectorV, text_of}
use Rattle.t_prim.specs.Operands.{Row, Gives, Faults, or_fault, with_fixnum, with_element}
use Rattle.t_prim.specs.Operands as rows
use Rattle.word_ir.specs.declared.operands.Operand.{Operand}
use Rattle.word_ir.specs.declared.words.Arith.TheVariants as kind
use Rattle.word_ir.specs.declared.words.WordOp.TheVariants as op
use Rattle.word_ir.specs.declared.words.Words.{Words}
use Rattle.word_ir.specs.Word.{Number, moved}
use Rattle.word_ir.specs.Storage.{Sizes, long_at}
use Rattle.word_ir.specs.Computing as computing
use Rattle.word_ir.specs.Computing.{computed}
use Rattle.word_ir.specs.Stamps.{Stamp}
use Rattle.frame_ir.specs.States.{State}
use Rattle.tagged_words.specs.Tags.{fixnum_word}
use Rattle.tagged_words.proofs.Chars.{signed_natural, fitted_natural}
use Rattle.tagged_words.proofs.Fixnums.{natural_word}
use Rattle.word_trees.specs.Trees.{Tree, Do}
use Rattle.word_trees.specs.Cores.{Core, word_in, some_stamp, binding}
use Rattle.word_trees.proofs.Performing.{load_performs, compute_performs}
use Rattle.frame_words.specs.Layouts.{Layout}
use Rattle.frame_words.specs.Contents.{Escapes}
use Rattle.frame_words.specs.Holding.{HoldsData}
use Rattle.frame_words.specs.Origins.{IsRead, IsPairRead, IsVectorRead, IsTextRead, IsSymbolRead}
use Rattle.frame_words.proofs.Values.{fixnum_known, pair_is, vector_is, text_is, symbol_is}
use Rattle.select_rows.specs.Macros.{fixnum, index, var, of_var, word}
use Rattle.select_rows.specs.Kept.{Has, Keeps, Binds}
use Rattle.select_rows.specs.Codes.{code_of, IsCodeOf, make}
use Rattle.select_rows.proofs.Keeping.{keeps_same, keeps_binds, binds_one, binds_then, bound_word, word_binds, has_binds, may_read}
use Rattle.select_rows.proofs.Checks.{fault_performs, fixnum_performs, fixnum_held, pair_performs, object_performs, index_performs}
use Rattle.select_rows.proofs.Results.{performs, load_gives}
use Rattle.select_rows.proofs.KindRows.{vector_by_header, not_vector, string_by_header, not_string, symbol_by_header, not_symbol}

module _ (words : Words) (sizes : Sizes) (l : Layout) (e : Escapes) (t : ℕ) (s : State) (c : Core) (to : Var) (rest : Tree) (h : HoldsData sizes l e s c.storage c.next c.output) where
  keeps : Keeps sizes l e t s s c c
  keeps = keeps_same sizes l e t s c h

  -- the row is the other one, as it is found to be
  pub by_row : (row other : Row) (least k : ℕ) (tree : Tree) (d : Core) → row ≡ other → performs words sizes l e t s c to rest other least k tree d → performs words sizes l e t s c to rest row least k tree d
  by_row row other least k tree d same p = subst (λ r. performs words sizes l e t s c to rest r least k tree d) (sym same) p

  pub as_kind : (a : Operand) (v w : Val) (d : Core) → v ≡ w → Has l s t d a v → Has l s t d a w
  as_kind a v w d same ha = subst (λ y. Has l s t d a y) same ha

  pub car_performs : (a : Operand) (v : Val) → Has l s t c a v → performs words sizes l e t s c to rest (rows.with_pair v s.store (λ k p. Gives p.0)) 1 5 (Rattle.select_rows.specs.Macros.pair a (Do (op.Load to a (negsuc 2)) rest)) c
  car_performs a v ha =
      pair_performs words sizes l e t s c to rest 2 c a v (λ k. or_fault (slice_get s.store.pairs k) NotPair (λ p. Gives p.0)) _ ha keeps (omega arith)
      (λ k is.
      let hk : Has l s t c a (PairV k) = as_kind a v (PairV k) c is ha in
      let p : IsPairRead l s c.storage k hk.number = pair_is sizes l e s c.storage c.next c.output h k hk.number hk.is in
      by_row _ (Gives p.parts.0) 1 2 _ c (ap (λ o. or_fault o NotPair (λ q. Gives q.0)) p.there)
      (load_gives words sizes l e t s c to rest c p.parts.0 a hk.number p.head (negsuc 2) keeps hk.held p.head_read p.head_is))

  pub cdr_performs : (a : Operand) (v : Val) → Has l s t c a v → performs words sizes l e t s c to rest (rows.with_pair v s.store (λ k p. Gives p.1)) 1 5 (Rattle.select_rows.specs.Macros.pair a (Do (op.Load to a (pos 1)) rest)) c
  cdr_performs a v ha =
      pair_performs words sizes l e t s c to rest 2 c a v (λ k. or_fault (slice_get s.store.pairs k) NotPair (λ p. Gives p.1)) _ ha keeps (omega arith)
      (λ k is.
      let hk : Has l s t c a (PairV k) = as_kind a v (PairV k) c is ha in
      let p : IsPairRead l s c.storage k hk.number = pair_is sizes l e s c.storage c.next c.output h k hk.number hk.is in
      by_row _ (Gives p.parts.1) 1 2 _ c (ap (λ o. or_fault o NotPair (λ q. Gives q.1)) p.there)
      (load_gives words sizes l e t s c to rest c p.parts.1 a hk.number p.tail (pos 1) keeps hk.held p.tail_read p.tail_is))

  pub kept_at : (d : Core) → Binds t c d → Keeps sizes l e t s s c d
  kept_at d binds = keeps_binds sizes l e t s c c d keeps binds

  -- a vector, with what is known of it at a core where nothing but temporaries was bound
  pub vector_performs : (k : ℕ) (a : Operand) (v : Val) (go : ℕ → List Val → Row) (tail : Tree) → Has l s t c a v → 2 ≤ k
      → ((d : Core) (place : ℕ) (hk : Has l s t d a (VectorV place)) → Binds t c d → (r : IsVectorRead l s d.storage place hk.number) → performs words sizes l e t s c to rest (go place r.items) 1 k tail d)
      → performs words sizes l e t s c to rest (rows.with_vector v s.store go) 1 (3 + (2 + (3 + k))) (Rattle.select_rows.specs.Macros.object a 0x11 5 t tail) c
  vector_performs k a v go tail ha two p =
      object_performs words sizes l e t s c to rest t 0x11 5 k NotVector c a v (rows.with_vector v s.store go) tail (omega arith) ha keeps two
      (λ d kd. fault_performs words sizes l e t s c to rest 5 NotVector d refl kd)
      (λ other. ap (λ o. or_fault o NotVector (λ place. or_fault (slice_get s.store.vectors place) NotVector (go place))) (not_vector v other))
      (λ d header binds.
      let is = vector_by_header v header in
      let hk : Has l s t d a (VectorV is.0) = as_kind a v (VectorV is.0) d is.1 (has_binds binds ha) in
      let r : IsVectorRead l s d.storage is.0 hk.number = vector_is sizes l e s d.storage d.next d.output (kept_at d binds).data_held is.0 hk.number hk.is in
      by_row _ (go is.0 r.items) 1 k tail d
      (ap (λ y. rows.with_vector y s.store go) is.1 ∙ ap (λ o. or_fault o NotVector (go is.0)) r.there) (p d is.0 hk binds r))

  pub vector_length_performs : (a : Operand) (v : Val) → Has l s t c a v → performs words sizes l e t s c to rest (rows.with_vector v s.store (λ k items. Gives (FixV (pos (length items))))) 1 10 (Rattle.select_rows.specs.Macros.object a 0x11 5 t (Do (op.Load to a (pos 2)) rest)) c
  vector_length_performs a v ha =
      vector_performs 2 a v (λ k items. Gives (FixV (pos (length items)))) _ ha (omega arith)
      (λ d place hk binds r.
      load_gives words sizes l e t s c to rest d (FixV (pos (length r.items))) a hk.number (fixnum_word (pos (length r.items))) (pos 2) (kept_at d binds) hk.held r.length_read
      (fixnum_known l s (pos (length r.items)) (record { ranged = lt-ltb (length r.items) 536870912 r.short })))

  -- ---- the element of a vector: its address is made by a sum that fits

  pub element_address : (n place : ℕ) → n + 4 * place < 2 ^ 31 → computed kind.Add n (fixnum_word (pos place)) ≡ computing.Gives (n + 4 * place)
  element_address n place lt = rw (natural_word place, signed_natural n (omega (arith, lt)), signed_natural (4 * place) (omega (arith, lt))) (fitted_natural (n + 4 * place) lt)

  pub vref_performs : (a b : Operand) (v w : Val) → Has l s t c a v → Has l s t c b w → performs words sizes l e t s c to rest (rows.with_vector v s.store (λ k items. with_fixnum w (λ x. with_element items x (λ i old. Gives old)))) 1 21 (Rattle.select_rows.specs.Macros.object a 0x11 5 t (fixnum b (Do (op.Load (var (t + 1)) a (pos 2)) (index b (of_var (t + 1)) (make kind.Add a b (var (t + 2)) (Do (op.Load to (of_var (t + 2)) (pos 6)) rest)))))) c
  vref_performs a b v w ha hb =
      vector_performs 13 a v (λ k items. with_fixnum w (λ x. with_element items x (λ i old. Gives old))) _ ha (omega arith)
      (λ d place hk binds r.
      let hd : Has l s t d b w = has_binds binds hb in
      fixnum_performs words sizes l e t s c to rest 10 d b w (λ x. with_element r.items x (λ i old. Gives old)) _ hd (kept_at d binds) (omega arith)
      (λ x is.
      let f = fixnum_held words sizes l e t s c to rest d b w x hd is in
      let size : ℕ = fixnum_word (pos (length r.items)) in
      let stamp : Stamp = some_stamp (long_at d.longs (moved hk.number (pos 2))) in
      let d' : Core = binding d (var (t + 1)) (Number size) stamp in
      let more : Binds t d d' = binds_one t d (t + 1) (Number size) stamp (omega arith) in
      let all : Binds t c d' = binds_then t c d d' binds more in
      let ea : word_in d' a ≡ Some (Number hk.number) = word_binds t d d' a more hk.older ∙ hk.held in
      let eb : word_in d' b ≡ Some (Number (fixnum_word x)) = word_binds t d d' b more hd.older ∙ f.1 in
      load_performs words sizes _ hk.number (Number size) hk.held r.length_read.reads (may_read words sizes d a (moved hk.number (pos 2)) r.length_read.outside)
      (index_performs words sizes l e t s c to rest x r.items 5 d' b (of_var (t + 1)) (λ i old. Gives old) _ f.0 eb (bound_word d (t + 1) (Number size) stamp) r.short (kept_at d' all) (omega arith)
      (λ i y at found.
      let m = r.element_known i y found in
      let read : IsRead d.storage (hk.number + 4 * i + 6) (Number m.0) = r.element_read i m.0 y found m.1 in
      let ei : word_in d' b ≡ Some (Number (fixnum_word (pos i))) = eb ∙ ap (λ z. Some (Number (fixnum_word z))) at in
      let small : hk.number + 4 * i < 2 ^ 31 = omega (arith, read.outside) in
      let d'' : Core = binding d' (var (t + 2)) (Number (hk.number + 4 * i)) None in
      let last : Binds t d' d'' = binds_one t d' (t + 2) (Number (hk.number + 4 * i)) None (omega arith) in
      compute_performs words sizes _ hk.number (fixnum_word (pos i)) (hk.number + 4 * i) ea ei (element_address hk.number i small)
      (load_gives words sizes l e t s c to rest d'' y (of_var (t + 2)) (hk.number + 4 * i) m.0 (pos 6) (kept_at d'' (binds_then t c d' d'' all last)) (bound_word d' (t + 2) (Number (hk.number + 4 * i)) None) read m.1)))))

  -- ---- strings and symbols

  pub string_length_performs : (a : Operand) (v : Val) → Has l s t c a v → performs words sizes l e t s c to rest (rows.with_string v s.store (λ bytes. Gives (FixV (pos (length bytes))))) 1 10 (Rattle.select_rows.specs.Macros.object a 0x15 13 t (Do (op.Load to a (pos 2)) rest)) c
  string_length_performs a v ha =
      object_performs words sizes l e t s c to rest t 0x15 13 2 NotString c a v (rows.with_string v s.store (λ bytes. Gives (FixV (pos (length bytes))))) _ (omega arith) ha keeps (omega arith)
      (λ d kd. fault_performs words sizes l e t s c to rest 13 NotString d refl kd)
      (λ other. ap (λ o. or_fault (option_and_then (text_of s.store) o) NotString (λ bytes. Gives (FixV (pos (length bytes))))) (not_string v other))
      (λ d header binds.
      let is = string_by_header v header in
      let hk : Has l s t d a (StringV is.0) = as_kind a v (StringV is.0) d is.1 (has_binds binds ha) in
      let r : IsTextRead s d.storage is.0 hk.number = text_is sizes l e s d.storage d.next d.output (kept_at d binds).data_held is.0 hk.number hk.is in
      by_row _ (Gives (FixV (pos (length r.bytes)))) 1 2 _ d
      (ap (λ y. rows.with_string y s.store (λ bytes. Gives (FixV (pos (length bytes))))) is.1 ∙ ap (λ o. or_fault o NotString (λ bytes. Gives (FixV (pos (length bytes))))) r.there)
      (load_gives words sizes l e t s c to rest d (FixV (pos (length r.bytes))) a hk.number (fixnum_word (pos (length r.bytes))) (pos 2) (kept_at d binds) hk.held r.length_read
      (fixnum_known l s (pos (length r.bytes)) (record { ranged = lt-ltb (length r.bytes) 536870912 r.short }))))

  pub symbol_text_performs : (a : Operand) (v : Val) → Has l s t c a v → performs words sizes l e t s c to rest (rows.with_symbol v (λ n. Gives (StringV (PrintName n)))) 1 10 (Rattle.select_rows.specs.Macros.object a 0x19 16 t (Do (op.Load to a (pos 6)) rest)) c
  symbol_text_performs a v ha =
      object_performs words sizes l e t s c to rest t 0x19 16 2 NotSymbol c a v (rows.with_symbol v (λ n. Gives (StringV (PrintName n)))) _ (omega arith) ha keeps (omega arith)
      (λ d kd. fault_performs words sizes l e t s c to rest 16 NotSymbol d refl kd)
      (λ other. ap (λ o. or_fault o NotSymbol (λ n. Gives (StringV (PrintName n)))) (not_symbol v other))
      (λ d header binds.
      let is = symbol_by_header v header in
      let hk : Has l s t d a (SymbolV is.0) = as_kind a v (SymbolV is.0) d is.1 (has_binds binds ha) in
      let r : IsSymbolRead l s d.storage is.0 hk.number = symbol_is sizes l e s d.storage d.next d.output (kept_at d binds).data_held is.0 hk.number hk.is in
      by_row _ (Gives (StringV (PrintName is.0))) 1 2 _ d (ap (λ y. rows.with_symbol y (λ n. Gives (StringV (PrintName n)))) is.1)
      (load_gives words sizes l e t s c to rest d (StringV (PrintName is.0)) a hk.number r.text (pos 6) (kept_at d binds) hk.held r.text_read r.text_is))

pub car_row : IsCodeOf builtin.Car (code_of builtin.Car)
car_row words sizes l e t s c to rest a v h ha = car_performs words sizes l e t s c to rest h a v ha

pub cdr_row : IsCodeOf builtin.Cdr (code_of builtin.Cdr)
cdr_row words sizes l e t s c to rest a v h ha = cdr_performs words sizes l e t s c to rest h a v ha

pub vector_length_row : IsCodeOf builtin.VectorLength (code_of builtin.VectorLength)
vector_length_row words sizes l e t s c to rest a v h ha = vector_length_performs words sizes l e t s c to rest h a v ha

pub vref_row : IsCodeOf builtin.Vref (code_of builtin.Vref)
vref_row words sizes l e t s c to rest a b v w h ha hb = vref_performs words sizes l e t s c to rest h a b v w ha hb

pub string_length_row : IsCodeOf builtin.StringLength (code_of builtin.StringLength)
string_length_row words sizes l e t s c to rest a v h ha = string_length_performs words sizes l e t s c to rest h a v ha

pub symbol_text_row : IsCodeOf builtin.SymbolToString (code_of builtin.SymbolToString)
symbol_text_row words sizes l e t s c to rest a v h ha = symbol_text_performs words sizes l e t s c to rest h a v ha
