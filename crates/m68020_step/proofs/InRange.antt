-- Operands of registers and storage in range are in range, and so is what is stored.
use Rattle.std.proofs.Common.{◌≡◌, ℕ, zero, suc, ◌-◌, ◌^◌, ◌<◌, Bool, true, false, ltb, List, [], ◌∷◌, ◌++◌, take, drop, get_or, set, Option, Some, None, refl, ◌∙◌, arith, inl, inr}
use Rattle.std.specs.Prelude.{ℤ, pos, negsuc, if◌then◌else◌, Result, Ok, Err, slice_index, int_rem, option_map}
use Rattle.std.specs.Int.{w32, from_be_bytes, to_be_bytes, int_shr}
use Rattle.std.proofs.lemmas.List.{length-set}
use Rattle.std.proofs.lemmas.Bool.{ltb-true}
use Rattle.std.proofs.lemmas.Bool.Decides.{leb_tells}
use lib.Signed.{mag, mag_rem, mag_shr}
use Rattle.m68020_code.specs.declared.instr.Ea.{Ea}
use Rattle.m68020_code.specs.declared.instr.Ea.TheVariants.{D, A, Ind, Post, Pre, Disp, Abs, Imm}
use Rattle.m68020_code.specs.declared.instr.Ea.TheVariants as ea
use Rattle.m68020_code.specs.Table.{fits, is_all}
use Rattle.m68020_step.specs.declared.registers.Flags.{Flags}
use Rattle.m68020_step.specs.declared.registers.Registers.{Registers}
use Rattle.m68020_step.specs.declared.registers.Why.{Why}
use Rattle.m68020_step.specs.declared.registers.Why.TheVariants.{BadAddress}
use Rattle.m68020_step.specs.declared.registers.Effect.{Effect}
use Rattle.m68020_step.specs.declared.registers.Effect.TheVariants.{Nothing, WriteByte, WriteLong, Service}
use Rattle.m68020_step.specs.declared.registers.Next.{Next}
use Rattle.m68020_step.specs.declared.operand.OperandSize.{OperandSize}
use Rattle.m68020_step.specs.declared.operand.OperandSize.TheVariants.{Byte, Long}
use Rattle.m68020_step.specs.declared.operand.Place.{Place}
use Rattle.m68020_step.specs.declared.operand.Place.TheVariants.{Data, Address, Memory, Value}
use Rattle.m68020_step.specs.declared.storage.TheConstants.{CODE_START, STATICS_START, HEAP_START, STACK_START}
use Rattle.m68020_step.specs.Word.{wrap, signed, unsigned}
use Rattle.m68020_step.specs.Storage.{Regions, lies_in, bytes_in, bytes_at, byte_at, long_at, can_write}
use Rattle.m68020_step.specs.Operand.{◌>>=◌, next, with_data, with_address, with_flags, with_pc, address_of, Located, located, or_bad_address, read_long, read_byte, Fetched, long_operand, byte_operand, store_long, store_byte, change_long}
use Rattle.m68020_step.specs.Ranges.{AreBytes, HasLongs, HasBytes}

-- ---- numbers

pub wrap_lt : (n : ℕ) → wrap n < 2 ^ 32
wrap_lt n = omega arith

signed_small : (n : ℕ) → n < 2 ^ 32 → mag (signed n) < 2 ^ 31
signed_small n lt = elim (leb_tells (suc n) (2 ^ 31)) [
  | inl p ↦ rw p.0 p.1
  | inr p ↦ rw p.0 (omega (arith, p.1))
]

pub unsigned_lt : (z : ℤ) → mag z < 2 ^ 31 → unsigned z < 2 ^ 32
unsigned_lt (pos n) h = omega arith
unsigned_lt (negsuc n) h = omega arith

pub fits_small : (z : ℤ) → fits (2 ^ 31) z ≡ true → mag z < 2 ^ 31
fits_small (pos n) h = ltb-true n (2 ^ 31) h
fits_small (negsuc n) h = ltb-true n (2 ^ 31) h

pub shifted_lt : (n k : ℕ) → n < 2 ^ 32 → unsigned (int_shr (signed n) k) < 2 ^ 32
shifted_lt n k lt = unsigned_lt (int_shr (signed n) k) (omega (arith, mag_shr (signed n) (2 ^ k), signed_small n lt))

pub remainder_lt : (n d : ℕ) → n < 2 ^ 32 → unsigned (int_rem (signed n) (signed d)) < 2 ^ 32
remainder_lt n d lt = unsigned_lt (int_rem (signed n) (signed d)) (omega (arith, mag_rem (signed n) (signed d), signed_small n lt))

-- ---- lists

pub below_set : (bound : ℕ) (s : List ℕ) (i v : ℕ) → ((j : ℕ) → get_or s j 0 < bound) → v < bound → (j : ℕ) → get_or (set s i v) j 0 < bound
below_set bound [] i v h lt j = h j
below_set bound (x ∷ s) zero v h lt zero = lt
below_set bound (x ∷ s) zero v h lt (suc j) = h (suc j)
below_set bound (x ∷ s) (suc i) v h lt zero = h zero
below_set bound (x ∷ s) (suc i) v h lt (suc j) = below_set bound s i v (λ k. h (suc k)) lt j

pub below_append : (bound : ℕ) (s t : List ℕ) → ((j : ℕ) → get_or s j 0 < bound) → ((j : ℕ) → get_or t j 0 < bound) → (j : ℕ) → get_or (s ++ t) j 0 < bound
below_append bound [] t h k j = k j
below_append bound (x ∷ s) t h k zero = h zero
below_append bound (x ∷ s) t h k (suc j) = below_append bound s t (λ i. h (suc i)) k j

pub below_take : (bound n : ℕ) (s : List ℕ) → ((j : ℕ) → get_or s j 0 < bound) → (j : ℕ) → get_or (take n s) j 0 < bound
below_take bound zero s h j = omega (arith, h j)
below_take bound (suc n) [] h j = h j
below_take bound (suc n) (x ∷ s) h zero = h zero
below_take bound (suc n) (x ∷ s) h (suc j) = below_take bound n s (λ i. h (suc i)) j

pub below_drop : (bound n : ℕ) (s : List ℕ) → ((j : ℕ) → get_or s j 0 < bound) → (j : ℕ) → get_or (drop n s) j 0 < bound
below_drop bound zero s h j = h j
below_drop bound (suc n) [] h j = h j
below_drop bound (suc n) (x ∷ s) h j = below_drop bound n s (λ i. h (suc i)) j

-- four bytes make a long word
long_lt : (bytes : List ℕ) → AreBytes bytes → from_be_bytes w32 bytes < 2 ^ 32
long_lt bytes h = omega (arith, h 0, h 1, h 2, h 3)

-- a long word makes four bytes
pub bytes_of_long : (v : ℕ) → AreBytes (to_be_bytes w32 v)
bytes_of_long v zero = omega arith
bytes_of_long v (suc zero) = omega arith
bytes_of_long v (suc (suc zero)) = omega arith
bytes_of_long v (suc (suc (suc zero))) = omega arith
bytes_of_long v (suc (suc (suc (suc j)))) = omega arith

-- ---- registers

pub data_fits : (r : Registers) (i v : ℕ) → HasLongs r → v < 2 ^ 32 → HasLongs (with_data r i v)
data_fits r i v h lt = record { d_count = length-set r.d i v ∙ h.d_count; a_count = h.a_count; d = below_set (2 ^ 32) r.d i v h.d lt; a = h.a; pc = h.pc }

pub address_fits : (r : Registers) (i v : ℕ) → HasLongs r → v < 2 ^ 32 → HasLongs (with_address r i v)
address_fits r i v h lt = record { d_count = h.d_count; a_count = length-set r.a i v ∙ h.a_count; d = h.d; a = below_set (2 ^ 32) r.a i v h.a lt; pc = h.pc }

pub pc_fits : (r : Registers) (at : ℕ) → HasLongs r → at < 2 ^ 32 → HasLongs (with_pc r at)
pc_fits r at h lt = record { d_count = h.d_count; a_count = h.a_count; d = h.d; a = h.a; pc = lt }

pub flags_fit : (r : Registers) (f : Flags) → HasLongs r → HasLongs (with_flags r f)
flags_fit r f h = record { d_count = h.d_count; a_count = h.a_count; d = h.d; a = h.a; pc = h.pc }

-- ---- operands

abbrev pub PlaceFits : Place → Type 0
PlaceFits (Value v) = v < 2 ^ 32
PlaceFits (Data i) = Unit {0}
PlaceFits (Address i) = Unit {0}
PlaceFits (Memory at) = Unit {0}

pub record LocatedFits (l : Located) : Type 0 where
  pub registers : HasLongs l.registers
  pub place : PlaceFits l.place

pub located_fits : (size : OperandSize) (r : Registers) (e : Ea) → is_all e ≡ true → HasLongs r → LocatedFits (located size r e)
unfolding located
located_fits size r (D i) row h = record { registers = h; place = tt }
located_fits size r (A i) row h = record { registers = h; place = tt }
located_fits size r (Ind i) row h = record { registers = h; place = tt }
located_fits size r (Post i) row h = record { registers = address_fits r i _ h (wrap_lt _); place = tt }
located_fits size r (Pre i) row h = record { registers = address_fits r i _ h (wrap_lt _); place = tt }
located_fits size r (Disp i disp) row h = record { registers = h; place = tt }
located_fits size r (ea.Index i x disp) row h = record { registers = h; place = tt }
located_fits size r (Abs at) row h = record { registers = h; place = tt }
located_fits size r (Imm v) row h = record { registers = h; place = ltb-true v (2 ^ 32) row }

pub address_lt : (r : Registers) (e : Ea) → is_all e ≡ true → HasLongs r → address_of r e < 2 ^ 32
unfolding address_of
address_lt r (D i) row h = omega arith
address_lt r (A i) row h = omega arith
address_lt r (Ind i) row h = h.a i
address_lt r (Post i) row h = omega arith
address_lt r (Pre i) row h = omega arith
address_lt r (Disp i disp) row h = wrap_lt _
address_lt r (ea.Index i x disp) row h = wrap_lt _
address_lt r (Abs at) row h = ltb-true at (2 ^ 32) row
address_lt r (Imm v) row h = omega arith

-- ---- reading

abbrev BytesFit : Option (List ℕ) → Type 0
BytesFit (Some s) = AreBytes s
BytesFit None = Unit {0}

either_fits : (b : Bool) (x y : Option (List ℕ)) → BytesFit x → BytesFit y → BytesFit (if b then x else y)
either_fits true x y h k = h
either_fits false x y h k = k

bytes_in_fit : (start : ℕ) (bytes : List ℕ) (at len : ℕ) → AreBytes bytes → BytesFit (bytes_in start bytes at len)
bytes_in_fit start bytes at len h = either_fits (lies_in start bytes at len) _ _ (below_take 256 len (drop (at - start) bytes) (below_drop 256 (at - start) bytes h)) tt

bytes_fit : (m : Regions) (at len : ℕ) → HasBytes m → BytesFit (bytes_at m at len)
unfolding bytes_at
bytes_fit m at len h =
    either_fits (ltb at STATICS_START) _ _ (bytes_in_fit CODE_START m.code at len h.code)
    (either_fits (ltb at HEAP_START) _ _ (bytes_in_fit STATICS_START m.statics at len h.statics)
    (either_fits (ltb at STACK_START) _ _ (bytes_in_fit HEAP_START m.heap at len h.heap) (bytes_in_fit STACK_START m.stack at len h.stack)))

abbrev ValueFits : ℕ → Result ℕ Why → Type 0
ValueFits bound (Ok v) = v < bound
ValueFits bound (Err why) = Unit {0}

long_fits : (m : Regions) (at : ℕ) → HasBytes m → ValueFits (2 ^ 32) (or_bad_address (long_at m at))
unfolding long_at
long_fits m at h = by_bytes (bytes_at m at 4) (bytes_fit m at 4 h)
  where
    by_bytes : (o : Option (List ℕ)) → BytesFit o → ValueFits (2 ^ 32) (or_bad_address (option_map (λ bytes. from_be_bytes w32 bytes) o))
    by_bytes (Some s) h = long_lt s h
    by_bytes None h = tt

byte_fits : (m : Regions) (at : ℕ) → HasBytes m → ValueFits 256 (or_bad_address (byte_at m at))
unfolding byte_at
byte_fits m at h = by_bytes (bytes_at m at 1) (bytes_fit m at 1 h)
  where
    by_bytes : (o : Option (List ℕ)) → BytesFit o → ValueFits 256 (or_bad_address (option_map (λ bytes. slice_index bytes 0) o))
    by_bytes (Some s) h = h 0
    by_bytes None h = tt

read_long_fits : (m : Regions) (r : Registers) (p : Place) → HasBytes m → HasLongs r → PlaceFits p → ValueFits (2 ^ 32) (read_long m r p)
unfolding read_long
read_long_fits m r (Data i) k h fit = h.d i
read_long_fits m r (Address i) k h fit = h.a i
read_long_fits m r (Memory at) k h fit = long_fits m at k
read_long_fits m r (Value v) k h fit = fit

read_byte_fits : (m : Regions) (r : Registers) (p : Place) → HasBytes m → ValueFits 256 (read_byte m r p)
unfolding read_byte
read_byte_fits m r (Data i) k = omega arith
read_byte_fits m r (Address i) k = omega arith
read_byte_fits m r (Memory at) k = byte_fits m at k
read_byte_fits m r (Value v) k = omega arith

abbrev pub FetchFits : ℕ → Result Fetched Why → Type 0
FetchFits bound (Ok f) = HasLongs f.registers × (f.value < bound)
FetchFits bound (Err why) = Unit {0}

fetched : (bound : ℕ) (o : Result ℕ Why) (r : Registers) → HasLongs r → ValueFits bound o → FetchFits bound (o >>= λ v. Ok (record { value = v; registers = r }))
fetched bound (Ok v) r h k = (h, k)
fetched bound (Err why) r h k = tt

pub long_operand_fits : (m : Regions) (r : Registers) (e : Ea) → is_all e ≡ true → HasBytes m → HasLongs r → FetchFits (2 ^ 32) (long_operand m r e)
unfolding long_operand
long_operand_fits m r e row k h =
    let l = located_fits Long r e row h in
    fetched (2 ^ 32) _ _ l.registers (read_long_fits m _ _ k l.registers l.place)

pub byte_operand_fits : (m : Regions) (r : Registers) (e : Ea) → is_all e ≡ true → HasBytes m → HasLongs r → FetchFits 256 (byte_operand m r e)
unfolding byte_operand
byte_operand_fits m r e row k h =
    let l = located_fits Byte r e row h in
    fetched 256 _ _ l.registers (read_byte_fits m _ _ k)

-- ---- outcomes

abbrev pub EffectFits : Regions → Effect → Type 0
EffectFits m (WriteByte at v) = (can_write m at 1 ≡ true) × (v < 256)
EffectFits m (WriteLong at v) = can_write m at 4 ≡ true
EffectFits m Nothing = Unit {0}
EffectFits m (Service v) = Unit {0}

abbrev pub Fits : Regions → Result Next Why → Type 0
Fits m (Ok x) = HasLongs x.registers × EffectFits m x.effect
Fits m (Err why) = Unit {0}

pub bind_fits : (m : Regions) (bound : ℕ) (o : Result Fetched Why) (f : Fetched → Result Next Why) → FetchFits bound o → ((x : Fetched) → HasLongs x.registers → x.value < bound → Fits m (f x)) → Fits m (o >>= f)
bind_fits m bound (Ok x) f h k = k x h.0 h.1
bind_fits m bound (Err why) f h k = tt

pub either_outcome : (m : Regions) (b : Bool) (x y : Result Next Why) → (b ≡ true → Fits m x) → Fits m y → Fits m (if b then x else y)
either_outcome m true x y h k = h refl
either_outcome m false x y h k = k

pub store_long_fits : (m : Regions) (r : Registers) (p : Place) (v : ℕ) (f : Flags) → HasLongs r → v < 2 ^ 32 → Fits m (store_long m r p v f)
unfolding store_long
store_long_fits m r (Data i) v f h lt = (flags_fit _ f (data_fits r i v h lt), tt)
store_long_fits m r (Address i) v f h lt = (flags_fit _ f (address_fits r i v h lt), tt)
store_long_fits m r (Memory at) v f h lt = by_test (can_write m at 4) refl
  where
    by_test : (b : Bool) → can_write m at 4 ≡ b → Fits m (if b then next (with_flags r f) (WriteLong at v) else Err BadAddress)
    by_test true e = (flags_fit r f h, e)
    by_test false e = tt
store_long_fits m r (Value w) v f h lt = tt

pub store_byte_fits : (m : Regions) (r : Registers) (p : Place) (v : ℕ) (f : Flags) → HasLongs r → v < 256 → Fits m (store_byte m r p v f)
unfolding store_byte
store_byte_fits m r (Data i) v f h lt = (flags_fit _ f (data_fits r i _ h (omega (arith, h.d i))), tt)
store_byte_fits m r (Address i) v f h lt = tt
store_byte_fits m r (Memory at) v f h lt = by_test (can_write m at 1) refl
  where
    by_test : (b : Bool) → can_write m at 1 ≡ b → Fits m (if b then next (with_flags r f) (WriteByte at v) else Err BadAddress)
    by_test true e = (flags_fit r f h, (e, lt))
    by_test false e = tt
store_byte_fits m r (Value w) v f h lt = tt

pub change_long_fits : (m : Regions) (r : Registers) (p : Place) (operation : ℕ → ℕ) (flags : ℕ → Flags) → HasBytes m → HasLongs r → PlaceFits p → ((v : ℕ) → v < 2 ^ 32 → operation v < 2 ^ 32)
    → Fits m (change_long m r p operation flags)
unfolding change_long
change_long_fits m r p operation flags k h fit small = by_value (read_long m r p) (read_long_fits m r p k h fit)
  where
    by_value : (o : Result ℕ Why) → ValueFits (2 ^ 32) o → Fits m (o >>= λ v. store_long m r p (operation v) (flags v))
    by_value (Ok v) lt = store_long_fits m r p (operation v) (flags v) h (small v lt)
    by_value (Err why) lt = tt
