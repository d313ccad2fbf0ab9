-- What is read after a write.
use Rattle.std.proofs.Common.{◌≡◌, ℕ, suc, ◌+◌, ◌-◌, ◌^◌, ◌<◌, ◌≤◌, Bool, true, false, List, ◌++◌, length, take, drop, Option, Some, refl, sym, ap, ◌∙◌, append_assoc, arith, inl, inr, ◌⊎◌, leb}
use Rattle.std.specs.Prelude.{if◌then◌else◌, nat_lt, None}
use Rattle.std.specs.Int.{w32, to_be_bytes}
use Rattle.std.proofs.lemmas.Bool.{and_parts, lt-ltb, le-ltb, le-leb, leb-true}
use Rattle.std.proofs.lemmas.Bool.Decides.{leb_tells}
use Rattle.std.proofs.lemmas.Nat.{from_be_bytes-to_be_bytes_4}
use Rattle.std.proofs.lemmas.List.{length-append, take-append-le, take-take, length-take, length-take-le, length-drop, drop-take, take_at, drop_at}
use Rattle.std.proofs.lemmas.Slice.{drop-append-drop}
use Rattle.m68020_step.specs.declared.storage.TheConstants.{CODE_START, STATICS_START, HEAP_START, STACK_START}
use Rattle.m68020_step.specs.Storage.{Regions, lies_in, bytes_in, bytes_at, byte_at, long_at, can_write, spliced, with_bytes, with_long, SameShape}

length_spliced : (bytes : List ℕ) (i : ℕ) (text : List ℕ) → i + length text ≤ length bytes → length (spliced bytes i text) ≡ length bytes
length_spliced bytes i text le = simp (length-append, length-take, length-drop) (omega arith)

-- the bytes written stand there
taken_same : (bytes : List ℕ) (i : ℕ) (text : List ℕ) → i + length text ≤ length bytes → take (length text) (drop i (spliced bytes i text)) ≡ text
taken_same bytes i text le =
    let front : length (take i bytes) ≡ i = length-take-le i bytes (omega arith) in
    rw (append_assoc (take i bytes) text (drop (i + length text) bytes), drop_at (take i bytes) (text ++ drop (i + length text) bytes) i front)
    (take_at text (drop (i + length text) bytes) (length text) refl)

-- the bytes before them are as before
taken_before : (bytes : List ℕ) (i : ℕ) (text : List ℕ) (j len : ℕ) → i + length text ≤ length bytes → j + len ≤ i → take len (drop j (spliced bytes i text)) ≡ take len (drop j bytes)
taken_before bytes i text j len le before =
    let front : length (take i bytes) ≡ i = length-take-le i bytes (omega arith) in
    let same : take (j + len) (spliced bytes i text) ≡ take (j + len) bytes =
    take-append-le (j + len) (take i bytes ++ text) (drop (i + length text) bytes) (omega (arith, front, length-append (take i bytes) text))
    ∙ take-append-le (j + len) (take i bytes) text (omega (arith, front))
    ∙ take-take (j + len) i bytes before in
    sym (drop-take j len (spliced bytes i text)) ∙ ap (drop j) same ∙ drop-take j len bytes

-- and so are those behind them
taken_behind : (bytes : List ℕ) (i : ℕ) (text : List ℕ) (j len : ℕ) → i + length text ≤ length bytes → i + length text ≤ j → take len (drop j (spliced bytes i text)) ≡ take len (drop j bytes)
taken_behind bytes i text j len le behind =
    let front : length (take i bytes) ≡ i = length-take-le i bytes (omega arith) in
    ap (take len) (drop-append-drop (i + length text) bytes (take i bytes ++ text) j behind (omega (arith, front, length-append (take i bytes) text)))

-- ---- in one region

-- what lies there, in numbers
pub record Lies (start : ℕ) (bytes : List ℕ) (at len : ℕ) : Type 0 where
  pub low : start ≤ at
  pub high : at - start + len ≤ length bytes

lies : (start : ℕ) (bytes : List ℕ) (at len : ℕ) → lies_in start bytes at len ≡ true → Lies start bytes at len
lies start bytes at len h =
    let p = and_parts (leb start at) (leb (at - start + len) (length bytes)) h in
    record { low = leb-true start at p.0; high = leb-true (at - start + len) (length bytes) p.1 }

-- so many bytes apart from each other
abbrev pub Apart : ℕ → ℕ → ℕ → ℕ → Type 0
Apart at len other more = (other + more ≤ at) ⊎ (at + len ≤ other)

written_in : (start : ℕ) (bytes : List ℕ) (at : ℕ) (text : List ℕ) → lies_in start bytes at (length text) ≡ true
    → bytes_in start (spliced bytes (at - start) text) at (length text) ≡ Some text
written_in start bytes at text h =
    let l = lies start bytes at (length text) h in
    rw (length_spliced bytes (at - start) text l.high, h, taken_same bytes (at - start) text l.high) refl

kept_in : (start : ℕ) (bytes : List ℕ) (at : ℕ) (text : List ℕ) (other more : ℕ) → lies_in start bytes at (length text) ≡ true → Apart at (length text) other more
    → bytes_in start (spliced bytes (at - start) text) other more ≡ bytes_in start bytes other more
kept_in start bytes at text other more h apart =
    let l = lies start bytes at (length text) h in
    rw (length_spliced bytes (at - start) text l.high) (by_test (lies_in start bytes other more) refl)
  where
    by_test : (b : Bool) → lies_in start bytes other more ≡ b → (if b then Some (take more (drop (other - start) (spliced bytes (at - start) text))) else None) ≡ (if b then Some (take more (drop (other - start) bytes)) else None)
    by_test false e = refl
    by_test true e =
        let l = lies start bytes at (length text) h in
        let o = lies start bytes other more e in
        ap Some (elim apart [
          | inl before ↦ taken_before bytes (at - start) text (other - start) more l.high (omega (arith, before, l.low, o.low))
          | inr behind ↦ taken_behind bytes (at - start) text (other - start) more l.high (omega (arith, behind, l.low, o.low))
        ])

-- ---- in storage

-- the region of an address that may be written, by its number
which : (m : Regions) (at len : ℕ) → can_write m at len ≡ true
    → ((STATICS_START ≤ at) × (at < HEAP_START) × (lies_in STATICS_START m.statics at len ≡ true))
    ⊎ (((HEAP_START ≤ at) × (at < STACK_START) × (lies_in HEAP_START m.heap at len ≡ true))
    ⊎ ((STACK_START ≤ at) × (lies_in STACK_START m.stack at len ≡ true)))
unfolding can_write
which m at len h = elim (leb_tells (suc at) HEAP_START) [
  | inl p ↦
      let k : lies_in STATICS_START m.statics at len ≡ true = rw p.0 at h in
      inl ((lies STATICS_START m.statics at len k).low, p.1, k)
  | inr p ↦ elim (leb_tells (suc at) STACK_START) [
    | inl q ↦
        let k : lies_in HEAP_START m.heap at len ≡ true = rw (p.0, q.0) at h in
        inr (inl (omega (arith, p.1), q.1, k))
    | inr q ↦
        let k : lies_in STACK_START m.stack at len ≡ true = rw (p.0, q.0) at h in
        inr (inr (omega (arith, q.1), k))
  ]
]

-- the bytes written are read again
pub bytes_written : (m : Regions) (at : ℕ) (text : List ℕ) → can_write m at (length text) ≡ true → bytes_at (with_bytes m at text) at (length text) ≡ Some text
unfolding bytes_at with_bytes
bytes_written m at text h = elim (which m at (length text) h) [
  | inl p ↦ rw (le-ltb at STATICS_START p.0, lt-ltb at HEAP_START p.1) (written_in STATICS_START m.statics at text p.2)
  | inr p ↦ elim p [
    | inl p ↦ rw (le-ltb at STATICS_START (omega (arith, p.0)), le-ltb at HEAP_START p.0, lt-ltb at STACK_START p.1) (written_in HEAP_START m.heap at text p.2)
    | inr p ↦ rw (le-ltb at STATICS_START (omega (arith, p.0)), le-ltb at HEAP_START (omega (arith, p.0)), le-ltb at STACK_START p.0) (written_in STACK_START m.stack at text p.1)
  ]
]

-- the bytes at an address, by what each region has there
abbrev by_region : ℕ → Option (List ℕ) → Option (List ℕ) → Option (List ℕ) → Option (List ℕ) → Option (List ℕ)
by_region at code statics heap stack = if nat_lt at STATICS_START then code else if nat_lt at HEAP_START then statics else if nat_lt at STACK_START then heap else stack

-- bytes that are apart from those written are as before, and so is code
pub bytes_kept : (m : Regions) (at : ℕ) (text : List ℕ) (other more : ℕ) → can_write m at (length text) ≡ true → Apart at (length text) other more
    → bytes_at (with_bytes m at text) other more ≡ bytes_at m other more
unfolding bytes_at with_bytes
bytes_kept m at text other more h apart =
    let code : Option (List ℕ) = bytes_in CODE_START m.code other more in
    let statics : Option (List ℕ) = bytes_in STATICS_START m.statics other more in
    let heap : Option (List ℕ) = bytes_in HEAP_START m.heap other more in
    let stack : Option (List ℕ) = bytes_in STACK_START m.stack other more in
    elim (which m at (length text) h) [
      | inl p ↦ rw (lt-ltb at HEAP_START p.1) (ap (λ (now : Option (List ℕ)). by_region other code now heap stack) (kept_in STATICS_START m.statics at text other more p.2 apart))
      | inr p ↦ elim p [
        | inl p ↦ rw (le-ltb at HEAP_START p.0, lt-ltb at STACK_START p.1) (ap (λ (now : Option (List ℕ)). by_region other code statics now stack) (kept_in HEAP_START m.heap at text other more p.2 apart))
        | inr p ↦ rw (le-ltb at HEAP_START (omega (arith, p.0)), le-ltb at STACK_START p.0) (ap (λ (now : Option (List ℕ)). by_region other code statics heap now) (kept_in STACK_START m.stack at text other more p.1 apart))
      ]
    ]

-- ---- long words

-- a long word written is read again
pub long_written : (m : Regions) (at v : ℕ) → v < 2 ^ 32 → can_write m at 4 ≡ true → long_at (with_long m at v) at ≡ Some v
unfolding long_at
long_written m at v lt h = rw (bytes_written m at (to_be_bytes w32 v) h) (ap (λ (n : ℕ). Some n) (from_be_bytes-to_be_bytes_4 v lt))

-- a long word apart from one written is as before
pub long_kept : (m : Regions) (at v other : ℕ) → can_write m at 4 ≡ true → Apart at 4 other 4 → long_at (with_long m at v) other ≡ long_at m other
unfolding long_at
long_kept m at v other h apart = rw (bytes_kept m at (to_be_bytes w32 v) other 4 h apart) refl

-- a byte apart from a long word written is as before
pub byte_kept : (m : Regions) (at v other : ℕ) → can_write m at 4 ≡ true → Apart at 4 other 1 → byte_at (with_long m at v) other ≡ byte_at m other
unfolding byte_at
byte_kept m at v other h apart = rw (bytes_kept m at (to_be_bytes w32 v) other 1 h apart) refl

-- what may be written after a write is what could be before
pub can_write_kept : (m : Regions) (at : ℕ) (text : List ℕ) (other more : ℕ) → can_write m at (length text) ≡ true → can_write (with_bytes m at text) other more ≡ can_write m other more
unfolding can_write with_bytes
can_write_kept m at text other more h = elim (which m at (length text) h) [
  | inl p ↦ rw (lt-ltb at HEAP_START p.1, length_spliced m.statics (at - STATICS_START) text (lies STATICS_START m.statics at (length text) p.2).high) refl
  | inr p ↦ elim p [
    | inl p ↦ rw (le-ltb at HEAP_START p.0, lt-ltb at STACK_START p.1, length_spliced m.heap (at - HEAP_START) text (lies HEAP_START m.heap at (length text) p.2).high) refl
    | inr p ↦ rw (le-ltb at HEAP_START (omega (arith, p.0)), le-ltb at STACK_START p.0, length_spliced m.stack (at - STACK_START) text (lies STACK_START m.stack at (length text) p.1).high) refl
  ]
]

-- a long word of statics may be written
pub can_write_statics : (m : Regions) (at : ℕ) → STATICS_START ≤ at → at + 4 ≤ STATICS_START + length m.statics → length m.statics ≤ 2 ^ 29 → can_write m at 4 ≡ true
unfolding can_write
can_write_statics m at low high small = rw (lt-ltb at HEAP_START (omega arith), le-leb STATICS_START at low, le-leb (at - STATICS_START + 4) (length m.statics) (omega arith)) refl

-- a write leaves code as it is
pub code_kept : (m : Regions) (at : ℕ) (text : List ℕ) → (with_bytes m at text).code ≡ m.code
unfolding with_bytes
code_kept m at text = elim (leb_tells (suc at) HEAP_START) [
  | inl p ↦ rw p.0 refl
  | inr p ↦ elim (leb_tells (suc at) STACK_START) [
    | inl q ↦ rw (p.0, q.0) refl
    | inr q ↦ rw (p.0, q.0) refl
  ]
]

-- and every region as long as it is
pub shape_kept : (m : Regions) (at : ℕ) (text : List ℕ) → can_write m at (length text) ≡ true → SameShape m (with_bytes m at text)
unfolding with_bytes
shape_kept m at text h = elim (which m at (length text) h) [
  | inl p ↦ rw (lt-ltb at HEAP_START p.1) (record { code = refl; statics = length_spliced m.statics (at - STATICS_START) text (lies STATICS_START m.statics at (length text) p.2).high; heap = refl; stack = refl })
  | inr p ↦ elim p [
    | inl p ↦ rw (le-ltb at HEAP_START p.0, lt-ltb at STACK_START p.1) (record { code = refl; statics = refl; heap = length_spliced m.heap (at - HEAP_START) text (lies HEAP_START m.heap at (length text) p.2).high; stack = refl })
    | inr p ↦ rw (le-ltb at HEAP_START (omega (arith, p.0)), le-ltb at STACK_START p.0) (record { code = refl; statics = refl; heap = refl; stack = length_spliced m.stack (at - STACK_START) text (lies STACK_START m.stack at (length text) p.1).high })
  ]
]
