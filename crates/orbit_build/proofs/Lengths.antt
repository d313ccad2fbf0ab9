-- The code of a built unit is short enough for an image.
use Rattle.std.proofs.Common.{◌≡◌, ℕ, ◌+◌, ◌*◌, ◌%◌, ◌^◌, ◌≤◌, List, [], ◌∷◌, ◌++◌, length, refl, ap, arith}
use Rattle.std.proofs.lemmas.List.{length-append, length-replicate}
use Rattle.m68020_code.specs.declared.instr.Instr.{Instr}
use Rattle.m68020_code.specs.declared.instr.Instr.TheVariants.{Trap}
use Rattle.m68020_code.specs.Table.{spelling}
use Rattle.m68020_code.proofs.Lengths.{spelling_words}
use Rattle.image_file.specs.Grammar.{IsImage}
use Rattle.orbit_build.specs.Sums.{Term, Literal, Sum}
use Rattle.orbit_build.specs.Code.{word, empty_list, load, save, add_saved, bytes_of, term_code, terms_code, unit_code, statics_bytes, image_of}
use Rattle.orbit_build.proofs.Sizes.{term_nodes}
use Rattle.orbit_build.proofs.Units.{total}

-- so many words of code at most
record Words (code : List ℕ) (most : ℕ) : Type 0 where
  count : ℕ
  length_is : length code ≡ 2 * count
  few : count ≤ most

one : (i : Instr) → Words (spelling i) 5
one i = let w = spelling_words i in record { count = w.count; length_is = w.length; few = w.small }

both : (a b : List ℕ) (m n : ℕ) → Words a m → Words b n → Words (a ++ b) (m + n)
both a b m n h k = record { count = h.count + k.count; length_is = omega (arith, length-append a b, h.length_is, k.length_is); few = omega (arith, h.few, k.few) }

none : Words [] 0
none = record { count = 0; length_is = refl; few = omega arith }

within : (code : List ℕ) (m n : ℕ) → m ≤ n → Words code m → Words code n
within code m n le h = record { count = h.count; length_is = h.length_is; few = omega (arith, h.few, le) }

all : (code : List Instr) → Words (bytes_of code) (5 * length code)
all [] = none
all (i ∷ is) = within _ _ _ (omega arith) (both _ _ _ _ (one i) (all is))

term_words : (t : Term) (depth : ℕ) → Words (term_code depth t) (30 * term_nodes t)
term_words (Literal v) depth = within _ _ _ (omega arith) (one (load (word v)))
term_words (Sum a b) depth =
    within _ _ _ (omega arith) (both _ _ _ _ (term_words a depth) (both _ _ _ _ (one (save depth)) (both _ _ _ _ (term_words b (depth + 1)) (all (add_saved depth)))))

terms_words : (ts : List Term) → Words (terms_code ts) (30 * total ts)
terms_words [] = within _ _ _ (omega arith) none
terms_words (t ∷ ts) = within _ _ _ (omega arith) (both _ _ _ _ (term_words t 0) (terms_words ts))

unit_words : (ts : List Term) → total ts ≤ 4194304 → Words (unit_code ts) (2 ^ 27)
unit_words ts few = within _ _ _ (omega (arith, few)) (both _ _ _ _ (one (load empty_list)) (both _ _ _ _ (terms_words ts) (one (Trap 0))))

pub code_short : (ts : List Term) → total ts ≤ 4194304 → length (unit_code ts) ≤ 2 ^ 28
code_short ts few = let w = unit_words ts few in omega (arith, w.length_is, w.few)

pub is_image : (ts : List Term) → total ts ≤ 4194304 → IsImage (image_of ts)
is_image ts few =
    let w = unit_words ts few in
    let first = spelling_words (load empty_list) in
    let some : 2 ≤ length (unit_code ts) = omega (arith, length-append (spelling (load empty_list)) (terms_code ts ++ spelling (Trap 0)), first.length, first.some) in
    record {
      entry_even = refl;
      entry_from = omega arith;
      entry_to = omega (arith, some);
      code_even = omega (arith, w.length_is);
      code_some = some;
      code_short = omega (arith, w.length_is, w.few);
      statics_whole = ap (λ (n : ℕ). n % 8) (length-replicate {A = ℕ} statics_bytes 0);
      statics_short = let n = length-replicate {A = ℕ} statics_bytes 0 in omega (arith, n);
      names = tt;
      names_short = omega arith;
      names_distinct = λ i j d lt none e. omega (arith, none);
    }
