-- What the bytes of an atom's token are.
use Rattle.std.proofs.Common.{◌≡◌, ℕ, zero, suc, ◌+◌, ◌-◌, ◌<◌, ◌≤◌, Bool, true, false, not, cond, List, [], ◌∷◌, ◌++◌, length, take, drop, map, max, Option, Some, None, refl, sym, ap, subst, ◌∙◌, arith, append_assoc, ◌&&◌}
use Rattle.std.specs.Prelude.{◌==◌, ◌||◌, nat_lt, nat_le, slice_range, codes, pos, neg_ℤ}
use Rattle.std.specs.List.{list_all, prefix_len}
use Rattle.std.specs.Char.{to_ascii_lowercase}
use Rattle.std.proofs.Math.Seq.{drop-append_seam, take-append_seam}
use Rattle.std.proofs.lemmas.Bool.Decides.{nat_tests}
use Rattle.std.proofs.lemmas.Int.{ints}
use Rattle.std.proofs.lemmas.List.{length-append, take-append-drop}
use Rattle.std.proofs.lemmas.List.Folds.{length-prefix_len, list_all-append}
use Rattle.t_reader.specs.declared.token.Word.{Word}
use Rattle.t_reader.specs.declared.token.Token.{Token}
use Rattle.t_reader.specs.Tokens.{is_blank, is_digit, is_letter, is_constituent, is_string_byte, is_word, behind_blanks, run_len, is_number, value_of, fix_word, plain_word, signed_word, atom_word, atom_token, string_token, char_of, char_run, char_or_bad, char_token, truth_token, hash_token, first_token, token_at, IsFixnum, are_ascii, is_name_byte, is_name, WordFits, Fits}

-- ---- tests

either : (p q : Bool) {X : Type 0} → (p || q) ≡ true → (p ≡ true → X) → (q ≡ true → X) → X
either true q e f g = f refl
either false q e f g = g e

first : (p q : Bool) → (p && q) ≡ true → p ≡ true
first true q e = refl
first false q e = cc

choose : (P : Token → Type 0) (c : Bool) {x y : Token} → (c ≡ true → P x) → (c ≡ false → P y) → P (cond c x y)
choose P true f g = f refl
choose P false f g = g refl

choose_word : (P : Word → Type 0) (c : Bool) {x y : Word} → (c ≡ true → P x) → (c ≡ false → P y) → P (cond c x y)
choose_word P true f g = f refl
choose_word P false f g = g refl

-- ---- the bytes of a name

abbrev IsNameByte : ℕ → Type 0
IsNameByte b = (33 ≤ b) × (b ≤ 126)

at_byte : (b n : ℕ) → 33 ≤ n → n ≤ 126 → (b == n) ≡ true → IsNameByte b
at_byte b n p q e = let same : b ≡ n = grind (arith, nat_tests) in (omega arith, omega arith)

letter_byte : (b : ℕ) → is_letter b ≡ true → IsNameByte b
letter_byte b e = grind (arith, nat_tests)

digit_byte : (b : ℕ) → is_digit b ≡ true → IsNameByte b
digit_byte b e = grind (arith, nat_tests)

constituent_byte : (b : ℕ) → is_constituent b ≡ true → IsNameByte b
constituent_byte b e =
    either _ _ e (λ e. either _ _ e (λ e. either _ _ e (λ e. either _ _ e (λ e. either _ _ e (λ e. either _ _ e (λ e. either _ _ e (λ e. either _ _ e (λ e. either _ _ e (λ e. either _ _ e
    (λ e. either _ _ e (λ e. either _ _ e (λ e. either _ _ e (λ e. either _ _ e (λ e. either _ _ e (λ e. either _ _ e (λ e. either _ _ e (λ e. either _ _ e (λ e. either _ _ e
    (letter_byte b) (digit_byte b))
    (at_byte b 33 (omega arith) (omega arith))) (at_byte b 36 (omega arith) (omega arith))) (at_byte b 37 (omega arith) (omega arith))) (at_byte b 38 (omega arith) (omega arith)))
    (at_byte b 42 (omega arith) (omega arith))) (at_byte b 43 (omega arith) (omega arith))) (at_byte b 45 (omega arith) (omega arith))) (at_byte b 47 (omega arith) (omega arith)))
    (at_byte b 58 (omega arith) (omega arith))) (at_byte b 60 (omega arith) (omega arith))) (at_byte b 61 (omega arith) (omega arith))) (at_byte b 62 (omega arith) (omega arith)))
    (at_byte b 63 (omega arith) (omega arith))) (at_byte b 64 (omega arith) (omega arith))) (at_byte b 94 (omega arith) (omega arith))) (at_byte b 95 (omega arith) (omega arith)))
    (at_byte b 126 (omega arith) (omega arith))) (at_byte b 46 (omega arith) (omega arith))

lowered : (b : ℕ) → IsNameByte b → is_name_byte (to_ascii_lowercase b) ≡ true
lowered b h = grind (arith, nat_tests)

name_byte : (b : ℕ) → is_constituent b ≡ true → is_name_byte (to_ascii_lowercase b) ≡ true
name_byte b e = lowered b (constituent_byte b e)

both_true : (p q : Bool) → p ≡ true → q ≡ true → (p && q) ≡ true
both_true p q e f = rw (e, f) refl

second : (p q : Bool) → (p && q) ≡ true → q ≡ true
second true q e = e
second false q e = cc

lower_names : (bs : List ℕ) → list_all is_constituent bs ≡ true → list_all is_name_byte (map to_ascii_lowercase bs) ≡ true
lower_names [] e = refl
lower_names (b ∷ bs) e = both_true _ _ (name_byte b (first (is_constituent b) (list_all is_constituent bs) e)) (lower_names bs (second (is_constituent b) (list_all is_constituent bs) e))

-- a run of constituents that isn't empty is a name
run_is_name : (bs : List ℕ) → 0 < length bs → list_all is_constituent bs ≡ true → is_name (map to_ascii_lowercase bs) ≡ true
run_is_name [] p e = absurd (omega arith)
run_is_name (b ∷ bs) p e = lower_names (b ∷ bs) e

one_more : (p : ℕ → Bool) (b : ℕ) (bs : List ℕ) → p b ≡ true → take (prefix_len p (b ∷ bs)) (b ∷ bs) ≡ b ∷ take (prefix_len p bs) bs
one_more p b bs e =
    let n : 1 + prefix_len p bs ≡ suc (prefix_len p bs) = omega arith in
    rw (e, n) refl

run_all : (p : ℕ → Bool) (bs : List ℕ) → list_all p (take (prefix_len p bs) bs) ≡ true
run_all p [] = refl
run_all p (b ∷ bs) = by (run_all p bs) (p b) refl
  where
    by : list_all p (take (prefix_len p bs) bs) ≡ true → (c : Bool) → p b ≡ c → list_all p (take (prefix_len p (b ∷ bs)) (b ∷ bs)) ≡ true
    by all true e = ap (list_all p) (one_more p b bs e) ∙ both_true _ _ e all
    by all false e = rw e refl

-- ---- atoms

abbrev FitsAs : List ℕ → Word → Type 0
FitsAs bytes w = WordFits w bytes

low_fixnum : (n : ℕ) → n ≤ 536870912 → IsFixnum (neg_ℤ (pos n))
low_fixnum n h = (omega (arith, ints), omega (arith, ints))

high_fixnum : (n : ℕ) → n < 536870912 → IsFixnum (pos n)
high_fixnum n h = (omega (arith, ints), omega (arith, ints))

le_of : (m n : ℕ) → nat_le m n ≡ true → m ≤ n
le_of m n e = grind (arith, nat_tests)

lt_of : (m n : ℕ) → nat_lt m n ≡ true → m < n
lt_of m n e = grind (arith, nat_tests)

fix_fits : (bytes : List ℕ) (negative : Bool) (n : ℕ) → FitsAs bytes (fix_word negative n)
unfolding fix_word
fix_fits bytes true n = choose_word (FitsAs bytes) (nat_le n 536870912) (λ e. low_fixnum n (le_of n 536870912 e)) (λ _. tt)
fix_fits bytes false n = choose_word (FitsAs bytes) (nat_lt n 536870912) (λ e. high_fixnum n (lt_of n 536870912 e)) (λ _. tt)

plain_fits : (run : List ℕ) → 0 < length run → list_all is_constituent run ≡ true → FitsAs run (plain_word run)
unfolding plain_word
plain_fits run p e =
    choose_word (FitsAs run) (is_word run (codes ".")) (λ _. tt)
    (λ _. choose_word (FitsAs run) (is_word run (codes "nil")) (λ _. tt) (λ _. run_is_name run p e))

signed_fits : (negative : Bool) (digits run : List ℕ) → 0 < length run → list_all is_constituent run ≡ true → FitsAs run (signed_word negative digits run)
signed_fits negative digits run p e = choose_word (FitsAs run) (is_number digits) (λ _. fix_fits run negative (value_of digits)) (λ _. plain_fits run p e)

atom_fits : (run : List ℕ) → 0 < length run → list_all is_constituent run ≡ true → FitsAs run (atom_word run)
unfolding atom_word
atom_fits [] p e = absurd (omega arith)
atom_fits (b ∷ bs) p e =
    choose_word (FitsAs (b ∷ bs)) (b == 43) (λ _. signed_fits false bs (b ∷ bs) p e)
    (λ _. choose_word (FitsAs (b ∷ bs)) (b == 45) (λ _. signed_fits true bs (b ∷ bs) p e) (λ _. signed_fits false (b ∷ bs) (b ∷ bs) p e))

-- ---- characters

abbrev IsLow : Option ℕ → Type 0
IsLow (Some c) = c ≤ 127
IsLow None = Unit {0}

choose_char : (c : Bool) (x y : Option ℕ) → IsLow x → IsLow y → IsLow (cond c x y)
choose_char true x y p q = p
choose_char false x y p q = q

named_char : (run : List ℕ) → IsLow (cond (is_word run (codes "space")) (Some 32) (cond (is_word run (codes "newline")) (Some 10) (cond (is_word run (codes "tab")) (Some 9) None)))
named_char run =
    choose_char (is_word run (codes "space")) (Some 32) _ (omega arith)
    (choose_char (is_word run (codes "newline")) (Some 10) _ (omega arith) (choose_char (is_word run (codes "tab")) (Some 9) None (omega arith) tt))

char_low : (c : ℕ) (rest : List ℕ) → c ≤ 127 → IsLow (char_of (c ∷ rest))
unfolding char_of
char_low c [] h = h
char_low c (d ∷ rest) h = named_char (c ∷ d ∷ rest)

char_fits : (text : List ℕ) (at len : ℕ) (c : Option ℕ) → IsLow c → Fits text (char_or_bad at len c)
char_fits text at len (Some c) h = record { fits = h }
char_fits text at len None h = record { fits = tt }

-- the run begins with the byte
run_begins : (c : ℕ) (bs : List ℕ) → (rest : List ℕ) × (char_run (c ∷ bs) ≡ c ∷ rest)
run_begins c bs = from (max 1 (run_len (c ∷ bs))) (omega arith)
  where
    from : (n : ℕ) → 1 ≤ n → (rest : List ℕ) × (take n (c ∷ bs) ≡ c ∷ rest)
    from zero h = absurd (omega arith)
    from (suc n) h = (take n bs, refl)

char_token_fits : (text : List ℕ) (at : ℕ) (bs : List ℕ) → Fits text (char_token at bs)
unfolding char_token
char_token_fits text at [] = record { fits = tt }
char_token_fits text at (c ∷ bs) =
    choose (Fits text) (nat_le 33 c && nat_le c 126)
    (λ e.
    let r = run_begins c bs in
    let low : c ≤ 126 = le_of c 126 (second (nat_le 33 c) (nat_le c 126) e) in
    let P : List ℕ → Type 0 = λ run. IsLow (char_of run) in
    char_fits text at (length (char_run (c ∷ bs))) (char_of (char_run (c ∷ bs))) (subst P (sym r.1) (char_low c r.0 (omega arith))))
    (λ _. record { fits = tt })

truth_fits : (text : List ℕ) (at : ℕ) (run : List ℕ) → Fits text (truth_token at run)
truth_fits text at run =
    choose (Fits text) (is_word run (codes "t")) (λ _. record { fits = tt })
    (λ _. choose (Fits text) (is_word run (codes "f")) (λ _. record { fits = tt }) (λ _. record { fits = tt }))

hash_fits : (text : List ℕ) (at : ℕ) (bs : List ℕ) → Fits text (hash_token at bs)
unfolding hash_token
hash_fits text at [] = record { fits = tt }
hash_fits text at (b ∷ bs) = choose (Fits text) (b == 92) (λ _. char_token_fits text at bs) (λ _. truth_fits text at (take (run_len (b ∷ bs)) (b ∷ bs)))

-- ---- strings

pushed : (done bs : List ℕ) (b : ℕ) → done ++ b ∷ bs ≡ (done ++ b ∷ []) ++ bs
pushed done bs b = sym (append_assoc done (b ∷ []) bs)

ascii_push : (done : List ℕ) (b : ℕ) → are_ascii done ≡ true → b ≤ 127 → are_ascii (done ++ b ∷ []) ≡ true
ascii_push done b e h =
    let here : nat_le b 127 ≡ true = grind (arith, nat_tests) in
    list_all-append (λ c. nat_le c 127) done (b ∷ []) ∙ both_true _ _ e (both_true _ _ here refl)

is_at : (b n : ℕ) → (b == n) ≡ true → b ≡ n
is_at b n e = grind (arith, nat_tests)

string_byte : (b : ℕ) → is_string_byte b ≡ true → b ≤ 127
string_byte b e = either _ _ e (λ e. either _ _ e (λ e. let low : b ≤ 126 = le_of b 126 (second (nat_le 32 b) (nat_le b 126) e) in omega arith) (λ (e : (b == 9) ≡ true). omega (arith, is_at b 9 e))) (λ (e : (b == 10) ≡ true). omega (arith, is_at b 10 e))

-- the bytes from a place on, of a text that has them behind what stands before
ranged : (text pre done bs : List ℕ) (b start end : ℕ) → text ≡ pre ++ (done ++ b ∷ bs) → length pre ≡ start → end ≡ start + length done + 1 → slice_range text start end ≡ done ++ b ∷ []
ranged text pre done bs b start end e p q =
    let n : end - start ≡ length (done ++ b ∷ []) = omega (arith, length-append done (b ∷ [])) in
    ap (λ (t : List ℕ). slice_range t start end) (e ∙ ap (λ r. pre ++ r) (pushed done bs b))
    ∙ ap (λ m. take (end - start) (drop m (pre ++ ((done ++ b ∷ []) ++ bs)))) (sym p)
    ∙ ap (take (end - start)) (drop-append_seam pre ((done ++ b ∷ []) ++ bs))
    ∙ ap (λ m. take m ((done ++ b ∷ []) ++ bs)) n
    ∙ take-append_seam (done ++ b ∷ []) bs

string_fits : (text pre : List ℕ) (start here : ℕ) (escaped : Bool) (done bs : List ℕ) → text ≡ pre ++ (done ++ bs) → length pre ≡ start → here ≡ start + length done → are_ascii done ≡ true → Fits text (string_token start here escaped bs)
unfolding string_token
string_fits text pre start here true done [] e p q a = record { fits = tt }
string_fits text pre start here false done [] e p q a = record { fits = tt }
string_fits text pre start here true done (b ∷ bs) e p q a =
    choose (Fits text) ((b == 34) || (b == 92))
    (λ t.
    let low : b ≤ 127 = either (b == 34) (b == 92) t (λ t. omega (arith, is_at b 34 t)) (λ t. omega (arith, is_at b 92 t)) in
    string_fits text pre start (here + 1) false (done ++ b ∷ []) bs (e ∙ ap (λ r. pre ++ r) (pushed done bs b)) p (omega (arith, length-append done (b ∷ []))) (ascii_push done b a low))
    (λ _. record { fits = tt })
string_fits text pre start here false done (b ∷ bs) e p q a =
    let whole : text ≡ pre ++ ((done ++ b ∷ []) ++ bs) = e ∙ ap (λ r. pre ++ r) (pushed done bs b) in
    let longer : here + 1 ≡ start + length (done ++ b ∷ []) = omega (arith, length-append done (b ∷ [])) in
    choose (Fits text) (b == 34)
    (λ t.
    let low : b ≤ 127 = omega (arith, is_at b 34 t) in
    let P : List ℕ → Type 0 = λ r. are_ascii r ≡ true in
    record { fits = subst P (sym (ranged text pre done bs b start (here + 1) e p (omega arith))) (ascii_push done b a low) })
    (λ _. choose (Fits text) (b == 92)
    (λ t. let low : b ≤ 127 = omega (arith, is_at b 92 t) in string_fits text pre start (here + 1) true (done ++ b ∷ []) bs whole p longer (ascii_push done b a low))
    (λ _. choose (Fits text) (is_string_byte b)
    (λ t. string_fits text pre start (here + 1) false (done ++ b ∷ []) bs whole p longer (ascii_push done b a (string_byte b t)))
    (λ _. record { fits = tt })))

-- ---- the next token

run_nonempty : (b : ℕ) (bs : List ℕ) → is_constituent b ≡ true → 0 < length (take (run_len (b ∷ bs)) (b ∷ bs))
unfolding run_len
run_nonempty b bs e = rw (one_more is_constituent b bs e) (omega arith)

run_constituents : (bs : List ℕ) → list_all is_constituent (take (run_len bs) bs) ≡ true
unfolding run_len
run_constituents bs = run_all is_constituent bs

run_short : (bs : List ℕ) → length (take (run_len bs) bs) ≡ run_len bs
unfolding run_len
run_short bs = length-prefix_len is_constituent bs

atom_token_fits : (text pre bs : List ℕ) (at n : ℕ) → text ≡ pre ++ bs → length pre ≡ at → length (take n bs) ≡ n → 0 < length (take n bs) → list_all is_constituent (take n bs) ≡ true → Fits text (atom_token at (take n bs))
atom_token_fits text pre bs at n e p l q a =
    let size : at + length (take n bs) - at ≡ n = omega arith in
    let bytes : slice_range text at (at + length (take n bs)) ≡ take n bs =
    ap (λ (t : List ℕ). slice_range t at (at + length (take n bs))) e
    ∙ ap (λ m. take (at + length (take n bs) - at) (drop m (pre ++ bs))) (sym p)
    ∙ ap (take (at + length (take n bs) - at)) (drop-append_seam pre bs)
    ∙ ap (λ m. take m bs) size in
    let P : List ℕ → Type 0 = λ r. WordFits (atom_word (take n bs)) r in
    record { fits = subst P (sym bytes) (atom_fits (take n bs) q a) }

first_fits : (text pre bs : List ℕ) (at : ℕ) → text ≡ pre ++ bs → length pre ≡ at → Fits text (first_token at bs)
unfolding first_token
first_fits text pre [] at e p = record { fits = tt }
first_fits text pre (b ∷ bs) at e p =
    choose (Fits text) (b == 40) (λ _. record { fits = tt })
    (λ _. choose (Fits text) (b == 41) (λ _. record { fits = tt })
    (λ _. choose (Fits text) (b == 39) (λ _. record { fits = tt })
    (λ _. choose (Fits text) (b == 34) (λ t. string_fits text pre at (at + 1) false (b ∷ []) bs e p (omega arith) (ascii_push [] b refl (omega (arith, is_at b 34 t))))
    (λ _. choose (Fits text) (b == 35) (λ _. hash_fits text at bs)
    (λ _. choose (Fits text) (is_constituent b)
    (λ t. atom_token_fits text pre (b ∷ bs) at (run_len (b ∷ bs)) e p (run_short (b ∷ bs)) (run_nonempty b bs t) (run_constituents (b ∷ bs)))
    (λ _. record { fits = tt }))))))

-- what stands behind blanks ends the bytes
blanks_before : (inside : Bool) (bs : List ℕ) → (front : List ℕ) × (bs ≡ front ++ behind_blanks inside bs)
unfolding behind_blanks
blanks_before true [] = ([], refl)
blanks_before false [] = ([], refl)
blanks_before true (b ∷ bs) = let r = blanks_before (not (b == 10)) bs in (b ∷ r.0, ap (λ l. b ∷ l) r.1)
blanks_before false (b ∷ bs) =
    let plain = blanks_before false bs in
    let comment = blanks_before true bs in
    let P : List ℕ → Type 0 = λ r. (front : List ℕ) × (b ∷ bs ≡ front ++ r) in
    pick P (is_blank b) (b ∷ plain.0, ap (λ l. b ∷ l) plain.1) (pick P (b == 59) (b ∷ comment.0, ap (λ l. b ∷ l) comment.1) ([], refl))
  where
    pick : (P : List ℕ → Type 0) (c : Bool) {x y : List ℕ} → P x → P y → P (cond c x y)
    pick P true p q = p
    pick P false p q = q

pub token_at-fits : (text : List ℕ) (from : ℕ) → Fits text (token_at text from)
unfolding token_at
token_at-fits text from =
    let rest : List ℕ = behind_blanks false (drop from text) in
    let r = blanks_before false (drop from text) in
    let pre : List ℕ = take from text ++ r.0 in
    let whole : text ≡ pre ++ rest = sym (take-append-drop from text) ∙ ap (λ l. take from text ++ l) r.1 ∙ sym (append_assoc (take from text) r.0 rest) in
    first_fits text pre rest (length text - length rest) whole (omega (arith, ap length whole, length-append pre rest))
