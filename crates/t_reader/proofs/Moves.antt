-- A token that isn't the last ends behind the place where it was looked for, and within the text.
use Rattle.std.proofs.Common.{◌≡◌, ℕ, suc, ◌+◌, ◌-◌, ◌<◌, ◌≤◌, Bool, true, false, not, cond, List, [], ◌∷◌, length, take, drop, Option, Some, None, refl, arith, max, length-drop}
use Rattle.std.specs.Prelude.{codes, ◌==◌, ◌||◌, ◌&&◌, nat_le}
use Rattle.std.specs.List.{prefix_len}
use Rattle.std.proofs.lemmas.List.{length-take}
use Rattle.std.proofs.lemmas.List.Folds.{length-prefix_len}
use Rattle.std.proofs.lemmas.List.Sums.{prefix_len-le-length}
use Rattle.t_reader.specs.declared.fault.ReadKind.{ReadKind}
use Rattle.t_reader.specs.declared.token.Word.{Word}
use Rattle.t_reader.specs.declared.token.Word.TheVariants as word
use Rattle.t_reader.specs.declared.token.Token.{Token}
use Rattle.t_reader.specs.Tokens.{token, is_blank, is_constituent, is_string_byte, is_word, behind_blanks, run_len, atom_word, string_token, char_of, char_run, char_or_bad, char_token, truth_token, hash_token, first_token, token_at, MovesBy, Moves}

any_word : (w : Word) (low high start end : ℕ) → low ≤ start → start < end → end ≤ high → MovesBy w low high start end
any_word word.Open low high start end o p q = (o, p, q)
any_word word.Close low high start end o p q = (o, p, q)
any_word word.Quote low high start end o p q = (o, p, q)
any_word word.Dot low high start end o p q = (o, p, q)
any_word (word.Atom a) low high start end o p q = (o, p, q)
any_word (word.Bad k) low high start end o p q = tt
any_word word.End low high start end o p q = tt

wider : (w : Word) (low high low' high' start end : ℕ) → low' ≤ low → high ≤ high' → MovesBy w low high start end → MovesBy w low' high' start end
wider word.Open low high low' high' start end p q m = (omega arith, m.1, omega arith)
wider word.Close low high low' high' start end p q m = (omega arith, m.1, omega arith)
wider word.Quote low high low' high' start end p q m = (omega arith, m.1, omega arith)
wider word.Dot low high low' high' start end p q m = (omega arith, m.1, omega arith)
wider (word.Atom a) low high low' high' start end p q m = (omega arith, m.1, omega arith)
wider (word.Bad k) low high low' high' start end p q m = tt
wider word.End low high low' high' start end p q m = tt

pub widen : {low high : ℕ} {t : Token} (low' high' : ℕ) → low' ≤ low → high ≤ high' → Moves low high t → Moves low' high' t
widen {low} {high} {t} low' high' p q m = record { moves = wider t.word low high low' high' t.span.start t.span.end p q m.moves }

choose : {low high : ℕ} {x y : Token} (b : Bool) → (b ≡ true → Moves low high x) → (b ≡ false → Moves low high y) → Moves low high (cond b x y)
choose true p q = p refl
choose false p q = q refl

moved : (w : Word) (low high end : ℕ) → low < end → end ≤ high → Moves low high (token w low end)
moved w low high end p q = record { moves = any_word w low high low end (omega arith) p q }

bad_moves : (k : ReadKind) (low high start end : ℕ) → Moves low high (token (word.Bad k) start end)
bad_moves k low high start end = record { moves = tt }

string_moves : (start here : ℕ) (escaped : Bool) (bs : List ℕ) → start < here → Moves start (here + length bs) (string_token start here escaped bs)
unfolding string_token
string_moves start here true [] h = record { moves = tt }
string_moves start here false [] h = record { moves = tt }
string_moves start here true (b ∷ bs) h =
    choose ((b == 34) || (b == 92)) (λ _. widen start (here + suc (length bs)) (omega arith) (omega arith) (string_moves start (here + 1) false bs (omega arith))) (λ _. record { moves = tt })
string_moves start here false (b ∷ bs) h =
    choose (b == 34) (λ _. record { moves = (omega arith, omega arith, omega arith) })
    (λ _. choose (b == 92) (λ _. widen start (here + suc (length bs)) (omega arith) (omega arith) (string_moves start (here + 1) true bs (omega arith)))
    (λ _. choose (is_string_byte b) (λ _. widen start (here + suc (length bs)) (omega arith) (omega arith) (string_moves start (here + 1) false bs (omega arith)))
    (λ _. record { moves = tt })))

length-take-le : {A : Type 0} (n : ℕ) (xs : List A) → length (take n xs) ≤ length xs
length-take-le n xs = omega (arith, length-take n xs)

char_moves : (at : ℕ) (run : List ℕ) (n : ℕ) (c : Option ℕ) → length run ≤ n → Moves at (at + 2 + n) (char_or_bad at (length run) c)
char_moves at run n (Some c) h = record { moves = (omega arith, omega arith, omega arith) }
char_moves at run n None h = record { moves = tt }

char_token_moves : (at : ℕ) (bs : List ℕ) → Moves at (at + 2 + length bs) (char_token at bs)
unfolding char_token
char_token_moves at [] = record { moves = tt }
char_token_moves at (c ∷ bs) =
    choose (nat_le 33 c && nat_le c 126) (λ _. char_moves at (char_run (c ∷ bs)) (length (c ∷ bs)) (char_of (char_run (c ∷ bs))) (length-take-le (max 1 (run_len (c ∷ bs))) (c ∷ bs))) (λ _. record { moves = tt })

truth_moves : (at : ℕ) (run : List ℕ) (n : ℕ) → Moves at (at + 2 + n) (truth_token at run)
truth_moves at run n =
    choose (is_word run (codes "t")) (λ _. record { moves = (omega arith, omega arith, omega arith) })
    (λ _. choose (is_word run (codes "f")) (λ _. record { moves = (omega arith, omega arith, omega arith) }) (λ _. record { moves = tt }))

hash_moves : (at : ℕ) (bs : List ℕ) → Moves at (at + 1 + length bs) (hash_token at bs)
unfolding hash_token
hash_moves at [] = record { moves = tt }
hash_moves at (b ∷ bs) =
    choose (b == 92) (λ _. widen at (at + 1 + suc (length bs)) (omega arith) (omega arith) (char_token_moves at bs))
    (λ _. widen at (at + 1 + suc (length bs)) (omega arith) (omega arith) (truth_moves at (take (run_len (b ∷ bs)) (b ∷ bs)) (length bs)))

run_length : (b : ℕ) (bs : List ℕ) → is_constituent b ≡ true → (0 < length (take (run_len (b ∷ bs)) (b ∷ bs))) × (length (take (run_len (b ∷ bs)) (b ∷ bs)) ≤ suc (length bs))
unfolding run_len
run_length b bs e =
    let same : length (take (prefix_len is_constituent (b ∷ bs)) (b ∷ bs)) ≡ prefix_len is_constituent (b ∷ bs) = length-prefix_len is_constituent (b ∷ bs) in
    let first : prefix_len is_constituent (b ∷ bs) ≡ 1 + prefix_len is_constituent bs = rw e refl in
    let within : prefix_len is_constituent (b ∷ bs) ≤ length (b ∷ bs) = prefix_len-le-length is_constituent (b ∷ bs) in
    (omega arith, omega arith)

first_moves : (at : ℕ) (bs : List ℕ) → Moves at (at + length bs) (first_token at bs)
unfolding first_token
first_moves at [] = record { moves = tt }
first_moves at (b ∷ bs) =
    let high : ℕ = at + suc (length bs) in
    choose (b == 40) (λ _. moved word.Open at high (at + 1) (omega arith) (omega arith))
    (λ _. choose (b == 41) (λ _. moved word.Close at high (at + 1) (omega arith) (omega arith))
    (λ _. choose (b == 39) (λ _. moved word.Quote at high (at + 1) (omega arith) (omega arith))
    (λ _. choose (b == 34) (λ _. widen at high (omega arith) (omega arith) (string_moves at (at + 1) false bs (omega arith)))
    (λ _. choose (b == 35) (λ _. widen at high (omega arith) (omega arith) (hash_moves at bs))
    (λ _. choose (is_constituent b)
    (λ e. let r = run_length b bs e in moved (atom_word (take (run_len (b ∷ bs)) (b ∷ bs))) at high (at + length (take (run_len (b ∷ bs)) (b ∷ bs))) (omega arith) (omega arith))
    (λ _. record { moves = tt }))))))

behind_blanks-le : (inside : Bool) (bs : List ℕ) → length (behind_blanks inside bs) ≤ length bs
unfolding behind_blanks
behind_blanks-le true [] = omega arith
behind_blanks-le false [] = omega arith
behind_blanks-le true (b ∷ bs) = let h = behind_blanks-le (not (b == 10)) bs in omega arith
behind_blanks-le false (b ∷ bs) =
    let plain : length (behind_blanks false bs) ≤ length bs = behind_blanks-le false bs in
    let comment : length (behind_blanks true bs) ≤ length bs = behind_blanks-le true bs in
    let P : List ℕ → Type 0 = λ r. length r ≤ suc (length bs) in
    pick P (is_blank b) (omega arith) (pick P (b == 59) (omega arith) (omega arith))
  where
    pick : (P : List ℕ → Type 0) (c : Bool) {x y : List ℕ} → P x → P y → P (cond c x y)
    pick P true p q = p
    pick P false p q = q

pub token_at-moves : (text : List ℕ) (from : ℕ) → from ≤ length text → Moves from (length text) (token_at text from)
unfolding token_at
token_at-moves text from h =
    let rest : List ℕ = behind_blanks false (drop from text) in
    let within : length rest ≤ length (drop from text) = behind_blanks-le false (drop from text) in
    let dropped : length (drop from text) ≡ length text - from = length-drop from text in
    widen from (length text) (omega arith) (omega arith) (first_moves (length text - length rest) rest)
