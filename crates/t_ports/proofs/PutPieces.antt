-- What a sink took of pieces, before one of them failed and after each that did not.
use Rattle.std.proofs.Common.{◌≡◌, ℕ, ◌+◌, ◌-◌, ◌^◌, ◌<◌, ◌≤◌, min, List, [], ◌∷◌, ◌++◌, length, take, drop, Bor, refl, sym, ap, subst, ◌∙◌, append_assoc, slice_index_or, arith}
use Rattle.std.proofs.lemmas.List.{take-append-drop, take-append-le, take_more, append-nil, length-append}
use Rattle.std.proofs.Math.Seq.{take-append-add}
use Rattle.t_ports.specs.Pieces.{text_of, TookFront, TookCount}

text_of-append : (xs ys : List (Bor (List ℕ))) → text_of (xs ++ ys) ≡ text_of xs ++ text_of ys
text_of-append [] ys = refl
text_of-append (x ∷ xs) ys = ap (λ (l : List ℕ). x.now ++ l) (text_of-append xs ys) ∙ sym (append_assoc x.now (text_of xs) (text_of ys))

text_of-take_more : (xs : List (Bor (List ℕ))) (i : ℕ) (d : Bor (List ℕ)) → i < length xs → text_of (take (i + 1) xs) ≡ text_of (take i xs) ++ (slice_index_or xs i d).now
text_of-take_more xs i d within =
    ap text_of (take_more xs i d within)
    ∙ text_of-append (take i xs) (slice_index_or xs i d ∷ [])
    ∙ ap (λ (l : List ℕ). text_of (take i xs) ++ l) (append-nil (slice_index_or xs i d).now)

text_of-split : (xs : List (Bor (List ℕ))) (i : ℕ) (d : Bor (List ℕ)) → i < length xs → text_of xs ≡ (text_of (take i xs) ++ (slice_index_or xs i d).now) ++ text_of (drop (i + 1) xs)
text_of-split xs i d within =
    ap text_of (sym (take-append-drop (i + 1) xs))
    ∙ text_of-append (take (i + 1) xs) (drop (i + 1) xs)
    ∙ ap (λ (l : List ℕ). l ++ text_of (drop (i + 1) xs)) (text_of-take_more xs i d within)

-- a front of the text: the pieces before the one at i, and k bytes of it
take-text_of : (xs : List (Bor (List ℕ))) (i k : ℕ) (d : Bor (List ℕ)) → i < length xs → k ≤ length (slice_index_or xs i d).now → take (length (text_of (take i xs)) + k) (text_of xs) ≡ text_of (take i xs) ++ take k (slice_index_or xs i d).now
take-text_of xs i k d within some =
    let before : List ℕ = text_of (take i xs) in
    let piece : List ℕ = (slice_index_or xs i d).now in
    let after : List ℕ = text_of (drop (i + 1) xs) in
    ap (λ (l : List ℕ). take (length before + k) l) (text_of-split xs i d within ∙ append_assoc before piece after)
    ∙ take-append-add before (piece ++ after) k
    ∙ ap (λ (l : List ℕ). before ++ l) (take-append-le k piece after some)

length-text_of : (xs : List (Bor (List ℕ))) (i k : ℕ) (d : Bor (List ℕ)) → i < length xs → k ≤ length (slice_index_or xs i d).now → length (text_of (take i xs)) + k ≤ length (text_of xs)
length-text_of xs i k d within some =
    let before : List ℕ = text_of (take i xs) in
    let piece : List ℕ = (slice_index_or xs i d).now in
    let after : List ℕ = text_of (drop (i + 1) xs) in
    let whole : length (text_of xs) ≡ (length before + length piece) + length after =
    ap length (text_of-split xs i d within) ∙ length-append (before ++ piece) after ∙ ap (λ n. n + length after) (length-append before piece) in
    subst (λ n. length before + k ≤ n) (sym whole) (omega arith)

pub length-text_of-more : (xs : List (Bor (List ℕ))) (i : ℕ) (d : Bor (List ℕ)) → i < length xs → length (text_of (take (i + 1) xs)) ≡ length (text_of (take i xs)) + length (slice_index_or xs i d).now
length-text_of-more xs i d within =
    ap length (text_of-take_more xs i d within) ∙ length-append (text_of (take i xs)) (slice_index_or xs i d).now

-- a count that stands still at its last value counts on
pub counts_on : (n k now : ℕ) → now ≡ min n (2 ^ 64 - 1) → min (now + k) (2 ^ 64 - 1) ≡ min (n + k) (2 ^ 64 - 1)
counts_on n k now at = omega arith

module _ {S : Type 0} (took : S → List ℕ → S → Type 0) (both : (a b c : S) (first second : List ℕ) → took a first b → took b second c → took a (first ++ second) c) where
  pub took_more : (a b c : S) (xs : List (Bor (List ℕ))) (i : ℕ) (d : Bor (List ℕ)) → i < length xs → took a (text_of (take i xs)) b → took b (slice_index_or xs i d).now c → took a (text_of (take (i + 1) xs)) c
  took_more a b c xs i d within t u =
      subst (λ (l : List ℕ). took a l c) (sym (text_of-take_more xs i d within)) (both a b c (text_of (take i xs)) (slice_index_or xs i d).now t u)

  pub took_count : (a b c : S) (xs : List (Bor (List ℕ))) (i k taken : ℕ) (d : Bor (List ℕ)) → i < length xs → k ≤ length (slice_index_or xs i d).now → took a (text_of (take i xs)) b → took b (take k (slice_index_or xs i d).now) c → taken ≡ min (length (text_of (take i xs)) + k) (2 ^ 64 - 1) → TookCount took a (text_of xs) taken c
  took_count a b c xs i k taken d within some t u counted = (
    length (text_of (take i xs)) + k,
    length-text_of xs i k d within some,
    subst (λ (l : List ℕ). took a l c) (sym (take-text_of xs i k d within some)) (both a b c (text_of (take i xs)) (take k (slice_index_or xs i d).now) t u),
    counted,
  )

-- the bytes that were taken are a front of the text
pub front : {S : Type 0} (took : S → List ℕ → S → Type 0) (a c : S) (text : List ℕ) (taken : ℕ) → TookCount took a text taken c → TookFront took a text c
front took a c text taken (count, within, t, counted) = (take count text, drop count text, sym (take-append-drop count text), t)
