-- Four bytes for each word.
use Rattle.std.proofs.Common.{◌≡◌, ◌+◌, ◌*◌, ℕ, zero, suc, List, [], ◌∷◌, ◌++◌, length, take, drop, refl, ap, ◌∙◌, arith, length-append}
use Rattle.std.proofs.Math.Seq.{take-append_seam, drop-append-add}
use Rattle.std.specs.Prelude.{slice_get, Some}
use Rattle.word_ir.specs.declared.words.StaticWord.{StaticWord}
use Rattle.static_bytes.specs.Bytes.{bytes_of, static_bytes}

pub four_of : (labels : List ℕ) (word : StaticWord) → length (bytes_of labels word) ≡ 4
four_of labels word = refl

pub four_each : (statics : List StaticWord) (labels : List ℕ) → length (static_bytes statics labels) ≡ 4 * length statics
four_each [] labels = refl
four_each (word ∷ statics) labels =
    length-append (bytes_of labels word) (static_bytes statics labels) ∙ omega (arith, four_of labels word, four_each statics labels)

front_of : (xs ys : List ℕ) → length xs ≡ 4 → take 4 (xs ++ ys) ≡ xs
front_of xs ys four = rw (← four) (take-append_seam xs ys)

behind : (xs ys : List ℕ) (k : ℕ) → length xs ≡ 4 → drop (4 + k) (xs ++ ys) ≡ drop k ys
behind xs ys k four = rw (← four) (drop-append-add xs ys k)

pub stand_in_order : (statics : List StaticWord) (labels : List ℕ) (place : ℕ) (word : StaticWord) → slice_get statics place ≡ Some word
    → take 4 (drop (4 * place) (static_bytes statics labels)) ≡ bytes_of labels word
stand_in_order [] labels place word at = cc
stand_in_order (first ∷ statics) labels zero word at =
    front_of (bytes_of labels first) (static_bytes statics labels) (four_of labels first) ∙ ap (bytes_of labels) (let same : first ≡ word = cc in same)
stand_in_order (first ∷ statics) labels (suc place) word at =
    let next : 4 * suc place ≡ 4 + 4 * place = omega arith in
    rw next (ap (take 4) (behind (bytes_of labels first) (static_bytes statics labels) (4 * place) (four_of labels first)) ∙ stand_in_order statics labels place word at)
