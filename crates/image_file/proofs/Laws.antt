-- What the grammar of images promises to those who write images and read them.
use Rattle.std.proofs.Common.{◌≡◌, ℕ, ◌^◌, ◌≤◌, List, ◌++◌, length, Ok, sym, ap, ◌∙◌, arith}
use Rattle.std.proofs.lemmas.List.{length-append}
use Rattle.image_file.specs.Grammar.{Parts, names_spelling, spelling, IsImage, IsImageOf}
use Rattle.image_file.specs.Reading.{image_at}
use Rattle.image_file.proofs.Bytes.{ok_is}
use Rattle.image_file.proofs.Whole.{whole_again}

-- what is spelled is read, and no field fails
pub spelled_is_read : (bytes : List ℕ) (p : Parts) → IsImageOf bytes p → image_at bytes ≡ Ok p
spelled_is_read bytes p h = ap image_at h.spelled ∙ whole_again p h.image

-- each image has one spelling
pub one_spelling : (a b : List ℕ) (p : Parts) → IsImageOf a p → IsImageOf b p → a ≡ b
one_spelling a b p h k = h.spelled ∙ sym k.spelled

-- some bytes are those of one image at most
pub one_image : (bytes : List ℕ) (p q : Parts) → IsImageOf bytes p → IsImageOf bytes q → p ≡ q
one_image bytes p q h k = ok_is p q (sym (spelled_is_read bytes p h) ∙ spelled_is_read bytes q k)

-- a spelling has at most as many bytes as the reader takes
pub spelling_short : (p : Parts) → IsImage p → length (spelling p) ≤ 2 ^ 29
spelling_short p h =
    omega (arith, h.code_short, h.statics_short, h.names_short, length-append p.code (p.statics ++ names_spelling p.names), length-append p.statics (names_spelling p.names))
