-- Where no word of the stack is counted on.
use Rattle.std.proofs.Common.{◌≡◌, ℕ, zero, suc, ◌<◌, List, [], ◌∷◌, Some, refl, arith, length}
use Rattle.std.specs.Prelude.{slice_get, slice_index}
use Rattle.word_ir.specs.Whole.{taken_blocks}
use Rattle.word_depths.specs.Laws.{StartsAreDeep}
use Rattle.word_depths.proofs.Standing.{contained, blocks_are_deep}

element : {X : Type 0} (xs : List X) (i : ℕ) → i < length xs → (x : X) × (slice_get xs i ≡ Some x)
element [] i lt = absurd (omega arith)
element (x ∷ xs) zero lt = (x, refl)
element (x ∷ xs) (suc i) lt = element xs i (omega arith)

pub starts_are_deep : StartsAreDeep
starts_are_deep = record {
  entry = λ placed sizes whole.
      let x = element placed.words.blocks.items placed.words.entry whole.words.places.entry in
      let none = contained (λ b. slice_index whole.lodgings.depths b ≡ 0) (placed.words.entry ∷ taken_blocks placed.words) placed.words.entry whole.lodgings.empty (0, omega arith, refl) in
      blocks_are_deep.starts placed sizes whole placed.words.entry x.0 _ x.1 (omega (arith, none));
  taken = λ placed sizes whole b top block is there low.
      let none = contained (λ c. slice_index whole.lodgings.depths c ≡ 0) (placed.words.entry ∷ taken_blocks placed.words) b whole.lodgings.empty (suc is.0, omega (arith, is.1), is.2) in
      blocks_are_deep.starts placed sizes whole b block top there (omega (arith, none, low));
}
