use Rattle.std.proofs.Common.{[], ◌∷◌, refl}
use Rattle.cps_ir.specs.Parts.{walked_within}
use Rattle.cps_ir.specs.Reaches.{free_within, reached_within}
use Rattle.cps_ir.specs.Loads.{opened_within, sum_within}
use Rattle.cps_ir.proofs.WholeTests.{holds_within, whole_from as cps_whole, loads_from}
use Rattle.word_ir.specs.Writing.{var}
use Rattle.word_ir.proofs.WholeLemmas.{whole_from as words_whole}
use Rattle.rows_forms.proofs.texts_are_whole.Goals as goal

pub returns-clause-cps : goal.returns-clause-cps
unfolding walked_within free_within reached_within opened_within sum_within holds_within
returns-clause-cps c = record { whole = λ alloc. cps_whole _ refl; loads = λ alloc. loads_from _ refl }

pub returns-clause-wrong_count : goal.returns-clause-wrong_count
unfolding walked_within free_within reached_within opened_within sum_within holds_within
returns-clause-wrong_count c = record { whole = λ alloc. cps_whole _ refl; loads = λ alloc. loads_from _ refl }

pub returns-clause-sum : goal.returns-clause-sum
returns-clause-sum c = λ alloc shared. words_whole _ [] shared refl

pub returns-clause-words : goal.returns-clause-words
returns-clause-words c = λ alloc shared. words_whole _ ([] ∷ (var 7 ∷ []) ∷ (var 6 ∷ []) ∷ (var 4 ∷ []) ∷ (var 3 ∷ []) ∷ (var 2 ∷ []) ∷ [] ∷ [] ∷ (var 4 ∷ []) ∷ [] ∷ [] ∷ (var 38 ∷ var 39 ∷ var 40 ∷ []) ∷ (var 43 ∷ var 42 ∷ var 38 ∷ var 39 ∷ var 40 ∷ []) ∷ (var 43 ∷ var 42 ∷ var 38 ∷ var 39 ∷ var 40 ∷ []) ∷ []) shared refl
