-- The closures that a group makes on the heap, and the state behind it.
use Rattle.std.specs.Prelude.{◌≡◌, ℕ, suc, ◌+◌, true, List, [], ◌∷◌, ◌++◌, length, is_some}
use Rattle.std.specs.List.{list_all}
use Rattle.frame_ir.specs.declared.forms.Place.{Place}
use Rattle.frame_ir.specs.declared.forms.Place.TheVariants as At
use Rattle.frame_ir.specs.Values.{Value, Closure, is_lasting, record_words}
use Rattle.frame_ir.specs.States.{State, Thing, AClosure}
use Rattle.frame_ir.specs.Groups.{Making}
use Rattle.frame_words.specs.Layouts.{Layout, ClosureOf, fixed_place}

-- the records of the heap, in front of others
abbrev pub with_record : Place → Closure → List Closure → List Closure
with_record At.Heap c cs = c ∷ cs
with_record (At.Frame slot) c cs = cs
with_record At.Static c cs = cs

-- of closures with the values that each of them captures
abbrev pub heap_records : List Making → List (List Value) → List Closure
heap_records [] vss = []
heap_records (m ∷ ms) [] = []
heap_records (m ∷ ms) (vs ∷ vss) = with_record m.at (record { code = m.code; captured = vs }) (heap_records ms vss)

-- A closure on the heap captures no address of a frame, one in static words, which are there, nothing; none stands in a frame.
abbrev pub IsOutside : Layout → Place → ℕ → List Value → Type 0
IsOutside l At.Heap code vs = list_all is_lasting vs ≡ true
IsOutside l (At.Frame slot) code vs = ⊥
IsOutside l At.Static code vs = (vs ≡ []) × (is_some (fixed_place l (ClosureOf code)) ≡ true)

abbrev pub AreOutside : Layout → List Making → List (List Value) → Type 0
AreOutside l [] vss = Unit {0}
AreOutside l (m ∷ ms) [] = ⊥
AreOutside l (m ∷ ms) (vs ∷ vss) = IsOutside l m.at m.code vs × AreOutside l ms vss

-- ---- the state behind

-- records from a number on
abbrev pub closures_from : ℕ → List Closure → List Thing
closures_from n [] = []
closures_from n (c ∷ cs) = AClosure n ∷ closures_from (suc n) cs

abbrev pub words_of_records : List Closure → ℕ
words_of_records [] = 0
words_of_records (c ∷ cs) = record_words (length c.captured) + words_of_records cs

abbrev pub with_records : State → List Closure → State
with_records s cs = record s {
  closures = s.closures ++ cs;
  made = s.made ++ closures_from (length s.closures) cs;
  store = record s.store { heap = s.store.heap + words_of_records cs };
}
