-- The bindings of DO, as the code has them.
use Rattle.std.specs.Prelude.{◌≡◌, ℕ, List, [], ◌∷◌, ◌++◌, map, Option, Some, None, codes}
use Rattle.std.specs.Option.{option_and_then}
use Rattle.t_base.specs.declared.basics.Span.{Span}
use Rattle.t_forms.specs.declared.arena.Cell.{Cell}
use Rattle.t_forms.specs.declared.arena.New.TheVariants as new
use Rattle.t_forms.specs.Data.{Datum, items_of, listed, a_variable}
use Rattle.t_forms.specs.Held.{Held}
use Rattle.binding_rows.specs.declared.loops.Step.{Step as CodeStep}
use Rattle.t_rows.specs.Rows.{Step, step_of_items, word_}

abbrev pub step_of : Datum → Option Step
step_of d = option_and_then step_of_items (items_of d)

abbrev pub IsStep : List (List ℕ) → List Cell → CodeStep → Step → Type 0
IsStep names cells c x = Held names cells c.name x.name × Held names cells c.first x.first × Held names cells c.next x.next

abbrev pub IsStepOf : List (List ℕ) → List Cell → Option CodeStep → Datum → Type 0
IsStepOf names cells None d = step_of d ≡ None
IsStepOf names cells (Some c) d = (x : Step) × (step_of d ≡ Some x) × IsStep names cells c x

-- (u s ..)
abbrev pub turn_call : Span → List Step → Datum
turn_call s steps = listed s (a_variable s new.Turn ∷ map (λ x. x.next) steps)

-- (block b .. (u s ..))
abbrev pub turn_body : Span → List Datum → List Step → Datum
turn_body s bs steps = listed s (word_ s (codes "block") ∷ bs ++ turn_call s steps ∷ [])
