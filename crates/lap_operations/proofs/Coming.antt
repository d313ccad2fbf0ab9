-- Operations and services come to one relation.
use Rattle.std.proofs.Common.{ℕ, ◌+◌, ◌≤◌, List, [], None, sym, ap, ◌∙◌, append-nil}
use Rattle.program_runs.specs.Runs.{Value, Faulted, Full, Broken}
use Rattle.word_ir.specs.State.{Setting, State as WordState}
use Rattle.word_ir.specs.Effects.{Effect, Binds, Stores, Takes, SetsTop, Puts, Turns, Enters, Ends}
use Rattle.m68020_step.specs.Step.{State}
use Rattle.m68020_asm.specs.declared.item.Item.{Item}
use Rattle.lap_paths.specs.Paths.{Assembly, Path}
use Rattle.lap_lines.specs.Arrives.{Arrives}
use Rattle.lap_services.specs.Tells.{Tells, Serves}
use Rattle.lap_values.proofs.All.{more_told, more_serves}
use Rattle.lap_operations.specs.Comes.{Comes}
use Rattle.lap_operations.proofs.Quiet.{IsQuiet, IsSpoken}

-- a way of at least one instruction that puts nothing
told : (a : Assembly) (n : ℕ) (t : State) (Q : State → Type 0) → 1 ≤ n → Path a n t Q → Tells a n t [] None Q
told a n t Q le p = record {
  count = p.count;
  few = p.few;
  some = p.some le;
  to = p.to;
  runs = λ q is going. p.goes.runs q is going ∙ ap (λ (o : List ℕ). record { state = p.to; output = o; end = None; instructions = q.instructions + p.count }) (sym (append-nil q.output));
  costs = p.costs;
  there = p.there;
}

module _ (a : Assembly) (m : Setting) (s : WordState) (t : State) (items : List Item) (n k : ℕ) (le : n ≤ k) where
  longer : (Q : State → Type 0) → 1 ≤ n → Path a n t Q → Tells a k t [] None Q
  longer Q one p = more_told a n k t [] None Q le (told a n t Q one p)

  -- of operations but services
  pub arriving : (e : Effect) → 1 ≤ n → IsQuiet e → Arrives a m s t items n e → Comes a m s t items k e
  arriving (Binds to x) one quiet p = longer _ one p
  arriving (Stores at x) one quiet p = longer _ one p
  arriving (Takes to bytes) one quiet p = longer _ one p
  arriving (SetsTop top) one quiet p = longer _ one p
  arriving (Turns block) one quiet p = longer _ one p
  arriving (Puts bytes) one quiet p = absurd quiet
  arriving (Enters block env) one quiet p = absurd quiet
  arriving (Ends (Value shown)) one quiet p = absurd quiet
  arriving (Ends (Faulted fault)) one quiet p = absurd quiet
  arriving (Ends (Full stack asked left)) one quiet p = absurd quiet
  arriving (Ends Broken) one quiet p = tt

  -- of services
  pub serving : (e : Effect) → IsSpoken e → Serves a m s t items n e → Comes a m s t items k e
  serving (Puts bytes) spoken x = more_serves a m s t items n k le (Puts bytes) x
  serving (Ends (Value shown)) spoken x = more_serves a m s t items n k le (Ends (Value shown)) x
  serving (Ends (Faulted fault)) spoken x = more_serves a m s t items n k le (Ends (Faulted fault)) x
  serving (Ends (Full stack asked left)) spoken x = more_serves a m s t items n k le (Ends (Full stack asked left)) x
  serving (Ends Broken) spoken x = tt
  serving (Binds to w) spoken x = absurd spoken
  serving (Stores at w) spoken x = absurd spoken
  serving (Takes to bytes) spoken x = absurd spoken
  serving (SetsTop top) spoken x = absurd spoken
  serving (Turns block) spoken x = absurd spoken
  serving (Enters block env) spoken x = absurd spoken
