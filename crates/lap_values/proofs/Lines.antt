-- The value that ends the run, and strings.
use Rattle.std.proofs.Common.{◌≡◌, ℕ, List, [], ◌∷◌, ◌++◌, Some, refl, ap, subst, ◌∙◌, arith, append_assoc}
use Rattle.t_base.specs.declared.faults.Face.{Face}
use Rattle.program_runs.specs.Runs.{Value}
use Rattle.word_ir.specs.declared.operands.Operand.{Operand}
use Rattle.word_ir.specs.Word.{Number}
use Rattle.word_ir.specs.State.{Setting, State as WordState}
use Rattle.word_ir.specs.Effects.{Puts, Ends, or_broken, word_of, reader, names_of}
use Rattle.word_ir.specs.Ranges.{IsInPlace}
use Rattle.word_faces.specs.Faces.{face_of, shown_of}
use Rattle.word_faces.specs.Operands.{string_of}
use Rattle.m68020_code.specs.declared.instr.Ea.TheVariants.{D}
use Rattle.m68020_code.specs.declared.instr.Instr.TheVariants.{MoveL, Trap}
use Rattle.m68020_step.specs.Operand.{data_at}
use Rattle.m68020_step.specs.Ranges.{HasBytes}
use Rattle.m68020_step.specs.Step.{State}
use Rattle.m68020_step.specs.Storage.{Regions}
use Rattle.m68020_asm.specs.declared.item.Item.{Item}
use Rattle.m68020_asm.specs.declared.item.Item.TheVariants.{Plain}
use Rattle.machine_services.specs.declared.exit.Exit.{Exit}
use Rattle.machine_services.specs.declared.exit.Exit.TheVariants as exit
use Rattle.machine_services.specs.Observed.{end_of}
use Rattle.machine_services.specs.Services.{Puts as ServedPuts, Exits, or_bad, serve, halt, reader_of}
use Rattle.lap_items.specs.Operands.{source_items, source_of}
use Rattle.lap_items.specs.Services.{with_one_items, service_items}
use Rattle.lap_items.specs.Operations.{op_items}
use Rattle.lap_runs.specs.Represents.{Represents}
use Rattle.lap_paths.specs.Paths.{Assembly, Stands, at_pc, next_of}
use Rattle.lap_paths.specs.Housed.{IsHoused, IsUsable}
use Rattle.lap_paths.proofs.Steps.{arrived}
use Rattle.lap_paths.proofs.Besides.{beside_represents}
use Rattle.lap_paths.proofs.Loads.{source_goes, move_goes, reads_data}
use Rattle.lap_services.specs.Tells.{Tells}
use Rattle.lap_services.proofs.Telling.{before}
use Rattle.lap_services.proofs.Lines.{or_serves, number_serves, put_run, ended}
use Rattle.lap_values.specs.Laws.{ValuesArrive, StringsArrive}
use Rattle.lap_values.proofs.Reading.{faces_alike, strings_alike, reads_bytes}

module _ (a : Assembly) (m : Setting) (s : WordState) (housed : IsHoused m) (place : IsInPlace m s) where
  -- the operand goes into D0, and the run ends
  end_run : (t : State) (x : Operand) (w : ℕ) (how : Exit) (items : List Item) → Represents m a.labels s t → IsUsable m x → word_of m s x ≡ Some (Number w)
      → ((u : State) → u.storage ≡ t.storage → data_at u.registers 0 ≡ w → serve a.names u 0 ≡ Exits how) → Stands a t (with_one_items m.homes 0 (x ∷ []) ++ items) → Tells a 5 t [] (Some how) (λ u. next_of u ≡ s.next)
  unfolding with_one_items
  end_run t x w how items is usable word served stands =
      let R : State → Type 0 = λ u. next_of u ≡ s.next in
      let tail : List Item = Plain (MoveL (source_of m.homes x) (D 0)) ∷ Plain (Trap 0) ∷ Plain (MoveL (D 7) (D 0)) ∷ [] in
      let P : State → Type 0 = λ u. Tells a 1 u [] (Some how) R in
      before a 4 1 t [] (Some how) R
      (move_goes a m housed 3 t (D 0) 7 (data_at t.registers 0) ((source_items x ++ tail) ++ items) P (omega arith) stands (reads_data t 0 (data_at t.registers 0) refl)
      (λ t1 first kept stands1.
      let at_1 = beside_represents m a.labels 7 s t t1 housed (omega arith) is first in
      source_goes a m housed 0 s t1 x (Number w) (tail ++ items) P place at_1 usable word (subst (Stands a t1) (append_assoc (source_items x) tail items) stands1)
      (λ t2 second reads stands2.
      move_goes a m housed 0 t2 (source_of m.homes x) 0 w (Plain (Trap 0) ∷ Plain (MoveL (D 7) (D 0)) ∷ items) P (omega arith) stands2 reads
      (λ t3 third there stands3. arrived a t3 P
      (ended a m s housed place t3 0 (Plain (MoveL (D 7) (D 0)) ∷ items) how
      (third.addresses 4 (λ e. absurd (omega (arith, e))) ∙ second.addresses 4 (λ e. absurd (omega (arith, e))) ∙ first.addresses 4 (λ e. absurd (omega (arith, e))) ∙ is.next) stands3
      (λ pc. served (at_pc t3 pc) (third.storage ∙ second.storage ∙ first.storage) there))))))

  -- the value is shown alike, and the string has the same bytes
  halts : (t u : State) (w : ℕ) (f : Face) → a.names ≡ names_of m → Represents m a.labels s t → HasBytes t.storage → face_of (reader m s) (names_of m) w ≡ Some f → u.storage ≡ t.storage → data_at u.registers 0 ≡ w → serve a.names u 0 ≡ Exits (exit.Done f)
  halts t u w f named is range found same there =
      ap (λ (r : Regions). halt (reader_of r) a.names (data_at u.registers 0)) same
      ∙ ap (λ (n : List (List ℕ)). halt (reader_of t.storage) n (data_at u.registers 0)) named
      ∙ ap (λ (n : ℕ). halt (reader_of t.storage) (names_of m) n) there
      ∙ ap (or_bad (λ g. Exits (exit.Done g))) (faces_alike (reader m s) (reader_of t.storage) (reads_bytes a.labels m s t housed place is range) (names_of m) w f found)

  puts_text : (t u : State) (w : ℕ) (bytes : List ℕ) → Represents m a.labels s t → HasBytes t.storage → string_of (reader m s) w ≡ Some bytes → u.storage ≡ t.storage → data_at u.registers 0 ≡ w → serve a.names u 5 ≡ ServedPuts bytes
  puts_text t u w bytes is range found same there =
      ap (λ (r : Regions). or_bad ServedPuts (string_of (reader_of r) (data_at u.registers 0))) same
      ∙ ap (λ (n : ℕ). or_bad ServedPuts (string_of (reader_of t.storage) n)) there
      ∙ ap (or_bad ServedPuts) (strings_alike (reader m s) (reader_of t.storage) (reads_bytes a.labels m s t housed place is range) w bytes found)

pub values_arrive : ValuesArrive
unfolding op_items service_items
values_arrive x a m s t items named housed place is usable stands =
    number_serves a m s t items 5 x (λ w. or_broken (face_of (reader m s) (names_of m) w) (λ f. Ends (Value (shown_of (names_of m) f)))) (λ w word.
    or_serves a m s t items 5 (face_of (reader m s) (names_of m) w) (λ f. Ends (Value (shown_of (names_of m) f))) (λ f found. (
      exit.Done f,
      ap (λ (n : List (List ℕ)). end_of n (exit.Done f)) named,
      end_run a m s housed place t x w (exit.Done f) items is usable.0 word (λ u same there. halts a m s housed place t u w f named is stands.range.storage found same there) stands,
    )))

pub strings_arrive : StringsArrive
unfolding op_items service_items
strings_arrive x a m s t items housed place is usable stands =
    number_serves a m s t items 6 x (λ w. or_broken (string_of (reader m s) w) Puts) (λ w word.
    or_serves a m s t items 6 (string_of (reader m s) w) Puts (λ bytes found.
    put_run a m s housed place t x w 5 bytes items is usable.0 word (λ u same there. puts_text a m s housed place t u w bytes is stands.range.storage found same there) stands))
