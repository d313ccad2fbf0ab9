-- An object passes a call on.
use Rattle.std.proofs.Common.{◌≡◌, ℕ, suc, ◌+◌, ◌-◌, ◌*◌, ◌%◌, ◌<◌, true, List, [], ◌∷◌, length, map, slice_get, Option, Some, None, is_some, option_map, pos, negsuc, refl, sym, ap, ◌∙◌, subst, arith}
use Rattle.std.proofs.lemmas.Bool.{ne_eqb, eq-eqb}
use Rattle.std.proofs.lemmas.Option.{slice_get-map}
use Rattle.program_runs.specs.Runs.{Faulted}
use Rattle.t_base.specs.declared.faults.Fault.TheVariants.{NotProcedure}
use Rattle.t_prim.specs.Values.{Val, ObjectV}
use Rattle.word_ir.specs.declared.operands.Operand.{Operand}
use Rattle.word_ir.specs.declared.operands.Operand.TheVariants as operand
use Rattle.word_ir.specs.declared.words.WordBlock.{WordBlock}
use Rattle.word_ir.specs.declared.words.WordEnd.TheVariants as last
use Rattle.word_ir.specs.declared.words.Words.{Words}
use Rattle.word_ir.specs.Word.{Number, moved}
use Rattle.word_ir.specs.Storage.{Sizes, long_at}
use Rattle.word_ir.specs.State.{Own, kept}
use Rattle.word_ir.specs.State as word_state
use Rattle.word_ir.specs.Step.{words_in}
use Rattle.word_ir.specs.Stamps.{Stamp}
use Rattle.frame_ir.specs.Values.{Lasting, Object}
use Rattle.frame_ir.specs.States.{State, AnObject}
use Rattle.word_trees.specs.Trees.{Tree, Close}
use Rattle.word_trees.specs.Cores.{Core, at, word_in, stamp_in, some_stamp, binding, entering, bound_words, bound_stamps}
use Rattle.word_trees.specs.Leads.{Performs}
use Rattle.word_trees.proofs.Ends.{jump_enters}
use Rattle.word_trees.proofs.Operations.{service_ends}
use Rattle.word_trees.proofs.Performing.{ends, enters_performs, here_leads, load_performs, ask_performs_true, ask_performs_false}
use Rattle.frame_words.specs.Layouts.{Layout}
use Rattle.frame_words.specs.ValueWords.{val_word, word_for, or_zero, tag_of}
use Rattle.frame_words.specs.Contents.{Escapes, thing_contents}
use Rattle.frame_words.specs.Holding.{IsMade}
use Rattle.frame_words.specs.Origins.{OnHeap, IsRead}
use Rattle.frame_words.proofs.Reading.{made_is}
use Rattle.frame_words.proofs.Values.{on_heap, heap_word, header_is, tag_is}
use Rattle.select_rows.specs.Macros.{var, of_var, word, fault, never}
use Rattle.select_rows.proofs.Keeping.{may_read, newest_kept}
use Rattle.frame_stacks.specs.Stacks.{Ways, IsLasting}
use Rattle.frame_reads.specs.Laws.{Fails}
use Rattle.frame_calls.specs.Codes.{params_from, call_params, apply_code}
use Rattle.frame_calls.specs.Calls.{HoldsCall, Calls}
use Rattle.frame_calls.proofs.Passing.{word_bound, stamp_bound, param_at}
use Rattle.frame_calls.proofs.Calling.{nothing_bound}
use Rattle.frame_objects.specs.Laws.{object_code}

other_kept : {X : Type 0} (env : word_state.Env X) (u v : ℕ) (x : X) → (u ≡ v → ⊥) → kept ((Own u, x) ∷ env) (Own v) ≡ kept env (Own v)
other_kept env u v x ne = rw (ne_eqb u v ne) refl

some_number : (o : Option ℕ) → is_some o ≡ true → o ≡ Some (or_zero o)
some_number (Some n) k = refl
some_number None k = absurd (cc)

module _ (words : Words) (sizes : Sizes) (l : Layout) (e : Escapes) (g : Ways) (t : ℕ) (s : State) (i : ℕ) (k : Object) (args : List Val) (c : Core) (h : HoldsCall sizes l e g t s (Lasting (ObjectV i)) args c) (there : slice_get s.objects i ≡ Some k) where
  abbrev passed : List Operand
  passed = of_var t ∷ of_var (t + 9) ∷ map operand.Var (params_from (t + 2) 5)

  module _ (a b : Stamp) (known : word_for l s k.procedure ≡ Some (val_word l s k.procedure)) where
    abbrev d : Core
    d = binding (binding c (var (t + 7)) (Number 0x21) a) (var (t + 9)) (Number (val_word l s k.procedure)) b

    abbrev again : Core
    again = record d { env = bound_words (call_params t) (map (word_in d) passed) []; stamps = bound_stamps (call_params t) (map (stamp_in (words_in words sizes) d) passed) [] }

    below : (j : ℕ) → j < 7 → kept d.env (Own (t + j)) ≡ kept c.env (Own (t + j))
    below j lt =
        other_kept ((Own (t + 7), Number 0x21) ∷ c.env) (t + 9) (t + j) (Number (val_word l s k.procedure)) (λ eq. absurd (omega (arith, eq, lt)))
        ∙ other_kept c.env (t + 7) (t + j) (Number 0x21) (λ eq. absurd (omega (arith, eq, lt)))

    operand_at : (j : ℕ) → j < 5 → slice_get (map (word_in d) (map operand.Var (params_from (t + 2) 5))) j ≡ Some (kept d.env (Own (t + 2 + j)))
    operand_at j lt =
        slice_get-map (word_in d) (map operand.Var (params_from (t + 2) 5)) j
        ∙ (ap (option_map (word_in d)) (slice_get-map operand.Var (params_from (t + 2) 5) j)
        ∙ ap (λ o. option_map (word_in d) (option_map operand.Var o)) (param_at (t + 2) 5 j lt))

    operand_again : (j : ℕ) (v : Val) → slice_get args j ≡ Some v → j < 5 → kept again.env (Own (t + 2 + j)) ≡ Some (Number (val_word l s v))
    operand_again j v at lt =
        let m : t + 2 + j ≡ t + (2 + j) = omega arith in
        let n : 2 + j ≡ suc (suc j) = omega arith in
        let old : kept d.env (Own (t + 2 + j)) ≡ Some (Number (val_word l s v)) =
        ap (λ x. kept d.env (Own x)) m ∙ (below (2 + j) (omega (arith, lt)) ∙ (sym (ap (λ x. kept c.env (Own x)) m) ∙ h.operands j v at lt)) in
        ap (λ x. kept again.env (Own x)) m
        ∙ word_bound t 7 (2 + j) (map (word_in d) passed) [] (Number (val_word l s v)) (omega (arith, lt)) (ap (slice_get (map (word_in d) passed)) n ∙ (operand_at j lt ∙ ap Some old))

    call_again : HoldsCall sizes l e g t s (Lasting k.procedure) args again
    call_again =
        let z : t ≡ t + 0 = omega arith in
        let first : kept d.env (Own t) ≡ Some (Number (length args)) = ap (λ x. kept d.env (Own x)) z ∙ (below 0 (omega arith) ∙ (sym (ap (λ x. kept c.env (Own x)) z) ∙ h.count)) in
        record {
          holds = nothing_bound sizes l e g t s [] c again.env again.stamps h.holds;
          count = ap (λ x. kept again.env (Own x)) z ∙ word_bound t 7 0 (map (word_in d) passed) [] (Number (length args)) (omega arith) (ap Some first);
          few = h.few;
          word = Number (val_word l s k.procedure);
          stamp = some_stamp (Some (some_stamp (kept d.stamps (Own (t + 9)))));
          held = word_bound t 7 1 (map (word_in d) passed) [] (Number (val_word l s k.procedure)) (omega arith) (ap Some (newest_kept ((Own (t + 7), Number 0x21) ∷ c.env) (t + 9) (Number (val_word l s k.procedure))));
          stamped = ap some_stamp (stamp_bound t 7 1 (map (stamp_in (words_in words sizes) d) passed) [] (some_stamp (kept d.stamps (Own (t + 9)))) (omega arith) refl);
          stands = record { number = val_word l s k.procedure; known = known; is = refl };
          known = h.known;
          operands = operand_again;
          others = h.others;
        }

  pub passes : (apply : ℕ) (block : WordBlock) (others : Tree) → slice_get words.blocks.items apply ≡ Some block → block.params ≡ call_params t → Performs words sizes (Calls sizes l e g t s (Lasting k.procedure) args apply) 1 21 (apply_code t (object_code t apply others)) c
  passes apply block others found params =
      let w : IsLasting l s (Lasting (ObjectV i)) h.word = h.stands in
      let tag : w.number % 4 ≡ 2 = tag_is l s (ObjectV i) w.number w.known in
      let o : OnHeap s 2 (AnObject i) w.number = on_heap s 2 (AnObject i) w.number w.known in
      let made : IsMade l s (AnObject i) = made_is sizes l e s c.storage c.next c.output h.holds.data_held (AnObject i) o.place o.found in
      let same : made.0 ≡ k = let y : slice_get s.objects i ≡ Some made.0 = made.1 in cc in
      let known : word_for l s k.procedure ≡ Some (val_word l s k.procedure) = some_number (word_for l s k.procedure) (subst (λ y. is_some (word_for l s y.procedure) ≡ true) same made.2.0) in
      let header : IsRead c.storage (moved w.number (negsuc 1)) (Number 0x21) = header_is sizes l e s c.storage c.next c.output h.holds.data_held (ObjectV i) w.number 0x21 w.known refl in
      let third : slice_get (thing_contents l e s (AnObject i)) 2 ≡ Some (Number (val_word l s k.procedure)) = rw there refl in
      let r : IsRead c.storage (w.number - 2 + 4 * 2) (Number (val_word l s k.procedure)) = heap_word sizes l e s c.storage c.next c.output h.holds.data_held 2 (AnObject i) w.number 2 (Number (val_word l s k.procedure)) o third in
      let address : moved w.number (pos 6) ≡ w.number - 2 + 4 * 2 = omega (arith, o.word, r.outside) in
      let a : Stamp = some_stamp (long_at c.longs (moved w.number (negsuc 1))) in
      let b : Stamp = some_stamp (long_at c.longs (moved w.number (pos 6))) in
      let first : Core = binding c (var (t + 7)) (Number 0x21) a in
      let second : Core = binding first (var (t + 9)) (Number (val_word l s k.procedure)) b in
      let held : kept c.env (Own (t + 1)) ≡ Some (Number w.number) = h.held ∙ ap Some w.is in
      let held_first : kept first.env (Own (t + 1)) ≡ Some (Number w.number) = other_kept c.env (t + 7) (t + 1) (Number 0x21) (λ eq. absurd (omega (arith, eq))) ∙ held in
      ask_performs_true words sizes (Calls sizes l e g t s (Lasting k.procedure) args apply) (Number w.number) (Number 0) held refl (ap Some (eq-eqb (w.number % 4) 2 tag))
      (load_performs words sizes (Calls sizes l e g t s (Lasting k.procedure) args apply) w.number (Number 0x21) held header.reads (may_read words sizes c (of_var (t + 1)) (moved w.number (negsuc 1)) header.outside)
      (ask_performs_false words sizes (Calls sizes l e g t s (Lasting k.procedure) args apply) (Number 0x21) (Number 0x1D) (newest_kept c.env (t + 7) (Number 0x21)) refl refl
      (ask_performs_true words sizes (Calls sizes l e g t s (Lasting k.procedure) args apply) (Number 0x21) (Number 0x21) (newest_kept c.env (t + 7) (Number 0x21)) refl refl
      (load_performs words sizes (Calls sizes l e g t s (Lasting k.procedure) args apply) w.number (Number (val_word l s k.procedure)) held_first (ap (long_at c.storage) address ∙ r.reads) (may_read words sizes first (of_var (t + 1)) (moved w.number (pos 6)) (omega (arith, address, r.outside)))
      (enters_performs words sizes (Calls sizes l e g t s (Lasting k.procedure) args apply) 0 0 8 apply (Close (last.Jump apply passed)) second (entering (words_in words sizes) second block.params passed)
      (jump_enters words sizes second apply block passed found (sym (ap length params)))
      (λ moves steps. here_leads words sizes (Calls sizes l e g t s (Lasting k.procedure) args apply) 0 _
      (record { core = again a b known; holds = call_again a b known; moves = moves; steps = steps; there = ap (λ ps. at (entering (words_in words sizes) second ps passed) apply 0 moves steps) params })))))))

pub object_passes : (words : Words) (sizes : Sizes) (l : Layout) (e : Escapes) (g : Ways) (t : ℕ) (s : State) (i : ℕ) (k : Object) (args : List Val) (c : Core) (apply : ℕ) (block : WordBlock) (others : Tree) → HoldsCall sizes l e g t s (Lasting (ObjectV i)) args c → slice_get s.objects i ≡ Some k → slice_get words.blocks.items apply ≡ Some block → block.params ≡ call_params t → Performs words sizes (Calls sizes l e g t s (Lasting k.procedure) args apply) 1 21 (apply_code t (object_code t apply others)) c
object_passes words sizes l e g t s i k args c apply block others h there found params = passes words sizes l e g t s i k args c h there apply block others found params

pub other_fails : (words : Words) (sizes : Sizes) (l : Layout) (e : Escapes) (g : Ways) (t : ℕ) (s : State) (v : Val) (args : List Val) (c : Core) (others : Tree) → HoldsCall sizes l e g t s (Lasting v) args c → (tag_of v ≡ 2 → ⊥) → Performs words sizes (Fails sizes l e s NotProcedure) 1 5 (apply_code t others) c
other_fails words sizes l e g t s v args c others h differs =
    let w : IsLasting l s (Lasting v) h.word = h.stands in
    let tag : w.number % 4 ≡ tag_of v = tag_is l s v w.number w.known in
    ask_performs_false words sizes (Fails sizes l e s NotProcedure) (Number w.number) (Number 0) (h.held ∙ ap Some w.is) refl (ap Some (ne_eqb (w.number % 4) 2 (λ eq. differs (sym tag ∙ eq))))
    (ends words sizes (Fails sizes l e s NotProcedure) 2 (fault 1) c (Faulted NotProcedure) (service_ends words sizes c 3 (word 1) 1 (Faulted NotProcedure) never refl refl)
    (λ block place moves steps. record { core = c; data_held = h.holds.data_held; block = block; place = place; moves = moves; steps = steps; there = refl }))
