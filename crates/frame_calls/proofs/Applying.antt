-- A closure that isn't known is entered by way of its word.
use Rattle.std.proofs.Common.{◌≡◌, ℕ, ◌+◌, ◌-◌, ◌*◌, ◌%◌, ◌<◌, ◌⊎◌, inl, inr, List, [], ◌∷◌, length, map, slice_get, Some, option_map, pos, negsuc, refl, sym, ap, ◌∙◌, subst, arith}
use Rattle.std.proofs.lemmas.Bool.{ne_eqb, eq-eqb}
use Rattle.std.proofs.lemmas.Option.{slice_get-map}
use Rattle.t_prim.specs.Values.{Val, ClosureV}
use Rattle.word_ir.specs.declared.operands.Operand.TheVariants as operand
use Rattle.word_ir.specs.declared.words.WordBlock.{WordBlock}
use Rattle.word_ir.specs.declared.words.WordEnd.TheVariants as last
use Rattle.word_ir.specs.declared.words.Words.{Words}
use Rattle.word_ir.specs.Word.{Word, Number, Code, moved}
use Rattle.word_ir.specs.Storage.{Sizes, long_at}
use Rattle.word_ir.specs.State.{Own, kept}
use Rattle.word_ir.specs.State as word_state
use Rattle.word_ir.specs.Step.{words_in}
use Rattle.word_ir.specs.Stamps.{Stamp, Stamped}
use Rattle.frame_ir.specs.Values.{Value, Lasting, Closure}
use Rattle.frame_ir.specs.States.{State, AClosure}
use Rattle.word_trees.specs.Trees.{Tree, Close}
use Rattle.word_trees.specs.Cores.{Core, at, word_in, stamp_in, some_stamp, binding, entering, bound_words, bound_stamps}
use Rattle.word_trees.specs.Leads.{Performs}
use Rattle.word_trees.proofs.Ends.{enter_enters}
use Rattle.word_trees.proofs.Performing.{enters_performs, here_leads, load_performs, ask_performs_true}
use Rattle.frame_words.specs.Layouts.{Layout, ClosureOf}
use Rattle.frame_words.specs.ValueWords.{val_word}
use Rattle.frame_words.specs.Contents.{Escapes, thing_contents}
use Rattle.frame_words.specs.Origins.{OnHeap, InStatics, IsRead}
use Rattle.frame_words.proofs.Reading.{fixed_is}
use Rattle.frame_words.proofs.Values.{either, heap_word, fixed_word, header_is, tag_is}
use Rattle.select_rows.specs.Macros.{var, of_var}
use Rattle.select_rows.proofs.Keeping.{may_read, newest_kept}
use Rattle.frame_stacks.specs.Stacks.{Ways, IsLasting}
use Rattle.frame_calls.specs.Codes.{params_from, call_params, pass_on, apply_code}
use Rattle.frame_calls.specs.Calls.{HoldsCall, Calls}
use Rattle.frame_calls.proofs.Passing.{word_bound, stamp_bound, param_at}
use Rattle.frame_calls.proofs.Calling.{none_bound}

other_kept : {X : Type 0} (env : word_state.Env X) (u v : ℕ) (x : X) → (u ≡ v → ⊥) → kept ((Own u, x) ∷ env) (Own v) ≡ kept env (Own v)
other_kept env u v x ne = rw (ne_eqb u v ne) refl

-- what variables from a number on hold
passed_word : (d : Core) (n k i : ℕ) → i < k → slice_get (map (word_in d) (map operand.Var (params_from n k))) i ≡ Some (kept d.env (Own (n + i)))
passed_word d n k i lt =
    slice_get-map (word_in d) (map operand.Var (params_from n k)) i
    ∙ (ap (option_map (word_in d)) (slice_get-map operand.Var (params_from n k) i)
    ∙ ap (λ o. option_map (word_in d) (option_map operand.Var o)) (param_at n k i lt))

passed_stamp : (words : Words) (sizes : Sizes) (d : Core) (n k i : ℕ) → i < k → slice_get (map (stamp_in (words_in words sizes) d) (map operand.Var (params_from n k))) i ≡ Some (some_stamp (kept d.stamps (Own (n + i))))
passed_stamp words sizes d n k i lt =
    slice_get-map (stamp_in (words_in words sizes) d) (map operand.Var (params_from n k)) i
    ∙ (ap (option_map (stamp_in (words_in words sizes) d)) (slice_get-map operand.Var (params_from n k) i)
    ∙ ap (λ o. option_map (stamp_in (words_in words sizes) d) (option_map operand.Var o)) (param_at n k i lt))

module _ (words : Words) (sizes : Sizes) (l : Layout) (e : Escapes) (g : Ways) (t : ℕ) (s : State) (f : Value) (args : List Val) (c : Core) (h : HoldsCall sizes l e g t s f args c) where
  -- with two more variables behind the parameters
  abbrev two_more : Word → Stamp → Word → Stamp → Core
  two_more x a y b = binding (binding c (var (t + 7)) x a) (var (t + 8)) y b

  abbrev passed_on : ℕ → Core → Core
  passed_on u d = record d { env = bound_words (call_params u) (map (word_in d) (map operand.Var (call_params t))) []; stamps = bound_stamps (call_params u) (map (stamp_in (words_in words sizes) d) (map operand.Var (call_params t))) [] }

  module _ (u : ℕ) (x y : Word) (a b : Stamp) where
    abbrev d : Core
    d = two_more x a y b

    below_both : (i : ℕ) → i < 7 → kept d.env (Own (t + i)) ≡ kept c.env (Own (t + i))
    below_both i lt = other_kept ((Own (t + 7), x) ∷ c.env) (t + 8) (t + i) y (λ eq. absurd (omega (arith, eq, lt))) ∙ other_kept c.env (t + 7) (t + i) x (λ eq. absurd (omega (arith, eq, lt)))

    stamps_below : (i : ℕ) → i < 7 → kept d.stamps (Own (t + i)) ≡ kept c.stamps (Own (t + i))
    stamps_below i lt = other_kept ((Own (t + 7), a) ∷ c.stamps) (t + 8) (t + i) b (λ eq. absurd (omega (arith, eq, lt))) ∙ other_kept c.stamps (t + 7) (t + i) a (λ eq. absurd (omega (arith, eq, lt)))

    word_passed : (i : ℕ) (w : Word) → i < 7 → kept c.env (Own (t + i)) ≡ Some w → kept (passed_on u d).env (Own (u + i)) ≡ Some w
    word_passed i w lt held = word_bound u 7 i (map (word_in d) (map operand.Var (call_params t))) [] w lt (passed_word d t 7 i lt ∙ ap Some (below_both i lt ∙ held))

    pub call_passed : HoldsCall sizes l e g u s f args (passed_on u d)
    call_passed =
        let z : t ≡ t + 0 = omega arith in
        let first : u ≡ u + 0 = omega arith in
        record {
          holds = none_bound sizes l e g t u s [] c (passed_on u d).env (passed_on u d).stamps h.holds;
          count = ap (λ v. kept (passed_on u d).env (Own v)) first ∙ word_passed 0 (Number (length args)) (omega arith) (sym (ap (λ v. kept c.env (Own v)) z) ∙ h.count);
          few = h.few;
          word = h.word;
          stamp = h.stamp;
          held = word_passed 1 h.word (omega arith) h.held;
          stamped = ap some_stamp (stamp_bound u 7 1 (map (stamp_in (words_in words sizes) d) (map operand.Var (call_params t))) [] (some_stamp (kept d.stamps (Own (t + 1)))) (omega arith) (passed_stamp words sizes d t 7 1 (omega arith)))
              ∙ (ap some_stamp (stamps_below 1 (omega arith)) ∙ h.stamped);
          stands = h.stands;
          known = h.known;
          operands = λ i v at lt.
              let m : t + 2 + i ≡ t + (2 + i) = omega arith in
              let n : u + 2 + i ≡ u + (2 + i) = omega arith in
              ap (λ x. kept (passed_on u d).env (Own x)) n ∙ word_passed (2 + i) (Number (val_word l s v)) (omega (arith, lt)) (sym (ap (λ x. kept c.env (Own x)) m) ∙ h.operands i v at lt);
          others = h.others;
        }

  -- to a code that is read behind the header
  pub passes_on_to : (u n target : ℕ) (block : WordBlock) (x : Word) (a : Stamp) → h.word ≡ Number n → IsRead c.storage (moved n (pos 2)) (Code target) → slice_get words.blocks.items target ≡ Some block → block.params ≡ call_params u
      → Performs words sizes (Calls sizes l e g u s f args target) 1 11 (pass_on t) (binding c (var (t + 7)) x a)
  passes_on_to u n target block x a is read there params =
      let Q : Stamped → Type 0 = Calls sizes l e g u s f args target in
      let first : Core = binding c (var (t + 7)) x a in
      let b : Stamp = some_stamp (long_at c.longs (moved n (pos 2))) in
      let second : Core = binding first (var (t + 8)) (Code target) b in
      let held : kept first.env (Own (t + 1)) ≡ Some (Number n) = other_kept c.env (t + 7) (t + 1) x (λ eq. absurd (omega (arith, eq))) ∙ (h.held ∙ ap Some is) in
      load_performs words sizes (Calls sizes l e g u s f args target) n (Code target) held read.reads (may_read words sizes first (of_var (t + 1)) (moved n (pos 2)) read.outside)
      (enters_performs words sizes (Calls sizes l e g u s f args target) 0 0 9 target (Close (last.Enter (of_var (t + 8)) (map operand.Var (call_params t)))) second (entering (words_in words sizes) second block.params (map operand.Var (call_params t)))
      (enter_enters words sizes second (of_var (t + 8)) target block (map operand.Var (call_params t)) (newest_kept first.env (t + 8) (Code target)) there)
      (λ moves steps. here_leads words sizes (Calls sizes l e g u s f args target) 0 _
      (record { core = passed_on u second; holds = call_passed u x (Code target) a b; moves = moves; steps = steps; there = ap (λ ps. at (entering (words_in words sizes) second ps (map operand.Var (call_params t))) target 0 moves steps) params })))

module _ (words : Words) (sizes : Sizes) (l : Layout) (e : Escapes) (g : Ways) (t : ℕ) (s : State) (i : ℕ) (k : Closure) (args : List Val) (c : Core) (h : HoldsCall sizes l e g t s (Lasting (ClosureV i)) args c) (there : slice_get s.closures i ≡ Some k) where
  code_by : (n : ℕ) → OnHeap s 2 (AClosure i) n ⊎ InStatics l 2 (ClosureOf i) n → IsRead c.storage (moved n (pos 2)) (Code (l.closure_entry k.code))
  code_by n (inl o) =
      let found : slice_get (thing_contents l e s (AClosure i)) 1 ≡ Some (Code (l.closure_entry k.code)) = rw there refl in
      let address : n - 2 + 4 * 1 ≡ moved n (pos 2) = let r = heap_word sizes l e s c.storage c.next c.output h.holds.data_held 2 (AClosure i) n 1 (Code (l.closure_entry k.code)) o found in omega (arith, o.word, r.outside) in
      subst (λ a. IsRead c.storage a (Code (l.closure_entry k.code))) address (heap_word sizes l e s c.storage c.next c.output h.holds.data_held 2 (AClosure i) n 1 (Code (l.closure_entry k.code)) o found)
  code_by n (inr o) =
      let fixed : slice_get s.closures i ≡ Some (record { code = i; captured = [] }) = fixed_is sizes l e s c.storage c.next c.output h.holds.data_held (ClosureOf i) o.place o.found in
      let same : k ≡ record { code = i; captured = [] } = cc in
      let code : i ≡ k.code = sym (ap (λ y. y.code) same) in
      let address : n - 2 + 4 * 1 ≡ moved n (pos 2) = let r = fixed_word sizes l e s c.storage c.next c.output h.holds.data_held 2 (ClosureOf i) n 1 (Code (l.closure_entry i)) o refl in omega (arith, o.word, r.outside) in
      subst (λ b. IsRead c.storage (moved n (pos 2)) (Code (l.closure_entry b))) code
      (subst (λ a. IsRead c.storage a (Code (l.closure_entry i))) address (fixed_word sizes l e s c.storage c.next c.output h.holds.data_held 2 (ClosureOf i) n 1 (Code (l.closure_entry i)) o refl))

  pub applied : (u : ℕ) (block : WordBlock) (others : Tree) → slice_get words.blocks.items (l.closure_entry k.code) ≡ Some block → block.params ≡ call_params u → Performs words sizes (Calls sizes l e g u s (Lasting (ClosureV i)) args (l.closure_entry k.code)) 1 19 (apply_code t others) c
  applied u block others found params =
      let w : IsLasting l s (Lasting (ClosureV i)) h.word = h.stands in
      let n : ℕ = w.number in
      let tag : w.number % 4 ≡ 2 = tag_is l s (ClosureV i) w.number w.known in
      let header : IsRead c.storage (moved w.number (negsuc 1)) (Number 0x1D) = header_is sizes l e s c.storage c.next c.output h.holds.data_held (ClosureV i) w.number 0x1D w.known refl in
      let a : Stamp = some_stamp (long_at c.longs (moved w.number (negsuc 1))) in
      let first : Core = binding c (var (t + 7)) (Number 0x1D) a in
      let held : kept c.env (Own (t + 1)) ≡ Some (Number w.number) = h.held ∙ ap Some w.is in
      ask_performs_true words sizes (Calls sizes l e g u s (Lasting (ClosureV i)) args (l.closure_entry k.code)) (Number w.number) (Number 0) held refl (ap Some (eq-eqb (w.number % 4) 2 tag))
      (load_performs words sizes (Calls sizes l e g u s (Lasting (ClosureV i)) args (l.closure_entry k.code)) w.number (Number 0x1D) held header.reads (may_read words sizes c (of_var (t + 1)) (moved w.number (negsuc 1)) header.outside)
      (ask_performs_true words sizes (Calls sizes l e g u s (Lasting (ClosureV i)) args (l.closure_entry k.code)) (Number 0x1D) (Number 0x1D) (newest_kept c.env (t + 7) (Number 0x1D)) refl refl
      (passes_on_to words sizes l e g t s (Lasting (ClosureV i)) args c h u w.number (l.closure_entry k.code) block (Number 0x1D) a w.is (code_by w.number (either l s 2 (AClosure i) (ClosureOf i) w.number w.known)) found params)))

pub closure_applied : (words : Words) (sizes : Sizes) (l : Layout) (e : Escapes) (g : Ways) (t u : ℕ) (s : State) (i : ℕ) (k : Closure) (args : List Val) (c : Core) (block : WordBlock) (others : Tree) → HoldsCall sizes l e g t s (Lasting (ClosureV i)) args c → slice_get s.closures i ≡ Some k → slice_get words.blocks.items (l.closure_entry k.code) ≡ Some block → block.params ≡ call_params u → Performs words sizes (Calls sizes l e g u s (Lasting (ClosureV i)) args (l.closure_entry k.code)) 1 19 (apply_code t others) c
closure_applied words sizes l e g t u s i k args c block others h there found params = applied words sizes l e g t s i k args c h there u block others found params
