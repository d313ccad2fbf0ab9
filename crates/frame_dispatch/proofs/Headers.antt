-- The header of a procedure is looked at.
use Rattle.std.proofs.Common.{◌≡◌, ℕ, ◌+◌, ◌-◌, ◌*◌, ◌%◌, ◌≤◌, ◌==◌, false, List, slice_get, Some, pos, negsuc, refl, ap, ◌∙◌, subst, arith}
use Rattle.std.proofs.lemmas.Bool.{eq-eqb}
use Rattle.program_runs.specs.Runs.{Faulted}
use Rattle.t_base.specs.declared.builtins.Builtin.{Builtin}
use Rattle.t_base.specs.declared.faults.Fault.TheVariants.{NotProcedure}
use Rattle.t_prim.specs.Values.{Val, FixV, CharV, NilV, TrueV, SymbolV, StringV, PairV, VectorV, ClosureV, ObjectV, OperationV, BuiltinV, EscapeV}
use Rattle.t_prim.specs.Kinds.{is_procedure}
use Rattle.word_ir.specs.declared.words.WordBlock.{WordBlock}
use Rattle.word_ir.specs.declared.words.Words.{Words}
use Rattle.word_ir.specs.Word.{Number, Code, moved}
use Rattle.word_ir.specs.Storage.{Sizes, long_at}
use Rattle.word_ir.specs.State.{Own, kept}
use Rattle.word_ir.specs.Stamps.{Stamp, Stamped}
use Rattle.frame_ir.specs.Values.{Lasting}
use Rattle.frame_ir.specs.States.{State}
use Rattle.word_trees.specs.Trees.{Tree}
use Rattle.word_trees.specs.Cores.{Core, some_stamp, binding}
use Rattle.word_trees.specs.Leads.{Performs}
use Rattle.word_trees.proofs.Operations.{service_ends}
use Rattle.word_trees.proofs.Performing.{ends, performs_more, load_performs, ask_performs_true, ask_performs_false}
use Rattle.frame_words.specs.Layouts.{Layout, BuiltinOf}
use Rattle.frame_words.specs.ValueWords.{tag_of, header_of}
use Rattle.frame_words.specs.Contents.{Escapes}
use Rattle.frame_words.specs.Origins.{InStatics, IsRead}
use Rattle.frame_words.proofs.Values.{in_statics, fixed_word, header_is, tag_is}
use Rattle.select_rows.specs.Macros.{var, of_var, word, fault, never}
use Rattle.select_rows.proofs.Keeping.{may_read, newest_kept}
use Rattle.frame_stacks.specs.Stacks.{Ways, IsLasting}
use Rattle.frame_reads.specs.Laws.{Fails}
use Rattle.frame_calls.specs.Codes.{call_params, pass_on, apply_code}
use Rattle.frame_calls.specs.Calls.{HoldsCall, Calls}
use Rattle.frame_calls.proofs.Applying.{passes_on_to}
use Rattle.frame_objects.proofs.Objects.{other_fails}
use Rattle.frame_objects.specs.Laws.{object_code}
use Rattle.frame_dispatch.specs.Codes.{by_header, others_code, apply_block}

module _ (words : Words) (sizes : Sizes) (Q : Stamped → Type 0) (l : Layout) (e : Escapes) (g : Ways) (t : ℕ) (s : State) (v : Val) (args : List Val) (c : Core) (h : HoldsCall sizes l e g t s (Lasting v) args c) where
  -- with the header bound
  abbrev pub header_read : ℕ → Stamp → Core
  header_read header a = binding c (var (t + 7)) (Number header) a

  -- what has the tag of objects: its header is compared with that of closures first
  pub header_looked_at : (header k : ℕ) (others : Tree) → tag_of v ≡ 2 → header_of v ≡ Some header → (header == 0x1D) ≡ false → ((a : Stamp) → Performs words sizes Q 1 k others (header_read header a)) → Performs words sizes Q 1 (8 + k) (apply_code t others) c
  header_looked_at header k others two is differs next =
      let w : IsLasting l s (Lasting v) h.word = h.stands in
      let tag : w.number % 4 ≡ tag_of v = tag_is l s v w.number w.known in
      let read : IsRead c.storage (moved w.number (negsuc 1)) (Number header) = header_is sizes l e s c.storage c.next c.output h.holds.data_held v w.number header w.known is in
      let held : kept c.env (Own (t + 1)) ≡ Some (Number w.number) = h.held ∙ ap Some w.is in
      let n : 3 + (2 + (3 + k)) ≤ 8 + k = omega arith in
      performs_more words sizes Q (8 + k) n
      (ask_performs_true words sizes Q (Number w.number) (Number 0) held refl (ap Some (eq-eqb (w.number % 4) 2 (tag ∙ two)))
      (load_performs words sizes Q w.number (Number header) held read.reads (may_read words sizes c (of_var (t + 1)) (moved w.number (negsuc 1)) read.outside)
      (ask_performs_false words sizes Q (Number header) (Number 0x1D) (newest_kept c.env (t + 7) (Number header)) refl (ap Some differs)
      (next (some_stamp (long_at c.longs (moved w.number (negsuc 1))))))))

  -- another header
  pub other_header : (header other k : ℕ) (a : Stamp) (code others : Tree) → (header == other) ≡ false → Performs words sizes Q 1 k others (header_read header a) → Performs words sizes Q 1 (3 + k) (by_header t other code others) (header_read header a)
  other_header header other k a code others differs next = ask_performs_false words sizes Q (Number header) (Number other) (newest_kept c.env (t + 7) (Number header)) refl (ap Some differs) next

  -- this one
  pub this_header : (header k : ℕ) (a : Stamp) (code others : Tree) → Performs words sizes Q 1 k code (header_read header a) → Performs words sizes Q 1 (3 + k) (by_header t header code others) (header_read header a)
  this_header header k a code others next = ask_performs_true words sizes Q (Number header) (Number header) (newest_kept c.env (t + 7) (Number header)) refl (ap Some (eq-eqb header header refl)) next

pub builtin_applied : (words : Words) (sizes : Sizes) (l : Layout) (e : Escapes) (g : Ways) (t u : ℕ) (s : State) (p : Builtin) (args : List Val) (c : Core) (apply look kill : ℕ) (block : WordBlock) → HoldsCall sizes l e g t s (Lasting (BuiltinV p)) args c → slice_get words.blocks.items (l.builtin_entry p) ≡ Some block → block.params ≡ call_params u → Performs words sizes (Calls sizes l e g u s (Lasting (BuiltinV p)) args (l.builtin_entry p)) 1 25 (apply_block t apply look kill) c
builtin_applied words sizes l e g t u s p args c apply look kill block h there params =
    let Q : Stamped → Type 0 = Calls sizes l e g u s (Lasting (BuiltinV p)) args (l.builtin_entry p) in
    let w : IsLasting l s (Lasting (BuiltinV p)) h.word = h.stands in
    let o : InStatics l 2 (BuiltinOf p) w.number = in_statics l 2 (BuiltinOf p) w.number w.known in
    let second : IsRead c.storage (w.number - 2 + 4 * 1) (Code (l.builtin_entry p)) = fixed_word sizes l e s c.storage c.next c.output h.holds.data_held 2 (BuiltinOf p) w.number 1 (Code (l.builtin_entry p)) o refl in
    let address : w.number - 2 + 4 * 1 ≡ moved w.number (pos 2) = omega (arith, o.word) in
    let read : IsRead c.storage (moved w.number (pos 2)) (Code (l.builtin_entry p)) = subst (λ a. IsRead c.storage a (Code (l.builtin_entry p))) address second in
    header_looked_at words sizes (Calls sizes l e g u s (Lasting (BuiltinV p)) args (l.builtin_entry p)) l e g t s (BuiltinV p) args c h 0x29 (3 + (3 + 11)) (object_code t apply (others_code t look kill)) refl refl refl
    (λ a.
    other_header words sizes (Calls sizes l e g u s (Lasting (BuiltinV p)) args (l.builtin_entry p)) l e g t s (BuiltinV p) args c h 0x29 0x21 (3 + 11) a _ (others_code t look kill) refl
    (this_header words sizes (Calls sizes l e g u s (Lasting (BuiltinV p)) args (l.builtin_entry p)) l e g t s (BuiltinV p) args c h 0x29 11 a (pass_on t) _
    (passes_on_to words sizes l e g t s (Lasting (BuiltinV p)) args c h u w.number (l.builtin_entry p) block (Number 0x29) a w.is read there params)))

module _ (words : Words) (sizes : Sizes) (l : Layout) (e : Escapes) (g : Ways) (t : ℕ) (s : State) (v : Val) (args : List Val) (c : Core) (apply look kill : ℕ) (h : HoldsCall sizes l e g t s (Lasting v) args c) where
  -- a header of no procedure
  by_its_header : (header : ℕ) → tag_of v ≡ 2 → header_of v ≡ Some header → (header == 0x1D) ≡ false → (header == 0x21) ≡ false → (header == 0x29) ≡ false → (header == 0x25) ≡ false → (header == 0x2D) ≡ false → Performs words sizes (Fails sizes l e s NotProcedure) 1 22 (apply_block t apply look kill) c
  by_its_header header two is a b d f k =
      header_looked_at words sizes (Fails sizes l e s NotProcedure) l e g t s v args c h header (3 + (3 + (3 + (3 + 2)))) (object_code t apply (others_code t look kill)) two is a
      (λ stamp.
      other_header words sizes (Fails sizes l e s NotProcedure) l e g t s v args c h header 0x21 (3 + (3 + (3 + 2))) stamp _ _ b
      (other_header words sizes (Fails sizes l e s NotProcedure) l e g t s v args c h header 0x29 (3 + (3 + 2)) stamp _ _ d
      (other_header words sizes (Fails sizes l e s NotProcedure) l e g t s v args c h header 0x25 (3 + 2) stamp _ _ f
      (other_header words sizes (Fails sizes l e s NotProcedure) l e g t s v args c h header 0x2D 2 stamp _ _ k
      (ends words sizes (Fails sizes l e s NotProcedure) 2 (fault 1) (binding c (var (t + 7)) (Number header) stamp) (Faulted NotProcedure) (service_ends words sizes (binding c (var (t + 7)) (Number header) stamp) 3 (word 1) 1 (Faulted NotProcedure) never refl refl)
      (λ block place moves steps. record { core = binding c (var (t + 7)) (Number header) stamp; data_held = h.holds.data_held; block = block; place = place; moves = moves; steps = steps; there = refl }))))))

  by_its_tag : (tag_of v ≡ 2 → ⊥) → Performs words sizes (Fails sizes l e s NotProcedure) 1 22 (apply_block t apply look kill) c
  by_its_tag differs = performs_more words sizes (Fails sizes l e s NotProcedure) 22 (omega arith) (other_fails words sizes l e g t s v args c (object_code t apply (others_code t look kill)) h differs)

pub not_procedure_fails : (words : Words) (sizes : Sizes) (l : Layout) (e : Escapes) (g : Ways) (t : ℕ) (s : State) (v : Val) (args : List Val) (c : Core) (apply look kill : ℕ) → HoldsCall sizes l e g t s (Lasting v) args c → is_procedure v ≡ false → Performs words sizes (Fails sizes l e s NotProcedure) 1 22 (apply_block t apply look kill) c
not_procedure_fails words sizes l e g t s (FixV x) args c apply look kill h none = by_its_tag words sizes l e g t s (FixV x) args c apply look kill h (λ eq. absurd (cc))
not_procedure_fails words sizes l e g t s (CharV x) args c apply look kill h none = by_its_tag words sizes l e g t s (CharV x) args c apply look kill h (λ eq. absurd (cc))
not_procedure_fails words sizes l e g t s NilV args c apply look kill h none = by_its_tag words sizes l e g t s NilV args c apply look kill h (λ eq. absurd (cc))
not_procedure_fails words sizes l e g t s TrueV args c apply look kill h none = by_its_tag words sizes l e g t s TrueV args c apply look kill h (λ eq. absurd (cc))
not_procedure_fails words sizes l e g t s (PairV k) args c apply look kill h none = by_its_tag words sizes l e g t s (PairV k) args c apply look kill h (λ eq. absurd (cc))
not_procedure_fails words sizes l e g t s (SymbolV k) args c apply look kill h none = by_its_header words sizes l e g t s (SymbolV k) args c apply look kill h 0x19 refl refl refl refl refl refl refl
not_procedure_fails words sizes l e g t s (StringV k) args c apply look kill h none = by_its_header words sizes l e g t s (StringV k) args c apply look kill h 0x15 refl refl refl refl refl refl refl
not_procedure_fails words sizes l e g t s (VectorV k) args c apply look kill h none = by_its_header words sizes l e g t s (VectorV k) args c apply look kill h 0x11 refl refl refl refl refl refl refl
not_procedure_fails words sizes l e g t s (ClosureV k) args c apply look kill h none = absurd (cc)
not_procedure_fails words sizes l e g t s (ObjectV k) args c apply look kill h none = absurd (cc)
not_procedure_fails words sizes l e g t s (OperationV k) args c apply look kill h none = absurd (cc)
not_procedure_fails words sizes l e g t s (BuiltinV k) args c apply look kill h none = absurd (cc)
not_procedure_fails words sizes l e g t s (EscapeV k) args c apply look kill h none = absurd (cc)
