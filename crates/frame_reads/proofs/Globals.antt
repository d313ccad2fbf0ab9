-- Globals are read.
use Rattle.std.proofs.Common.{◌≡◌, ℕ, ◌+◌, ◌*◌, ◌^◌, ◌<◌, ◌==◌, true, false, ◌∷◌, slice_get, Option, Some, None, is_some, pos, refl, ap, ◌∙◌, arith}
use Rattle.std.proofs.lemmas.Bool.{ne_eqb}
use Rattle.program_runs.specs.Runs.{Faulted}
use Rattle.t_base.specs.declared.basics.Var.{Var}
use Rattle.t_base.specs.declared.faults.Fault.TheVariants.{Unbound}
use Rattle.t_prim.specs.Values.{Val, FixV, CharV, NilV, TrueV, SymbolV, StringV, PairV, VectorV, ClosureV, ObjectV, OperationV, BuiltinV, EscapeV}
use Rattle.word_ir.specs.declared.operands.Operand.TheVariants as operand
use Rattle.word_ir.specs.declared.words.Words.{Words}
use Rattle.word_ir.specs.Word.{Number, moved}
use Rattle.word_ir.specs.Storage.{Sizes, STATICS_START, static_at, long_at}
use Rattle.word_ir.specs.Stamps.{Stamp}
use Rattle.frame_ir.specs.Values.{Lasting, Env}
use Rattle.frame_ir.specs.States.{State}
use Rattle.word_trees.specs.Trees.{Tree}
use Rattle.word_trees.specs.Cores.{Core, some_stamp, binding}
use Rattle.word_trees.specs.Leads.{Performs}
use Rattle.word_trees.proofs.Operations.{service_ends}
use Rattle.word_trees.proofs.Performing.{arrives, ends, load_performs, ask_performs_true, ask_performs_false}
use Rattle.frame_words.specs.Layouts.{Layout, GLOBALS}
use Rattle.frame_words.specs.ValueWords.{UNBOUND, word_for, val_word, or_zero}
use Rattle.frame_words.specs.Contents.{Escapes}
use Rattle.frame_words.specs.Holding.{global_word}
use Rattle.frame_words.proofs.Segments.{get_left}
use Rattle.frame_words.proofs.Reading.{static_long}
use Rattle.frame_words.proofs.Values.{tag_is, char_is, IsCharWord}
use Rattle.select_rows.specs.Macros.{fault, word, never}
use Rattle.select_rows.proofs.Keeping.{may_read, bound_word}
use Rattle.frame_stacks.specs.Stacks.{Ways}
use Rattle.frame_stacks.specs.Frames.{Holds}
use Rattle.frame_stacks.specs.Laws.{GoesOn}
use Rattle.frame_stacks.proofs.Gets.{binding_held}
use Rattle.frame_reads.specs.Codes.{global_get}
use Rattle.frame_reads.specs.Laws.{Fails}

-- no value has the word that stands for none
pub not_unbound : (l : Layout) (s : State) (v : Val) (n : ℕ) → word_for l s v ≡ Some n → (n == UNBOUND) ≡ false
not_unbound l s (FixV x) n is = let g = tag_is l s (FixV x) n is in ne_eqb n UNBOUND (λ f. absurd (omega (arith, g, f)))
not_unbound l s (CharV c) n is = let w : IsCharWord c n = char_is l s c n is in ne_eqb n UNBOUND (λ f. absurd (omega (arith, w.word, f)))
not_unbound l s NilV n is = let w : 5 ≡ n = cc in ne_eqb n UNBOUND (λ f. absurd (omega (arith, w, f)))
not_unbound l s TrueV n is = let w : 9 ≡ n = cc in ne_eqb n UNBOUND (λ f. absurd (omega (arith, w, f)))
not_unbound l s (SymbolV k) n is = let g = tag_is l s (SymbolV k) n is in ne_eqb n UNBOUND (λ f. absurd (omega (arith, g, f)))
not_unbound l s (StringV k) n is = let g = tag_is l s (StringV k) n is in ne_eqb n UNBOUND (λ f. absurd (omega (arith, g, f)))
not_unbound l s (PairV k) n is = let g = tag_is l s (PairV k) n is in ne_eqb n UNBOUND (λ f. absurd (omega (arith, g, f)))
not_unbound l s (VectorV k) n is = let g = tag_is l s (VectorV k) n is in ne_eqb n UNBOUND (λ f. absurd (omega (arith, g, f)))
not_unbound l s (ClosureV k) n is = let g = tag_is l s (ClosureV k) n is in ne_eqb n UNBOUND (λ f. absurd (omega (arith, g, f)))
not_unbound l s (ObjectV k) n is = let g = tag_is l s (ObjectV k) n is in ne_eqb n UNBOUND (λ f. absurd (omega (arith, g, f)))
not_unbound l s (OperationV k) n is = let g = tag_is l s (OperationV k) n is in ne_eqb n UNBOUND (λ f. absurd (omega (arith, g, f)))
not_unbound l s (BuiltinV k) n is = let g = tag_is l s (BuiltinV k) n is in ne_eqb n UNBOUND (λ f. absurd (omega (arith, g, f)))
not_unbound l s (EscapeV k) n is = let g = tag_is l s (EscapeV k) n is in ne_eqb n UNBOUND (λ f. absurd (omega (arith, g, f)))

some_number : (o : Option ℕ) → is_some o ≡ true → o ≡ Some (or_zero o)
some_number (Some n) k = refl
some_number None k = absurd (cc)

module _ (words : Words) (sizes : Sizes) (l : Layout) (e : Escapes) (g : Ways) (t : ℕ) (s : State) (env : Env) (c : Core) (to : Var) (global : ℕ) (h : Holds sizes l e g t s env c) (inside : global < l.globals) where
  few : GLOBALS + global < 2 ^ 26
  few = let m = h.data_held.laid_out.few in omega (arith, m, inside)

  address : moved (static_at (GLOBALS + global)) (pos 0) ≡ STATICS_START + 4 * (GLOBALS + global)
  address = omega (arith, few)

  reads : (held : Option Val) → slice_get s.globals global ≡ Some held → long_at c.storage (moved (static_at (GLOBALS + global)) (pos 0)) ≡ Some (Number (global_word l s held))
  reads held there =
      ap (long_at c.storage) address
      ∙ (static_long c.storage (GLOBALS + global) few
      ∙ (ap (λ ws. slice_get ws (GLOBALS + global)) h.data_held.statics ∙ get_left h.data_held.front _ (GLOBALS + global) (Number (global_word l s held)) (h.data_held.globals global held there)))

  abbrev stamp : Stamp
  stamp = some_stamp (long_at c.longs (moved (static_at (GLOBALS + global)) (pos 0)))

  pub bound_read : (v : Val) (rest : Tree) → slice_get s.globals global ≡ Some (Some v) → to.0 < t → Performs words sizes (GoesOn words sizes l e g t s ((to.0, Lasting v) ∷ env) rest) 1 5 (global_get to global rest) c
  bound_read v rest there below =
      let known : word_for l s v ≡ Some (val_word l s v) = some_number (word_for l s v) (h.data_held.globals_known global v there) in
      let d : Core = binding c to (Number (val_word l s v)) stamp in
      load_performs words sizes (GoesOn words sizes l e g t s ((to.0, Lasting v) ∷ env) rest) (static_at (GLOBALS + global)) (Number (val_word l s v)) refl (reads (Some v) there)
      (may_read words sizes c (operand.Static (GLOBALS + global)) (moved (static_at (GLOBALS + global)) (pos 0)) (omega (arith, address, few)))
      (ask_performs_false words sizes (GoesOn words sizes l e g t s ((to.0, Lasting v) ∷ env) rest) (Number (val_word l s v)) (Number UNBOUND) (bound_word c to.0 (Number (val_word l s v)) stamp) refl
      (ap Some (not_unbound l s v (val_word l s v) known))
      (arrives words sizes (GoesOn words sizes l e g t s ((to.0, Lasting v) ∷ env) rest)
      (λ block place moves steps spelled. record { core = d; holds = binding_held sizes l e g t s env c to.0 (Lasting v) (Number (val_word l s v)) stamp below (record { number = val_word l s v; known = known; is = refl }) h; block = block; place = place; moves = moves; steps = steps; there = refl; spelled = spelled })))

  pub unbound_fails : (rest : Tree) → slice_get s.globals global ≡ Some None → Performs words sizes (Fails sizes l e s Unbound) 1 7 (global_get to global rest) c
  unbound_fails rest there =
      let d : Core = binding c to (Number UNBOUND) stamp in
      load_performs words sizes (Fails sizes l e s Unbound) (static_at (GLOBALS + global)) (Number UNBOUND) refl (reads None there)
      (may_read words sizes c (operand.Static (GLOBALS + global)) (moved (static_at (GLOBALS + global)) (pos 0)) (omega (arith, address, few)))
      (ask_performs_true words sizes (Fails sizes l e s Unbound) (Number UNBOUND) (Number UNBOUND) (bound_word c to.0 (Number UNBOUND) stamp) refl refl
      (ends words sizes (Fails sizes l e s Unbound) 2 (fault 9) d (Faulted Unbound) (service_ends words sizes d 3 (word 9) 9 (Faulted Unbound) never refl refl)
      (λ block place moves steps. record { core = d; data_held = h.data_held; block = block; place = place; moves = moves; steps = steps; there = refl })))

pub global_read : (words : Words) (sizes : Sizes) (l : Layout) (e : Escapes) (g : Ways) (t : ℕ) (s : State) (env : Env) (c : Core) (to : Var) (global : ℕ) (v : Val) (rest : Tree) → Holds sizes l e g t s env c → slice_get s.globals global ≡ Some (Some v) → global < l.globals → to.0 < t → Performs words sizes (GoesOn words sizes l e g t s ((to.0, Lasting v) ∷ env) rest) 1 5 (global_get to global rest) c
global_read words sizes l e g t s env c to global v rest h there inside below = bound_read words sizes l e g t s env c to global h inside v rest there below

pub global_fails : (words : Words) (sizes : Sizes) (l : Layout) (e : Escapes) (g : Ways) (t : ℕ) (s : State) (env : Env) (c : Core) (to : Var) (global : ℕ) (rest : Tree) → Holds sizes l e g t s env c → slice_get s.globals global ≡ Some None → global < l.globals → Performs words sizes (Fails sizes l e s Unbound) 1 7 (global_get to global rest) c
global_fails words sizes l e g t s env c to global rest h there inside = unbound_fails words sizes l e g t s env c to global h inside rest there
