-- Words of the stack by their addresses.
use Rattle.std.proofs.Common.{◌≡◌, ℕ, ◌+◌, ◌-◌, ◌*◌, ◌/◌, ◌%◌, ◌^◌, ◌<◌, ◌≤◌, Bool, true, false, List, [], ◌∷◌, length, slice_get, Some, refl, sym, ap, ◌∙◌, subst, arith}
use Rattle.std.proofs.lemmas.Bool.{eq-eqb, ne_eqb, lt-ltb, le-ltb}
use Rattle.std.proofs.lemmas.Option.{slice_get_within}
use Rattle.word_ir.specs.declared.operands.Operand.TheVariants as operand
use Rattle.word_ir.specs.declared.words.Words.{Words}
use Rattle.word_ir.specs.Word.{Word}
use Rattle.word_ir.specs.Storage.{Sizes, Regions, STATICS_START, HEAP_START, STACK_START, long_at, is_in_stack}
use Rattle.word_ir.specs.Step.{words_in}
use Rattle.word_ir.specs.Stamps.{Stamp, live_at, birth_at}
use Rattle.word_trees.specs.Cores.{Core, at}
use Rattle.word_trees.specs.Leads.{MayReach, MayRead}
use Rattle.frame_stacks.specs.Stacks.{Stack, stack_of, stack_address, IsStored}

pub stack_long : {X : Type 0} (storage : Regions X) (k : ℕ) → k < 2 ^ 26 → long_at storage (stack_address k) ≡ slice_get storage.stack k
stack_long storage k lt =
    let place : (STACK_START + 4 * k - STACK_START) / 4 ≡ k = omega arith in
    rw (eq-eqb ((STACK_START + 4 * k) % 4) 0 (omega arith), le-ltb (STACK_START + 4 * k) STATICS_START (omega arith), le-ltb (STACK_START + 4 * k) HEAP_START (omega arith), le-ltb (STACK_START + 4 * k) STACK_START (omega arith), place) refl

pub in_stack : {X : Type 0} (storage : Regions X) (k : ℕ) → k < length storage.stack → is_in_stack storage (stack_address k) ≡ true
in_stack storage k lt =
    let place : (STACK_START + 4 * k - STACK_START) / 4 ≡ k = omega arith in
    rw (le-ltb (STACK_START + 4 * k) STACK_START (omega arith), place, lt-ltb k (length storage.stack) lt) refl

module _ (words : Words) (sizes : Sizes) (c : Core) (step place : ℕ) (x : Word) (stamp : Stamp) (long : length c.storage.stack ≡ sizes.stack / 4) (h : IsStored (stack_of c) step place x stamp) where
  within : place < length c.storage.stack
  within = slice_get_within c.storage.stack place x h.reads

  marked_at : live_at (at c 0 0 0 0).state (at c 0 0 0 0).marks (stack_address place) ≡ Some (record { birth = step; written = true })
  marked_at = rw (le-ltb (stack_address place) c.top h.pushed) h.marked

  pub born_at : birth_at (words_in words sizes) (at c 0 0 0 0).state (at c 0 0 0 0).marks (stack_address place) ≡ Some step
  born_at = rw (ne_eqb (stack_address place) (STACK_START + sizes.stack) (λ eq. absurd (omega (arith, within, long, eq))), marked_at) refl

  -- by way of the newest word
  pub may_reach_stack : (bytes : ℕ) → MayReach (words_in words sizes) c (operand.Slot bytes) (stack_address place)
  may_reach_stack bytes = record { reached = rw (in_stack c.storage place within, born_at) refl }

  pub may_read_stack : (bytes : ℕ) → MayRead (words_in words sizes) c (operand.Slot bytes) (stack_address place)
  may_read_stack bytes = record { reached = may_reach_stack bytes; written = rw (in_stack c.storage place within, marked_at) refl }
