-- Trees that perform a fact: they lead to it by any number of steps.
use Rattle.std.proofs.Common.{◌≡◌, ℕ, suc, ◌+◌, ◌≤◌, refl, sym, subst, arith}
use Rattle.program_runs.specs.Runs.{End}
use Rattle.program_runs.specs.Follows.{after}
use Rattle.std.specs.Prelude.{Some, None, true, false, List, [], ◌∷◌, ℤ, ◌*◌, ◌%◌, ◌<◌}
use Rattle.t_base.specs.declared.basics.Var.{Var}
use Rattle.word_ir.specs.declared.operands.Operand.{Operand}
use Rattle.word_ir.specs.declared.words.Arith.{Arith}
use Rattle.word_ir.specs.declared.words.Test.{Test}
use Rattle.word_ir.specs.declared.words.WordOp.TheVariants as op
use Rattle.word_ir.specs.Word.{Word, Number, moved}
use Rattle.word_ir.specs.Computing.{Gives, Over, computed, compared}
use Rattle.word_ir.specs.State.{Setting}
use Rattle.word_ir.specs.Effects.{Puts, service_effect}
use Rattle.word_ir.specs.declared.words.Words.{Words}
use Rattle.word_ir.specs.Storage.{Sizes, STACK_START, long_at, byte_at, is_in_stack}
use Rattle.word_ir.specs.Step.{words_in}
use Rattle.word_ir.specs.Stamps.{Stamped, stamped_step}
use Rattle.word_trees.specs.Trees.{Tree, Do, Or, Ask, Compute, Take, Push, Spells}
use Rattle.word_trees.specs.Cores.{Core, at, ended, word_in, read_in, stamp_in, some_stamp, binding, storing, taking, pushing, resetting, putting, heap_left, stack_left}
use Rattle.word_trees.specs.Leads.{StepsTo, Steps, EndsBy, EntersBlock, Leads, Performs, MayReach, MayRead}
use Rattle.word_trees.proofs.Operations.{move_steps, load_steps, load_byte_steps, store_steps, compute_steps, compute_turns, take_steps, take_turns, push_steps, push_turns, pop_steps, put_steps}
use Rattle.word_trees.proofs.Ends.{ask_holds, ask_fails}

module _ (words : Words) (sizes : Sizes) (Q : Stamped → Type 0) where
  -- ---- one step more

  pub first_leads : (least cost more : ℕ) (t u : Stamped) → stamped_step (words_in words sizes) t ≡ u → u.state.moves ≡ t.state.moves + more → Leads words sizes Q least cost u → Leads words sizes Q 1 (more + cost) t
  first_leads least cost more t u e m h =
      let there : Q (after (stamped_step (words_in words sizes)) h.count (stamped_step (words_in words sizes) t)) = subst (λ v. Q (after (stamped_step (words_in words sizes)) h.count v)) (sym e) h.there in
      let moves : (after (stamped_step (words_in words sizes)) h.count (stamped_step (words_in words sizes) t)).state.moves ≤ u.state.moves + cost =
      subst (λ v. (after (stamped_step (words_in words sizes)) h.count v).state.moves ≤ u.state.moves + cost) (sym e) h.moves in
      record { count = suc h.count; enough = omega arith; there = there; moves = omega (arith, moves, m) }

  -- what is there already
  pub here_leads : (cost : ℕ) (t : Stamped) → Q t → Leads words sizes Q 0 cost t
  here_leads cost t q = record { count = 0; enough = omega arith; there = q; moves = omega arith }

  pub leads_more : (least cost more : ℕ) (t : Stamped) → cost ≤ more → Leads words sizes Q least cost t → Leads words sizes Q least more t
  leads_more least cost more t le h = let moves : (after (stamped_step (words_in words sizes)) h.count t).state.moves ≤ t.state.moves + cost = h.moves in record { count = h.count; enough = h.enough; there = h.there; moves = omega (arith, le, moves) }

  -- ---- trees

  pub performs : (least cost more : ℕ) (tree rest : Tree) (c d : Core) → Steps words sizes more tree c rest d → Performs words sizes Q least cost rest d → Performs words sizes Q 1 (more + cost) tree c
  performs least cost more tree rest c d s h = record {
    leads = λ block place moves steps spelled.
        let n : StepsTo words sizes rest d (moves + more) (suc steps) (at c block place moves steps) = s block place moves steps spelled in
        first_leads least cost more (at c block place moves steps) (at d n.block n.place (moves + more) (suc steps)) n.step refl (h.leads n.block n.place (moves + more) (suc steps) n.spelled);
  }

  pub performs_more : {least cost : ℕ} {tree : Tree} {c : Core} (more : ℕ) → cost ≤ more → Performs words sizes Q least cost tree c → Performs words sizes Q least more tree c
  performs_more {least} {cost} {tree} {c} more le h = record { leads = λ block place moves steps spelled. leads_more least cost more (at c block place moves steps) le (h.leads block place moves steps spelled) }

  -- a tree at which the fact holds
  pub arrives : {tree : Tree} {c : Core} → ((block place moves steps : ℕ) → Spells words block place tree → Q (at c block place moves steps)) → Performs words sizes Q 0 0 tree c
  arrives {tree} {c} h = record { leads = λ block place moves steps spelled. here_leads 0 (at c block place moves steps) (h block place moves steps spelled) }

  pub ends : (more : ℕ) (tree : Tree) (c : Core) (end : End) → EndsBy words sizes more tree c end → ((block place moves steps : ℕ) → Q (ended c block place moves steps (Some end))) → Performs words sizes Q 1 more tree c
  ends more tree c end s h = record {
    leads = λ block place moves steps spelled.
        let last : Stamped = ended c block place (moves + more) (suc steps) (Some end) in
        let leads : Leads words sizes Q 1 (more + 0) (at c block place moves steps) =
        first_leads 0 0 more (at c block place moves steps) last (s block place moves steps spelled) refl (here_leads 0 last (h block place (moves + more) (suc steps))) in
        leads_more 1 (more + 0) more (at c block place moves steps) (omega arith) leads;
  }

  -- a tree that goes to the start of a block
  pub enters_performs : (least cost more target : ℕ) (tree : Tree) (c d : Core) → EntersBlock words sizes more tree c target d → ((moves steps : ℕ) → Leads words sizes Q least cost (at d target 0 moves steps)) → Performs words sizes Q 1 (more + cost) tree c
  enters_performs least cost more target tree c d s h = record {
    leads = λ block place moves steps spelled.
        first_leads least cost more (at c block place moves steps) (at d target 0 (moves + more) (suc steps)) (s block place moves steps spelled) refl (h (moves + more) (suc steps));
  }

  -- ---- each line: what is behind it performs the fact from the core that it leaves

  abbrev setting : Setting
  setting = words_in words sizes

  module _ {least cost : ℕ} {rest : Tree} {c : Core} where
    pub moves_performs : {to : Var} {from : Operand} (x : Word) → word_in c from ≡ Some x → Performs words sizes Q least cost rest (binding c to x (stamp_in setting c from)) → Performs words sizes Q 1 (2 + cost) (Do (op.Move to from) rest) c
    moves_performs {to} {from} x e h = performs least cost 2 _ rest c _ (move_steps words sizes c to from x rest e) h

    pub load_performs : {to : Var} {base : Operand} {offset : ℤ} (n : ℕ) (x : Word) → word_in c base ≡ Some (Number n) → read_in c (moved n offset) ≡ Some x → MayRead setting c base (moved n offset) → Performs words sizes Q least cost rest (binding c to x (some_stamp (long_at c.longs (moved n offset)))) → Performs words sizes Q 1 (2 + cost) (Do (op.Load to base offset) rest) c
    load_performs {to} {base} {offset} n x e r may h = performs least cost 2 _ rest c _ (load_steps words sizes c to base n offset x rest e r may) h

    pub load_byte_performs : {to : Var} {base index : Operand} {offset : ℤ} (n i byte : ℕ) → word_in c base ≡ Some (Number n) → word_in c index ≡ Some (Number i) → byte_at (read_in c) (moved (n + i) offset) ≡ Some byte → is_in_stack c.storage (moved (n + i) offset) ≡ false → Performs words sizes Q least cost rest (binding c to (Number byte) None) → Performs words sizes Q 1 (3 + cost) (Do (op.LoadByte to base index offset) rest) c
    load_byte_performs {to} {base} {index} {offset} n i byte e f r outside h = performs least cost 3 _ rest c _ (load_byte_steps words sizes c to base index n i offset byte rest e f r outside) h

    pub store_performs : {base from : Operand} {offset : ℤ} (n : ℕ) (x old : Word) → word_in c base ≡ Some (Number n) → word_in c from ≡ Some x → read_in c (moved n offset) ≡ Some old → MayReach setting c base (moved n offset) → Performs words sizes Q least cost rest (storing c (moved n offset) x (stamp_in setting c from)) → Performs words sizes Q 1 (3 + cost) (Do (op.Store base offset from) rest) c
    store_performs {base} {from} {offset} n x old e f r may h = performs least cost 3 _ rest c _ (store_steps words sizes c base from n offset x old rest e f r may) h

    pub compute_performs : {to : Var} {kind : Arith} {a b : Operand} {exit : Tree} (x y n : ℕ) → word_in c a ≡ Some (Number x) → word_in c b ≡ Some (Number y) → computed kind x y ≡ Gives n → Performs words sizes Q least cost rest (binding c to (Number n) None) → Performs words sizes Q 1 (3 + cost) (Or (Compute to kind a b) exit rest) c
    compute_performs {to} {kind} {a} {b} {exit} x y n e f r h = performs least cost 3 _ rest c _ (compute_steps words sizes c to kind a b x y n exit rest e f r) h

    pub over_performs : {to : Var} {kind : Arith} {a b : Operand} {go : Tree} (x y : ℕ) → word_in c a ≡ Some (Number x) → word_in c b ≡ Some (Number y) → computed kind x y ≡ Over → Performs words sizes Q least cost rest c → Performs words sizes Q 1 (3 + cost) (Or (Compute to kind a b) rest go) c
    over_performs {to} {kind} {a} {b} {go} x y e f r h = performs least cost 3 _ rest c c (compute_turns words sizes c to kind a b x y rest go e f r) h

    pub take_performs : {to : Var} {bytes : Operand} {exit : Tree} (n : ℕ) → word_in c bytes ≡ Some (Number n) → n ≤ heap_left sizes c → n % 8 ≡ 0 → Performs words sizes Q least cost rest (taking c to n) → Performs words sizes Q 1 (2 + cost) (Or (Take to bytes) exit rest) c
    take_performs {to} {bytes} {exit} n e le whole h = performs least cost 2 _ rest c _ (take_steps words sizes c to bytes n exit rest e le whole) h

    pub no_heap_performs : {to : Var} {bytes : Operand} {go : Tree} (n : ℕ) → word_in c bytes ≡ Some (Number n) → heap_left sizes c < n → Performs words sizes Q least cost rest c → Performs words sizes Q 1 (2 + cost) (Or (Take to bytes) rest go) c
    no_heap_performs {to} {bytes} {go} n e lt h = performs least cost 2 _ rest c c (take_turns words sizes c to bytes n rest go e lt) h

    pub no_stack_performs : {count : ℕ} {go : Tree} → stack_left c < 4 * count → Performs words sizes Q least cost rest c → Performs words sizes Q 1 (1 + cost) (Or (Push count) rest go) c
    no_stack_performs {count} {go} lt h = performs least cost 1 _ rest c c (push_turns words sizes c count rest go lt) h

    pub push_performs : {count : ℕ} {exit : Tree} → 1 ≤ count → 4 * count ≤ stack_left c → ((birth : ℕ) → Performs words sizes Q least cost rest (pushing c count birth)) → Performs words sizes Q 1 (1 + cost) (Or (Push count) exit rest) c
    push_performs {count} {exit} some le h = record {
      leads = λ block place moves steps spelled.
          let n : StepsTo words sizes rest (pushing c count (suc steps)) (moves + 1) (suc steps) (at c block place moves steps) = push_steps words sizes c count exit rest some le block place moves steps spelled in
          first_leads least cost 1 (at c block place moves steps) (at (pushing c count (suc steps)) n.block n.place (moves + 1) (suc steps)) n.step refl ((h (suc steps)).leads n.block n.place (moves + 1) (suc steps) n.spelled);
    }

    pub pop_performs : {count : ℕ} → c.top + 4 * count ≤ STACK_START + sizes.stack → Performs words sizes Q least cost rest (resetting c (c.top + 4 * count)) → Performs words sizes Q 1 (1 + cost) (Do (op.Pop count) rest) c
    pop_performs {count} le h = performs least cost 1 _ rest c _ (pop_steps words sizes c count rest le) h

    pub put_performs : {number : ℕ} {a : Operand} (n : ℕ) (bytes : List ℕ) → word_in c a ≡ Some (Number n) → service_effect setting (at c 0 0 0 0).state number (n ∷ []) ≡ Puts bytes → Performs words sizes Q least cost rest (putting c bytes) → Performs words sizes Q 1 (2 + cost) (Do (op.Service number (a ∷ [])) rest) c
    put_performs {number} {a} n bytes e r h = performs least cost 2 _ rest c _ (put_steps words sizes c number a n bytes rest e r) h

    pub ask_performs_true : {kind : Test} {a b : Operand} {other : Tree} (x y : Word) → word_in c a ≡ Some x → word_in c b ≡ Some y → compared kind x y ≡ Some true → Performs words sizes Q least cost rest c → Performs words sizes Q 1 (3 + cost) (Ask kind a b rest other) c
    ask_performs_true {kind} {a} {b} {other} x y e f r h = performs least cost 3 _ rest c c (ask_holds words sizes c kind a b x y rest other e f r) h

    pub ask_performs_false : {kind : Test} {a b : Operand} {other : Tree} (x y : Word) → word_in c a ≡ Some x → word_in c b ≡ Some y → compared kind x y ≡ Some false → Performs words sizes Q least cost rest c → Performs words sizes Q 1 (3 + cost) (Ask kind a b other rest) c
    ask_performs_false {kind} {a} {b} {other} x y e f r h = performs least cost 3 _ rest c c (ask_fails words sizes c kind a b x y other rest e f r) h
