-- The code of a Push, where the stack has room.
use Rattle.std.proofs.Common.{◌≡◌, ℕ, ◌+◌, ◌-◌, ◌*◌, ◌/◌, ◌≤◌, List, [], ◌∷◌, map, length, Some, None, refl, ap, ◌∙◌, subst, arith}
use Rattle.t_base.specs.declared.basics.Var.{Var}
use Rattle.word_ir.specs.declared.operands.Operand.TheVariants as operand
use Rattle.word_ir.specs.declared.words.Words.{Words}
use Rattle.word_ir.specs.Word.{Number, Code, wrap}
use Rattle.word_ir.specs.Storage.{Sizes}
use Rattle.word_ir.specs.Step.{words_in}
use Rattle.word_ir.specs.Stamps.{Stamped, birth_at, changed_at, as_written}
use Rattle.frame_ir.specs.Values.{Value, Env, frame_words}
use Rattle.frame_ir.specs.States.{State}
use Rattle.frame_ir.specs.Arguments.{kept_values}
use Rattle.frame_ir.specs.Operations.{pushed_frame}
use Rattle.word_trees.specs.Trees.{Tree}
use Rattle.word_trees.specs.Cores.{Core, at, word_in, stamp_in, stack_left, pushing}
use Rattle.word_trees.specs.Leads.{Performs}
use Rattle.word_trees.proofs.Performing.{performs_more, arrives, push_performs}
use Rattle.frame_words.specs.Layouts.{Layout}
use Rattle.frame_words.specs.Contents.{Escapes}
use Rattle.frame_stacks.specs.Stacks.{Ways, stack_of, frames_place, stack_address, born_first}
use Rattle.frame_stacks.specs.Frames.{HoldsAll, Holds}
use Rattle.frame_stacks.specs.Codes.{push_frame, stores}
use Rattle.frame_stacks.proofs.Pops.{older_born}
use Rattle.frame_stacks.proofs.Raising.{all_raised, place_stays}
use Rattle.frame_pushes.specs.Laws.{Pushed}
use Rattle.frame_pushes.proofs.Filling.{Put, put, IsFilling, with_stack, nothing_stored, fill_performs, fill_all, any_count}
use Rattle.frame_pushes.proofs.Kept.{KeptWords, kept_words, values_count}
use Rattle.frame_pushes.proofs.Pushed.{frame, more, ways, below, from, enough, top_is, pushed_held}

module _ (words : Words) (sizes : Sizes) (l : Layout) (e : Escapes) (g : Ways) (t : ℕ) (s : State) (env : Env) (c : Core) (back size : ℕ) (kept : List Var) (vs : List Value) (rest : Tree) (h : Holds sizes l e g t s env c) (known : kept_values env kept ≡ Some vs) (short : length kept ≤ size) (room : 4 * frame_words (pushed_frame back size vs) ≤ stack_left c) where
  fits : length vs ≤ size
  fits = let n = values_count env kept vs known in omega (arith, n, short)

  abbrev Q : Stamped → Type 0
  Q = Pushed words sizes l e g t s env (pushed_frame back size vs) rest

  abbrev n : ℕ
  n = frame_words (pushed_frame back size vs)

  abbrev place : ℕ
  place = from sizes l e g t s env c back size vs h fits room 0

  held : KeptWords sizes l g s c kept vs
  held = kept_words sizes l g t s env c kept vs h.variables known

  inside : place + n ≤ sizes.stack / 4
  inside = let m = enough sizes l e g t s env c back size vs h fits room 0 in omega (arith, m)

  module _ (step : ℕ) where
    abbrev first : Put
    first = put (Code (g.begins back)) None

    abbrev second : Put
    second = put (Number (stack_address (frames_place sizes (more sizes l e g t s env c back size vs h fits room step).frames s.live))) (Some (born_first (ways sizes l e g t s env c back size vs h fits room step) s.live))

    abbrev raised : Core
    raised = pushing c n step

    start : IsFilling (stack_of c) (stack_of raised) place n step []
    start = nothing_stored c place n step (top_is sizes l e g t s env c back size vs h fits room step)

    abbrev one : Core
    one = with_stack raised (Rattle.std.specs.Prelude.slice_set c.storage.stack (place + 0) (Code (g.begins back))) (Rattle.std.specs.Prelude.slice_set c.longs.stack (place + 0) None) (changed_at as_written raised.live 0)

    -- the address of the next frame, with the stamp of that frame
    next_word : word_in one (operand.Slot (4 * n)) ≡ Some second.word
    next_word =
        let at = top_is sizes l e g t s env c back size vs h fits room step in
        let same = place_stays sizes l g s (frame sizes l e g t s env c back size vs h fits room step) (stack_of c) (stack_of raised) step (below sizes l e g t s env c back size vs h fits room step) start.raised s.live (below sizes l e g t s env c back size vs h fits room step) in
        let number : wrap (c.top - 4 * n + 4 * n) ≡ stack_address (frames_place sizes (more sizes l e g t s env c back size vs h fits room step).frames s.live) = omega (arith, at, same, inside, h.frames.small, h.frames.top) in
        ap (λ a. Some (Number a)) number

    next_stamp : IsFilling (stack_of c) (stack_of one) place n step (first ∷ []) → stamp_in (words_in words sizes) one (operand.Slot (4 * n)) ≡ second.stamp
    next_stamp filling =
        let all : HoldsAll sizes l (ways sizes l e g t s env c back size vs h fits room step) (more sizes l e g t s env c back size vs h fits room step) (stack_of one) s.live =
        all_raised sizes l g s (frame sizes l e g t s env c back size vs h fits room step) (stack_of c) (stack_of one) step h.frames filling.raised in
        let number : Some (Number (wrap (c.top - 4 * n + 4 * n))) ≡ Some second.word = next_word in
        let address : wrap (c.top - 4 * n + 4 * n) ≡ stack_address (frames_place sizes (more sizes l e g t s env c back size vs h fits room step).frames s.live) = cc in
        ap (birth_at (words_in words sizes) (at one 0 0 0 0).state (at one 0 0 0 0).marks) address
        ∙ older_born words sizes l (ways sizes l e g t s env c back size vs h fits room step) (more sizes l e g t s env c back size vs h fits room step) one s.live h.frames.whole (filling.words ∙ h.frames.words) all

    all_stored : Performs words sizes Q 0 (3 * (2 + length kept) + 0) (stores 0 (operand.Code (g.begins back) ∷ operand.Slot (4 * n) ∷ map operand.Var kept) rest) raised
    all_stored =
        let total : 3 + (3 + (3 * length kept + 0)) ≡ 3 * (2 + length kept) + 0 = omega arith in
        subst (λ m. Performs words sizes Q 0 m (stores 0 (operand.Code (g.begins back) ∷ operand.Slot (4 * n) ∷ map operand.Var kept) rest) raised) total
        (any_count words sizes Q 1 (3 + (3 + (3 * length kept + 0))) (stores 0 (operand.Code (g.begins back) ∷ operand.Slot (4 * n) ∷ map operand.Var kept) rest) raised
        (fill_performs words sizes Q (stack_of c) place n step h.frames.small inside h.frames.words h.frames.stamps 1 (3 + (3 * length kept + 0)) raised [] (operand.Code (g.begins back)) (Code (g.begins back)) (stores 1 (operand.Slot (4 * n) ∷ map operand.Var kept) rest) start (omega arith) refl
        (λ filling.
        fill_performs words sizes Q (stack_of c) place n step h.frames.small inside h.frames.words h.frames.stamps 0 (3 * length kept + 0) one (first ∷ []) (operand.Slot (4 * n)) second.word (stores 2 (map operand.Var kept) rest) filling (omega arith) next_word
        (λ more_filling.
        fill_all words sizes Q (stack_of c) place n step h.frames.small inside h.frames.words h.frames.stamps 0 rest kept held.puts
        (with_stack one (Rattle.std.specs.Prelude.slice_set one.storage.stack (place + 1) second.word) (Rattle.std.specs.Prelude.slice_set one.longs.stack (place + 1) (stamp_in (words_in words sizes) one (operand.Slot (4 * n)))) (changed_at as_written one.live 1))
        (first ∷ second ∷ []) 2 refl
        (subst (λ y. IsFilling (stack_of c) (stack_of (with_stack one (Rattle.std.specs.Prelude.slice_set one.storage.stack (place + 1) second.word) (Rattle.std.specs.Prelude.slice_set one.longs.stack (place + 1) (stamp_in (words_in words sizes) one (operand.Slot (4 * n)))) (changed_at as_written one.live 1))) place n step (first ∷ put second.word y ∷ [])) (next_stamp filling) more_filling)
        held.held (omega (arith, short))
        (λ ws stamps live all.
        arrives words sizes Q
        (λ block at_place moves steps spelled. record {
          step = step;
          goes = record {
            core = with_stack raised ws stamps live;
            holds = pushed_held sizes l e g t s env c back size vs h fits room step ws stamps live held.puts all held.stand;
            block = block;
            place = at_place;
            moves = moves;
            steps = steps;
            there = refl;
            spelled = spelled;
          };
        }))))))

  pub push_with_room : Performs words sizes Q 1 (7 + 3 * length kept) (push_frame (g.begins back) n (map operand.Var kept) rest) c
  push_with_room =
      let some : 1 ≤ n = omega arith in
      performs_more words sizes Q (7 + 3 * length kept) (omega arith)
      (push_performs words sizes Q {least = 0} {cost = 3 * (2 + length kept) + 0} some room (λ step. all_stored step))

pub push_holds : (words : Words) (sizes : Sizes) (l : Layout) (e : Escapes) (g : Ways) (t : ℕ) (s : State) (env : Env) (c : Core) (back size : ℕ) (kept : List Var) (vs : List Value) (rest : Tree) → Holds sizes l e g t s env c → kept_values env kept ≡ Some vs → length kept ≤ size → 4 * frame_words (pushed_frame back size vs) ≤ stack_left c → Performs words sizes (Pushed words sizes l e g t s env (pushed_frame back size vs) rest) 1 (7 + 3 * length kept) (push_frame (g.begins back) (frame_words (pushed_frame back size vs)) (map operand.Var kept) rest) c
push_holds words sizes l e g t s env c back size kept vs rest h known short room = push_with_room words sizes l e g t s env c back size kept vs rest h known short room
