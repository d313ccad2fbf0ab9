-- A slot of the youngest frame is read.
use Rattle.std.proofs.Common.{◌≡◌, ℕ, ◌+◌, ◌-◌, ◌*◌, ◌/◌, ◌%◌, ◌^◌, ◌<◌, ◌≤◌, ◌==◌, Bool, true, false, if◌then◌else◌, List, [], ◌∷◌, length, slice_get, Some, None, pos, refl, sym, ap, ◌∙◌, subst, arith}
use Rattle.std.proofs.lemmas.Bool.{eq-eqb, eqb-true, eqb-false, ne_eqb}
use Rattle.std.proofs.lemmas.Option.{slice_get_within}
use Rattle.std.proofs.lemmas.List.{length-replicate}
use Rattle.t_base.specs.declared.basics.Var.{Var}
use Rattle.word_ir.specs.declared.operands.Operand.TheVariants as operand
use Rattle.word_ir.specs.declared.words.Words.{Words}
use Rattle.word_ir.specs.Word.{Word, Number, moved, wrap}
use Rattle.word_ir.specs.Storage.{Sizes, STACK_START, long_at}
use Rattle.word_ir.specs.State.{Own, kept}
use Rattle.word_ir.specs.Step.{words_in}
use Rattle.word_ir.specs.Stamps.{Stamp}
use Rattle.frame_ir.specs.Values.{Value, Frame, Env, value_in, value_at}
use Rattle.frame_ir.specs.States.{State}
use Rattle.word_trees.specs.Trees.{Tree}
use Rattle.word_trees.specs.Cores.{Core, word_in, some_stamp, binding}
use Rattle.word_trees.specs.Leads.{Performs, MayRead}
use Rattle.word_trees.proofs.Performing.{performs_more, arrives, load_performs}
use Rattle.frame_words.specs.Layouts.{Layout}
use Rattle.frame_words.specs.Contents.{Escapes}
use Rattle.frame_stacks.specs.Stacks.{Stack, Ways, stack_of, frames_place, stack_address, StandsFor, IsStored}
use Rattle.frame_stacks.specs.Frames.{HoldsSlot, HoldsFrame, HoldsAll, HoldsFrames, HoldsEscapes, HoldsVariable, HoldsVariables, Holds}
use Rattle.frame_stacks.specs.Codes.{frame_get}
use Rattle.frame_stacks.specs.Laws.{first_stack, GoesOn}
use Rattle.frame_stacks.proofs.Reading.{stack_long, may_read_stack}

-- ---- at first

pub no_frames : (sizes : Sizes) (l : Layout) (g : Ways) (s : State) → sizes.stack % 4 ≡ 0 → sizes.stack ≤ 2 ^ 28 → s.live ≡ [] → HoldsFrames sizes l g s (first_stack sizes)
no_frames sizes l g s whole small empty = record {
  whole = whole;
  small = small;
  room = rw empty (omega arith);
  top = rw empty (omega (arith, whole));
  words = length-replicate (sizes.stack / 4) (Number 0);
  stamps = length-replicate (sizes.stack / 4) None;
  marks = rw empty refl;
  frames = rw empty tt;
}

-- ---- the youngest frame

pub record IsYoungest (sizes : Sizes) (l : Layout) (g : Ways) (s : State) (k : Stack) (birth : ℕ) (older : List ℕ) (f : Frame) : Type 0 where
  pub frame : HoldsFrame sizes l g s k birth older (frames_place sizes s.frames (birth ∷ older)) f
  pub rest : HoldsAll sizes l g s k older
  pub top : k.top ≡ stack_address (frames_place sizes s.frames (birth ∷ older))

same_frame : (o : Rattle.std.specs.Prelude.Option Frame) (f f' : Frame) → o ≡ Some f → o ≡ Some f' → f' ≡ f
same_frame o f f' p q = cc

pub youngest_held : {sizes : Sizes} {l : Layout} {g : Ways} {s : State} {k : Stack} (birth : ℕ) (older : List ℕ) (f : Frame) → HoldsFrames sizes l g s k → s.live ≡ birth ∷ older → slice_get s.frames birth ≡ Some f → IsYoungest sizes l g s k birth older f
youngest_held {sizes} {l} {g} {s} {k} birth older f h live there =
    let all : HoldsAll sizes l g s k (birth ∷ older) = subst (HoldsAll sizes l g s k) live h.frames in
    record {
      frame = subst (HoldsFrame sizes l g s k birth older (frames_place sizes s.frames (birth ∷ older))) (same_frame (slice_get s.frames birth) f all.0 there all.1) all.3;
      rest = all.4;
      top = h.top ∙ ap (λ births. stack_address (frames_place sizes s.frames births)) live;
    }

-- ---- a variable more

module _ (sizes : Sizes) (l : Layout) (e : Escapes) (g : Ways) (t : ℕ) (s : State) (env : Env) (c : Core) (to : ℕ) (v : Value) (x : Word) (stamp : Stamp) (below : to < t) (stands : StandsFor sizes l g s v x stamp) where
  abbrev bound : Core
  bound = binding c (record { 0 = to }) x stamp

  same_value : (w : Value) → Some v ≡ Some w → v ≡ w
  same_value w e = cc

  variable_held : (y : ℕ) (w : Value) (b : Bool) → (to == y) ≡ b → HoldsVariables sizes l g t s env c → (if b then Some v else value_at env y) ≡ Some w → HoldsVariable sizes l g t s bound y w
  variable_held y w true eq h found =
      let n : to ≡ y = eqb-true to y eq in
      subst (λ z. HoldsVariable sizes l g t s bound z w) n
      (subst (λ u. HoldsVariable sizes l g t s bound to u) (same_value w found)
      (record { older = below; word = x; stamp = stamp; held = rw (eq-eqb to to refl) refl; stamped = rw (eq-eqb to to refl) refl; stands = stands }))
  variable_held y w false eq h found =
      let o : HoldsVariable sizes l g t s c y w = h.each y w found in
      record { older = o.older; word = o.word; stamp = o.stamp; held = rw eq o.held; stamped = rw eq o.stamped; stands = o.stands }

  pub binding_held : Holds sizes l e g t s env c → Holds sizes l e g t s ((to, v) ∷ env) bound
  binding_held h = record {
    data_held = h.data_held;
    frames = h.frames;
    escapes = record { inner = h.escapes.inner; made = h.escapes.made; frames = h.escapes.frames; caught = h.escapes.caught; outer = h.escapes.outer; stamps = h.escapes.stamps; closures_apart = h.escapes.closures_apart };
    variables = record { each = λ y w found. variable_held y w (to == y) refl h.variables found };
  }

-- ---- the code

slot_address : (top place slot : ℕ) → top ≡ stack_address place → place + (2 + slot) < 2 ^ 26 → moved (wrap (top + 4 * (2 + slot))) (pos 0) ≡ stack_address (place + (2 + slot))
slot_address top place slot e lt = omega (arith, e, lt)

pub frame_get_performs : (words : Words) (sizes : Sizes) (l : Layout) (e : Escapes) (g : Ways) (t : ℕ) (s : State) (env : Env) (c : Core) (to : Var) (slot birth : ℕ) (older : List ℕ) (f : Frame) (v : Value) (rest : Tree) → Holds sizes l e g t s env c → s.live ≡ birth ∷ older → slice_get s.frames birth ≡ Some f → value_in f slot ≡ Some v → to.0 < t → Performs words sizes (GoesOn words sizes l e g t s ((to.0, v) ∷ env) rest) 1 2 (frame_get to slot rest) c
frame_get_performs words sizes l e g t s env c to slot birth older f v rest h live there held below =
    let y : IsYoungest sizes l g s (stack_of c) birth older f = youngest_held birth older f h.frames live there in
    let place : ℕ = frames_place sizes s.frames (birth ∷ older) in
    let o : HoldsSlot sizes l g s (stack_of c) birth place f slot v = y.frame.slots slot v held in
    let inside : place + (2 + slot) < length c.storage.stack = slice_get_within c.storage.stack (place + (2 + slot)) o.word o.stored.reads in
    let small : place + (2 + slot) < 2 ^ 26 = omega (arith, inside, h.frames.words, h.frames.small) in
    let address : moved (wrap (c.top + 4 * (2 + slot))) (pos 0) ≡ stack_address (place + (2 + slot)) = slot_address c.top place slot y.top small in
    let read : long_at c.storage (moved (wrap (c.top + 4 * (2 + slot))) (pos 0)) ≡ Some o.word = ap (long_at c.storage) address ∙ (stack_long c.storage (place + (2 + slot)) small ∙ o.stored.reads) in
    let stamped : long_at c.longs (moved (wrap (c.top + 4 * (2 + slot))) (pos 0)) ≡ Some o.stamp = ap (long_at c.longs) address ∙ (stack_long c.longs (place + (2 + slot)) small ∙ o.stored.stamped) in
    let may : MayRead (words_in words sizes) c (operand.Slot (4 * (2 + slot))) (moved (wrap (c.top + 4 * (2 + slot))) (pos 0)) =
    subst (MayRead (words_in words sizes) c (operand.Slot (4 * (2 + slot)))) (sym address) (may_read_stack words sizes c (g.born birth) (place + (2 + slot)) o.word o.stamp h.frames.words o.stored (4 * (2 + slot))) in
    load_performs words sizes (GoesOn words sizes l e g t s ((to.0, v) ∷ env) rest) (wrap (c.top + 4 * (2 + slot))) o.word refl read may
    (subst (λ k. Performs words sizes (GoesOn words sizes l e g t s ((to.0, v) ∷ env) rest) 0 0 rest (binding c to o.word (some_stamp k))) (sym stamped)
    (arrives words sizes (GoesOn words sizes l e g t s ((to.0, v) ∷ env) rest)
    (λ block place moves steps spelled. record { core = binding c to o.word o.stamp; holds = binding_held sizes l e g t s env c to.0 v o.word o.stamp below o.stands h; block = block; place = place; moves = moves; steps = steps; there = refl; spelled = spelled })))
