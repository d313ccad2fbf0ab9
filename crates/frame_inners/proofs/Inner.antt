-- Words of a closure in a live frame are read by its address.
use Rattle.std.proofs.Common.{◌≡◌, ℕ, ◌+◌, ◌*◌, ◌/◌, ◌%◌, ◌^◌, ◌<◌, ◌==◌, ◌||◌, Bool, true, false, List, [], ◌∷◌, length, map, slice_get, Some, None, pos, negsuc, refl, sym, ap, ◌∙◌, subst, arith}
use Rattle.std.specs.List.{list_any}
use Rattle.std.proofs.lemmas.Bool.{eq-eqb, eqb-true}
use Rattle.std.proofs.lemmas.Option.{slice_get_within}
use Rattle.t_base.specs.declared.basics.Var.{Var}
use Rattle.t_prim.specs.Values.{Val}
use Rattle.word_ir.specs.declared.operands.Operand.TheVariants as operand
use Rattle.word_ir.specs.declared.words.WordBlock.{WordBlock}
use Rattle.word_ir.specs.declared.words.WordEnd.TheVariants as last
use Rattle.word_ir.specs.declared.words.Words.{Words}
use Rattle.word_ir.specs.Word.{Word, Number, Code, moved}
use Rattle.word_ir.specs.Storage.{Sizes, long_at}
use Rattle.word_ir.specs.State.{Own, kept}
use Rattle.word_ir.specs.Step.{words_in}
use Rattle.word_ir.specs.Stamps.{Stamp, Stamped}
use Rattle.frame_ir.specs.Values.{Value, InFrame, Closure, Frame, Env, even, value_at, closure_in, captured_from}
use Rattle.frame_ir.specs.States.{State, is_live}
use Rattle.word_trees.specs.Trees.{Tree, Close}
use Rattle.word_trees.specs.Cores.{Core, at, some_stamp, binding, entering}
use Rattle.word_trees.specs.Leads.{Performs, MayRead}
use Rattle.word_trees.proofs.Ends.{enter_enters}
use Rattle.word_trees.proofs.Performing.{arrives, enters_performs, here_leads, load_performs, ask_performs_true}
use Rattle.frame_words.specs.Layouts.{Layout}
use Rattle.frame_words.specs.Contents.{Escapes}
use Rattle.select_rows.specs.Macros.{var, of_var}
use Rattle.select_rows.proofs.Keeping.{older_kept, newest_kept}
use Rattle.frame_stacks.specs.Stacks.{Stack, Ways, stack_of, frames_place, stack_address, live_from, frame_place, IsInFrame, IsStored}
use Rattle.frame_stacks.specs.Frames.{HoldsSlot, HoldsFrame, HoldsAll, HoldsVariable, Holds}
use Rattle.frame_stacks.specs.Laws.{GoesOn}
use Rattle.frame_stacks.proofs.Gets.{binding_held}
use Rattle.frame_stacks.proofs.Reading.{stack_long, in_stack, born_at, may_read_stack}
use Rattle.frame_reads.specs.Codes.{closure_get}
use Rattle.frame_calls.specs.Codes.{call_params, pass_on, apply_code}
use Rattle.frame_calls.specs.Calls.{HoldsCall, Calls}
use Rattle.frame_calls.proofs.Applying.{call_passed}

-- ---- a live frame

pub record LiveFrame (sizes : Sizes) (l : Layout) (g : Ways) (s : State) (k : Stack) (birth : ℕ) (births : List ℕ) : Type 0 where
  pub older : List ℕ
  pub frame : Frame
  pub there : slice_get s.frames birth ≡ Some frame
  pub holds : HoldsFrame sizes l g s k birth older (frames_place sizes s.frames (live_from birth births)) frame

live_frame_by : (sizes : Sizes) (l : Layout) (g : Ways) (s : State) (k : Stack) (birth b : ℕ) (births : List ℕ) (q : Bool) → (b == birth) ≡ q → HoldsAll sizes l g s k (b ∷ births) → (list_any (λ x. x == birth) births ≡ true → LiveFrame sizes l g s k birth births) → (q || list_any (λ x. x == birth) births) ≡ true → LiveFrame sizes l g s k birth (b ∷ births)
live_frame_by sizes l g s k birth b births true eq h next is =
    let same : b ≡ birth = eqb-true b birth eq in
    let from : b ∷ births ≡ live_from birth (b ∷ births) = rw eq refl in
    record {
      older = births;
      frame = h.0;
      there = ap (slice_get s.frames) (sym same) ∙ h.1;
      holds = subst (λ xs. HoldsFrame sizes l g s k birth births (frames_place sizes s.frames xs) h.0) from (subst (λ x. HoldsFrame sizes l g s k x births (frames_place sizes s.frames (b ∷ births)) h.0) same h.3);
    }
live_frame_by sizes l g s k birth b births false eq h next is =
    let o : LiveFrame sizes l g s k birth births = next is in
    let from : live_from birth births ≡ live_from birth (b ∷ births) = rw eq refl in
    record { older = o.older; frame = o.frame; there = o.there; holds = subst (λ xs. HoldsFrame sizes l g s k birth o.older (frames_place sizes s.frames xs) o.frame) from o.holds }

live_frame : (sizes : Sizes) (l : Layout) (g : Ways) (s : State) (k : Stack) (birth : ℕ) (births : List ℕ) → HoldsAll sizes l g s k births → list_any (λ x. x == birth) births ≡ true → LiveFrame sizes l g s k birth births
live_frame sizes l g s k birth [] h is = absurd (cc)
live_frame sizes l g s k birth (b ∷ births) h is = live_frame_by sizes l g s k birth b births (b == birth) refl h (live_frame sizes l g s k birth births h.4) is

-- the frame of a state by its birth
frame_held : (sizes : Sizes) (l : Layout) (g : Ways) (s : State) (k : Stack) (birth : ℕ) (f : Frame) → HoldsAll sizes l g s k s.live → is_live s birth ≡ true → slice_get s.frames birth ≡ Some f → (older : List ℕ) × HoldsFrame sizes l g s k birth older (frame_place sizes s birth) f
frame_held sizes l g s k birth f h alive there =
    let o : LiveFrame sizes l g s k birth s.live = live_frame sizes l g s k birth s.live h alive in
    let same : o.frame ≡ f = let y : slice_get s.frames birth ≡ Some o.frame = o.there in cc in
    (o.older, subst (HoldsFrame sizes l g s k birth o.older (frame_place sizes s birth)) same o.holds)

-- ---- words of the stack by way of a variable with a stamp

may_read_by : (words : Words) (sizes : Sizes) (c : Core) (step place : ℕ) (x : Word) (stamp : Stamp) (v : ℕ) → length c.storage.stack ≡ sizes.stack / 4 → IsStored (stack_of c) step place x stamp → some_stamp (kept c.stamps (Own v)) ≡ Some step → MayRead (words_in words sizes) c (of_var v) (stack_address place)
may_read_by words sizes c step place x stamp v long stored born =
    record {
      reached = record { reached = rw (in_stack c.storage place (slice_get_within c.storage.stack place x stored.reads), born, born_at words sizes c step place x stamp long stored) (eq-eqb step step refl) };
      written = (may_read_stack words sizes c step place x stamp long stored 0).written;
    }

-- ---- what a closure captured

module _ (words : Words) (sizes : Sizes) (l : Layout) (e : Escapes) (g : Ways) (t : ℕ) (s : State) (env : Env) (c : Core) (to from : Var) (birth first slot : ℕ) (f : Frame) (k : Closure) (v : Value) (rest : Tree) (h : Holds sizes l e g t s env c) (is : value_at env from.0 ≡ Some (InFrame birth first)) (alive : is_live s birth ≡ true) (there : slice_get s.frames birth ≡ Some f) (inner : closure_in f.inner first ≡ Some k) (captured : slice_get k.captured slot ≡ Some v) (below : to.0 < t) where
  pub reads : Performs words sizes (GoesOn words sizes l e g t s ((to.0, v) ∷ env) rest) 1 2 (closure_get to from slot rest) c
  reads =
      let o : HoldsVariable sizes l g t s c from.0 (InFrame birth first) = h.variables.each from.0 (InFrame birth first) is in
      let w : IsInFrame sizes g s birth first o.word o.stamp = o.stands in
      let place : ℕ = frame_place sizes s birth in
      let held = frame_held sizes l g s (stack_of c) birth f h.frames.frames alive there in
      let y : HoldsSlot sizes l g s (stack_of c) birth (frame_place sizes s birth) f (captured_from first + slot) v = held.1.captured first slot k v inner captured in
      let inside : frame_place sizes s birth + (2 + (captured_from first + slot)) < length c.storage.stack = slice_get_within c.storage.stack (frame_place sizes s birth + (2 + (captured_from first + slot))) y.word y.stored.reads in
      let small : frame_place sizes s birth + (2 + (captured_from first + slot)) < 2 ^ 26 = let n = h.frames.words in let m = h.frames.small in omega (arith, inside, n, m) in
      let number : w.number ≡ stack_address (frame_place sizes s birth) + 8 + 4 * even first + 2 = w.address alive in
      let address : moved w.number (pos (4 * slot + 10)) ≡ stack_address (frame_place sizes s birth + (2 + (captured_from first + slot))) = omega (arith, number, small) in
      let read : long_at c.storage (moved w.number (pos (4 * slot + 10))) ≡ Some y.word = ap (long_at c.storage) address ∙ (stack_long c.storage (frame_place sizes s birth + (2 + (captured_from first + slot))) small ∙ y.stored.reads) in
      let stamped : long_at c.longs (moved w.number (pos (4 * slot + 10))) ≡ Some y.stamp = ap (long_at c.longs) address ∙ (stack_long c.longs (frame_place sizes s birth + (2 + (captured_from first + slot))) small ∙ y.stored.stamped) in
      let may : MayRead (words_in words sizes) c (operand.Var from) (moved w.number (pos (4 * slot + 10))) =
      subst (MayRead (words_in words sizes) c (operand.Var from)) (sym address)
      (may_read_by words sizes c (g.born birth) (frame_place sizes s birth + (2 + (captured_from first + slot))) y.word y.stamp from.0 h.frames.words y.stored (o.stamped ∙ w.stamped alive)) in
      load_performs words sizes (GoesOn words sizes l e g t s ((to.0, v) ∷ env) rest) w.number y.word (o.held ∙ ap Some w.is) read may
      (subst (λ z. Performs words sizes (GoesOn words sizes l e g t s ((to.0, v) ∷ env) rest) 0 0 rest (binding c to y.word (some_stamp z))) (sym stamped)
      (arrives words sizes (GoesOn words sizes l e g t s ((to.0, v) ∷ env) rest)
      (λ block at_place moves steps spelled. record { core = binding c to y.word y.stamp; holds = binding_held sizes l e g t s env c to.0 v y.word y.stamp below y.stands h; block = block; place = at_place; moves = moves; steps = steps; there = refl; spelled = spelled })))

pub inner_read : (words : Words) (sizes : Sizes) (l : Layout) (e : Escapes) (g : Ways) (t : ℕ) (s : State) (env : Env) (c : Core) (to from : Var) (birth first slot : ℕ) (f : Frame) (k : Closure) (v : Value) (rest : Tree) → Holds sizes l e g t s env c → value_at env from.0 ≡ Some (InFrame birth first) → is_live s birth ≡ true → slice_get s.frames birth ≡ Some f → closure_in f.inner first ≡ Some k → slice_get k.captured slot ≡ Some v → to.0 < t → Performs words sizes (GoesOn words sizes l e g t s ((to.0, v) ∷ env) rest) 1 2 (closure_get to from slot rest) c
inner_read words sizes l e g t s env c to from birth first slot f k v rest h is alive there inner captured below = reads words sizes l e g t s env c to from birth first slot f k v rest h is alive there inner captured below

-- ---- a call

module _ (words : Words) (sizes : Sizes) (l : Layout) (e : Escapes) (g : Ways) (t u : ℕ) (s : State) (birth first : ℕ) (f : Frame) (k : Closure) (args : List Val) (c : Core) (block : WordBlock) (others : Tree) (h : HoldsCall sizes l e g t s (InFrame birth first) args c) (alive : is_live s birth ≡ true) (there : slice_get s.frames birth ≡ Some f) (inner : closure_in f.inner first ≡ Some k) (found : slice_get words.blocks.items (l.closure_entry k.code) ≡ Some block) (params : block.params ≡ call_params u) where
  abbrev Q : Stamped → Type 0
  Q = Calls sizes l e g u s (InFrame birth first) args (l.closure_entry k.code)

  own : IsInFrame sizes g s birth first h.word h.stamp
  own = h.stands

  abbrev place : ℕ
  place = frame_place sizes s birth

  held : (older : List ℕ) × HoldsFrame sizes l g s (stack_of c) birth older (frame_place sizes s birth) f
  held = frame_held sizes l g s (stack_of c) birth f h.holds.frames.frames alive there

  header : IsStored (stack_of c) (g.born birth) (place + (2 + even first)) (Number 0x1D) None
  header = held.1.headers first k inner

  code : IsStored (stack_of c) (g.born birth) (place + (3 + even first)) (Code (l.closure_entry k.code)) None
  code = held.1.codes first k inner

  small : place + (3 + even first) < 2 ^ 26
  small = let inside = slice_get_within c.storage.stack (place + (3 + even first)) (Code (l.closure_entry k.code)) code.reads in let n = h.holds.frames.words in let m = h.holds.frames.small in omega (arith, inside, n, m)

  number_is : own.number ≡ stack_address place + 8 + 4 * even first + 2
  number_is = own.address alive

  number_held : kept c.env (Own (t + 1)) ≡ Some (Number own.number)
  number_held = h.held ∙ ap Some own.is

  stamp_held : some_stamp (kept c.stamps (Own (t + 1))) ≡ Some (g.born birth)
  stamp_held = h.stamped ∙ own.stamped alive

  header_address : moved own.number (negsuc 1) ≡ stack_address (place + (2 + even first))
  header_address = Rattle.frame_words.proofs.Values.moved_back own.number 1 (let n = number_is in omega (arith, n)) ∙ (let n = number_is in omega (arith, n))

  code_address : moved own.number (pos 2) ≡ stack_address (place + (3 + even first))
  code_address = let n = number_is in let m = small in omega (arith, n, m)

  header_read : long_at c.storage (moved own.number (negsuc 1)) ≡ Some (Number 0x1D)
  header_read = ap (long_at c.storage) header_address ∙ (stack_long c.storage (place + (2 + even first)) (let n = small in omega (arith, n)) ∙ header.reads)

  code_read : long_at c.storage (moved own.number (pos 2)) ≡ Some (Code (l.closure_entry k.code))
  code_read = ap (long_at c.storage) code_address ∙ (stack_long c.storage (place + (3 + even first)) small ∙ code.reads)

  may_header : MayRead (words_in words sizes) c (of_var (t + 1)) (moved own.number (negsuc 1))
  may_header = subst (MayRead (words_in words sizes) c (of_var (t + 1))) (sym header_address) (may_read_by words sizes c (g.born birth) (place + (2 + even first)) (Number 0x1D) None (t + 1) h.holds.frames.words header stamp_held)

  -- with the header
  module _ (a : Stamp) where
    abbrev headed : Core
    headed = binding c (var (t + 7)) (Number 0x1D) a

    may_code : MayRead (words_in words sizes) headed (of_var (t + 1)) (moved own.number (pos 2))
    may_code =
        let same : IsStored (stack_of headed) (g.born birth) (place + (3 + even first)) (Code (l.closure_entry k.code)) None = code in
        subst (MayRead (words_in words sizes) headed (of_var (t + 1))) (sym code_address)
        (may_read_by words sizes headed (g.born birth) (place + (3 + even first)) (Code (l.closure_entry k.code)) None (t + 1) h.holds.frames.words same
        (ap some_stamp (older_kept c.stamps (t + 7) (t + 1) a (omega arith)) ∙ stamp_held))

    pub passes : Performs words sizes Q 1 11 (pass_on t) headed
    passes =
        let b : Stamp = some_stamp (long_at c.longs (moved own.number (pos 2))) in
        let target : ℕ = l.closure_entry k.code in
        load_performs words sizes Q own.number (Code (l.closure_entry k.code)) (older_kept c.env (t + 7) (t + 1) (Number 0x1D) (omega arith) ∙ number_held) code_read may_code
        (enters_performs words sizes Q 0 0 9 (l.closure_entry k.code) (Close (last.Enter (of_var (t + 8)) (map operand.Var (call_params t)))) (binding headed (var (t + 8)) (Code (l.closure_entry k.code)) (some_stamp (long_at c.longs (moved own.number (pos 2)))))
        (entering (words_in words sizes) (binding headed (var (t + 8)) (Code (l.closure_entry k.code)) (some_stamp (long_at c.longs (moved own.number (pos 2))))) block.params (map operand.Var (call_params t)))
        (enter_enters words sizes (binding headed (var (t + 8)) (Code (l.closure_entry k.code)) (some_stamp (long_at c.longs (moved own.number (pos 2))))) (of_var (t + 8)) (l.closure_entry k.code) block (map operand.Var (call_params t)) (newest_kept headed.env (t + 8) (Code (l.closure_entry k.code))) found)
        (λ moves steps. here_leads words sizes Q 0 _
        (record {
          core = entering (words_in words sizes) (binding headed (var (t + 8)) (Code (l.closure_entry k.code)) (some_stamp (long_at c.longs (moved own.number (pos 2))))) (call_params u) (map operand.Var (call_params t));
          holds = call_passed words sizes l e g t s (InFrame birth first) args c h u (Number 0x1D) (Code (l.closure_entry k.code)) a (some_stamp (long_at c.longs (moved own.number (pos 2))));
          moves = moves;
          steps = steps;
          there = ap (λ ps. at (entering (words_in words sizes) (binding headed (var (t + 8)) (Code (l.closure_entry k.code)) (some_stamp (long_at c.longs (moved own.number (pos 2))))) ps (map operand.Var (call_params t))) (l.closure_entry k.code) 0 moves steps) params;
        })))

  pub applies : Performs words sizes Q 1 19 (apply_code t others) c
  applies =
      ask_performs_true words sizes Q (Number own.number) (Number 0) number_held refl (ap Some (eq-eqb (own.number % 4) 2 own.tag))
      (load_performs words sizes Q own.number (Number 0x1D) number_held header_read may_header
      (ask_performs_true words sizes Q (Number 0x1D) (Number 0x1D) (newest_kept c.env (t + 7) (Number 0x1D)) refl refl
      (passes (some_stamp (long_at c.longs (moved own.number (negsuc 1)))))))

pub inner_applied : (words : Words) (sizes : Sizes) (l : Layout) (e : Escapes) (g : Ways) (t u : ℕ) (s : State) (birth first : ℕ) (f : Frame) (k : Closure) (args : List Val) (c : Core) (block : WordBlock) (others : Tree) → HoldsCall sizes l e g t s (InFrame birth first) args c → is_live s birth ≡ true → slice_get s.frames birth ≡ Some f → closure_in f.inner first ≡ Some k → slice_get words.blocks.items (l.closure_entry k.code) ≡ Some block → block.params ≡ call_params u → Performs words sizes (Calls sizes l e g u s (InFrame birth first) args (l.closure_entry k.code)) 1 19 (apply_code t others) c
inner_applied words sizes l e g t u s birth first f k args c block others h alive there inner found params = applies words sizes l e g t u s birth first f k args c block others h alive there inner found params
