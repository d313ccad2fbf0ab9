-- The marks of a stamped run with homes are those of the run without them.
use Rattle.std.proofs.Common.{◌≡◌, ℕ, zero, suc, ◌+◌, ◌%◌, ◌<◌, ◌==◌, nat_lt, Bool, true, false, ◌&&◌, if◌then◌else◌, List, [], ◌∷◌, ◌++◌, length, map, replicate, slice_get, Option, Some, None, option_and_then, refl, sym, ap, subst, ◌∙◌, arith}
use Rattle.std.specs.List.{AllByRecursion, flat_map, list_all}
use Rattle.std.specs.Option.{option_map_or}
use Rattle.std.proofs.lemmas.List.Elements.{Contains-append_left, Contains-append_right}
use Rattle.t_base.specs.declared.basics.Var.{Var}
use Rattle.program_runs.specs.Runs.{Broken}
use Rattle.word_ir.specs.declared.operands.Operand.{Operand}
use Rattle.word_ir.specs.declared.operands.Operand.TheVariants as operand
use Rattle.word_ir.specs.declared.placed.Home.{Home}
use Rattle.word_ir.specs.declared.placed.Home.TheVariants as home
use Rattle.word_ir.specs.declared.placed.Placed.{Placed}
use Rattle.word_ir.specs.declared.words.WordOp.{WordOp}
use Rattle.word_ir.specs.declared.words.WordOp.TheVariants as op
use Rattle.word_ir.specs.declared.words.WordEnd.TheVariants as last
use Rattle.word_ir.specs.declared.words.WordBlock.{WordBlock}
use Rattle.word_ir.specs.declared.words.Words.{Words}
use Rattle.word_ir.specs.Word.{Word, moved, number_of}
use Rattle.word_ir.specs.Storage.{Sizes, Regions, STATICS_START, HEAP_START, STACK_START, place_from, long_at, is_in_stack}
use Rattle.word_ir.specs.Lines.{Line, Op, Last, operands_of, op_operands, operand_var}
use Rattle.word_ir.specs.State.{Setting, Keeper, Own, At, keeper_of, Env, kept, State, word_at}
use Rattle.word_ir.specs.Effects.{Effect, word_of}
use Rattle.word_ir.specs.Step.{words_in, placed_in, changed}
use Rattle.word_ir.specs.Stamps.{Stamp, Live, Marks, birth_at, stamp_held, stamp_of, is_birth, is_written, reaches_by_stamp, reaches, number_at, if_number, may_load, may_load_byte, may_reset, op_may, is_held, operand_may, op_reads, end_reads, line_may, mark_stored, mark_held, mark_params, params_at, args_of, bound_stamp, stored_stamp, marked}
use Rattle.word_ir.specs.Ranges.{IsInPlace}
use Rattle.word_ir.specs.Marked.{MarksFit}
use Rattle.word_ir.specs.WholePlaced.{needed}
use Rattle.word_ir.proofs.CopiesWeigh.{by_copies}
use Rattle.trace_regs.specs.Homes.{Serves}
use Rattle.trace_regs.proofs.Keepers.{KeepsOutside, outside_at, Agree, Paired, Done, Both, all_kept}
use Rattle.trace_regs.proofs.Matching.{Same, Bind, Store, Take, Top, Put, Turn, Enter, Finish, Meets, Broke, Goes, beside}
use Rattle.trace_regs.proofs.Stepping.{with_more, store_more, long_within, live_at, Spot, after_bind, after_none, after_turn, after_enter}

-- ---- stamps of storage

-- a stamp that is found, or none
abbrev flat : Option Stamp → Stamp
flat o = option_and_then (λ stamp. stamp) o

flat_none : (extra i : ℕ) → flat (slice_get (replicate extra None) i) ≡ None
flat_none zero i = refl
flat_none (suc extra) zero = refl
flat_none (suc extra) (suc i) = flat_none extra i

flat_get : (xs : List Stamp) (extra i : ℕ) → flat (slice_get (xs ++ replicate extra None) i) ≡ flat (slice_get xs i)
flat_get [] extra i = flat_none extra i
flat_get (x ∷ xs) extra zero = refl
flat_get (x ∷ xs) extra (suc i) = flat_get xs extra i

flat_if : (whole below low high : Bool) (a b c d : Option Stamp) → flat a ≡ flat b
    → flat (if whole then (if below then None else if low then a else if high then c else d) else None) ≡ flat (if whole then (if below then None else if low then b else if high then c else d) else None)
flat_if false below low high a b c d h = refl
flat_if true true low high a b c d h = refl
flat_if true false true high a b c d h = h
flat_if true false false true a b c d h = refl
flat_if true false false false a b c d h = refl

flat_long : (x : Regions Stamp) (extra at : ℕ) → flat (long_at x at) ≡ flat (long_at (with_more x (replicate extra None)) at)
flat_long x extra at =
    sym (flat_if (at % 4 == 0) (nat_lt at STATICS_START) (nat_lt at HEAP_START) (nat_lt at STACK_START) (slice_get (x.statics ++ replicate extra None) (place_from STATICS_START at)) (slice_get x.statics (place_from STATICS_START at)) _ _
    (flat_get x.statics extra (place_from STATICS_START at)))

-- ---- keepers outside the stack

stamp_outside : (s : State) (k : Marks) (keeper : Keeper) → KeepsOutside keeper → stamp_held s k keeper ≡ flat (kept k.env keeper)
stamp_outside s k (Own v) o = refl
stamp_outside s k (At (home.D i)) o = refl
stamp_outside s k (At (home.A i)) o = refl
stamp_outside s k (At (home.Static p)) o = refl
stamp_outside s k (At (home.Stack n)) o = absurd o

held_outside : (s : State) (k : Marks) (keeper : Keeper) → KeepsOutside keeper → is_held s k keeper ≡ true
held_outside s k (Own v) o = refl
held_outside s k (At (home.D i)) o = refl
held_outside s k (At (home.A i)) o = refl
held_outside s k (At (home.Static p)) o = refl
held_outside s k (At (home.Stack n)) o = absurd o

mark_outside : (s : State) (k : Marks) (keeper : Keeper) (stamp : Stamp) → KeepsOutside keeper → mark_held s k keeper stamp ≡ record k { env = (keeper, stamp) ∷ k.env }
mark_outside s k (Own v) stamp o = refl
mark_outside s k (At (home.D i)) stamp o = refl
mark_outside s k (At (home.A i)) stamp o = refl
mark_outside s k (At (home.Static p)) stamp o = refl
mark_outside s k (At (home.Stack n)) stamp o = absurd o

-- ---- choices

map_each : (go back : ℕ → Bool) (o : Option ℕ) → ((a : ℕ) → go a ≡ back a) → option_map_or go o true ≡ option_map_or back o true
map_each go back None h = refl
map_each go back (Some a) h = h a

all_each : {X : Type 0} (p q : X → Bool) (xs : List X) → ((x : X) → p x ≡ q x) → list_all p xs ≡ list_all q xs
all_each p q [] h = refl
all_each p q (x ∷ xs) h = ap (λ b. b && list_all p xs) (h x) ∙ ap (λ b. q x && b) (all_each p q xs h)

then_each : (f g : ℕ → Stamp) (o : Option ℕ) → ((a : ℕ) → f a ≡ g a) → option_and_then f o ≡ option_and_then g o
then_each f g None h = refl
then_each f g (Some a) h = h a

-- the marks with more static words, none of which carries a stamp, and another environment
abbrev pub marks_beside : Marks → ℕ → Env Stamp → Marks
marks_beside k extra g = record k { longs = with_more k.longs (replicate extra None); env = g }

-- the stamps of some parameters, each at its keeper
abbrev zip_by : (Var → Keeper) → List Var → List Stamp → Env Stamp
zip_by at [] stamps = []
zip_by at (v ∷ params) [] = []
zip_by at (v ∷ params) (stamp ∷ stamps) = (at v, stamp) ∷ zip_by at params stamps

module _ (words : Words) (placed : Placed) (sizes : Sizes) (serves : Serves words placed) where
  abbrev m : Setting
  m = words_in words sizes

  abbrev n : Setting
  n = placed_in placed sizes

  abbrev homes : List Home
  homes = placed.at.items

  home_outside : (v : Var) → KeepsOutside (keeper_of homes v)
  home_outside v = outside_at homes v.0 (Own v.0) tt serves.outside

  zipped : (params : List Var) (stamps : List Stamp) → Paired Stamp homes params (zip_by (λ v. Own v.0) params stamps) (zip_by (keeper_of homes) params stamps)
  zipped [] stamps = Done []
  zipped (v ∷ params) [] = Done (v ∷ params)
  zipped (v ∷ params) (stamp ∷ stamps) = Both v params stamp _ _ (zipped params stamps)

  own_params : (s : State) (k : Marks) (params : List Var) (stamps : List Stamp) → mark_params m s k params stamps ≡ record k { env = all_kept k.env (zip_by (λ v. Own v.0) params stamps) }
  own_params s k [] stamps = refl
  own_params s k (v ∷ params) [] = refl
  own_params s k (v ∷ params) (stamp ∷ stamps) = own_params s (record k { env = (Own v.0, stamp) ∷ k.env }) params stamps

  home_params : (s : State) (k : Marks) (params : List Var) (stamps : List Stamp) → mark_params n s k params stamps ≡ record k { env = all_kept k.env (zip_by (keeper_of homes) params stamps) }
  home_params s k [] stamps = refl
  home_params s k (v ∷ params) [] = refl
  home_params s k (v ∷ params) (stamp ∷ stamps) =
      ap (λ (l : Marks). mark_params n s l params stamps) (mark_outside s k (keeper_of homes v) stamp (home_outside v)) ∙ home_params s (record k { env = (keeper_of homes v, stamp) ∷ k.env }) params stamps

  params_same : (block : ℕ) → params_at m block ≡ params_at n block
  params_same block =
      by_copies (λ o p. option_map_or (λ (b : WordBlock). b.params) o [] ≡ option_map_or (λ (b : WordBlock). b.params) p []) words.blocks.items placed.words.blocks.items block (serves.of).blocks refl
      (λ x y c. sym c.params)

  params_of : (block : ℕ) (target : WordBlock) → slice_get placed.words.blocks.items block ≡ Some target → params_at n block ≡ target.params
  params_of block target found = ap (λ (o : Option WordBlock). option_map_or (λ (b : WordBlock). b.params) o []) found

  module _ (s : State) (more : List Word) (f : Env Word) (place : IsInPlace m s) (k : Marks) (extra : ℕ) (g : Env Stamp) where
    abbrev t : State
    t = beside s more f

    abbrev l : Marks
    l = marks_beside k extra g

    abbrev SameStamp : Operand → Type 0
    SameStamp x = stamp_of m s k x ≡ stamp_of n t l x

    abbrev Word_same : Operand → Type 0
    Word_same x = word_of m s x ≡ word_of n t x

    stamp_same : (x : Operand) → Agree homes k.env g (operand_var x) → SameStamp x
    stamp_same (operand.Var v) h = ap flat (h v (0, omega arith, refl)) ∙ sym (stamp_outside t l (keeper_of homes v) (home_outside v))
    stamp_same (operand.Word w) h = refl
    stamp_same (operand.Static p) h = refl
    stamp_same (operand.Code b) h = refl
    stamp_same (operand.Slot b) h = refl

    pub stamps_same : (xs : List Operand) → Agree homes k.env g (flat_map operand_var xs) → AllByRecursion SameStamp xs
    stamps_same [] h = tt
    stamps_same (x ∷ xs) h = (
      stamp_same x (λ v c. h v (Contains-append_left (operand_var x) (flat_map operand_var xs) v c)),
      stamps_same xs (λ v c. h v (Contains-append_right (operand_var x) (flat_map operand_var xs) v c)),
    )

    -- ---- what may be used

    reaches_stamp_same : (x : Operand) (at : ℕ) → SameStamp x → reaches_by_stamp m s k x at ≡ reaches_by_stamp n t l x at
    reaches_stamp_same x at h = ap (λ (stamp : Stamp). if is_in_stack s.storage at then is_birth stamp (birth_at m s k at) else true) h

    reaches_same : (x : Operand) (at : ℕ) → SameStamp x → reaches m s k x at ≡ reaches n t l x at
    reaches_same (operand.Slot bytes) at h = refl
    reaches_same (operand.Var v) at h = reaches_stamp_same (operand.Var v) at h
    reaches_same (operand.Word w) at h = refl
    reaches_same (operand.Static p) at h = refl
    reaches_same (operand.Code b) at h = refl

    number_same : (x : Operand) → Word_same x → number_at m s x ≡ number_at n t x
    number_same x h = ap (λ (o : Option Word). option_and_then number_of o) h

    if_number_same : (x : Operand) (go back : ℕ → Bool) → Word_same x → ((a : ℕ) → go a ≡ back a) → if_number m s x go ≡ if_number n t x back
    if_number_same x go back h e = map_each go back (number_at m s x) e ∙ ap (λ (o : Option ℕ). option_map_or back o true) (number_same x h)

    op_may_same : (o : WordOp) → AllByRecursion Word_same (op_operands o) → AllByRecursion SameStamp (op_operands o) → op_may m s k o ≡ op_may n t l o
    op_may_same (op.Load to base offset) h e =
        if_number_same base (λ at. may_load m s k base (moved at offset)) (λ at. may_load n t l base (moved at offset)) h.0
        (λ at. ap (λ (b : Bool). b && is_written s k (moved at offset)) (reaches_same base (moved at offset) e.0))
    op_may_same (op.LoadByte to base index offset) h e =
        if_number_same base (λ at. if_number m s index (λ i. may_load_byte m s k base (moved (at + i) offset))) (λ at. if_number n t index (λ i. may_load_byte n t l base (moved (at + i) offset))) h.0
        (λ at. if_number_same index (λ i. may_load_byte m s k base (moved (at + i) offset)) (λ i. may_load_byte n t l base (moved (at + i) offset)) h.1.0
        (λ i. ap (λ (b : Bool). b && is_written s k (moved (at + i) offset)) (reaches_stamp_same base (moved (at + i) offset) e.0)))
    op_may_same (op.Store base offset from) h e =
        if_number_same base (λ at. reaches m s k base (moved at offset)) (λ at. reaches n t l base (moved at offset)) h.0 (λ at. reaches_same base (moved at offset) e.0)
    op_may_same (op.Reset to) h e = if_number_same to (may_reset m s k to) (may_reset n t l to) h.0 (λ at. ap (λ (stamp : Stamp). is_birth stamp (birth_at m s k at)) e.0)
    op_may_same (op.Move to from) h e = refl
    op_may_same (op.Arith to kind a b over) h e = refl
    op_may_same (op.Take to bytes full) h e = refl
    op_may_same (op.Push words full) h e = refl
    op_may_same (op.Pop words) h e = refl
    op_may_same (op.Service number args) h e = refl

    operand_may_same : (x : Operand) → operand_may m s k x ≡ operand_may n t l x
    operand_may_same (operand.Var v) = sym (held_outside t l (keeper_of homes v) (home_outside v))
    operand_may_same (operand.Word w) = refl
    operand_may_same (operand.Static p) = refl
    operand_may_same (operand.Code b) = refl
    operand_may_same (operand.Slot b) = refl

    pub line_may_same : (line : Line) → AllByRecursion Word_same (operands_of line) → AllByRecursion SameStamp (operands_of line) → line_may m s k line ≡ line_may n t l line
    line_may_same (Op o) h e =
        ap (λ (b : Bool). b && op_may m s k o) (all_each (operand_may m s k) (operand_may n t l) (op_reads o) operand_may_same)
        ∙ ap (λ (b : Bool). list_all (operand_may n t l) (op_reads o) && b) (op_may_same o h e)
    line_may_same (Last e) h d = all_each (operand_may m s k) (operand_may n t l) (end_reads e) operand_may_same

    -- ---- what is marked

    bound_op : (o : WordOp) → AllByRecursion Word_same (op_operands o) → AllByRecursion SameStamp (op_operands o) → bound_stamp m s k (Op o) ≡ bound_stamp n t l (Op o)
    bound_op (op.Move to from) h e = e.0
    bound_op (op.Load to base offset) h e =
        then_each (λ at. flat (long_at k.longs (moved at offset))) (λ at. flat (long_at l.longs (moved at offset))) (number_at m s base) (λ at. flat_long k.longs extra (moved at offset))
        ∙ ap (λ (o : Option ℕ). option_and_then (λ at. flat (long_at l.longs (moved at offset))) o) (number_same base h.0)
    bound_op (op.LoadByte to base index offset) h e = refl
    bound_op (op.Store base offset from) h e = refl
    bound_op (op.Reset to) h e = refl
    bound_op (op.Arith to kind a b over) h e = refl
    bound_op (op.Take to bytes full) h e = refl
    bound_op (op.Push words full) h e = refl
    bound_op (op.Pop words) h e = refl
    bound_op (op.Service number args) h e = refl

    bound_same : (line : Line) → AllByRecursion Word_same (operands_of line) → AllByRecursion SameStamp (operands_of line) → bound_stamp m s k line ≡ bound_stamp n t l line
    bound_same (Op o) h e = bound_op o h e
    bound_same (Last end) h e = refl

    stored_op : (o : WordOp) → AllByRecursion SameStamp (op_operands o) → stored_stamp m s k (Op o) ≡ stored_stamp n t l (Op o)
    stored_op (op.Store base offset from) e = e.1.0
    stored_op (op.Move to from) e = refl
    stored_op (op.Load to base offset) e = refl
    stored_op (op.LoadByte to base index offset) e = refl
    stored_op (op.Reset to) e = refl
    stored_op (op.Arith to kind a b over) e = refl
    stored_op (op.Take to bytes full) e = refl
    stored_op (op.Push words full) e = refl
    stored_op (op.Pop words) e = refl
    stored_op (op.Service number args) e = refl

    stored_same : (line : Line) → AllByRecursion SameStamp (operands_of line) → stored_stamp m s k line ≡ stored_stamp n t l line
    stored_same (Op o) e = stored_op o e
    stored_same (Last end) e = refl

    list_stamps : (xs : List Operand) → AllByRecursion SameStamp xs → map (stamp_of m s k) xs ≡ map (stamp_of n t l) xs
    list_stamps [] e = refl
    list_stamps (x ∷ xs) e = ap (λ (o : Stamp). o ∷ map (stamp_of m s k) xs) e.0 ∙ ap (λ (os : List Stamp). stamp_of n t l x ∷ os) (list_stamps xs e.1)

    args_same : (line : Line) → AllByRecursion SameStamp (operands_of line) → map (stamp_of m s k) (args_of line) ≡ map (stamp_of n t l) (args_of line)
    args_same (Op o) e = refl
    args_same (Last (last.Jump block args)) e = list_stamps args e
    args_same (Last (last.Test kind a b at_true at_false)) e = refl
    args_same (Last (last.Enter code args)) e = list_stamps args e.1
    args_same (Last last.Stop) e = refl

    top_if : (b : Bool) (x y : List Live) → (if b then record l { live = x } else record l { live = y }) ≡ marks_beside (if b then record k { live = x } else record k { live = y }) extra g
    top_if true x y = refl
    top_if false x y = refl

    env_if : (b : Bool) (x y : List Live) → (if b then record k { live = x } else record k { live = y }).env ≡ k.env
    env_if true x y = refl
    env_if false x y = refl

    -- the second marks are the first with more static words and with homes
    pub record MarksNext (u : State) (i j : Marks) : Type 0 where
      pub env : Env Stamp
      pub is : j ≡ marks_beside i extra env
      pub agree : Agree homes i.env env (live_at words placed sizes serves u.block u.place)

    module _ (line : Line) (at : Spot words placed sizes serves s line) (fit : MarksFit m s k) (agree : Agree homes k.env g (needed ((serves.whole).lodgings.live) (line ∷ (at.stand).rest)))
        (h : AllByRecursion Word_same (operands_of line)) (e : AllByRecursion SameStamp (operands_of line)) where
      marks_after : (a b : Effect) → Same homes (word_at m s) placed.words.blocks.items line a b → MarksNext (changed s a) (marked m s k line a) (marked n t l line b)
      marks_after a b (Bind to x o) =
          let keeper : Keeper = keeper_of homes to in
          let stamp : Stamp = bound_stamp m s k line in
          record {
            env = (keeper, stamp) ∷ g;
            is = mark_outside t l keeper (bound_stamp n t l line) (home_outside to) ∙ ap (λ (z : Stamp). record l { env = (keeper, z) ∷ g }) (sym (bound_same line h e));
            agree = after_bind words placed sizes serves Stamp s line at k.env g agree to stamp o;
          }
      marks_after a b (Store i x w found o) =
          let stamp : Stamp = stored_stamp m s k line in
          let within : nat_lt i HEAP_START ≡ true → place_from STATICS_START i < length k.longs.statics =
          (λ low. let lt : place_from STATICS_START i < length s.storage.statics = long_within s.storage i w found low in let same : length k.longs.statics ≡ length s.storage.statics = fit.statics in omega (arith, lt, same)) in
          record {
            env = g;
            is = ap (λ (z : Stamp). mark_stored t l i z) (sym (stored_same line e)) ∙ ap (λ (r : Regions Stamp). record (mark_stored t l i stamp) { longs = r }) (store_more k.longs (replicate extra None) i stamp within);
            agree = after_none words placed sizes serves Stamp s line at k.env g agree o;
          }
      marks_after a b (Take to bytes o) =
          let keeper : Keeper = keeper_of homes to in
          record { env = (keeper, None) ∷ g; is = mark_outside t l keeper None (home_outside to); agree = after_bind words placed sizes serves Stamp s line at k.env g agree to None o }
      marks_after a b (Top top o) =
          record {
            env = g;
            is = top_if (nat_lt top s.top) _ _;
            agree = subst (λ (env : Env Stamp). Agree homes env g (live_at words placed sizes serves s.block (s.place + 1))) (sym (env_if (nat_lt top s.top) _ _)) (after_none words placed sizes serves Stamp s line at k.env g agree o);
          }
      marks_after a b (Put bytes o) = record { env = g; is = refl; agree = after_none words placed sizes serves Stamp s line at k.env g agree o }
      marks_after a b (Turn block c) = record { env = g; is = refl; agree = after_turn words placed sizes serves Stamp s line at k.env g agree block c }
      marks_after a b (Enter block target d c found p) =
          let params : List Var = target.params in
          let stamps : List Stamp = map (stamp_of m s k) (args_of line) in
          let own : Env Stamp = zip_by (λ v. Own v.0) params stamps in
          let there : Env Stamp = zip_by (keeper_of homes) params stamps in
          let left : mark_params m s (record k { env = [] }) (params_at m block) stamps ≡ record k { env = all_kept [] own } =
          ap (λ (ps : List Var). mark_params m s (record k { env = [] }) ps stamps) (params_same block ∙ params_of block target found) ∙ own_params s (record k { env = [] }) params stamps in
          let right : mark_params n t (record l { env = [] }) (params_at n block) (map (stamp_of n t l) (args_of line)) ≡ record l { env = all_kept [] there } =
          ap (λ (ps : List Var). mark_params n t (record l { env = [] }) ps (map (stamp_of n t l) (args_of line))) (params_of block target found)
          ∙ ap (λ (zs : List Stamp). mark_params n t (record l { env = [] }) params zs) (sym (args_same line e)) ∙ home_params t (record l { env = [] }) params stamps in
          record {
            env = all_kept [] there;
            is = right ∙ ap (λ (i : Marks). marks_beside i extra (all_kept [] there)) (sym left);
            agree = subst (λ (i : Marks). Agree homes i.env (all_kept [] there) (live_at words placed sizes serves block 0)) (sym left) (after_enter words placed sizes serves block target own there found (zipped params stamps));
          }
      marks_after a b (Finish end) = record { env = g; is = refl; agree = subst (λ (vars : List Var). Agree homes k.env g vars) (sym at.lives) agree }

      pub marks_meet : (a b : Effect) → Meets homes (word_at m s) placed.words.blocks.items line a b → ((changed s a).end ≡ Some Broken → ⊥) → MarksNext (changed s a) (marked m s k line a) (marked n t l line b)
      marks_meet a b (Broke c) sound = absurd (sound refl)
      marks_meet a b (Goes c d same) sound = marks_after c d same
