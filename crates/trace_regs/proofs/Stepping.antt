-- A step with homes is the step without them, where that one doesn't break.
use Rattle.std.proofs.Common.{◌≡◌, ℕ, zero, suc, ◌+◌, ◌%◌, ◌<◌, ◌==◌, nat_lt, Bool, true, false, if◌then◌else◌, List, [], ◌∷◌, ◌++◌, length, slice_get, slice_set, Option, Some, None, Contains, refl, sym, ap, subst, ◌∙◌, arith}
use Rattle.std.specs.Prelude.{IsSomeAnd}
use Rattle.std.specs.List.{flat_map}
use Rattle.std.specs.Option.{option_map_or}
use Rattle.std.proofs.lemmas.List.Elements.{Contains-append_left, Contains-append_right, All-contains}
use Rattle.t_base.specs.declared.basics.Var.{Var}
use Rattle.program_runs.specs.Runs.{End, Broken}
use Rattle.word_ir.specs.declared.placed.Home.{Home}
use Rattle.word_ir.specs.declared.placed.Placed.{Placed}
use Rattle.word_ir.specs.declared.words.WordBlock.{WordBlock}
use Rattle.word_ir.specs.declared.words.Words.{Words}
use Rattle.word_ir.specs.Word.{Word, Number}
use Rattle.word_ir.specs.Storage.{Sizes, Regions, STATICS_START, HEAP_START, STACK_START, place_from, long_at, with_long}
use Rattle.word_ir.specs.Lines.{Line, line_at, lines_of, uses_of, binds_of, exits_of, operands_of, operand_var, moves_of}
use Rattle.word_ir.specs.State.{Setting, Keeper, Own, keeper_of, Env, State, word_at, hold_all}
use Rattle.word_ir.specs.Effects.{Effect, line_effect}
use Rattle.word_ir.specs.Step.{words_in, placed_in, on, into, changed, moving, done, unless_ended, step}
use Rattle.word_ir.specs.Ranges.{IsInPlace}
use Rattle.word_ir.specs.Whole.{vars_at, open_blocks, Includes}
use Rattle.word_ir.specs.WholePlaced.{needed, without, AreApart, IsLodgedFrom, HasLodgings}
use Rattle.word_ir.proofs.CopiesWeigh.{line_same}
use Rattle.trace_regs.specs.Homes.{Serves}
use Rattle.trace_regs.proofs.Keepers.{KeepsOutside, outside_at, hold_outside, Agree, agree_bound, without_none, Paired, Done, Both, Neither, agree_paired, all_kept, AreOutside, hold_all_outside}
use Rattle.trace_regs.proofs.Blocks.{lines_behind, Stands, stands, line_found, lodged_behind, contains_flat, opened_by}
use Rattle.trace_regs.proofs.Matching.{IsOpBinding, Same, Bind, Store, Take, Top, Put, Turn, Enter, Finish, Meets, Broke, Goes, beside, words_same, line_meets}

-- ---- storage with more static words

abbrev pub with_more : {X : Type 0} → Regions X → List X → Regions X
with_more x more = record x { statics = x.statics ++ more }

set_before : {X : Type 0} (xs more : List X) (i : ℕ) (x : X) → i < length xs → slice_set (xs ++ more) i x ≡ slice_set xs i x ++ more
set_before [] more i x lt = absurd (omega arith)
set_before (y ∷ xs) more zero x lt = refl
set_before (y ∷ xs) more (suc i) x lt = ap (λ l. y ∷ l) (set_before xs more i x (omega arith))

store_if : {X : Type 0} (b c : Bool) (x : Regions X) (more a d e : List X) (p : List X) → (b ≡ true → p ≡ a ++ more)
    → (if b then record (with_more x more) { statics = p } else if c then record (with_more x more) { heap = d } else record (with_more x more) { stack = e })
    ≡ with_more (if b then record x { statics = a } else if c then record x { heap = d } else record x { stack = e }) more
store_if true c x more a d e p h = ap (λ (l : List _). record (with_more x more) { statics = l }) (h refl)
store_if false true x more a d e p h = refl
store_if false false x more a d e p h = refl

pub store_more : {X : Type 0} (x : Regions X) (more : List X) (at : ℕ) (w : X) → (nat_lt at HEAP_START ≡ true → place_from STATICS_START at < length x.statics) → with_long (with_more x more) at w ≡ with_more (with_long x at w) more
store_more x more at w h =
    let i : ℕ = place_from STATICS_START at in
    store_if (nat_lt at HEAP_START) (nat_lt at STACK_START) x more (slice_set x.statics i w) (slice_set x.heap (place_from HEAP_START at) w) (slice_set x.stack (place_from STACK_START at) w)
    (slice_set (x.statics ++ more) i w) (λ low. set_before x.statics more i w (h low))

-- what is found among the static words is there
static_within : {X : Type 0} (whole below low high : Bool) (xs : List X) (i : ℕ) (o p : Option X) (w : X) → low ≡ true
    → (if whole then (if below then None else if low then slice_get xs i else if high then o else p) else None) ≡ Some w → i < length xs
static_within false below low high xs i o p w e found = absurd (cc)
static_within true true low high xs i o p w e found = absurd (cc)
static_within true false true high xs i o p w e found = by xs i found
  where
    by : {X : Type 0} {w : X} (xs : List X) (i : ℕ) → slice_get xs i ≡ Some w → i < length xs
    by [] i e = absurd (cc)
    by (x ∷ xs) zero e = omega arith
    by (x ∷ xs) (suc i) e = let lt : i < length xs = by xs i e in omega arith
static_within true false false high xs i o p w e found = absurd (cc)

pub long_within : {X : Type 0} (x : Regions X) (at : ℕ) (w : X) → long_at x at ≡ Some w → nat_lt at HEAP_START ≡ true → place_from STATICS_START at < length x.statics
long_within x at w found low = static_within (at % 4 == 0) (nat_lt at STATICS_START) (nat_lt at HEAP_START) (nat_lt at STACK_START) x.statics (place_from STATICS_START at) _ _ w low found

unless_none : (s t : State) (end : Option End) → end ≡ None → unless_ended end s t ≡ t
unless_none s t None e = refl
unless_none s t (Some d) e = absurd (cc)

pub step_done : (m : Setting) (s : State) → s.end ≡ None → step m s ≡ done m s (line_at m.words s.block s.place)
unfolding step
step_done m s e = unless_none s _ s.end e

module _ (words : Words) (placed : Placed) (sizes : Sizes) (serves : Serves words placed) where
  abbrev m : Setting
  m = words_in words sizes

  abbrev n : Setting
  n = placed_in placed sizes

  abbrev homes : List Home
  homes = placed.at.items

  abbrev live : List (List Var)
  live = (serves.whole).lodgings.live

  -- the variables that live at a place of a block
  abbrev pub live_at : ℕ → ℕ → List Var
  live_at b k = option_map_or (λ (block : WordBlock). needed live (lines_behind k block)) (slice_get placed.words.blocks.items b) []

  -- the second state is the first one with more static words and with homes, where what lives is alike
  pub record Next (s t : State) (more : List Word) : Type 0 where
    pub env : Env Word
    pub is : t ≡ beside s more env
    pub agree : Agree homes s.env env (live_at s.block s.place)

  -- ---- one line

  -- a line of the program, where it stands, and what lives behind it
  pub record Spot (s : State) (line : Line) : Type 0 where
    pub block : WordBlock
    pub found : slice_get placed.words.blocks.items s.block ≡ Some block
    pub stand : Stands block.ops.items block.last s.place line
    pub lives : live_at s.block s.place ≡ needed live (line ∷ stand.rest)

  live_of : (b k : ℕ) (block : WordBlock) (lines : List Line) → slice_get placed.words.blocks.items b ≡ Some block → lines_behind k block ≡ lines → live_at b k ≡ needed live lines
  live_of b k block lines found e = ap (λ (o : Option WordBlock). option_map_or (λ (x : WordBlock). needed live (lines_behind k x)) o []) found ∙ ap (needed live) e

  pub spot : (s : State) (line : Line) → line_at placed.words s.block s.place ≡ Some line → Spot s line
  spot s line e =
      let found = line_found placed.words s.block s.place line e in
      let stand = stands found.0.ops.items found.0.last s.place line found.2 in
      record { block = found.0; found = found.1; stand = stand; lives = live_of s.block s.place found.0 (line ∷ stand.rest) found.1 stand.here }

  module _ (X : Type 0) (s : State) (line : Line) (at : Spot s line) (e f : Env X) (agree : Agree homes e f (needed live (line ∷ (at.stand).rest))) where
    abbrev rest : List Line
    rest = (at.stand).rest

    abbrev uses : List Var
    uses = uses_of line

    abbrev turned : List Var
    turned = flat_map (vars_at live) (exits_of line)

    pub agree_uses : Agree homes e f (flat_map operand_var (operands_of line))
    agree_uses v c = agree v (Contains-append_left (uses ++ turned) (without (binds_of line) (needed live rest)) v (Contains-append_left uses turned v c))

    agree_turned : Agree homes e f turned
    agree_turned v c = agree v (Contains-append_left (uses ++ turned) (without (binds_of line) (needed live rest)) v (Contains-append_right uses turned v c))

    binding : (vars : List Var) → IsOpBinding line vars → binds_of line ≡ vars
    binding vars o = ap binds_of o.is ∙ o.binds

    agree_without : (vars : List Var) → IsOpBinding line vars → Agree homes e f (without vars (needed live rest))
    agree_without vars o v c =
        agree v (Contains-append_right (uses ++ turned) (without (binds_of line) (needed live rest)) v (subst (λ (l : List Var). Contains (without l (needed live rest)) v) (sym (binding vars o)) c))

    agree_rest : IsOpBinding line [] → Agree homes e f (needed live rest)
    agree_rest o v c = agree_without [] o v (without_none (needed live rest) v c)

    pub live_next : (vars : List Var) → IsOpBinding line vars → live_at s.block (s.place + 1) ≡ needed live rest
    live_next vars o = live_of s.block (s.place + 1) at.block rest at.found ((at.stand).next o.o o.is)

    apart : AreApart homes (binds_of line ++ needed live rest)
    apart =
        let h : HasLodgings placed.words homes = (serves.whole).lodgings in
        let l = lodged_behind live h.depths homes _ (at.block).ops.items (at.block).last s.place (h.lines s.block at.block at.found) in
        let here : IsLodgedFrom live h.depths homes l.0 (line ∷ rest) = subst (λ (ls : List Line). IsLodgedFrom live h.depths homes l.0 ls) (at.stand).here l.1 in
        here.1.0

    pub after_bind : (to : Var) (x : X) → IsOpBinding line (to ∷ []) → Agree homes ((Own to.0, x) ∷ e) ((keeper_of homes to, x) ∷ f) (live_at s.block (s.place + 1))
    after_bind to x o =
        let parted : AreApart homes (to ∷ needed live rest) = subst (λ (l : List Var). AreApart homes (l ++ needed live rest)) (binding (to ∷ []) o) apart in
        subst (λ (vars : List Var). Agree homes ((Own to.0, x) ∷ e) ((keeper_of homes to, x) ∷ f) vars) (sym (live_next (to ∷ []) o))
        (agree_bound homes e f to x (needed live rest) parted (agree_without (to ∷ []) o))

    pub after_none : IsOpBinding line [] → Agree homes e f (live_at s.block (s.place + 1))
    after_none o = subst (λ (vars : List Var). Agree homes e f vars) (sym (live_next [] o)) (agree_rest o)

    pub after_turn : (b : ℕ) → Contains (exits_of line) b → Agree homes e f (live_at b 0)
    after_turn b c = by (slice_get placed.words.blocks.items b) opened
      where
        opened : IsSomeAnd (slice_get placed.words.blocks.items b) (λ (x : WordBlock). Includes (vars_at live b) (needed live (lines_of x)))
        opened =
            All-contains (λ (k : ℕ). IsSomeAnd (slice_get placed.words.blocks.items k) (λ (x : WordBlock). Includes (vars_at live k) (needed live (lines_of x)))) (open_blocks placed.words) b
            ((serves.whole).lodgings.opened) (opened_by placed.words s.block s.place b at.block line at.found at.stand c)

        by : (o : Option WordBlock) → IsSomeAnd o (λ (x : WordBlock). Includes (vars_at live b) (needed live (lines_of x))) → Agree homes e f (option_map_or (λ (x : WordBlock). needed live (lines_behind 0 x)) o [])
        by None h = absurd h
        by (Some x) h = λ v d. agree_turned v (contains_flat (vars_at live) (exits_of line) b v c (All-contains (Contains (vars_at live b)) (needed live (lines_of x)) v h d))

  pub after_enter : {X : Type 0} (b : ℕ) (target : WordBlock) (e g : Env X) → slice_get placed.words.blocks.items b ≡ Some target → Paired X homes target.params e g → Agree homes (all_kept [] e) (all_kept [] g) (live_at b 0)
  after_enter b target e g found p =
      subst (λ (vars : List Var). Agree homes (all_kept [] e) (all_kept [] g) vars) (sym (live_of b 0 target (lines_of target) found refl))
      (λ v c. agree_paired homes v target.params e g [] [] p
      (λ w d ne. ((serves.whole).lodgings.starts b target found).0 w v (Contains-append_left target.params (needed live (lines_of target)) w d) (Contains-append_right target.params (needed live (lines_of target)) v c) ne)
      refl)

  home_outside : (v : Var) → KeepsOutside (keeper_of homes v)
  home_outside v = outside_at homes v.0 (Own v.0) tt serves.outside

  own_outside : {X : Type 0} (params : List Var) (e g : Env X) → Paired X homes params e g → AreOutside e
  own_outside params e g (Done all) = tt
  own_outside params e g (Both v rest x d c p) = (tt, own_outside rest d c p)
  own_outside params e g (Neither v rest d c p) = own_outside rest d c p

  homes_outside : {X : Type 0} (params : List Var) (e g : Env X) → Paired X homes params e g → AreOutside g
  homes_outside params e g (Done all) = tt
  homes_outside params e g (Both v rest x d c p) = (home_outside v, homes_outside rest d c p)
  homes_outside params e g (Neither v rest d c p) = homes_outside rest d c p

  -- ---- the state behind a line

  module _ (s : State) (more : List Word) (f : Env Word) (place : IsInPlace m s) (line : Line) (at : Spot s line) (agree : Agree homes s.env f (needed live (line ∷ (at.stand).rest))) where
    abbrev t : State
    t = beside s more f

    unmarked_at : (a : ℕ) (w : Word) → word_at m s a ≡ Some w → nat_lt a HEAP_START ≡ true → place_from STATICS_START a < length s.storage.statics
    unmarked_at a w found = long_within s.storage a w found

    next_after : (a b : Effect) → Same homes (word_at m s) placed.words.blocks.items line a b → Next (changed s a) (changed t b) more
    next_after a b (Bind to x o) =
        let k : Keeper = keeper_of homes to in
        record { env = (k, x) ∷ f; is = ap on (hold_outside t k x (home_outside to)); agree = after_bind Word s line at s.env f agree to x o }
    next_after a b (Store i x w found o) =
        record { env = f; is = ap (λ (r : Regions Word). on (record t { storage = r })) (store_more s.storage more i x (unmarked_at i w found)); agree = after_none Word s line at s.env f agree o }
    next_after a b (Take to bytes o) =
        let k : Keeper = keeper_of homes to in
        record {
          env = (k, Number s.next) ∷ f;
          is = ap (λ (u : State). on (record u { next = s.next + bytes })) (hold_outside t k (Number s.next) (home_outside to));
          agree = after_bind Word s line at s.env f agree to (Number s.next) o;
        }
    next_after a b (Top top o) = record { env = f; is = refl; agree = after_none Word s line at s.env f agree o }
    next_after a b (Put bytes o) = record { env = f; is = refl; agree = after_none Word s line at s.env f agree o }
    next_after a b (Turn block c) = record { env = f; is = refl; agree = after_turn Word s line at s.env f agree block c }
    next_after a b (Enter block target e g found p) =
        let left : hold_all (record s { env = [] }) e ≡ record s { env = all_kept [] e } = hold_all_outside (record s { env = [] }) e (own_outside target.params e g p) in
        let right : hold_all (record t { env = [] }) g ≡ record t { env = all_kept [] g } = hold_all_outside (record t { env = [] }) g (homes_outside target.params e g p) in
        record {
          env = all_kept [] g;
          is = ap (into block) right ∙ ap (λ (u : State). beside (into block u) more (all_kept [] g)) (sym left);
          agree = subst (λ (u : State). Agree homes u.env (all_kept [] g) (live_at block 0)) (sym left) (after_enter block target e g found p);
        }
    next_after a b (Finish e) = record { env = f; is = refl; agree = subst (λ (vars : List Var). Agree homes s.env f vars) (sym at.lives) agree }

    next_meets : (a b : Effect) → Meets homes (word_at m s) placed.words.blocks.items line a b → ((changed s a).end ≡ Some Broken → ⊥) → Next (changed s a) (changed t b) more
    next_meets a b (Broke c) sound = absurd (sound refl)
    next_meets a b (Goes c d same) sound = next_after c d same

    pub next_line : ((done m s (Some line)).end ≡ Some Broken → ⊥) → Next (done m s (Some line)) (done n t (Some line)) more
    next_line sound =
        let meets = line_meets words placed sizes serves s more f place line (words_same words placed sizes serves s more f place (operands_of line) (agree_uses Word s line at s.env f agree)) in
        let next = next_meets (line_effect m s line) (line_effect n t line) meets sound in
        record { env = next.env; is = ap (moving (moves_of line)) next.is; agree = next.agree }

  next_done : (s : State) (more : List Word) (f : Env Word) → IsInPlace m s → Agree homes s.env f (live_at s.block s.place) → (o : Option Line) → line_at placed.words s.block s.place ≡ o
      → ((done m s o).end ≡ Some Broken → ⊥) → Next (done m s o) (done n (beside s more f) o) more
  next_done s more f place agree None e sound = absurd (sound refl)
  next_done s more f place agree (Some line) e sound =
      let at = spot s line e in
      next_line s more f place line at (subst (λ (vars : List Var). Agree homes s.env f vars) at.lives agree) sound

  -- a step of both
  pub next_step : (s t : State) (more : List Word) → IsInPlace m s → s.end ≡ None → ((step m s).end ≡ Some Broken → ⊥) → Next s t more → Next (step m s) (step n t) more
  next_step s t more place going sound next =
      let f : Env Word = next.env in
      let lines : line_at placed.words s.block s.place ≡ line_at words s.block s.place = line_same words placed.words s.block s.place (serves.of).blocks in
      let first : step m s ≡ done m s (line_at placed.words s.block s.place) = step_done m s going ∙ ap (done m s) (sym lines) in
      let second : step n (beside s more f) ≡ done n (beside s more f) (line_at placed.words s.block s.place) = step_done n (beside s more f) going in
      let after : Next (done m s (line_at placed.words s.block s.place)) (done n (beside s more f) (line_at placed.words s.block s.place)) more =
      next_done s more f place next.agree (line_at placed.words s.block s.place) refl (λ e. sound (ap (λ (u : State). u.end) first ∙ e)) in
      subst (λ (u : State). Next u (step n t) more) (sym first)
      (subst (λ (u : State). Next (done m s (line_at placed.words s.block s.place)) u more) (sym (ap (step n) next.is ∙ second)) after)
