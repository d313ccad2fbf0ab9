-- What is used of the stack is in it.
use Rattle.std.proofs.Common.{◌≡◌, ℕ, zero, suc, ◌+◌, ◌*◌, ◌/◌, ◌%◌, ◌<◌, ◌≤◌, ◌==◌, nat_lt, Bool, true, false, if◌then◌else◌, List, [], ◌∷◌, ◌++◌, length, is_some, slice_get, slice_index, Option, Some, None, All, Contains, refl, sym, ap, subst, ◌∙◌, arith, ◌⊎◌, inl, inr}
use Rattle.std.specs.Option.{option_map_or}
use Rattle.std.proofs.lemmas.Bool.{true≢false, le-ltb}
use Rattle.std.proofs.lemmas.List.Elements.{All-contains, All-contains_itself, All-weaker, Contains-append_left, Contains-append_right}
use Rattle.t_base.specs.declared.basics.Var.{Var}
use Rattle.word_ir.specs.declared.placed.Home.TheVariants as home
use Rattle.word_ir.specs.declared.words.WordBlock.{WordBlock}
use Rattle.word_ir.specs.declared.words.WordOp.{WordOp}
use Rattle.word_ir.specs.declared.words.WordEnd.{WordEnd}
use Rattle.word_ir.specs.Word.{Word, Number}
use Rattle.word_ir.specs.Storage.{Regions, STATICS_START, HEAP_START, STACK_START, place_from, long_at}
use Rattle.word_ir.specs.Lines.{Line, Op, Last, lines_of, binds_of, exits_of}
use Rattle.word_ir.specs.State.{Setting, stack_end, Keeper, Own, At, keeper_of, State, stack_at, held, hold, is_in_frame}
use Rattle.word_ir.specs.Effects.{Effect, Binds, Stores, Takes, SetsTop, Puts, Turns, Enters, Ends}
use Rattle.word_ir.specs.Step.{changed}
use Rattle.word_ir.specs.Ranges.{IsInPlace}
use Rattle.word_ir.specs.Whole.{taken_blocks, end_jumps, jumps_of}
use Rattle.word_ir.specs.WholePlaced.{needed, LiesWithin, LieWithin, depth_behind, IsLodgedFrom, HasLodgings}
use Rattle.word_scopes.specs.Ahead.{lines_behind, lines_ahead, used_ahead}
use Rattle.word_scopes.proofs.Reading.{Stands, from_start, used_is_needed}
use Rattle.word_scopes.proofs.Followed.{OpFollows, EndFollows}
use Rattle.word_scopes.proofs.Scoped.{SamePlace, hold_stays, hold_all_top, next_lines}

-- So many words at least are in the stack, and what the lines ahead need of it is among them.
pub record IsDeep (m : Setting) (account : HasLodgings m.words m.homes) (s : State) : Type 0 where
  pub depth : ℕ
  pub lodged : IsLodgedFrom account.live account.depths m.homes depth (lines_ahead m.words s.block s.place)
  pub within : LieWithin depth m.homes (needed account.live (lines_ahead m.words s.block s.place))
  pub room : s.top + 4 * depth ≤ stack_end m

all_behind : {X : Type 0} (P : X → Type 0) (xs ys : List X) → All P (xs ++ ys) → All P ys
all_behind P xs ys h = All-weaker (Contains ys) P (λ y c. All-contains P (xs ++ ys) y h (Contains-append_right xs ys y c)) ys (All-contains_itself ys)

module _ (m : Setting) (account : HasLodgings m.words m.homes) where
  lodged_at : ℕ → List Line → Type 0
  lodged_at depth lines = IsLodgedFrom account.live account.depths m.homes depth lines

  -- at the start of a block
  pub start_deep : (t : State) (b : ℕ) → t.block ≡ b → t.place ≡ 0 → t.top + 4 * slice_index account.depths b ≤ stack_end m → IsDeep m account t
  start_deep t b eb ek le = by (slice_get m.words.blocks.items b) refl
    where
      lines : lines_ahead m.words t.block t.place ≡ lines_ahead m.words b 0
      lines = ap (λ (k : ℕ). lines_ahead m.words k t.place) eb ∙ ap (λ (k : ℕ). lines_ahead m.words b k) ek

      from : (ls : List Line) → lines_ahead m.words b 0 ≡ ls → IsLodgedFrom account.live account.depths m.homes (slice_index account.depths b) ls → LieWithin (slice_index account.depths b) m.homes (needed account.live ls) → IsDeep m account t
      from ls e h g = record {
        depth = slice_index account.depths b;
        lodged = subst (λ l. IsLodgedFrom account.live account.depths m.homes (slice_index account.depths b) l) (sym (lines ∙ e)) h;
        within = subst (λ l. LieWithin (slice_index account.depths b) m.homes (needed account.live l)) (sym (lines ∙ e)) g;
        room = le;
      }

      by : (o : Option WordBlock) → slice_get m.words.blocks.items b ≡ o → IsDeep m account t
      by None e = from [] (ap (λ o. option_map_or (lines_behind 0) o []) e) tt (λ k d lt. absurd (omega arith))
      by (Some block) e =
          from (lines_of block) (from_start m.words b block e) (account.lines b block e)
          (all_behind (λ v. LiesWithin (slice_index account.depths b) (keeper_of m.homes v)) block.params (needed account.live (lines_of block)) (account.starts b block e).1)

  module _ (s : State) (deep : IsDeep m account s) where
    next_deep : (t : State) (o : WordOp) (at : Stands m.words s.block s.place (Op o)) → t.block ≡ s.block → t.place ≡ s.place + 1 → t.top + 4 * depth_behind deep.depth (Op o) ≤ stack_end m → IsDeep m account t
    next_deep t o at eb ek le =
        let lines : lines_ahead m.words t.block t.place ≡ at.rest = next_lines m.words s t o at eb ek in
        let h : IsLodgedFrom account.live account.depths m.homes deep.depth (Op o ∷ at.rest) = subst (λ l. IsLodgedFrom account.live account.depths m.homes deep.depth l) at.here deep.lodged in
        record {
          depth = depth_behind deep.depth (Op o);
          lodged = subst (λ l. IsLodgedFrom account.live account.depths m.homes (depth_behind deep.depth (Op o)) l) (sym lines) h.2;
          within = subst (λ l. LieWithin (depth_behind deep.depth (Op o)) m.homes (needed account.live l)) (sym lines)
              (all_behind (λ v. LiesWithin (depth_behind deep.depth (Op o)) (keeper_of m.homes v)) (binds_of (Op o)) (needed account.live at.rest) h.1.1);
          room = le;
        }

    level_deep : (t : State) (o : WordOp) (at : Stands m.words s.block s.place (Op o)) → SamePlace s t → (u : State) → u.block ≡ t.block → u.place ≡ t.place + 1 → u.top ≡ t.top → depth_behind deep.depth (Op o) ≡ deep.depth
        → IsDeep m account u
    level_deep t o at same u eb ek top level =
        let room : s.top + 4 * deep.depth ≤ stack_end m = deep.room in
        let top_same : u.top ≡ s.top = top ∙ same.top in
        next_deep u o at (eb ∙ same.block) (ek ∙ ap (λ (k : ℕ). k + 1) same.place) (omega (arith, room, top_same, level))

    -- the blocks that a line names count on no more
    followed_deep : (line : Line) (at : Stands m.words s.block s.place line) (b : ℕ) → Contains (exits_of line ++ jumps_of line) b → slice_index account.depths b ≤ deep.depth
    followed_deep line at b named =
        let h : IsLodgedFrom account.live account.depths m.homes deep.depth (line ∷ at.rest) = subst (λ l. IsLodgedFrom account.live account.depths m.homes deep.depth l) at.here deep.lodged in
        All-contains (λ k. slice_index account.depths k ≤ deep.depth) (exits_of line ++ jumps_of line) b h.0 named

    lower_deep : (t : State) (b : ℕ) → t.block ≡ b → t.place ≡ 0 → t.top ≡ s.top → slice_index account.depths b ≤ deep.depth → IsDeep m account t
    lower_deep t b eb ek top le = let room : s.top + 4 * deep.depth ≤ stack_end m = deep.room in start_deep t b eb ek (omega (arith, room, top, le))

    pub op_deep : (o : WordOp) (at : Stands m.words s.block s.place (Op o)) (e : Effect) → OpFollows m s o e → IsDeep m account (changed s e)
    op_deep o at (Binds to x) h = level_deep (hold s to x) o at (hold_stays s to x) _ refl refl refl (h.level deep.depth)
    op_deep o at (Takes to bytes) h = level_deep (hold s to (Number s.next)) o at (hold_stays s to (Number s.next)) _ refl refl refl (h.level deep.depth)
    op_deep o at (Stores a x) h = level_deep s o at (record { block = refl; place = refl; top = refl }) _ refl refl refl (h.level deep.depth)
    op_deep o at (Puts bytes) h = level_deep s o at (record { block = refl; place = refl; top = refl }) _ refl refl refl (h.level deep.depth)
    op_deep o at (SetsTop top) h = next_deep _ o at refl refl (h.deep deep.depth deep.room)
    op_deep o at (Turns b) h = lower_deep _ b refl refl refl (followed_deep (Op o) at b (Contains-append_left (exits_of (Op o)) (jumps_of (Op o)) b h))
    op_deep o at (Enters b env) h = absurd h
    op_deep o at (Ends e) h = record { depth = deep.depth; lodged = deep.lodged; within = deep.within; room = deep.room }

    entered_deep : (e : WordEnd) (at : Stands m.words s.block s.place (Last e)) (b : ℕ) → Contains (end_jumps e) b ⊎ Contains (taken_blocks m.words) b → slice_index account.depths b ≤ deep.depth
    entered_deep e at b (inl c) = followed_deep (Last e) at b (Contains-append_right (exits_of (Last e)) (jumps_of (Last e)) b c)
    entered_deep e at b (inr c) =
        let none : slice_index account.depths b ≡ 0 = All-contains (λ k. slice_index account.depths k ≡ 0) (m.words.entry ∷ taken_blocks m.words) b account.empty (Contains-append_right (m.words.entry ∷ []) (taken_blocks m.words) b c) in
        omega (arith, none)

    pub end_deep : (e : WordEnd) (at : Stands m.words s.block s.place (Last e)) (f : Effect) → EndFollows m s e f → IsDeep m account (changed s f)
    end_deep e at (Binds to x) h = absurd h
    end_deep e at (Takes to bytes) h = absurd h
    end_deep e at (Stores a x) h = absurd h
    end_deep e at (Puts bytes) h = absurd h
    end_deep e at (SetsTop top) h = absurd h
    end_deep e at (Turns b) h = lower_deep _ b refl refl refl (followed_deep (Last e) at b (Contains-append_left (exits_of (Last e)) (jumps_of (Last e)) b h))
    end_deep e at (Enters b env) h = lower_deep _ b refl refl (hold_all_top (record s { env = [] }) env) (entered_deep e at b h.named)
    end_deep e at (Ends d) h = record { depth = deep.depth; lodged = deep.lodged; within = deep.within; room = deep.room }

  pub same_deep : (s t : State) → t.block ≡ s.block → t.place ≡ s.place → t.top ≡ s.top → IsDeep m account s → IsDeep m account t
  same_deep s t eb ek top h =
      let lines : lines_ahead m.words t.block t.place ≡ lines_ahead m.words s.block s.place = ap (λ (b : ℕ). lines_ahead m.words b t.place) eb ∙ ap (λ (k : ℕ). lines_ahead m.words s.block k) ek in
      let room : s.top + 4 * h.depth ≤ stack_end m = h.room in
      record {
        depth = h.depth;
        lodged = subst (λ l. IsLodgedFrom account.live account.depths m.homes h.depth l) (sym lines) h.lodged;
        within = subst (λ l. LieWithin h.depth m.homes (needed account.live l)) (sym lines) h.within;
        room = omega (arith, room, top);
      }

-- ---- a word of the stack

some_if : {X : Type 0} (b : Bool) (o p : Option X) → b ≡ true → is_some o ≡ true → is_some (if b then o else p) ≡ true
some_if true o p e h = h
some_if false o p e h = absurd (true≢false (sym e))

some_else : {X : Type 0} (b : Bool) (o p : Option X) → b ≡ false → is_some p ≡ true → is_some (if b then o else p) ≡ true
some_else false o p e h = h
some_else true o p e h = absurd (true≢false e)

some_within : {X : Type 0} (xs : List X) (i : ℕ) → i < length xs → is_some (slice_get xs i) ≡ true
some_within [] i lt = absurd (omega arith)
some_within (x ∷ xs) zero lt = refl
some_within (x ∷ xs) (suc i) lt = some_within xs i (omega arith)

stack_some : (x : Regions Word) (at : ℕ) → at % 4 ≡ 0 → STACK_START ≤ at → place_from STACK_START at < length x.stack → is_some (long_at x at) ≡ true
stack_some x at whole from lt =
    let stacked : Option Word = slice_get x.stack (place_from STACK_START at) in
    let heaped : Option Word = if nat_lt at STACK_START then slice_get x.heap (place_from HEAP_START at) else stacked in
    let static : Option Word = if nat_lt at HEAP_START then slice_get x.statics (place_from STATICS_START at) else heaped in
    let any : Option Word = if nat_lt at STATICS_START then None else static in
    some_if (at % 4 == 0) any None (ap (λ (n : ℕ). n == 0) whole)
    (some_else (nat_lt at STATICS_START) None static (le-ltb at STATICS_START (omega (arith, from)))
    (some_else (nat_lt at HEAP_START) (slice_get x.statics (place_from STATICS_START at)) heaped (le-ltb at HEAP_START (omega (arith, from)))
    (some_else (nat_lt at STACK_START) (slice_get x.heap (place_from HEAP_START at)) stacked (le-ltb at STACK_START from) (some_within x.stack (place_from STACK_START at) lt))))

within_held : (m : Setting) (s : State) (depth : ℕ) → IsInPlace m s → s.top + 4 * depth ≤ stack_end m → (k : Keeper) → LiesWithin depth k → is_in_frame k ≡ true → is_some (held s k) ≡ true
within_held m s depth p room (Own v) h e = absurd (true≢false (sym e))
within_held m s depth p room (At (home.D i)) h e = absurd (true≢false (sym e))
within_held m s depth p room (At (home.A i)) h e = absurd (true≢false (sym e))
within_held m s depth p room (At (home.Static q)) h e = absurd (true≢false (sym e))
within_held m s depth p room (At (home.Stack n)) h e =
    let from : STACK_START ≤ s.top = p.top_from in
    let whole : s.top % 4 ≡ 0 = p.top_whole in
    let count : length s.storage.stack ≡ m.sizes.stack / 4 = p.stack in
    let low : n < depth = h in
    stack_some s.storage (stack_at s n) (omega (arith, whole)) (omega (arith, from)) (omega (arith, from, whole, count, low, room))

-- what the lines ahead use of the stack is there
pub frames_held : (m : Setting) (account : HasLodgings m.words m.homes) (s : State) → IsInPlace m s → IsDeep m account s → (v : Var) → Contains (used_ahead (lines_ahead m.words s.block s.place)) v → is_in_frame (keeper_of m.homes v) ≡ true
    → is_some (held s (keeper_of m.homes v)) ≡ true
frames_held m account s p h v c e =
    within_held m s h.depth p h.room (keeper_of m.homes v)
    (All-contains (λ u. LiesWithin h.depth (keeper_of m.homes u)) (needed account.live (lines_ahead m.words s.block s.place)) v h.within (used_is_needed account.live (lines_ahead m.words s.block s.place) v c)) e
