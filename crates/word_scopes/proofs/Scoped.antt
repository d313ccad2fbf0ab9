-- What a block sees is kept, and what is used of the stack is there, from line to line.
use Rattle.std.proofs.Common.{◌≡◌, ℕ, zero, suc, ◌+◌, ◌<◌, false, List, [], ◌∷◌, ◌++◌, get_or, slice_get, Option, Some, None, Contains, refl, sym, ap, subst, ◌∙◌, arith, ◌⊎◌, inl, inr, ⊎_elim}
use Rattle.std.specs.Prelude.{IsSomeAnd}
use Rattle.std.specs.Option.{option_map_or}
use Rattle.std.proofs.lemmas.List.Elements.{All-contains, Contains-append_left, Contains-append_right, Contains-append_cases}
use Rattle.t_base.specs.declared.basics.Var.{Var}
use Rattle.word_ir.specs.declared.placed.Home.TheVariants as home
use Rattle.word_ir.specs.declared.words.WordBlock.{WordBlock}
use Rattle.word_ir.specs.declared.words.WordOp.{WordOp}
use Rattle.word_ir.specs.declared.words.WordEnd.{WordEnd}
use Rattle.word_ir.specs.declared.words.Words.{Words}
use Rattle.word_ir.specs.Word.{Word, Number}
use Rattle.word_ir.specs.Lines.{Line, Op, Last, op_binds, exits_of}
use Rattle.word_ir.specs.State.{Setting, Keeper, Own, At, keeper_of, Env, State, hold, hold_all, is_in_frame}
use Rattle.word_ir.specs.Effects.{Effect, Binds, Stores, Takes, SetsTop, Puts, Turns, Enters, Ends}
use Rattle.word_ir.specs.Step.{changed}
use Rattle.word_ir.specs.Whole.{open_blocks, taken_blocks, end_jumps, jumps_of, jumped_blocks, vars_at, Includes, IsScopedFrom, HasScopes, HasShapes}
use Rattle.word_scopes.specs.Ahead.{lines_behind, lines_ahead, EntersShort}
use Rattle.word_scopes.proofs.Reading.{Stands, from_start, in_program}
use Rattle.word_scopes.proofs.Given.{IsKept, HasKey, hold_keeps, hold_has, hold_all_has}
use Rattle.word_scopes.proofs.Taken.{HoldsTaken}
use Rattle.word_scopes.proofs.Followed.{BindsOne, OpFollows, EntersBlock, EndFollows}

-- ---- what a change of variables leaves

-- at the same line, with the same newest word of the stack
pub record SamePlace (s t : State) : Type 0 where
  pub block : t.block ≡ s.block
  pub place : t.place ≡ s.place
  pub top : t.top ≡ s.top

pub hold_stays : (s : State) (k : Keeper) (x : Word) → SamePlace s (hold s k x)
hold_stays s (Own v) x = record { block = refl; place = refl; top = refl }
hold_stays s (At (home.D i)) x = record { block = refl; place = refl; top = refl }
hold_stays s (At (home.A i)) x = record { block = refl; place = refl; top = refl }
hold_stays s (At (home.Stack n)) x = record { block = refl; place = refl; top = refl }
hold_stays s (At (home.Static p)) x = record { block = refl; place = refl; top = refl }

pub hold_all_top : (s : State) (env : Env Word) → (hold_all s env).top ≡ s.top
hold_all_top s [] = refl
hold_all_top s (b ∷ env) = hold_all_top (hold s b.0 b.1) env ∙ (hold_stays s b.0 b.1).top

-- a line behind a place
pub next_lines : (words : Words) (s t : State) (o : WordOp) (h : Stands words s.block s.place (Op o)) → t.block ≡ s.block → t.place ≡ s.place + 1 → lines_ahead words t.block t.place ≡ h.rest
next_lines words s t o h e f = ap (λ (b : ℕ). lines_ahead words b t.place) e ∙ ap (λ (k : ℕ). lines_ahead words s.block k) f ∙ h.next o refl

-- ---- scopes

-- A scope fits the lines ahead, and its variables are kept, but for those that are kept in the stack.
pub record InScope (m : Setting) (sees : List (List Var)) (s : State) : Type 0 where
  pub scope : List Var
  pub fits : IsScopedFrom sees scope (lines_ahead m.words s.block s.place)
  pub kept : (v : Var) → Contains scope v → is_in_frame (keeper_of m.homes v) ≡ false → IsKept s.env (keeper_of m.homes v)

one_of : (w v : Var) (k : ℕ) → k < 1 → get_or (w ∷ []) k v ≡ v → w ≡ v
one_of w v zero lt e = e
one_of w v (suc k) lt e = absurd (omega arith)

module _ (m : Setting) (w : HasScopes m.words) (shapes : HasShapes m.words) where
  -- a block starts with what it sees
  fits_start : (b : ℕ) → IsScopedFrom w.sees (vars_at w.sees b) (lines_ahead m.words b 0)
  fits_start b = by (slice_get m.words.blocks.items b) refl
    where
      by : (o : Option WordBlock) → slice_get m.words.blocks.items b ≡ o → IsScopedFrom w.sees (vars_at w.sees b) (lines_ahead m.words b 0)
      by None e = subst (λ l. IsScopedFrom w.sees (vars_at w.sees b) l) (sym (ap (λ o. option_map_or (lines_behind 0) o []) e)) tt
      by (Some block) e = subst (λ l. IsScopedFrom w.sees (vars_at w.sees b) l) (sym (from_start m.words b block e)) (w.used b block e)

  -- a block that is entered isn't open
  is_closed : (s : State) (e : WordEnd) (b : ℕ) → Stands m.words s.block s.place (Last e) → Contains (end_jumps e) b ⊎ Contains (taken_blocks m.words) b → Contains (open_blocks m.words) b → ⊥
  is_closed s e b at (inl c) =
      All-contains (λ k. Contains (open_blocks m.words) k → ⊥) (m.words.entry ∷ jumped_blocks m.words ++ taken_blocks m.words) b shapes.only_opened
      (Contains-append_left (m.words.entry ∷ jumped_blocks m.words) (taken_blocks m.words) b (Contains-append_right (m.words.entry ∷ []) (jumped_blocks m.words) b (in_program jumps_of m.words s.block s.place (Last e) b at c)))
  is_closed s e b at (inr c) =
      All-contains (λ k. Contains (open_blocks m.words) k → ⊥) (m.words.entry ∷ jumped_blocks m.words ++ taken_blocks m.words) b shapes.only_opened
      (Contains-append_right (m.words.entry ∷ jumped_blocks m.words) (taken_blocks m.words) b c)

  pub start_scope : (s : State) → s.block ≡ m.words.entry → s.place ≡ 0 → InScope m w.sees s
  start_scope s eb ek = record {
    scope = vars_at w.sees m.words.entry;
    fits = subst (λ l. IsScopedFrom w.sees (vars_at w.sees m.words.entry) l) (sym (ap (λ (b : ℕ). lines_ahead m.words b s.place) eb ∙ ap (λ (k : ℕ). lines_ahead m.words m.words.entry k) ek)) (fits_start m.words.entry);
    kept = λ v c o. absurd (by (slice_get m.words.blocks.items m.words.entry) refl shapes.entry v c);
  }
    where
      by : (o : Option WordBlock) → slice_get m.words.blocks.items m.words.entry ≡ o → IsSomeAnd o (λ block. block.params ≡ []) → (v : Var) → Contains (vars_at w.sees m.words.entry) v → ⊥
      by None e h v c = h
      by (Some block) e h v c =
          let closed = All-contains (λ k. Contains (open_blocks m.words) k → ⊥) (m.words.entry ∷ jumped_blocks m.words ++ taken_blocks m.words) m.words.entry shapes.only_opened (0, omega arith, refl) in
          let none : Contains [] v = subst (λ l. Contains l v) (w.params m.words.entry block e closed ∙ h) c in
          omega (arith, none.1)

  module _ (s : State) (holds : HoldsTaken m s) (scoped : InScope m w.sees s) where
    -- a variable is bound, or none
    next_scope : (t : State) (o : WordOp) (at : Stands m.words s.block s.place (Op o)) → t.block ≡ s.block → t.place ≡ s.place + 1
        → ((v : Var) → Contains (op_binds o) v → is_in_frame (keeper_of m.homes v) ≡ false → IsKept t.env (keeper_of m.homes v)) → ((k : Keeper) → IsKept s.env k → IsKept t.env k) → InScope m w.sees t
    next_scope t o at eb ek new old =
        let fits : IsScopedFrom w.sees scoped.scope (Op o ∷ at.rest) = subst (λ l. IsScopedFrom w.sees scoped.scope l) at.here scoped.fits in
        record {
          scope = op_binds o ++ scoped.scope;
          fits = subst (λ l. IsScopedFrom w.sees (op_binds o ++ scoped.scope) l) (sym (next_lines m.words s t o at eb ek)) fits.2;
          kept = λ v c out. ⊎_elim (λ d. new v d out) (λ d. old (keeper_of m.homes v) (scoped.kept v d out)) (Contains-append_cases (op_binds o) scoped.scope v c);
        }

    none_scope : (t : State) (o : WordOp) (at : Stands m.words s.block s.place (Op o)) → t.block ≡ s.block → t.place ≡ s.place + 1 → op_binds o ≡ [] → t.env ≡ s.env → InScope m w.sees t
    none_scope t o at eb ek binds env =
        next_scope t o at eb ek (λ v c out. absurd (let none : Contains [] v = subst (λ l. Contains l v) binds c in omega (arith, none.1)))
        (λ k h. subst (λ (x : Env Word). IsKept x k) (sym env) h)

    -- an open block sees no more than what is seen where it is named
    turned_scope : (t : State) (line : Line) (at : Stands m.words s.block s.place line) (b : ℕ) → Contains (exits_of line) b → t.block ≡ b → t.place ≡ 0 → t.env ≡ s.env → InScope m w.sees t
    turned_scope t line at b named eb ek env =
        let fits : IsScopedFrom w.sees scoped.scope (line ∷ at.rest) = subst (λ l. IsScopedFrom w.sees scoped.scope l) at.here scoped.fits in
        let includes : Includes scoped.scope (vars_at w.sees b) = All-contains (λ k. Includes scoped.scope (vars_at w.sees k)) (exits_of line) b fits.1 named in
        record {
          scope = vars_at w.sees b;
          fits = subst (λ l. IsScopedFrom w.sees (vars_at w.sees b) l) (sym (ap (λ (k : ℕ). lines_ahead m.words k t.place) eb ∙ ap (λ (k : ℕ). lines_ahead m.words b k) ek)) (fits_start b);
          kept = λ v c out. subst (λ (x : Env Word). IsKept x (keeper_of m.homes v)) (sym env) (scoped.kept v (All-contains (Contains scoped.scope) (vars_at w.sees b) v includes c) out);
        }

    entered_scope : (e : WordEnd) (b : ℕ) (env : Env Word) → Stands m.words s.block s.place (Last e) → EntersBlock m s e b env → EntersShort m s ⊎ InScope m w.sees (changed s (Enters b env))
    entered_scope e b env at h = by h.brought
      where
        by : EntersShort m s ⊎ ((v : Var) → Contains h.target.params v → HasKey env (keeper_of m.homes v)) → EntersShort m s ⊎ InScope m w.sees (changed s (Enters b env))
        by (inl short) = inl short
        by (inr all) =
            inr (record {
              scope = vars_at w.sees b;
              fits = fits_start b;
              kept = λ v c out.
                  let d : Contains h.target.params v = subst (λ l. Contains l v) (w.params b h.target h.found (is_closed s e b at h.named)) c in
                  hold_all_has (record s { env = [] }) env (keeper_of m.homes v) out (all v d);
            })

    bound_scope : (to : Keeper) (x : Word) (t : State) (o : WordOp) (at : Stands m.words s.block s.place (Op o)) → BindsOne m o to → t.block ≡ (hold s to x).block → t.place ≡ (hold s to x).place + 1 → t.env ≡ (hold s to x).env
        → InScope m w.sees t
    bound_scope to x t o at h eb ek env =
        let same = hold_stays s to x in
        next_scope t o at (eb ∙ same.block) (ek ∙ ap (λ (k : ℕ). k + 1) same.place)
        (λ v c out.
        let one : Contains (h.var ∷ []) v = subst (λ l. Contains l v) h.binds c in
        let is : keeper_of m.homes v ≡ to = ap (λ (u : Var). keeper_of m.homes u) (sym (one_of h.var v one.0 one.1 one.2)) ∙ h.at in
        let free : is_in_frame to ≡ false = ap is_in_frame (sym is) ∙ out in
        subst (λ (y : Env Word). IsKept y (keeper_of m.homes v)) (sym env) (subst (λ (k : Keeper). IsKept (hold s to x).env k) (sym is) (hold_has s to x free)))
        (λ k had. subst (λ (y : Env Word). IsKept y k) (sym env) (hold_keeps s to x k had))

    pub op_scope : (o : WordOp) (at : Stands m.words s.block s.place (Op o)) (e : Effect) → OpFollows m s o e → InScope m w.sees (changed s e)
    op_scope o at (Binds to x) h = bound_scope to x _ o at h refl refl refl
    op_scope o at (Takes to bytes) h = bound_scope to (Number s.next) _ o at h refl refl refl
    op_scope o at (Stores a x) h = none_scope _ o at refl refl h.binds refl
    op_scope o at (Puts bytes) h = none_scope _ o at refl refl h.binds refl
    op_scope o at (SetsTop top) h = none_scope _ o at refl refl h.binds refl
    op_scope o at (Turns b) h = turned_scope _ (Op o) at b h refl refl refl
    op_scope o at (Enters b env) h = absurd h
    op_scope o at (Ends e) h = record { scope = scoped.scope; fits = scoped.fits; kept = scoped.kept }

    pub end_scope : (e : WordEnd) (at : Stands m.words s.block s.place (Last e)) (f : Effect) → EndFollows m s e f → EntersShort m s ⊎ InScope m w.sees (changed s f)
    end_scope e at (Binds to x) h = absurd h
    end_scope e at (Takes to bytes) h = absurd h
    end_scope e at (Stores a x) h = absurd h
    end_scope e at (Puts bytes) h = absurd h
    end_scope e at (SetsTop top) h = absurd h
    end_scope e at (Turns b) h = inr (turned_scope _ (Last e) at b h refl refl refl)
    end_scope e at (Enters b env) h = entered_scope e b env at h
    end_scope e at (Ends d) h = inr (record { scope = scoped.scope; fits = scoped.fits; kept = scoped.kept })

  -- the same line, with the same variables
  pub same_scope : (s t : State) → t.block ≡ s.block → t.place ≡ s.place → t.env ≡ s.env → InScope m w.sees s → InScope m w.sees t
  same_scope s t eb ek env h = record {
    scope = h.scope;
    fits = subst (λ l. IsScopedFrom w.sees h.scope l) (sym (ap (λ (b : ℕ). lines_ahead m.words b t.place) eb ∙ ap (λ (k : ℕ). lines_ahead m.words s.block k) ek)) h.fits;
    kept = λ v c out. subst (λ (x : Env Word). IsKept x (keeper_of m.homes v)) (sym env) (h.kept v c out);
  }
