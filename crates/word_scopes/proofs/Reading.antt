-- The lines from a place on, and what they use.
use Rattle.std.proofs.Common.{◌≡◌, ℕ, zero, suc, ◌+◌, ◌<◌, Bool, true, false, not, ◌||◌, List, [], ◌∷◌, ◌++◌, length, get_or, slice_get, drop, filter, Option, Some, None, Contains, option_map, refl, sym, ap, subst, ◌∙◌, arith, ⊎_elim}
use Rattle.std.specs.List.{flat_map, list_any}
use Rattle.std.specs.Option.{option_map_or}
use Rattle.std.proofs.lemmas.Bool.{true≢false}
use Rattle.std.proofs.lemmas.List.Elements.{All-contains, Contains-append_left, Contains-append_right, Contains-append_cases}
use Rattle.std.proofs.lemmas.Option.{slice_get_within, get_or_from_slice_get}
use Rattle.t_base.specs.declared.basics.Var.{Var}
use Rattle.word_ir.specs.declared.words.WordOp.{WordOp}
use Rattle.word_ir.specs.declared.words.WordEnd.{WordEnd}
use Rattle.word_ir.specs.declared.words.WordBlock.{WordBlock}
use Rattle.word_ir.specs.declared.words.Words.{Words}
use Rattle.word_ir.specs.Lines.{Line, Op, Last, line_in, line_at, lines_from, lines_of, uses_of, binds_of, exits_of}
use Rattle.word_ir.specs.Whole.{each_line, vars_at, IsScopedFrom}
use Rattle.word_ir.specs.WholePlaced.{same_var, without, needed}
use Rattle.word_ir.proofs.WholeLemmas.{not_true, own_number}
use Rattle.word_scopes.specs.Ahead.{lines_behind, lines_ahead, used_ahead}

-- ---- lists

contains_part : {X Y : Type 0} (f : X → List Y) (xs : List X) (x : X) (y : Y) (k : ℕ) → k < length xs → get_or xs k x ≡ x → Contains (f x) y → Contains (flat_map f xs) y
contains_part f [] x y k lt e c = absurd (omega arith)
contains_part f (z ∷ xs) x y zero lt e c = Contains-append_left (f z) (flat_map f xs) y (subst (λ w. Contains (f w) y) (sym e) c)
contains_part f (z ∷ xs) x y (suc k) lt e c = Contains-append_right (f z) (flat_map f xs) y (contains_part f xs x y k (omega arith) e c)

pub contains_flat : {X Y : Type 0} (f : X → List Y) (xs : List X) (x : X) (y : Y) → Contains xs x → Contains (f x) y → Contains (flat_map f xs) y
contains_flat f xs x y c d = contains_part f xs x y c.0 c.1 c.2 d

pub contains_at : {X : Type 0} (xs : List X) (i : ℕ) (x : X) → slice_get xs i ≡ Some x → Contains xs x
contains_at xs i x e = (i, slice_get_within xs i x e, get_or_from_slice_get xs i x x e)

-- ---- lines

-- a line stands at a place, and these behind it
pub record Stands (words : Words) (b k : ℕ) (line : Line) : Type 0 where
  pub block : WordBlock
  pub found : slice_get words.blocks.items b ≡ Some block
  pub among : Contains (lines_of block) line
  pub rest : List Line
  pub here : lines_ahead words b k ≡ line ∷ rest
  pub next : (o : WordOp) → line ≡ Op o → lines_ahead words b (k + 1) ≡ rest

-- the same of a block
record StandsIn (ops : List WordOp) (end : WordEnd) (k : ℕ) (line : Line) : Type 0 where
  among : Contains (lines_from ops end) line
  rest : List Line
  here : lines_from (drop k ops) end ≡ line ∷ rest
  next : (o : WordOp) → line ≡ Op o → lines_from (drop (k + 1) ops) end ≡ rest

no_op : {A : Type 0} (end : WordEnd) (line : Line) (o : WordOp) → Last end ≡ line → line ≡ Op o → A
no_op end line o e q = cc

last_in : (end : WordEnd) (k : ℕ) (line : Line) → Last end ≡ line → StandsIn [] end k line
last_in end zero line e = record { among = (0, omega arith, e); rest = []; here = ap (λ l. l ∷ []) e; next = λ o q. no_op end line o e q }
last_in end (suc k) line e = record { among = (0, omega arith, e); rest = []; here = ap (λ l. l ∷ []) e; next = λ o q. no_op end line o e q }

stands_in : (ops : List WordOp) (end : WordEnd) (k : ℕ) (line : Line) → option_map_or Op (slice_get ops k) (Last end) ≡ line → StandsIn ops end k line
stands_in [] end k line e = last_in end k line e
stands_in (o ∷ ops) end zero line e = record { among = (0, omega arith, e); rest = lines_from ops end; here = ap (λ l. l ∷ lines_from ops end) e; next = λ p q. refl }
stands_in (o ∷ ops) end (suc k) line e =
    let s = stands_in ops end k line e in
    let lt : s.among.0 < length (lines_from ops end) = s.among.1 in
    record {
      among = (suc s.among.0, omega arith, s.among.2);
      rest = s.rest;
      here = s.here;
      next = λ p q. ap (λ (n : ℕ). lines_from (drop n (o ∷ ops)) end) (let x : suc k + 1 ≡ suc (k + 1) = omega arith in x) ∙ s.next p q;
    }

pub stands : (words : Words) (b k : ℕ) (line : Line) → line_at words b k ≡ Some line → Stands words b k line
stands words b k line e = by (slice_get words.blocks.items b) refl e
  where
    by : (o : Option WordBlock) → slice_get words.blocks.items b ≡ o → option_map (λ (x : WordBlock). line_in x k) o ≡ Some line → Stands words b k line
    by None q e = absurd (cc)
    by (Some x) q e =
        let same : line_in x k ≡ line = cc in
        let s = stands_in x.ops.items x.last k line same in
        record {
          block = x;
          found = q;
          among = s.among;
          rest = s.rest;
          here = ap (λ o. option_map_or (lines_behind k) o []) q ∙ s.here;
          next = λ o is. ap (λ o. option_map_or (lines_behind (k + 1)) o []) q ∙ s.next o is;
        }

pub from_start : (words : Words) (b : ℕ) (block : WordBlock) → slice_get words.blocks.items b ≡ Some block → lines_ahead words b 0 ≡ lines_of block
from_start words b block e = ap (λ o. option_map_or (lines_behind 0) o []) e

-- what a line names is named in the program
pub in_program : {X : Type 0} (f : Line → List X) (words : Words) (b k : ℕ) (line : Line) (x : X) → Stands words b k line → Contains (f line) x → Contains (each_line f words) x
in_program f words b k line x s c =
    contains_flat (λ (block : WordBlock). flat_map f (lines_of block)) words.blocks.items s.block x (contains_at words.blocks.items b s.block s.found) (contains_flat f (lines_of s.block) line x s.among c)

-- ---- what is used

contains_tail : (w : Var) (some vars : List Var) (v : Var) (k : ℕ) → k < length (w ∷ some) → get_or (w ∷ some) k v ≡ v → (Contains some v → Contains vars v) → Contains (w ∷ vars) v
contains_tail w some vars v zero lt e h = (0, omega arith, e)
contains_tail w some vars v (suc k) lt e h = let c = h (k, omega arith, e) in let low : c.0 < length vars = c.1 in (suc c.0, omega arith, c.2)

passed_tail : (p : Var → Bool) (w : Var) (some : List Var) (v : Var) (k : ℕ) → p w ≡ true → k < length (w ∷ some) → get_or (w ∷ some) k v ≡ v → (Contains some v → p v ≡ true) → p v ≡ true
passed_tail p w some v zero q lt e h = sym (ap p e) ∙ q
passed_tail p w some v (suc k) q lt e h = h (k, omega arith, e)

-- what a filter leaves was there, and passes
filtered : (p : Var → Bool) (vars : List Var) (v : Var) → Contains (filter p vars) v → Contains vars v × (p v ≡ true)
filtered p [] v c = absurd (omega (arith, c.1))
filtered p (w ∷ vars) v c = by (p w) refl (filtered p vars v) c
  where
    by : (b : Bool) → p w ≡ b → (Contains (filter p vars) v → Contains vars v × (p v ≡ true)) → Contains (filter p (w ∷ vars)) v → Contains (w ∷ vars) v × (p v ≡ true)
    by true q h c =
        let same : filter p (w ∷ vars) ≡ w ∷ filter p vars = rw q refl in
        let d = subst (λ l. Contains l v) same c in
        (contains_tail w (filter p vars) vars v d.0 d.1 d.2 (λ x. (h x).0), passed_tail p w (filter p vars) v d.0 q d.1 d.2 (λ x. (h x).1))
    by false q h c =
        let same : filter p (w ∷ vars) ≡ filter p vars = rw q refl in
        let d = h (subst (λ l. Contains l v) same c) in
        let low : d.0.0 < length vars = d.0.1 in
        ((suc d.0.0, omega arith, d.0.2), d.1)

found_any : (vars : List Var) (v : Var) (k : ℕ) → k < length vars → get_or vars k v ≡ v → list_any (same_var v) vars ≡ true
found_any [] v k lt e = absurd (omega arith)
found_any (w ∷ vars) v zero lt e = let same : same_var v w ≡ true = ap (same_var v) e ∙ own_number v.0 in rw same refl
found_any (w ∷ vars) v (suc k) lt e = rw (found_any vars v k (omega arith) e) (or_true (same_var v w))
  where
    or_true : (b : Bool) → (b || true) ≡ true
    or_true true = refl
    or_true false = refl

-- what is left without some variables was there, and is none of them
pub left : (bound vars : List Var) (v : Var) → Contains (without bound vars) v → Contains vars v × (Contains bound v → ⊥)
left bound vars v c =
    let f = filtered (λ w. not (list_any (same_var w) bound)) vars v c in
    (f.0, λ d. true≢false (sym (found_any bound v d.0 d.1 d.2) ∙ not_true (list_any (same_var v) bound) f.1))

-- what lines use is in their scope
pub used_in_scope : (sees : List (List Var)) (scope : List Var) (lines : List Line) → IsScopedFrom sees scope lines → (v : Var) → Contains (used_ahead lines) v → Contains scope v
used_in_scope sees scope [] h v c = absurd (omega (arith, c.1))
used_in_scope sees scope (line ∷ rest) h v c =
    ⊎_elim
    (λ now. All-contains (Contains scope) (uses_of line) v h.0 now)
    (λ later.
    let l = left (binds_of line) (used_ahead rest) v later in
    ⊎_elim (λ bound. absurd (l.1 bound)) (λ here. here) (Contains-append_cases (binds_of line) scope v (used_in_scope sees (binds_of line ++ scope) rest h.2 v l.0)))
    (Contains-append_cases (uses_of line) (without (binds_of line) (used_ahead rest)) v c)

kept_filter : (p : Var → Bool) (vars : List Var) (v : Var) (k : ℕ) → k < length vars → get_or vars k v ≡ v → p v ≡ true → Contains (filter p vars) v
kept_filter p [] v k lt e h = absurd (omega arith)
kept_filter p (w ∷ vars) v zero lt e h = here (p w) refl
  where
    here : (b : Bool) → p w ≡ b → Contains (filter p (w ∷ vars)) v
    here true q = rw q (0, omega arith, e)
    here false q = absurd (true≢false (sym (ap p e ∙ h) ∙ q))
kept_filter p (w ∷ vars) v (suc k) lt e h = there (p w) refl (kept_filter p vars v k (omega arith) e h)
  where
    there : (b : Bool) → p w ≡ b → Contains (filter p vars) v → Contains (filter p (w ∷ vars)) v
    there true q c = let low : c.0 < length (filter p vars) = c.1 in rw q (suc c.0, omega arith, c.2)
    there false q c = rw q c

-- what lines use is needed, whatever the blocks use that they name
pub used_is_needed : (lists : List (List Var)) (lines : List Line) (v : Var) → Contains (used_ahead lines) v → Contains (needed lists lines) v
used_is_needed lists [] v c = c
used_is_needed lists (line ∷ rest) v c =
    let turned : List Var = flat_map (vars_at lists) (exits_of line) in
    let p : Var → Bool = λ w. not (list_any (same_var w) (binds_of line)) in
    ⊎_elim
    (λ now. Contains-append_left (uses_of line ++ turned) (without (binds_of line) (needed lists rest)) v (Contains-append_left (uses_of line) turned v now))
    (λ later.
    let f = filtered p (used_ahead rest) v later in
    let c = used_is_needed lists rest v f.0 in
    Contains-append_right (uses_of line ++ turned) (without (binds_of line) (needed lists rest)) v (kept_filter p (needed lists rest) v c.0 c.1 c.2 f.1))
    (Contains-append_cases (uses_of line) (without (binds_of line) (used_ahead rest)) v c)
