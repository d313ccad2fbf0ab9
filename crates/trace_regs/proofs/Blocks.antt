-- The lines of a block from a place on, and the open blocks that they name.
use Rattle.std.proofs.Common.{◌≡◌, ℕ, zero, suc, ◌+◌, ◌<◌, List, [], ◌∷◌, length, get_or, slice_get, drop, Option, Some, None, Contains, option_map, refl, sym, ap, subst, ◌∙◌, arith}
use Rattle.std.specs.List.{flat_map}
use Rattle.std.specs.Option.{option_map_or}
use Rattle.std.proofs.lemmas.List.Elements.{Contains-append_left, Contains-append_right}
use Rattle.std.proofs.lemmas.Option.{slice_get_within, get_or_from_slice_get}
use Rattle.t_base.specs.declared.basics.Var.{Var}
use Rattle.word_ir.specs.declared.placed.Home.{Home}
use Rattle.word_ir.specs.declared.words.WordOp.{WordOp}
use Rattle.word_ir.specs.declared.words.WordEnd.{WordEnd}
use Rattle.word_ir.specs.declared.words.WordBlock.{WordBlock}
use Rattle.word_ir.specs.declared.words.Words.{Words}
use Rattle.word_ir.specs.Lines.{Line, Op, Last, line_in, line_at, lines_from, lines_of, exits_of}
use Rattle.word_ir.specs.Whole.{open_blocks}
use Rattle.word_ir.specs.WholePlaced.{depth_behind, IsLodgedFrom}

-- ---- the lines from a place on

abbrev pub lines_behind : ℕ → WordBlock → List Line
lines_behind k block = lines_from (drop k block.ops.items) block.last

-- a line stands at a place, and these lines behind it
pub record Stands (ops : List WordOp) (end : WordEnd) (k : ℕ) (line : Line) : Type 0 where
  pub rest : List Line
  pub here : lines_from (drop k ops) end ≡ line ∷ rest
  pub next : (o : WordOp) → line ≡ Op o → lines_from (drop (k + 1) ops) end ≡ rest

no_op : {A : Type 0} (end : WordEnd) (line : Line) (o : WordOp) → Last end ≡ line → line ≡ Op o → A
no_op end line o e q = cc

pub stands : (ops : List WordOp) (end : WordEnd) (k : ℕ) (line : Line) → option_map_or Op (slice_get ops k) (Last end) ≡ line → Stands ops end k line
stands [] end zero line e = record { rest = []; here = ap (λ l. l ∷ []) e; next = λ o q. no_op end line o e q }
stands [] end (suc k) line e = record { rest = []; here = ap (λ l. l ∷ []) e; next = λ o q. no_op end line o e q }
stands (o ∷ ops) end zero line e = record { rest = lines_from ops end; here = ap (λ l. l ∷ lines_from ops end) e; next = λ p q. refl }
stands (o ∷ ops) end (suc k) line e =
    let s = stands ops end k line e in
    record { rest = s.rest; here = s.here; next = λ p q. ap (λ (n : ℕ). lines_from (drop n (o ∷ ops)) end) (let x : suc k + 1 ≡ suc (k + 1) = omega arith in x) ∙ s.next p q }

pub line_found : (words : Words) (b k : ℕ) (line : Line) → line_at words b k ≡ Some line → (block : WordBlock) × (slice_get words.blocks.items b ≡ Some block) × (line_in block k ≡ line)
line_found words b k line e = by (slice_get words.blocks.items b) refl e
  where
    by : (o : Option WordBlock) → slice_get words.blocks.items b ≡ o → option_map (λ (x : WordBlock). line_in x k) o ≡ Some line
        → (block : WordBlock) × (slice_get words.blocks.items b ≡ Some block) × (line_in block k ≡ line)
    by None q e = absurd (cc)
    by (Some x) q e = let same : line_in x k ≡ line = cc in (x, q, same)

pub lodged_behind : (lists : List (List Var)) (depths : List ℕ) (homes : List Home) (depth : ℕ) (ops : List WordOp) (end : WordEnd) (k : ℕ)
    → IsLodgedFrom lists depths homes depth (lines_from ops end) → (d : ℕ) × IsLodgedFrom lists depths homes d (lines_from (drop k ops) end)
lodged_behind lists depths homes depth [] end zero h = (depth, h)
lodged_behind lists depths homes depth [] end (suc k) h = (depth, h)
lodged_behind lists depths homes depth (o ∷ ops) end zero h = (depth, h)
lodged_behind lists depths homes depth (o ∷ ops) end (suc k) h = lodged_behind lists depths homes (depth_behind depth (Op o)) ops end k h.2

contains_behind : (ops : List WordOp) (end : WordEnd) (k : ℕ) (line : Line) → Contains (lines_from (drop k ops) end) line → Contains (lines_from ops end) line
contains_behind [] end zero line c = c
contains_behind [] end (suc k) line c = c
contains_behind (o ∷ ops) end zero line c = c
contains_behind (o ∷ ops) end (suc k) line c = let r = contains_behind ops end k line c in let lt : r.0 < length (lines_from ops end) = r.1 in (suc r.0, omega arith, r.2)

-- ---- what is named

contains_part : {X Y : Type 0} (f : X → List Y) (xs : List X) (x : X) (y : Y) (k : ℕ) → k < length xs → get_or xs k x ≡ x → Contains (f x) y → Contains (flat_map f xs) y
contains_part f [] x y k lt e c = absurd (omega arith)
contains_part f (z ∷ xs) x y zero lt e c = Contains-append_left (f z) (flat_map f xs) y (subst (λ w. Contains (f w) y) (sym e) c)
contains_part f (z ∷ xs) x y (suc k) lt e c = Contains-append_right (f z) (flat_map f xs) y (contains_part f xs x y k (omega arith) e c)

pub contains_flat : {X Y : Type 0} (f : X → List Y) (xs : List X) (x : X) (y : Y) → Contains xs x → Contains (f x) y → Contains (flat_map f xs) y
contains_flat f xs x y c d = contains_part f xs x y c.0 c.1 c.2 d

pub contains_at : {X : Type 0} (xs : List X) (i : ℕ) (x : X) → slice_get xs i ≡ Some x → Contains xs x
contains_at xs i x e = (i, slice_get_within xs i x e, get_or_from_slice_get xs i x x e)

-- a block that a line names is open
pub opened_by : (words : Words) (b k c : ℕ) (block : WordBlock) (line : Line) → slice_get words.blocks.items b ≡ Some block → Stands block.ops.items block.last k line → Contains (exits_of line) c → Contains (open_blocks words) c
opened_by words b k c block line found s named =
    let there : Contains (lines_from (drop k block.ops.items) block.last) line = subst (λ l. Contains l line) (sym s.here) (0, omega arith, refl) in
    contains_flat (λ (x : WordBlock). flat_map exits_of (lines_of x)) words.blocks.items block c (contains_at words.blocks.items b block found)
    (contains_flat exits_of (lines_of block) line c (contains_behind block.ops.items block.last k line there) named)
