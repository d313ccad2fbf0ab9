-- A copy of a whole program with more static words is whole.
use Rattle.std.proofs.Common.{◌≡◌, ◌≢◌, ℕ, zero, suc, ◌+◌, ◌<◌, ◌≤◌, List, [], ◌∷◌, ◌++◌, length, replicate, slice_get, Some, option_map, All, AllPairs, Contains, refl, sym, ap, subst, ◌∙◌, arith, length-append}
use Rattle.std.specs.Prelude.{IsSomeAnd}
use Rattle.std.specs.List.{AllByRecursion, flat_map}
use Rattle.std.proofs.lemmas.Grind.{flat_map-append}
use Rattle.std.proofs.lemmas.List.Elements.{All-cons, All-head, All-tail, All-weaker}
use Rattle.t_base.specs.declared.basics.Var.{Var}
use Rattle.t_base.specs.declared.shared_parts.Const.{Const}
use Rattle.t_base.specs.declared.shared_parts.Const.TheVariants as constant
use Rattle.t_base.specs.declared.shared_parts.Shared.{Shared}
use Rattle.t_base.specs.SharedParts.{IsCopyOf}
use Rattle.t_prim.specs.SharedParts.{IsConst, IsNameText, HasLowerParts, IsWholeShared}
use Rattle.word_ir.specs.declared.operands.Operand.{Operand}
use Rattle.word_ir.specs.declared.operands.Operand.TheVariants as operand
use Rattle.word_ir.specs.declared.words.StaticWord.{StaticWord}
use Rattle.word_ir.specs.declared.words.StaticWord.TheVariants as first
use Rattle.word_ir.specs.declared.words.WordEnd.TheVariants as last
use Rattle.word_ir.specs.declared.words.WordBlock.{WordBlock}
use Rattle.word_ir.specs.declared.words.Words.{Words}
use Rattle.word_ir.specs.Lines.{Line, Op, Last, lines_of, operands_of, uses_of, exits_of, codes_of, statics_of, binds_of}
use Rattle.word_ir.specs.Copies.{IsCopyOfBlock, AreCopies, IsCopyOf as IsCopyOfWords}
use Rattle.word_ir.specs.Whole.{each_line, open_blocks, static_code, taken_blocks, jumps_of, jumped_blocks, static_place, named_statics, IsOperand, IsStatic, IsLineThere, most_statics, HasPlaces, vars_at, IsScopedFrom, binders_in, binders, HasScopes, IsShaped, most_entered, HasShapes, IsWhole}
use Rattle.word_ir.proofs.CopiesWeigh.{by_copies, lines_same}

-- ---- lists of copies

copies_length : (xs ys : List WordBlock) → AreCopies xs ys → length ys ≡ length xs
copies_length [] [] h = refl
copies_length [] (y ∷ ys) h = absurd h
copies_length (x ∷ xs) [] h = absurd h
copies_length (x ∷ xs) (y ∷ ys) h = ap suc (copies_length xs ys h.1)

-- what is named in the lines
pub lines_name : {X : Type 0} (f : Line → List X) (xs ys : List WordBlock) → AreCopies xs ys → flat_map (λ (b : WordBlock). flat_map f (lines_of b)) ys ≡ flat_map (λ (b : WordBlock). flat_map f (lines_of b)) xs
lines_name f [] [] h = refl
lines_name f [] (y ∷ ys) h = absurd h
lines_name f (x ∷ xs) [] h = absurd h
lines_name f (x ∷ xs) (y ∷ ys) h =
    ap (λ (ls : List Line). flat_map f ls ++ flat_map (λ (b : WordBlock). flat_map f (lines_of b)) ys) (lines_same x y h.0) ∙ ap (λ l. flat_map f (lines_of x) ++ l) (lines_name f xs ys h.1)

copies_bind : (xs ys : List WordBlock) → AreCopies xs ys → flat_map binders_in ys ≡ flat_map binders_in xs
copies_bind [] [] h = refl
copies_bind [] (y ∷ ys) h = absurd h
copies_bind (x ∷ xs) [] h = absurd h
copies_bind (x ∷ xs) (y ∷ ys) h =
    let block : binders_in y ≡ binders_in x = ap (λ (ls : List Line). y.params ++ flat_map binds_of ls) (lines_same x y h.0) ∙ ap (λ (ps : List Var). ps ++ flat_map binds_of (lines_of x)) h.0.params in
    ap (λ l. l ++ flat_map binders_in ys) block ∙ ap (λ l. binders_in x ++ l) (copies_bind xs ys h.1)

-- what holds of all lines
all_lines : (P Q : Line → Type 0) (xs ys : List WordBlock) → ((line : Line) → P line → Q line) → AreCopies xs ys → All (λ (b : WordBlock). All P (lines_of b)) xs → All (λ (b : WordBlock). All Q (lines_of b)) ys
all_lines P Q [] [] f h g = λ k d lt. absurd (omega arith)
all_lines P Q [] (y ∷ ys) f h g = absurd h
all_lines P Q (x ∷ xs) [] f h g = absurd h
all_lines P Q (x ∷ xs) (y ∷ ys) f h g =
    All-cons (λ (b : WordBlock). All Q (lines_of b)) y ys
    (subst (λ (ls : List Line). All Q ls) (sym (lines_same x y h.0)) (All-weaker P Q f (lines_of x) (All-head (λ (b : WordBlock). All P (lines_of b)) x xs g)))
    (all_lines P Q xs ys f h.1 (All-tail (λ (b : WordBlock). All P (lines_of b)) x xs g))

weaker : {X : Type 0} (P Q : X → Type 0) (xs : List X) → ((x : X) → P x → Q x) → AllByRecursion P xs → AllByRecursion Q xs
weaker P Q [] f h = tt
weaker P Q (x ∷ xs) f h = (f x h.0, weaker P Q xs f h.1)

and_more : {X : Type 0} (P : X → Type 0) (xs ys : List X) → AllByRecursion P xs → AllByRecursion P ys → AllByRecursion P (xs ++ ys)
and_more P [] ys h k = k
and_more P (x ∷ xs) ys h k = (h.0, and_more P xs ys h.1 k)

replicated : {X : Type 0} (P : X → Type 0) (n : ℕ) (x : X) → P x → AllByRecursion P (replicate n x)
replicated P zero x h = tt
replicated P (suc n) x h = (h, replicated P n x h)

none_named : {X : Type 0} (f : StaticWord → List X) (n : ℕ) → f (first.Word 0) ≡ [] → flat_map f (replicate n (first.Word 0)) ≡ []
none_named f zero e = refl
none_named f (suc n) e = ap (λ l. l ++ flat_map f (replicate n (first.Word 0))) e ∙ none_named f n e

append_none : {X : Type 0} (xs : List X) → xs ++ [] ≡ xs
append_none [] = refl
append_none (x ∷ xs) = ap (λ l. x ∷ l) (append_none xs)

-- ---- shared parts

const_copy : (old new : Shared) (x : Const) → IsCopyOf old new → IsConst old x → IsConst new x
const_copy old new (constant.Fix n) h c = c
const_copy old new (constant.Char n) h c = c
const_copy old new constant.Nil h c = c
const_copy old new constant.True h c = c
const_copy old new (constant.Sym n) h c = let e = ap length h.names in subst (λ (l : ℕ). n.0 < l) (sym e) c
const_copy old new (constant.Str s) h c = let e = ap length h.strings in subst (λ (l : ℕ). s < l) (sym e) c
const_copy old new (constant.Pair k) h c = let e = ap length h.pairs in subst (λ (l : ℕ). k < l) (sym e) c

pub shared_copy : (old new : Shared) → IsCopyOf old new → IsWholeShared old → IsWholeShared new
shared_copy old new h w =
    let count : length new.names ≡ length old.names = ap length h.names in
    record {
      names = subst (λ (l : List (List ℕ)). All IsNameText l) (sym h.names) w.names;
      distinct = subst (λ (l : List (List ℕ)). AllPairs (λ a b. a ≢ b) l) (sym h.names) w.distinct;
      strings = subst (λ l. All (λ bytes. All (λ b. b < 128) bytes) l) (sym h.strings) w.strings;
      pairs = subst (λ (l : List (Const × Const)). All (λ p. IsConst new p.0 × IsConst new p.1) l) (sym h.pairs)
          (All-weaker (λ (p : Const × Const). IsConst old p.0 × IsConst old p.1) (λ (p : Const × Const). IsConst new p.0 × IsConst new p.1)
          (λ p c. (const_copy old new p.0 h c.0, const_copy old new p.1 h c.1)) old.pairs.items w.pairs);
      lower = subst (λ (l : List (Const × Const)). HasLowerParts l) (sym h.pairs) w.lower;
      globals = subst (λ (n : ℕ). All (λ g. g.name.0 < n) new.globals.items) (sym count) (subst (λ l. All (λ g. g.name.0 < length old.names) l) (sym h.globals) w.globals);
      ops = subst (λ (n : ℕ). All (λ o. o.name.0 < n) new.ops.items) (sym count) (subst (λ l. All (λ o. o.name.0 < length old.names) l) (sym h.ops) w.ops);
      builtins = λ o lt. ap (λ l. option_map (λ info. info.default) (slice_get l o)) h.ops ∙ w.builtins o lt;
    }

-- ---- the program

-- the second program has so many static words more, and is the first one otherwise
pub record IsLonger (old new : Words) (more : ℕ) : Type 0 where
  pub shared : IsCopyOf old.shared new.shared
  pub statics : new.statics.items ≡ old.statics.items ++ replicate more (first.Word 0)
  pub blocks : AreCopies old.blocks.items new.blocks.items
  pub entry : new.entry ≡ old.entry

module _ (old new : Words) (more : ℕ) (h : IsLonger old new more) where
  blocks_count : length new.blocks.items ≡ length old.blocks.items
  blocks_count = copies_length old.blocks.items new.blocks.items h.blocks

  pub statics_count : length new.statics.items ≡ length old.statics.items + more
  statics_count =
      let n = length-append old.statics.items (replicate more (first.Word 0)) in
      let r : length (replicate more (first.Word 0)) ≡ more = replicate_long more in
      let e : length new.statics.items ≡ length (old.statics.items ++ replicate more (first.Word 0)) = ap length h.statics in
      omega (arith, n, r, e)
    where
      replicate_long : (n : ℕ) → length (replicate n (first.Word 0)) ≡ n
      replicate_long zero = refl
      replicate_long (suc n) = ap suc (replicate_long n)

  pub binders_same : binders new ≡ binders old
  binders_same = copies_bind old.blocks.items new.blocks.items h.blocks

  pub opened_same : open_blocks new ≡ open_blocks old
  opened_same = lines_name exits_of old.blocks.items new.blocks.items h.blocks

  jumped_same : jumped_blocks new ≡ jumped_blocks old
  jumped_same = lines_name jumps_of old.blocks.items new.blocks.items h.blocks

  statics_name : {X : Type 0} (f : StaticWord → List X) → f (first.Word 0) ≡ [] → flat_map f new.statics.items ≡ flat_map f old.statics.items
  statics_name f e =
      ap (flat_map f) h.statics ∙ flat_map-append f old.statics.items (replicate more (first.Word 0)) ∙ ap (λ l. flat_map f old.statics.items ++ l) (none_named f more e)
      ∙ append_none (flat_map f old.statics.items)

  taken_same : taken_blocks new ≡ taken_blocks old
  taken_same = ap (λ l. l ++ each_line codes_of new) (statics_name static_code refl) ∙ ap (λ l. flat_map static_code old.statics.items ++ l) (lines_name codes_of old.blocks.items new.blocks.items h.blocks)

  pub named_same : named_statics new ≡ named_statics old
  named_same = ap (λ l. l ++ each_line statics_of new) (statics_name static_place refl) ∙ ap (λ l. flat_map static_place old.statics.items ++ l) (lines_name statics_of old.blocks.items new.blocks.items h.blocks)

  operand_there : (x : Operand) → IsOperand old x → IsOperand new x
  operand_there (operand.Word n) k = k
  operand_there (operand.Static p) k = omega (arith, k, statics_count)
  operand_there (operand.Code b) k = omega (arith, k, blocks_count)
  operand_there (operand.Slot n) k = k
  operand_there (operand.Var v) k = tt

  static_there : (w : StaticWord) → IsStatic old w → IsStatic new w
  static_there (first.Word n) k = k
  static_there (first.Static p) k = omega (arith, k, statics_count)
  static_there (first.Code b) k = omega (arith, k, blocks_count)

  below : (numbers : List ℕ) → All (λ b. b < length old.blocks.items) numbers → All (λ b. b < length new.blocks.items) numbers
  below numbers k = subst (λ (n : ℕ). All (λ b. b < n) numbers) (sym blocks_count) k

  has_places : HasPlaces old → length old.statics.items + more ≤ most_statics → HasPlaces new
  has_places w few = record {
    entry = let e : new.entry ≡ old.entry = h.entry in let lt : old.entry < length old.blocks.items = w.entry in omega (arith, e, lt, blocks_count);
    lines = all_lines (IsLineThere old) (IsLineThere new) old.blocks.items new.blocks.items (λ line k. (weaker (IsOperand old) (IsOperand new) (operands_of line) operand_there k.0, k.1)) h.blocks w.lines;
    statics = subst (λ (l : List StaticWord). AllByRecursion (IsStatic new) l) (sym h.statics)
        (and_more (IsStatic new) old.statics.items (replicate more (first.Word 0)) (weaker (IsStatic old) (IsStatic new) old.statics.items static_there w.statics)
        (replicated (IsStatic new) more (first.Word 0) (omega arith)));
    few = omega (arith, few, statics_count);
    opened = subst (λ (l : List ℕ). All (λ b. b < length new.blocks.items) l) (sym opened_same) (below (open_blocks old) w.opened);
    jumped = subst (λ (l : List ℕ). All (λ b. b < length new.blocks.items) l) (sym jumped_same) (below (jumped_blocks old) w.jumped);
  }

  -- a block of the second program, and the one of the first
  record Pair (b : ℕ) (block : WordBlock) : Type 0 where
    before : WordBlock
    found : slice_get old.blocks.items b ≡ Some before
    copy : IsCopyOfBlock before block

  pair : (b : ℕ) (block : WordBlock) → slice_get new.blocks.items b ≡ Some block → Pair b block
  pair b block e =
      by_copies (λ o p. slice_get old.blocks.items b ≡ o → p ≡ Some block → Pair b block) old.blocks.items new.blocks.items b h.blocks (λ f q. absurd (cc))
      (λ x y c there q. let same : y ≡ block = cc in record { before = x; found = there; copy = subst (λ (z : WordBlock). IsCopyOfBlock x z) same c }) refl e

  -- what holds of the block with a number
  pub some_copy : (P : WordBlock → Type 0) (b : ℕ) → ((x y : WordBlock) → IsCopyOfBlock x y → P x → P y) → IsSomeAnd (slice_get old.blocks.items b) P → IsSomeAnd (slice_get new.blocks.items b) P
  some_copy P b f k =
      by_copies (λ o p. IsSomeAnd o P → IsSomeAnd p P) old.blocks.items new.blocks.items b h.blocks (λ z. z) (λ x y c z. f x y c z) k

  has_scopes : HasScopes old → HasScopes new
  has_scopes w = record {
    bound_once = subst (λ (l : List Var). AllPairs (λ v w. v ≢ w) l) (sym binders_same) w.bound_once;
    bound = subst (λ (l : List Var). All (Contains l) (each_line uses_of new)) (sym binders_same)
        (subst (λ (l : List Var). All (Contains (binders old)) l) (sym (lines_name uses_of old.blocks.items new.blocks.items h.blocks)) w.bound);
    sees = w.sees;
    params = λ b block e closed.
        let p = pair b block e in
        w.params b p.before p.found (λ c. closed (subst (λ (l : List ℕ). Contains l b) (sym opened_same) c)) ∙ sym (p.copy).params;
    used = λ b block e. let p = pair b block e in subst (λ (ls : List Line). IsScopedFrom w.sees (vars_at w.sees b) ls) (sym (lines_same p.before block p.copy)) (w.used b p.before p.found);
  }

  no_params : (b : ℕ) → IsSomeAnd (slice_get old.blocks.items b) (λ (block : WordBlock). block.params ≡ []) → IsSomeAnd (slice_get new.blocks.items b) (λ (block : WordBlock). block.params ≡ [])
  no_params b k = some_copy (λ (block : WordBlock). block.params ≡ []) b (λ x y c z. c.params ∙ z) k

  few_params : (b : ℕ) → IsSomeAnd (slice_get old.blocks.items b) (λ (block : WordBlock). length block.params ≤ most_entered) → IsSomeAnd (slice_get new.blocks.items b) (λ (block : WordBlock). length block.params ≤ most_entered)
  few_params b k = some_copy (λ (block : WordBlock). length block.params ≤ most_entered) b (λ x y c z. subst (λ (l : List Var). length l ≤ most_entered) (sym c.params) z) k

  shaped : (line : Line) → IsShaped old line → IsShaped new line
  shaped (Op o) k = k
  shaped (Last (last.Jump block args)) k = some_copy (λ (target : WordBlock). length args ≡ length target.params) block (λ x y c z. z ∙ ap length (sym c.params)) k
  shaped (Last (last.Enter code args)) k = k
  shaped (Last (last.Test kind a b at_true at_false)) k = tt
  shaped (Last last.Stop) k = tt

  has_shapes : HasShapes old → HasShapes new
  has_shapes w = record {
    lines = all_lines (IsShaped old) (IsShaped new) old.blocks.items new.blocks.items shaped h.blocks w.lines;
    opened = subst (λ (l : List ℕ). All (λ b. IsSomeAnd (slice_get new.blocks.items b) (λ (block : WordBlock). block.params ≡ [])) l) (sym opened_same)
        (All-weaker (λ b. IsSomeAnd (slice_get old.blocks.items b) (λ (block : WordBlock). block.params ≡ [])) (λ b. IsSomeAnd (slice_get new.blocks.items b) (λ (block : WordBlock). block.params ≡ [])) no_params (open_blocks old) w.opened);
    only_opened =
        let names : new.entry ∷ jumped_blocks new ++ taken_blocks new ≡ old.entry ∷ jumped_blocks old ++ taken_blocks old =
        ap (λ (e : ℕ). e ∷ jumped_blocks new ++ taken_blocks new) h.entry ∙ ap (λ (l : List ℕ). old.entry ∷ l ++ taken_blocks new) jumped_same ∙ ap (λ (l : List ℕ). old.entry ∷ jumped_blocks old ++ l) taken_same in
        subst (λ (l : List ℕ). All (λ b. Contains (open_blocks new) b → ⊥) l) (sym names)
        (subst (λ (l : List ℕ). All (λ b. Contains l b → ⊥) (old.entry ∷ jumped_blocks old ++ taken_blocks old)) (sym opened_same) w.only_opened);
    taken = subst (λ (l : List ℕ). All (λ b. IsSomeAnd (slice_get new.blocks.items b) (λ (block : WordBlock). length block.params ≤ most_entered)) l) (sym taken_same)
        (All-weaker (λ b. IsSomeAnd (slice_get old.blocks.items b) (λ (block : WordBlock). length block.params ≤ most_entered)) (λ b. IsSomeAnd (slice_get new.blocks.items b) (λ (block : WordBlock). length block.params ≤ most_entered)) few_params (taken_blocks old) w.taken);
    entry = subst (λ (e : ℕ). IsSomeAnd (slice_get new.blocks.items e) (λ (block : WordBlock). block.params ≡ [])) (sym h.entry) (no_params old.entry w.entry);
  }

  pub longer_whole : IsWhole old → length old.statics.items + more ≤ most_statics → IsWhole new
  longer_whole w few = record { places = has_places w.places few; scopes = has_scopes w.scopes; shapes = has_shapes w.shapes; shared = shared_copy old.shared new.shared h.shared w.shared }

-- a copy of a whole program is whole
pub copy_whole : (old new : Words) → IsCopyOfWords old new → IsWhole old → IsWhole new
copy_whole old new h w =
    let few : length old.statics.items ≤ most_statics = w.places.few in
    longer_whole old new 0 (record { shared = h.shared; statics = h.statics ∙ sym (append_none old.statics.items); blocks = h.blocks; entry = h.entry }) w (omega (arith, few))
