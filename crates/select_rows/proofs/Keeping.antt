-- What stays as temporary variables are bound and the static word of meetings is written.
use Rattle.std.proofs.Common.{◌≡◌, ℕ, zero, suc, ◌+◌, ◌<◌, ◌≤◌, List, [], ◌∷◌, length, slice_get, slice_set, Some, None, refl, sym, ap, ◌∙◌, subst, arith, length-append}
use Rattle.std.specs.List.{flat_map}
use Rattle.std.proofs.lemmas.Bool.{ne_eqb, eq-eqb}
use Rattle.std.proofs.lemmas.List.{length-set, set-append_left}
use Rattle.t_prim.specs.Values.{Val}
use Rattle.word_ir.specs.declared.operands.Operand.{Operand}
use Rattle.word_ir.specs.declared.operands.Operand.TheVariants as operand
use Rattle.word_ir.specs.declared.words.Words.{Words}
use Rattle.word_ir.specs.Word.{Word, Number, wrap}
use Rattle.word_ir.specs.Storage.{Sizes, Regions, STACK_START, static_at, long_at, with_long}
use Rattle.word_ir.specs.State.{Setting, Own, kept}
use Rattle.word_ir.specs.Step.{words_in}
use Rattle.word_ir.specs.Stamps.{Stamp}
use Rattle.frame_ir.specs.States.{State}
use Rattle.word_trees.specs.Cores.{Core, word_in, binding, storing}
use Rattle.word_trees.specs.Leads.{MayReach, MayRead}
use Rattle.frame_words.specs.Layouts.{Layout, INNER, PASS}
use Rattle.frame_words.specs.Contents.{Escapes, fixed_contents}
use Rattle.frame_words.specs.Holding.{HoldsData}
use Rattle.frame_words.specs.Growing.{WordsStay}
use Rattle.frame_words.proofs.Reading.{static_long, outside_stack}
use Rattle.select_rows.specs.Kept.{IsOlder, Has, Keeps, Binds}

-- ---- outside of the stack stamps allow all

pub may_reach : (words : Words) (sizes : Sizes) (c : Core) (base : Operand) (address : ℕ) → address < STACK_START → MayReach (words_in words sizes) c base address
may_reach words sizes c (operand.Var v) address lt = record { reached = rw (outside_stack c.storage address lt) refl }
may_reach words sizes c (operand.Word n) address lt = record { reached = rw (outside_stack c.storage address lt) refl }
may_reach words sizes c (operand.Static p) address lt = record { reached = rw (outside_stack c.storage address lt) refl }
may_reach words sizes c (operand.Code b) address lt = record { reached = rw (outside_stack c.storage address lt) refl }
may_reach words sizes c (operand.Slot n) address lt = record { reached = rw (outside_stack c.storage address lt) refl }

pub may_read : (words : Words) (sizes : Sizes) (c : Core) (base : Operand) (address : ℕ) → address < STACK_START → MayRead (words_in words sizes) c base address
may_read words sizes c base address lt = record { reached = may_reach words sizes c base address lt; written = rw (outside_stack c.storage address lt) refl }

-- ---- variables

pub older_kept : {X : Type 0} (env : List (Rattle.word_ir.specs.State.Keeper × X)) (u v : ℕ) (x : X) → v < u → kept ((Own u, x) ∷ env) (Own v) ≡ kept env (Own v)
older_kept env u v x lt = rw (ne_eqb u v (λ e. absurd (omega (arith, lt, e)))) refl

pub newest_kept : {X : Type 0} (env : List (Rattle.word_ir.specs.State.Keeper × X)) (u : ℕ) (x : X) → kept ((Own u, x) ∷ env) (Own u) ≡ Some x
newest_kept env u x = rw (eq-eqb u u refl) refl

pub bound_word : (c : Core) (u : ℕ) (x : Word) (stamp : Stamp) → word_in (binding c (record { 0 = u }) x stamp) (operand.Var (record { 0 = u })) ≡ Some x
bound_word c u x stamp = newest_kept c.env u x

older_word : (c : Core) (t u : ℕ) (x : Word) (stamp : Stamp) (y : Operand) → t ≤ u → IsOlder t y → word_in (binding c (record { 0 = u }) x stamp) y ≡ word_in c y
older_word c t u x stamp (operand.Var v) le o = older_kept c.env u v.0 x (omega (arith, le, o))
older_word c t u x stamp (operand.Word n) le o = refl
older_word c t u x stamp (operand.Static p) le o = refl
older_word c t u x stamp (operand.Code b) le o = refl
older_word c t u x stamp (operand.Slot n) le o = refl

pub has_bound : {l : Layout} {s : State} {t : ℕ} {c : Core} {y : Operand} {v : Val} (u : ℕ) (x : Word) (stamp : Stamp) → t ≤ u → Has l s t c y v → Has l s t (binding c (record { 0 = u }) x stamp) y v
has_bound {l} {s} {t} {c} {y} {v} u x stamp le h = record { number = h.number; is = h.is; held = older_word c t u x stamp y le h.older ∙ h.held; older = h.older }

-- ---- what is kept

pub words_same : (l : Layout) (s : State) → WordsStay l s s
words_same l s = record { values = λ v n e. e; captures = λ v n e. e }

module _ (sizes : Sizes) (l : Layout) (e : Escapes) (t : ℕ) (s : State) where
  pub keeps_same : (c : Core) → HoldsData sizes l e s c.storage c.next c.output → Keeps sizes l e t s s c c
  keeps_same c h = record {
    data_held = h;
    words = words_same l s;
    top = refl;
    stack = refl;
    inner = refl;
    stamps_of_stack = refl;
    live = refl;
    escapes = λ birth p found. refl;
    variables = λ v lt. refl;
    stamps = λ v lt. refl;
  }

  -- nothing but temporary variables
  pub keeps_binds : (c d x : Core) → Keeps sizes l e t s s c d → Binds t d x → Keeps sizes l e t s s c x
  keeps_binds c d x h b = record {
    data_held = subst (λ o. HoldsData sizes l e s x.storage x.next o) (sym b.output) (subst (λ n. HoldsData sizes l e s x.storage n d.output) (sym b.next) (subst (λ m. HoldsData sizes l e s m d.next d.output) (sym b.storage) h.data_held));
    words = h.words;
    top = b.top ∙ h.top;
    stack = ap (λ m. m.stack) b.storage ∙ h.stack;
    inner = ap (λ m. long_at m (static_at INNER)) b.storage ∙ h.inner;
    stamps_of_stack = ap (λ m. m.stack) b.longs ∙ h.stamps_of_stack;
    live = b.live ∙ h.live;
    escapes = λ birth p found. ap (λ m. slice_get m.heap (p + 1)) b.longs ∙ h.escapes birth p found;
    variables = λ v lt. b.variables v lt ∙ h.variables v lt;
    stamps = λ v lt. b.stamps v lt ∙ h.stamps v lt;
  }

pub binds_same : (t : ℕ) (c : Core) → Binds t c c
binds_same t c = record { storage = refl; next = refl; top = refl; output = refl; longs = refl; live = refl; variables = λ v lt. refl; stamps = λ v lt. refl }

pub binds_one : (t : ℕ) (c : Core) (u : ℕ) (x : Word) (stamp : Stamp) → t ≤ u → Binds t c (binding c (record { 0 = u }) x stamp)
binds_one t c u x stamp le = record {
  storage = refl;
  next = refl;
  top = refl;
  output = refl;
  longs = refl;
  live = refl;
  variables = λ v lt. older_kept c.env u v x (omega (arith, le, lt));
  stamps = λ v lt. older_kept c.stamps u v stamp (omega (arith, le, lt));
}

pub binds_then : (t : ℕ) (c d x : Core) → Binds t c d → Binds t d x → Binds t c x
binds_then t c d x h k = record {
  storage = k.storage ∙ h.storage;
  next = k.next ∙ h.next;
  top = k.top ∙ h.top;
  output = k.output ∙ h.output;
  longs = k.longs ∙ h.longs;
  live = k.live ∙ h.live;
  variables = λ v lt. k.variables v lt ∙ h.variables v lt;
  stamps = λ v lt. k.stamps v lt ∙ h.stamps v lt;
}

pub word_binds : (t : ℕ) (c d : Core) (y : Operand) → Binds t c d → IsOlder t y → word_in d y ≡ word_in c y
word_binds t c d (operand.Var v) b o = b.variables v.0 o
word_binds t c d (operand.Word n) b o = refl
word_binds t c d (operand.Static p) b o = refl
word_binds t c d (operand.Code p) b o = refl
word_binds t c d (operand.Slot n) b o = ap (λ top. Some (Number (wrap (top + n)))) b.top

pub has_binds : {l : Layout} {s : State} {t : ℕ} {c d : Core} {y : Operand} {v : Val} → Binds t c d → Has l s t c y v → Has l s t d y v
has_binds {l} {s} {t} {c} {d} {y} {v} b h = record { number = h.number; is = h.is; held = word_binds t c d y b h.older ∙ h.held; older = h.older }

-- ---- the static word of meetings

pub get_set : {X : Type 0} (xs : List X) (i : ℕ) (x : X) → i < length xs → slice_get (slice_set xs i x) i ≡ Some x
get_set [] i x lt = absurd (omega (arith, lt))
get_set (y ∷ xs) zero x lt = refl
get_set (y ∷ xs) (suc i) x lt = get_set xs i x (omega (arith, lt))

pub get_set_other : {X : Type 0} (xs : List X) (i j : ℕ) (x : X) → (i ≡ j → ⊥) → slice_get (slice_set xs i x) j ≡ slice_get xs j
get_set_other [] i j x d = refl
get_set_other (y ∷ xs) zero zero x d = absurd (d refl)
get_set_other (y ∷ xs) zero (suc j) x d = refl
get_set_other (y ∷ xs) (suc i) zero x d = refl
get_set_other (y ∷ xs) (suc i) (suc j) x d = get_set_other xs i j x (λ e. d (ap suc e))

pub get_some : {X : Type 0} (xs : List X) (i : ℕ) → i < length xs → (x : X) × (slice_get xs i ≡ Some x)
get_some [] i lt = absurd (omega (arith, lt))
get_some (y ∷ xs) zero lt = (y, refl)
get_some (y ∷ xs) (suc i) lt = get_some xs i (omega (arith, lt))

abbrev pub passing : Core → ℕ → Core
passing c n = storing c (static_at PASS) (Number n) None

module _ (sizes : Sizes) (l : Layout) (e : Escapes) (s : State) (storage : Regions Word) (next : ℕ) (output : List ℕ) (h : HoldsData sizes l e s storage next output) where
  front_holds : 2 ≤ length h.front
  front_holds = omega (arith, h.front_length)

  many_statics : 2 ≤ length storage.statics
  many_statics = rw h.statics (omega (arith, length-append h.front (flat_map (fixed_contents l s) l.fixed), front_holds))

  pub pass_read : (old : Word) × (long_at storage (static_at PASS) ≡ Some old)
  pass_read = let o = get_some storage.statics 1 (omega (arith, many_statics)) in (o.0, static_long storage 1 (omega arith) ∙ o.1)

  pub pass_found : (x : Word) → long_at (with_long storage (static_at PASS) x) (static_at PASS) ≡ Some x
  pass_found x = static_long (with_long storage (static_at PASS) x) 1 (omega arith) ∙ get_set storage.statics 1 x (omega (arith, many_statics))

  pub pass_holds : (x : Word) → HoldsData sizes l e s (with_long storage (static_at PASS) x) next output
  pass_holds x = record {
    heap = h.heap;
    taken = h.taken;
    next_is = h.next_is;
    room = h.room;
    small = h.small;
    distinct = h.distinct;
    made = h.made;
    pairs_apart = h.pairs_apart;
    laid_out = h.laid_out;
    front = slice_set h.front 1 x;
    front_length = length-set h.front 1 x ∙ h.front_length;
    statics = ap (λ ws. slice_set ws 1 x) h.statics ∙ set-append_left h.front (flat_map (fixed_contents l s) l.fixed) 1 x (omega (arith, front_holds));
    fixed = h.fixed;
    globals = λ g held at. get_set_other h.front 1 (17 + g) x (λ eq. absurd (omega (arith, eq))) ∙ h.globals g held at;
    globals_known = h.globals_known;
    output_is = h.output_is;
  }

-- the word of the innermost escape is another one
pass_apart : (storage : Regions Word) (x : Word) → long_at (with_long storage (static_at PASS) x) (static_at INNER) ≡ long_at storage (static_at INNER)
pass_apart storage x =
    static_long (with_long storage (static_at PASS) x) 0 (omega arith) ∙ get_set_other storage.statics 1 0 x (λ eq. absurd (omega (arith, eq)))
    ∙ sym (static_long storage 0 (omega arith))

pub keeps_pass : (sizes : Sizes) (l : Layout) (e : Escapes) (t : ℕ) (s : State) (c d : Core) (n : ℕ) → Keeps sizes l e t s s c d → Keeps sizes l e t s s c (passing d n)
keeps_pass sizes l e t s c d n h = record {
  data_held = pass_holds sizes l e s d.storage d.next d.output h.data_held (Number n);
  words = h.words;
  top = h.top;
  stack = h.stack;
  inner = pass_apart d.storage (Number n) ∙ h.inner;
  stamps_of_stack = h.stamps_of_stack;
  live = h.live;
  escapes = h.escapes;
  variables = h.variables;
  stamps = h.stamps;
}
