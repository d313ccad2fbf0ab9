-- Closures at the head of operations.
use Rattle.std.proofs.Common.{◌≡◌, ℕ, suc, ◌+◌, ◌<◌, ◌≤◌, true, false, List, [], ◌∷◌, length, drop, get_or, refl, sym, ap, ◌∙◌, subst, arith}
use Rattle.frame_ir.specs.declared.forms.FrameOp.{FrameOp}
use Rattle.frame_ir.specs.declared.forms.FrameOp.TheVariants as Op
use Rattle.frame_ir.specs.Groups.{Making, makings}
use Rattle.word_trees.specs.Trees.{Tree}
use Rattle.word_drafts.specs.declared.drafts.Draft.{Draft}
use Rattle.word_drafts.specs.Drafts.{SpellsNext, Writes}
use Rattle.frame_ir.specs.declared.forms.Place.{Place}
use Rattle.t_base.specs.declared.basics.Var.{Var}
use Rattle.frame_heap.specs.Codes.{words_at, group_words}
use Rattle.heap_drafts.specs.Groups.{is_closure, IsGroup, Lacks, WritesMaking, Advances}
use Rattle.heap_drafts.proofs.Remaining.{drop_one, nothing_left}

one_more : (op : FrameOp) (ops : List FrameOp) (n : ℕ) → is_closure op ≡ true → IsGroup ops n → IsGroup (op ∷ ops) (suc n)
one_more (Op.Closure to code kept at) ops n is g =
    record { few = omega (arith, g.few); group = ap (λ ms. record { to = to; code = code; kept = kept; at = at } ∷ ms) g.group; behind = g.behind }
one_more (Op.Prim to p args) ops n is g = cc
one_more (Op.ClosureGet to from slot) ops n is g = cc
one_more (Op.FrameGet to slot) ops n is g = cc
one_more (Op.Cell to value) ops n is g = cc
one_more (Op.CellGet to cell) ops n is g = cc
one_more (Op.CellSet cell value) ops n is g = cc
one_more (Op.GlobalGet to global) ops n is g = cc
one_more (Op.GlobalPut global value first) ops n is g = cc
one_more (Op.Push kept back) ops n is g = cc
one_more Op.Pop ops n is g = cc
one_more (Op.CatchOpen to back) ops n is g = cc
one_more Op.CatchClose ops n is g = cc
one_more (Op.Object to template proc kept) ops n is g = cc

no_more : (op : FrameOp) (ops : List FrameOp) → is_closure op ≡ false → IsGroup (op ∷ ops) 0
no_more (Op.Closure to code kept at) ops is = cc
no_more (Op.Prim to p args) ops is = record { few = omega arith; group = refl; behind = refl }
no_more (Op.ClosureGet to from slot) ops is = record { few = omega arith; group = refl; behind = refl }
no_more (Op.FrameGet to slot) ops is = record { few = omega arith; group = refl; behind = refl }
no_more (Op.Cell to value) ops is = record { few = omega arith; group = refl; behind = refl }
no_more (Op.CellGet to cell) ops is = record { few = omega arith; group = refl; behind = refl }
no_more (Op.CellSet cell value) ops is = record { few = omega arith; group = refl; behind = refl }
no_more (Op.GlobalGet to global) ops is = record { few = omega arith; group = refl; behind = refl }
no_more (Op.GlobalPut global value first) ops is = record { few = omega arith; group = refl; behind = refl }
no_more (Op.Push kept back) ops is = record { few = omega arith; group = refl; behind = refl }
no_more Op.Pop ops is = record { few = omega arith; group = refl; behind = refl }
no_more (Op.CatchOpen to back) ops is = record { few = omega arith; group = refl; behind = refl }
no_more Op.CatchClose ops is = record { few = omega arith; group = refl; behind = refl }
no_more (Op.Object to template proc kept) ops is = record { few = omega arith; group = refl; behind = refl }

pub group_empty : (ops : List FrameOp) (n : ℕ) → ops ≡ [] → IsGroup ops 0
group_empty ops n is = subst (λ xs. IsGroup xs 0) (sym is) (record { few = omega arith; group = refl; behind = refl })

-- what a group behind the first operations says of all of them
abbrev pub GroupsFrom : List FrameOp → ℕ → Type 0
GroupsFrom ops i = (n : ℕ) → IsGroup (drop i ops) n → IsGroup ops (i + n)

pub groups_next : (ops : List FrameOp) (i : ℕ) (op : FrameOp) → op ≡ get_or ops i op → i < length ops → is_closure op ≡ true → GroupsFrom ops i → GroupsFrom ops (i + 1)
groups_next ops i op at lt is h n g =
    let next : drop i ops ≡ op ∷ drop (i + 1) ops = drop_one ops i op at lt in
    let same : i + suc n ≡ i + 1 + n = omega arith in
    subst (IsGroup ops) same (h (suc n) (subst (λ xs. IsGroup xs (suc n)) (sym next) (one_more op (drop (i + 1) ops) n is g)))

pub groups_end : (ops : List FrameOp) (i : ℕ) (op : FrameOp) → op ≡ get_or ops i op → i < length ops → is_closure op ≡ false → GroupsFrom ops i → IsGroup ops i
groups_end ops i op at lt is h =
    let next : drop i ops ≡ op ∷ drop (i + 1) ops = drop_one ops i op at lt in
    let same : i + 0 ≡ i = omega arith in
    subst (IsGroup ops) same (h 0 (subst (λ xs. IsGroup xs 0) (sym next) (no_more op (drop (i + 1) ops) is)))

pub groups_all : (ops : List FrameOp) (i : ℕ) → i ≡ length ops → GroupsFrom ops i → IsGroup ops (length ops)
groups_all ops i is h =
    let same : i + 0 ≡ length ops = omega (arith, is) in
    subst (IsGroup ops) same (h 0 (group_empty (drop i ops) 0 (nothing_left ops i (omega (arith, is)))))

-- ---- what is written for each

pub lacks_all : (whole : Tree → Tree) (a : Draft) → Lacks whole whole a a
lacks_all whole a = record { proper = λ p. p; extends = λ words x. x; spells = λ words rest x s. s }

pub lacks_less : (whole part step less : Tree → Tree) (a b c : Draft) → ((rest : Tree) → part rest ≡ step (less rest)) → Lacks whole part a b → Writes step b c → Lacks whole less a c
lacks_less whole part step less a b c is h w = record {
  proper = λ p. w.proper (h.proper p);
  extends = λ words x. h.extends words (w.extends words x);
  spells = λ words rest x s. h.spells words rest (w.extends words x) (subst (SpellsNext words b) (sym (is rest)) (w.spells words (less rest) x s));
}

pub lacks_none : (whole part : Tree → Tree) (a b : Draft) → ((rest : Tree) → part rest ≡ rest) → Lacks whole part a b → Writes whole a b
lacks_none whole part a b is h = record { proper = h.proper; extends = h.extends; spells = λ words rest x s. h.spells words rest x (subst (SpellsNext words b) (sym (is rest)) s) }

abbrev making_of : Var → ℕ → List Var → Place → Making
making_of to code kept at = record { to = to; code = code; kept = kept; at = at }

pub advances : (op : FrameOp) (to : Var) (code : ℕ) (kept : List Var) (at : Place) (place next : ℕ) → op ≡ Op.Closure to code kept at → next ≡ place + words_at at (length kept) → Advances op place next
advances op to code kept at place next is adds = subst (λ o. Advances o place next) (sym is) (record { making = making_of to code kept at; is = λ ops. refl; adds = adds })

pub writes_making : (write : Making → Tree → Tree) (op : FrameOp) (to : Var) (code : ℕ) (kept : List Var) (at : Place) (place next : ℕ) (old new : Draft) → op ≡ Op.Closure to code kept at
    → next ≡ place + words_at at (length kept) → Writes (write (record { to = to; code = code; kept = kept; at = at })) old new → WritesMaking write op place next old new
writes_making write op to code kept at place next old new is adds w =
    subst (λ o. WritesMaking write o place next old new) (sym is) (record { making = making_of to code kept at; is = λ ops. refl; adds = adds; writes = w })

-- ---- a group from its first closure to its last one

pub words_next : (group : List FrameOp) (i words next whole : ℕ) (op : FrameOp) → op ≡ get_or group i op → i < length group → Advances op words next → words + group_words (makings (drop i group)) ≡ whole
    → next + group_words (makings (drop (i + 1) group)) ≡ whole
words_next group i words next whole op at lt a is =
    let rest : group_words (makings (drop i group)) ≡ words_at a.making.at (length a.making.kept) + group_words (makings (drop (i + 1) group)) =
    ap (λ xs. group_words (makings xs)) (drop_one group i op at lt) ∙ ap group_words (a.is (drop (i + 1) group)) in
    omega (arith, rest, a.adds, is)

pub words_end : (group : List FrameOp) (i words whole : ℕ) → length group ≤ i → words + group_words (makings (drop i group)) ≡ whole → words ≡ whole
words_end group i words whole le is =
    let none : group_words (makings (drop i group)) ≡ 0 = ap (λ xs. group_words (makings xs)) (nothing_left group i le) in
    omega (arith, none, is)

module _ (run : ℕ → List Making → Tree → Tree) (write : ℕ → Making → Tree → Tree) (none : (p : ℕ) (rest : Tree) → run p [] rest ≡ rest)
    (more : (p : ℕ) (m : Making) (ms : List Making) (rest : Tree) → run p (m ∷ ms) rest ≡ write p m (run (p + words_at m.at (length m.kept)) ms rest)) where
  pub lacks_next : (whole : Tree → Tree) (group : List FrameOp) (i place next : ℕ) (op : FrameOp) (a b c : Draft) → op ≡ get_or group i op → i < length group
      → Lacks whole (run place (makings (drop i group))) a b → WritesMaking (write place) op place next b c → Lacks whole (run next (makings (drop (i + 1) group))) a c
  lacks_next whole group i place next op a b c at lt h w =
      lacks_less whole (run place (makings (drop i group))) (write place w.making) (run next (makings (drop (i + 1) group))) a b c
      (λ rest. ap (λ xs. run place (makings xs) rest) (drop_one group i op at lt) ∙ (ap (λ ms. run place ms rest) (w.is (drop (i + 1) group))
      ∙ (more place w.making (makings (drop (i + 1) group)) rest ∙ ap (λ n. write place w.making (run n (makings (drop (i + 1) group)) rest)) (sym w.adds))))
      h w.writes

  pub lacks_end : (whole : Tree → Tree) (group : List FrameOp) (i place : ℕ) (a b : Draft) → length group ≤ i → Lacks whole (run place (makings (drop i group))) a b → Writes whole a b
  lacks_end whole group i place a b le h =
      lacks_none whole (run place (makings (drop i group))) a b (λ rest. ap (λ xs. run place (makings xs) rest) (nothing_left group i le) ∙ none place rest) h
