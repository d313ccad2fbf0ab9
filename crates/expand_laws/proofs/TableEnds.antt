-- The table of forms ends on every form of a text, and makes of it no more than a multiple of its size. Every row makes its node of smaller
-- data and of a few forms around them, on which the table is followed to their nodes; or it stands for a smaller form, which is fine. What the
-- row adds is paid by what its word, its pairs and the end of its list are worth.
use Rattle.std.proofs.Common.{◌≡◌, ℕ, zero, suc, ◌+◌, ◌*◌, ◌^◌, ◌<◌, ◌≤◌, List, [], ◌∷◌, Option, Some, None, refl, sym, subst, arith}
use Rattle.t_base.specs.declared.basics.Span.{Span}
use Rattle.t_objects.specs.declared.words.Word.{Word}
use Rattle.t_objects.specs.declared.words.Word.TheVariants as word
use Rattle.t_reader.specs.Grammar.{Value, fix, char, nil, truth, string, symbol, Tree, leaf, pair}
use Rattle.t_forms.specs.Data.{Atom, given, variable, builtin, operation, listing, Datum, atom, cons, datum_of, items_of, word_of}
use Rattle.t_forms.specs.Names.{Scope, within}
use Rattle.t_rows.specs.Rows.{Part, Definition, inner_definition, lset_of, define_of, define_operation_of, quote_row, lambda_row, if_row, and_row, or_row, case_row, block_row, let_row, labels_row, iterate_row, set_row, catch_row, object_row, call_row, word_row, operator_row, items_row}
use Rattle.expand_laws.specs.Ends.{Ends, AllEnd, as_form, as_node}
use Rattle.expand_laws.specs.Ends.{no_parts as no_parts_end, one_part as one_part_ends}
use Rattle.expand_laws.proofs.Reached.{IsPure, HasMadeValues, Comes, to_form, to_node, AllCome, no_parts, one_part}
use Rattle.expand_laws.proofs.Costs.{cost}
use Rattle.expand_laws.proofs.Sizes.{size, total, size_some, behind, items_size}
use Rattle.expand_laws.proofs.Fine.{IsHead, IsFine, head_fine, pure_fine, fine_ops, tail_items}
use Rattle.expand_laws.proofs.Worths.{worth, worths, least, tail_worth, items_worth, worth_size, least_worth}
use Rattle.expand_laws.proofs.Always.{Within, RowWithin, more, row_more, refused, always}
use Rattle.expand_laws.proofs.Atoms.{atom_within}
use Rattle.expand_laws.proofs.Calls.{call_ends}
use Rattle.expand_laws.proofs.Blocks.{if_ends, block_ends, and_ends, lambda_ends, catch_ends}
use Rattle.expand_laws.proofs.Lets.{or_ends}
use Rattle.expand_laws.proofs.Below.{Below, AllItems, below_always, items_always}
use Rattle.expand_laws.proofs.LetRows.{let_row_ends, let_star_row_ends, labels_row_ends, iterate_row_ends}
use Rattle.expand_laws.proofs.DoRows.{do_row_ends}
use Rattle.expand_laws.proofs.CondRows.{cond_row_ends}
use Rattle.expand_laws.proofs.CaseRows.{quote_row_ends, case_row_ends}
use Rattle.expand_laws.proofs.SetRows.{set_row_ends, object_row_ends}
use Rattle.expand_laws.proofs.LocativeRows.{locative_row_ends}

-- ---- the rows

definition_ends : (right : Value → Type 0) (n : ℕ) (s : Span) (o : Option Definition) → 1 ≤ n → RowWithin right n (inner_definition s o)
definition_ends right n s None l = refused l
definition_ends right n s (Some d) l = refused l

word_ends : {right : Value → Type 0} → HasMadeValues right → (n : ℕ) (scope : Scope) (s : Span) (ds : List Datum) (w : Word) → Below right n → AllItems right ds
    → 3 + total ds ≤ n → total ds ≤ n → RowWithin right (112 + worths ds) (word_row scope s ds w)
word_ends {right} m n scope s ds word.Quote below h l k = row_more right (1 + worths ds) (112 + worths ds) (quote_row s ds) (quote_row_ends right s ds h) (omega arith)
word_ends m n scope s [] word.Lambda below h l k = refused (omega arith)
word_ends {right} m n scope s (d ∷ ds) word.Lambda below h l k =
    row_more right (2 + worths ds) (112 + worths (d ∷ ds)) (lambda_row s (d ∷ ds)) (lambda_ends right s d ds (items_always right n (d ∷ ds) below h k).1) (omega arith)
word_ends {right} m n scope s ds word.If below h l k = row_more right (2 + worths ds) (112 + worths ds) (if_row s ds) (if_ends m s ds (items_always right n ds below h k)) (omega arith)
word_ends m n scope s ds word.Cond below h l k = cond_row_ends m n s ds below h l
word_ends {right} m n scope s ds word.And below h l k = row_more right (1 + worths ds) (112 + worths ds) (and_row s ds) (and_ends m s ds (items_always right n ds below h k)) (omega arith)
word_ends {right} m n scope s ds word.Or below h l k = row_more right (1 + worths ds) (112 + worths ds) (or_row s ds) (or_ends m s ds (items_always right n ds below h k)) (omega arith)
word_ends {right} m n scope s ds word.Case below h l k =
    row_more right (2 + worths ds) (112 + worths ds) (case_row s ds) (case_row_ends m n s ds below h (items_always right n ds below h k) k) (omega arith)
word_ends {right} m n scope s ds word.Block below h l k =
    row_more right (1 + worths ds) (112 + worths ds) (block_row s ds) (block_ends right s ds (items_always right n ds below h k)) (omega arith)
word_ends {right} m n scope s ds word.Let below h l k = row_more right (2 + worths ds) (112 + worths ds) (let_row s ds) (let_row_ends right n s ds below h k) (omega arith)
word_ends m n scope s ds word.LetStar below h l k = let_star_row_ends m n s ds below h l
word_ends {right} m n scope s ds word.Labels below h l k = row_more right (2 + worths ds) (112 + worths ds) (labels_row s ds) (labels_row_ends right n s ds below h k) (omega arith)
word_ends {right} m n scope s ds word.Iterate below h l k = row_more right (6 + worths ds) (112 + worths ds) (iterate_row s ds) (iterate_row_ends m n s ds below h k) (omega arith)
word_ends m n scope s ds word.Do below h l k = do_row_ends m n s ds below h k
word_ends {right} m n scope s ds word.Set below h l k =
    row_more right (1 + worths ds) (112 + worths ds) (set_row scope s ds) (set_row_ends m n scope s ds below h (items_always right n ds below h k) k) (omega arith)
word_ends {right} m n scope s ds word.Lset below h l k = definition_ends right (112 + worths ds) s (lset_of ds) (omega arith)
word_ends {right} m n scope s ds word.Define below h l k = definition_ends right (112 + worths ds) s (define_of s ds) (omega arith)
word_ends m n scope s [] word.Catch below h l k = refused (omega arith)
word_ends {right} m n scope s (d ∷ ds) word.Catch below h l k =
    row_more right (2 + worths ds) (112 + worths (d ∷ ds)) (catch_row s (d ∷ ds)) (catch_ends right s d ds (items_always right n (d ∷ ds) below h k).1) (omega arith)
word_ends {right} m n scope s ds word.Object below h l k =
    row_more right (1 + worths ds) (112 + worths ds) (object_row scope s ds) (object_row_ends right n scope s ds below h (items_always right n ds below h k) k) (omega arith)
word_ends {right} m n scope s ds word.DefineOperation below h l k = definition_ends right (112 + worths ds) s (define_operation_of s ds) (omega arith)
word_ends {right} m n scope s ds word.Locative below h l k = locative_row_ends m n s ds below h (items_always right n ds below h k) k
word_ends m n scope s ds word.Else below h l k = refused (omega arith)
word_ends m n scope s ds word.Arrow below h l k = refused (omega arith)

-- a reserved word is worth as much as each atom of a text
word_worth : (f : Datum) (w : Word) → word_of f ≡ Some w → worth f ≡ 64
word_worth (atom s (given (fix z))) w e = refl
word_worth (atom s (given (char c))) w e = refl
word_worth (atom s (given nil)) w e = refl
word_worth (atom s (given truth)) w e = refl
word_worth (atom s (given (string text))) w e = refl
word_worth (atom s (given (symbol text))) w e = refl
word_worth (atom s (variable n)) w e = cc
word_worth (atom s (builtin p)) w e = refl
word_worth (atom s (operation o)) w e = refl
word_worth (atom s listing) w e = refl
word_worth (cons s head tail) w e = cc

operator_ends : {right : Value → Type 0} → HasMadeValues right → (n : ℕ) (scope : Scope) (s : Span) (f : Datum) (ds : List Datum) (o : Option Word) → word_of f ≡ o
    → Below right n → IsHead right f → AllItems right ds → 2 + size f + total ds ≤ n → RowWithin right (48 + worth f + worths ds) (operator_row scope s f ds o)
operator_ends {right} m n scope s f ds (Some w) e below hf h l =
    let one = size_some f in
    let k : 3 + total ds ≤ n = omega (arith, l, one) in
    let j : total ds ≤ n = omega (arith, l) in
    let i = word_worth f w e in
    row_more right (112 + worths ds) (48 + worth f + worths ds) (word_row scope s ds w) (word_ends m n scope s ds w below h k j) (omega (arith, i))
operator_ends {right} m n scope s f ds None e below hf h l =
    let k : size f < n = omega (arith, l) in
    let j : total ds ≤ n = omega (arith, l) in
    row_more right (2 + worth f + worths ds) (48 + worth f + worths ds) (call_row scope s f ds)
    (call_ends m (worth f) scope s f ds (below_always right n f below k (head_fine right f hf)) (items_always right n ds below h j)) (omega arith)

-- ---- the forms

-- the items of a fine list
abbrev AreFine : (Value → Type 0) → List Datum → Type 0
AreFine right [] = ⊥
AreFine right (f ∷ ds) = IsHead right f × AllItems right ds

record FineItems (right : Value → Type 0) (k n : ℕ) (ds : List Datum) : Type 0 where
  fine : AreFine right ds
  fit : 1 + total ds ≤ n
  few : 32 + worths ds ≤ k

items_ends : {right : Value → Type 0} → HasMadeValues right → (k n : ℕ) (scope : Scope) (s : Span) (o : Option (List Datum)) → 1 ≤ k → Below right n
    → ((ds : List Datum) → o ≡ Some ds → FineItems right k n ds) → RowWithin right k (items_row scope s o)
items_ends m k n scope s None one below h = refused one
items_ends m k n scope s (Some []) one below h = refused one
items_ends {right} m k n scope s (Some (f ∷ ds)) one below h =
    let i = h (f ∷ ds) refl in
    let long = i.fit in
    let few = i.few in
    let l : 2 + size f + total ds ≤ n = omega (arith, long) in
    row_more right (48 + worth f + worths ds) k (operator_row scope s f ds (word_of f)) (operator_ends m n scope s f ds (word_of f) refl below i.fine.0 i.fine.1 l) (omega (arith, few))

least_atom : (s : Span) (a : Atom) → 1 ≤ least (atom s a)
least_atom s (given v) = omega arith
least_atom s (variable n) = omega arith
least_atom s (builtin p) = omega arith
least_atom s (operation o) = omega arith
least_atom s listing = omega arith

fine_within : {right : Value → Type 0} → HasMadeValues right → (d : Datum) → Below right (size d) → IsFine right d → Within right (least d) d
fine_within m (atom s a) below h = more (least (atom s a)) (atom_within m s a h) (least_atom s a)
fine_within {right} m (cons s head tail) below h =
    always right (least (cons s head tail)) (cons s head tail) (fine_ops right (cons s head tail) h)
    (λ scope. items_ends m (least (cons s head tail)) (size (cons s head tail)) scope s (items_of (cons s head tail)) one below items)
  where
    one : 1 ≤ least (cons s head tail)
    one = let w = tail_worth right tail h.1 in omega (arith, w)

    items : (ds : List Datum) → items_of (cons s head tail) ≡ Some ds → FineItems right (least (cons s head tail)) (size (cons s head tail)) ds
    items ds e =
        let b = behind head tail ds (items_of tail) refl e in
        let z = items_size (cons s head tail) ds e in
        let w = items_worth (cons s head tail) ds e in
        record { fine = subst (AreFine right) (sym b.is) (h.0, tail_items right tail b.others h.1 b.are); fit = omega (arith, z); few = omega (arith, w) }

below_all : {right : Value → Type 0} → HasMadeValues right → (n : ℕ) → Below right n
below_all m zero e l h = absurd (omega (arith, l))
below_all m (suc n) e l h = fine_within m e (λ d k i. below_all m n d (omega (arith, l, k)) i) h

-- the table ends on every fine datum, and makes of it no more than a multiple of its size
pub comes_within : (right : Value → Type 0) → HasMadeValues right → (scope : Scope) → (d : Datum) → IsFine right d → (c : Comes right scope d) × (cost right scope d c ≤ 64 * size d)
comes_within right m scope d h =
    let a : Within right (least d) d = below_all m (suc (size d)) d (omega arith) h in
    let c = a.comes scope in
    let l = c.1 in
    let k = least_worth d in
    let j = worth_size d in
    (c.0, omega (arith, l, k, j))

pub comes_few : (right : Value → Type 0) → HasMadeValues right → (scope : Scope) → (d : Datum) → IsFine right d
    → (c : Comes right scope d) × (cost right scope d c ≤ 2 ^ 30 * size d)
comes_few right m scope d h =
    let c = comes_within right m scope d h in
    let l = c.1 in
    (c.0, omega (arith, l))

pub comes : (right : Value → Type 0) → HasMadeValues right → (scope : Scope) → (d : Datum) → IsFine right d → Comes right scope d
comes right m scope d h = let c = comes_within right m scope d h in c.0

pub comes_pure : (right : Value → Type 0) → HasMadeValues right → (scope : Scope) → (d : Datum) → IsPure right d → Comes right scope d
comes_pure right m scope d h = comes right m scope d (pure_fine right d h)

-- ---- the public law

mutual
  pub comes_ends : (right : Value → Type 0) (scope : Scope) (d : Datum) → Comes right scope d → Ends scope d
  comes_ends right scope d (to_form sc dd e at c) = as_form sc dd e at (comes_ends right sc e c)
  comes_ends right scope d (to_node sc dd shape refusals parts at ops is all) = as_node sc dd shape refusals parts at (all_end right sc parts all)

  pub all_end : (right : Value → Type 0) (scope : Scope) (ps : List Part) → AllCome right scope ps → AllEnd scope ps
  all_end right scope ps (no_parts sc) = no_parts_end sc
  all_end right scope ps (one_part sc p pps c all) = one_part_ends sc p pps (comes_ends right (within sc p.binds) p.form c) (all_end right sc pps all)

abbrev IsAny : Value → Type 0
IsAny v = Unit {0}

tree_pure : (t : Tree) → IsPure IsAny (datum_of t)
tree_pure (leaf s v) = tt
tree_pure (pair s head tail) = (tree_pure head, tree_pure tail)

pub table_ends : (scope : Scope) (t : Tree) → Ends scope (datum_of t)
table_ends scope t =
    comes_ends IsAny scope (datum_of t)
    (comes_pure IsAny (record { nil_right = tt; truth_right = tt; zero_right = tt; one_right = tt }) scope (datum_of t) (tree_pure t))
