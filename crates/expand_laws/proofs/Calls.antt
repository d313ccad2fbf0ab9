-- The table ends on calls whose operator and operands it ends on, and adds a node or two for each of them.
use Rattle.std.proofs.Common.{◌≡◌, ℕ, ◌+◌, ◌==◌, List, [], ◌∷◌, map, length, Option, Some, None, refl, arith}
use Rattle.t_base.specs.declared.basics.Span.{Span}
use Rattle.t_base.specs.declared.builtins.Builtin.{Builtin}
use Rattle.t_base.specs.declared.builtins.Builtin.TheVariants as Builtins
use Rattle.t_prim.specs.Table.{arity_of}
use Rattle.t_reader.specs.Grammar.{Value}
use Rattle.t_forms.specs.Data.{builtin, listing, Datum, atom, listed, a_number, a_builtin, word_of}
use Rattle.t_forms.specs.Names.{Meaning, the_builtin, the_listing, Scope}
use Rattle.t_rows.specs.Rows.{node, primitive, plain, call_node, fold_row, builtin_row, minus_row, builtin_call, list_row, call_meant, meant, call_row}
use Rattle.expand_laws.proofs.Reached.{HasBuiltinOps, HasMadeValues}
use Rattle.expand_laws.proofs.Worths.{worth, worths}
use Rattle.expand_laws.proofs.Always.{Within, AllAlways, RowWithin, more, row_more, no_more_parts, another, node_of, leaf, always, row_same, all_ops, other_form, either_row, plain_parts}
use Rattle.expand_laws.proofs.Atoms.{nil_within}

call_node_ends : (right : Value → Type 0) (k : ℕ) (f : Datum) (ds : List Datum) → Within right k f → AllAlways right ds → RowWithin right (1 + k + worths ds) (call_node f ds)
call_node_ends right k f ds hf h = node_of tt (another hf (plain_parts right ds h)) (omega arith)

builtin_row_ends : (right : Value → Type 0) (k : ℕ) (f : Datum) (p : Builtin) (ds : List Datum) → Within right k f → AllAlways right ds
    → RowWithin right (1 + k + worths ds) (builtin_row f p ds)
builtin_row_ends right k f p ds hf h =
    either_row right (1 + k + worths ds) (length ds == arity_of p) (node (primitive p) [] (map plain ds)) (call_node f ds) (node_of tt (plain_parts right ds h) (omega arith))
    (call_node_ends right k f ds hf h)

zero_within : {right : Value → Type 0} → HasMadeValues right → (s : Span) → Within right 1 (a_number s 0)
zero_within {right} m s = always right 1 (a_number s 0) tt (λ scope. leaf m.zero_right (omega arith))

one_within : {right : Value → Type 0} → HasMadeValues right → (s : Span) → Within right 1 (a_number s 1)
one_within {right} m s = always right 1 (a_number s 1) tt (λ scope. leaf m.one_right (omega arith))

minus_ends : {right : Value → Type 0} → HasMadeValues right → (k : ℕ) (s : Span) (f : Datum) (ds : List Datum) → Within right k f → AllAlways right ds
    → RowWithin right (2 + k + worths ds) (minus_row s f ds)
minus_ends {right} m k s f [] hf h = row_more right (1 + k + worths []) (2 + k + worths []) (builtin_row f Builtins.Sub []) (builtin_row_ends right k f Builtins.Sub [] hf h) (omega arith)
minus_ends m k s f (a ∷ []) hf h = node_of tt (another (zero_within m s) (another h.0 no_more_parts)) (omega arith)
minus_ends {right} m k s f (a ∷ b ∷ others) hf h =
    row_more right (1 + k + worths (a ∷ b ∷ others)) (2 + k + worths (a ∷ b ∷ others)) (builtin_row f Builtins.Sub (a ∷ b ∷ others))
    (builtin_row_ends right k f Builtins.Sub (a ∷ b ∷ others) hf h) (omega arith)

-- ---- sums and products

-- the builtin folds its operands
abbrev IsFold : Builtin → ℕ → Type 0
IsFold p unit_ = (s : Span) (f : Datum) (ds : List Datum) → builtin_call s f ds p ≡ fold_row s p unit_ ds

fold_form : (right : Value → Type 0) (n : ℕ) (s : Span) (p : Builtin) (unit_ : ℕ) (ds : List Datum) → IsFold p unit_ → HasBuiltinOps (listed s ds)
    → RowWithin right n (fold_row s p unit_ ds) → Within right n (listed s (a_builtin s p ∷ ds))
fold_form right n s p unit_ ds is ops h =
    other_form right n s (a_builtin s p) ds refl (tt, ops)
    (λ scope. row_same right n (builtin_call s (a_builtin s p) ds p) (fold_row s p unit_ ds) (is s (a_builtin s p) ds) h)

folded : (right : Value → Type 0) (j k : ℕ) (s : Span) (p : Builtin) (unit_ : ℕ) (others : List Datum) (a b : Datum) → IsFold p unit_ → Within right j a → Within right k b
    → AllAlways right others → RowWithin right (1 + j + k + worths others) (fold_row s p unit_ (a ∷ b ∷ others))
folded right j k s p unit_ [] a b is ha hb h = node_of tt (another ha (another hb no_more_parts)) (omega arith)
folded right j k s p unit_ (c ∷ others) a b is ha hb h =
    let first : Within right (1 + j + k) (listed s (a_builtin s p ∷ a ∷ b ∷ [])) =
    fold_form right (1 + j + k) s p unit_ (a ∷ b ∷ []) is (ha.ops, (hb.ops, tt)) (node_of tt (another ha (another hb no_more_parts)) (omega arith)) in
    more (1 + j + k + worths (c ∷ others))
    (fold_form right (1 + (1 + j + k) + worth c + worths others) s p unit_ (listed s (a_builtin s p ∷ a ∷ b ∷ []) ∷ c ∷ others) is (first.ops, all_ops right s (c ∷ others) h)
    (folded right (1 + j + k) (worth c) s p unit_ others (listed s (a_builtin s p ∷ a ∷ b ∷ [])) c is first h.0 h.1)) (omega arith)

fold_ends : (right : Value → Type 0) (s : Span) (p : Builtin) (unit_ : ℕ) (ds : List Datum) → IsFold p unit_ → Within right 1 (a_number s unit_) → AllAlways right ds
    → RowWithin right (2 + worths ds) (fold_row s p unit_ ds)
fold_ends right s p unit_ [] is u h = more (2 + worths []) u (omega arith)
fold_ends right s p unit_ (a ∷ []) is u h = node_of tt (another u (another h.0 no_more_parts)) (omega arith)
fold_ends right s p unit_ (a ∷ b ∷ others) is u h =
    row_more right (1 + worth a + worth b + worths others) (2 + worths (a ∷ b ∷ others)) (fold_row s p unit_ (a ∷ b ∷ others))
    (folded right (worth a) (worth b) s p unit_ others a b is h.0 h.1.0 h.1.1) (omega arith)

folds_end : (right : Value → Type 0) (k : ℕ) (s : Span) (p : Builtin) (unit_ : ℕ) (ds : List Datum) → IsFold p unit_ → Within right 1 (a_number s unit_) → AllAlways right ds
    → RowWithin right (2 + k + worths ds) (fold_row s p unit_ ds)
folds_end right k s p unit_ ds is u h = row_more right (2 + worths ds) (2 + k + worths ds) (fold_row s p unit_ ds) (fold_ends right s p unit_ ds is u h) (omega arith)

builtin_call_ends : {right : Value → Type 0} → HasMadeValues right → (k : ℕ) (s : Span) (f : Datum) (ds : List Datum) (p : Builtin) → Within right k f → AllAlways right ds
    → RowWithin right (2 + k + worths ds) (builtin_call s f ds p)
builtin_call_ends {right} m k s f ds Builtins.Add hf h = folds_end right k s Builtins.Add 0 ds (λ t g es. refl) (zero_within m s) h
builtin_call_ends {right} m k s f ds Builtins.Mul hf h = folds_end right k s Builtins.Mul 1 ds (λ t g es. refl) (one_within m s) h
builtin_call_ends m k s f ds Builtins.Sub hf h = minus_ends m k s f ds hf h
builtin_call_ends {right} m k s f ds p hf h =
    row_more right (1 + k + worths ds) (2 + k + worths ds) (builtin_row f p ds) (builtin_row_ends right k f p ds hf h) (omega arith)

-- ---- lists

list_ends : {right : Value → Type 0} → HasMadeValues right → (s : Span) (ds : List Datum) → AllAlways right ds → RowWithin right (1 + worths ds) (list_row s ds)
list_ends m s [] h = more (1 + worths []) (nil_within m s) (omega arith)
list_ends {right} m s (a ∷ others) h =
    let rest : Within right (1 + worths others) (listed s (atom s listing ∷ others)) =
    other_form right (1 + worths others) s (atom s listing) others refl (tt, all_ops right s others h.1) (λ scope. list_ends m s others h.1) in
    node_of tt (another h.0 (another rest no_more_parts)) (omega arith)

lists_end : {right : Value → Type 0} → HasMadeValues right → (k : ℕ) (s : Span) (ds : List Datum) → AllAlways right ds → RowWithin right (2 + k + worths ds) (list_row s ds)
lists_end {right} m k s ds h = row_more right (1 + worths ds) (2 + k + worths ds) (list_row s ds) (list_ends m s ds h) (omega arith)

-- ---- calls

call_nodes_end : (right : Value → Type 0) (k : ℕ) (f : Datum) (ds : List Datum) → Within right k f → AllAlways right ds → RowWithin right (2 + k + worths ds) (call_node f ds)
call_nodes_end right k f ds hf h = row_more right (1 + k + worths ds) (2 + k + worths ds) (call_node f ds) (call_node_ends right k f ds hf h) (omega arith)

call_meant_ends : {right : Value → Type 0} → HasMadeValues right → (k : ℕ) (s : Span) (f : Datum) (ds : List Datum) (x : Option Meaning) → Within right k f
    → AllAlways right ds → RowWithin right (2 + k + worths ds) (call_meant s f ds x)
call_meant_ends m k s f ds (Some (the_builtin p)) hf h = builtin_call_ends m k s f ds p hf h
call_meant_ends m k s f ds (Some the_listing) hf h = lists_end m k s ds h
call_meant_ends {right} m k s f ds x hf h = call_nodes_end right k f ds hf h

pub call_ends : {right : Value → Type 0} → HasMadeValues right → (k : ℕ) (scope : Scope) (s : Span) (f : Datum) (ds : List Datum) → Within right k f → AllAlways right ds
    → RowWithin right (2 + k + worths ds) (call_row scope s f ds)
call_ends m k scope s (atom t (builtin p)) ds hf h = builtin_call_ends m k s (atom t (builtin p)) ds p hf h
call_ends m k scope s (atom t listing) ds hf h = lists_end m k s ds h
call_ends m k scope s f ds hf h = call_meant_ends m k s f ds (meant scope f) hf h

-- a call whose operator is no reserved word
pub call_form : {right : Value → Type 0} → HasMadeValues right → (k : ℕ) (s : Span) (f : Datum) (ds : List Datum) → word_of f ≡ None → Within right k f → AllAlways right ds
    → Within right (2 + k + worths ds) (listed s (f ∷ ds))
call_form {right} m k s f ds e hf h =
    other_form right (2 + k + worths ds) s f ds e (hf.ops, all_ops right s ds h) (λ scope. call_ends m k scope s f ds hf h)
