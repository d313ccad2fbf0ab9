-- Calls keep to the bytes of their forms.
use Rattle.std.proofs.Common.{ℕ, ◌+◌, ◌≤◌, ◌==◌, List, [], ◌∷◌, map, length, Option, Some, arith}
use Rattle.t_base.specs.declared.basics.Span.{Span}
use Rattle.t_base.specs.declared.builtins.Builtin.{Builtin}
use Rattle.t_base.specs.declared.builtins.Builtin.TheVariants as Builtins
use Rattle.t_prim.specs.Table.{arity_of}
use Rattle.t_forms.specs.Data.{builtin, listing, Datum, atom}
use Rattle.t_forms.specs.Names.{Meaning, the_builtin, the_listing, Scope}
use Rattle.t_rows.specs.Rows.{node, primitive, plain, call_node, fold_row, builtin_row, minus_row, builtin_call, list_row, call_meant, meant, call_row}
use Rattle.kept_strings.proofs.Bytes.{bytes, all_bytes, bytes_listed}
use Rattle.kept_strings.proofs.RowBytes.{RowKeeps, either_row, plain_bytes}

-- so many bytes in an operator and its operands
abbrev Fit : ℕ → Datum → List Datum → Type 0
Fit n f ds = bytes f + all_bytes ds ≤ n

call_node_keeps : (n : ℕ) (f : Datum) (ds : List Datum) → Fit n f ds → RowKeeps n (call_node f ds)
call_node_keeps n f ds l = let w = plain_bytes ds in omega (arith, w, l)

builtin_row_keeps : (n : ℕ) (f : Datum) (p : Builtin) (ds : List Datum) → Fit n f ds → RowKeeps n (builtin_row f p ds)
builtin_row_keeps n f p ds l =
    let w = plain_bytes ds in
    either_row n (length ds == arity_of p) (node (primitive p) [] (map plain ds)) (call_node f ds) (omega (arith, w, l)) (call_node_keeps n f ds l)

fold_keeps : (n : ℕ) (s : Span) (p : Builtin) (unit_ : ℕ) (f : Datum) (ds : List Datum) → Fit n f ds → RowKeeps n (fold_row s p unit_ ds)
fold_keeps n s p unit_ f [] l = omega arith
fold_keeps n s p unit_ f (a ∷ []) l = omega (arith, l)
fold_keeps n s p unit_ f (a ∷ b ∷ []) l = omega (arith, l)
fold_keeps n s p unit_ f (a ∷ b ∷ c ∷ others) l = let w = bytes_listed s others in omega (arith, w, l)

minus_keeps : (n : ℕ) (s : Span) (f : Datum) (ds : List Datum) → Fit n f ds → RowKeeps n (minus_row s f ds)
minus_keeps n s f [] l = builtin_row_keeps n f Builtins.Sub [] l
minus_keeps n s f (a ∷ []) l = omega (arith, l)
minus_keeps n s f (a ∷ b ∷ others) l = builtin_row_keeps n f Builtins.Sub (a ∷ b ∷ others) l

builtin_call_keeps : (n : ℕ) (s : Span) (f : Datum) (ds : List Datum) (p : Builtin) → Fit n f ds → RowKeeps n (builtin_call s f ds p)
builtin_call_keeps n s f ds Builtins.Add l = fold_keeps n s Builtins.Add 0 f ds l
builtin_call_keeps n s f ds Builtins.Mul l = fold_keeps n s Builtins.Mul 1 f ds l
builtin_call_keeps n s f ds Builtins.Sub l = minus_keeps n s f ds l
builtin_call_keeps n s f ds p l = builtin_row_keeps n f p ds l

list_keeps : (n : ℕ) (s : Span) (f : Datum) (ds : List Datum) → Fit n f ds → RowKeeps n (list_row s ds)
list_keeps n s f [] l = omega arith
list_keeps n s f (a ∷ others) l = let w = bytes_listed s others in omega (arith, w, l)

call_meant_keeps : (n : ℕ) (s : Span) (f : Datum) (ds : List Datum) (x : Option Meaning) → Fit n f ds → RowKeeps n (call_meant s f ds x)
call_meant_keeps n s f ds (Some (the_builtin p)) l = builtin_call_keeps n s f ds p l
call_meant_keeps n s f ds (Some the_listing) l = list_keeps n s f ds l
call_meant_keeps n s f ds x l = call_node_keeps n f ds l

pub call_keeps : (n : ℕ) (scope : Scope) (s : Span) (f : Datum) (ds : List Datum) → Fit n f ds → RowKeeps n (call_row scope s f ds)
call_keeps n scope s (atom t (builtin p)) ds l = builtin_call_keeps n s (atom t (builtin p)) ds p l
call_keeps n scope s (atom t listing) ds l = list_keeps n s (atom t listing) ds l
call_keeps n scope s f ds l = call_meant_keeps n s f ds (meant scope f) l
