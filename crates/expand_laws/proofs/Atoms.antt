-- Atoms end the table, in one node.
use Rattle.std.proofs.Common.{ℕ, ◌<◌, arith}
use Rattle.t_base.specs.declared.basics.Span.{Span}
use Rattle.t_base.specs.declared.builtins.Builtin.{Builtin}
use Rattle.t_reader.specs.Grammar.{Value, fix, char, nil, truth, string, symbol}
use Rattle.t_forms.specs.declared.arena.New.{New}
use Rattle.t_forms.specs.Data.{Atom, given, variable, builtin, operation, listing, atom, a_nil, a_true, a_variable, a_builtin, an_operation, made, name_of}
use Rattle.t_forms.specs.Names.{Meaning, a_local, a_global, an_op, the_builtin, the_operation, the_truth, the_listing, none, Scope, meaning}
use Rattle.t_rows.specs.Rows.{name_row, atom_row}
use Rattle.expand_laws.proofs.Reached.{HasMadeValues}
use Rattle.expand_laws.proofs.Always.{Within, Always, RowWithin, always, formed, leaf, refused}
use Rattle.expand_laws.proofs.Fine.{IsFineAtom, fine_ops}

pub nil_within : {right : Value → Type 0} → HasMadeValues right → (s : Span) → Within right 1 (a_nil s)
nil_within {right} m s = always right 1 (a_nil s) tt (λ scope. leaf m.nil_right (omega arith))

pub truth_within : {right : Value → Type 0} → HasMadeValues right → (s : Span) → Within right 1 (a_true s)
truth_within {right} m s = always right 1 (a_true s) tt (λ scope. leaf m.truth_right (omega arith))

name_ends : {right : Value → Type 0} → HasMadeValues right → (s : Span) (x : Meaning) → RowWithin right 1 (name_row s x)
name_ends m s (a_local v) = leaf tt (omega arith)
name_ends m s (a_global g assigned) = leaf tt (omega arith)
name_ends m s (an_op o) = leaf tt (omega arith)
name_ends m s (the_builtin p) = leaf tt (omega arith)
name_ends m s (the_operation o) = leaf tt (omega arith)
name_ends m s the_truth = truth_within m s
name_ends m s the_listing = refused (omega arith)
name_ends m s none = refused (omega arith)

atom_ends : {right : Value → Type 0} → HasMadeValues right → (scope : Scope) (s : Span) (a : Atom) → IsFineAtom right a → RowWithin right 1 (atom_row scope s a)
atom_ends m scope s (given (fix z)) h = leaf h (omega arith)
atom_ends m scope s (given (char c)) h = leaf h (omega arith)
atom_ends m scope s (given nil) h = leaf h (omega arith)
atom_ends m scope s (given truth) h = leaf h (omega arith)
atom_ends m scope s (given (string text)) h = leaf h (omega arith)
atom_ends {right} m scope s (given (symbol text)) h =
    formed right 1 s (λ n. name_row s (meaning scope n)) (name_of (atom s (given (symbol text)))) (omega arith) (λ n e. name_ends m s (meaning scope n))
atom_ends m scope s (variable n) h = name_ends m s (meaning scope (made n))
atom_ends m scope s (builtin p) h = leaf tt (omega arith)
atom_ends m scope s (operation o) h = leaf tt (omega arith)
atom_ends m scope s listing h = refused (omega arith)

pub atom_within : {right : Value → Type 0} → HasMadeValues right → (s : Span) (a : Atom) → IsFineAtom right a → Within right 1 (atom s a)
atom_within {right} m s a h = always right 1 (atom s a) (fine_ops right (atom s a) h) (λ scope. atom_ends m scope s a h)

pub variable_always : {right : Value → Type 0} → HasMadeValues right → (s : Span) (n : New) → Always right (a_variable s n)
variable_always m s n = atom_within m s (variable n) tt

pub builtin_within : {right : Value → Type 0} → HasMadeValues right → (s : Span) (p : Builtin) → Within right 1 (a_builtin s p)
builtin_within m s p = atom_within m s (builtin p) tt

pub operation_within : {right : Value → Type 0} → HasMadeValues right → (s : Span) (o : ℕ) → o < 3 → Within right 1 (an_operation s o)
operation_within m s o h = atom_within m s (operation o) h
