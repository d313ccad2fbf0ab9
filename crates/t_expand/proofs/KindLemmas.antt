-- What a definition is kept as.
use Rattle.std.proofs.Common.{◌≡◌, ℕ, Bool, true, false, List, Option, Some, None, sym, subst, if◌then◌else◌}
use Rattle.std.specs.Str.{bytes_eq}
use Rattle.std.specs.Prelude.{codes}
use Rattle.std.proofs.lemmas.Option.{same_Some}
use Rattle.t_base.specs.declared.basics.Var.{Var}
use Rattle.t_base.specs.declared.builtins.Builtin.{Builtin}
use Rattle.t_core.specs.declared.forms.FormKind.{FormKind}
use Rattle.t_objects.specs.Words.{spelled}
use Rattle.t_forms.specs.declared.arena.Cell.{Cell}
use Rattle.t_forms.specs.declared.scope.Meant.{Meant}
use Rattle.t_forms.specs.declared.scope.Meant.TheVariants as meant
use Rattle.t_forms.specs.Builtins.{builtin_named}
use Rattle.t_forms.specs.Data.{Name, written, made, Datum, Binder}
use Rattle.t_forms.specs.Names.{Meaning, a_local, a_global, an_op, the_builtin, the_operation, the_truth, the_listing, none, Bound, or_else, operation_names, beyond, defined_as, meaning}
use Rattle.t_forms.specs.Held.{IsMeaning}
use Rattle.form_rows.specs.declared.definitions.Definition.{Definition as CodeDefinition}
use Rattle.form_rows.specs.declared.definitions.Definition.TheVariants as code
use Rattle.t_rows.specs.declared.names.Binder.{Binder as CodeBinder}
use Rattle.form_rows.specs.Definitions.{IsDefinition}
use Rattle.t_rows.specs.Rows.{Definition, define, lset, operation_form}
use Rattle.expansion.specs.Meaning.{IsKind, top_scope}
use Rattle.t_expand.specs.Rooted.{kind_of}
use Rattle.expansion.specs.Units.{defined_name, meaning_of}

-- ---- what isn't defined is no global and no operation of the unit

two_words : (P : Meaning → Type 0) → P the_truth → P the_listing → P none → (a b : Bool) → P (if a then the_truth else if b then the_listing else none)
two_words P t l n true b = t
two_words P t l n false true = l
two_words P t l n false false = n

behind_builtins : (P : Meaning → Type 0) → ((o : ℕ) → P (the_operation o)) → (m : Meaning) → P m → (o : Option ℕ) → P (or_else the_operation o m)
behind_builtins P op m p None = p
behind_builtins P op m p (Some o) = op o

behind_names : (P : Meaning → Type 0) → ((b : Builtin) → P (the_builtin b)) → (m : Meaning) → P m → (b : Option Builtin) → P (or_else the_builtin b m)
behind_names P bu m p None = p
behind_names P bu m p (Some b) = bu b

beyond_is : (P : Meaning → Type 0) → ((b : Builtin) → P (the_builtin b)) → ((o : ℕ) → P (the_operation o)) → P the_truth → P the_listing → P none
    → (n : Name) → P (beyond n)
beyond_is P bu op t l n (made v) = n
beyond_is P bu op t l n (written text) =
    behind_names P bu _ (behind_builtins P op _ (two_words P t l n (bytes_eq text (codes "t")) (bytes_eq text (codes "list"))) (spelled operation_names text)) (builtin_named text)

no_global : (vars : List Var) (g : ℕ) (a : Bool) (n : Name) → IsMeaning vars (meant.Global g a) (beyond n) → ⊥
no_global vars g a n = beyond_is (λ m. IsMeaning vars (meant.Global g a) m → ⊥) (λ b e. cc) (λ o e. cc) (λ e. cc) (λ e. cc) (λ e. cc) n

no_op : (vars : List Var) (o : ℕ) (n : Name) → IsMeaning vars (meant.Operation o) (beyond n) → ⊥
no_op vars o n = beyond_is (λ m. IsMeaning vars (meant.Operation o) m → ⊥) (λ b e. cc) (λ p e. cc) (λ e. cc) (λ e. cc) (λ e. cc) n

global_is : (vars : List Var) (g : ℕ) (a : Bool) (n : Name) (x : Option Meaning) → IsMeaning vars (meant.Global g a) (or_else (λ m. m) x (beyond n))
    → x ≡ Some (a_global g a)
global_is vars g a n None is = absurd (no_global vars g a n is)
global_is vars g a n (Some (a_local i)) is = let e = is.1 in cc
global_is vars g a n (Some (a_global h b)) is = cc
global_is vars g a n (Some (an_op o)) is = cc
global_is vars g a n (Some (the_builtin b)) is = cc
global_is vars g a n (Some (the_operation o)) is = cc
global_is vars g a n (Some the_truth) is = cc
global_is vars g a n (Some the_listing) is = cc
global_is vars g a n (Some none) is = cc

op_is : (vars : List Var) (p : ℕ) (n : Name) (x : Option Meaning) → IsMeaning vars (meant.Operation p) (or_else (λ m. m) x (beyond n)) → x ≡ Some (an_op p)
op_is vars p n None is = absurd (no_op vars p n is)
op_is vars p n (Some (a_local i)) is = let e = is.1 in cc
op_is vars p n (Some (a_global h b)) is = cc
op_is vars p n (Some (an_op o)) is = cc
op_is vars p n (Some (the_builtin b)) is = cc
op_is vars p n (Some (the_operation o)) is = cc
op_is vars p n (Some the_truth) is = cc
op_is vars p n (Some the_listing) is = cc
op_is vars p n (Some none) is = cc

-- ---- the kind

of_define : (vars : List Var) (nm : Name) (x : Option Meaning) (m : Meant) (k : FormKind) (c : CodeBinder) (i : ℕ) (b : Binder) (d : Datum)
    → kind_of (code.Define c i) m ≡ Some k → IsMeaning vars m (or_else (λ y. y) x (beyond nm)) → IsKind k (define b d) x
of_define vars nm x (meant.Global g false) k c i b d e is = rw (global_is vars g false nm x is) (sym (same_Some _ _ e))
of_define vars nm x _ k c i b d e is = cc

of_lset : (vars : List Var) (nm : Name) (x : Option Meaning) (m : Meant) (k : FormKind) (c : CodeBinder) (i : ℕ) (b : Binder) (d : Datum)
    → kind_of (code.Lset c i) m ≡ Some k → IsMeaning vars m (or_else (λ y. y) x (beyond nm)) → IsKind k (lset b d) x
of_lset vars nm x (meant.Global g true) k c i b d e is = rw (global_is vars g true nm x is) (sym (same_Some _ _ e))
of_lset vars nm x _ k c i b d e is = cc

of_operation : (vars : List Var) (nm : Name) (x : Option Meaning) (m : Meant) (k : FormKind) (c : CodeBinder) (ps : _) (i : Option ℕ) (b : Binder) (bs : List Binder) (d : Option Datum)
    → kind_of (code.Operation c ps i) m ≡ Some k → IsMeaning vars m (or_else (λ y. y) x (beyond nm)) → IsKind k (operation_form b bs d) x
of_operation vars nm x (meant.Operation o) k c ps i b bs d e is = rw (op_is vars o nm x is) (sym (same_Some _ _ e))
of_operation vars nm x _ k c ps i b bs d e is = cc

pub is_kind : (names : List (List ℕ)) (cells : List Cell) (vars : List Var) (c : CodeDefinition) (d : Definition) (defined : List Bound) (m : Meant) (k : FormKind)
    → IsDefinition names cells c d → kind_of c m ≡ Some k → IsMeaning vars m (meaning (top_scope defined) (defined_name d).name)
    → IsKind k d (meaning_of defined d)
is_kind names cells vars c (define b d) defined m k of e is =
    of_define vars b.name (defined_as defined b.name) m k of.0 of.1 b d (subst (λ x. kind_of x m ≡ Some k) of.2 e) is
is_kind names cells vars c (lset b d) defined m k of e is =
    of_lset vars b.name (defined_as defined b.name) m k of.0 of.1 b d (subst (λ x. kind_of x m ≡ Some k) of.2 e) is
is_kind names cells vars c (operation_form b bs d) defined m k of e is =
    of_operation vars b.name (defined_as defined b.name) m k of.0 of.1 of.2 b bs d (subst (λ x. kind_of x m ≡ Some k) of.3 e) is
