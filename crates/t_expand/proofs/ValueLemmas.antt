-- What a definition defines, as a form.
use Rattle.std.proofs.Common.{◌≡◌, ◌⊎◌, ℕ, List, [], ◌∷◌, Contains, Option, Some, None, Result, Ok, Err, IfOk, OnOk, refl, subst, arith}
use Rattle.t_base.specs.declared.basics.Memory.{Memory}
use Rattle.t_base.specs.declared.shared_parts.Shared.{Shared}
use Rattle.t_forms.specs.declared.arena.Cell.{Cell}
use Rattle.t_forms.specs.Data.{Datum, Binder}
use Rattle.t_forms.specs.Names.{Bound}
use Rattle.t_forms.specs.Held.{Held}
use Rattle.t_rows.specs.declared.refusal.Refusal.{Refusal}
use Rattle.form_rows.specs.declared.definitions.Definition.{Definition as CodeDefinition}
use Rattle.form_rows.specs.declared.definitions.Definition.TheVariants as code
use Rattle.t_rows.specs.declared.names.Binder.{Binder as CodeBinder}
use Rattle.form_rows.specs.Definitions.{IsDefinition}
use Rattle.t_rows.specs.Lists.{IsHeldIf}
use Rattle.t_rows.specs.Bindings.{IsBinder}
use Rattle.std.specs.List.{AllZip}
use Rattle.t_rows.specs.Rows.{Definition, define, lset, operation_form, twice}
use Rattle.expansion.specs.Meaning.{Nodes, RootMeans, ValueMeans, top_scope}
use Rattle.t_expand.specs.Growth.{IsGrown}
use Rattle.t_expand.specs.Rooted.{nodes_of}
use Rattle.t_expand.specs.declared.driver_state.Expansion.{Expansion}
use Rattle.t_expand.specs.declared.unit_top.Rooted.{Rooted}
use Rattle.t_expand.proofs.FirstLemmas.{none_of}
use Rattle.expansion.specs.Refusals.{Refused, RefusedDefinition, IsFirstOf}

-- the definition is of the form at a place
pub record HasValue (names : List (List ℕ)) (cells : List Cell) (k : ℕ) (d : Definition) : Type 0 where
  pub form : Datum
  pub held : Held names cells k form
  pub refused : (defined : List Bound) (r : Refusal) → Refused (top_scope defined) form r → RefusedDefinition defined d r
  pub back : (defined : List Bound) (r : Refusal) → RefusedDefinition defined d r → Refused (top_scope defined) form r
  pub means : (defined : List Bound) (shared : Shared) (n : Nodes) (root : ℕ) → RootMeans defined shared n form root → ValueMeans defined shared n d root

of_define : (names : List (List ℕ)) (cells : List Cell) (k : ℕ) (b : Binder) (e : Datum) → Held names cells k e → HasValue names cells k (define b e)
of_define names cells k b e held =
    record { form = e; held = held; refused = λ defined r x. x; back = λ defined r x. x; means = λ defined shared n root x. x }

of_lset : (names : List (List ℕ)) (cells : List Cell) (k : ℕ) (b : Binder) (e : Datum) → Held names cells k e → HasValue names cells k (lset b e)
of_lset names cells k b e held =
    record { form = e; held = held; refused = λ defined r x. x; back = λ defined r x. x; means = λ defined shared n root x. x }

of_default : (names : List (List ℕ)) (cells : List Cell) (k : ℕ) (b : Binder) (bs : List Binder) (e : Datum) → Held names cells k e
    → HasValue names cells k (operation_form b bs (Some e))
of_default names cells k b bs e held =
    record { form = e; held = held; refused = λ defined r x. x; back = λ defined r x. x; means = λ defined shared n root x. x }

pub define_value : (names : List (List ℕ)) (cells : List Cell) (c : CodeDefinition) (n : CodeBinder) (k : ℕ) (d : Definition) → IsDefinition names cells c d
    → c ≡ code.Define n k → HasValue names cells k d
define_value names cells c n k (define b e) of is =
    of_define names cells k b e (let s : of.1 ≡ k = let t = of.2 in cc in subst (λ (i : ℕ). Held names cells i e) s of.4)
define_value names cells c n k (lset b e) of is = let t = of.2 in cc
define_value names cells c n k (operation_form b bs e) of is = let t = of.3 in cc

pub lset_value : (names : List (List ℕ)) (cells : List Cell) (c : CodeDefinition) (n : CodeBinder) (k : ℕ) (d : Definition) → IsDefinition names cells c d
    → c ≡ code.Lset n k → HasValue names cells k d
lset_value names cells c n k (define b e) of is = let t = of.2 in cc
lset_value names cells c n k (lset b e) of is =
    of_lset names cells k b e (let s : of.1 ≡ k = let t = of.2 in cc in subst (λ (i : ℕ). Held names cells i e) s of.4)
lset_value names cells c n k (operation_form b bs e) of is = let t = of.3 in cc

default_value : (names : List (List ℕ)) (cells : List Cell) (k : ℕ) (i : Option ℕ) (b : Binder) (bs : List Binder) (e : Option Datum) → IsHeldIf names cells i e
    → i ≡ Some k → HasValue names cells k (operation_form b bs e)
default_value names cells k i b bs None is s = cc
default_value names cells k i b bs (Some e) is s =
    of_default names cells k b bs e (let t : is.0 ≡ k = let u = is.1 in cc in subst (λ (j : ℕ). Held names cells j e) t is.2)

pub operation_value : (names : List (List ℕ)) (cells : List Cell) (c : CodeDefinition) (n : CodeBinder) (ps : _) (i : Option ℕ) (k : ℕ) (d : Definition)
    → IsDefinition names cells c d → c ≡ code.Operation n ps i → i ≡ Some k → HasValue names cells k d
operation_value names cells c n ps i k (define b e) of is s = let t = of.2 in cc
operation_value names cells c n ps i k (lset b e) of is s = let t = of.2 in cc
operation_value names cells c n ps i k (operation_form b bs e) of is s =
    default_value names cells k of.2 b bs e of.6 (let t = of.3 in cc)

-- an operation without a default
pub record HasNone (names : List (List ℕ)) (ps : List CodeBinder) (d : Definition) : Type 0 where
  pub params : List Binder
  pub are : AllZip (IsBinder names) ps params
  pub refused : (defined : List Bound) (r : Refusal) → Contains (twice params) r → RefusedDefinition defined d r
  pub back : (defined : List Bound) (r : Refusal) → RefusedDefinition defined d r → Contains (twice params) r
  pub means : (defined : List Bound) (shared : Shared) (n : Nodes) (root : ℕ) → twice params ≡ [] → n.nodes ≡ [] → root ≡ 0 → ValueMeans defined shared n d root

none_value : (names : List (List ℕ)) (cells : List Cell) (i : Option ℕ) (ps : List CodeBinder) (b : Binder) (bs : List Binder) (e : Option Datum)
    → AllZip (IsBinder names) ps bs → IsHeldIf names cells i e → i ≡ None → HasNone names ps (operation_form b bs e)
none_value names cells i ps b bs None are is s = record {
  params = bs;
  are = are;
  refused = λ defined r x. x;
  back = λ defined r x. x;
  means = λ defined shared n root t e f. (t, e, f);
}
none_value names cells i ps b bs (Some e) are is s = let u = is.1 in cc

pub operation_none : (names : List (List ℕ)) (cells : List Cell) (c : CodeDefinition) (n : CodeBinder) (ps : _) (i : Option ℕ) (d : Definition)
    → IsDefinition names cells c d → c ≡ code.Operation n ps i → i ≡ None → HasNone names ps.items d
operation_none names cells c n ps i (define b e) of is s = let t = of.2 in cc
operation_none names cells c n ps i (lset b e) of is s = let t = of.2 in cc
operation_none names cells c n ps i (operation_form b bs e) of is s =
    let same : of.1 ≡ ps = let t = of.3 in cc in
    none_value names cells of.2 ps.items b bs e (subst (λ x. AllZip (IsBinder names) x.items bs) same of.5) of.6 (let t = of.3 in cc)

-- nothing stands in an empty list alone
pub nothing_contained : (xs : List Refusal) → ((r : Refusal) → Contains xs r → ⊥) → xs ≡ []
nothing_contained [] h = refl
nothing_contained (x ∷ xs) h = absurd (h x (0, omega arith, refl))

pub none_means : (old new : Expansion) (names : List (List ℕ)) (ps : List CodeBinder) (d : Definition) (v : HasNone names ps d) (defined : List Bound)
    (r : Result Rooted Memory) → OnOk r (IsFirstOf (λ x. (old.first ≡ Some x) ⊎ Contains (twice v.params) x) new.first)
    → IfOk r (λ x. x.nodes.items ≡ []) → IfOk r (λ x. x.root ≡ 0)
    → IfOk r (λ x. new.first ≡ None → (later : Shared) → IsGrown new.shared later → ValueMeans defined later (nodes_of x) d x.root)
none_means old new names ps d v defined (Err e) refused nodes root = tt
none_means old new names ps d v defined (Ok x) refused nodes root = λ none later grown.
    v.means defined later (nodes_of x) x.root (nothing_contained (twice v.params) (none_of (λ r. Contains (twice v.params) r) old.first new.first none refused)) nodes root
