-- The globals and operations of a unit whose forms are what its data stand for: each global is settled by its own form alone.
use Rattle.std.proofs.Common.{◌≡◌, inr, ℕ, suc, zero, ◌+◌, ◌<◌, ◌++◌, Bool, true, false, not, List, [], ◌∷◌, length, map, All, Some, None, slice_get, refl, sym, ap, subst, ◌∙◌, append_assoc, if◌then◌else◌, IsTrue, arith}
use Rattle.std.specs.Prelude.{codes}
use Rattle.std.specs.List.{filter}
use Rattle.std.specs.Option.{option_map, option_map_or}
use Rattle.std.proofs.lemmas.List.{length-append, length-map}
use Rattle.std.proofs.lemmas.List.Elements.{All-nil, All-cons}
use Rattle.std.proofs.lemmas.Option.{slice_get_within}
use Rattle.t_base.specs.declared.basics.Span.{Span}
use Rattle.t_base.specs.declared.basics.Var.{Var}
use Rattle.t_base.specs.declared.shared_parts.Global1.{Global1}
use Rattle.t_base.specs.declared.shared_parts.GlobalKind.TheVariants.{Value}
use Rattle.t_base.specs.declared.shared_parts.OpInfo.{OpInfo}
use Rattle.t_base.specs.declared.shared_parts.Shared.{Shared}
use Rattle.t_prim.specs.SharedParts.{builtin_ops}
use Rattle.t_core.specs.declared.forms.Core.{Core}
use Rattle.t_core.specs.declared.forms.Core.TheVariants as Node
use Rattle.t_core.specs.declared.forms.FormKind.{FormKind}
use Rattle.t_core.specs.declared.forms.FormKind.TheVariants as kind
use Rattle.t_core.specs.declared.forms.Form.{Form}
use Rattle.t_core.specs.declared.forms.UnitCore.{UnitCore}
use Rattle.t_core.specs.Nodes.{Part as NodePart, parts_of, has_self}
use Rattle.t_core.specs.Whole.{DefinesAs, IsDefault, HasDefinitions, is_lambda_at}
use Rattle.t_forms.specs.Data.{Datum, Binder, Name, names as names_bound}
use Rattle.t_forms.specs.Names.{Bound, Scope}
use Rattle.t_rows.specs.declared.refusal.Refusal.{Refusal}
use Rattle.t_rows.specs.Rows.{Definition, define, lset, operation_form, lambda, inside, body, Part}
use Rattle.expansion.specs.Meaning.{Fits, Nodes, Means, as_form, as_node, AllMean, one_part, top_scope, IsKind, FormMeans, FormsMean}
use Rattle.expansion.specs.Refusals.{RefusedTop, RefusedAmong, Refused}
use Rattle.expansion.specs.Settling.{first_kind, has_default, proc_of, with_procedure, settled, all_settled}
use Rattle.expansion.specs.Units.{Top, defining, broken, expression, Entry, entry, is_global, texts as texts_named, entries_of, op_texts, definitions_of, meanings_from, meaning_of}
use Rattle.expand_laws.proofs.DefinedOnce.{global_once, op_once}
use Rattle.expand_laws.proofs.Defining.{IsSplit, forms_defined, one_longer}
use Rattle.expand_laws.proofs.Made.{HasDefined}
use Rattle.expand_laws.proofs.Named.{defined_there}
use Rattle.expand_laws.proofs.Numbering.{AreClean, all_clean, definitions, all_new, entries_are, own, next_global, next_op, AreNumbered, all_numbered}
use Rattle.expand_laws.proofs.OneTop.{IsDefaultForm, IsFineTop, default_row, self_there}
use Rattle.expand_laws.proofs.Tables.{AreFine, IsNameAt, Tabled, no_more, a_define, an_lset, an_operation, an_expression, kept, globals_there}
use Rattle.expand_laws.proofs.TopsMade.{IsFilled, AreFilled, kind_meant}
use Rattle.expand_laws.proofs.Walking.{as_its_node}

-- ---- the nodes of a form

root_there : (shared : Shared) (n : Nodes) (vars : List Var) (scope : Scope) (d : Datum) (tail : Bool) (k : ℕ) → Means shared n vars scope d tail k → 0 < length n.nodes
root_there shared n vars scope d tail k (as_form vs sc dd e t kk at m) = root_there shared n vs sc e t kk m
root_there shared n vars scope d tail k (as_node vs sc dd t kk shape parts c at here span f all) = let there : kk < length n.nodes = slice_get_within n.nodes kk c here in omega arith

first_count : (shared : Shared) (n : Nodes) (vars : List Var) (scope : Scope) (p : Part) (ps : List Part) (q : NodePart) (qs : List NodePart)
    → AllMean shared n vars scope (p ∷ ps) (q ∷ qs) → length p.binds ≡ length q.binds
first_count shared n vars scope p ps q qs (one_part vs sc pp qq pps qqs l m rest) = l

lambda_self : (shared : Shared) (n : Nodes) (vars : List Var) (scope : Scope) (tail : Bool) (ns : List Name) (e : Datum) (c : Core) → Fits shared vars tail lambda c
    → AllMean shared n vars scope (inside ns e ∷ []) (parts_of c tail) → 0 < length ns → IsTrue (has_self c)
lambda_self shared n vars scope tail ns e (Node.Lambda params b) f all some =
    let l = first_count shared n vars scope (inside ns e) [] _ [] all in self_there params b (omega (arith, l, some))
lambda_self shared n vars scope tail ns e _ f all some = absurd f

default_there : (defined : List Bound) (shared : Shared) (n : Nodes) (root : ℕ) (ps : List Binder) (d : Datum) → IsDefaultForm ps d → ((r : Refusal) → Refused (top_scope defined) d r → ⊥)
    → Means shared n [] (top_scope defined) d false root → IsDefault n.nodes root true
default_there defined shared n root ps d f none m =
    let is = as_its_node shared n [] (top_scope defined) d false root lambda (inside (names_bound ps) (body f.span (f.first ∷ f.others)) ∷ []) (default_row defined ps d f none) m in
    let same : length (names_bound ps) ≡ length ps = length-map ps (λ b. b.name) in
    let some = f.some in
    let self = lambda_self shared n [] (top_scope defined) false (names_bound ps) (body f.span (f.first ∷ f.others)) is.c is.fits is.all (omega (arith, same, some)) in
    (root_there shared n [] (top_scope defined) d false root m, subst (λ o. IsTrue (option_map_or has_self o false)) (sym is.here) self)

form_filled : (names : List (List ℕ)) (defined : List Bound) (shared : Shared) (f : Form) (ss : List Span) (before : List Top) (t : Top) → FormMeans defined shared f ss t
    → IsFineTop names t → ((r : Refusal) → RefusedTop defined before t r → ⊥) → IsFilled t f.nodes.items f.root
form_filled names defined shared f ss before (defining (define b d)) m fine none =
    root_there shared (record { nodes = f.nodes.items; spans = ss }) [] (top_scope defined) d false f.root (m.1).1
form_filled names defined shared f ss before (defining (lset b d)) m fine none =
    root_there shared (record { nodes = f.nodes.items; spans = ss }) [] (top_scope defined) d false f.root (m.1).1
form_filled names defined shared f ss before (defining (operation_form b ps None)) m fine none = (((m.1).1).1, ((m.1).1).2)
form_filled names defined shared f ss before (defining (operation_form b ps (Some d))) m fine none =
    default_there defined shared (record { nodes = f.nodes.items; spans = ss }) f.root ps d (fine.1).1 (λ r h. none r (inr h)) (m.1).1
form_filled names defined shared f ss before (broken s) m fine none = absurd (m.1)
form_filled names defined shared f ss before (expression d) m fine none =
    root_there shared (record { nodes = f.nodes.items; spans = ss }) [] (top_scope defined) d false f.root (m.1).1

kind_is : (d : Definition) (g o : ℕ) (k : FormKind) → IsKind k d (Some (own g o d)) → k ≡ kind_meant (Some (own g o d))
kind_is (define b d) g o k e = e
kind_is (lset b d) g o k e = e
kind_is (operation_form b ps d) g o k e = e

kind_kept : (defined : List Bound) (d : Definition) (g o : ℕ) (k : FormKind) → meaning_of defined d ≡ Some (own g o d) → IsKind k d (meaning_of defined d)
    → k ≡ kind_meant (meaning_of defined d)
kind_kept defined d g o k m is = kind_is d g o k (subst (λ x. IsKind k d x) m is) ∙ ap kind_meant (sym m)

pub all_filled : (names : List (List ℕ)) (defined : List Bound) (shared : Shared) (g o : ℕ) (before ts : List Top) (fs : List Form) (ss : List (List Span))
    → FormsMean defined shared fs ss ts → AreFine names ts → AreClean defined before ts → AreNumbered defined g o ts → AreFilled defined ts fs
all_filled names defined shared g o before [] [] [] m fine clean are = tt
all_filled names defined shared g o before (defining d ∷ ts) (f ∷ fs) (s ∷ ss) m fine clean are = (
  kind_kept defined d g o f.kind are.0 ((m.0).1).0,
  form_filled names defined shared f s before (defining d) m.0 fine.0 clean.0,
  all_filled names defined shared (next_global g d) (next_op o d) (before ++ defining d ∷ []) ts fs ss m.1 fine.1 clean.1 are.1,
)
all_filled names defined shared g o before (broken s ∷ ts) (f ∷ fs) (r ∷ ss) m fine clean are = absurd (m.0).1
all_filled names defined shared g o before (expression d ∷ ts) (f ∷ fs) (s ∷ ss) m fine clean are = (
  ((m.0).1).0,
  form_filled names defined shared f s before (expression d) m.0 fine.0 clean.0,
  all_filled names defined shared g o (before ++ expression d ∷ []) ts fs ss m.1 fine.1 clean.1 are,
)
all_filled names defined shared g o before [] [] (s ∷ ss) m fine clean are = absurd m
all_filled names defined shared g o before [] (f ∷ fs) [] m fine clean are = absurd m
all_filled names defined shared g o before [] (f ∷ fs) (s ∷ ss) m fine clean are = absurd m
all_filled names defined shared g o before (t ∷ ts) [] [] m fine clean are = absurd m
all_filled names defined shared g o before (t ∷ ts) [] (s ∷ ss) m fine clean are = absurd m
all_filled names defined shared g o before (t ∷ ts) (f ∷ fs) [] m fine clean are = absurd m

-- ---- what a unit defines, before its forms are settled

-- the globals are those of these entries
pub record AreGlobals (names : List (List ℕ)) (es : List Entry) (gs : List Global1) : Type 0 where
  pub named : map (λ text. Some text) (texts_named (filter (λ x. is_global x.by) es)) ≡ map (λ g. slice_get names g.name.0) gs
  pub kinds : map (λ g. g.kind) gs ≡ map (λ x. first_kind x.by) (filter (λ x. is_global x.by) es)

-- the operations are those of these entries
pub record AreOps (names : List (List ℕ)) (es : List Entry) (os : List OpInfo) : Type 0 where
  pub named : map (λ text. Some text) (texts_named (filter (λ x. not (is_global x.by)) es)) ≡ map (λ o. slice_get names o.name.0) os
  pub defaults : map (λ o. o.default) os ≡ map (λ x. has_default x.by) (filter (λ x. not (is_global x.by)) es)

-- the operations are the three builtin ones and those of these entries
pub record AreUnitOps (names : List (List ℕ)) (es : List Entry) (os : List OpInfo) : Type 0 where
  pub named : map (λ text. Some text) (codes "setter" ∷ codes "contents" ∷ codes "set-contents" ∷ texts_named (filter (λ x. not (is_global x.by)) es))
      ≡ map (λ o. slice_get names o.name.0) os
  pub defaults : map (λ o. o.default) os ≡ false ∷ false ∷ false ∷ map (λ x. has_default x.by) (filter (λ x. not (is_global x.by)) es)

head_is : {A : Type 0} (x y : A) (xs ys : List A) → x ∷ xs ≡ y ∷ ys → x ≡ y
head_is x y xs ys e = cc

tail_is : {A : Type 0} (x y : A) (xs ys : List A) → x ∷ xs ≡ y ∷ ys → xs ≡ ys
tail_is x y xs ys e = cc

some_none : {A : Type 0} (x : A) (xs : List A) → x ∷ xs ≡ [] → ⊥
some_none x xs e = cc

-- ---- one form

proc_put : (pre : List Global1) (info : Global1) (rest : List Global1) → with_procedure (length pre) (pre ++ info ∷ rest) ≡ pre ++ proc_of info ∷ rest
proc_put [] info rest = refl
proc_put (x ∷ pre) info rest = ap (λ l. x ∷ l) (proc_put pre info rest)

-- a global as its form settles it
abbrev own_settled : Bool → Global1 → Global1
own_settled b info = if b then proc_of info else info

put_settled : (pre : List Global1) (info : Global1) (rest : List Global1) (g : ℕ) (b : Bool) → length pre ≡ g
    → (if b then with_procedure g (pre ++ info ∷ rest) else pre ++ info ∷ rest) ≡ pre ++ own_settled b info ∷ rest
put_settled pre info rest g true e = ap (λ n. with_procedure n (pre ++ info ∷ rest)) (sym e) ∙ proc_put pre info rest
put_settled pre info rest g false e = refl

define_settled : (pre : List Global1) (info : Global1) (rest : List Global1) (g : ℕ) (f : Form) → length pre ≡ g → f.kind ≡ kind.Define g
    → settled (pre ++ info ∷ rest) f.kind f.nodes.items f.root ≡ (pre ++ own_settled (is_lambda_at f.nodes.items f.root) info ∷ []) ++ rest
define_settled pre info rest g f e k =
    ap (λ x. settled (pre ++ info ∷ rest) x f.nodes.items f.root) k
    ∙ put_settled pre info rest g (is_lambda_at f.nodes.items f.root) e
    ∙ sym (append_assoc pre (own_settled (is_lambda_at f.nodes.items f.root) info ∷ []) rest)

define_kind : (info : Global1) (nodes : List Core) (root : ℕ) (b : Bool) → is_lambda_at nodes root ≡ b → info.kind ≡ Value → DefinesAs nodes root (own_settled b info).kind
define_kind info nodes root true e k = e
define_kind info nodes root false e k = subst (λ x. DefinesAs nodes root x) (sym k) e

name_kept : (names : List (List ℕ)) (info : Global1) (n : Name) (b : Bool) → IsNameAt names info.name n → IsNameAt names (own_settled b info).name n
name_kept names info n true h = h
name_kept names info n false h = h

same_default : (nodes : List Core) (root : ℕ) (a b : Bool) → a ≡ b → IsDefault nodes root b → IsDefault nodes root a
same_default nodes root a b e h = subst (λ x. IsDefault nodes root x) (sym e) h

-- ---- all forms

-- the forms settle the globals, behind those before them, and the tables are those of the forms
pub record IsSettled (names : List (List ℕ)) (g o : ℕ) (ts : List Top) (fs : List Form) (pre gs : List Global1) (os : List OpInfo) : Type 0 where
  pub rest : List Global1
  pub are : all_settled (pre ++ gs) fs ≡ pre ++ rest
  pub tabled : Tabled names g o ts fs rest os

globals_end : (names : List (List ℕ)) (gs : List Global1) → AreGlobals names [] gs → gs ≡ []
globals_end names [] h = refl
globals_end names (x ∷ xs) h = absurd (some_none _ _ (sym h.named))

ops_end : (names : List (List ℕ)) (os : List OpInfo) → AreOps names [] os → os ≡ []
ops_end names [] h = refl
ops_end names (x ∷ xs) h = absurd (some_none _ _ (sym h.named))

pub settled_tables : (names : List (List ℕ)) (defined : List Bound) (g o : ℕ) (ts : List Top) (fs : List Form) (pre gs : List Global1) (os : List OpInfo) → length pre ≡ g
    → AreFilled defined ts fs → AreNumbered defined g o ts → AreGlobals names (map entry (definitions ts)) gs → AreOps names (map entry (definitions ts)) os
    → IsSettled names g o ts fs pre gs os
settled_tables names defined g o [] [] pre gs os e filled are globals ops =
    let gn = globals_end names gs globals in
    let on = ops_end names os ops in
    record { rest = []; are = ap (λ l. pre ++ l) gn; tabled = subst (λ l. Tabled names g o [] [] [] l) (sym on) (no_more g o) }
settled_tables names defined g o [] (f ∷ fs) pre gs os e filled are globals ops = absurd filled
settled_tables names defined g o (t ∷ ts) [] pre gs os e filled are globals ops = absurd filled
settled_tables names defined g o (defining (define b d) ∷ ts) (f ∷ fs) pre [] os e filled are globals ops = absurd (some_none _ _ globals.named)
settled_tables names defined g o (defining (define b d) ∷ ts) (f ∷ fs) pre (info ∷ gs) os e filled are globals ops =
    let lam = is_lambda_at f.nodes.items f.root in
    let new = own_settled lam info in
    let k : f.kind ≡ kind.Define g = kept defined (define b d) g o f.kind filled.0 are.0 in
    let rest = settled_tables names defined (g + 1) o ts fs (pre ++ new ∷ []) gs os (one_longer pre new g e) filled.2 are.1
    (record { named = tail_is _ _ _ _ globals.named; kinds = tail_is _ _ _ _ globals.kinds }) (record { named = ops.named; defaults = ops.defaults }) in
    record {
      rest = new ∷ rest.rest;
      are = ap (λ l. all_settled l fs) (define_settled pre info gs g f e k) ∙ rest.are ∙ append_assoc pre (new ∷ []) rest.rest;
      tabled =
          a_define g o b d ts f fs new rest.rest os k filled.1 (define_kind info f.nodes.items f.root lam refl (head_is _ _ _ _ globals.kinds))
          (name_kept names info b.name lam (sym (head_is _ _ _ _ globals.named))) rest.tabled;
    }
settled_tables names defined g o (defining (lset b d) ∷ ts) (f ∷ fs) pre [] os e filled are globals ops = absurd (some_none _ _ globals.named)
settled_tables names defined g o (defining (lset b d) ∷ ts) (f ∷ fs) pre (info ∷ gs) os e filled are globals ops =
    let k : f.kind ≡ kind.Lset g = kept defined (lset b d) g o f.kind filled.0 are.0 in
    let rest = settled_tables names defined (g + 1) o ts fs (pre ++ info ∷ []) gs os (one_longer pre info g e) filled.2 are.1
    (record { named = tail_is _ _ _ _ globals.named; kinds = tail_is _ _ _ _ globals.kinds }) (record { named = ops.named; defaults = ops.defaults }) in
    record {
      rest = info ∷ rest.rest;
      are =
          ap (λ x. all_settled (settled (pre ++ info ∷ gs) x f.nodes.items f.root) fs) k
          ∙ ap (λ l. all_settled l fs) (sym (append_assoc pre (info ∷ []) gs))
          ∙ rest.are
          ∙ append_assoc pre (info ∷ []) rest.rest;
      tabled = an_lset g o b d ts f fs info rest.rest os k filled.1 (head_is _ _ _ _ globals.kinds) (sym (head_is _ _ _ _ globals.named)) rest.tabled;
    }
settled_tables names defined g o (defining (operation_form b ps d) ∷ ts) (f ∷ fs) pre gs [] e filled are globals ops = absurd (some_none _ _ ops.named)
settled_tables names defined g o (defining (operation_form b ps d) ∷ ts) (f ∷ fs) pre gs (info ∷ os) e filled are globals ops =
    let k : f.kind ≡ kind.Operation o = kept defined (operation_form b ps d) g o f.kind filled.0 are.0 in
    let rest = settled_tables names defined g (o + 1) ts fs pre gs os e filled.2 are.1 (record { named = globals.named; kinds = globals.kinds })
    (record { named = tail_is _ _ _ _ ops.named; defaults = tail_is _ _ _ _ ops.defaults }) in
    record {
      rest = rest.rest;
      are = ap (λ x. all_settled (settled (pre ++ gs) x f.nodes.items f.root) fs) k ∙ rest.are;
      tabled =
          an_operation g o b ps d ts f fs info rest.rest os k (same_default f.nodes.items f.root info.default _ (head_is _ _ _ _ ops.defaults) filled.1)
          (sym (head_is _ _ _ _ ops.named)) rest.tabled;
    }
settled_tables names defined g o (broken s ∷ ts) (f ∷ fs) pre gs os e filled are globals ops = absurd filled.1
settled_tables names defined g o (expression d ∷ ts) (f ∷ fs) pre gs os e filled are globals ops =
    let rest = settled_tables names defined g o ts fs pre gs os e filled.2 are (record { named = globals.named; kinds = globals.kinds })
    (record { named = ops.named; defaults = ops.defaults }) in
    record {
      rest = rest.rest;
      are = ap (λ x. all_settled (settled (pre ++ gs) x f.nodes.items f.root) fs) filled.0 ∙ rest.are;
      tabled = an_expression g o d ts f fs rest.rest os filled.0 filled.1 rest.tabled;
    }

-- The forms are what their data stand for, and nothing is refused: then their tables are the settled globals and the operations.
pub unit_tabled : (names : List (List ℕ)) (shared : Shared) (ts : List Top) (fs : List Form) (ss : List (List Span)) (gs : List Global1) (os : List OpInfo)
    → FormsMean (definitions_of ts) shared fs ss ts → AreFine names ts → ((r : Refusal) → RefusedAmong (definitions_of ts) ts r → ⊥) → AreGlobals names (entries_of ts) gs
    → AreOps names (entries_of ts) os → Tabled names 0 3 ts fs (all_settled gs fs) os
unit_tabled names shared ts fs ss gs os means fine none globals ops =
    let clean = all_clean (definitions_of ts) ts none in
    let fresh = all_new (definitions_of ts) [] [] ts (λ n. refl) clean in
    let numbered = all_numbered ts fresh in
    let filled = all_filled names (definitions_of ts) shared 0 3 [] ts fs ss means fine clean numbered in
    let x = settled_tables names (definitions_of ts) 0 3 ts fs [] gs os refl filled numbered
    (subst (λ es. AreGlobals names es gs) (entries_are ts fresh) globals) (subst (λ es. AreOps names es os) (entries_are ts fresh) ops) in
    subst (λ l. Tabled names 0 3 ts fs l os) (sym x.are) x.tabled

-- ---- a unit

-- the builtin operations in front, and the others
pub record IsParted (names : List (List ℕ)) (es : List Entry) (all : List OpInfo) : Type 0 where
  pub builtins : List OpInfo
  pub others : List OpInfo
  pub three : length builtins ≡ 3
  pub are : all ≡ builtins ++ others
  pub ops : AreOps names es others
  pub no_default : (o : ℕ) → o < builtin_ops → option_map (λ (info : OpInfo). info.default) (slice_get all o) ≡ Some false

no_default_of : (a b c : OpInfo) (os : List OpInfo) (ds : List Bool) → map (λ (o : OpInfo). o.default) (a ∷ b ∷ c ∷ os) ≡ false ∷ false ∷ false ∷ ds → (o : ℕ) → o < 3
    → option_map (λ (info : OpInfo). info.default) (slice_get (a ∷ b ∷ c ∷ os) o) ≡ Some false
no_default_of a b c os ds e zero less = ap Some (head_is _ _ _ _ e)
no_default_of a b c os ds e (suc zero) less = ap Some (head_is _ _ _ _ (tail_is _ _ _ _ e))
no_default_of a b c os ds e (suc (suc zero)) less = ap Some (head_is _ _ _ _ (tail_is _ _ _ _ (tail_is _ _ _ _ e)))
no_default_of a b c os ds e (suc (suc (suc o))) less = absurd (omega (arith, less))

pub ops_parted : (names : List (List ℕ)) (es : List Entry) (all : List OpInfo) → AreUnitOps names es all → IsParted names es all
ops_parted names es [] h = absurd (some_none _ _ h.named)
ops_parted names es (a ∷ []) h = absurd (some_none _ _ (tail_is _ _ _ _ h.named))
ops_parted names es (a ∷ b ∷ []) h = absurd (some_none _ _ (tail_is _ _ _ _ (tail_is _ _ _ _ h.named)))
ops_parted names es (a ∷ b ∷ c ∷ os) h = record {
  builtins = a ∷ b ∷ c ∷ [];
  others = os;
  three = refl;
  are = refl;
  ops = record {
    named = tail_is _ _ _ _ (tail_is _ _ _ _ (tail_is _ _ _ _ h.named));
    defaults = tail_is _ _ _ _ (tail_is _ _ _ _ (tail_is _ _ _ _ h.defaults));
  };
  no_default = no_default_of a b c os _ h.defaults;
}

ops_within : (names : List (List ℕ)) (ns : List (List ℕ)) (os : List OpInfo) → map (λ text. Some text) ns ≡ map (λ o. slice_get names o.name.0) os
    → All (λ o. o.name.0 < length names) os
ops_within names ns [] e = All-nil (λ (o : OpInfo). o.name.0 < length names)
ops_within names [] (o ∷ os) e = absurd (some_none _ _ (sym e))
ops_within names (n ∷ ns) (o ∷ os) e =
    All-cons (λ (x : OpInfo). x.name.0 < length names) o os (slice_get_within names o.name.0 n (sym (head_is _ _ _ _ e))) (ops_within names ns os (tail_is _ _ _ _ e))

-- what holds of the globals and operations of a unit
pub record IsUnitDefined (ts : List Top) (u : UnitCore) : Type 0 where
  pub definitions : HasDefinitions u
  pub globals : All (λ g. g.name.0 < length u.shared.names) u.shared.globals.items
  pub ops : All (λ o. o.name.0 < length u.shared.names) u.shared.ops.items
  pub builtins : (o : ℕ) → o < builtin_ops → option_map (λ info. info.default) (slice_get u.shared.ops.items o) ≡ Some false
  pub defined : HasDefined (definitions_of ts) u.shared

pub unit_defined : (u : UnitCore) (ts : List Top) (ss : List (List Span)) (gs : List Global1) → FormsMean (definitions_of ts) u.shared u.forms.items ss ts → AreFine u.shared.names ts
    → ((r : Refusal) → RefusedAmong (definitions_of ts) ts r → ⊥) → AreGlobals u.shared.names (entries_of ts) gs → u.shared.globals.items ≡ all_settled gs u.forms.items
    → AreUnitOps u.shared.names (entries_of ts) u.shared.ops.items → IsUnitDefined ts u
unit_defined u ts ss gs means fine none globals settles ops =
    let names = u.shared.names in
    let fs = u.forms.items in
    let parted = ops_parted names (entries_of ts) u.shared.ops.items ops in
    let os = parted.others in
    let clean = all_clean (definitions_of ts) ts none in
    let fresh = all_new (definitions_of ts) [] [] ts (λ n. refl) clean in
    let first : Tabled names 0 3 ts fs (all_settled gs fs) os = unit_tabled names u.shared ts fs ss gs os means fine none globals parted.ops in
    let tabled : Tabled names 0 3 ts fs u.shared.globals.items os = subst (λ l. Tabled names 0 3 ts fs l os) (sym settles) first in
    let split : IsSplit u.shared 0 3 u.shared.globals.items os =
    record { globals = []; ops = parted.builtins; global_count = refl; op_count = parted.three; globals_are = refl; ops_are = parted.are } in
    let many : length u.shared.ops.items ≡ 3 + length os = op_count parted.builtins os u.shared.ops.items parted.three parted.are in
    record {
      definitions = record {
        forms = forms_defined names u.shared 0 3 ts fs u.shared.globals.items os (omega arith) tabled split;
        globals_once = λ g less. global_once names g 0 3 ts fs u.shared.globals.items os tabled (omega arith) (omega (arith, less));
        ops_once = λ o le less. op_once names o 0 3 ts fs u.shared.globals.items os tabled le (omega (arith, less, many));
      };
      globals = globals_there names 0 3 ts fs u.shared.globals.items os tabled;
      ops = ops_within names (op_texts ts) u.shared.ops.items ops.named;
      builtins = parted.no_default;
      defined = defined_there names u.shared ts fs u.shared.globals.items os (definitions_of ts) tabled split (ap (meanings_from 0 3) (entries_are ts fresh)) (omega (arith, many));
    }
  where
    op_count : (a b all : List OpInfo) → length a ≡ 3 → all ≡ a ++ b → length all ≡ 3 + length b
    op_count a b all e f = let l = ap (λ (x : List OpInfo). length x) f in let m = length-append a b in omega (arith, e, l, m)
