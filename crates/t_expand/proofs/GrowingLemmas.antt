-- A core stays one where strings and pairs are only added.
use Rattle.std.proofs.Common.{◌≡◌, ℕ, Bool, false, List, [], ◌++◌, Some, slice_get, refl, sym, subst}
use Rattle.t_base.specs.declared.basics.Span.{Span}
use Rattle.t_base.specs.declared.basics.Var.{Var}
use Rattle.t_base.specs.declared.shared_parts.Const.{Const}
use Rattle.t_base.specs.declared.shared_parts.Shared.{Shared}
use Rattle.t_reader.specs.Grammar.{fix, char, nil, truth, string, symbol}
use Rattle.t_core.specs.declared.forms.Core.{Core}
use Rattle.t_core.specs.declared.forms.Core.TheVariants as Node
use Rattle.t_core.specs.Nodes.{parts_of, Part}
use Rattle.t_forms.specs.Data.{Datum, atom, cons, given, variable, builtin, operation, listing}
use Rattle.t_forms.specs.Names.{Scope, Bound}
use Rattle.t_forms.proofs.Keeping.{keeps_append}
use Rattle.t_rows.specs.Rows.{Shape, constant, Part as Form}
use Rattle.t_expand.specs.Growth.{IsGrown}
use Rattle.expansion.specs.Meaning.{top_scope, RootMeans, IsQuoted, Fits, Nodes, Means, as_form, as_node, AllMean, no_parts, one_part}

stays : {A : Type 0} (xs ys more : List A) (k : ℕ) (x : A) → ys ≡ xs ++ more → slice_get xs k ≡ Some x → slice_get ys k ≡ Some x
stays {A} xs ys more k x e h = subst (λ zs. slice_get zs k ≡ Some x) (sym e) (keeps_append xs more k x h)

quoted_grown : (old new : Shared) → IsGrown old new → (d : Datum) (c : Const) → IsQuoted old d c → IsQuoted new d c
quoted_grown old new g (atom s (given (fix z))) c h = h
quoted_grown old new g (atom s (given (char z))) c h = h
quoted_grown old new g (atom s (given nil)) c h = h
quoted_grown old new g (atom s (given truth)) c h = h
quoted_grown old new g (atom s (given (string bytes))) c h = (h.0, h.1, stays old.strings.items new.strings.items g.strings.0 h.0 bytes g.strings.1 h.2)
quoted_grown old new g (atom s (given (symbol text))) c h = (h.0, h.1, subst (λ names. slice_get names h.0.0 ≡ Some text) (sym g.names) h.2)
quoted_grown old new g (atom s (variable v)) c h = h
quoted_grown old new g (atom s (builtin p)) c h = h
quoted_grown old new g (atom s (operation o)) c h = h
quoted_grown old new g (atom s listing) c h = h
quoted_grown old new g (cons s head tail) c h =
    (h.0, h.1, h.2, stays old.pairs.items new.pairs.items g.pairs.0 h.0 h.1 g.pairs.1 h.3, quoted_grown old new g head h.1.0 h.4, quoted_grown old new g tail h.1.1 h.5)

fits_grown : (old new : Shared) → IsGrown old new → (vars : List Var) (tail : Bool) (s : Shape) (c : Core) → Fits old vars tail s c → Fits new vars tail s c
fits_grown old new g vars tail (constant d) (Node.Const c) h = quoted_grown old new g d c h
fits_grown old new g vars tail _ _ h = h

mutual
  pub means_grown : (old new : Shared) (n : Nodes) → IsGrown old new → (vars : List Var) (scope : Scope) (d : Datum) (tail : Bool) (k : ℕ)
      → Means old n vars scope d tail k → Means new n vars scope d tail k
  means_grown old new n g vars scope d tail k (as_form vs sc dd e t kk r m) = as_form vs sc dd e t kk r (means_grown old new n g vs sc e t kk m)
  means_grown old new n g vars scope d tail k (as_node vs sc dd t kk shape parts c r at span f all) =
      as_node vs sc dd t kk shape parts c r at span (fits_grown old new g vs t shape c f) (all_grown old new n g vs sc parts (parts_of c t) all)

  all_grown : (old new : Shared) (n : Nodes) → IsGrown old new → (vars : List Var) (scope : Scope) (ps : List Form) (qs : List Part)
      → AllMean old n vars scope ps qs → AllMean new n vars scope ps qs
  all_grown old new n g vars scope ps qs (no_parts vs sc) = no_parts vs sc
  all_grown old new n g vars scope ps qs (one_part vs sc p q pps qqs l m rest) =
      one_part vs sc p q pps qqs l (means_grown old new n g _ _ p.form q.tail q.at m) (all_grown old new n g vs sc pps qqs rest)

-- ---- forms

same_nodes : (n : Nodes) (cores : List Core) (spans : List Span) → cores ≡ n.nodes → spans ≡ n.spans → record { nodes = cores; spans = spans } ≡ n
same_nodes n cores spans e f = rw (e, f) refl

-- what is made of a form is one of a later unit
pub root_means : (defined : List Bound) (old later : Shared) (n : Nodes) (cores : List Core) (spans : List Span) (vars : List Var) (d : Datum) (root : ℕ)
    → cores ≡ n.nodes → spans ≡ n.spans → vars ≡ [] → IsGrown old later → Means old n vars (top_scope defined) d false root
    → RootMeans defined later (record { nodes = cores; spans = spans }) d root
root_means defined old later n cores spans vars d root e f v grown m =
    let same : record { nodes = cores; spans = spans } ≡ n = same_nodes n cores spans e f in
    subst (λ x. Means later x [] (top_scope defined) d false root) (sym same)
    (means_grown old later n grown [] (top_scope defined) d false root (subst (λ vs. Means old n vs (top_scope defined) d false root) v m))
