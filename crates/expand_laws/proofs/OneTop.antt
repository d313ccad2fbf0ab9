-- One form at top level, made from what it is made of.
use Rattle.std.proofs.Common.{◌≡◌, inr, ℕ, ◌*◌, ◌<◌, ◌≤◌, ◌^◌, true, false, IsTrue, List, [], ◌∷◌, length, All, Contains, Option, Some, None, slice_get, refl, sym, ap, subst, ◌∙◌, arith}
use Rattle.std.specs.Prelude.{codes}
use Rattle.std.specs.List.{flat_map}
use Rattle.std.specs.Option.{option_map_or, option_and_then}
use Rattle.std.proofs.lemmas.List.{append-nil, length-map}
use Rattle.std.proofs.lemmas.List.Elements.{All-nil, Contains-push, Contains-append_left}
use Rattle.t_base.specs.declared.basics.Span.{Span}
use Rattle.t_base.specs.declared.basics.Var.{Var}
use Rattle.t_base.specs.declared.shared_parts.Const.{Const}
use Rattle.t_prim.specs.SharedParts.{IsConst}
use Rattle.t_core.specs.declared.forms.Core.TheVariants as Node
use Rattle.t_base.specs.declared.shared_parts.Shared.{Shared}
use Rattle.t_core.specs.Nodes.{has_self, binders_of as node_binders}
use Rattle.t_core.specs.Whole.{NamesAreThere, IsShaped, IsDefault}
use Rattle.t_forms.specs.Data.{Datum, Binder, Name, written, binders_of, listed, names}
use Rattle.t_forms.specs.Names.{Bound, Scope}
use Rattle.t_forms.proofs.Lists.{items_listed}
use Rattle.t_rows.specs.declared.refusal.Refusal.{Refusal}
use Rattle.t_rows.specs.Rows.{Definition, define, lset, operation_form, lambda_form, lambda_row, row, node, lambda, inside, body, twice, if_formed, items_row, word_, Part, refusal}
use Rattle.t_rows.specs.declared.refusal.SyntaxKind.TheVariants.{BadForm}
use Rattle.expansion.specs.Meaning.{Nodes, RootMeans, top_scope}
use Rattle.expansion.specs.Refusals.{Refused, at_form, RefusedTop}
use Rattle.expansion.specs.Units.{Top, defining, broken, expression}
use Rattle.expand_laws.proofs.Made.{Stock, FormMade, strings_named, pairs_named}
use Rattle.expansion.specs.Counting.{numbers}
use Rattle.expand_laws.proofs.Once.{once_none, once_of}
use Rattle.expand_laws.proofs.Premises.{IsFormOf, Makes, MakesForms}
use Rattle.expand_laws.proofs.Sizes.{size}
use Rattle.expand_laws.proofs.TopsMade.{TopMade, TopStands, IsFilled, top_size}

-- ---- what is known of a form at top level

-- the name of a definition is a symbol of the text
pub record IsNamed (texts : List (List ℕ)) (n : Name) : Type 0 where
  pub text : List ℕ
  pub place : ℕ
  pub is : n ≡ written text
  pub at : slice_get texts place ≡ Some text

-- the LAMBDA of a default, whose parameters are one at least
pub record IsDefaultForm (ps : List Binder) (d : Datum) : Type 0 where
  pub span : Span
  pub params : List Datum
  pub first : Datum
  pub others : List Datum
  pub is : d ≡ lambda_form span (listed span params) (first ∷ others)
  pub binds : binders_of params ≡ Some ps
  pub some : 0 < length ps

abbrev pub IsFineDefault : List (List ℕ) → List Binder → Option Datum → Type 0
IsFineDefault texts ps None = Unit {0}
IsFineDefault texts ps (Some d) = IsFormOf texts d × IsDefaultForm ps d

abbrev pub IsFineDefinition : List (List ℕ) → Definition → Type 0
IsFineDefinition texts (define b d) = IsNamed texts b.name × IsFormOf texts d
IsFineDefinition texts (lset b d) = IsNamed texts b.name × IsFormOf texts d
IsFineDefinition texts (operation_form b ps d) = IsNamed texts b.name × IsFineDefault texts ps d

abbrev pub IsFineTop : List (List ℕ) → Top → Type 0
IsFineTop texts (defining d) = IsFineDefinition texts d
IsFineTop texts (broken s) = Unit {0}
IsFineTop texts (expression d) = IsFormOf texts d

-- ---- a form with nodes

pub record MadeTop (texts : List (List ℕ)) (defined : List Bound) (t : Top) (before : Stock) : Type 0 where
  pub after : Stock
  pub made : TopMade texts defined t before after

top_of_form : (texts : List (List ℕ)) (defined : List Bound) (t : Top) (d : Datum) (before : Stock) (m : Makes texts defined d before) → top_size t ≡ size d
    → ((shared : Shared) (n : Nodes) (root : ℕ) → RootMeans defined shared n d root → TopStands defined shared n root t) → IsFilled t m.made.nodes m.made.root
    → MadeTop texts defined t before
top_of_form texts defined t d before m same stands filled = record {
  after = m.after;
  made = record {
    nodes = m.made.nodes;
    spans = m.made.spans;
    root = m.made.root;
    new_strings = m.made.new_strings;
    new_pairs = m.made.new_pairs;
    strings_are = m.made.strings_are;
    pairs_are = m.made.pairs_are;
    next = m.made.next;
    spans_are = m.made.spans_are;
    means = λ shared h. stands shared (record { nodes = m.made.nodes; spans = m.made.spans }) m.made.root (m.made.means shared h);
    tree = λ some. m.made.tree;
    filled = filled;
    shaped = m.made.shaped;
    named = m.made.named;
    vars_once = once_of before.next m.after.next (numbers (flat_map node_binders m.made.nodes)) m.made.bound_once m.made.bound_between;
    strings_once = once_of (length before.strings) (length m.after.strings) (strings_named m.made.nodes m.made.new_pairs) m.made.strings_once m.made.strings_between;
    pairs_once = once_of (length before.pairs) (length m.after.pairs) (pairs_named m.made.nodes m.made.new_pairs) m.made.pairs_once m.made.pairs_between;
    ascii = m.made.ascii;
    pairs_right = m.made.pairs_right;
    lower = m.made.lower;
    few_nodes = subst (λ n. length m.made.nodes ≤ 2 ^ 31 * n) (sym same) m.few_nodes;
    few_strings = subst (λ n. length m.made.new_strings ≤ 2 ^ 31 * n) (sym same) m.few_strings;
    few_pairs = subst (λ n. length m.made.new_pairs ≤ 2 ^ 31 * n) (sym same) m.few_pairs;
  };
}

-- ---- a default

lambda_row_is : (scope : Scope) (s : Span) (params b : Datum) (bs : List Datum) → row scope (lambda_form s params (b ∷ bs)) ≡ lambda_row s (params ∷ b ∷ bs)
lambda_row_is scope s params b bs = ap (items_row scope s) (items_listed s (word_ s (codes "lambda") ∷ params ∷ b ∷ bs))

formed_row : (s : Span) (params : List Datum) (b : Datum) (bs : List Datum) (ps : List Binder) → binders_of params ≡ Some ps
    → lambda_row s (listed s params ∷ b ∷ bs) ≡ node lambda (twice ps) (inside (names ps) (body s (b ∷ bs)) ∷ [])
formed_row s params b bs ps e =
    ap (λ o. if_formed s (λ xs. node lambda (twice xs) (inside (names xs) (body s (b ∷ bs)) ∷ [])) (option_and_then binders_of o)) (items_listed s params)
    ∙ ap (λ o. if_formed s (λ xs. node lambda (twice xs) (inside (names xs) (body s (b ∷ bs)) ∷ [])) o) e

not_twice : (scope : Scope) (d : Datum) (rs : List Refusal) (parts : List Part) → row scope d ≡ node lambda rs parts → ((r : Refusal) → Refused scope d r → ⊥) → rs ≡ []
not_twice scope d [] parts e none = refl
not_twice scope d (r ∷ rs) parts e none = absurd (none r (at_form scope d r lambda (r ∷ rs) parts e (Contains-append_left (r ∷ []) rs r (Contains-push [] r))))

pub default_row : (defined : List Bound) (ps : List Binder) (d : Datum) (f : IsDefaultForm ps d) → ((r : Refusal) → Refused (top_scope defined) d r → ⊥)
    → row (top_scope defined) d ≡ node lambda [] (inside (names ps) (body f.span (f.first ∷ f.others)) ∷ [])
default_row defined ps d f none =
    let whole : row (top_scope defined) d ≡ node lambda (twice ps) (inside (names ps) (body f.span (f.first ∷ f.others)) ∷ []) =
    ap (row (top_scope defined)) f.is ∙ lambda_row_is (top_scope defined) f.span (listed f.span f.params) f.first f.others ∙ formed_row f.span f.params f.first f.others ps f.binds in
    let empty = not_twice (top_scope defined) d (twice ps) (inside (names ps) (body f.span (f.first ∷ f.others)) ∷ []) whole none in
    whole ∙ ap (λ rs. node lambda rs (inside (names ps) (body f.span (f.first ∷ f.others)) ∷ [])) empty

pub self_there : (params : List Var) (body : ℕ) → 0 < length params → IsTrue (has_self (Node.Lambda params body))
self_there [] body less = absurd (omega (arith, less))
self_there (v ∷ params) body less = refl

default_filled : (texts : List (List ℕ)) (defined : List Bound) (ps : List Binder) (d : Datum) (before after : Stock) (made : FormMade texts defined d before after) → IsDefaultForm ps d
    → ((r : Refusal) → Refused (top_scope defined) d r → ⊥) → IsDefault made.nodes made.root true
default_filled texts defined ps d before after made f none =
    let root = made.root_is (names ps) (body f.span (f.first ∷ f.others)) (default_row defined ps d f none) in
    let counted = root.3 in
    let same : length (names ps) ≡ length ps = length-map ps (λ b. b.name) in
    let some = f.some in
    let self = self_there root.0 root.1 (omega (arith, counted, same, some)) in
    (made.some, subst (λ o. IsTrue (option_map_or has_self o false)) (sym root.2) self)

-- ---- an operation without a default

empty_top : (texts : List (List ℕ)) (defined : List Bound) (b : Binder) (ps : List Binder) (before : Stock) → twice ps ≡ [] → MadeTop texts defined (defining (operation_form b ps None)) before
empty_top texts defined b ps before e = record {
  after = before;
  made = record {
    nodes = [];
    spans = [];
    root = 0;
    new_strings = [];
    new_pairs = [];
    strings_are = sym (append-nil before.strings);
    pairs_are = sym (append-nil before.pairs);
    next = omega arith;
    spans_are = refl;
    means = λ shared h. (e, refl, refl);
    tree = λ some. absurd (omega (arith, some));
    filled = (refl, refl);
    shaped = λ shared d. All-nil (IsShaped shared []);
    named = λ shared h d. All-nil (NamesAreThere shared);
    vars_once = once_none before.next;
    strings_once = once_none (length before.strings);
    pairs_once = once_none (length before.pairs);
    ascii = All-nil (λ bytes. All (λ b. b < 128) bytes);
    pairs_right = λ shared h. All-nil (λ (p : Const × Const). IsConst shared p.0 × IsConst shared p.1);
    lower = λ l. l;
    few_nodes = omega arith;
    few_strings = omega arith;
    few_pairs = omega arith;
  };
}

none_contained : (rs : List Refusal) → ((r : Refusal) → Contains rs r → ⊥) → rs ≡ []
none_contained [] none = refl
none_contained (r ∷ rs) none = absurd (none r (Contains-append_left (r ∷ []) rs r (Contains-push [] r)))

-- ---- any of them

pub one_top : (texts : List (List ℕ)) (defined : List Bound) (earlier : List Top) (t : Top) (before : Stock) → MakesForms texts defined → IsFineTop texts t → top_size t ≤ 2 ^ 26
    → ((r : Refusal) → RefusedTop defined earlier t r → ⊥) → MadeTop texts defined t before
one_top texts defined earlier (defining (define b d)) before makes fine few none =
    let m = makes d before fine.1 few (λ r h. none r (inr h)) in
    top_of_form texts defined (defining (define b d)) d before m refl (λ shared n root h. h) m.made.some
one_top texts defined earlier (defining (lset b d)) before makes fine few none =
    let m = makes d before fine.1 few (λ r h. none r (inr h)) in
    top_of_form texts defined (defining (lset b d)) d before m refl (λ shared n root h. h) m.made.some
one_top texts defined earlier (defining (operation_form b ps (Some d))) before makes fine few none =
    let f = fine.1 in
    let m = makes d before f.0 few (λ r h. none r (inr h)) in
    top_of_form texts defined (defining (operation_form b ps (Some d))) d before m refl (λ shared n root h. h)
    (default_filled texts defined ps d before m.after m.made f.1 (λ r h. none r (inr h)))
one_top texts defined earlier (defining (operation_form b ps None)) before makes fine few none =
    empty_top texts defined b ps before (none_contained (twice ps) (λ r h. none r (inr h)))
one_top texts defined earlier (broken s) before makes fine few none = absurd (none (refusal BadForm s) refl)
one_top texts defined earlier (expression d) before makes fine few none =
    let m = makes d before fine few (λ r h. none r h) in
    top_of_form texts defined (expression d) d before m refl (λ shared n root h. h) m.made.some
