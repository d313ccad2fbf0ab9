-- The data of a whole text unit have the bytes of its strings, and what the forms at top level are made of has no more.
use Rattle.std.proofs.Common.{◌≡◌, ℕ, ◌+◌, ◌<◌, ◌≤◌, Bool, true, false, if◌then◌else◌, List, [], ◌∷◌, length, map, Option, Some, None, refl, sym, subst, ◌∙◌, arith}
use Rattle.std.specs.List.{AllByRecursion}
use Rattle.std.specs.Option.{option_map}
use Rattle.t_base.specs.declared.basics.Span.{Span}
use Rattle.t_objects.specs.declared.words.Word.{Word}
use Rattle.t_objects.specs.declared.words.Word.TheVariants as word
use Rattle.t_reader.specs.declared.unit.Datum.{Datum as NodeDatum}
use Rattle.t_reader.specs.declared.unit.Datum.TheVariants.{Fix, Char, Nil, True, Str, Sym, Pair}
use Rattle.t_reader.specs.declared.unit.Node.{Node}
use Rattle.t_reader.specs.declared.unit.Unit.{Unit as TextUnit}
use Rattle.t_reader.specs.Grammar.{Value, fix, char, nil, truth, string, symbol, Tree, leaf, pair}
use Rattle.t_reader.specs.Unit.{IsValue, Holds, HoldTrees, children, IsWhole, IsWholeDatum, string_length, string_bytes}
use Rattle.t_forms.specs.Data.{Datum, atom, cons, datum_of, span_of, items_of, listed, word_of, Binder, binder_of, binders_of}
use Rattle.t_forms.proofs.Loads.{holds_within}
use Rattle.t_rows.specs.Rows.{Definition, define, lset, operation_form, lambda_form, define_procedure, define_of, lset_of, default_of, define_operation_with, define_operation_of, definition_of_word}
use Rattle.expansion.specs.Units.{Top, defining, broken, expression, defining_or_broken, defines, definition_of_items, definition_in, top_of, is_herald_items, without_herald, tops_of}
use Rattle.expand_laws.proofs.Always.{weigh, through, mapped}
use Rattle.expand_laws.proofs.Weights.{listed_total}
use Rattle.kept_strings.proofs.Arenas.{Ordered, weight, weight_at, weighed, children_low}
use Rattle.kept_strings.proofs.Bytes.{bytes, all_bytes, bytes_listed, items_bytes}
use Rattle.kept_strings.proofs.BindingRows.{lambda_form_bytes}

-- ---- the text

abbrev node_length : Node → ℕ
node_length n = string_length n.datum

abbrev node_children : Node → List ℕ
node_children n = children n.datum

child_low : (names : List (List ℕ)) (k : ℕ) (d : NodeDatum) → IsWholeDatum names k d → AllByRecursion (λ j. j < k) (children d)
child_low names k (Pair head tail) w = (w.0, (w.1, tt))
child_low names k (Fix z) w = tt
child_low names k (Char c) w = tt
child_low names k Nil w = tt
child_low names k True w = tt
child_low names k (Str text) w = tt
child_low names k (Sym n) w = tt

abbrev in_text : List Node → ℕ → ℕ
in_text nodes k = weight Node node_length node_children nodes k

value_bytes : (names : List (List ℕ)) (f : ℕ → ℕ) (s : Span) (d : NodeDatum) (v : Value) → IsValue names d v
    → string_length d + listed_total f (children d) ≡ bytes (datum_of (leaf s v))
unfolding listed_total
value_bytes names f s d (fix z) is = rw is refl
value_bytes names f s d (char c) is = rw is refl
value_bytes names f s d nil is = rw is refl
value_bytes names f s d truth is = rw is refl
value_bytes names f s d (string text) is = rw is (omega arith)
value_bytes names f s d (symbol text) is = rw is.1 refl

module _ (names : List (List ℕ)) (nodes : List Node) (ordered : Ordered Node node_length node_children nodes) where
  tree_bytes : (key : ℕ) (t : Tree) → Holds names nodes key t → in_text nodes key ≡ bytes (datum_of t)
  unfolding listed_total
  tree_bytes key (leaf s v) h =
      weight_at Node node_length node_children nodes ordered key (record { span = s; datum = h.0 }) h.1 ∙ value_bytes names (in_text nodes) s h.0 v h.2
  tree_bytes key (pair s head tail) h =
      let a = tree_bytes h.0 head h.5 in
      let b = tree_bytes h.1 tail h.6 in
      let w : in_text nodes key ≡ 0 + (in_text nodes h.0 + (in_text nodes h.1 + 0)) =
      weight_at Node node_length node_children nodes ordered key (record { span = s; datum = Pair h.0 h.1 }) h.2 in
      omega (arith, a, b, w)

  trees_bytes : (keys : List ℕ) (ts : List Tree) → HoldTrees names nodes keys ts
      → (listed_total (in_text nodes) keys ≡ all_bytes (map datum_of ts)) × AllByRecursion (λ j. j < length nodes) keys
  unfolding listed_total
  trees_bytes keys [] h = rw h (refl, tt)
  trees_bytes keys (t ∷ ts) h =
      let rest = trees_bytes h.1 ts h.4 in
      let below = holds_within names nodes h.0 t h.3 in
      let e = tree_bytes h.0 t h.3 in
      let f = rest.0 in
      rw h.2 (omega (arith, e, f), (below, rest.1))

pub text_bytes : (u : TextUnit) (ts : List Tree) → IsWhole u → HoldTrees u.names u.nodes.items u.forms.items ts → all_bytes (map datum_of ts) ≡ string_bytes u.nodes.items
text_bytes u ts w h =
    let nodes = u.nodes.items in
    let ordered : Ordered Node node_length node_children nodes = λ k n e. child_low u.names k n.datum (w.data_whole k n e) in
    let t = trees_bytes u.names nodes ordered u.forms.items ts h in
    let below = children_low Node node_children 0 nodes (length nodes) (omega arith)
    (λ i x e. subst (λ b. AllByRecursion (λ j. j < b) (children x.datum)) (omega arith) (ordered i x e)) in
    let all = weighed Node node_length node_children nodes ordered u.forms.items (record { first_low = t.1; second_low = below; once = w.named_once }) in
    sym t.0 ∙ all

-- ---- the forms at top level

abbrev pub definition_bytes : Definition → ℕ
definition_bytes (define b d) = bytes d
definition_bytes (lset b d) = bytes d
definition_bytes (operation_form b ps None) = 0
definition_bytes (operation_form b ps (Some d)) = bytes d

abbrev pub top_bytes : Top → ℕ
top_bytes (defining d) = definition_bytes d
top_bytes (broken s) = 0
top_bytes (expression d) = bytes d

-- what there is has so many at most
abbrev Defines : ℕ → Option Definition → Type 0
Defines n o = (d : Definition) → o ≡ Some d → definition_bytes d ≤ n

procedure_fits : (s : Span) (fs bs : List Datum) → Defines (all_bytes fs + all_bytes bs) (define_procedure s fs bs)
procedure_fits s [] bs d e = cc
procedure_fits s (f ∷ xs) [] d e = cc
procedure_fits s (f ∷ xs) (b ∷ bs) d e =
    let g = through (λ ps. option_map (λ (x : Binder). define x (lambda_form s (listed s xs) (b ∷ bs))) (binder_of f)) (binders_of xs) d e in
    let m = mapped (λ (x : Binder). define x (lambda_form s (listed s xs) (b ∷ bs))) (binder_of f) d g.gives in
    let u = bytes_listed s xs in
    let v = lambda_form_bytes s (listed s xs) (b ∷ bs) in
    subst (λ x. definition_bytes x ≤ all_bytes (f ∷ xs) + all_bytes (b ∷ bs)) m.gives (omega (arith, u, v))

define_fits : (s : Span) (ds : List Datum) → Defines (all_bytes ds) (define_of s ds)
define_fits s [] d e = cc
define_fits s (cons t head tail ∷ bs) d e =
    let g = through (λ fs. define_procedure s fs bs) (items_of (cons t head tail)) d e in
    let w = items_bytes (cons t head tail) g.got g.is in
    let l = procedure_fits s g.got bs d g.gives in
    omega (arith, w, l)
define_fits s (atom t a ∷ []) d e = cc
define_fits s (atom t a ∷ x ∷ []) d e =
    let m = mapped (λ (y : Binder). define y x) (binder_of (atom t a)) d e in
    subst (λ y. definition_bytes y ≤ all_bytes (atom t a ∷ x ∷ [])) m.gives (omega arith)
define_fits s (atom t a ∷ x ∷ y ∷ ds) d e = cc

lset_fits : (ds : List Datum) → Defines (all_bytes ds) (lset_of ds)
lset_fits [] d e = cc
lset_fits (a ∷ []) d e = cc
lset_fits (a ∷ x ∷ []) d e =
    let m = mapped (λ (y : Binder). lset y x) (binder_of a) d e in
    subst (λ y. definition_bytes y ≤ all_bytes (a ∷ x ∷ [])) m.gives (omega arith)
lset_fits (a ∷ x ∷ y ∷ ds) d e = cc

default_fits : (s : Span) (op : Binder) (ps : List Binder) (xs bs : List Datum) → definition_bytes (operation_form op ps (default_of s xs bs)) ≤ all_bytes xs + all_bytes bs
default_fits s op ps xs [] = omega arith
default_fits s op ps xs (b ∷ bs) =
    let u = bytes_listed s xs in
    let v = lambda_form_bytes s (listed s xs) (b ∷ bs) in
    omega (arith, u, v)

operation_with_fits : (s : Span) (os bs : List Datum) → Defines (all_bytes os + all_bytes bs) (define_operation_with s os bs)
operation_with_fits s [] bs d e = cc
operation_with_fits s (op ∷ []) bs d e = cc
operation_with_fits s (op ∷ me ∷ xs) bs d e =
    let g = through (λ ps. option_map (λ (o : Binder). operation_form o ps (default_of s (me ∷ xs) bs)) (binder_of op)) (binders_of (me ∷ xs)) d e in
    let m = mapped (λ (o : Binder). operation_form o g.got (default_of s (me ∷ xs) bs)) (binder_of op) d g.gives in
    let l = default_fits s m.got g.got (me ∷ xs) bs in
    subst (λ x. definition_bytes x ≤ all_bytes (op ∷ me ∷ xs) + all_bytes bs) m.gives (omega (arith, l))

operation_fits : (s : Span) (ds : List Datum) → Defines (all_bytes ds) (define_operation_of s ds)
operation_fits s [] d e = cc
operation_fits s (cons t head tail ∷ bs) d e =
    let g = through (λ os. define_operation_with s os bs) (items_of (cons t head tail)) d e in
    let w = items_bytes (cons t head tail) g.got g.is in
    let l = operation_with_fits s g.got bs d g.gives in
    omega (arith, w, l)
operation_fits s (atom t a ∷ []) d e =
    let m = mapped (λ (o : Binder). operation_form o [] None) (binder_of (atom t a)) d e in
    subst (λ x. definition_bytes x ≤ all_bytes (atom t a ∷ [])) m.gives (omega arith)
operation_fits s (atom t a ∷ x ∷ ds) d e = cc

word_fits : (s : Span) (ds : List Datum) (o : Option Word) → Defines (all_bytes ds) (definition_of_word s ds o)
word_fits s ds (Some word.Define) d e = define_fits s ds d e
word_fits s ds (Some word.Lset) d e = lset_fits ds d e
word_fits s ds (Some word.DefineOperation) d e = operation_fits s ds d e
word_fits s ds _ d e = cc

items_fit : (n : ℕ) (s : Span) (o : Option (List Datum)) → ((ds : List Datum) → o ≡ Some ds → all_bytes ds ≤ n) → Defines n (definition_of_items s o)
items_fit n s None h d e = cc
items_fit n s (Some []) h d e = cc
items_fit n s (Some (f ∷ ds)) h d e =
    let l = word_fits s ds (word_of f) d e in
    let w = h (f ∷ ds) refl in
    omega (arith, l, w)

definition_fits : (n : ℕ) (s : Span) (o : Option Definition) → Defines n o → top_bytes (defining_or_broken s o) ≤ n
definition_fits n s None h = omega arith
definition_fits n s (Some d) h = h d refl

top_if : (b : Bool) (n : ℕ) (x y : Top) → top_bytes x ≤ n → top_bytes y ≤ n → top_bytes (if b then x else y) ≤ n
top_if true n x y h k = h
top_if false n x y h k = k

top_fits : (d : Datum) → top_bytes (top_of d) ≤ bytes d
top_fits d =
    top_if (defines (items_of d)) (bytes d) (defining_or_broken (span_of d) (definition_in d)) (expression d)
    (definition_fits (bytes d) (span_of d) (definition_in d) (items_fit (bytes d) (span_of d) (items_of d) (λ ds e. let w = items_bytes d ds e in omega (arith, w))))
    (omega arith)

all_fit : (ds : List Datum) → weigh top_bytes (map top_of ds) ≤ all_bytes ds
all_fit [] = omega arith
all_fit (d ∷ ds) = let a = top_fits d in let b = all_fit ds in omega (arith, a, b)

without_if : (b : Bool) (n : ℕ) (xs ys : List Datum) → all_bytes xs ≤ n → all_bytes ys ≤ n → all_bytes (if b then xs else ys) ≤ n
without_if true n xs ys h k = h
without_if false n xs ys h k = k

without_fits : (ds : List Datum) → all_bytes (without_herald ds) ≤ all_bytes ds
without_fits [] = omega arith
without_fits (d ∷ others) = without_if (is_herald_items (items_of d)) (all_bytes (d ∷ others)) others (d ∷ others) (omega arith) (omega arith)

pub tops_fit : (ds : List Datum) → weigh top_bytes (tops_of ds) ≤ all_bytes ds
tops_fit ds = let a = without_fits ds in let b = all_fit (without_herald ds) in omega (arith, a, b)
