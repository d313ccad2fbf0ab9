-- The operation that a datum of a text defines is that of its form at top level.
use Rattle.std.proofs.Common.{◌≡◌, ℕ, Bool, true, false, not, ◌&&◌, is_some, List, [], ◌∷◌, map, Option, Some, None, refl, sym, ap, ◌∙◌, if◌then◌else◌}
use Rattle.std.specs.Option.{option_map, option_and_then}
use Rattle.t_base.specs.declared.basics.Span.{Span}
use Rattle.t_reader.specs.Grammar.{Tree, Value, leaf, pair, fix, char, nil, truth, string, symbol}
use Rattle.t_objects.specs.declared.words.Word.{Word}
use Rattle.t_objects.specs.declared.words.Word.TheVariants as word
use Rattle.t_objects.specs.Lists.{is_nil, is_list_of, name_of as text_name, word_of as text_word, unless_reserved as text_unless}
use Rattle.t_objects.specs.Operations.{Operation, operation, operation_if, operation_with, operation_behind, operation_of, defines_operation, is_pair}
use Rattle.t_objects.specs.Words.{word_named}
use Rattle.t_forms.specs.Data.{Datum, atom, cons, datum_of, span_of, items_of, written, name_of, word_of, Binder, binder, binder_of, binders_of, all_of, unless_reserved, listed}
use Rattle.t_rows.specs.Rows.{Definition, define, lset, operation_form, lambda_form, define_of, define_procedure, lset_of, default_of, define_operation_with, define_operation_of, definition_of_word}
use Rattle.expansion.specs.Units.{Top, defining, expression, is_defining, defining_or_broken, defines, definition_of_items, top_of, text_of}

-- the operation that a form at top level defines
abbrev pub defined_by : Definition → Option Operation
defined_by (operation_form b ps d) = Some (operation (is_some d) (text_of b.name))
defined_by _ = None

abbrev pub operation_in : Top → Option Operation
operation_in (defining d) = defined_by d
operation_in _ = None

-- ---- names and lists

word_same : (t : Tree) → text_word t ≡ word_of (datum_of t)
word_same (leaf s (fix z)) = refl
word_same (leaf s (char c)) = refl
word_same (leaf s nil) = refl
word_same (leaf s truth) = refl
word_same (leaf s (string bytes)) = refl
word_same (leaf s (symbol text)) = refl
word_same (pair s head tail) = refl

unless_same : (text : List ℕ) (w : Option Word) → word_named text ≡ w → unless_reserved text ≡ option_map written (text_unless w (Some text))
unless_same text None e = rw e refl
unless_same text (Some w) e = rw e refl

name_same : (t : Tree) → name_of (datum_of t) ≡ option_map written (text_name t)
name_same (leaf s (fix z)) = refl
name_same (leaf s (char c)) = refl
name_same (leaf s nil) = refl
name_same (leaf s truth) = refl
name_same (leaf s (string bytes)) = refl
name_same (leaf s (symbol text)) = unless_same text (word_named text) refl
name_same (pair s head tail) = refl

abbrev is_empty : {A : Type 0} → List A → Bool
is_empty [] = true
is_empty (x ∷ xs) = false

nil_same : (t : Tree) (ds : List Datum) → items_of (datum_of t) ≡ Some ds → is_nil t ≡ is_empty ds
nil_same (leaf s (fix z)) ds e = absurd (let x : ⊥ = cc in x)
nil_same (leaf s (char c)) ds e = absurd (let x : ⊥ = cc in x)
nil_same (leaf s nil) [] e = refl
nil_same (leaf s nil) (d ∷ ds) e = absurd (let x : ⊥ = cc in x)
nil_same (leaf s truth) ds e = absurd (let x : ⊥ = cc in x)
nil_same (leaf s (string bytes)) ds e = absurd (let x : ⊥ = cc in x)
nil_same (leaf s (symbol text)) ds e = absurd (let x : ⊥ = cc in x)
nil_same (pair s head tail) ds e = by (items_of (datum_of tail)) e
  where
    by : (o : Option (List Datum)) → option_map (λ items. datum_of head ∷ items) o ≡ Some ds → false ≡ is_empty ds
    by None f = absurd (let x : ⊥ = cc in x)
    by (Some items) f = let same : ds ≡ datum_of head ∷ items = cc in rw same refl

-- a proper list
list_same : (t : Tree) → is_list_of false t ≡ is_some (items_of (datum_of t))
list_same (leaf s (fix z)) = refl
list_same (leaf s (char c)) = refl
list_same (leaf s nil) = refl
list_same (leaf s truth) = refl
list_same (leaf s (string bytes)) = refl
list_same (leaf s (symbol text)) = refl
list_same (pair s head tail) = list_same tail ∙ by (items_of (datum_of tail))
  where
    by : (o : Option (List Datum)) → is_some o ≡ is_some (option_map (λ items. datum_of head ∷ items) o)
    by None = refl
    by (Some items) = refl

-- a proper list of names
binder_same : (t : Tree) → is_some (binder_of (datum_of t)) ≡ is_some (text_name t)
binder_same t = ap (λ n. is_some (option_map (binder (span_of (datum_of t))) n)) (name_same t) ∙ by (text_name t)
  where
    by : (n : Option (List ℕ)) → is_some (option_map (binder (span_of (datum_of t))) (option_map written n)) ≡ is_some n
    by None = refl
    by (Some text) = refl

front_some : (n : Option (List ℕ)) (b : Option Binder) (os : List (Option Binder)) (rest : Option (List Binder)) → is_some b ≡ is_some n → all_of os ≡ rest
    → is_some (all_of (b ∷ os)) ≡ (is_some n && is_some rest)
front_some None None os rest e f = refl
front_some None (Some b) os rest e f = absurd (let x : ⊥ = cc in x)
front_some (Some text) None os rest e f = absurd (let x : ⊥ = cc in x)
front_some (Some text) (Some b) os None e f = rw f refl
front_some (Some text) (Some b) os (Some bs) e f = rw f refl

and_none : (b : Bool) → (b && false) ≡ false
and_none true = refl
and_none false = refl

and_both : (a b : Bool) → (a && b && false) ≡ false
and_both true true = refl
and_both true false = refl
and_both false true = refl
and_both false false = refl

names_same : (t : Tree) → is_list_of true t ≡ is_some (option_and_then binders_of (items_of (datum_of t)))
names_same (leaf s (fix z)) = refl
names_same (leaf s (char c)) = refl
names_same (leaf s nil) = refl
names_same (leaf s truth) = refl
names_same (leaf s (string bytes)) = refl
names_same (leaf s (symbol text)) = refl
names_same (pair s head tail) = ap (λ b. is_some (text_name head) && b) (names_same tail) ∙ by (items_of (datum_of tail))
  where
    by : (o : Option (List Datum)) → (is_some (text_name head) && is_some (option_and_then binders_of o))
        ≡ is_some (option_and_then binders_of (option_map (λ items. datum_of head ∷ items) o))
    by None = and_none (is_some (text_name head))
    by (Some items) =
        sym (front_some (text_name head) (binder_of (datum_of head)) (map binder_of items) (binders_of items) (binder_same head) refl)

-- ---- the rows of the defining words

define_named : (s : Span) (x : Datum) (e : Datum) (b : Option Binder) → operation_in (defining_or_broken s (option_map (λ g. define g e) b)) ≡ None
define_named s x e None = refl
define_named s x e (Some b) = refl

lset_named : (s : Span) (e : Datum) (b : Option Binder) → operation_in (defining_or_broken s (option_map (λ g. lset g e) b)) ≡ None
lset_named s e None = refl
lset_named s e (Some b) = refl

procedure_none : (s : Span) (fs bs : List Datum) → operation_in (defining_or_broken s (define_procedure s fs bs)) ≡ None
procedure_none s [] bs = refl
procedure_none s (f ∷ xs) [] = refl
procedure_none s (f ∷ xs) (b ∷ bs) = by (binders_of xs)
  where
    by : (o : Option (List Binder))
        → operation_in (defining_or_broken s (option_and_then (λ ps. option_map (λ g. define g (lambda_form s (listed s xs) (b ∷ bs))) (binder_of f)) o)) ≡ None
    by None = refl
    by (Some ps) = define_named s f (lambda_form s (listed s xs) (b ∷ bs)) (binder_of f)

define_none : (s : Span) (ds : List Datum) → operation_in (defining_or_broken s (define_of s ds)) ≡ None
define_none s [] = refl
define_none s (cons t head tail ∷ bs) = by (items_of (cons t head tail))
  where
    by : (o : Option (List Datum)) → operation_in (defining_or_broken s (option_and_then (λ fs. define_procedure s fs bs) o)) ≡ None
    by None = refl
    by (Some fs) = procedure_none s fs bs
define_none s (atom t a ∷ []) = refl
define_none s (atom t a ∷ e ∷ []) = define_named s (atom t a) e (binder_of (atom t a))
define_none s (atom t a ∷ e ∷ f ∷ ds) = refl

lset_none : (s : Span) (ds : List Datum) → operation_in (defining_or_broken s (lset_of ds)) ≡ None
lset_none s [] = refl
lset_none s (x ∷ []) = refl
lset_none s (x ∷ e ∷ []) = lset_named s e (binder_of x)
lset_none s (x ∷ e ∷ f ∷ ds) = refl

-- ---- the row of DEFINE-OPERATION

bare_named : (s at : Span) (n : Option (List ℕ))
    → operation_in (defining_or_broken s (option_map (λ o. operation_form o [] None) (option_map (binder at) (option_map written n)))) ≡ operation_if true false n
bare_named s at None = refl
bare_named s at (Some text) = refl

never_named : (default : Bool) (n : Option (List ℕ)) → operation_if false default n ≡ None
never_named default None = refl
never_named default (Some text) = refl

row_named : (s at : Span) (xs bs : List Datum) (ps : Option (List Binder)) (n : Option (List ℕ))
    → operation_in
    (defining_or_broken s
    (option_and_then (λ qs. option_map (λ o. operation_form o qs (default_of s xs bs)) (option_map (binder at) (option_map written n))) ps))
    ≡ operation_if (is_some ps) (not (is_empty bs)) n
row_named s at xs bs None n = sym (never_named (not (is_empty bs)) n)
row_named s at xs bs (Some ps) None = refl
row_named s at xs [] (Some ps) (Some text) = refl
row_named s at xs (b ∷ bs) (Some ps) (Some text) = refl

-- a name alone
bare_same : (s t : Span) (v : Value) (body : Tree) (bs : List Datum) → items_of (datum_of body) ≡ Some bs
    → operation_in (defining_or_broken s (define_operation_of s (datum_of (leaf t v) ∷ bs))) ≡ operation_with (leaf t v) body
bare_same s t v body [] e =
    ap (λ n. operation_in (defining_or_broken s (option_map (λ o. operation_form o [] None) (option_map (binder t) n)))) (name_same (leaf t v))
    ∙ bare_named s t (text_name (leaf t v))
    ∙ ap (λ b. operation_if b false (text_name (leaf t v))) (sym (nil_same body [] e))
bare_same s t v body (b ∷ bs) e =
    sym (ap (λ x. operation_if x false (text_name (leaf t v))) (nil_same body (b ∷ bs) e) ∙ never_named false (text_name (leaf t v)))

-- a name with parameters
with_params : (s t u : Span) (op me others body : Tree) (bs : List Datum) (ys : Option (List Datum)) → items_of (datum_of others) ≡ ys
    → items_of (datum_of body) ≡ Some bs
    → operation_in
    (defining_or_broken s
    (option_and_then (λ os. define_operation_with s os bs) (option_map (λ items. datum_of op ∷ items) (option_map (λ items. datum_of me ∷ items) ys))))
    ≡ operation_if (is_some (option_and_then binders_of (option_map (λ items. datum_of me ∷ items) ys))) (not (is_empty bs)) (text_name op)
with_params s t u op me others body bs None e f = sym (never_named (not (is_empty bs)) (text_name op))
with_params s t u op me others body bs (Some ys) e f =
    ap (λ n. operation_in
    (defining_or_broken s
    (option_and_then (λ qs. option_map (λ o. operation_form o qs (default_of s (datum_of me ∷ ys) bs)) (option_map (binder (span_of (datum_of op))) n))
    (binders_of (datum_of me ∷ ys))))) (name_same op)
    ∙ row_named s (span_of (datum_of op)) (datum_of me ∷ ys) bs (binders_of (datum_of me ∷ ys)) (text_name op)

and_true : (b : Bool) → (b && true) ≡ b
and_true true = refl
and_true false = refl

row_same : (s t : Span) (op params body : Tree) (bs : List Datum) → items_of (datum_of body) ≡ Some bs
    → operation_in (defining_or_broken s (define_operation_of s (datum_of (pair t op params) ∷ bs))) ≡ operation_with (pair t op params) body
row_same s t op (leaf u nil) body bs e = sym (never_named (not (is_nil body)) (text_name op))
row_same s t op (leaf u (fix z)) body bs e = sym (never_named (not (is_nil body)) (text_name op))
row_same s t op (leaf u (char z)) body bs e = sym (never_named (not (is_nil body)) (text_name op))
row_same s t op (leaf u truth) body bs e = sym (never_named (not (is_nil body)) (text_name op))
row_same s t op (leaf u (string bytes)) body bs e = sym (never_named (not (is_nil body)) (text_name op))
row_same s t op (leaf u (symbol text)) body bs e = sym (never_named (not (is_nil body)) (text_name op))
row_same s t op (pair u me others) body bs e =
    with_params s t u op me others body bs (items_of (datum_of others)) refl e
    ∙ ap (λ b. operation_if b (not (is_empty bs)) (text_name op)) (sym (names_same (pair u me others)))
    ∙ ap (λ b. operation_if (is_list_of true (pair u me others)) (not b) (text_name op)) (sym (nil_same body bs e))
    ∙ ap (λ b. operation_if b (not (is_nil body)) (text_name op))
    (sym (and_true (is_list_of true (pair u me others))) ∙ ap (λ b. is_list_of true (pair u me others) && b) (sym (list_same body ∙ ap is_some e)))

behind_same : (s : Span) (rest : Tree) (ds : List Datum) → items_of (datum_of rest) ≡ Some ds
    → operation_in (defining_or_broken s (define_operation_of s ds)) ≡ operation_behind rest
behind_same s (leaf t (fix z)) ds e = absurd (let x : ⊥ = cc in x)
behind_same s (leaf t (char c)) ds e = absurd (let x : ⊥ = cc in x)
behind_same s (leaf t nil) [] e = refl
behind_same s (leaf t nil) (d ∷ ds) e = absurd (let x : ⊥ = cc in x)
behind_same s (leaf t truth) ds e = absurd (let x : ⊥ = cc in x)
behind_same s (leaf t (string bytes)) ds e = absurd (let x : ⊥ = cc in x)
behind_same s (leaf t (symbol text)) ds e = absurd (let x : ⊥ = cc in x)
behind_same s (pair t head body) ds e = by (items_of (datum_of body)) refl e
  where
    by_head : (h : Tree) (bs : List Datum) → items_of (datum_of body) ≡ Some bs
        → operation_in (defining_or_broken s (define_operation_of s (datum_of h ∷ bs))) ≡ operation_with h body
    by_head (leaf u v) bs f = bare_same s u v body bs f
    by_head (pair u op params) bs f = row_same s u op params body bs f

    by : (o : Option (List Datum)) → items_of (datum_of body) ≡ o → option_map (λ items. datum_of head ∷ items) o ≡ Some ds
        → operation_in (defining_or_broken s (define_operation_of s ds)) ≡ operation_with head body
    by None f g = absurd (let x : ⊥ = cc in x)
    by (Some bs) f g = let same : ds ≡ datum_of head ∷ bs = cc in rw same (by_head head bs f)

-- a dotted list
dotted_none : (rest : Tree) → items_of (datum_of rest) ≡ None → operation_behind rest ≡ None
dotted_none (leaf s v) e = refl
dotted_none (pair s head body) e = by_head head
  where
    of_body : (o : Option (List Datum)) → items_of (datum_of body) ≡ o → option_map (λ items. datum_of head ∷ items) o ≡ None → items_of (datum_of body) ≡ None
    of_body None f g = f
    of_body (Some bs) f g = absurd (let x : ⊥ = cc in x)

    dotted : is_list_of false body ≡ false
    dotted = list_same body ∙ ap is_some (of_body (items_of (datum_of body)) refl e)

    not_nil : (t : Tree) → is_list_of false t ≡ false → is_nil t ≡ false
    not_nil (leaf u v) f = f
    not_nil (pair u h b) f = refl

    by_head : (h : Tree) → operation_with h body ≡ None
    by_head (leaf u v) = ap (λ b. operation_if b false (text_name (leaf u v))) (not_nil body dotted) ∙ never_named false (text_name (leaf u v))
    by_head (pair u op params) =
        ap (λ b. operation_if (is_pair params && is_list_of true params && b) (not (is_nil body)) (text_name op)) dotted
        ∙ ap (λ b. operation_if b (not (is_nil body)) (text_name op)) (and_both (is_pair params) (is_list_of true params))
        ∙ never_named (not (is_nil body)) (text_name op)

-- ---- a form at top level

by_word : (s : Span) (d : Datum) (rest : Tree) (ds : List Datum) (w : Option Word) → items_of (datum_of rest) ≡ Some ds
    → operation_in (if is_defining w then defining_or_broken s (definition_of_word s ds w) else expression d)
    ≡ (if defines_operation w then operation_behind rest else None)
by_word s d rest ds (Some word.Define) e = define_none s ds
by_word s d rest ds (Some word.Lset) e = lset_none s ds
by_word s d rest ds (Some word.DefineOperation) e = behind_same s rest ds e
by_word s d rest ds _ e = refl

no_operation : (b : Bool) (rest : Tree) → operation_behind rest ≡ None → (if b then operation_behind rest else None) ≡ None
no_operation true rest e = e
no_operation false rest e = refl

by_items : (s : Span) (operator rest : Tree) (o : Option (List Datum)) → items_of (datum_of rest) ≡ o
    → operation_in
    (if defines (option_map (λ items. datum_of operator ∷ items) o)
    then defining_or_broken s (definition_of_items s (option_map (λ items. datum_of operator ∷ items) o))
    else expression (datum_of (pair s operator rest)))
    ≡ operation_of (pair s operator rest)
by_items s operator rest None e = sym (no_operation (defines_operation (text_word operator)) rest (dotted_none rest e))
by_items s operator rest (Some ds) e =
    by_word s (datum_of (pair s operator rest)) rest ds (word_of (datum_of operator)) e
    ∙ ap (λ w. if defines_operation w then operation_behind rest else None) (sym (word_same operator))

pub operation_same : (t : Tree) → operation_in (top_of (datum_of t)) ≡ operation_of t
operation_same (leaf s (fix z)) = refl
operation_same (leaf s (char c)) = refl
operation_same (leaf s nil) = refl
operation_same (leaf s truth) = refl
operation_same (leaf s (string bytes)) = refl
operation_same (leaf s (symbol text)) = refl
operation_same (pair s operator rest) = by_items s operator rest (items_of (datum_of rest)) refl
