-- The forms of a unit's definitions have no other atoms than those of the text and the word that makes them LAMBDAs.
use Rattle.std.proofs.Common.{Bool, true, false, List, [], ◌∷◌, map, Option, Some, None, if◌then◌else◌, codes, IfSome}
use Rattle.std.specs.List.{AllByRecursion}
use Rattle.std.specs.Option.{option_map, option_and_then}
use Rattle.t_base.specs.declared.basics.Span.{Span}
use Rattle.t_reader.specs.Grammar.{Tree, leaf, pair, Value, nil, symbol}
use Rattle.t_objects.specs.declared.words.Word.{Word}
use Rattle.t_objects.specs.declared.words.Word.TheVariants as word
use Rattle.t_forms.specs.Data.{Datum, atom, cons, datum_of, items_of, listed, span_of, word_of, binder_of, binders_of}
use Rattle.t_rows.specs.Rows.{lambda_form, Definition, define, lset, operation_form, define_procedure, define_of, lset_of, default_of, define_operation_with, define_operation_of, definition_of_word}
use Rattle.expansion.specs.Units.{Top, defining, broken, expression, defining_or_broken, defines, definition_of_items, definition_in, top_of, is_herald_items, without_herald, tops_of}
use Rattle.expand_laws.proofs.Reached.{IsPure}
use Rattle.expand_laws.proofs.RowShapes.{items_if, each_map}

-- right are the end of a list and the word LAMBDA, of which definitions make forms
pub record HasFormValues (right : Value → Type 0) : Type 0 where
  pub nil_right : right nil
  pub lambda_right : right (symbol (codes "lambda"))

abbrev pub IsPureIf : (Value → Type 0) → Option Datum → Type 0
IsPureIf right None = Unit {0}
IsPureIf right (Some d) = IsPure right d

abbrev pub IsPureDefinition : (Value → Type 0) → Definition → Type 0
IsPureDefinition right (define b d) = IsPure right d
IsPureDefinition right (lset b d) = IsPure right d
IsPureDefinition right (operation_form b ps d) = IsPureIf right d

abbrev pub IsPureTop : (Value → Type 0) → Top → Type 0
IsPureTop right (defining d) = IsPureDefinition right d
IsPureTop right (broken s) = Unit {0}
IsPureTop right (expression d) = IsPure right d

-- ---- forms

pub items_pure : (right : Value → Type 0) (d : Datum) → IsPure right d → IfSome (items_of d) (AllByRecursion (IsPure right))
items_pure right d h = items_if (IsPure right) (λ s head tail i. i) d h

pub listed_pure : (right : Value → Type 0) → HasFormValues right → (s : Span) (ds : List Datum) → AllByRecursion (IsPure right) ds → IsPure right (listed s ds)
listed_pure right v s [] h = v.nil_right
listed_pure right v s (d ∷ ds) h = (h.0, listed_pure right v s ds h.1)

pub lambda_pure : (right : Value → Type 0) → HasFormValues right → (s : Span) (xs bs : List Datum) → AllByRecursion (IsPure right) xs
    → AllByRecursion (IsPure right) bs → IsPure right (lambda_form s (listed s xs) bs)
lambda_pure right v s xs bs h i = (v.lambda_right, (listed_pure right v s xs h, listed_pure right v s bs i))

-- ---- definitions

if_mapped : {A B : Type 0} (P : B → Type 0) (f : A → B) (o : Option A) → ((x : A) → P (f x)) → IfSome (option_map f o) P
if_mapped P f None h = tt
if_mapped P f (Some x) h = h x

if_chained : {A B : Type 0} (Q : A → Type 0) (P : B → Type 0) (f : A → Option B) (o : Option A) → IfSome o Q → ((x : A) → Q x → IfSome (f x) P)
    → IfSome (option_and_then f o) P
if_chained Q P f None i h = tt
if_chained Q P f (Some x) i h = h x i

any : {A : Type 0} (o : Option A) → IfSome o (λ x. Unit {0})
any None = tt
any (Some x) = tt

procedure_pure : (right : Value → Type 0) → HasFormValues right → (s : Span) (fs bs : List Datum) → AllByRecursion (IsPure right) fs
    → AllByRecursion (IsPure right) bs → IfSome (define_procedure s fs bs) (IsPureDefinition right)
procedure_pure right v s [] bs h i = tt
procedure_pure right v s (f ∷ xs) [] h i = tt
procedure_pure right v s (f ∷ xs) (b ∷ bs) h i =
    if_chained (λ ps. Unit {0}) (IsPureDefinition right) (λ ps. option_map (λ g. define g (lambda_form s (listed s xs) (b ∷ bs))) (binder_of f)) (binders_of xs)
    (any (binders_of xs))
    (λ ps k. if_mapped (IsPureDefinition right) (λ g. define g (lambda_form s (listed s xs) (b ∷ bs))) (binder_of f) (λ g. lambda_pure right v s xs (b ∷ bs) h.1 i))

define_pure : (right : Value → Type 0) → HasFormValues right → (s : Span) (ds : List Datum) → AllByRecursion (IsPure right) ds
    → IfSome (define_of s ds) (IsPureDefinition right)
define_pure right v s [] h = tt
define_pure right v s (cons t head tail ∷ bs) h =
    if_chained (AllByRecursion (IsPure right)) (IsPureDefinition right) (λ fs. define_procedure s fs bs) (items_of (cons t head tail))
    (items_pure right (cons t head tail) h.0) (λ fs i. procedure_pure right v s fs bs i h.1)
define_pure right v s (atom t a ∷ []) h = tt
define_pure right v s (atom t a ∷ e ∷ []) h = if_mapped (IsPureDefinition right) (λ g. define g e) (binder_of (atom t a)) (λ g. h.1.0)
define_pure right v s (atom t a ∷ e ∷ d ∷ ds) h = tt

lset_pure : (right : Value → Type 0) (ds : List Datum) → AllByRecursion (IsPure right) ds → IfSome (lset_of ds) (IsPureDefinition right)
lset_pure right [] h = tt
lset_pure right (x ∷ []) h = tt
lset_pure right (x ∷ e ∷ []) h = if_mapped (IsPureDefinition right) (λ g. lset g e) (binder_of x) (λ g. h.1.0)
lset_pure right (x ∷ e ∷ d ∷ ds) h = tt

default_pure : (right : Value → Type 0) → HasFormValues right → (s : Span) (xs bs : List Datum) → AllByRecursion (IsPure right) xs
    → AllByRecursion (IsPure right) bs → IsPureIf right (default_of s xs bs)
default_pure right v s xs [] h i = tt
default_pure right v s xs (b ∷ bs) h i = lambda_pure right v s xs (b ∷ bs) h i

operation_pure : (right : Value → Type 0) → HasFormValues right → (s : Span) (os bs : List Datum) → AllByRecursion (IsPure right) os
    → AllByRecursion (IsPure right) bs → IfSome (define_operation_with s os bs) (IsPureDefinition right)
operation_pure right v s [] bs h i = tt
operation_pure right v s (op ∷ []) bs h i = tt
operation_pure right v s (op ∷ me ∷ xs) bs h i =
    if_chained (λ ps. Unit {0}) (IsPureDefinition right) (λ ps. option_map (λ o. operation_form o ps (default_of s (me ∷ xs) bs)) (binder_of op))
    (binders_of (me ∷ xs)) (any (binders_of (me ∷ xs)))
    (λ ps k. if_mapped (IsPureDefinition right) (λ o. operation_form o ps (default_of s (me ∷ xs) bs)) (binder_of op)
    (λ o. default_pure right v s (me ∷ xs) bs h.1 i))

define_operation_pure : (right : Value → Type 0) → HasFormValues right → (s : Span) (ds : List Datum) → AllByRecursion (IsPure right) ds
    → IfSome (define_operation_of s ds) (IsPureDefinition right)
define_operation_pure right v s [] h = tt
define_operation_pure right v s (cons t head tail ∷ bs) h =
    if_chained (AllByRecursion (IsPure right)) (IsPureDefinition right) (λ os. define_operation_with s os bs) (items_of (cons t head tail))
    (items_pure right (cons t head tail) h.0) (λ os i. operation_pure right v s os bs i h.1)
define_operation_pure right v s (atom t a ∷ []) h =
    if_mapped (IsPureDefinition right) (λ o. operation_form o [] None) (binder_of (atom t a)) (λ o. tt)
define_operation_pure right v s (atom t a ∷ d ∷ ds) h = tt

word_pure : (right : Value → Type 0) → HasFormValues right → (s : Span) (ds : List Datum) (w : Option Word) → AllByRecursion (IsPure right) ds
    → IfSome (definition_of_word s ds w) (IsPureDefinition right)
word_pure right v s ds (Some word.Define) h = define_pure right v s ds h
word_pure right v s ds (Some word.Lset) h = lset_pure right ds h
word_pure right v s ds (Some word.DefineOperation) h = define_operation_pure right v s ds h
word_pure right v s ds _ h = tt

definition_pure : (right : Value → Type 0) → HasFormValues right → (s : Span) (o : Option (List Datum)) → IfSome o (AllByRecursion (IsPure right))
    → IfSome (definition_of_items s o) (IsPureDefinition right)
definition_pure right v s None h = tt
definition_pure right v s (Some []) h = tt
definition_pure right v s (Some (f ∷ ds)) h = word_pure right v s ds (word_of f) h.1

-- ---- forms at top level

top_either : (right : Value → Type 0) (b : Bool) (here there : Top) → IsPureTop right here → IsPureTop right there → IsPureTop right (if b then here else there)
top_either right true here there h i = h
top_either right false here there h i = i

top_defining : (right : Value → Type 0) (s : Span) (o : Option Definition) → IfSome o (IsPureDefinition right) → IsPureTop right (defining_or_broken s o)
top_defining right s None h = tt
top_defining right s (Some d) h = h

pub top_pure : (right : Value → Type 0) → HasFormValues right → (d : Datum) → IsPure right d → IsPureTop right (top_of d)
top_pure right v d h =
    top_either right (defines (items_of d)) (defining_or_broken (span_of d) (definition_in d)) (expression d)
    (top_defining right (span_of d) (definition_in d) (definition_pure right v (span_of d) (items_of d) (items_pure right d h))) h

each_either : {A : Type 0} (P : A → Type 0) (b : Bool) (here there : List A) → AllByRecursion P here → AllByRecursion P there
    → AllByRecursion P (if b then here else there)
each_either P true here there h i = h
each_either P false here there h i = i

unheralded : (P : Datum → Type 0) (ds : List Datum) → AllByRecursion P ds → AllByRecursion P (without_herald ds)
unheralded P [] h = tt
unheralded P (d ∷ others) h = each_either P (is_herald_items (items_of d)) others (d ∷ others) h.1 h

pub tops_pure : (right : Value → Type 0) → HasFormValues right → (ds : List Datum) → AllByRecursion (IsPure right) ds
    → AllByRecursion (IsPureTop right) (tops_of ds)
tops_pure right v ds h = each_map (IsPure right) (IsPureTop right) top_of (λ d i. top_pure right v d i) (without_herald ds) (unheralded (IsPure right) ds h)

-- ---- data of a text

-- every atom is one of the text
abbrev pub IsGiven : Datum → Type 0
IsGiven d = IsPure (λ v. Unit {0}) d

pub tree_given : (t : Tree) → IsGiven (datum_of t)
tree_given (leaf s v) = tt
tree_given (pair s head tail) = (tree_given head, tree_given tail)

pub trees_given : (trees : List Tree) → AllByRecursion IsGiven (map datum_of trees)
trees_given [] = tt
trees_given (t ∷ ts) = (tree_given t, trees_given ts)

pub tops_given : (trees : List Tree) → AllByRecursion (IsPureTop (λ v. Unit {0})) (tops_of (map datum_of trees))
tops_given trees = tops_pure (λ v. Unit {0}) (record { nil_right = tt; lambda_right = tt }) (map datum_of trees) (trees_given trees)
