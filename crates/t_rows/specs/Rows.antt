-- The table of forms: what each form stands for, a row for each.
use Rattle.std.specs.Prelude.{ℕ, ◌+◌, ◌==◌, Bool, true, false, not, ◌||◌, if◌then◌else◌, is_some, List, [], ◌∷◌, ◌++◌, map, length, Option, Some, None, codes}
use Rattle.std.specs.List.{filter_map, flat_map, list_any, list_all}
use Rattle.std.specs.Option.{option_map, option_and_then}
use Rattle.t_base.specs.declared.basics.Span.{Span}
use Rattle.t_base.specs.declared.builtins.Builtin.{Builtin}
use Rattle.t_base.specs.declared.builtins.Builtin.TheVariants as Builtins
use Rattle.t_prim.specs.Table.{arity_of}
use Rattle.t_reader.specs.Grammar.{string, symbol}
use Rattle.t_objects.specs.declared.words.Word.{Word}
use Rattle.t_objects.specs.declared.words.Word.TheVariants as word
use Rattle.t_forms.specs.declared.arena.New.TheVariants as new
use Rattle.t_rows.specs.declared.refusal.Refusal.{Refusal}
use Rattle.t_rows.specs.declared.refusal.SyntaxKind.{SyntaxKind}
use Rattle.t_rows.specs.declared.refusal.SyntaxKind.TheVariants.{BadForm, ParamTwice, NotOperation, NotSettable, NotTopLevel, ConstantSet, FreeName}
use Rattle.t_forms.specs.Data.{Atom, given, variable, builtin, operation, listing, Datum, atom, cons, span_of, items_of, listed, a_nil, a_true, a_number, a_variable, a_builtin, an_operation, Name, written, made, is_same_name, name_of, word_of, Binder, binder_of, all_of, binders_of, names}
use Rattle.t_forms.specs.Names.{Meaning, a_local, a_global, an_op, the_builtin, the_operation, the_truth, the_listing, none, Scope, meaning}

-- ---- what a row gives

-- the node that a form stands for
pub data Shape : Type 0 where
  constant : Datum → Shape
  local : ℕ → Shape
  global : ℕ → Shape
  builtin_value : Builtin → Shape
  op_value : ℕ → Shape
  lambda : Shape
  if_ : Shape
  block : Shape
  let_ : Shape
  labels : Shape
  set_local : ℕ → Shape
  set_global : ℕ → Shape
  catch_ : Shape
  object : List ℕ → Shape
  call : Shape
  primitive : Builtin → Shape
  -- none: the form is refused
  nothing : Shape

abbrev pub refusal : SyntaxKind → Span → Refusal
refusal k s = record { kind = k; span = s }

-- a part of a node: a form, and the names that the node binds around it
pub record Part : Type 0 where
  pub binds : List Name
  pub form : Datum

abbrev pub plain : Datum → Part
plain d = record { binds = []; form = d }

abbrev pub inside : List Name → Datum → Part
inside ns d = record { binds = ns; form = d }

-- The form stands for what another form stands for; or for a node, with what is refused at the form itself, and the node's parts in
-- the order of the node.
pub data Row : Type 0 where
  stands_for : Datum → Row
  node : Shape → List Refusal → List Part → Row

abbrev pub bad : SyntaxKind → Span → Row
bad k s = node nothing (refusal k s ∷ []) []

-- a form that is no row: nothing more is looked for inside it
abbrev pub no_row : Span → Row
no_row s = bad BadForm s

-- the row that a well-formed form has
abbrev pub if_formed : {A : Type 0} → Span → (A → Row) → Option A → Row
if_formed s f None = no_row s
if_formed s f (Some x) = f x

-- ---- parts of rows

-- B .. as one form
abbrev pub body : Span → List Datum → Datum
body s (b ∷ []) = b
body s bs = listed s (atom s (given (symbol (codes "block"))) ∷ bs)

abbrev pub word_ : Span → List ℕ → Datum
word_ s text = atom s (given (symbol text))

-- the second one of each name that stands twice in a list
abbrev pub twice_after : List Name → List Binder → List Refusal
twice_after before [] = []
twice_after before (b ∷ others) =
    (if list_any (is_same_name b.name) before then refusal ParamTwice b.at ∷ [] else []) ++ twice_after (b.name ∷ before) others

abbrev pub twice : List Binder → List Refusal
twice bs = twice_after [] bs

-- (x e)
pub record Binding : Type 0 where
  pub binds : Binder
  pub value : Datum

abbrev pub binding_of_items : List Datum → Option Binding
binding_of_items (x ∷ e ∷ []) = option_map (λ b. record { binds = b; value = e }) (binder_of x)
binding_of_items _ = None

abbrev pub binding_of : Datum → Option Binding
binding_of d = option_and_then binding_of_items (items_of d)

abbrev pub bindings_of : Datum → Option (List Binding)
bindings_of d = option_and_then (λ ds. all_of (map binding_of ds)) (items_of d)

abbrev pub binders : List Binding → List Binder
binders bs = map (λ b. b.binds) bs

abbrev pub lambda_form : Span → Datum → List Datum → Datum
lambda_form s params bs = listed s (word_ s (codes "lambda") ∷ params ∷ bs)

-- ---- the rows of the reserved words: s is the span of the form, ds are its items behind the word

-- (quote d); a new variable is no datum
abbrev pub quote_row : Span → List Datum → Row
quote_row s (atom t (variable n) ∷ []) = no_row s
quote_row s (d ∷ []) = node (constant d) [] []
quote_row s _ = no_row s

-- (lambda (x ..) B ..)
abbrev pub lambda_row : Span → List Datum → Row
lambda_row s (params ∷ b ∷ bs) =
    if_formed s (λ xs. node lambda (twice xs) (inside (names xs) (body s (b ∷ bs)) ∷ [])) (option_and_then binders_of (items_of params))
lambda_row s _ = no_row s

-- (if a b), (if a b c)
abbrev pub if_row : Span → List Datum → Row
if_row s (a ∷ b ∷ []) = stands_for (listed s (word_ s (codes "if") ∷ a ∷ b ∷ a_nil s ∷ []))
if_row s (a ∷ b ∷ c ∷ []) = node if_ [] (plain a ∷ plain b ∷ plain c ∷ [])
if_row s _ = no_row s

-- (block a ..), at least one
abbrev pub block_row : Span → List Datum → Row
block_row s [] = no_row s
block_row s (a ∷ []) = stands_for a
block_row s ds = node block [] (map plain ds)

-- (catch j B ..)
abbrev pub catch_row : Span → List Datum → Row
catch_row s (j ∷ b ∷ bs) = if_formed s (λ n. node catch_ [] (inside (n ∷ []) (body s (b ∷ bs)) ∷ [])) (name_of j)
catch_row s _ = no_row s

-- the values stand outside the scope of the names
abbrev pub let_node : Span → List Datum → List Binding → Row
let_node s bs [] = stands_for (body s bs)
let_node s bs xs =
    node let_ (twice (binders xs)) (map (λ x. plain x.value) xs ++ inside (names (binders xs)) (body s bs) ∷ [])

-- (let ((x e) ..) B ..)
abbrev pub let_row : Span → List Datum → Row
let_row s (d ∷ b ∷ bs) = if_formed s (let_node s (b ∷ bs)) (bindings_of d)
let_row s _ = no_row s

abbrev pub let_star_step : Span → List Datum → List Datum → Row
let_star_step s bs [] = stands_for (body s bs)
let_star_step s bs (x ∷ others) =
    stands_for (listed s (word_ s (codes "let") ∷ listed s (x ∷ []) ∷ listed s (word_ s (codes "let*") ∷ listed s others ∷ bs) ∷ []))

-- (let* ((x e) r ..) B ..)
abbrev pub let_star_row : Span → List Datum → Row
let_star_row s (d ∷ b ∷ bs) = if_formed s (let_star_step s (b ∷ bs)) (items_of d)
let_star_row s _ = no_row s

abbrev pub binding : Datum → Binder → Binding
binding e b = record { binds = b; value = e }

-- ((f x ..) B ..)
abbrev pub procedure_item : Span → List Datum → List Datum → Option Binding
procedure_item s bs [] = None
procedure_item s bs (f ∷ xs) = option_map (binding (lambda_form s (listed s xs) bs)) (binder_of f)

abbrev pub is_lambda_word : Datum → Bool
is_lambda_word d = is_lambda (word_of d)
  where
    is_lambda : Option Word → Bool
    is_lambda (Some word.Lambda) = true
    is_lambda _ = false

-- (f (lambda ..)); what stands behind the word is looked at by the row of LAMBDA
abbrev pub lambda_item : Datum → List Datum → Option Binding
lambda_item f (cons t head tail ∷ []) = if is_lambda_word head then option_map (binding (cons t head tail)) (binder_of f) else None
lambda_item f _ = None

-- an item of LABELS
abbrev pub labels_item : Span → List Datum → Option Binding
labels_item s (cons t head tail ∷ bs) = option_and_then (procedure_item s bs) (items_of (cons t head tail))
labels_item s (f ∷ bs) = lambda_item f bs
labels_item s [] = None

abbrev pub labels_items : Span → Datum → Option (List Binding)
labels_items s d = option_and_then (λ ds. all_of (map (λ i. option_and_then (labels_item s) (items_of i)) ds)) (items_of d)

-- the LAMBDAs stand in the scope of all the names
abbrev pub labels_node : Span → List Datum → List Binding → Row
labels_node s bs [] = stands_for (body s bs)
labels_node s bs xs =
    node labels (twice (binders xs)) (map (λ x. inside (names (binders xs)) x.value) xs ++ inside (names (binders xs)) (body s bs) ∷ [])

-- (labels (s ..) B ..)
abbrev pub labels_row : Span → List Datum → Row
labels_row s (d ∷ b ∷ bs) = if_formed s (labels_node s (b ∷ bs)) (labels_items s d)
labels_row s _ = no_row s

abbrev pub name_atom : Name → Atom
name_atom (written text) = given (symbol text)
name_atom (made n) = variable n

-- the datum that a name is where it is bound
abbrev pub name_datum : Binder → Datum
name_datum b = atom b.at (name_atom b.name)

-- LABELS of f with the body (f e ..), in which f has a name of its own, since the e stand outside its scope
abbrev pub iterate_node : Span → List Datum → Binder → List Binding → Row
iterate_node s bs f xs =
    node labels []
    (inside (f.name ∷ []) (lambda_form s (listed s (map (λ x. name_datum x.binds) xs)) bs)
    ∷ inside (made new.Start ∷ []) (listed s (a_variable f.at new.Start ∷ map (λ x. x.value) xs)) ∷ [])

-- (iterate f ((x e) ..) B ..)
abbrev pub iterate_row : Span → List Datum → Row
iterate_row s (f ∷ d ∷ b ∷ bs) =
    if_formed s (λ g. if_formed s (iterate_node s (b ∷ bs) g) (bindings_of d)) (binder_of f)
iterate_row s _ = no_row s

-- (x e s) or (x e), whose s is x
pub record Step : Type 0 where
  pub name : Datum
  pub first : Datum
  pub next : Datum

abbrev pub step_of_items : List Datum → Option Step
step_of_items (x ∷ e ∷ []) = Some (record { name = x; first = e; next = x })
step_of_items (x ∷ e ∷ t ∷ []) = Some (record { name = x; first = e; next = t })
step_of_items _ = None

abbrev pub steps_of : Datum → Option (List Step)
steps_of d = option_and_then (λ ds. all_of (map (λ i. option_and_then step_of_items (items_of i)) ds)) (items_of d)

-- the block of r .., or nil without r
abbrev pub result_of : Span → List Datum → Datum
result_of s [] = a_nil s
result_of s rs = listed s (word_ s (codes "block") ∷ rs)

abbrev pub do_form : Span → List Datum → List Step → Datum → List Datum → Datum
do_form s bs steps t rs =
    listed s
    (word_ s (codes "iterate") ∷ a_variable s new.Turn ∷ listed s (map (λ x. listed s (x.name ∷ x.first ∷ [])) steps)
    ∷ listed s
    (word_ s (codes "if") ∷ t ∷ result_of s rs
    ∷ listed s (word_ s (codes "block") ∷ bs ++ listed s (a_variable s new.Turn ∷ map (λ x. x.next) steps) ∷ []) ∷ [])
    ∷ [])

abbrev pub do_step : Span → List Datum → List Step → List Datum → Row
do_step s bs steps [] = no_row s
do_step s bs steps (t ∷ rs) = stands_for (do_form s bs steps t rs)

-- (do ((x e s) ..) (t r ..) b ..)
abbrev pub do_row : Span → List Datum → Row
do_row s (d ∷ e ∷ bs) = if_formed s (λ steps. if_formed s (do_step s bs steps) (items_of e)) (steps_of d)
do_row s _ = no_row s

-- (and), (and a), (and a b ..)
abbrev pub and_row : Span → List Datum → Row
and_row s [] = stands_for (a_true s)
and_row s (a ∷ []) = stands_for a
and_row s (a ∷ others) = stands_for (listed s (word_ s (codes "if") ∷ a ∷ listed s (word_ s (codes "and") ∷ others) ∷ a_nil s ∷ []))

-- (let ((u a)) (if u here there))
abbrev pub test_answer : Span → Datum → Datum → Datum → Datum
test_answer s a here there =
    listed s
    (word_ s (codes "let") ∷ listed s (listed s (a_variable s new.Answer ∷ a ∷ []) ∷ [])
    ∷ listed s (word_ s (codes "if") ∷ a_variable s new.Answer ∷ here ∷ there ∷ []) ∷ [])

-- (or), (or a), (or a b ..)
abbrev pub or_row : Span → List Datum → Row
or_row s [] = stands_for (a_nil s)
or_row s (a ∷ []) = stands_for a
or_row s (a ∷ others) = stands_for (test_answer s a (a_variable s new.Answer) (listed s (word_ s (codes "or") ∷ others)))

abbrev pub is_else : Option Word → Bool
is_else (Some word.Else) = true
is_else _ = false

abbrev pub is_arrow : Option Word → Bool
is_arrow (Some word.Arrow) = true
is_arrow _ = false

-- (f u), read by the table again; ELSE and => are reserved words as expressions here
abbrev pub received : Span → Datum → Datum
received s f = if is_else (word_of f) || is_arrow (word_of f) then f else listed s (f ∷ a_variable s new.Answer ∷ [])

abbrev pub cond_plain : Span → Datum → List Datum → Datum → Row
cond_plain s a [] rest = stands_for (listed s (word_ s (codes "or") ∷ a ∷ rest ∷ []))
cond_plain s a (arrow ∷ f ∷ []) rest =
    if is_arrow (word_of arrow)
    then stands_for (test_answer s a (received s f) rest)
    else stands_for (listed s (word_ s (codes "if") ∷ a ∷ listed s (word_ s (codes "block") ∷ arrow ∷ f ∷ []) ∷ rest ∷ []))
cond_plain s a bs rest = stands_for (listed s (word_ s (codes "if") ∷ a ∷ listed s (word_ s (codes "block") ∷ bs) ∷ rest ∷ []))

-- the first clause, behind which stand others: (else B ..) as the last one, (a), (a => f), (a B ..)
abbrev pub cond_clause : Span → List Datum → List Datum → Row
cond_clause s others [] = no_row s
cond_clause s [] (a ∷ b ∷ bs) =
    if is_else (word_of a) then stands_for (body s (b ∷ bs)) else cond_plain s a (b ∷ bs) (listed s (word_ s (codes "cond") ∷ []))
cond_clause s others (a ∷ bs) = cond_plain s a bs (listed s (word_ s (codes "cond") ∷ others))

-- (cond), (cond c ..)
abbrev pub cond_row : Span → List Datum → Row
cond_row s [] = stands_for (a_nil s)
cond_row s (c ∷ others) = if_formed s (cond_clause s others) (items_of c)

abbrev pub is_key : Datum → Bool
is_key (atom s (given (string text))) = false
is_key (atom s (given v)) = true
is_key _ = false

-- (if (eq? u 'k1) #t (if (eq? u 'k2) #t .. nil))
abbrev pub key_test : Span → List Datum → Datum
key_test s [] = a_nil s
key_test s (k ∷ keys) =
    listed s
    (word_ s (codes "if")
    ∷ listed s (a_builtin s Builtins.Eq ∷ a_variable s new.Chosen ∷ listed s (word_ s (codes "quote") ∷ k ∷ []) ∷ [])
    ∷ a_true s ∷ key_test s keys ∷ [])

abbrev pub case_chosen : Span → List Datum → Option Datum → List Datum → Option Datum
case_chosen s bs rest keys =
    if list_all is_key keys
    then option_map (λ r. listed s (word_ s (codes "if") ∷ key_test s keys ∷ listed s (word_ s (codes "block") ∷ bs) ∷ r ∷ [])) rest
    else None

-- ((k ..) B ..), with what the clauses behind it stand for
abbrev pub case_keys : Span → List Datum → Option Datum → Option Datum
case_keys s (ks ∷ b ∷ bs) rest = option_and_then (case_chosen s (b ∷ bs) rest) (items_of ks)
case_keys s _ rest = None

-- a last clause may be (else B ..)
abbrev pub case_last : Span → List Datum → Option Datum
case_last s (e ∷ b ∷ bs) = if is_else (word_of e) then Some (body s (b ∷ bs)) else case_keys s (e ∷ b ∷ bs) (Some (a_nil s))
case_last s _ = None

-- an IF for each clause
abbrev pub case_clauses : Span → List Datum → Option Datum
case_clauses s [] = Some (a_nil s)
case_clauses s (c ∷ []) = option_and_then (case_last s) (items_of c)
case_clauses s (c ∷ others) = option_and_then (λ items. case_keys s items (case_clauses s others)) (items_of c)

-- (case e c ..)
abbrev pub case_row : Span → List Datum → Row
case_row s [] = no_row s
case_row s (e ∷ cs) =
    if_formed s (λ d. stands_for (listed s (word_ s (codes "let") ∷ listed s (listed s (a_variable s new.Chosen ∷ e ∷ []) ∷ []) ∷ d ∷ [])))
    (case_clauses s cs)

-- ---- SET and LOCATIVE

-- (set x e)
abbrev pub set_name : Span → Datum → Meaning → Row
set_name t e (a_local v) = node (set_local v) [] (plain e ∷ [])
set_name t e (a_global g true) = node (set_global g) [] (plain e ∷ [])
set_name t e none = node nothing (refusal FreeName t ∷ []) (plain e ∷ [])
set_name t e _ = node nothing (refusal ConstantSet t ∷ []) (plain e ∷ [])

-- (set (a e ..) v), which is ((setter a) e .. v)
abbrev pub set_through : Span → Datum → List Datum → Datum → Row
set_through s a es v = stands_for (listed s (listed s (an_operation s 0 ∷ a ∷ []) ∷ es ++ v ∷ []))

abbrev pub not_settable : Datum → List Datum → Datum → Row
not_settable a es v = node nothing (refusal NotSettable (span_of a) ∷ []) (map plain (es ++ v ∷ []))

-- the builtin that assigns the place which this one reads
abbrev pub assigns : Builtin → Option Builtin
assigns Builtins.Car = Some Builtins.SetCar
assigns Builtins.Cdr = Some Builtins.SetCdr
assigns Builtins.Vref = Some Builtins.SetVref
assigns _ = None

abbrev pub set_builtin : Span → Datum → List Datum → Datum → Option Builtin → Row
set_builtin s a es v None = not_settable a es v
set_builtin s a es v (Some q) =
    if length es + 1 == arity_of q then node (primitive q) [] (map plain (es ++ v ∷ [])) else set_through s a es v

-- of the operations that each unit has, `contents` alone, at one operand
abbrev pub set_operation : Span → Datum → List Datum → Datum → ℕ → Row
set_operation s a es v o =
    if not (o == 1) then not_settable a es v
    else if length es == 1 then stands_for (listed s (an_operation s 2 ∷ es ++ v ∷ []))
    else set_through s a es v

-- (set (a e ..) v), by what a means
abbrev pub set_call : Span → Datum → List Datum → Datum → Option Meaning → Row
set_call s a es v (Some (the_builtin p)) = set_builtin s a es v (assigns p)
set_call s a es v (Some (the_operation o)) = set_operation s a es v o
set_call s a es v (Some the_listing) = not_settable a es v
set_call s a es v _ = set_through s a es v

-- what a datum means as a name
abbrev pub meant : Scope → Datum → Option Meaning
meant scope d = option_map (meaning scope) (name_of d)

abbrev pub set_items : Scope → Span → Datum → Option (List Datum) → Row
set_items scope s v (Some (a ∷ es)) = set_call s a es v (meant scope a)
set_items scope s v _ = no_row s

abbrev pub set_place : Scope → Span → Datum → Datum → Row
set_place scope s (cons t head tail) v = set_items scope s v (items_of (cons t head tail))
set_place scope s d v = if_formed s (set_name (span_of d) v) (meant scope d)

-- (set x e), (set (a e ..) v)
abbrev pub set_row : Scope → Span → List Datum → Row
set_row scope s (d ∷ v ∷ []) = set_place scope s d v
set_row scope s _ = no_row s

-- (object nil ((contents u) place) ((set-contents u w) (set place w)))
abbrev pub locative_object : Span → Datum → Datum
locative_object s place =
    listed s
    (word_ s (codes "object") ∷ a_nil s
    ∷ listed s (listed s (an_operation s 1 ∷ a_variable s new.Own ∷ []) ∷ place ∷ [])
    ∷ listed s
    (listed s (an_operation s 2 ∷ a_variable s new.Own ∷ a_variable s new.Content ∷ [])
    ∷ listed s (word_ s (codes "set") ∷ place ∷ a_variable s new.Content ∷ []) ∷ [])
    ∷ [])

-- ((u1 e) ..), from the number on
abbrev pub part_bindings : Span → ℕ → List Datum → List Datum
part_bindings s i [] = []
part_bindings s i (e ∷ es) = listed s (a_variable s (new.Part i) ∷ e ∷ []) ∷ part_bindings s (i + 1) es

abbrev pub part_variables : Span → ℕ → List Datum → List Datum
part_variables s i [] = []
part_variables s i (e ∷ es) = a_variable s (new.Part i) ∷ part_variables s (i + 1) es

-- LET of new names to the e around the object; an operator that isn't a symbol has a new name too
abbrev pub locative_call : Span → Datum → List Datum → Row
locative_call s (atom t a) es =
    if is_symbol a
    then stands_for (listed s (word_ s (codes "let") ∷ listed s (part_bindings s 1 es) ∷ locative_object s (listed s (atom t a ∷ part_variables s 1 es)) ∷ []))
    else stands_for (listed s (word_ s (codes "let") ∷ listed s (part_bindings s 0 (atom t a ∷ es)) ∷ locative_object s (listed s (part_variables s 0 (atom t a ∷ es))) ∷ []))
  where
    is_symbol : Atom → Bool
    is_symbol (given (symbol text)) = true
    is_symbol (variable n) = true
    is_symbol _ = false
locative_call s a es =
    stands_for (listed s (word_ s (codes "let") ∷ listed s (part_bindings s 0 (a ∷ es)) ∷ locative_object s (listed s (part_variables s 0 (a ∷ es))) ∷ []))

abbrev pub locative_items : Span → Option (List Datum) → Row
locative_items s (Some (a ∷ es)) = locative_call s a es
locative_items s _ = no_row s

abbrev pub locative_of : Span → Datum → Row
locative_of s (cons t head tail) = locative_items s (items_of (cons t head tail))
locative_of s d = if_formed s (λ n. stands_for (locative_object s d)) (name_of d)

-- (locative x), (locative (a e ..))
abbrev pub locative_row : Span → List Datum → Row
locative_row s (d ∷ []) = locative_of s d
locative_row s _ = no_row s

-- ---- OBJECT

-- ((op self x ..) B ..)
pub record Method : Type 0 where
  pub op : Datum
  pub params : List Binder
  pub form : Datum

abbrev pub method_of_head : Span → List Datum → List Datum → Option Method
method_of_head s bs (op ∷ me ∷ xs) =
    option_map (λ ps. record { op = op; params = ps; form = body s bs }) (binders_of (me ∷ xs))
method_of_head s bs _ = None

abbrev pub method_of_items : Span → List Datum → Option Method
method_of_items s (head ∷ b ∷ bs) = option_and_then (method_of_head s (b ∷ bs)) (items_of head)
method_of_items s _ = None

abbrev pub methods_of : Span → List Datum → Option (List Method)
methods_of s ms = all_of (map (λ m. option_and_then (method_of_items s) (items_of m)) ms)

-- the operation that the op of a method is: one of the unit, or a builtin one
abbrev pub operation_meant : Option Meaning → Option ℕ
operation_meant (Some (an_op o)) = Some o
operation_meant (Some (the_operation o)) = Some o
operation_meant _ = None

abbrev pub operation_of : Scope → Datum → Option ℕ
operation_of scope (atom t (operation o)) = Some o
operation_of scope d = operation_meant (meant scope d)

abbrev pub method_refusals : Scope → Method → List Refusal
method_refusals scope m =
    (if is_some (operation_of scope m.op) then [] else refusal NotOperation (span_of m.op) ∷ []) ++ twice m.params

abbrev pub object_node : Scope → Datum → List Method → Row
object_node scope p ms =
    node (object (filter_map (λ m. operation_of scope m.op) ms)) (flat_map (method_refusals scope) ms)
    (plain p ∷ map (λ m. inside (names m.params) m.form) ms)

-- (object p ((op self x ..) B ..) ..)
abbrev pub object_row : Scope → Span → List Datum → Row
object_row scope s (p ∷ ms) = if_formed s (object_node scope p) (methods_of s ms)
object_row scope s [] = no_row s

-- ---- defining forms

pub data Definition : Type 0 where
  -- its name, and the form of its value
  define : Binder → Datum → Definition
  lset : Binder → Datum → Definition
  -- its name, its parameters, and the LAMBDA of its default
  operation_form : Binder → List Binder → Option Datum → Definition

-- (f x ..) with a body, as the LAMBDA that it stands for
abbrev pub define_procedure : Span → List Datum → List Datum → Option Definition
define_procedure s (f ∷ xs) (b ∷ bs) =
    option_and_then (λ ps. option_map (λ g. define g (lambda_form s (listed s xs) (b ∷ bs))) (binder_of f)) (binders_of xs)
define_procedure s _ _ = None

-- (define x e), (define (f x ..) B ..)
abbrev pub define_of : Span → List Datum → Option Definition
define_of s (cons t head tail ∷ bs) = option_and_then (λ fs. define_procedure s fs bs) (items_of (cons t head tail))
define_of s (x ∷ e ∷ []) = option_map (λ g. define g e) (binder_of x)
define_of s _ = None

-- (lset x e)
abbrev pub lset_of : List Datum → Option Definition
lset_of (x ∷ e ∷ []) = option_map (λ g. lset g e) (binder_of x)
lset_of _ = None

abbrev pub default_of : Span → List Datum → List Datum → Option Datum
default_of s xs [] = None
default_of s xs bs = Some (lambda_form s (listed s xs) bs)

abbrev pub define_operation_with : Span → List Datum → List Datum → Option Definition
define_operation_with s (op ∷ me ∷ xs) bs =
    option_and_then (λ ps. option_map (λ o. operation_form o ps (default_of s (me ∷ xs) bs)) (binder_of op)) (binders_of (me ∷ xs))
define_operation_with s _ bs = None

-- (define-operation op), (define-operation (op self x ..) B ..)
abbrev pub define_operation_of : Span → List Datum → Option Definition
define_operation_of s (cons t head tail ∷ bs) = option_and_then (λ os. define_operation_with s os bs) (items_of (cons t head tail))
define_operation_of s (op ∷ []) = option_map (λ o. operation_form o [] None) (binder_of op)
define_operation_of s _ = None

abbrev pub definition_of_word : Span → List Datum → Option Word → Option Definition
definition_of_word s ds (Some word.Define) = define_of s ds
definition_of_word s ds (Some word.Lset) = lset_of ds
definition_of_word s ds (Some word.DefineOperation) = define_operation_of s ds
definition_of_word s ds _ = None

-- elsewhere than at top level
abbrev pub inner_definition : Span → Option Definition → Row
inner_definition s (Some d) = bad NotTopLevel s
inner_definition s None = node nothing (refusal BadForm s ∷ refusal NotTopLevel s ∷ []) []

-- ---- calls

abbrev pub call_node : Datum → List Datum → Row
call_node f ds = node call [] (plain f ∷ map plain ds)

-- (+), (+ a), (+ a b), (+ a b c ..), and alike for *
abbrev pub fold_row : Span → Builtin → ℕ → List Datum → Row
fold_row s p unit_ [] = stands_for (a_number s unit_)
fold_row s p unit_ (a ∷ []) = node (primitive p) [] (plain (a_number s unit_) ∷ plain a ∷ [])
fold_row s p unit_ (a ∷ b ∷ []) = node (primitive p) [] (plain a ∷ plain b ∷ [])
fold_row s p unit_ (a ∷ b ∷ others) = stands_for (listed s (a_builtin s p ∷ listed s (a_builtin s p ∷ a ∷ b ∷ []) ∷ others))

-- (p a ..) with as many operands as the builtin takes; with another count it is called as a value
abbrev pub builtin_row : Datum → Builtin → List Datum → Row
builtin_row f p ds = if length ds == arity_of p then node (primitive p) [] (map plain ds) else call_node f ds

-- (- a)
abbrev pub minus_row : Span → Datum → List Datum → Row
minus_row s f (a ∷ []) = node (primitive Builtins.Sub) [] (plain (a_number s 0) ∷ plain a ∷ [])
minus_row s f ds = builtin_row f Builtins.Sub ds

abbrev pub builtin_call : Span → Datum → List Datum → Builtin → Row
builtin_call s f ds Builtins.Add = fold_row s Builtins.Add 0 ds
builtin_call s f ds Builtins.Mul = fold_row s Builtins.Mul 1 ds
builtin_call s f ds Builtins.Sub = minus_row s f ds
builtin_call s f ds p = builtin_row f p ds

-- (list), (list a b ..)
abbrev pub list_row : Span → List Datum → Row
list_row s [] = stands_for (a_nil s)
list_row s (a ∷ others) = node (primitive Builtins.Cons) [] (plain a ∷ plain (listed s (atom s listing ∷ others)) ∷ [])

abbrev pub call_meant : Span → Datum → List Datum → Option Meaning → Row
call_meant s f ds (Some (the_builtin p)) = builtin_call s f ds p
call_meant s f ds (Some the_listing) = list_row s ds
call_meant s f ds _ = call_node f ds

abbrev pub call_row : Scope → Span → Datum → List Datum → Row
call_row scope s (atom t (builtin p)) ds = builtin_call s (atom t (builtin p)) ds p
call_row scope s (atom t listing) ds = list_row s ds
call_row scope s f ds = call_meant s f ds (meant scope f)

-- ---- the table

abbrev pub word_row : Scope → Span → List Datum → Word → Row
word_row scope s ds word.Quote = quote_row s ds
word_row scope s ds word.Lambda = lambda_row s ds
word_row scope s ds word.If = if_row s ds
word_row scope s ds word.Cond = cond_row s ds
word_row scope s ds word.And = and_row s ds
word_row scope s ds word.Or = or_row s ds
word_row scope s ds word.Case = case_row s ds
word_row scope s ds word.Block = block_row s ds
word_row scope s ds word.Let = let_row s ds
word_row scope s ds word.LetStar = let_star_row s ds
word_row scope s ds word.Labels = labels_row s ds
word_row scope s ds word.Iterate = iterate_row s ds
word_row scope s ds word.Do = do_row s ds
word_row scope s ds word.Set = set_row scope s ds
word_row scope s ds word.Lset = inner_definition s (lset_of ds)
word_row scope s ds word.Define = inner_definition s (define_of s ds)
word_row scope s ds word.Catch = catch_row s ds
word_row scope s ds word.Object = object_row scope s ds
word_row scope s ds word.DefineOperation = inner_definition s (define_operation_of s ds)
word_row scope s ds word.Locative = locative_row s ds
word_row scope s ds word.Else = no_row s
word_row scope s ds word.Arrow = no_row s

abbrev pub operator_row : Scope → Span → Datum → List Datum → Option Word → Row
operator_row scope s f ds (Some w) = word_row scope s ds w
operator_row scope s f ds None = call_row scope s f ds

-- a name as an expression
abbrev pub name_row : Span → Meaning → Row
name_row s (a_local v) = node (local v) [] []
name_row s (a_global g assigned) = node (global g) [] []
name_row s (an_op o) = node (op_value o) [] []
name_row s (the_builtin p) = node (builtin_value p) [] []
name_row s (the_operation o) = node (op_value o) [] []
name_row s the_truth = stands_for (a_true s)
name_row s the_listing = bad FreeName s
name_row s none = bad FreeName s

abbrev pub atom_row : Scope → Span → Atom → Row
atom_row scope s (given (symbol text)) = if_formed s (λ n. name_row s (meaning scope n)) (name_of (atom s (given (symbol text))))
atom_row scope s (given v) = node (constant (atom s (given v))) [] []
atom_row scope s (variable n) = name_row s (meaning scope (made n))
atom_row scope s (builtin p) = node (builtin_value p) [] []
atom_row scope s (operation o) = node (op_value o) [] []
atom_row scope s listing = no_row s

-- the operator and the operands; a dotted call is no row
abbrev pub items_row : Scope → Span → Option (List Datum) → Row
items_row scope s (Some (f ∷ ds)) = operator_row scope s f ds (word_of f)
items_row scope s _ = no_row s

-- what a form stands for in a scope
abbrev pub row : Scope → Datum → Row
row scope (atom s a) = atom_row scope s a
row scope (cons s head tail) = items_row scope s (items_of (cons s head tail))
