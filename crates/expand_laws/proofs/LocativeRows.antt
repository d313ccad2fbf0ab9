-- The table ends on LOCATIVE.
use Rattle.std.proofs.Common.{◌≡◌, ℕ, ◌+◌, ◌<◌, ◌≤◌, List, [], ◌∷◌, Option, Some, None, refl, sym, subst, ◌∙◌, arith}
use Rattle.std.specs.Prelude.{codes}
use Rattle.std.specs.List.{AllByRecursion}
use Rattle.std.proofs.lemmas.Option.{same_Some}
use Rattle.t_base.specs.declared.basics.Span.{Span}
use Rattle.t_objects.specs.declared.words.Word.TheVariants as word
use Rattle.t_reader.specs.Grammar.{Value, fix, char, nil, truth, string, symbol}
use Rattle.t_forms.specs.declared.arena.New.TheVariants as new
use Rattle.t_forms.specs.Data.{given, variable, builtin, operation, listing, Datum, atom, cons, items_of, listed, a_nil, a_variable, an_operation, name_of}
use Rattle.t_forms.specs.Names.{Scope}
use Rattle.t_rows.specs.Rows.{stands_for, word_, set_place, locative_object, part_bindings, part_variables, locative_call, locative_items, locative_of, locative_row}
use Rattle.expand_laws.proofs.Reached.{HasBuiltinOps, HasMadeValues}
use Rattle.expand_laws.proofs.Sizes.{size, total, size_some, size_listed, items_listed, items_size}
use Rattle.expand_laws.proofs.Fine.{IsHead, IsItem, pure_head, listed_tail, IsSmall, item_small}
use Rattle.expand_laws.proofs.Worths.{worth, worths, least, worth_listed, items_worth, worth_size, least_worth, pure_least}
use Rattle.expand_laws.proofs.Always.{Within, Always, AllAlways, RowWithin, more, row_more, no_more_parts, another, node_of, refused, word_form, formed, weigh, all_each}
use Rattle.expand_laws.proofs.Atoms.{nil_within, variable_always}
use Rattle.expand_laws.proofs.Lets.{BindingWithin, pair_binding, bindings_listed, value_weight, listed_weight, let_form}
use Rattle.expand_laws.proofs.SetRows.{set_place_ends}
use Rattle.expand_laws.proofs.Below.{Below, AllItems, AllSmall, small_least, small_always, smalls_always}

-- the object of a place, where the table ends on the place and on setting it
object_within : {right : Value → Type 0} → HasMadeValues right → (j k : ℕ) (s : Span) (place : Datum) → Within right j place
    → ((scope : Scope) → RowWithin right k (set_place scope s place (a_variable s new.Content))) → Within right (2 + j + k) (locative_object s place)
object_within {right} m j k s place hp h =
    let own = a_variable s new.Own in
    let content = a_variable s new.Content in
    let assign = listed s (word_ s (codes "set") ∷ place ∷ content ∷ []) in
    let ha : Within right k assign = word_form right k s (codes "set") word.Set (place ∷ content ∷ []) refl (hp.ops, (tt, tt)) h in
    let first = listed s (listed s (an_operation s 1 ∷ own ∷ []) ∷ place ∷ []) in
    let second = listed s (listed s (an_operation s 2 ∷ own ∷ content ∷ []) ∷ assign ∷ []) in
    let first_ops : HasBuiltinOps first = ((omega arith, (tt, tt)), (hp.ops, tt)) in
    let second_ops : HasBuiltinOps second = ((omega arith, (tt, (tt, tt))), (ha.ops, tt)) in
    word_form right (2 + j + k) s (codes "object") word.Object (a_nil s ∷ first ∷ second ∷ []) refl (tt, (first_ops, (second_ops, tt)))
    (λ scope. node_of tt (another (nil_within m s) (another hp (another ha no_more_parts))) (omega arith))

-- ---- the parts of the call

-- the table ends on each, and leaves something of what it is worth
abbrev AllLeast : (Value → Type 0) → List Datum → Type 0
AllLeast right es = AllByRecursion (λ e. Within right (least e) e) es

smalls_least : (right : Value → Type 0) (n : ℕ) (ds : List Datum) → Below right n → AllSmall right n ds → AllLeast right ds
smalls_least right n ds below h = all_each (IsSmall right n) (λ e. Within right (least e) e) (λ d k. small_least right n d below k) ds h

bindings_each : (right : Value → Type 0) (s : Span) (i : ℕ) (es : List Datum) → AllLeast right es → AllByRecursion (BindingWithin right least) (part_bindings s i es)
bindings_each right s i [] h = tt
bindings_each right s i (e ∷ es) h = (pair_binding right least s (a_variable s (new.Part i)) e h.0, bindings_each right s (i + 1) es h.1)

bindings_weight : (s : Span) (i : ℕ) (es : List Datum) → weigh (value_weight least) (part_bindings s i es) ≡ weigh least es
bindings_weight s i [] = refl
bindings_weight s i (e ∷ es) = let k = bindings_weight s (i + 1) es in omega (arith, k)

bindings_ops : (right : Value → Type 0) (s : Span) (i : ℕ) (es : List Datum) → AllLeast right es → HasBuiltinOps (listed s (part_bindings s i es))
bindings_ops right s i [] h = tt
bindings_ops right s i (e ∷ es) h = ((tt, (h.0.ops, tt)), bindings_ops right s (i + 1) es h.1)

variables_items : (right : Value → Type 0) (s : Span) (i : ℕ) (es : List Datum) → AllItems right (part_variables s i es)
variables_items right s i [] = tt
variables_items right s i (e ∷ es) = (tt, variables_items right s (i + 1) es)

variables_always : {right : Value → Type 0} → HasMadeValues right → (s : Span) (i : ℕ) (es : List Datum) → AllAlways right (part_variables s i es)
variables_always m s i [] = tt
variables_always m s i (e ∷ es) = (variable_always m s (new.Part i), variables_always m s (i + 1) es)

variables_total : (s : Span) (i : ℕ) (es : List Datum) → total (part_variables s i es) ≤ total es
variables_total s i [] = omega arith
variables_total s i (e ∷ es) =
    let one = size_some e in
    let rest = variables_total s (i + 1) es in
    omega (arith, one, rest)

-- what is left of the e is enough for their variables, twice
variables_worth : (right : Value → Type 0) (n : ℕ) (s : Span) (i : ℕ) (es : List Datum) → AllSmall right n es
    → weigh least es + worths (part_variables s i es) + worths (part_variables s i es) ≤ worths es
variables_worth right n s i [] h = omega arith
variables_worth right n s i (e ∷ es) h =
    let a = pure_least right e h.0.is_pure in
    let b = variables_worth right n s (i + 1) es h.1 in
    omega (arith, a, b)

-- the object of a call of an operator on new variables
call_object : {right : Value → Type 0} → HasMadeValues right → (n : ℕ) (s : Span) (f : Datum) (es : List Datum) → Below right n → IsHead right f → Always right f
    → 2 + size f + total es < n
    → Within right (132 + worth f + worth f + worths (part_variables s 1 es) + worths (part_variables s 1 es)) (locative_object s (listed s (f ∷ part_variables s 1 es)))
call_object {right} m n s f es below h hf l =
    let us = part_variables s 1 es in
    let fewer = variables_total s 1 es in
    let long = size_listed s us in
    let smaller : size (listed s (f ∷ us)) < n = omega (arith, l, fewer, long) in
    let place : Within right (least (listed s (f ∷ us))) (listed s (f ∷ us)) = below (listed s (f ∷ us)) smaller (h, listed_tail m s us (variables_items right s 1 es)) in
    let items : AllAlways right (f ∷ us) = (hf, variables_always m s 1 es) in
    let w = worth_listed s us in
    more (132 + worth f + worth f + worths us + worths us)
    (object_within m (least (listed s (f ∷ us))) (1 + worth (listed s (f ∷ us)) + 1) s (listed s (f ∷ us)) place
    (λ scope. set_place_ends m scope s (listed s (f ∷ us)) (a_variable s new.Content) (variable_always m s new.Content)
    (λ ds e. subst (AllAlways right) (same_Some (f ∷ us) ds (sym (items_listed s (f ∷ us)) ∙ e)) items)))
    (omega (arith, w))

-- LET of new names to the parts around it
parts_let : (right : Value → Type 0) (k : ℕ) (s : Span) (i : ℕ) (es : List Datum) (d : Datum) → AllLeast right es → Within right k d
    → Within right (1 + weigh least es + k) (listed s (word_ s (codes "let") ∷ listed s (part_bindings s i es) ∷ d ∷ []))
parts_let right k s i es d h hd =
    let w = bindings_weight s i es in
    more (1 + weigh least es + k)
    (let_form right least (weigh (value_weight least) (part_bindings s i es)) k s (listed s (part_bindings s i es)) d (bindings_ops right s i es h)
    (bindings_listed right least s (part_bindings s i es) (bindings_each right s i es h)) (listed_weight least s (part_bindings s i es)) hd)
    (omega (arith, w))

-- the operator stays
kept : {right : Value → Type 0} → HasMadeValues right → (n : ℕ) (s : Span) (a : Datum) (es : List Datum) → Below right n → IsSmall right n a → AllSmall right n es
    → 2 + size a + total es < n → worth a ≤ 64
    → Within right (208 + worth a + worths es) (listed s (word_ s (codes "let") ∷ listed s (part_bindings s 1 es) ∷ locative_object s (listed s (a ∷ part_variables s 1 es)) ∷ []))
kept {right} m n s a es below h he l few =
    let us = part_variables s 1 es in
    let w = variables_worth right n s 1 es he in
    more (208 + worth a + worths es)
    (parts_let right (132 + worth a + worth a + worths us + worths us) s 1 es (locative_object s (listed s (a ∷ us))) (smalls_least right n es below he)
    (call_object m n s a es below (pure_head right a h.is_pure) (small_always right n a below h) l))
    (omega (arith, w, few))

-- the operator has a new name too
renamed : {right : Value → Type 0} → HasMadeValues right → (n : ℕ) (s : Span) (a : Datum) (es : List Datum) → Below right n → IsSmall right n a → AllSmall right n es
    → 2 + size a + total es < n
    → Within right (208 + worth a + worths es)
    (listed s (word_ s (codes "let") ∷ listed s (part_bindings s 0 (a ∷ es)) ∷ locative_object s (listed s (part_variables s 0 (a ∷ es))) ∷ []))
renamed {right} m n s a es below h he l =
    let one = size_some a in
    let k : 2 + size (a_variable s (new.Part 0)) + total es < n = omega (arith, l, one) in
    let us = part_variables s 1 es in
    let w = variables_worth right n s 1 es he in
    let few = least_worth a in
    more (208 + worth a + worths es)
    (parts_let right (132 + 1 + 1 + worths us + worths us) s 0 (a ∷ es) (locative_object s (listed s (part_variables s 0 (a ∷ es)))) (smalls_least right n (a ∷ es) below (h, he))
    (call_object m n s (a_variable s (new.Part 0)) es below tt (variable_always m s (new.Part 0)) k))
    (omega (arith, w, few))

locative_call_ends : {right : Value → Type 0} → HasMadeValues right → (n : ℕ) (s : Span) (a : Datum) (es : List Datum) → Below right n → IsSmall right n a
    → AllSmall right n es → 2 + size a + total es < n → RowWithin right (208 + worth a + worths es) (locative_call s a es)
locative_call_ends m n s (atom t (given (fix z))) es below h he l = renamed m n s (atom t (given (fix z))) es below h he l
locative_call_ends m n s (atom t (given (char c))) es below h he l = renamed m n s (atom t (given (char c))) es below h he l
locative_call_ends m n s (atom t (given nil)) es below h he l = renamed m n s (atom t (given nil)) es below h he l
locative_call_ends m n s (atom t (given truth)) es below h he l = renamed m n s (atom t (given truth)) es below h he l
locative_call_ends m n s (atom t (given (string text))) es below h he l = renamed m n s (atom t (given (string text))) es below h he l
locative_call_ends m n s (atom t (given (symbol text))) es below h he l = kept m n s (atom t (given (symbol text))) es below h he l (omega arith)
locative_call_ends m n s (atom t (variable v)) es below h he l = kept m n s (atom t (variable v)) es below h he l (omega arith)
locative_call_ends m n s (atom t (builtin p)) es below h he l = renamed m n s (atom t (builtin p)) es below h he l
locative_call_ends m n s (atom t (operation o)) es below h he l = renamed m n s (atom t (operation o)) es below h he l
locative_call_ends m n s (atom t listing) es below h he l = renamed m n s (atom t listing) es below h he l
locative_call_ends m n s (cons t head tail) es below h he l = renamed m n s (cons t head tail) es below h he l

-- the items of a place
record PlaceItems (right : Value → Type 0) (k n : ℕ) (ds : List Datum) : Type 0 where
  small : AllSmall right n ds
  below : 1 + total ds < n
  few : 64 + worths ds ≤ k

locative_items_ends : {right : Value → Type 0} → HasMadeValues right → (k n : ℕ) (s : Span) (o : Option (List Datum)) → Below right n
    → ((ds : List Datum) → o ≡ Some ds → PlaceItems right k n ds) → RowWithin right (128 + k) (locative_items s o)
locative_items_ends m k n s None below h = refused (omega arith)
locative_items_ends m k n s (Some []) below h = refused (omega arith)
locative_items_ends {right} m k n s (Some (a ∷ es)) below h =
    let i = h (a ∷ es) refl in
    let below_total = i.below in
    let l : 2 + size a + total es < n = omega (arith, below_total) in
    let few = i.few in
    row_more right (208 + worth a + worths es) (128 + k) (locative_call s a es) (locative_call_ends m n s a es below i.small.0 i.small.1 l) (omega (arith, few))

locative_of_ends : {right : Value → Type 0} → HasMadeValues right → (n : ℕ) (s : Span) (d : Datum) → Below right n → IsItem right d → Always right d → size d < n
    → RowWithin right (128 + worth d) (locative_of s d)
locative_of_ends {right} m n s (atom t a) below h hd l =
    let k : size (atom t a) ≤ n = omega (arith, l) in
    let w = worth_size (atom t a) in
    formed right (128 + worth (atom t a)) s (λ x. stands_for (locative_object s (atom t a))) (name_of (atom t a)) (omega arith)
    (λ x e. more (128 + worth (atom t a))
    (object_within m (worth (atom t a)) (1 + worth (atom t a) + 1) s (atom t a) hd
    (λ scope. set_place_ends m scope s (atom t a) (a_variable s new.Content) (variable_always m s new.Content)
    (λ ds i. smalls_always right n ds below (item_small right n (atom t a) ds h k i))))
    (omega (arith, w)))
locative_of_ends {right} m n s (cons t head tail) below h hd l = locative_items_ends m (worth (cons t head tail)) n s (items_of (cons t head tail)) below items
  where
    items : (ds : List Datum) → items_of (cons t head tail) ≡ Some ds → PlaceItems right (worth (cons t head tail)) n ds
    items ds e =
        let k : size (cons t head tail) ≤ n = omega (arith, l) in
        let z = items_size (cons t head tail) ds e in
        let w = items_worth (cons t head tail) ds e in
        record { small = item_small right n (cons t head tail) ds h k e; below = omega (arith, l, z); few = omega (arith, w) }

pub locative_row_ends : {right : Value → Type 0} → HasMadeValues right → (n : ℕ) (s : Span) (ds : List Datum) → Below right n → AllItems right ds → AllAlways right ds
    → total ds ≤ n → RowWithin right (112 + worths ds) (locative_row s ds)
locative_row_ends m n s [] below h a l = refused (omega arith)
locative_row_ends {right} m n s (d ∷ []) below h a l =
    let k : size d < n = omega (arith, l) in
    row_more right (128 + worth d) (112 + worths (d ∷ [])) (locative_of s d) (locative_of_ends m n s d below h.0 a.0 k) (omega arith)
locative_row_ends m n s (d ∷ e ∷ ds) below h a l = refused (omega arith)
