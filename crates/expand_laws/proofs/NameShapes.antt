-- What a name means in a scope whose definitions are those of a unit, and the shapes of the rows of names.
use Rattle.std.proofs.Common.{◌≡◌, ℕ, suc, ◌+◌, ◌<◌, Bool, true, false, List, [], ◌∷◌, length, Contains, Option, Some, None, if◌then◌else◌, codes, inl, inr, refl, arith, IfSome}
use Rattle.std.specs.List.{AllByRecursion}
use Rattle.std.specs.Str.{bytes_eq}
use Rattle.t_base.specs.declared.basics.Span.{Span}
use Rattle.t_base.specs.declared.builtins.Builtin.{Builtin}
use Rattle.t_objects.specs.Words.{spelled}
use Rattle.t_forms.specs.Builtins.{builtin_named}
use Rattle.t_forms.specs.Data.{Name, written, made, is_same_name}
use Rattle.t_forms.specs.Names.{Meaning, a_local, a_global, an_op, the_builtin, the_operation, the_truth, the_listing, none, Bound, Scope, bound, or_else, operation_names, beyond, place_from, defined_as, meaning}
use Rattle.t_rows.specs.Rows.{name_row}
use Rattle.expansion.specs.Units.{Top, Entry, is_global, is_assigned, entries_of, meanings_from, definitions_of}
use Rattle.expand_laws.proofs.Reached.{IsDefinedGlobal, IsUnitOp}
use Rattle.expand_laws.proofs.RowShapes.{RowShaped}

-- ---- what a unit defines

-- a global or an operation
abbrev pub IsOwnMeaning : Meaning → Type 0
IsOwnMeaning (a_global g assigned) = Unit {0}
IsOwnMeaning (an_op o) = Unit {0}
IsOwnMeaning _ = ⊥

-- each name that is defined means a global or an operation
abbrev pub DefinesOwn : List Bound → Type 0
DefinesOwn defined = AllByRecursion (λ b. IsOwnMeaning b.means) defined

own_either : (b : Bool) (here there : List Bound) → DefinesOwn here → DefinesOwn there → DefinesOwn (if b then here else there)
own_either true here there h i = h
own_either false here there h i = i

entries_own : (g o : ℕ) (es : List Entry) → DefinesOwn (meanings_from g o es)
entries_own g o [] = tt
entries_own g o (e ∷ es) =
    own_either (is_global e.by) (bound e.name (a_global g (is_assigned e.by)) ∷ meanings_from (g + 1) o es) (bound e.name (an_op o) ∷ meanings_from g (o + 1) es)
    (tt, entries_own (g + 1) o es) (tt, entries_own g (o + 1) es)

pub definitions_own : (tops : List Top) → DefinesOwn (definitions_of tops)
definitions_own tops = entries_own 0 3 (entries_of tops)

-- ---- what a name means

-- a local name is among those around the form, and what is defined is there
abbrev pub IsKnown : Scope → Meaning → Type 0
IsKnown scope (a_local i) = i < length scope.locals
IsKnown scope (a_global g assigned) = IsDefinedGlobal scope.defined g assigned
IsKnown scope (an_op o) = IsUnitOp scope.defined o
IsKnown scope (the_operation o) = o < 3
IsKnown scope _ = Unit {0}

some_either : {A : Type 0} (P : A → Type 0) (b : Bool) (here there : Option A) → IfSome here P → IfSome there P → IfSome (if b then here else there) P
some_either P true here there h i = h
some_either P false here there h i = i

some_weaker : {A : Type 0} (P Q : A → Type 0) → ((x : A) → P x → Q x) → (o : Option A) → IfSome o P → IfSome o Q
some_weaker P Q f None h = tt
some_weaker P Q f (Some x) h = f x h

-- a place is below the number of names
place_below : (i : ℕ) (ms : List Name) (n : Name) → IfSome (place_from i ms n) (λ k. k < i + length ms)
place_below i [] n = tt
place_below i (m ∷ ms) n =
    let here : i < i + length (m ∷ ms) = omega arith in
    some_either (λ k. k < i + length (m ∷ ms)) (is_same_name m n) (Some i) (place_from (i + 1) ms n) here
    (some_weaker (λ k. k < i + 1 + length ms) (λ k. k < i + length (m ∷ ms)) (λ k h. omega arith) (place_from (i + 1) ms n) (place_below (i + 1) ms n))

-- a definition that gives the meaning, which is a global or an operation
record IsGiven (defined : List Bound) (m : Meaning) : Type 0 where
  own : IsOwnMeaning m
  by : Bound
  there : Contains defined by
  means : by.means ≡ m

given_first : (b : Bound) (others : List Bound) → IsOwnMeaning b.means → IsGiven (b ∷ others) b.means
given_first b others h = record { own = h; by = b; there = (0, omega arith, refl); means = refl }

given_later : (b : Bound) (others : List Bound) (m : Meaning) → IsGiven others m → IsGiven (b ∷ others) m
given_later b others m g =
    let at = g.there in let below = at.1 in record { own = g.own; by = g.by; there = (suc at.0, omega arith, at.2); means = g.means }

defined_given : (defined : List Bound) (n : Name) → DefinesOwn defined → IfSome (defined_as defined n) (IsGiven defined)
defined_given [] n h = tt
defined_given (b ∷ others) n h =
    some_either (IsGiven (b ∷ others)) (is_same_name b.name n) (Some b.means) (defined_as others n) (given_first b others h.0)
    (some_weaker (IsGiven others) (IsGiven (b ∷ others)) (λ m g. given_later b others m g) (defined_as others n) (defined_given others n h.1))

known_local : (scope : Scope) (o : Option ℕ) (rest : Meaning) → IfSome o (λ k. k < length scope.locals) → IsKnown scope rest
    → IsKnown scope (or_else a_local o rest)
known_local scope None rest h k = k
known_local scope (Some i) rest h k = h

known_given : (scope : Scope) (m : Meaning) → IsGiven scope.defined m → IsKnown scope m
known_given scope (a_global g assigned) h = record { bound = h.by; there = h.there; means = h.means }
known_given scope (an_op o) h = record { bound = h.by; there = h.there; means = h.means }
known_given scope _ h = absurd h.own

known_defined : (scope : Scope) (o : Option Meaning) (rest : Meaning) → IfSome o (IsGiven scope.defined) → IsKnown scope rest
    → IsKnown scope (or_else (λ m. m) o rest)
known_defined scope None rest h k = k
known_defined scope (Some m) rest h k = known_given scope m h

known_builtin : (scope : Scope) (o : Option Builtin) (rest : Meaning) → IsKnown scope rest → IsKnown scope (or_else the_builtin o rest)
known_builtin scope None rest k = k
known_builtin scope (Some p) rest k = tt

known_operation : (scope : Scope) (o : Option ℕ) (rest : Meaning) → IfSome o (λ k. k < 3) → IsKnown scope rest → IsKnown scope (or_else the_operation o rest)
known_operation scope None rest h k = k
known_operation scope (Some i) rest h k = h

known_either : (scope : Scope) (b : Bool) (here there : Meaning) → IsKnown scope here → IsKnown scope there → IsKnown scope (if b then here else there)
known_either scope true here there h i = h
known_either scope false here there h i = i

operations_below : (names : List (List ℕ × ℕ)) (text : List ℕ) → AllByRecursion (λ p. p.1 < 3) names → IfSome (spelled names text) (λ k. k < 3)
operations_below [] text h = tt
operations_below (p ∷ others) text h =
    some_either (λ k. k < 3) (bytes_eq text p.0) (Some p.1) (spelled others text) h.0 (operations_below others text h.1)

known_beyond : (scope : Scope) (n : Name) → IsKnown scope (beyond n)
known_beyond scope (made n) = tt
known_beyond scope (written text) =
    let first : 0 < 3 = omega arith in
    let second : 1 < 3 = omega arith in
    let third : 2 < 3 = omega arith in
    let last = if bytes_eq text (codes "list") then the_listing else none in
    let word = if bytes_eq text (codes "t") then the_truth else last in
    known_builtin scope (builtin_named text) (or_else the_operation (spelled operation_names text) word)
    (known_operation scope (spelled operation_names text) word (operations_below operation_names text (first, (second, (third, tt))))
    (known_either scope (bytes_eq text (codes "t")) the_truth last tt (known_either scope (bytes_eq text (codes "list")) the_listing none tt tt)))

pub meaning_known : (scope : Scope) (n : Name) → DefinesOwn scope.defined → IsKnown scope (meaning scope n)
meaning_known scope n h =
    let rest = or_else (λ m. m) (defined_as scope.defined n) (beyond n) in
    known_local scope (place_from 0 scope.locals n) rest
    (some_weaker (λ k. k < 0 + length scope.locals) (λ k. k < length scope.locals) (λ k i. omega arith) (place_from 0 scope.locals n) (place_below 0 scope.locals n))
    (known_defined scope (defined_as scope.defined n) (beyond n) (defined_given scope.defined n h) (known_beyond scope n))

-- ---- the rows

pub name_shaped : (scope : Scope) (s : Span) (m : Meaning) → IsKnown scope m → RowShaped scope (name_row s m)
name_shaped scope s (a_local v) k = (refl, k)
name_shaped scope s (a_global g assigned) k = (refl, assigned, k)
name_shaped scope s (an_op o) k = (refl, inr k)
name_shaped scope s (the_builtin p) k = refl
name_shaped scope s (the_operation o) k = (refl, inl k)
name_shaped scope s the_truth k = tt
name_shaped scope s the_listing k = tt
name_shaped scope s none k = tt
