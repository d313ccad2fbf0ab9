-- What a unit defines, definition by definition.
use Rattle.std.proofs.Common.{◌≡◌, ◌≢◌, ℕ, suc, ◌+◌, ◌==◌, ◌||◌, Bool, true, false, not, List, [], ◌∷◌, ◌++◌, length, map, Option, Some, None, is_some, slice_get, slice_set, AllPairs, refl, sym, ap, subst, ◌∙◌, append_assoc, if◌then◌else◌, arith}
use Rattle.std.specs.List.{filter}
use Rattle.std.specs.Str.{bytes_eq}
use Rattle.std.specs.Prelude.{codes}
use Rattle.std.proofs.lemmas.Bool.Decides.{Decides-eqb}
use Rattle.std.proofs.lemmas.List.{append-nil, map-append, length-map}
use Rattle.std.proofs.lemmas.List.Elements.{filter-append}
use Rattle.std.proofs.lemmas.Option.{same_Some}
use Rattle.t_base.specs.declared.basics.Name.{Name as NamePlace}
use Rattle.t_base.specs.declared.shared_parts.Global1.{Global1}
use Rattle.t_base.specs.declared.shared_parts.GlobalKind.{GlobalKind}
use Rattle.t_base.specs.declared.shared_parts.GlobalKind.TheVariants as kinds
use Rattle.t_base.specs.declared.shared_parts.OpInfo.{OpInfo}
use Rattle.t_forms.specs.declared.arena.Cell.{Cell}
use Rattle.t_forms.specs.declared.scope.LocalName.{LocalName}
use Rattle.t_forms.specs.declared.scope.LocalName.TheVariants as key
use Rattle.t_forms.specs.declared.scope.Defined.{Defined}
use Rattle.t_forms.specs.declared.scope.Defined.TheVariants as kept
use Rattle.t_forms.specs.Data.{Datum, Name, written, made, is_same_name}
use Rattle.t_forms.specs.Names.{Meaning, Bound, bound, a_global, an_op, defined_as}
use Rattle.t_forms.specs.Held.{IsName, IsTable, IsDefined}
use Rattle.t_forms.proofs.Bindings.{same_place, nothing_defined}
use Rattle.form_rows.specs.declared.definitions.Definition.{Definition as CodeDefinition}
use Rattle.form_rows.specs.Definitions.{IsDefinition}
use Rattle.t_rows.specs.Lists.{IsHeldIf}
use Rattle.t_rows.specs.Rows.{Definition, define, lset, operation_form}
use Rattle.unit_tops.specs.Entries.{AreEntries, IsGlobalAdded, IsOpAdded, IsPut, is_variable}
use Rattle.expansion.specs.Settling.{first_kind, has_default}
use Rattle.expansion.specs.Units.{Entry, entry, defined_name, is_global, is_assigned, has_entry, with_definition, meanings_from, text_of, texts}
use Rattle.unit_tops.specs.declared.entries.Entries.{Entries}
use Rattle.unit_tops.proofs.PlaceLemmas.{got_same, got_other}

-- ---- names

-- the name at a place
pub record Written (names : List (List ℕ)) (p : NamePlace) (n : Name) : Type 0 where
  pub text : List ℕ
  pub is : n ≡ written text
  pub at : slice_get names p.0 ≡ Some text

pub written_name : (names : List (List ℕ)) (k : LocalName) (n : Name) (p : NamePlace) → IsName names k n → k ≡ key.Written p → Written names p n
written_name names k (written t) p is e =
    let same : is.0 ≡ p = let x = is.1 in cc in record { text = t; is = refl; at = subst (λ (q : NamePlace). slice_get names q.0 ≡ Some t) same is.2 }
written_name names k (made v) p is e = absurd (let x : ⊥ = cc in x)

-- ---- entries and what they mean

known_here : (same : Bool) (m : Meaning) (b : Bool) (d : Option Meaning) → b ≡ is_some d → (same || b) ≡ is_some (if same then Some m else d)
known_here true m b d e = refl
known_here false m b d e = e

known_by : (e : Entry) (es : List Entry) (g o : ℕ) (n : Name) (global : Bool) → has_entry n es ≡ is_some (defined_as (meanings_from (g + 1) o es) n)
    → has_entry n es ≡ is_some (defined_as (meanings_from g (o + 1) es) n)
    → (is_same_name e.name n || has_entry n es)
    ≡ is_some (defined_as (if global then bound e.name (a_global g (is_assigned e.by)) ∷ meanings_from (g + 1) o es else bound e.name (an_op o) ∷ meanings_from g (o + 1) es) n)
known_by e es g o n true h i = known_here (is_same_name e.name n) (a_global g (is_assigned e.by)) (has_entry n es) (defined_as (meanings_from (g + 1) o es) n) h
known_by e es g o n false h i = known_here (is_same_name e.name n) (an_op o) (has_entry n es) (defined_as (meanings_from g (o + 1) es) n) i

pub has_known : (es : List Entry) (g o : ℕ) (n : Name) → has_entry n es ≡ is_some (defined_as (meanings_from g o es) n)
has_known [] g o n = refl
has_known (e ∷ es) g o n = known_by e es g o n (is_global e.by) (has_known es (g + 1) o n) (has_known es g (o + 1) n)

-- a global put last
abbrev GlobalLast : List Entry → Entry → ℕ → ℕ → ℕ → Type 0
GlobalLast es e g o k = meanings_from g o (es ++ e ∷ []) ≡ meanings_from g o es ++ bound e.name (a_global k (is_assigned e.by)) ∷ []

global_step : (x : Entry) (es : List Entry) (e : Entry) (g o k : ℕ) (b : Bool) → is_global x.by ≡ b
    → k ≡ g + length (filter (λ y. is_global y.by) (x ∷ es)) → (k ≡ (g + 1) + length (filter (λ y. is_global y.by) es) → GlobalLast es e (g + 1) o k)
    → (k ≡ g + length (filter (λ y. is_global y.by) es) → GlobalLast es e g (o + 1) k) → GlobalLast (x ∷ es) e g o k
global_step x es e g o k true t f h i =
    let s = rw t at f in
    let more : k ≡ (g + 1) + length (filter (λ y. is_global y.by) es) = omega (arith, s) in
    rw t (ap (λ l. bound x.name (a_global g (is_assigned x.by)) ∷ l) (h more))
global_step x es e g o k false t f h i = let s = rw t at f in rw t (ap (λ l. bound x.name (an_op o) ∷ l) (i s))

global_last : (es : List Entry) (e : Entry) (g o k : ℕ) → is_global e.by ≡ true → k ≡ g + length (filter (λ x. is_global x.by) es) → GlobalLast es e g o k
global_last [] e g o k h f = let same : k ≡ g = omega (arith, f) in rw (h, same) refl
global_last (x ∷ es) e g o k h f = global_step x es e g o k (is_global x.by) refl f (λ s. global_last es e (g + 1) o k h s) (λ s. global_last es e g (o + 1) k h s)

-- an operation put last
abbrev OpLast : List Entry → Entry → ℕ → ℕ → ℕ → Type 0
OpLast es e g o k = meanings_from g o (es ++ e ∷ []) ≡ meanings_from g o es ++ bound e.name (an_op k) ∷ []

op_step : (x : Entry) (es : List Entry) (e : Entry) (g o k : ℕ) (b : Bool) → is_global x.by ≡ b
    → k ≡ o + length (filter (λ y. not (is_global y.by)) (x ∷ es)) → (k ≡ o + length (filter (λ y. not (is_global y.by)) es) → OpLast es e (g + 1) o k)
    → (k ≡ (o + 1) + length (filter (λ y. not (is_global y.by)) es) → OpLast es e g (o + 1) k) → OpLast (x ∷ es) e g o k
op_step x es e g o k true t f h i = let s = rw t at f in rw t (ap (λ l. bound x.name (a_global g (is_assigned x.by)) ∷ l) (h s))
op_step x es e g o k false t f h i =
    let s = rw t at f in
    let more : k ≡ (o + 1) + length (filter (λ y. not (is_global y.by)) es) = omega (arith, s) in
    rw t (ap (λ l. bound x.name (an_op o) ∷ l) (i more))

op_last : (es : List Entry) (e : Entry) (g o k : ℕ) → is_global e.by ≡ false → k ≡ o + length (filter (λ x. not (is_global x.by)) es) → OpLast es e g o k
op_last [] e g o k h f = let same : k ≡ o = omega (arith, f) in rw (h, same) refl
op_last (x ∷ es) e g o k h f = op_step x es e g o k (is_global x.by) refl f (λ s. op_last es e (g + 1) o k h s) (λ s. op_last es e g (o + 1) k h s)

-- ---- the table

defined_step : (c : Bound) (bounds : List Bound) (b : Bound) (n : Name) (t : Bool) → is_same_name c.name n ≡ t → defined_as (c ∷ bounds) n ≡ None
    → (defined_as bounds n ≡ None → defined_as (bounds ++ b ∷ []) n ≡ (if is_same_name b.name n then Some b.means else None))
    → defined_as (c ∷ (bounds ++ b ∷ [])) n ≡ (if is_same_name b.name n then Some b.means else None)
defined_step c bounds b n true h e rest = absurd (let u = rw h at e in let x : ⊥ = cc in x)
defined_step c bounds b n false h e rest = let u = rw h at e in rw h (rest u)

defined_last : (bounds : List Bound) (b : Bound) (n : Name) → defined_as bounds n ≡ None → defined_as (bounds ++ b ∷ []) n ≡ (if is_same_name b.name n then Some b.means else None)
defined_last [] b n e = refl
defined_last (c ∷ bounds) b n e = defined_step c bounds b n (is_same_name c.name n) refl e (λ u. defined_last bounds b n u)

defined_else : (bounds : List Bound) (b : Bound) (n : Name) → is_same_name b.name n ≡ false → defined_as (bounds ++ b ∷ []) n ≡ defined_as bounds n
defined_else [] b n e = rw e refl
defined_else (c ∷ bounds) b n e = ap (λ d. if is_same_name c.name n then Some c.means else d) (defined_else bounds b n e)

pub table_more : (names : List (List ℕ)) (table : List (Option Defined)) (bounds : List Bound) (p : ℕ) (t : List ℕ) (m : Meaning) (x : Defined)
    → AllPairs (λ a b. a ≢ b) names → IsTable names table bounds → slice_get names p ≡ Some t → slice_get table p ≡ Some None → IsDefined (Some x) (Some m)
    → IsTable names (slice_set table p (Some x)) (bounds ++ bound (written t) m ∷ [])
table_more names table bounds p t m x apart is here free means = record {
  texts = λ n text at. by n text at (p == n) refl;
  others = λ v. defined_else bounds (bound (written t) m) (made v) refl ∙ is.others v;
}
  where
    by : (n : ℕ) (text : List ℕ) → slice_get names n ≡ Some text → (b : Bool) → (p == n) ≡ b
        → (d : Option Defined) × (slice_get (slice_set table p (Some x)) n ≡ Some d) × IsDefined d (defined_as (bounds ++ bound (written t) m ∷ []) (written text))
    by n text at true e =
        let same : p ≡ n = (Decides-eqb p n).0 e in
        let texts_same : bytes_eq t text ≡ true = sym (same_place names p n t text apart here at) ∙ e in
        let old = is.texts n text at in
        let none : old.0 ≡ None = same_Some old.0 None (sym old.1 ∙ subst (λ (q : ℕ). slice_get table q ≡ Some None) same free) in
        let unknown = nothing_defined old.0 (defined_as bounds (written text)) old.2 none in
        let now : defined_as (bounds ++ bound (written t) m ∷ []) (written text) ≡ Some m = defined_last bounds (bound (written t) m) (written text) unknown ∙ (rw texts_same refl) in
        (Some x, subst (λ (q : ℕ). slice_get (slice_set table p (Some x)) q ≡ Some (Some x)) same (got_same table p (Some x) None free), rw now means)
    by n text at false e =
        let other : n ≢ p = λ s. let u : (p == n) ≡ true = (Decides-eqb p n).1 (sym s) in cc in
        let differ : bytes_eq t text ≡ false = sym (same_place names p n t text apart here at) ∙ e in
        let old = is.texts n text at in
        let now : defined_as (bounds ++ bound (written t) m ∷ []) (written text) ≡ defined_as bounds (written text) = defined_else bounds (bound (written t) m) (written text) differ in
        (old.0, got_other table p n (Some x) old.0 other old.1, rw now old.2)

-- ---- the lists

text_last : {A : Type 0} (f : A → Option (List ℕ)) (xs : List (List ℕ)) (gs : List A) (g : A) (t : List ℕ) → map (λ x. Some x) xs ≡ map f gs → f g ≡ Some t
    → map (λ x. Some x) (xs ++ t ∷ []) ≡ map f (gs ++ g ∷ [])
text_last f xs gs g t e h = map-append (λ x. Some x) xs (t ∷ []) ∙ ap (λ l. l ++ Some t ∷ []) e ∙ ap (λ y. map f gs ++ y ∷ []) (sym h) ∙ sym (map-append f gs (g ∷ []))

pub as_many_texts : {A : Type 0} (f : A → Option (List ℕ)) (xs : List (List ℕ)) (gs : List A) → map (λ x. Some x) xs ≡ map f gs → length gs ≡ length xs
as_many_texts f xs gs e = sym (length-map gs f) ∙ ap length (sym e) ∙ length-map xs (λ x. Some x)

texts_last : (p : Entry → Bool) (es : List Entry) (e : Entry) (t : List ℕ) → p e ≡ true → e.name ≡ written t → texts (filter p (es ++ e ∷ [])) ≡ texts (filter p es) ++ t ∷ []
texts_last p es e t h n =
    let one : filter p (e ∷ []) ≡ e ∷ [] = rw h refl in
    rw (filter-append p es (e ∷ []), one, map-append (λ x. text_of x.name) (filter p es) (e ∷ []), n) refl

texts_same : (p : Entry → Bool) (es : List Entry) (e : Entry) → p e ≡ false → texts (filter p (es ++ e ∷ [])) ≡ texts (filter p es)
texts_same p es e h =
    let none : filter p (e ∷ []) ≡ [] = rw h refl in
    rw (filter-append p es (e ∷ []), none, append-nil (filter p es)) refl

-- what is told of each, behind what is told of those in front
told_last : {A B : Type 0} (f : A → B) (h : Entry → B) (p : Entry → Bool) (front : List B) (es : List Entry) (e : Entry) (gs : List A) (g : A) → p e ≡ true
    → map f gs ≡ front ++ map h (filter p es) → f g ≡ h e → map f (gs ++ g ∷ []) ≡ front ++ map h (filter p (es ++ e ∷ []))
told_last f h p front es e gs g t all one =
    let last : filter p (e ∷ []) ≡ e ∷ [] = rw t refl in
    map-append f gs (g ∷ [])
    ∙ ap (λ l. l ++ f g ∷ []) all
    ∙ append_assoc front (map h (filter p es)) (f g ∷ [])
    ∙ ap (λ x. front ++ (map h (filter p es) ++ x ∷ [])) one
    ∙ ap (λ l. front ++ l) (sym (ap (map h) (filter-append p es (e ∷ []) ∙ ap (λ l. filter p es ++ l) last) ∙ map-append h (filter p es) (e ∷ [])))

told_same : {B : Type 0} (h : Entry → B) (p : Entry → Bool) (es : List Entry) (e : Entry) → p e ≡ false → map h (filter p (es ++ e ∷ [])) ≡ map h (filter p es)
told_same h p es e t =
    let none : filter p (e ∷ []) ≡ [] = rw t refl in
    ap (map h) (filter-append p es (e ∷ []) ∙ ap (λ l. filter p es ++ l) none ∙ append-nil (filter p es))

held_default : (names : List (List ℕ)) (cells : List Cell) (k : Option ℕ) (d : Option Datum) → IsHeldIf names cells k d → is_some k ≡ is_some d
held_default names cells k None h = ap is_some h
held_default names cells k (Some d) h = ap is_some h.1

-- ---- a definition

known_if : (d : Option Defined) (m : Option Meaning) (x : Defined) → IsDefined d m → d ≡ Some x → is_some m ≡ true
known_if d None x is e = absurd (let u : ⊥ = cc in u)
known_if d (Some m) x is e = refl

-- a name that is defined stays as it is
pub entry_known : (names : List (List ℕ)) (e : Entries) (es : List Entry) (d : Definition) (p : NamePlace) (x : Defined) → AreEntries names e es
    → Written names p (defined_name d).name → slice_get e.table.items p.0 ≡ Some (Some x) → with_definition es d ≡ es
entry_known names e es d p x are w at =
    let there = are.table.texts p.0 w.text w.at in
    let same : there.0 ≡ Some x = same_Some there.0 (Some x) (sym there.1 ∙ at) in
    let known : is_some (defined_as (meanings_from 0 3 es) (written w.text)) ≡ true = known_if there.0 (defined_as (meanings_from 0 3 es) (written w.text)) x there.2 same in
    let has : has_entry (defined_name d).name es ≡ true = has_known es 0 3 (defined_name d).name ∙ (rw w.is known) in
    rw has refl

free_entry : (names : List (List ℕ)) (e : Entries) (es : List Entry) (n : Name) (p : NamePlace) → AreEntries names e es
    → Written names p n → slice_get e.table.items p.0 ≡ Some None → has_entry n es ≡ false
free_entry names e es n p are w at =
    let there = are.table.texts p.0 w.text w.at in
    let none : there.0 ≡ None = same_Some there.0 None (sym there.1 ∙ at) in
    let unknown = nothing_defined there.0 (defined_as (meanings_from 0 3 es) (written w.text)) there.2 none in
    has_known es 0 3 n ∙ (rw (w.is, unknown) refl)

global_added : (names : List (List ℕ)) (old new : Entries) (es : List Entry) (e : Entry) (p : NamePlace) (k : GlobalKind) (t : List ℕ) → AllPairs (λ a b. a ≢ b) names
    → AreEntries names old es → e.name ≡ written t → slice_get names p.0 ≡ Some t → slice_get old.table.items p.0 ≡ Some None → is_global e.by ≡ true
    → is_assigned e.by ≡ is_variable k → k ≡ first_kind e.by → IsGlobalAdded old new p k → AreEntries names new (es ++ e ∷ [])
global_added names old new es e p k t apart are n here free global assigned first added =
    let place : length old.globals.items ≡ 0 + length (filter (λ x. is_global x.by) es) =
    (let c = as_many_texts (λ (g : Global1). slice_get names g.name.0) (texts (filter (λ x. is_global x.by) es)) old.globals.items are.globals in
    let l : length (texts (filter (λ x. is_global x.by) es)) ≡ length (filter (λ x. is_global x.by) es) = length-map (filter (λ x. is_global x.by) es) (λ x. text_of x.name) in
    omega (arith, c, l)) in
    let is_op : not (is_global e.by) ≡ false = rw global refl in
    record {
      table =
          rw (added.table, global_last es e 0 3 (length old.globals.items) global place, n, assigned)
          (table_more names old.table.items (meanings_from 0 3 es) p.0 t (a_global (length old.globals.items) (is_variable k)) (kept.Global (length old.globals.items) (is_variable k)) apart are.table here free refl);
      globals =
          rw (texts_last (λ x. is_global x.by) es e t global n, added.globals)
          (text_last (λ (g : Global1). slice_get names g.name.0) (texts (filter (λ x. is_global x.by) es)) old.globals.items (record { name = p; kind = k }) t are.globals here);
      ops = rw (texts_same (λ x. not (is_global x.by)) es e is_op, added.ops) are.ops;
      kinds =
          ap (map (λ (g : Global1). g.kind)) added.globals
          ∙ told_last (λ (g : Global1). g.kind) (λ x. first_kind x.by) (λ x. is_global x.by) [] es e old.globals.items (record { name = p; kind = k }) global are.kinds first;
      defaults =
          ap (map (λ (o : OpInfo). o.default)) added.ops
          ∙ are.defaults
          ∙ ap (λ l. false ∷ false ∷ false ∷ l) (sym (told_same (λ x. has_default x.by) (λ x. not (is_global x.by)) es e is_op));
    }

op_added : (names : List (List ℕ)) (old new : Entries) (es : List Entry) (e : Entry) (p : NamePlace) (default : Bool) (t : List ℕ) → AllPairs (λ a b. a ≢ b) names
    → AreEntries names old es → e.name ≡ written t → slice_get names p.0 ≡ Some t → slice_get old.table.items p.0 ≡ Some None → is_global e.by ≡ false
    → default ≡ has_default e.by → IsOpAdded old new p default → AreEntries names new (es ++ e ∷ [])
op_added names old new es e p default t apart are n here free global filled added =
    let builtins = codes "setter" ∷ codes "contents" ∷ codes "set-contents" ∷ texts (filter (λ x. not (is_global x.by)) es) in
    let place : length old.ops.items ≡ 3 + length (filter (λ x. not (is_global x.by)) es) =
    (let c = as_many_texts (λ (o : OpInfo). slice_get names o.name.0) builtins old.ops.items are.ops in
    let l : length (texts (filter (λ x. not (is_global x.by)) es)) ≡ length (filter (λ x. not (is_global x.by)) es) = length-map (filter (λ x. not (is_global x.by)) es) (λ x. text_of x.name) in
    let m : length builtins ≡ suc (suc (suc (length (texts (filter (λ x. not (is_global x.by)) es))))) = refl in
    omega (arith, c, l, m)) in
    let is_op : not (is_global e.by) ≡ true = rw global refl in
    record {
      table =
          rw (added.table, op_last es e 0 3 (length old.ops.items) global place, n)
          (table_more names old.table.items (meanings_from 0 3 es) p.0 t (an_op (length old.ops.items)) (kept.Operation (length old.ops.items)) apart are.table here free refl);
      globals = rw (texts_same (λ x. is_global x.by) es e global, added.globals) are.globals;
      ops =
          rw (texts_last (λ x. not (is_global x.by)) es e t is_op n, added.ops)
          (text_last (λ (o : OpInfo). slice_get names o.name.0) builtins old.ops.items (record { name = p; default = default }) t are.ops here);
      kinds = ap (map (λ (g : Global1). g.kind)) added.globals ∙ are.kinds ∙ sym (told_same (λ x. first_kind x.by) (λ x. is_global x.by) es e global);
      defaults =
          ap (map (λ (o : OpInfo). o.default)) added.ops
          ∙ told_last (λ (o : OpInfo). o.default) (λ x. has_default x.by) (λ x. not (is_global x.by)) (false ∷ false ∷ false ∷ []) es e old.ops.items
          (record { name = p; default = default }) is_op are.defaults filled;
    }

put_entry : (names : List (List ℕ)) (cells : List Cell) (old new : Entries) (es : List Entry) (c : CodeDefinition) (d : Definition) (p : NamePlace)
    → AllPairs (λ a b. a ≢ b) names → AreEntries names old es → Written names p (defined_name d).name → slice_get old.table.items p.0 ≡ Some None
    → IsDefinition names cells c d → IsPut old new p c → AreEntries names new (es ++ entry d ∷ [])
put_entry names cells old new es c (define b e) p apart are w free of put =
    global_added names old new es (entry (define b e)) p kinds.Value w.text apart are w.is w.at free refl refl refl (subst (λ x. IsPut old new p x) of.2 put)
put_entry names cells old new es c (lset b e) p apart are w free of put =
    global_added names old new es (entry (lset b e)) p kinds.Variable w.text apart are w.is w.at free refl refl refl (subst (λ x. IsPut old new p x) of.2 put)
put_entry names cells old new es c (operation_form b ps e) p apart are w free of put =
    op_added names old new es (entry (operation_form b ps e)) p (is_some of.2) w.text apart are w.is w.at free refl (held_default names cells of.2 e of.6) (subst (λ x. IsPut old new p x) of.3 put)

pub entry_added : (names : List (List ℕ)) (cells : List Cell) (old new : Entries) (es : List Entry) (c : CodeDefinition) (d : Definition) (p : NamePlace)
    → AllPairs (λ a b. a ≢ b) names → AreEntries names old es → Written names p (defined_name d).name → slice_get old.table.items p.0 ≡ Some None
    → IsDefinition names cells c d → IsPut old new p c → AreEntries names new (with_definition es d)
entry_added names cells old new es c d p apart are w free of put =
    rw (free_entry names old es (defined_name d).name p are w free) (put_entry names cells old new es c d p apart are w free of put)
