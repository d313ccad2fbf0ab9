-- In a whole unit no name is defined twice.
use Rattle.std.proofs.Common.{◌≡◌, inl, inr, ℕ, suc, zero, ◌+◌, ◌<◌, ◌≤◌, ◌==◌, ◌||◌, Bool, true, false, cond, List, [], ◌∷◌, length, map, take, drop, Option, Some, None, slice_get, Contains, count_by, refl, sym, ap, subst, ◌∙◌, arith}
use Rattle.std.specs.List.{list_any}
use Rattle.std.specs.Option.{IsSomeAnd}
use Rattle.std.proofs.lemmas.Bool.Decides.{Decides-eqb}
use Rattle.std.proofs.lemmas.List.{length-take, take-append-drop}
use Rattle.std.proofs.lemmas.List.Elements.{All-get_or}
use Rattle.std.proofs.lemmas.List.Sums.{sum_by-cons}
use Rattle.std.proofs.lemmas.Option.{slice_get_within, get_or_from_slice_get, same_Some}
use Rattle.std.proofs.lemmas.Slice.Eq.{bytes_eq-Decides}
use Rattle.t_base.specs.declared.basics.Span.{Span}
use Rattle.t_base.specs.declared.shared_parts.Shared.{Shared}
use Rattle.t_reader.specs.Grammar.{Tree}
use Rattle.t_core.specs.declared.forms.FormKind.{FormKind}
use Rattle.t_core.specs.declared.forms.FormKind.TheVariants as kind
use Rattle.t_core.specs.declared.forms.Form.{Form}
use Rattle.t_core.specs.declared.forms.UnitCore.{UnitCore}
use Rattle.t_core.specs.Whole.{IsWhole, IsDefinition, defines_global, defines_op}
use Rattle.t_forms.specs.declared.arena.New.{New}
use Rattle.t_forms.specs.declared.arena.New.TheVariants as new
use Rattle.t_forms.specs.Data.{Name, written, made, is_same_name, is_same_new, datum_of}
use Rattle.t_forms.specs.Names.{Bound, Meaning, a_global, an_op, defined_as}
use Rattle.t_forms.proofs.Keeping.{keeps_append}
use Rattle.t_rows.specs.declared.refusal.Refusal.{Refusal}
use Rattle.t_rows.specs.Rows.{Definition, define, lset, operation_form}
use Rattle.expansion.specs.Meaning.{FormMeans, FormsMean, IsKind, IsCoreOf, top_scope}
use Rattle.expansion.specs.Refusals.{RefusedTop, RefusedAmong, twice_defined}
use Rattle.expansion.specs.Units.{Top, defining, broken, expression, names_defined, defined_name, meaning_of, tops_of, definitions_of}
use Rattle.expansion.proofs.Places.{contains_none}
use Rattle.expansion.proofs.NotBoth.{not_both, not_both_value}

-- ---- one name

same_new : (a b : New) → is_same_new a b ≡ true → a ≡ b
same_new new.Answer new.Answer e = refl
same_new new.Chosen new.Chosen e = refl
same_new new.Turn new.Turn e = refl
same_new new.Start new.Start e = refl
same_new new.Own new.Own e = refl
same_new new.Content new.Content e = refl
same_new (new.Part i) (new.Part j) e = ap new.Part ((Decides-eqb i j).0 e)
same_new _ _ e = absurd (let x : ⊥ = cc in x)

same_name : (a b : Name) → is_same_name a b ≡ true → a ≡ b
same_name (written a) (written b) e = ap written ((bytes_eq-Decides a b).0 e)
same_name (made a) (made b) e = ap made (same_new a b e)
same_name (written a) (made b) e = absurd (let x : ⊥ = cc in x)
same_name (made a) (written b) e = absurd (let x : ⊥ = cc in x)

-- a form that defines the name
pub record Defines (n : Name) (ts : List Top) : Type 0 where
  pub place : ℕ
  pub by : Definition
  pub there : slice_get ts place ≡ Some (defining by)
  pub same : n ≡ (defined_name by).name

later : (n : Name) (t : Top) (ts : List Top) → Defines n ts → Defines n (t ∷ ts)
later n t ts d = record { place = suc d.place; by = d.by; there = d.there; same = d.same }

first_or : (n : Name) (d : Definition) (ts : List Top) (b : Bool) → is_same_name n (defined_name d).name ≡ b → (b || list_any (is_same_name n) (names_defined ts)) ≡ true
    → (list_any (is_same_name n) (names_defined ts) ≡ true → Defines n ts) → Defines n (defining d ∷ ts)
first_or n d ts true e h rest = record { place = 0; by = d; there = refl; same = same_name n (defined_name d).name e }
first_or n d ts false e h rest = later n (defining d) ts (rest h)

find : (n : Name) (ts : List Top) → list_any (is_same_name n) (names_defined ts) ≡ true → Defines n ts
find n [] e = absurd (let x : ⊥ = cc in x)
find n (defining d ∷ ts) e = first_or n d ts (is_same_name n (defined_name d).name) refl e (λ h. find n ts h)
find n (broken s ∷ ts) e = later n (broken s) ts (find n ts e)
find n (expression d ∷ ts) e = later n (expression d) ts (find n ts e)

-- ---- forms and what they are kept as

pub record FormAt (defined : List Bound) (shared : Shared) (forms : List Form) (t : Top) (at : ℕ) : Type 0 where
  pub form : Form
  pub spans : List Span
  pub there : slice_get forms at ≡ Some form
  pub means : FormMeans defined shared form spans t

pub form_at : (defined : List Bound) (shared : Shared) (forms : List Form) (spans : List (List Span)) (ts : List Top) (at : ℕ) (t : Top)
    → FormsMean defined shared forms spans ts → slice_get ts at ≡ Some t → FormAt defined shared forms t at
form_at defined shared [] [] [] at t m e = absurd (let x : ⊥ = cc in x)
form_at defined shared [] [] (u ∷ ts) at t m e = absurd m
form_at defined shared [] (s ∷ spans) [] at t m e = absurd m
form_at defined shared [] (s ∷ spans) (u ∷ ts) at t m e = absurd m
form_at defined shared (f ∷ forms) [] [] at t m e = absurd m
form_at defined shared (f ∷ forms) [] (u ∷ ts) at t m e = absurd m
form_at defined shared (f ∷ forms) (s ∷ spans) [] at t m e = absurd m
form_at defined shared (f ∷ forms) (s ∷ spans) (u ∷ ts) zero t m e =
    record { form = f; spans = s; there = refl; means = subst (λ x. FormMeans defined shared f s x) (same_Some u t e) m.0 }
form_at defined shared (f ∷ forms) (s ∷ spans) (u ∷ ts) (suc at) t m e =
    let r = form_at defined shared forms spans ts at t m.1 e in
    record { form = r.form; spans = r.spans; there = r.there; means = r.means }

abbrev kind_for : Option Meaning → FormKind
kind_for (Some (a_global g false)) = kind.Define g
kind_for (Some (a_global g true)) = kind.Lset g
kind_for (Some (an_op o)) = kind.Operation o
kind_for _ = kind.Plain

is_for : (k : FormKind) (d : Definition) (m : Option Meaning) → IsKind k d m → k ≡ kind_for m
is_for k (define b d) (Some (a_global g false)) is = is
is_for k (lset b d) (Some (a_global g true)) is = is
is_for k (operation_form b ps d) (Some (an_op o)) is = is
is_for k _ _ is = absurd is

not_plain : (k : FormKind) (d : Definition) (m : Option Meaning) → IsKind k d m → kind_for m ≡ kind.Plain → ⊥
not_plain k (define b d) (Some (a_global g false)) is e = cc
not_plain k (lset b d) (Some (a_global g true)) is e = cc
not_plain k (operation_form b ps d) (Some (an_op o)) is e = cc
not_plain k _ _ is e = is

-- ---- two forms of one kind

count_here : (p : Form → Bool) (x : Form) (xs : List Form) → p x ≡ true → count_by p (x ∷ xs) ≡ 1 + count_by p xs
count_here p x xs e = sum_by-cons (λ y. cond (p y) 1 0) x xs ∙ (rw e refl)

count_there : (p : Form → Bool) (x : Form) (xs : List Form) → count_by p xs ≤ count_by p (x ∷ xs)
count_there p x xs = let c : count_by p (x ∷ xs) ≡ cond (p x) 1 0 + count_by p xs = sum_by-cons (λ y. cond (p y) 1 0) x xs in omega (arith, c)

counts : (p : Form → Bool) (f : Form) (forms : List Form) → p f ≡ true → (j : ℕ) → slice_get forms j ≡ Some f → 1 ≤ count_by p forms
counts p f [] e j h = absurd (let x : ⊥ = cc in x)
counts p f (x ∷ forms) e zero h = let s : p x ≡ true = ap p (same_Some x f h) ∙ e in let c = count_here p x forms s in omega (arith, c)
counts p f (x ∷ forms) e (suc j) h = let r = counts p f forms e j h in let c = count_there p x forms in omega (arith, r, c)

counts_two : (p : Form → Bool) (f g : Form) (forms : List Form) → p f ≡ true → p g ≡ true → (i j : ℕ) → i < j → slice_get forms i ≡ Some f → slice_get forms j ≡ Some g
    → 2 ≤ count_by p forms
counts_two p f g [] e q i j less h k = absurd (let x : ⊥ = cc in x)
counts_two p f g (x ∷ forms) e q zero zero less h k = absurd (omega (arith, less))
counts_two p f g (x ∷ forms) e q zero (suc j) less h k =
    let s : p x ≡ true = ap p (same_Some x f h) ∙ e in
    let r = counts p g forms q j k in
    let c = count_here p x forms s in
    omega (arith, r, c)
counts_two p f g (x ∷ forms) e q (suc i) zero less h k = absurd (omega (arith, less))
counts_two p f g (x ∷ forms) e q (suc i) (suc j) less h k =
    let smaller : i < j = omega (arith, less) in
    let r = counts_two p f g forms e q i j smaller h k in
    let c = count_there p x forms in
    omega (arith, r, c)

some_within : {A : Type 0} (P : A → Type 0) (xs : List A) (i : ℕ) (o : Option A) → slice_get xs i ≡ o → IsSomeAnd o P → i < length xs
some_within P xs i None e h = absurd h
some_within P xs i (Some x) e h = slice_get_within xs i x e

-- what the form at a place defines
definition_at : (unit : UnitCore) (w : IsWhole unit) (i : ℕ) (f : Form) → slice_get unit.forms.items i ≡ Some f → IsDefinition unit.shared f.kind f.nodes.items f.root
definition_at unit w i f e =
    let at = All-get_or (λ form. IsDefinition unit.shared form.kind form.nodes.items form.root) unit.forms.items i f (slice_get_within unit.forms.items i f e) w.definitions.forms in
    subst (λ x. IsDefinition unit.shared x.kind x.nodes.items x.root) (get_or_from_slice_get unit.forms.items i f f e) at

two_globals : (unit : UnitCore) (w : IsWhole unit) (n : ℕ) (i j : ℕ) (f g : Form) → i < j → slice_get unit.forms.items i ≡ Some f → slice_get unit.forms.items j ≡ Some g
    → defines_global n f.kind ≡ true → defines_global n g.kind ≡ true → n < length unit.shared.globals.items → ⊥
two_globals unit w n i j f g less e h p q within =
    let once = w.definitions.globals_once n within in
    let two = counts_two (λ form. defines_global n form.kind) f g unit.forms.items p q i j less e h in
    omega (arith, once, two)

clash : (unit : UnitCore) (w : IsWhole unit) (m : Option Meaning) → (kind_for m ≡ kind.Plain → ⊥) → (i j : ℕ) (f g : Form) → i < j → slice_get unit.forms.items i ≡ Some f
    → slice_get unit.forms.items j ≡ Some g → f.kind ≡ kind_for m → g.kind ≡ kind_for m → ⊥
clash unit w (Some (a_global n false)) some i j f g less e h p q =
    let d = rw p at (definition_at unit w i f e) in
    let own : (n == n) ≡ true = (Decides-eqb n n).1 refl in
    two_globals unit w n i j f g less e h (rw p own) (rw q own) (some_within _ unit.shared.globals.items n _ refl d.1)
clash unit w (Some (a_global n true)) some i j f g less e h p q =
    let d = rw p at (definition_at unit w i f e) in
    let own : (n == n) ≡ true = (Decides-eqb n n).1 refl in
    two_globals unit w n i j f g less e h (rw p own) (rw q own) (some_within _ unit.shared.globals.items n _ refl d.1)
clash unit w (Some (an_op o)) some i j f g less e h p q =
    let d = rw p at (definition_at unit w i f e) in
    let own : (o == o) ≡ true = (Decides-eqb o o).1 refl in
    let once = w.definitions.ops_once o d.0 (some_within _ unit.shared.ops.items o _ refl d.1) in
    let two = counts_two (λ form. defines_op o form.kind) f g unit.forms.items (rw p own) (rw q own) i j less e h in
    omega (arith, once, two)
clash unit w _ some i j f g less e h p q = some refl

-- ---- a name that is defined before

twice_case : (unit : UnitCore) (w : IsWhole unit) (defined : List Bound) (spans : List (List Span)) (ts : List Top) (at : ℕ) (d : Definition) (b : Bool)
    → FormsMean defined unit.shared unit.forms.items spans ts → slice_get ts at ≡ Some (defining d)
    → list_any (is_same_name (defined_name d).name) (names_defined (take at ts)) ≡ b → b ≡ true → ⊥
twice_case unit w defined spans ts at d b m e found t =
    let before = find (defined_name d).name (take at ts) (found ∙ t) in
    let within = slice_get_within (take at ts) before.place (defining before.by) before.there in
    let size = length-take at ts in
    let less : before.place < at = omega (arith, within, size) in
    let there : slice_get ts before.place ≡ Some (defining before.by) =
    subst (λ l. slice_get l before.place ≡ Some (defining before.by)) (take-append-drop at ts) (keeps_append (take at ts) (drop at ts) before.place (defining before.by) before.there) in
    let first = form_at defined unit.shared unit.forms.items spans ts before.place (defining before.by) m there in
    let second = form_at defined unit.shared unit.forms.items spans ts at (defining d) m e in
    let same : meaning_of defined before.by ≡ meaning_of defined d = ap (λ n. defined_as defined n) (sym before.same) in
    clash unit w (meaning_of defined d) (not_plain second.form.kind d (meaning_of defined d) second.means.1.0) before.place at first.form second.form less first.there second.there
    (is_for first.form.kind before.by (meaning_of defined before.by) first.means.1.0 ∙ ap kind_for same) (is_for second.form.kind d (meaning_of defined d) second.means.1.0)

no_twice : (unit : UnitCore) (w : IsWhole unit) (defined : List Bound) (spans : List (List Span)) (ts : List Top) (at : ℕ) (d : Definition) (r : Refusal) (b : Bool)
    → FormsMean defined unit.shared unit.forms.items spans ts → slice_get ts at ≡ Some (defining d)
    → list_any (is_same_name (defined_name d).name) (names_defined (take at ts)) ≡ b → Contains (twice_defined (take at ts) (defined_name d)) r → ⊥
no_twice unit w defined spans ts at d r true m e found h = twice_case unit w defined spans ts at d true m e found refl
no_twice unit w defined spans ts at d r false m e found h = contains_none r (rw found at h)

-- ---- a core and a refusal

refused_top : (unit : UnitCore) (w : IsWhole unit) (defined : List Bound) (spans : List (List Span)) (ts : List Top) (at : ℕ) (t : Top) (r : Refusal)
    → FormsMean defined unit.shared unit.forms.items spans ts → slice_get ts at ≡ Some t → RefusedTop defined (take at ts) t r → ⊥
refused_top unit w defined spans ts at (defining d) r m e (inl h) =
    no_twice unit w defined spans ts at d r (list_any (is_same_name (defined_name d).name) (names_defined (take at ts))) m e refl h
refused_top unit w defined spans ts at (defining d) r m e (inr h) =
    let f = form_at defined unit.shared unit.forms.items spans ts at (defining d) m e in
    not_both_value unit.shared defined (record { nodes = f.form.nodes.items; spans = f.spans }) d f.form.root r f.means.1.1 h
refused_top unit w defined spans ts at (broken s) r m e h =
    let f = form_at defined unit.shared unit.forms.items spans ts at (broken s) m e in f.means.1
refused_top unit w defined spans ts at (expression d) r m e h =
    let f = form_at defined unit.shared unit.forms.items spans ts at (expression d) m e in
    not_both unit.shared (record { nodes = f.form.nodes.items; spans = f.spans }) [] (top_scope defined) d false f.form.root r f.means.1.1 h

pub never_both : (trees : List Tree) (unit : UnitCore) (spans : List (List Span)) (r : Refusal) → IsCoreOf trees unit spans
    → RefusedAmong (definitions_of (tops_of (map datum_of trees))) (tops_of (map datum_of trees)) r → ⊥
never_both trees unit spans r core x =
    refused_top unit core.whole (definitions_of (tops_of (map datum_of trees))) spans (tops_of (map datum_of trees)) x.at x.top r core.forms x.there x.stands
