-- What the names that forms define mean, where no name is defined twice: globals and operations are numbered in the order of the forms.
use Rattle.std.proofs.Common.{◌≡◌, inl, ℕ, ◌+◌, ◌==◌, ◌++◌, ◌||◌, Bool, true, false, List, [], ◌∷◌, length, map, fold, take, Contains, Some, None, slice_get, refl, sym, ap, subst, ◌∙◌, append_assoc, if◌then◌else◌, arith}
use Rattle.std.specs.List.{list_any}
use Rattle.std.specs.Str.{bytes_eq}
use Rattle.std.proofs.lemmas.Bool.Decides.{Decides-eqb}
use Rattle.std.proofs.lemmas.List.{append-nil}
use Rattle.std.proofs.lemmas.List.Elements.{Contains-push}
use Rattle.std.proofs.lemmas.List.Folds.{list_any-append}
use Rattle.std.proofs.lemmas.Slice.Eq.{bytes_eq-Decides}
use Rattle.std.proofs.Math.Seq.{take-append_seam}
use Rattle.t_forms.specs.declared.arena.New.{New}
use Rattle.t_forms.specs.declared.arena.New.TheVariants as new
use Rattle.t_forms.specs.Data.{Name, written, made, is_same_new, is_same_name, Binder}
use Rattle.t_forms.specs.Names.{Meaning, Bound, bound, a_global, an_op, defined_as}
use Rattle.t_rows.specs.declared.refusal.Refusal.{Refusal}
use Rattle.t_rows.specs.declared.refusal.SyntaxKind.TheVariants.{Twice}
use Rattle.t_rows.specs.Rows.{Definition, define, lset, operation_form, refusal}
use Rattle.expansion.specs.Meaning.{IsKind}
use Rattle.expansion.specs.Refusals.{RefusedTop, RefusedAmong, twice_defined}
use Rattle.expansion.specs.Units.{Top, defining, broken, expression, Entry, entry, defined_name, names_of, names_defined, has_entry, with_top, with_definition, entries_of, meanings_from, definitions_of, meaning_of}
use Rattle.expansion.proofs.Places.{names_last}
use Rattle.expand_laws.proofs.TopsMade.{HasKinds, kind_meant}

-- ---- nothing is refused

-- nothing is refused at or in these forms, behind those before them
abbrev pub AreClean : List Bound → List Top → List Top → Type 0
AreClean defined before [] = Unit {0}
AreClean defined before (t ∷ ts) = ((r : Refusal) → RefusedTop defined before t r → ⊥) × AreClean defined (before ++ t ∷ []) ts

pub at_seam : {A : Type 0} (xs ys : List A) (x : A) → slice_get (xs ++ x ∷ ys) (length xs) ≡ Some x
at_seam [] ys x = refl
at_seam (z ∷ xs) ys x = at_seam xs ys x

clean_behind : (defined : List Bound) (before ts all : List Top) → all ≡ before ++ ts → ((r : Refusal) → RefusedAmong defined all r → ⊥) → AreClean defined before ts
clean_behind defined before [] all e none = tt
clean_behind defined before (t ∷ ts) all e none = (
  λ r h. none r (record {
    at = length before;
    top = t;
    there = ap (λ l. slice_get l (length before)) e ∙ at_seam before ts t;
    stands = subst (λ l. RefusedTop defined l t r) (sym (ap (take (length before)) e ∙ take-append_seam before (t ∷ ts))) h;
  }),
  clean_behind defined (before ++ t ∷ []) ts all (e ∙ sym (append_assoc before (t ∷ []) ts)) none,
)

pub all_clean : (defined : List Bound) (ts : List Top) → ((r : Refusal) → RefusedAmong defined ts r → ⊥) → AreClean defined [] ts
all_clean defined ts none = clean_behind defined [] ts ts refl none

-- ---- names

same_new_back : (a b : New) → is_same_new a b ≡ is_same_new b a
same_new_back (new.Part i) (new.Part j) = let e : (i == j) ≡ (j == i) = grind arith in e
same_new_back new.Answer new.Answer = refl
same_new_back new.Chosen new.Chosen = refl
same_new_back new.Turn new.Turn = refl
same_new_back new.Start new.Start = refl
same_new_back new.Own new.Own = refl
same_new_back new.Content new.Content = refl
same_new_back _ _ = refl

both_ways : (a b : Bool) → (a ≡ true → b ≡ true) → (b ≡ true → a ≡ true) → a ≡ b
both_ways true true f g = refl
both_ways true false f g = sym (f refl)
both_ways false true f g = g refl
both_ways false false f g = refl

same_text_back : (a b : List ℕ) → bytes_eq a b ≡ bytes_eq b a
same_text_back a b =
    both_ways (bytes_eq a b) (bytes_eq b a) (λ e. (bytes_eq-Decides b a).1 (sym ((bytes_eq-Decides a b).0 e))) (λ e. (bytes_eq-Decides a b).1 (sym ((bytes_eq-Decides b a).0 e)))

same_name_back : (a b : Name) → is_same_name a b ≡ is_same_name b a
same_name_back (written a) (written b) = same_text_back a b
same_name_back (made a) (made b) = same_new_back a b
same_name_back (written a) (made b) = refl
same_name_back (made a) (written b) = refl

same_new_self : (a : New) → is_same_new a a ≡ true
same_new_self (new.Part i) = (Decides-eqb i i).1 refl
same_new_self new.Answer = refl
same_new_self new.Chosen = refl
same_new_self new.Turn = refl
same_new_self new.Start = refl
same_new_self new.Own = refl
same_new_self new.Content = refl

same_name_self : (n : Name) → is_same_name n n ≡ true
same_name_self (written text) = (bytes_eq-Decides text text).1 refl
same_name_self (made v) = same_new_self v

-- ---- no name is defined twice

abbrev pub definitions : List Top → List Definition
definitions [] = []
definitions (defining d ∷ ts) = d ∷ definitions ts
definitions (broken s ∷ ts) = definitions ts
definitions (expression d ∷ ts) = definitions ts

-- no definition has the name of an entry or of a definition before it
abbrev pub AreNew : List Entry → List Definition → Type 0
AreNew es [] = Unit {0}
AreNew es (d ∷ ds) = (has_entry (defined_name d).name es ≡ false) × AreNew (es ++ entry d ∷ []) ds

abbrev SameNames : List Entry → List Top → Type 0
SameNames es before = (n : Name) → has_entry n es ≡ list_any (is_same_name n) (names_defined before)

more_names : (es : List Entry) (before : List Top) (d : Definition) → SameNames es before → SameNames (es ++ entry d ∷ []) (before ++ defining d ∷ [])
more_names es before d same n =
    list_any-append (λ e. is_same_name e.name n) es (entry d ∷ [])
    ∙ ap (λ b. b || (is_same_name (defined_name d).name n || false)) (same n)
    ∙ ap (λ b. list_any (is_same_name n) (names_defined before) || (b || false)) (same_name_back (defined_name d).name n)
    ∙ sym (list_any-append (is_same_name n) (names_defined before) ((defined_name d).name ∷ []))
    ∙ ap (list_any (is_same_name n)) (sym (names_last before (defining d) ((defined_name d).name ∷ []) refl))

same_list : (l : List Name) → l ++ [] ≡ l
same_list l = append-nil l

plain_names : (es : List Entry) (before : List Top) (t : Top) → names_of t ≡ [] → SameNames es before → SameNames es (before ++ t ∷ [])
plain_names es before t e same n = same n ∙ ap (list_any (is_same_name n)) (sym (names_last before t [] e ∙ same_list (names_defined before)))

not_before : (before : List Top) (b : Binder) (x : Bool) → list_any (is_same_name b.name) (names_defined before) ≡ x → ((r : Refusal) → Contains (twice_defined before b) r → ⊥) → x ≡ false
not_before before b false e none = refl
not_before before b true e none =
    absurd (none (refusal Twice b.at) (subst (λ (x : Bool). Contains (if x then refusal Twice b.at ∷ [] else []) (refusal Twice b.at)) (sym e) (Contains-push [] (refusal Twice b.at))))

pub all_new : (defined : List Bound) (es : List Entry) (before ts : List Top) → SameNames es before → AreClean defined before ts → AreNew es (definitions ts)
all_new defined es before [] same clean = tt
all_new defined es before (defining d ∷ ts) same clean = (
  same (defined_name d).name ∙ not_before before (defined_name d) (list_any (is_same_name (defined_name d).name) (names_defined before)) refl (λ r h. clean.0 r (inl h)),
  all_new defined (es ++ entry d ∷ []) (before ++ defining d ∷ []) ts (more_names es before d same) clean.1,
)
all_new defined es before (broken s ∷ ts) same clean = all_new defined es (before ++ broken s ∷ []) ts (plain_names es before (broken s) refl same) clean.1
all_new defined es before (expression d ∷ ts) same clean = all_new defined es (before ++ expression d ∷ []) ts (plain_names es before (expression d) refl same) clean.1

-- so each definition is an entry
put_new : (es : List Entry) (d : Definition) (b : Bool) → has_entry (defined_name d).name es ≡ b → b ≡ false → with_definition es d ≡ es ++ entry d ∷ []
put_new es d true e f = absurd (let x : ⊥ = cc in x)
put_new es d false e f = rw e refl

entries_behind : (es : List Entry) (ts : List Top) → AreNew es (definitions ts) → fold with_top es ts ≡ es ++ map entry (definitions ts)
entries_behind es [] are = sym (append-nil es)
entries_behind es (defining d ∷ ts) are =
    ap (λ l. fold with_top l ts) (put_new es d (has_entry (defined_name d).name es) refl are.0)
    ∙ entries_behind (es ++ entry d ∷ []) ts are.1
    ∙ append_assoc es (entry d ∷ []) (map entry (definitions ts))
entries_behind es (broken s ∷ ts) are = entries_behind es ts are
entries_behind es (expression d ∷ ts) are = entries_behind es ts are

pub entries_are : (ts : List Top) → AreNew [] (definitions ts) → entries_of ts ≡ map entry (definitions ts)
entries_are ts are = entries_behind [] ts are

-- ---- what each name means

abbrev pub own : ℕ → ℕ → Definition → Meaning
own g o (define b d) = a_global g false
own g o (lset b d) = a_global g true
own g o (operation_form b ps d) = an_op o

abbrev pub next_global : ℕ → Definition → ℕ
next_global g (define b d) = g + 1
next_global g (lset b d) = g + 1
next_global g (operation_form b ps d) = g

abbrev pub next_op : ℕ → Definition → ℕ
next_op o (define b d) = o
next_op o (lset b d) = o
next_op o (operation_form b ps d) = o + 1

abbrev pub AreNumbered : List Bound → ℕ → ℕ → List Top → Type 0
AreNumbered defined g o [] = Unit {0}
AreNumbered defined g o (defining d ∷ ts) = (meaning_of defined d ≡ Some (own g o d)) × AreNumbered defined (next_global g d) (next_op o d) ts
AreNumbered defined g o (broken s ∷ ts) = AreNumbered defined g o ts
AreNumbered defined g o (expression d ∷ ts) = AreNumbered defined g o ts

pub meanings_more : (g o : ℕ) (d : Definition) (es : List Entry) → meanings_from g o (entry d ∷ es) ≡ bound (defined_name d).name (own g o d) ∷ meanings_from (next_global g d) (next_op o d) es
meanings_more g o (define b d) es = refl
meanings_more g o (lset b d) es = refl
meanings_more g o (operation_form b ps d) es = refl

first_bound : (pre rest : List Bound) (b : Bound) (n : Name) → defined_as pre n ≡ None → is_same_name b.name n ≡ true → defined_as (pre ++ b ∷ rest) n ≡ Some b.means
first_bound [] rest b n none same = rw same refl
first_bound (c ∷ pre) rest b n none same = by (is_same_name c.name n) refl (λ h. first_bound pre rest b n h same)
  where
    by : (x : Bool) → is_same_name c.name n ≡ x → (defined_as pre n ≡ None → defined_as (pre ++ b ∷ rest) n ≡ Some b.means) → defined_as (c ∷ (pre ++ b ∷ rest)) n ≡ Some b.means
    by true e more = absurd (let u = rw e at none in let y : ⊥ = cc in y)
    by false e more = let u = rw e at none in rw e (more u)

not_bound : (pre : List Bound) (b : Bound) (n : Name) → defined_as pre n ≡ None → is_same_name b.name n ≡ false → defined_as (pre ++ b ∷ []) n ≡ None
not_bound [] b n none other = rw other refl
not_bound (c ∷ pre) b n none other = by (is_same_name c.name n) refl (λ h. not_bound pre b n h other)
  where
    by : (x : Bool) → is_same_name c.name n ≡ x → (defined_as pre n ≡ None → defined_as (pre ++ b ∷ []) n ≡ None) → defined_as (c ∷ (pre ++ b ∷ [])) n ≡ None
    by true e more = absurd (let u = rw e at none in let y : ⊥ = cc in y)
    by false e more = let u = rw e at none in rw e (more u)

abbrev Unbound : List Entry → List Bound → Type 0
Unbound es pre = (n : Name) → has_entry n es ≡ false → defined_as pre n ≡ None

neither : (a b : Bool) → (a || (b || false)) ≡ false → (a ≡ false) × (b ≡ false)
neither true b e = absurd (let x : ⊥ = cc in x)
neither false true e = absurd (let x : ⊥ = cc in x)
neither false false e = (refl, refl)

more_unbound : (es : List Entry) (pre : List Bound) (d : Definition) (m : Meaning) → Unbound es pre → Unbound (es ++ entry d ∷ []) (pre ++ bound (defined_name d).name m ∷ [])
more_unbound es pre d m un n e =
    let p = neither (has_entry n es) (is_same_name (defined_name d).name n) (sym (list_any-append (λ x. is_same_name x.name n) es (entry d ∷ [])) ∙ e) in
    not_bound pre (bound (defined_name d).name m) n (un n p.0) p.1

numbered_behind : (defined pre : List Bound) (es : List Entry) (g o : ℕ) (ts : List Top) → Unbound es pre → AreNew es (definitions ts)
    → defined ≡ pre ++ meanings_from g o (map entry (definitions ts)) → AreNumbered defined g o ts
numbered_behind defined pre es g o [] un are e = tt
numbered_behind defined pre es g o (defining d ∷ ts) un are e =
    let whole : defined ≡ pre ++ bound (defined_name d).name (own g o d) ∷ meanings_from (next_global g d) (next_op o d) (map entry (definitions ts)) =
    e ∙ ap (λ l. pre ++ l) (meanings_more g o d (map entry (definitions ts))) in (
      ap (λ l. defined_as l (defined_name d).name) whole
          ∙ first_bound pre (meanings_from (next_global g d) (next_op o d) (map entry (definitions ts))) (bound (defined_name d).name (own g o d)) (defined_name d).name (un (defined_name d).name are.0)
          (same_name_self (defined_name d).name),
      numbered_behind defined (pre ++ bound (defined_name d).name (own g o d) ∷ []) (es ++ entry d ∷ []) (next_global g d) (next_op o d) ts (more_unbound es pre d (own g o d) un) are.1
          (whole ∙ sym (append_assoc pre (bound (defined_name d).name (own g o d) ∷ []) (meanings_from (next_global g d) (next_op o d) (map entry (definitions ts))))),
    )
numbered_behind defined pre es g o (broken s ∷ ts) un are e = numbered_behind defined pre es g o ts un are e
numbered_behind defined pre es g o (expression d ∷ ts) un are e = numbered_behind defined pre es g o ts un are e

pub all_numbered : (ts : List Top) → AreNew [] (definitions ts) → AreNumbered (definitions_of ts) 0 3 ts
all_numbered ts are = numbered_behind (definitions_of ts) [] [] 0 3 ts (λ n e. refl) are (ap (meanings_from 0 3) (entries_are ts are))

-- ---- what each is kept as

kind_is : (d : Definition) (g o : ℕ) → IsKind (kind_meant (Some (own g o d))) d (Some (own g o d))
kind_is (define b d) g o = refl
kind_is (lset b d) g o = refl
kind_is (operation_form b ps d) g o = refl

pub all_kinds : (defined : List Bound) (g o : ℕ) (ts : List Top) → AreNumbered defined g o ts → HasKinds defined ts
all_kinds defined g o [] are = tt
all_kinds defined g o (defining d ∷ ts) are =
    (subst (λ m. IsKind (kind_meant m) d m) (sym are.0) (kind_is d g o), all_kinds defined (next_global g d) (next_op o d) ts are.1)
all_kinds defined g o (broken s ∷ ts) are = (tt, all_kinds defined g o ts are)
all_kinds defined g o (expression d ∷ ts) are = (tt, all_kinds defined g o ts are)
