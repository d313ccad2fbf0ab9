-- What definitions are made of, where the datum is of the text.
use Rattle.std.proofs.Common.{◌≡◌, inl, inr, ℕ, suc, ◌+◌, ◌<◌, ◌≤◌, Bool, true, false, is_none, List, [], ◌∷◌, length, map, Option, Some, None, slice_get, refl, sym, ap, subst, if◌then◌else◌, arith}
use Rattle.std.specs.List.{AllByRecursion}
use Rattle.std.specs.Option.{option_map, option_and_then}
use Rattle.std.proofs.lemmas.Option.{same_Some}
use Rattle.t_base.specs.declared.basics.Span.{Span}
use Rattle.t_reader.specs.Grammar.{fix, char, nil, truth, string, symbol}
use Rattle.t_objects.specs.declared.words.Word.{Word}
use Rattle.t_objects.specs.declared.words.Word.TheVariants as word
use Rattle.t_objects.specs.Words.{word_named}
use Rattle.t_forms.specs.Data.{given, variable, builtin, operation, listing, Datum, atom, cons, items_of, listed, written, Binder, binder, binder_of, all_of, binders_of}
use Rattle.t_rows.specs.Rows.{Definition, define, lset, operation_form, lambda_form, define_procedure, define_of, lset_of, default_of, define_operation_with, define_operation_of, definition_of_word}
use Rattle.expand_laws.proofs.Made.{IsRight}
use Rattle.expand_laws.proofs.OneTop.{IsNamed, IsFineDefault, IsFineDefinition}
use Rattle.expand_laws.proofs.Premises.{IsFormOf}
use Rattle.expand_laws.proofs.Sizes.{size}
use Rattle.expand_laws.proofs.Reached.{IsPure}
use Rattle.expand_laws.proofs.TopsMade.{default_size, value_size}

-- ---- options

pub mapped : {A B : Type 0} (f : A → B) (o : Option A) (y : B) → option_map f o ≡ Some y → (x : A) × (o ≡ Some x) × (f x ≡ y)
mapped f None y e = absurd (let z : ⊥ = cc in z)
mapped f (Some x) y e = (x, refl, same_Some (f x) y e)

pub followed : {A B : Type 0} (f : A → Option B) (o : Option A) (y : B) → option_and_then f o ≡ Some y → (x : A) × (o ≡ Some x) × (f x ≡ Some y)
followed f None y e = absurd (let z : ⊥ = cc in z)
followed f (Some x) y e = (x, refl, e)

pub none_some : {A : Type 0} (x : A) → None ≡ Some x → ⊥
none_some x e = cc

-- ---- lists

abbrev pub ArePure : List (List ℕ) → List Datum → Type 0
ArePure names ds = AllByRecursion (IsPure (IsRight names)) ds

abbrev pub items_size : List Datum → ℕ
items_size [] = 1
items_size (d ∷ ds) = 1 + size d + items_size ds

pub size_some : (d : Datum) → 1 ≤ size d
size_some (atom s a) = omega arith
size_some (cons s head tail) = omega arith

pub size_listed : (s : Span) (ds : List Datum) → size (listed s ds) ≡ items_size ds
size_listed s [] = refl
size_listed s (d ∷ ds) = ap (λ n. 1 + size d + n) (size_listed s ds)

pub pure_listed : (names : List (List ℕ)) (s : Span) (ds : List Datum) → ArePure names ds → IsPure (IsRight names) (listed s ds)
pure_listed names s [] p = tt
pure_listed names s (d ∷ ds) p = (p.0, pure_listed names s ds p.1)

abbrev pub HaveItems : List (List ℕ) → Datum → List Datum → Type 0
HaveItems names d ds = ArePure names ds × (items_size ds ≡ size d)

pub items_pure : (names : List (List ℕ)) (d : Datum) (ds : List Datum) → IsPure (IsRight names) d → items_of d ≡ Some ds → HaveItems names d ds
items_pure names (atom s (given nil)) ds p e = subst (HaveItems names (atom s (given nil))) (same_Some [] ds e) (tt, refl)
items_pure names (atom s (given (fix z))) ds p e = absurd (none_some ds e)
items_pure names (atom s (given (char c))) ds p e = absurd (none_some ds e)
items_pure names (atom s (given truth)) ds p e = absurd (none_some ds e)
items_pure names (atom s (given (string text))) ds p e = absurd (none_some ds e)
items_pure names (atom s (given (symbol text))) ds p e = absurd (none_some ds e)
items_pure names (atom s (variable v)) ds p e = absurd p
items_pure names (atom s (builtin v)) ds p e = absurd p
items_pure names (atom s (operation v)) ds p e = absurd p
items_pure names (atom s listing) ds p e = absurd p
items_pure names (cons s head tail) ds p e =
    let m = mapped (λ items. head ∷ items) (items_of tail) ds e in
    let r = items_pure names tail m.0 p.1 m.1 in
    subst (HaveItems names (cons s head tail)) m.2 ((p.0, r.0), ap (λ n. 1 + size head + n) r.1)

-- ---- names

named_if : (names : List (List ℕ)) (s : Span) (text : List ℕ) (b : Binder) (x : Bool) → is_none (word_named text) ≡ x → (k : ℕ) × (slice_get names k ≡ Some text)
    → option_map (binder s) (if x then Some (written text) else None) ≡ Some b → IsNamed names b.name
named_if names s text b true e at h = let n : binder s (written text) ≡ b = same_Some _ _ h in record { text = text; place = at.0; is = ap (λ (y : Binder). y.name) (sym n); at = at.1 }
named_if names s text b false e at h = absurd (none_some b h)

pub binder_named : (names : List (List ℕ)) (d : Datum) (b : Binder) → IsPure (IsRight names) d → binder_of d ≡ Some b → IsNamed names b.name
binder_named names (atom s (given (symbol text))) b p e =
    named_if names s text b (is_none (word_named text)) refl p e
binder_named names (atom s (given nil)) b p e = absurd (none_some b e)
binder_named names (atom s (given (fix z))) b p e = absurd (none_some b e)
binder_named names (atom s (given (char c))) b p e = absurd (none_some b e)
binder_named names (atom s (given truth)) b p e = absurd (none_some b e)
binder_named names (atom s (given (string text))) b p e = absurd (none_some b e)
binder_named names (atom s (variable v)) b p e = absurd p
binder_named names (atom s (builtin v)) b p e = absurd p
binder_named names (atom s (operation v)) b p e = absurd p
binder_named names (atom s listing) b p e = absurd p
binder_named names (cons s head tail) b p e = absurd (none_some b e)

first_binder : (x : Option Binder) (others : List (Option Binder)) (ps : List Binder) → all_of (x ∷ others) ≡ Some ps → 0 < length ps
first_binder None others ps e = absurd (none_some ps e)
first_binder (Some b) others ps e =
    let m = mapped (λ xs. b ∷ xs) (all_of others) ps e in
    let l : suc (length m.0) ≡ length ps = ap length m.2 in
    omega (arith, l)

-- ---- definitions

-- what the definition is made of is of the text, and no larger
abbrev pub IsFineWithin : List (List ℕ) → ℕ → Definition → Type 0
IsFineWithin names n d = IsFineDefinition names d × (value_size d ≤ n)

procedure_size : (s : Span) (params : List Datum) (bs : List Datum) → size (lambda_form s (listed s params) bs) ≡ 3 + items_size params + items_size bs
procedure_size s params bs = let a = size_listed s bs in let b = size_listed s params in omega (arith, a, b)

procedure_of : (names : List (List ℕ)) (s : Span) (params bs : List Datum) → ArePure names params → ArePure names bs → IsFormOf names (lambda_form s (listed s params) bs)
procedure_of names s params bs p q =
    inr (record { span = s; params = listed s params; body = bs; is = refl; params_pure = pure_listed names s params p; body_pure = q })

-- (define x e), (lset x e)
valued : (names : List (List ℕ)) (x e : Datum) (b : Binder) → IsPure (IsRight names) x → IsPure (IsRight names) e → binder_of x ≡ Some b → IsFineWithin names (items_size (x ∷ e ∷ [])) (define b e)
valued names x e b p q h = ((binder_named names x b p h, inl q), omega arith)

define_value : (names : List (List ℕ)) (x e : Datum) (d : Definition) → ArePure names (x ∷ e ∷ []) → option_map (λ g. define g e) (binder_of x) ≡ Some d
    → IsFineWithin names (items_size (x ∷ e ∷ [])) d
define_value names x e d p h =
    let m = mapped (λ g. define g e) (binder_of x) d h in
    subst (IsFineWithin names (items_size (x ∷ e ∷ []))) m.2 (valued names x e m.0 p.0 p.1.0 m.1)

define_made : (names : List (List ℕ)) (s : Span) (n : ℕ) (fs bs : List Datum) (d : Definition) → ArePure names fs → ArePure names bs → define_procedure s fs bs ≡ Some d
    → 1 + items_size fs + items_size bs ≤ n → IsFineWithin names n d
define_made names s n [] bs d p q h le = absurd (none_some d h)
define_made names s n (f ∷ xs) [] d p q h le = absurd (none_some d h)
define_made names s n (f ∷ xs) (b ∷ bs) d p q h le =
    let m = followed (λ ps. option_map (λ g. define g (lambda_form s (listed s xs) (b ∷ bs))) (binder_of f)) (binders_of xs) d h in
    let k = mapped (λ g. define g (lambda_form s (listed s xs) (b ∷ bs))) (binder_of f) d m.2 in
    let l = procedure_size s xs (b ∷ bs) in
    let f_some = size_some f in
    subst (IsFineWithin names n) k.2 ((binder_named names f k.0 p.0 k.1, procedure_of names s xs (b ∷ bs) p.1 q), omega (arith, l, le, f_some))

define_pair : (names : List (List ℕ)) (s t : Span) (head tail : Datum) (bs : List Datum) (d : Definition) → ArePure names (cons t head tail ∷ bs)
    → option_and_then (λ fs. define_procedure s fs bs) (items_of (cons t head tail)) ≡ Some d → IsFineWithin names (items_size (cons t head tail ∷ bs)) d
define_pair names s t head tail bs d p h =
    let m = followed (λ fs. define_procedure s fs bs) (items_of (cons t head tail)) d h in
    let i = items_pure names (cons t head tail) m.0 p.0 m.1 in
    let same = i.1 in
    define_made names s (items_size (cons t head tail ∷ bs)) m.0 bs d i.0 p.1 m.2 (omega (arith, same))

define_fine : (names : List (List ℕ)) (s : Span) (ds : List Datum) (d : Definition) → ArePure names ds → define_of s ds ≡ Some d → IsFineWithin names (items_size ds) d
define_fine names s [] d p h = absurd (none_some d h)
define_fine names s (cons t head tail ∷ bs) d p h = define_pair names s t head tail bs d p h
define_fine names s (atom t a ∷ []) d p h = absurd (none_some d h)
define_fine names s (atom t a ∷ e ∷ []) d p h = define_value names (atom t a) e d p h
define_fine names s (atom t a ∷ e ∷ f ∷ ds) d p h = absurd (none_some d h)

lset_value : (names : List (List ℕ)) (x e : Datum) (d : Definition) → ArePure names (x ∷ e ∷ []) → option_map (λ g. lset g e) (binder_of x) ≡ Some d
    → IsFineWithin names (items_size (x ∷ e ∷ [])) d
lset_value names x e d p h =
    let m = mapped (λ g. lset g e) (binder_of x) d h in
    let v = valued names x e m.0 p.0 p.1.0 m.1 in
    subst (IsFineWithin names (items_size (x ∷ e ∷ []))) m.2 ((v.0.0, v.0.1), v.1)

lset_fine : (names : List (List ℕ)) (ds : List Datum) (d : Definition) → ArePure names ds → lset_of ds ≡ Some d → IsFineWithin names (items_size ds) d
lset_fine names [] d p h = absurd (none_some d h)
lset_fine names (x ∷ []) d p h = absurd (none_some d h)
lset_fine names (x ∷ e ∷ []) d p h = lset_value names x e d p h
lset_fine names (x ∷ e ∷ f ∷ ds) d p h = absurd (none_some d h)

-- (define-operation (op self x ..) B ..)
default_fine : (names : List (List ℕ)) (s : Span) (me : Datum) (xs bs : List Datum) (ps : List Binder) → ArePure names (me ∷ xs) → ArePure names bs → binders_of (me ∷ xs) ≡ Some ps
    → IsFineDefault names ps (default_of s (me ∷ xs) bs) × (default_size (default_of s (me ∷ xs) bs) ≤ 3 + items_size (me ∷ xs) + items_size bs)
default_fine names s me xs [] ps p q e = (tt, omega arith)
default_fine names s me xs (b ∷ bs) ps p q e = (
  (
    procedure_of names s (me ∷ xs) (b ∷ bs) p q,
    record { span = s; params = me ∷ xs; first = b; others = bs; is = refl; binds = e; some = first_binder (binder_of me) (map binder_of xs) ps e },
  ),
  let l = procedure_size s (me ∷ xs) (b ∷ bs) in omega (arith, l),
)

operation_made : (names : List (List ℕ)) (s : Span) (n : ℕ) (ds bs : List Datum) (d : Definition) → ArePure names ds → ArePure names bs → define_operation_with s ds bs ≡ Some d
    → 1 + items_size ds + items_size bs ≤ n → IsFineWithin names n d
operation_made names s n [] bs d p q h le = absurd (none_some d h)
operation_made names s n (op ∷ []) bs d p q h le = absurd (none_some d h)
operation_made names s n (op ∷ me ∷ xs) bs d p q h le =
    let m = followed (λ ps. option_map (λ o. operation_form o ps (default_of s (me ∷ xs) bs)) (binder_of op)) (binders_of (me ∷ xs)) d h in
    let k = mapped (λ o. operation_form o m.0 (default_of s (me ∷ xs) bs)) (binder_of op) d m.2 in
    let f = default_fine names s me xs bs m.0 p.1 q m.1 in
    let few = f.1 in
    let op_some = size_some op in
    subst (IsFineWithin names n) k.2 ((binder_named names op k.0 p.0 k.1, f.0), omega (arith, few, le, op_some))

operation_fine : (names : List (List ℕ)) (s : Span) (ds : List Datum) (d : Definition) → ArePure names ds → define_operation_of s ds ≡ Some d → IsFineWithin names (items_size ds) d
operation_fine names s [] d p h = absurd (none_some d h)
operation_fine names s (cons t head tail ∷ bs) d p h =
    let m = followed (λ os. define_operation_with s os bs) (items_of (cons t head tail)) d h in
    let i = items_pure names (cons t head tail) m.0 p.0 m.1 in
    let same = i.1 in
    operation_made names s (items_size (cons t head tail ∷ bs)) m.0 bs d i.0 p.1 m.2 (omega (arith, same))
operation_fine names s (atom t a ∷ []) d p h =
    let m = mapped (λ o. operation_form o [] None) (binder_of (atom t a)) d h in
    subst (IsFineWithin names (items_size (atom t a ∷ []))) m.2 ((binder_named names (atom t a) m.0 p.0 m.1, tt), omega arith)
operation_fine names s (atom t a ∷ e ∷ ds) d p h = absurd (none_some d h)

pub definition_fine : (names : List (List ℕ)) (s : Span) (ds : List Datum) (w : Option Word) (d : Definition) → ArePure names ds → definition_of_word s ds w ≡ Some d
    → IsFineWithin names (items_size ds) d
definition_fine names s ds (Some word.Define) d p h = define_fine names s ds d p h
definition_fine names s ds (Some word.Lset) d p h = lset_fine names ds d p h
definition_fine names s ds (Some word.DefineOperation) d p h = operation_fine names s ds d p h
definition_fine names s ds _ d p h = absurd (none_some d h)
