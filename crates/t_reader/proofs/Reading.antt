-- A text that is read up to a place, and its unit.
use Rattle.std.proofs.Common.{◌≡◌, ℕ, ◌+◌, ◌-◌, ◌^◌, ◌<◌, ◌≤◌, Bool, true, false, cond, List, [], ◌∷◌, ◌++◌, length, Option, Some, None, Result, Ok, Err, refl, sym, ap, subst, ◌∙◌, arith, append_assoc, fold, inl, inr}
use Rattle.std.specs.Prelude.{nat_le, slice_range, ◌⊎◌, IfOk, IfErr}
use Rattle.std.specs.List.{flat_map, list_all, list_any}
use Rattle.std.specs.Str.{bytes_eq}
use Rattle.std.proofs.lemmas.Bool.Decides.{nat_tests}
use Rattle.std.proofs.lemmas.List.{append-nil}
use Rattle.std.proofs.lemmas.List.Folds.{list_all-append}
use Rattle.std.proofs.lemmas.List.Sums.{fold-append}
use Rattle.std.proofs.lemmas.Grind.{flat_map-append}
use Rattle.t_base.specs.Texts.{with_text}
use Rattle.t_base.specs.declared.basics.Span.{Span}
use Rattle.t_reader.specs.declared.fault.ReadKind.{ReadKind}
use Rattle.t_reader.specs.declared.fault.ReadFault.{ReadFault}
use Rattle.t_reader.specs.declared.fault.ReadFault.TheVariants.{Fault}
use Rattle.t_reader.specs.declared.fault.ReadFault.TheVariants as faults
use Rattle.t_reader.specs.declared.token.Word.{Word}
use Rattle.t_reader.specs.declared.token.Word.TheVariants as word
use Rattle.t_reader.specs.declared.token.Token.{Token}
use Rattle.t_reader.specs.declared.unit.Node.{Node}
use Rattle.t_reader.specs.declared.unit.Unit.{Unit as TextUnit}
use Rattle.t_reader.specs.declared.build.Build.{Build}
use Rattle.t_reader.specs.Tokens.{token_at, MovesBy, WordFits}
use Rattle.t_reader.specs.Grammar.{Tree, leaf, pair, nil, to, Form, Forms, single, listed, dotted, quoted, none, more, tree, chain, trees, IsWithin, AllWithin, Before, outside, in_list, after_dot, after_tail, after_mark, tokens_of, IsSound, end_fault, fault_of, AreForms, Reads, FirstFault}
use Rattle.t_reader.specs.Steps.{step}
use Rattle.t_reader.specs.Unit.{Holds, HoldTrees, nest, fixed_names, symbols_of, IsUnitOf, IsWhole, count_of}
use Rattle.t_reader.specs.Build.{HoldAll, Reached, IsWell, bulk, Answers, present, word_of}
use Rattle.t_reader.proofs.Steps.{tokens_of-step, IsSound-step}
use Rattle.t_reader.proofs.GrammarLaws.{Leads, leads_on, not_both, one_fault}

-- what is built stands for what stands before the place
pub record IsAt (text : List ℕ) (from : ℕ) (build : Build) : Type 0 where
  pub before : Before
  pub reached : Reached text before build
  pub sound : IsSound before
  pub leads : Leads text before from
  pub well : IsWell [] build
  pub names_are : build.names ≡ fold with_text fixed_names (flat_map (symbols_of text) (tokens_of before))
  pub small : bulk build ≤ from + 31

-- ---- token after token

-- a token that isn't the last lies behind the place
pub moved : (w : Word) (low high start end : ℕ) → MovesBy w low high start end → (w ≡ word.End → ⊥) → ((k : ReadKind) → w ≡ word.Bad k → ⊥) → (low ≤ start) × (start < end) × (end ≤ high)
moved word.Open low high start end m e b = m
moved word.Close low high start end m e b = m
moved word.Quote low high start end m e b = m
moved word.Dot low high start end m e b = m
moved (word.Atom a) low high start end m e b = m
moved (word.Bad k) low high start end m e b = absurd (b k refl)
moved word.End low high start end m e b = absurd (e refl)

names_on : (text : List ℕ) (b c : Before) (t : Token) (old new : List (List ℕ)) → tokens_of c ≡ tokens_of b ++ t ∷ [] → old ≡ fold with_text fixed_names (flat_map (symbols_of text) (tokens_of b)) → new ≡ fold with_text old (symbols_of text t)
    → new ≡ fold with_text fixed_names (flat_map (symbols_of text) (tokens_of c))
names_on text b c t old new step_is was is =
    is ∙ ap (λ ns. fold with_text ns (symbols_of text t)) was
    ∙ sym (fold-append with_text fixed_names (flat_map (symbols_of text) (tokens_of b)) (symbols_of text t))
    ∙ ap (λ l. fold with_text fixed_names (flat_map (symbols_of text) (tokens_of b) ++ l)) (sym (append-nil (symbols_of text t)))
    ∙ ap (fold with_text fixed_names) (sym (flat_map-append (symbols_of text) (tokens_of b) (t ∷ [])))
    ∙ ap (λ ts. fold with_text fixed_names (flat_map (symbols_of text) ts)) (sym step_is)

pub goes_on : (text : List ℕ) (from : ℕ) (old new : Build) (t : Token) → IsAt text from old → t ≡ token_at text from
    → ((b : Before) → Reached text b old → IsSound b → (fault_of b t.word t.span ≡ None) × Reached text (step b t.word t.span) new)
    → (IsWell [] old → WordFits t.word (slice_range text t.span.start t.span.end) → IsWell [] new) → WordFits t.word (slice_range text t.span.start t.span.end)
    → new.names ≡ fold with_text old.names (symbols_of text t) → bulk new ≤ bulk old + (t.span.end - t.span.start)
    → (t.word ≡ word.End → ⊥) → from ≤ t.span.start → t.span.start < t.span.end
    → IsAt text t.span.end new
goes_on text from old new t a same gives well fits names bulk_ last p q =
    let g = gives a.before a.reached a.sound in
    record {
      before = step a.before t.word t.span;
      reached = g.1;
      sound = IsSound-step a.before t.word t.span a.sound g.0;
      leads = leads_on text from a.before a.sound a.leads t same g.0 last;
      well = well a.well fits;
      names_are = names_on text a.before (step a.before t.word t.span) t old.names new.names (tokens_of-step a.before t.word t.span a.sound g.0 last) a.names_are names;
      small = omega (arith, a.small, bulk_);
    }

-- ---- a fault

answered : (A : Type 0) (f : Option ReadFault) (P : Type 0) (e : ReadFault) (k : ReadKind) (s : Span) → Answers {A = A} f P (Err e) → e ≡ Fault k s → f ≡ Some (Fault k s)
answered A f P e k s h same = let Q : ReadFault → Type 0 = λ v. Answers {A = A} f P (Err v) in subst Q same h

pub is_fault : (A : Type 0) (text : List ℕ) (from : ℕ) (old : Build) (t : Token) (e : ReadFault) (P : Before → Type 0) (k : ReadKind) (s : Span) → IsAt text from old → t ≡ token_at text from
    → ((b : Before) → Reached text b old → IsSound b → Answers {A = A} (fault_of b t.word t.span) (P b) (Err e)) → e ≡ Fault k s → FirstFault text (Fault k s)
is_fault A text from old t e P k s a same gives is =
    record {
      before = a.before;
      sound = a.sound;
      bad_token = t;
      tokens = a.leads (t ∷ []) (same, tt);
      fault = answered A (fault_of a.before t.word t.span) (P a.before) e k s (gives a.before a.reached a.sound) is;
    }

-- ---- the end of the text

hold-snoc : (names : List (List ℕ)) (nodes : List Node) (keys : List ℕ) (key : ℕ) (ts : List Tree) (t : Tree) → HoldTrees names nodes keys ts → Holds names nodes key t → HoldTrees names nodes (keys ++ key ∷ []) (ts ++ t ∷ [])
hold-snoc names nodes keys key [] t h k = (key, [], ap (λ l. l ++ key ∷ []) h, k, refl)
hold-snoc names nodes keys key (u ∷ ts) t h k = (h.0, h.1 ++ key ∷ [], ap (λ l. l ++ key ∷ []) h.2, h.3, hold-snoc names nodes h.1 key ts t h.4 k)

-- what holds form by form holds datum by datum
hold_trees : (text : List ℕ) (names : List (List ℕ)) (nodes : List Node) (keys : List ℕ) (fs : Forms) → HoldAll text names nodes keys fs → HoldTrees names nodes keys (trees text fs)
hold_trees text names nodes keys none h = h
hold_trees text names nodes keys (more fs f) h =
    let P : List ℕ → Type 0 = λ l. HoldTrees names nodes l (trees text fs ++ tree text f ∷ []) in
    subst P (sym h.2) (hold-snoc names nodes h.0 h.1 (trees text fs) (tree text f) (hold_trees text names nodes h.0 fs h.3) h.4)

-- data nest no deeper than they are written
mutual
  nest-tree : (text : List ℕ) (n : ℕ) (f : Form) → IsWithin n f → nest (tree text f) ≤ n
  nest-tree text n (single a s) h = omega arith
  nest-tree text n (listed o fs c) h = nest-chain text n (to o c) fs (leaf (to o c) nil) h.0 h.1 (omega arith)
  nest-tree text n (dotted o fs g d t c) h =
      let head : nest (tree text g) ≤ n - 1 = nest-tree text (n - 1) g h.2 in
      let tail : nest (tree text t) ≤ n - 1 = nest-tree text (n - 1) t h.3 in
      nest-chain text n (to o c) fs (pair (to o c) (tree text g) (tree text t)) h.0 h.1 (omega (arith, h.0))
  nest-tree text n (quoted m f) h = let inside : nest (tree text f) ≤ n - 1 = nest-tree text (n - 1) f h.1 in omega (arith, h.0)

  nest-chain : (text : List ℕ) (n : ℕ) (s : Span) (fs : Forms) (last : Tree) → 0 < n → AllWithin (n - 1) fs → nest last ≤ n → nest (chain text s fs last) ≤ n
  nest-chain text n s none last p h l = l
  nest-chain text n s (more fs f) last p h l =
      let head : nest (tree text f) ≤ n - 1 = nest-tree text (n - 1) f h.1 in
      nest-chain text n s fs (pair s (tree text f) last) p h.0 (omega arith)

shallow : (text : List ℕ) (fs : Forms) → AllWithin 400 fs → list_all (λ t. nat_le (nest t) 400) (trees text fs) ≡ true
shallow text none h = refl
shallow text (more fs f) h =
    let here : nest (tree text f) ≤ 400 = nest-tree text 400 f h.1 in
    let test : nat_le (nest (tree text f)) 400 ≡ true = le_test (nest (tree text f)) here in
    list_all-append (λ t. nat_le (nest t) 400) (trees text fs) (tree text f ∷ []) ∙ rw (shallow text fs h.0, test) refl
  where
    le_test : (n : ℕ) → n ≤ 400 → nat_le n 400 ≡ true
    le_test n l = grind (arith, nat_tests)

-- names that are put come behind those that were there
names_after : (names : List (List ℕ)) (ts : List (List ℕ)) → (others : List (List ℕ)) × (fold with_text names ts ≡ names ++ others)
names_after names [] = ([], sym (append-nil names))
names_after names (t ∷ ts) =
    let rest_ = names_after (with_text names t) ts in
    let here = one names t in
    (here.0 ++ rest_.0, rest_.1 ∙ ap (λ ns. ns ++ rest_.0) here.1 ∙ append_assoc names here.0 rest_.0)
  where
    one : (ns : List (List ℕ)) (x : List ℕ) → (others : List (List ℕ)) × (with_text ns x ≡ ns ++ others)
    one ns x =
        let P : Bool → Type 0 = λ b. (others : List (List ℕ)) × (cond b ns (ns ++ x ∷ []) ≡ ns ++ others) in
        elim (list_any (bytes_eq x) ns) as P [ true ↦ ([], sym (append-nil ns)) | false ↦ (x ∷ [], refl) ]

once_present : (k n : ℕ) → k < n → present k n ≡ 1
once_present k n h = grind (arith, nat_tests)

forms_only : (text : List ℕ) (build : Build) (b : Before) → end_fault b ≡ None → Reached text b build → IsSound b → (fs : Forms) × ((b ≡ outside fs) × (build.frames.items ≡ []) × HoldAll text build.names build.nodes.items build.items.items fs × AllWithin 400 fs)
forms_only text build (outside fs) e r s = (fs, (refl, r.0, r.1, s))
forms_only text build (in_list b o fs) e r s = cc
forms_only text build (after_dot b o fs g d) e r s = cc
forms_only text build (after_tail b o fs g d t) e r s = cc
forms_only text build (after_mark b m) e r s = cc

-- the tokens of the text are those of the forms and the last one
end_of : (text : List ℕ) (from : ℕ) (b : Before) (fs : Forms) (t : Token) → Leads text b from → b ≡ outside fs → t ≡ token_at text from → t.word ≡ word.End → AllWithin 400 fs → AreForms text fs
end_of text from b fs t leads is same last depth =
    let L : Before → Type 0 = λ c. Leads text c from in
    let l : Leads text (outside fs) from = subst L is leads in
    record { end_token = t; at_end = last; tokens = l (t ∷ []) (same, tt); depth = depth }

abbrev pub unit_of : Build → TextUnit
unit_of b = record { names = b.names; nodes = b.nodes; forms = b.items }

pub is_unit : (text : List ℕ) (from : ℕ) (build : Build) (t : Token) (a : IsAt text from build) → from ≤ length text → t ≡ token_at text from → t.word ≡ word.End → end_fault a.before ≡ None → IsUnitOf text (unit_of build)
is_unit text from build t a p same last e =
    let f = forms_only text build a.before e a.reached a.sound in
    record {
      forms = f.0;
      written = end_of text from a.before f.0 t a.leads f.1.0 same last f.1.3;
      held = hold_trees text build.names build.nodes.items build.items.items f.0 f.1.2;
      names_are = a.names_are ∙ ap (λ b. fold with_text fixed_names (flat_map (symbols_of text) (tokens_of b))) f.1.0;
      short = omega (arith, a.small);
    }

pub is_whole : (text : List ℕ) (from : ℕ) (build : Build) (a : IsAt text from build) → length build.nodes.items ≤ 2 ^ 26 → end_fault a.before ≡ None → IsWhole (unit_of build)
is_whole text from build a few e =
    let f = forms_only text build a.before e a.reached a.sound in
    let after = names_after fixed_names (flat_map (symbols_of text) (tokens_of a.before)) in
    record {
      data_ = trees text f.0;
      held = hold_trees text build.names build.nodes.items build.items.items f.0 f.1.2;
      shallow = shallow text f.0 f.1.3;
      data_whole = a.well.data_whole;
      named_once = λ k within.
          let all = a.well.once k in
          let none_ : count_of k (flat_map word_of build.frames.items) ≡ 0 = ap (λ fs. count_of k (flat_map word_of fs)) f.1.1 in
          omega (arith, all, none_, once_present k (length build.nodes.items) within);
      few = few;
      names_whole = a.well.names_whole;
      names_distinct = a.well.names_distinct;
      names_begin = (after.0, a.names_are ∙ after.1);
    }

-- ---- what an answer leaves open

pub refusal : (text : List ℕ) (r : Result TextUnit ReadFault) (f : ReadFault) → IfOk r (λ u. IsUnitOf text u) → ((k : ReadKind) (s : Span) → r ≡ Err (Fault k s) → FirstFault text (Fault k s)) → FirstFault text f → (r ≡ Err f) ⊎ (r ≡ Err faults.Memory)
refusal text (Ok u) f data_ faulty first = absurd (not_both text data_.forms f data_.written first)
refusal text (Err faults.Memory) f data_ faulty first = inr refl
refusal text (Err (faults.Fault k s)) f data_ faulty first = inl (ap (λ (e : ReadFault). Err e) (one_fault text (Fault k s) f (faulty k s refl) first))

pub acceptance : (text : List ℕ) (r : Result TextUnit ReadFault) (ts : List Tree) → ((k : ReadKind) (s : Span) → r ≡ Err (Fault k s) → FirstFault text (Fault k s)) → Reads text ts → IfErr r (λ e. e ≡ faults.Memory)
acceptance text (Ok u) ts faulty reads = tt
acceptance text (Err faults.Memory) ts faulty reads = refl
acceptance text (Err (faults.Fault k s)) ts faulty reads = absurd (not_both text reads.forms (Fault k s) reads.written (faulty k s refl))
