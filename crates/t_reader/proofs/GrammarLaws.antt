-- Each text has data or a first fault, not both, and one of it.
use Rattle.std.proofs.Common.{◌≡◌, ℕ, zero, suc, ◌-◌, ◌<◌, ◌≤◌, List, [], ◌∷◌, ◌++◌, length, Option, Some, None, ◌⊎◌, inl, inr, refl, sym, ap, subst, ◌∙◌, arith, append_assoc}
use Rattle.t_base.specs.declared.basics.Span.{Span}
use Rattle.t_reader.specs.declared.fault.ReadKind.{ReadKind}
use Rattle.t_reader.specs.declared.fault.ReadFault.{ReadFault}
use Rattle.t_reader.specs.declared.fault.ReadFault.TheVariants.{Fault}
use Rattle.t_reader.specs.declared.token.Word.{Word}
use Rattle.t_reader.specs.declared.token.Word.TheVariants as word
use Rattle.t_reader.specs.declared.token.Token.{Token}
use Rattle.t_reader.specs.Tokens.{token_at, MovesBy}
use Rattle.t_reader.specs.Grammar.{Forms, none, Tree, trees, written_all, Before, outside, in_list, after_dot, after_tail, after_mark, tokens_of, IsSound, end_fault, fault_of, Begins, AreForms, Reads, FirstFault}
use Rattle.t_reader.specs.Steps.{step}
use Rattle.t_reader.proofs.Steps.{Outcome, faulted, done, going, after_token, or_done, reading, reading-forms, reading-before, tokens_of-step, IsSound-step}
use Rattle.t_reader.proofs.Moves.{token_at-moves}

abbrev pub IsFinal : Outcome → Type 0
IsFinal (faulted f) = Unit {0}
IsFinal (done fs) = Unit {0}
IsFinal (going b) = ⊥

same_end : (k : Option ReadFault) (w : Word) (b : Before) (x y : Outcome) → IsFinal (after_token k (or_done w b x)) → (IsFinal x → y ≡ x) → after_token k (or_done w b y) ≡ after_token k (or_done w b x)
same_end (Some f) w b x y h e = refl
same_end None word.End b x y h e = refl
same_end None word.Open b x y h e = e h
same_end None word.Close b x y h e = e h
same_end None word.Quote b x y h e = e h
same_end None word.Dot b x y h e = e h
same_end None (word.Atom a) b x y h e = e h
same_end None (word.Bad k) b x y h e = e h

reading-append : (ts us : List Token) (b : Before) → IsFinal (reading b ts) → reading b (ts ++ us) ≡ reading b ts
unfolding reading
reading-append [] us b h = absurd h
reading-append (t ∷ ts) us b h =
    same_end (fault_of b t.word t.span) t.word b (reading (step b t.word t.span) ts) (reading (step b t.word t.span) (ts ++ us)) h (reading-append ts us (step b t.word t.span))

-- of two lists that the text begins with one begins the other
one_begins : (text : List ℕ) (from : ℕ) (ts us : List Token) → Begins text from ts → Begins text from us → ((more_ : List Token) × (us ≡ ts ++ more_)) ⊎ ((more_ : List Token) × (ts ≡ us ++ more_))
one_begins text from [] us p q = inl (us, refl)
one_begins text from (t ∷ ts) [] p q = inr (t ∷ ts, refl)
one_begins text from (t ∷ ts) (u ∷ us) p q =
    let same : u ≡ t = q.0 ∙ sym p.0 in
    let q' : Begins text t.span.end us = (let P : Token → Type 0 = λ v. Begins text v.span.end us in subst P same q.1) in
    elim (one_begins text t.span.end ts us p.1 q') [ inl e ↦ inl (e.0, ap (λ v. v ∷ us) same ∙ ap (λ vs. t ∷ vs) e.1) | inr e ↦ inr (e.0, ap (λ vs. t ∷ vs) e.1 ∙ ap (λ v. v ∷ (us ++ e.0)) (sym same)) ]

one_end : (text : List ℕ) (ts us : List Token) → Begins text 0 ts → Begins text 0 us → IsFinal (reading (outside none) ts) → IsFinal (reading (outside none) us) → reading (outside none) ts ≡ reading (outside none) us
one_end text ts us p q h i =
    elim (one_begins text 0 ts us p q) [
      | inl e ↦ sym (ap (reading (outside none)) e.1 ∙ reading-append ts e.0 (outside none) h)
      | inr e ↦ ap (reading (outside none)) e.1 ∙ reading-append us e.0 (outside none) i
    ]

ends : (fs : Forms) (t : Token) → t.word ≡ word.End → reading (outside fs) (t ∷ []) ≡ done fs
unfolding reading
ends fs t e = rw e refl

faults : (b : Before) (t : Token) (f : ReadFault) → fault_of b t.word t.span ≡ Some f → reading b (t ∷ []) ≡ faulted f
unfolding reading
faults b t f e = rw e refl

forms_end : (text : List ℕ) (fs : Forms) (a : AreForms text fs) → reading (outside none) (written_all fs ++ a.end_token ∷ []) ≡ done fs
forms_end text fs a = reading-forms fs (a.end_token ∷ []) a.depth ∙ ends fs a.end_token a.at_end

fault_ends : (text : List ℕ) (f : ReadFault) (a : FirstFault text f) → reading (outside none) (tokens_of a.before ++ a.bad_token ∷ []) ≡ faulted f
fault_ends text f a = reading-before a.before (a.bad_token ∷ []) a.sound ∙ faults a.before a.bad_token f a.fault

final_done : (x : Outcome) (fs : Forms) → x ≡ done fs → IsFinal x
final_done x fs e = rw e tt

final_faulted : (x : Outcome) (f : ReadFault) → x ≡ faulted f → IsFinal x
final_faulted x f e = rw e tt

-- a text has at most one reading
pub one_reading : (text : List ℕ) (fs gs : Forms) → AreForms text fs → AreForms text gs → fs ≡ gs
one_reading text fs gs a b =
    let e = one_end text (written_all fs ++ a.end_token ∷ []) (written_all gs ++ b.end_token ∷ []) a.tokens b.tokens (final_done _ fs (forms_end text fs a)) (final_done _ gs (forms_end text gs b)) in
    let e' : done fs ≡ done gs = sym (forms_end text fs a) ∙ e ∙ forms_end text gs b in cc

pub one_fault : (text : List ℕ) (f g : ReadFault) → FirstFault text f → FirstFault text g → f ≡ g
one_fault text f g a b =
    let e = one_end text (tokens_of a.before ++ a.bad_token ∷ []) (tokens_of b.before ++ b.bad_token ∷ []) a.tokens b.tokens (final_faulted _ f (fault_ends text f a)) (final_faulted _ g (fault_ends text g b)) in
    let e' : faulted f ≡ faulted g = sym (fault_ends text f a) ∙ e ∙ fault_ends text g b in cc

pub not_both : (text : List ℕ) (fs : Forms) (f : ReadFault) → AreForms text fs → FirstFault text f → ⊥
not_both text fs f a b =
    let e = one_end text (written_all fs ++ a.end_token ∷ []) (tokens_of b.before ++ b.bad_token ∷ []) a.tokens b.tokens (final_done _ fs (forms_end text fs a)) (final_faulted _ f (fault_ends text f b)) in
    let e' : done fs ≡ faulted f = sym (forms_end text fs a) ∙ e ∙ fault_ends text f b in cc

-- ---- each text has one of the two

abbrev pub Has : List ℕ → Type 0
Has text = ((fs : Forms) × AreForms text fs) ⊎ ((f : ReadFault) × FirstFault text f)

-- the tokens of b lead from the start of the text to `from`
abbrev pub Leads : List ℕ → Before → ℕ → Type 0
Leads text b from = (ts : List Token) → Begins text from ts → Begins text 0 (tokens_of b ++ ts)

at_end : (text : List ℕ) (from : ℕ) (b : Before) → IsSound b → Leads text b from → (token_at text from).word ≡ word.End → end_fault b ≡ None → Has text
at_end text from (outside fs) s l e n = inl (fs, record { end_token = token_at text from; at_end = e; tokens = l (token_at text from ∷ []) (refl, tt); depth = s })
at_end text from (in_list b o fs) s l e n = cc
at_end text from (after_dot b o fs g d) s l e n = cc
at_end text from (after_tail b o fs g d t) s l e n = cc
at_end text from (after_mark b m) s l e n = cc

pub leads_on : (text : List ℕ) (from : ℕ) (b : Before) → IsSound b → Leads text b from → (t : Token) → t ≡ token_at text from → fault_of b t.word t.span ≡ None → (t.word ≡ word.End → ⊥) → Leads text (step b t.word t.span) t.span.end
leads_on text from b s l t same e n ts begins =
    rw (tokens_of-step b t.word t.span s e n, append_assoc) (l (t ∷ ts) (same, begins))

-- a token that isn't the last leaves less of the text
less : (text : List ℕ) (n from : ℕ) → from ≤ length text → length text - from ≤ n → (w : Word) (start end : ℕ) → MovesBy w from (length text) start end → (w ≡ word.End → ⊥) → ((k : ReadKind) → w ≡ word.Bad k → ⊥) → (0 < n) × (end ≤ length text) × (length text - end ≤ n - 1)
less text n from p q word.Open start end m e b = (omega arith, omega arith, omega arith)
less text n from p q word.Close start end m e b = (omega arith, omega arith, omega arith)
less text n from p q word.Quote start end m e b = (omega arith, omega arith, omega arith)
less text n from p q word.Dot start end m e b = (omega arith, omega arith, omega arith)
less text n from p q (word.Atom a) start end m e b = (omega arith, omega arith, omega arith)
less text n from p q (word.Bad k) start end m e b = absurd (b k refl)
less text n from p q word.End start end m e b = absurd (e refl)

pub ended : (b : Before) (w : Word) (s : Span) → w ≡ word.End → fault_of b w s ≡ None → end_fault b ≡ None
ended b w s z e = let P : Word → Type 0 = λ v. fault_of b v s ≡ None in subst P z e

some_none : (f : ReadFault) → Some f ≡ None → ⊥
some_none f e = cc

not_bad : (b : Before) (w : Word) (s : Span) → fault_of b w s ≡ None → (k : ReadKind) → w ≡ word.Bad k → ⊥
not_bad b w s e k same = let h : fault_of b (word.Bad k) s ≡ None = (let P : Word → Type 0 = λ v. fault_of b v s ≡ None in subst P same e) in some_none (Fault k s) h

is_end : (w : Word) → (w ≡ word.End) ⊎ (w ≡ word.End → ⊥)
is_end word.End = inl refl
is_end word.Open = inr (λ e. cc)
is_end word.Close = inr (λ e. cc)
is_end word.Quote = inr (λ e. cc)
is_end word.Dot = inr (λ e. cc)
is_end (word.Atom a) = inr (λ e. cc)
is_end (word.Bad k) = inr (λ e. cc)

fault_or_not : (k : Option ReadFault) → ((f : ReadFault) × (k ≡ Some f)) ⊎ (k ≡ None)
fault_or_not None = inr refl
fault_or_not (Some f) = inl (f, refl)

-- the next token ends the reading, or another one follows
next : (n : ℕ) (text : List ℕ) (from : ℕ) (b : Before) → from ≤ length text → length text - from ≤ n → IsSound b → Leads text b from
    → ((to : ℕ) (c : Before) → 0 < n → to ≤ length text → length text - to ≤ n - 1 → IsSound c → Leads text c to → Has text) → Has text
next n text from b p q s l more_ =
    let t : Token = token_at text from in
    elim (fault_or_not (fault_of b t.word t.span)) [
      | inl f ↦ inr (f.0, record { before = b; sound = s; bad_token = t; tokens = l (t ∷ []) (refl, tt); fault = f.1 })
      | inr e ↦ elim (is_end t.word) [
        | inl z ↦ at_end text from b s l z (ended b t.word t.span z e)
        | inr z ↦
            let m = less text n from p q t.word t.span.start t.span.end (token_at-moves text from p).moves z (not_bad b t.word t.span e) in
            more_ t.span.end (step b t.word t.span) m.0 m.1 m.2 (IsSound-step b t.word t.span s e) (leads_on text from b s l t refl e z)
      ]
    ]

from_on : (n : ℕ) (text : List ℕ) (from : ℕ) (b : Before) → from ≤ length text → length text - from ≤ n → IsSound b → Leads text b from → Has text
from_on zero text from b p q s l = next zero text from b p q s l (λ to c z _ _ _ _. absurd (omega arith))
from_on (suc n) text from b p q s l = next (suc n) text from b p q s l (λ to c z u v w x. from_on n text to c u (omega arith) w x)

-- each text has a reading or a first fault
pub has : (text : List ℕ) → Has text
has text = from_on (length text) text 0 (outside none) (omega arith) (omega arith) tt (λ ts begins. begins)

-- ---- the same of data

pub reading_or_fault : (text : List ℕ) → ((ts : List Tree) × Reads text ts) ⊎ ((f : ReadFault) × FirstFault text f)
reading_or_fault text = elim (has text) [ inl a ↦ inl (trees text a.0, record { forms = a.0; written = a.1; data_are = refl }) | inr f ↦ inr f ]

pub reads_not_both : (text : List ℕ) (ts : List Tree) (f : ReadFault) → Reads text ts → FirstFault text f → ⊥
reads_not_both text ts f a b = not_both text a.forms f a.written b

pub reads_once : (text : List ℕ) (ts us : List Tree) → Reads text ts → Reads text us → ts ≡ us
reads_once text ts us a b = a.data_are ∙ ap (trees text) (one_reading text a.forms b.forms a.written b.written) ∙ sym b.data_are
