-- Token after token: what stands before the next one.
use Rattle.std.proofs.Common.{◌≡◌, ℕ, zero, suc, ◌-◌, ◌<◌, cond, List, [], ◌∷◌, ◌++◌, Option, Some, None, refl, ◌∙◌, arith, append_assoc, lt-ltb}
use Rattle.std.specs.Prelude.{nat_lt}
use Rattle.t_base.specs.declared.basics.Span.{Span}
use Rattle.t_reader.specs.declared.fault.ReadKind.{ReadKind}
use Rattle.t_reader.specs.declared.fault.ReadKind.TheVariants.{TooDeep}
use Rattle.t_reader.specs.declared.fault.ReadFault.{ReadFault}
use Rattle.t_reader.specs.declared.token.Word.{Word}
use Rattle.t_reader.specs.declared.token.Word.TheVariants as word
use Rattle.t_reader.specs.declared.token.Token.{Token}
use Rattle.t_reader.specs.Grammar.{Form, Forms, single, listed, dotted, quoted, none, more, token, written, written_all, IsWithin, AllWithin, Before, outside, in_list, after_dot, after_tail, after_mark, tokens_of, room, TakesDatum, IsSound, close_kind, dot_kind, datum_kind, open_kind, at, fault_of}
use Rattle.t_reader.specs.Steps.{put, closed, with_dot, step}

-- a form that has ended adds its tokens
pub tokens_of-put : (b : Before) (f : Form) → TakesDatum b → IsSound b → tokens_of (put b f) ≡ tokens_of b ++ written f
tokens_of-put (outside fs) f h s = refl
tokens_of-put (in_list b o fs) f h s = simp append_assoc
tokens_of-put (after_dot b o fs g d) f h s = simp append_assoc
tokens_of-put (after_tail b o fs g d t) f h s = absurd h
tokens_of-put (after_mark b m) f h s = tokens_of-put b (quoted m f) s.1 s.0 ∙ simp append_assoc

pub IsSound-put : (b : Before) (f : Form) → TakesDatum b → IsSound b → IsWithin (room b) f → IsSound (put b f)
IsSound-put (outside fs) f h s w = (s, w)
IsSound-put (in_list b o fs) f h s w = (s.0, s.1, s.2, (s.3, w))
IsSound-put (after_dot b o fs g d) f h s w = (s.0, s.1, s.2, s.3, w)
IsSound-put (after_tail b o fs g d t) f h s w = absurd h
IsSound-put (after_mark b m) f h s w = IsSound-put b (quoted m f) s.1 s.0 (s.2, w)

-- ---- a step without fault

none-at : (s : Span) (k : Option ReadKind) → at s k ≡ None → k ≡ None
none-at s None e = refl
none-at s (Some k) e = cc

opened : (n : ℕ) → cond (nat_lt 0 n) None (Some TooDeep) ≡ None → 0 < n
opened zero e = cc
opened (suc n) e = omega arith

opens : (b : Before) → open_kind b ≡ None → TakesDatum b × (0 < room b)
opens (outside fs) e = (tt, omega arith)
opens (in_list b o fs) e = (tt, opened (room b - 1) e)
opens (after_dot b o fs g d) e = (tt, opened (room b - 1) e)
opens (after_tail b o fs g d t) e = cc
opens (after_mark b m) e = (tt, opened (room b - 1) e)

pub takes : (b : Before) → datum_kind b ≡ None → TakesDatum b
takes (outside fs) e = tt
takes (in_list b o fs) e = tt
takes (after_dot b o fs g d) e = tt
takes (after_tail b o fs g d t) e = cc
takes (after_mark b m) e = tt

tokens_of-closed : (b : Before) (s : Span) → IsSound b → close_kind b ≡ None → tokens_of (closed b s) ≡ tokens_of b ++ token word.Close s ∷ []
tokens_of-closed (outside fs) s h e = cc
tokens_of-closed (in_list b o fs) s h e = tokens_of-put b (listed o fs s) h.1 h.0 ∙ simp append_assoc
tokens_of-closed (after_dot b o fs g d) s h e = cc
tokens_of-closed (after_tail b o fs g d t) s h e = tokens_of-put b (dotted o fs g d t s) h.1 h.0 ∙ simp append_assoc
tokens_of-closed (after_mark b m) s h e = cc

IsSound-closed : (b : Before) (s : Span) → IsSound b → IsSound (closed b s)
IsSound-closed (outside fs) s h = h
IsSound-closed (in_list b o fs) s h = IsSound-put b (listed o fs s) h.1 h.0 (h.2, h.3)
IsSound-closed (after_dot b o fs g d) s h = h
IsSound-closed (after_tail b o fs g d t) s h = IsSound-put b (dotted o fs g d t s) h.1 h.0 (h.2, h.3.0, h.3.1, h.4)
IsSound-closed (after_mark b m) s h = h

tokens_of-with_dot : (b : Before) (s : Span) → dot_kind b ≡ None → tokens_of (with_dot b s) ≡ tokens_of b ++ token word.Dot s ∷ []
tokens_of-with_dot (outside fs) s e = cc
tokens_of-with_dot (in_list b o none) s e = cc
tokens_of-with_dot (in_list b o (more fs g)) s e = refl
tokens_of-with_dot (after_dot b o fs g d) s e = cc
tokens_of-with_dot (after_tail b o fs g d t) s e = cc
tokens_of-with_dot (after_mark b m) s e = cc

IsSound-with_dot : (b : Before) (s : Span) → IsSound b → IsSound (with_dot b s)
IsSound-with_dot (outside fs) s h = h
IsSound-with_dot (in_list b o none) s h = h
IsSound-with_dot (in_list b o (more fs g)) s h = h
IsSound-with_dot (after_dot b o fs g d) s h = h
IsSound-with_dot (after_tail b o fs g d t) s h = h
IsSound-with_dot (after_mark b m) s h = h

-- the token is added to what stands before the next one
pub tokens_of-step : (b : Before) (w : Word) (s : Span) → IsSound b → fault_of b w s ≡ None → (w ≡ word.End → ⊥) → tokens_of (step b w s) ≡ tokens_of b ++ token w s ∷ []
tokens_of-step b word.Open s h e n = refl
tokens_of-step b word.Close s h e n = tokens_of-closed b s h (none-at s (close_kind b) e)
tokens_of-step b word.Quote s h e n = refl
tokens_of-step b word.Dot s h e n = tokens_of-with_dot b s (none-at s (dot_kind b) e)
tokens_of-step b (word.Atom a) s h e n = tokens_of-put b (single a s) (takes b (none-at s (datum_kind b) e)) h
tokens_of-step b (word.Bad k) s h e n = cc
tokens_of-step b word.End s h e n = absurd (n refl)

pub IsSound-step : (b : Before) (w : Word) (s : Span) → IsSound b → fault_of b w s ≡ None → IsSound (step b w s)
IsSound-step b word.Open s h e = let o = opens b (none-at s (open_kind b) e) in (h, o.0, o.1, tt)
IsSound-step b word.Close s h e = IsSound-closed b s h
IsSound-step b word.Quote s h e = let o = opens b (none-at s (open_kind b) e) in (h, o.0, o.1)
IsSound-step b word.Dot s h e = IsSound-with_dot b s h
IsSound-step b (word.Atom a) s h e = IsSound-put b (single a s) (takes b (none-at s (datum_kind b) e)) h tt
IsSound-step b (word.Bad k) s h e = h
IsSound-step b word.End s h e = h

-- ---- reading token after token

pub data Outcome : Type 0 where
  faulted : ReadFault → Outcome
  done : Forms → Outcome
  going : Before → Outcome

abbrev pub forms_of : Before → Forms
forms_of (outside fs) = fs
forms_of _ = none

abbrev pub after_token : Option ReadFault → Outcome → Outcome
after_token (Some f) more_ = faulted f
after_token None more_ = more_

abbrev pub or_done : Word → Before → Outcome → Outcome
or_done word.End b more_ = done (forms_of b)
or_done _ b more_ = more_

unfoldable pub reading : Before → List Token → Outcome
reading b [] = going b
reading b (t ∷ ts) = after_token (fault_of b t.word t.span) (or_done t.word b (reading (step b t.word t.span) ts))

datum_none : (b : Before) → TakesDatum b → datum_kind b ≡ None
datum_none (outside fs) h = refl
datum_none (in_list b o fs) h = refl
datum_none (after_dot b o fs g d) h = refl
datum_none (after_tail b o fs g d t) h = absurd h
datum_none (after_mark b m) h = refl

test_none : (n : ℕ) → 0 < n → cond (nat_lt 0 n) None (Some TooDeep) ≡ None
test_none n h = rw (lt-ltb 0 n h) refl

open_none : (b : Before) → TakesDatum b → 0 < room b → open_kind b ≡ None
open_none (outside fs) h r = refl
open_none (in_list b o fs) h r = test_none (room b - 1) r
open_none (after_dot b o fs g d) h r = test_none (room b - 1) r
open_none (after_tail b o fs g d t) h r = absurd h
open_none (after_mark b m) h r = test_none (room b - 1) r

goes : (b : Before) (w : Word) (s : Span) (ts : List Token) (k : Option ReadKind) → fault_of b w s ≡ at s k → k ≡ None → or_done w b (reading (step b w s) ts) ≡ reading (step b w s) ts → reading b (token w s ∷ ts) ≡ reading (step b w s) ts
unfolding reading
goes b w s ts k e n d = rw (e, n, d) refl

mutual
  pub reading-written : (f : Form) (b : Before) (ts : List Token) → TakesDatum b → IsWithin (room b) f → reading b (written f ++ ts) ≡ reading (put b f) ts
  reading-written (single a s) b ts h w = goes b (word.Atom a) s ts (datum_kind b) refl (datum_none b h) refl
  reading-written (listed o fs c) b ts h w =
      simp append_assoc
      (goes b word.Open o (written_all fs ++ token word.Close c ∷ ts) (open_kind b) refl (open_none b h w.0) refl
      ∙ reading-items fs b o (token word.Close c ∷ ts) w.1
      ∙ goes (in_list b o fs) word.Close c ts None refl refl refl)
  reading-written (dotted o fs g d t c) b ts h w =
      simp append_assoc
      (goes b word.Open o (written_all fs ++ (written g ++ token word.Dot d ∷ (written t ++ token word.Close c ∷ ts))) (open_kind b) refl (open_none b h w.0) refl
      ∙ reading-items fs b o (written g ++ token word.Dot d ∷ (written t ++ token word.Close c ∷ ts)) w.1
      ∙ reading-written g (in_list b o fs) (token word.Dot d ∷ (written t ++ token word.Close c ∷ ts)) tt w.2
      ∙ goes (in_list b o (more fs g)) word.Dot d (written t ++ token word.Close c ∷ ts) None refl refl refl
      ∙ reading-written t (after_dot b o fs g d) (token word.Close c ∷ ts) tt w.3
      ∙ goes (after_tail b o fs g d t) word.Close c ts None refl refl refl)
  reading-written (quoted m f) b ts h w =
      goes b word.Quote m (written f ++ ts) (open_kind b) refl (open_none b h w.0) refl
      ∙ reading-written f (after_mark b m) ts tt w.1

  pub reading-items : (fs : Forms) (b : Before) (o : Span) (ts : List Token) → AllWithin (room b - 1) fs → reading (in_list b o none) (written_all fs ++ ts) ≡ reading (in_list b o fs) ts
  reading-items none b o ts w = refl
  reading-items (more fs f) b o ts w =
      simp append_assoc (reading-items fs b o (written f ++ ts) w.0 ∙ reading-written f (in_list b o fs) ts tt w.1)

pub reading-forms : (fs : Forms) (ts : List Token) → AllWithin 400 fs → reading (outside none) (written_all fs ++ ts) ≡ reading (outside fs) ts
reading-forms none ts w = refl
reading-forms (more fs f) ts w =
    simp append_assoc (reading-forms fs (written f ++ ts) w.0 ∙ reading-written f (outside fs) ts tt w.1)

-- what stands before a place is what its tokens lead to
pub reading-before : (b : Before) (ts : List Token) → IsSound b → reading (outside none) (tokens_of b ++ ts) ≡ reading b ts
reading-before (outside fs) ts s = reading-forms fs ts s
reading-before (in_list b o fs) ts s =
    simp append_assoc
    (reading-before b (token word.Open o ∷ (written_all fs ++ ts)) s.0
    ∙ goes b word.Open o (written_all fs ++ ts) (open_kind b) refl (open_none b s.1 s.2) refl
    ∙ reading-items fs b o ts s.3)
reading-before (after_dot b o fs g d) ts s =
    simp append_assoc
    (reading-before b (token word.Open o ∷ (written_all fs ++ (written g ++ token word.Dot d ∷ ts))) s.0
    ∙ goes b word.Open o (written_all fs ++ (written g ++ token word.Dot d ∷ ts)) (open_kind b) refl (open_none b s.1 s.2) refl
    ∙ reading-items fs b o (written g ++ token word.Dot d ∷ ts) s.3.0
    ∙ reading-written g (in_list b o fs) (token word.Dot d ∷ ts) tt s.3.1
    ∙ goes (in_list b o (more fs g)) word.Dot d ts None refl refl refl)
reading-before (after_tail b o fs g d t) ts s =
    simp append_assoc
    (reading-before b (token word.Open o ∷ (written_all fs ++ (written g ++ token word.Dot d ∷ (written t ++ ts)))) s.0
    ∙ goes b word.Open o (written_all fs ++ (written g ++ token word.Dot d ∷ (written t ++ ts))) (open_kind b) refl (open_none b s.1 s.2) refl
    ∙ reading-items fs b o (written g ++ token word.Dot d ∷ (written t ++ ts)) s.3.0
    ∙ reading-written g (in_list b o fs) (token word.Dot d ∷ (written t ++ ts)) tt s.3.1
    ∙ goes (in_list b o (more fs g)) word.Dot d (written t ++ ts) None refl refl refl
    ∙ reading-written t (after_dot b o fs g d) ts tt s.4)
reading-before (after_mark b m) ts s =
    simp append_assoc
    (reading-before b (token word.Quote m ∷ ts) s.0
    ∙ goes b word.Quote m ts (open_kind b) refl (open_none b s.1 s.2) refl)
