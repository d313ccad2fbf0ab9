-- A dot in the last list, and its end.
use Rattle.std.proofs.Common.{◌≡◌, ℕ, ◌<◌, List, [], ◌∷◌, ◌++◌, length, Some, None, refl, sym, ap, subst, ◌∙◌, arith}
use Rattle.std.proofs.lemmas.List.{length-append}
use Rattle.t_base.specs.declared.basics.Span.{Span}
use Rattle.t_reader.specs.declared.fault.ReadKind.TheVariants.{LoneDot}
use Rattle.t_reader.specs.declared.build.Frame.{Frame}
use Rattle.t_reader.specs.declared.build.Frame.TheVariants as frame
use Rattle.t_reader.specs.declared.build.Tail.{Tail}
use Rattle.t_reader.specs.declared.build.Tail.TheVariants as tails
use Rattle.t_reader.specs.declared.unit.Node.{Node}
use Rattle.t_reader.specs.Grammar.{Form, Forms, none, more, listed, dotted, Before, outside, in_list, after_dot, after_tail, after_mark, TakesDatum, IsSound, close_kind, dot_kind}
use Rattle.t_reader.specs.Steps.{put, closed, with_dot}
use Rattle.t_reader.specs.Build.{HoldAll, Stands, last_frame, close_fault_of}
use Rattle.t_reader.proofs.Chaining.{snoc_parts}
use Rattle.t_reader.proofs.Delivering.{last-is}

list_is : (o o' : Span) (n n' : ℕ) (t t' : Tail) → frame.List o n t ≡ frame.List o' n' t' → (o ≡ o') × (n ≡ n') × (t ≡ t')
list_is o o' n n' t t' e = (cc, cc, cc)

-- a list that stands last is the one that is last
same_last : (fs lower lower' : List Frame) (o o' : Span) (n n' : ℕ) (t t' : Tail) → fs ≡ lower ++ frame.List o n t ∷ [] → fs ≡ lower' ++ frame.List o' n' t' ∷ []
    → (lower ≡ lower') × ((o ≡ o') × (n ≡ n') × (t ≡ t'))
same_last fs lower lower' o o' n n' t t' e f =
    let parts = snoc_parts lower lower' (frame.List o n t) (frame.List o' n' t') (sym e ∙ f) in
    (parts.0, list_is o o' n n' t t' parts.1)

-- ---- the end of a list

-- a list with a datum behind its dot
pub closes_dotted : (text : List ℕ) (names : List (List ℕ)) (nodes : List Node) (items : List ℕ) (frames front : List Frame) (o c : Span) (first : ℕ) (P : Before → Type 0)
    → frames ≡ front ++ frame.List o first tails.Datum ∷ []
    → ((b : Before) (fs : Forms) (g t : Form) (below mine : List ℕ) → Stands text names nodes b below front → TakesDatum b → IsSound b → length below ≡ first → items ≡ below ++ mine → HoldAll text names nodes mine (more (more fs g) t) → (d : Span) → P (put b (dotted o fs g d t c)))
    → (b : Before) → Stands text names nodes b items frames → IsSound b → close_kind b ≡ None → P (closed b c)
closes_dotted text names nodes items frames front o c first P last ends (outside fs) r s k = cc
closes_dotted text names nodes items frames front o c first P last ends (in_list b o' fs) r s k = let e = same_last frames r.lower front o' o (length r.below) first tails.Nothing tails.Datum r.frames_are last in cc
closes_dotted text names nodes items frames front o c first P last ends (after_dot b o' fs g d) r s k = cc
closes_dotted text names nodes items frames front o c first P last ends (after_tail b o' fs g d t) r s k =
    let e = same_last frames r.lower front o' o (length r.below) first tails.Datum tails.Datum r.frames_are last in
    let Q : Span → Type 0 = λ v. P (put b (dotted v fs g d t c)) in
    let S : List Frame → Type 0 = λ v. Stands text names nodes b r.below v in
    subst Q (sym e.1.0) (ends b fs g t r.below r.mine (subst S e.0 r.outer_stands) s.1 s.0 e.1.1 r.items_are r.own_stand d)
closes_dotted text names nodes items frames front o c first P last ends (after_mark b m) r s k = cc

-- a list without a dot
pub closes_list : (text : List ℕ) (names : List (List ℕ)) (nodes : List Node) (items : List ℕ) (frames front : List Frame) (o c : Span) (first : ℕ) (tail : Tail) (P : Before → Type 0)
    → frames ≡ front ++ frame.List o first tail ∷ [] → (tail ≡ tails.Datum → ⊥)
    → ((b : Before) (fs : Forms) (below mine : List ℕ) → Stands text names nodes b below front → TakesDatum b → IsSound b → length below ≡ first → items ≡ below ++ mine → HoldAll text names nodes mine fs → P (put b (listed o fs c)))
    → (b : Before) → Stands text names nodes b items frames → IsSound b → close_kind b ≡ None → P (closed b c)
closes_list text names nodes items frames front o c first tail P last other ends (outside fs) r s k = cc
closes_list text names nodes items frames front o c first tail P last other ends (in_list b o' fs) r s k =
    let e = same_last frames r.lower front o' o (length r.below) first tails.Nothing tail r.frames_are last in
    let Q : Span → Type 0 = λ v. P (put b (listed v fs c)) in
    let S : List Frame → Type 0 = λ v. Stands text names nodes b r.below v in
    subst Q (sym e.1.0) (ends b fs r.below r.mine (subst S e.0 r.outer_stands) s.1 s.0 e.1.1 r.items_are r.own_stand)
closes_list text names nodes items frames front o c first tail P last other ends (after_dot b o' fs g d) r s k = cc
closes_list text names nodes items frames front o c first tail P last other ends (after_tail b o' fs g d t) r s k =
    absurd (other (sym (same_last frames r.lower front o' o (length r.below) first tails.Datum tail r.frames_are last).1.2))
closes_list text names nodes items frames front o c first tail P last other ends (after_mark b m) r s k = cc

-- what a closing parenthesis breaks
pub close_fault : (text : List ℕ) (names : List (List ℕ)) (nodes : List Node) (b : Before) (items : List ℕ) (frames : List Frame) → Stands text names nodes b items frames → close_kind b ≡ close_fault_of (last_frame frames)
close_fault text names nodes (outside fs) items frames r = sym (ap (λ (l : List Frame). close_fault_of (last_frame l)) r.0)
close_fault text names nodes (in_list b o fs) items frames r = sym (ap close_fault_of (last-is frames r.lower (frame.List o (length r.below) tails.Nothing) r.frames_are))
close_fault text names nodes (after_dot b o fs g d) items frames r = sym (ap close_fault_of (last-is frames r.lower (frame.List o (length r.below) tails.Dot) r.frames_are))
close_fault text names nodes (after_tail b o fs g d t) items frames r = sym (ap close_fault_of (last-is frames r.lower (frame.List o (length r.below) tails.Datum) r.frames_are))
close_fault text names nodes (after_mark b m) items frames r = sym (ap close_fault_of (last-is frames r.lower (frame.Quote m r.word_node) r.frames_are))

pub list_closes : (o : Span) (n : ℕ) (t : Tail) → (t ≡ tails.Dot → ⊥) → close_fault_of (Some (frame.List o n t)) ≡ None
list_closes o n tails.Nothing h = refl
list_closes o n tails.Dot h = absurd (h refl)
list_closes o n tails.Datum h = refl

-- ---- a dot

-- the list goes on behind its dot
pub dots : (text : List ℕ) (names : List (List ℕ)) (nodes : List Node) (items : List ℕ) (frames frames' front : List Frame) (o : Span) (first : ℕ)
    → frames ≡ front ++ frame.List o first tails.Nothing ∷ [] → frames' ≡ front ++ frame.List o first tails.Dot ∷ []
    → (b : Before) (s : Span) → Stands text names nodes b items frames → dot_kind b ≡ None → Stands text names nodes (with_dot b s) items frames'
dots text names nodes items frames frames' front o first last new (outside fs) s r k = cc
dots text names nodes items frames frames' front o first last new (in_list b o' none) s r k = cc
dots text names nodes items frames frames' front o first last new (in_list b o' (more fs g)) s r k =
    let e = same_last frames r.lower front o' o (length r.below) first tails.Nothing tails.Nothing r.frames_are last in
    record {
      below = r.below;
      mine = r.mine;
      lower = r.lower;
      items_are = r.items_are;
      frames_are = rw (e.0, e.1.0, e.1.1) new;
      outer_stands = r.outer_stands;
      own_stand = r.own_stand;
    }
dots text names nodes items frames frames' front o first last new (after_dot b o' fs g d) s r k = cc
dots text names nodes items frames frames' front o first last new (after_tail b o' fs g d t) s r k = cc
dots text names nodes items frames frames' front o first last new (after_mark b m) s r k = cc

some_same : (f g : Frame) → Some f ≡ Some g → f ≡ g
some_same f g e = cc

not_last : (fs lower : List Frame) (f g : Frame) → fs ≡ lower ++ f ∷ [] → last_frame fs ≡ Some g → f ≡ g
not_last fs lower f g e h = some_same f g (sym (last-is fs lower f e) ∙ h)

-- a list with an item takes a dot
pub dot_fits : (text : List ℕ) (names : List (List ℕ)) (nodes : List Node) (items : List ℕ) (frames : List Frame) (o : Span) (first : ℕ)
    → last_frame frames ≡ Some (frame.List o first tails.Nothing) → first < length items
    → (b : Before) → Stands text names nodes b items frames → dot_kind b ≡ None
dot_fits text names nodes items frames o first last few (outside fs) r = let h : last_frame [] ≡ Some (frame.List o first tails.Nothing) = ap last_frame (sym r.0) ∙ last in cc
dot_fits text names nodes items frames o first last few (in_list b o' none) r =
    let e = list_is o' o (length r.below) first tails.Nothing tails.Nothing (not_last frames r.lower _ _ r.frames_are last) in
    absurd (omega (arith, ap length r.items_are, ap (λ m. length (r.below ++ m)) r.own_stand, length-append r.below [], e.1))
dot_fits text names nodes items frames o first last few (in_list b o' (more fs g)) r = refl
dot_fits text names nodes items frames o first last few (after_dot b o' fs g d) r = let e = not_last frames r.lower _ _ r.frames_are last in cc
dot_fits text names nodes items frames o first last few (after_tail b o' fs g d t) r = let e = not_last frames r.lower _ _ r.frames_are last in cc
dot_fits text names nodes items frames o first last few (after_mark b m) r = let e = not_last frames r.lower _ _ r.frames_are last in cc

-- and nothing else does
pub dot_fault : (text : List ℕ) (names : List (List ℕ)) (nodes : List Node) (items : List ℕ) (frames : List Frame)
    → ((o : Span) (first : ℕ) → last_frame frames ≡ Some (frame.List o first tails.Nothing) → first < length items → ⊥)
    → (b : Before) → Stands text names nodes b items frames → dot_kind b ≡ Some LoneDot
dot_fault text names nodes items frames never (outside fs) r = refl
dot_fault text names nodes items frames never (in_list b o none) r = refl
dot_fault text names nodes items frames never (in_list b o (more fs g)) r =
    absurd (never o (length r.below) (last-is frames r.lower _ r.frames_are)
    (omega (arith, ap length r.items_are, ap (λ m. length (r.below ++ m)) r.own_stand.2, length-append r.below (r.own_stand.0 ++ r.own_stand.1 ∷ []), length-append r.own_stand.0 (r.own_stand.1 ∷ []))))
dot_fault text names nodes items frames never (after_dot b o fs g d) r = refl
dot_fault text names nodes items frames never (after_tail b o fs g d t) r = refl
dot_fault text names nodes items frames never (after_mark b m) r = refl
