-- A datum that has ended.
use Rattle.std.proofs.Common.{◌≡◌, ℕ, ◌-◌, List, [], ◌∷◌, ◌++◌, length, take, Some, refl, sym, ap, subst, ◌∙◌, arith, append_assoc}
use Rattle.std.specs.Prelude.{slice_get, codes}
use Rattle.std.proofs.lemmas.List.{length-append, take_at}
use Rattle.t_base.specs.declared.basics.Span.{Span}
use Rattle.t_reader.specs.declared.build.Frame.{Frame}
use Rattle.t_reader.specs.declared.build.Frame.TheVariants as frame
use Rattle.t_reader.specs.declared.build.Tail.{Tail}
use Rattle.t_reader.specs.declared.build.Tail.TheVariants as tails
use Rattle.t_reader.specs.declared.build.Build.{Build}
use Rattle.t_reader.specs.declared.unit.Node.{Node}
use Rattle.t_reader.specs.Grammar.{symbol, Tree, leaf, span_of, Form, quoted, tree, Before, outside, in_list, after_dot, after_tail, after_mark, TakesDatum, IsSound}
use Rattle.t_reader.specs.Steps.{put}
use Rattle.t_reader.specs.Unit.{Holds}
use Rattle.t_reader.specs.Build.{Stands, Grows, HasTree, Reached, KeepsRest, KeepsBelow, quoted_as, last_frame, ended, tail_ended, Delivers}
use Rattle.t_reader.proofs.Holding.{get-last, Stands-grows}

len-snoc : {A : Type 0} (xs : List A) (x : A) → length (xs ++ x ∷ []) - 1 ≡ length xs
len-snoc xs x = omega (arith, length-append xs (x ∷ []))

pub last-snoc : (fs : List Frame) (f : Frame) → last_frame (fs ++ f ∷ []) ≡ Some f
last-snoc fs f = rw (len-snoc fs f) (get-last fs f)

pub take-snoc : (fs : List Frame) (f : Frame) → take (length (fs ++ f ∷ []) - 1) (fs ++ f ∷ []) ≡ fs
take-snoc fs f = rw (len-snoc fs f) (take_at fs (f ∷ []) (length fs) refl)

pub last-is : (fs lower : List Frame) (f : Frame) → fs ≡ lower ++ f ∷ [] → last_frame fs ≡ Some f
last-is fs lower f e = ap last_frame e ∙ last-snoc lower f

same_frame : (f g : Frame) → Some f ≡ Some g → f ≡ g
same_frame f g e = cc

-- ---- a quote mark that waited

list_no_mark : (o : Span) (n : ℕ) (t : Tail) (m : Span) (w : ℕ) → frame.List o n t ≡ frame.Quote m w → ⊥
list_no_mark o n t m w e = cc

no_list : (fs lower : List Frame) (o : Span) (n : ℕ) (t : Tail) (m : Span) (w : ℕ) → fs ≡ lower ++ frame.List o n t ∷ [] → last_frame fs ≡ Some (frame.Quote m w) → ⊥
no_list fs lower o n t m w e h = list_no_mark o n t m w (same_frame _ _ (sym (last-is fs lower (frame.List o n t) e) ∙ h))

no_frame : (fs : List Frame) (f : Frame) → fs ≡ [] → last_frame fs ≡ Some f → ⊥
no_frame fs f e h = let k : last_frame [] ≡ Some f = sym (ap last_frame e) ∙ h in cc

mark_is : (m m' : Span) (w w' : ℕ) → frame.Quote m w ≡ frame.Quote m' w' → (m ≡ m') × (w ≡ w')
mark_is m m' w w' e = (cc, cc)

pub marks_step : (text : List ℕ) (target : Before) (old mid new : Build) (mark : Span) (word key key' end : ℕ)
    → last_frame old.frames.items ≡ Some (frame.Quote mark word)
    → mid.frames.items ≡ take (length old.frames.items - 1) old.frames.items
    → KeepsBelow old mid → KeepsRest mid new → Grows mid new
    → ((w t : Tree) → HasTree mid word w → HasTree mid key t → HasTree new key' (quoted_as (record { start = mark.start; end = end }) w t))
    → (b : Before) (f : Form) → Reached text b old → TakesDatum b → IsSound b → HasTree old key (tree text f) → (span_of (tree text f)).end ≡ end → put b f ≡ target
    → Delivers text target new key' end
marks_step text target old mid new mark word key key' end last popped below rest_ grows pairs (outside fs) f r t s h e l = absurd (no_frame _ _ r.0 last)
marks_step text target old mid new mark word key key' end last popped below rest_ grows pairs (in_list b o fs) f r t s h e l = absurd (no_list _ _ _ _ _ _ _ r.frames_are last)
marks_step text target old mid new mark word key key' end last popped below rest_ grows pairs (after_dot b o fs g d) f r t s h e l = absurd (no_list _ _ _ _ _ _ _ r.frames_are last)
marks_step text target old mid new mark word key key' end last popped below rest_ grows pairs (after_tail b o fs g d u) f r t s h e l = absurd t
marks_step text target old mid new mark word key key' end last popped below rest_ grows pairs (after_mark b m) f r t s h e l =
    let q = mark_is m mark r.word_node word (same_frame _ _ (sym (last-is old.frames.items r.lower (frame.Quote m r.word_node) r.frames_are) ∙ last)) in
    let lower_is : new.frames.items ≡ r.lower = rest_.frames_same ∙ popped ∙ ap (λ fs. take (length fs - 1) fs) r.frames_are ∙ take-snoc r.lower (frame.Quote m r.word_node) in
    let items_is : new.items.items ≡ old.items.items = rest_.items_same ∙ below.items_same in
    let stay_names : (k : ℕ) (x : List ℕ) → slice_get old.names k ≡ Some x → slice_get new.names k ≡ Some x = λ k x z. grows.names_stay k x (rw below.names_same z) in
    let stay_nodes : (k : ℕ) (x : Node) → slice_get old.nodes.items k ≡ Some x → slice_get new.nodes.items k ≡ Some x = λ k x z. grows.nodes_stay k x (rw below.nodes_same z) in
    let W : ℕ → Type 0 = λ k. HasTree mid k (leaf m (symbol (codes "quote"))) in
    let word_held : HasTree mid word (leaf m (symbol (codes "quote"))) = subst W q.1 (rw (below.names_same, below.nodes_same) r.word_is) in
    let datum_held : HasTree mid key (tree text f) = rw (below.names_same, below.nodes_same) h in
    let T : Span → Type 0 = λ sp. HasTree new key' (quoted_as sp (leaf m (symbol (codes "quote"))) (tree text f)) in
    let span_is : ◌≡◌ {A = Span} (record { start = mark.start; end = end }) (record { start = m.start; end = (span_of (tree text f)).end }) = rw (q.0, e) refl in
    let F : List Frame → Type 0 = λ fs. Stands text new.names new.nodes.items b new.items.items fs in
    let I : List ℕ → Type 0 = λ is. Stands text new.names new.nodes.items b is r.lower in
    record {
      before = b;
      form = quoted m f;
      reached = subst F (sym lower_is) (subst I (sym items_is) (Stands-grows text old.names new.names old.nodes.items new.nodes.items stay_names stay_nodes b old.items.items r.lower r.outer_stands));
      takes = s.1;
      sound = s.0;
      held = subst T span_is (pairs (leaf m (symbol (codes "quote"))) (tree text f) word_held datum_held);
      end_is = e;
      leads = l;
    }

-- ---- a datum that no quote mark waits for

pub same_stands : (text : List ℕ) (names names' : List (List ℕ)) (nodes nodes' : List Node) (items items' : List ℕ) (frames frames' : List Frame) (b : Before) → names' ≡ names → nodes' ≡ nodes → items' ≡ items → frames' ≡ frames → Stands text names nodes b items frames → Stands text names' nodes' b items' frames'
same_stands text names names' nodes nodes' items items' frames frames' b n m i f h =
    let P : List (List ℕ) → Type 0 = λ v. Stands text v nodes b items frames in
    let Q : List Node → Type 0 = λ v. Stands text names' v b items frames in
    let R : List ℕ → Type 0 = λ v. Stands text names' nodes' b v frames in
    let S : List Frame → Type 0 = λ v. Stands text names' nodes' b items' v in
    subst S (sym f) (subst R (sym i) (subst Q (sym m) (subst P (sym n) h)))

ended-snoc : (frames lower : List Frame) (f : Frame) → frames ≡ lower ++ f ∷ [] → tail_ended frames ≡ ended (Some f) (lower ++ f ∷ [])
ended-snoc frames lower f e = ap tail_ended e ∙ ap (λ o. ended o (lower ++ f ∷ [])) (last-snoc lower f)

rested_here : (text : List ℕ) (names : List (List ℕ)) (nodes : List Node) (items : List ℕ) (frames : List Frame) (key : ℕ)
    → ((m : Span) (w : ℕ) → last_frame frames ≡ Some (frame.Quote m w) → ⊥)
    → (b : Before) (f : Form) → Stands text names nodes b items frames → TakesDatum b → Holds names nodes key (tree text f)
    → Stands text names nodes (put b f) (items ++ key ∷ []) (tail_ended frames)
rested_here text names nodes items frames key no_mark (outside fs) f r t h = (ap tail_ended r.0, (items, key, refl, r.1, h))
rested_here text names nodes items frames key no_mark (in_list b o fs) f r t h =
    record {
      below = r.below;
      mine = r.mine ++ key ∷ [];
      lower = r.lower;
      items_are = ap (λ is. is ++ key ∷ []) r.items_are ∙ append_assoc r.below r.mine (key ∷ []);
      frames_are = ended-snoc frames r.lower (frame.List o (length r.below) tails.Nothing) r.frames_are;
      outer_stands = r.outer_stands;
      own_stand = (r.mine, key, refl, r.own_stand, h);
    }
rested_here text names nodes items frames key no_mark (after_dot b o fs g d) f r t h =
    record {
      below = r.below;
      mine = r.mine ++ key ∷ [];
      lower = r.lower;
      items_are = ap (λ is. is ++ key ∷ []) r.items_are ∙ append_assoc r.below r.mine (key ∷ []);
      frames_are = ended-snoc frames r.lower (frame.List o (length r.below) tails.Dot) r.frames_are ∙ ap (λ fs'. fs' ++ frame.List o (length r.below) tails.Datum ∷ []) (take-snoc r.lower (frame.List o (length r.below) tails.Dot));
      outer_stands = r.outer_stands;
      own_stand = (r.mine, key, refl, r.own_stand, h);
    }
rested_here text names nodes items frames key no_mark (after_tail b o fs g d u) f r t h = absurd t
rested_here text names nodes items frames key no_mark (after_mark b m) f r t h = absurd (no_mark m r.word_node (last-is frames r.lower (frame.Quote m r.word_node) r.frames_are))

rested : (text : List ℕ) (names names' : List (List ℕ)) (nodes nodes' : List Node) (items items' : List ℕ) (frames frames' : List Frame) (key : ℕ)
    → ((m : Span) (w : ℕ) → last_frame frames ≡ Some (frame.Quote m w) → ⊥)
    → frames' ≡ tail_ended frames → items' ≡ items ++ key ∷ [] → names' ≡ names → nodes' ≡ nodes
    → (b : Before) (f : Form) → Stands text names nodes b items frames → TakesDatum b → Holds names nodes key (tree text f)
    → Stands text names' nodes' (put b f) items' frames'
rested text names names' nodes nodes' items items' frames frames' key no_mark fr it n m b f r t h =
    same_stands text names names' nodes nodes' (items ++ key ∷ []) items' (tail_ended frames) frames' (put b f) n m it fr (rested_here text names nodes items frames key no_mark b f r t h)

pub rests : (text : List ℕ) (target : Before) (old new : Build) (key : ℕ)
    → ((m : Span) (w : ℕ) → last_frame old.frames.items ≡ Some (frame.Quote m w) → ⊥)
    → new.frames.items ≡ tail_ended old.frames.items → new.items.items ≡ old.items.items ++ key ∷ [] → new.names ≡ old.names → new.nodes.items ≡ old.nodes.items
    → (b : Before) (f : Form) → Reached text b old → TakesDatum b → HasTree old key (tree text f) → put b f ≡ target
    → Reached text target new
rests text target old new key no_mark frames items names nodes b f r t h l =
    let P : Before → Type 0 = λ c. Reached text c new in
    subst P l (rested text old.names new.names old.nodes.items new.nodes.items old.items.items new.items.items old.frames.items new.frames.items key no_mark frames items names nodes b f r t h)
