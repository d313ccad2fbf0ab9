-- The steps of an expansion.
use Rattle.std.proofs.Common.{◌≡◌, ◌≢◌, ◌⊎◌, inl, inr, ℕ, zero, suc, Bool, false, List, [], ◌∷◌, ◌++◌, map, length, drop, Contains, AllPairs, Option, Some, None, option_map, slice_get, refl, sym, ap, subst, ◌∙◌, append_assoc}
use Rattle.std.proofs.lemmas.List.{map-append, append-nil}
use Rattle.std.proofs.lemmas.Option.{same_Some}
use Rattle.t_forms.specs.declared.arena.Cell.{Cell}
use Rattle.t_forms.specs.declared.scope.LocalName.{LocalName}
use Rattle.t_forms.specs.Data.{Datum, Name}
use Rattle.t_forms.specs.Names.{Scope, within}
use Rattle.t_forms.specs.Held.{Held, Extends, Around, vars_of, IsScope, IsTable, AreNames}
use Rattle.t_rows.specs.declared.refusal.Refusal.{Refusal}
use Rattle.t_rows.specs.declared.rows.Part.{Part as CodePart}
use Rattle.t_rows.specs.Rows.{Part, node, row}
use Rattle.t_rows.specs.Given.{AreBinds, IsPartBehind, AreParts}
use Rattle.expansion.specs.Meaning.{Means, as_node, AllMean}
use Rattle.expansion.specs.Refusals.{Refused, at_form}
use Rattle.core_frames.specs.Building.{variables_of, part_of}
use Rattle.expansion.specs.Lists.{numbered}
use Rattle.t_expand.specs.Quoting.{AddsConstants}
use Rattle.expansion.specs.Lists.{Adds}
use Rattle.t_expand.specs.Expanding.{Grows, IsCovered, IsFirst}
use Rattle.t_expand.specs.Driving.{SameForm, Root, Open, IsOpen, without, Inside, WaitsFor, Stacked, Among, Behind, Tracks, left_under, IsUnder, AreUnder, IsBack, IsEnd, Opens, IsOpened, IsMade}
use Rattle.core_frames.specs.Frames.{Frame, waiting}
use Rattle.core_frames.specs.declared.build.Done.{Done}
use Rattle.core_frames.specs.declared.build.Fresh.{Fresh}
use Rattle.core_frames.specs.declared.frames.NodeState.{NodeState}
use Rattle.t_expand.specs.declared.driver_state.Expansion.{Expansion}
use Rattle.core_frames.proofs.FrameLemmas.{seam}
use Rattle.t_expand.proofs.QuotedLemmas.{AddsConstants_refl}
use Rattle.expansion.proofs.Added.{Adds_refl}
use Rattle.expansion.proofs.Places.{precedes_through}
use Rattle.t_forms.proofs.Keeping.{extends_same}
use Rattle.t_expand.proofs.GrowthLemmas.{Grows_trans, AreParts-Grows, IsOpen-Grows, Stacked-Grows, AllMean-push}
use Rattle.t_expand.proofs.FormLemmas.{refused_node, among_node, first_part, later_part, part_cases, among_none}

-- ---- lists

-- what is put last is at the place that the length was
pub placed : {A : Type 0} (xs : List A) (x : A) (ys : List A) (k : ℕ) → k ≡ length xs → ys ≡ xs ++ x ∷ [] → slice_get ys k ≡ Some x
placed xs x ys k e f = ap (λ n. slice_get ys n) e ∙ ap (λ l. slice_get l (length xs)) f ∙ seam xs x []

pub length-numbered : (first n : ℕ) → length (numbered first n) ≡ n
length-numbered first zero = refl
length-numbered first (suc n) = ap suc (length-numbered (suc first) n)

-- ---- names

AreNames-append : (names : List (List ℕ)) (ks ls : List LocalName) (ns ms : List Name) → AreNames names ks ns → AreNames names ls ms → AreNames names (ks ++ ls) (ns ++ ms)
AreNames-append names [] ls [] ms a b = b
AreNames-append names [] ls (n ∷ ns) ms a b = absurd a
AreNames-append names (k ∷ ks) ls [] ms a b = absurd a
AreNames-append names (k ∷ ks) ls (n ∷ ns) ms a b = (a.0, AreNames-append names ks ls ns ms a.1 b)

length-AreNames : (names : List (List ℕ)) (ks : List LocalName) (ns : List Name) → AreNames names ks ns → length ns ≡ length ks
length-AreNames names [] [] a = refl
length-AreNames names [] (n ∷ ns) a = absurd a
length-AreNames names (k ∷ ks) [] a = absurd a
length-AreNames names (k ∷ ks) (n ∷ ns) a = ap suc (length-AreNames names ks ns a.1)

pub same_around : (a b : Around) → a.locals ≡ b.locals → a.table ≡ b.table → a ≡ b
same_around a b e f = ap (λ l. record { locals = l; table = a.table }) e ∙ ap (λ t. record { locals = b.locals; table = t }) f

-- ---- what is covered

pub covered_more : (before after : Option Refusal) → ((f : Refusal) → before ≡ Some f → IsCovered after f) → (r : Refusal) → IsCovered before r → IsCovered after r
covered_more before after kept r c =
    let d = kept c.by c.is in record { by = d.by; is = d.is; precedes = precedes_through d.by c.by r d.precedes c.precedes }

-- ---- entering a part

-- what stays while names are bound
pub record SameBut (e g : Expansion) : Type 0 where
  pub forms : g.forms ≡ e.forms
  pub shared : g.shared ≡ e.shared
  pub nodes : g.nodes ≡ e.nodes
  pub first : g.first ≡ e.first

pub SameBut-Grows : (e g : Expansion) → SameBut e g → Grows e g
SameBut-Grows e g s = record {
  cells = subst (λ c. Extends e.forms c) (sym s.forms) (extends_same);
  shared = subst (λ c. AddsConstants e.shared c) (sym s.shared) (AddsConstants_refl e.shared);
  nodes = subst (λ c. Adds e.nodes.nodes c.nodes) (sym s.nodes) (Adds_refl e.nodes.nodes);
  spans = subst (λ c. Adds e.nodes.spans c.spans) (sym s.nodes) (Adds_refl e.nodes.spans);
  first = λ h. sym s.first ∙ h;
}

-- nothing is bound more
pub inside_none : (names : List (List ℕ)) (at outer : Around) (around : Scope) (last : List Name) (fresh : Fresh) → at ≡ outer → last ≡ [] → fresh.count ≡ 0 → IsScope names outer around
    → Inside names at outer around last fresh
inside_none names at outer around last fresh same none few scope = record {
  scope = subst (λ a. IsScope names a (within around last)) (sym same) (subst (λ l. IsScope names outer (within around l)) (sym none) scope);
  vars = ap vars_of same ∙ ap (λ n. numbered fresh.first n ++ vars_of outer) (sym few);
  count = ap length none ∙ ap (λ n. length (numbered fresh.first n)) (sym few);
  outside = ap (λ n. without n at) few ∙ same;
}

-- names are bound in the place of others
pub inside_bound : (texts : List (List ℕ)) (was mid scope outer : Around) (around : Scope) (last ns : List Name) (before fresh : Fresh) (ks names : List LocalName) → IsScope texts outer around
    → Inside texts was outer around last before → mid.locals ≡ drop before.count was.locals → mid.table ≡ was.table → AreNames texts ks ns → names ≡ ks
    → map (λ l. l.name) scope.locals ≡ names ++ map (λ l. l.name) mid.locals → map (λ l. l.var) scope.locals ≡ numbered fresh.first (length names) ++ map (λ l. l.var) mid.locals
    → drop (length names) scope.locals ≡ mid.locals → scope.table ≡ mid.table → fresh.count ≡ length ks → Inside texts scope outer around ns fresh
inside_bound texts was mid scope outer around last ns before fresh ks names s i locals table are is on_names on_vars rest same_table count = record {
  scope = record {
    locals = subst (λ l. AreNames texts l (ns ++ around.locals)) (sym all_names) (AreNames-append texts ks _ ns around.locals are s.locals);
    table = subst (λ t. IsTable texts t around.defined) (sym (same_table ∙ ap (λ a. a.table) here)) s.table;
  };
  vars = on_vars ∙ ap (λ l. numbered fresh.first (length l) ++ vars_of mid) is ∙ ap (λ n. numbered fresh.first n ++ vars_of mid) (sym count) ∙ ap (λ a. variables_of fresh ++ vars_of a) here;
  count = length-AreNames texts ks ns are ∙ sym count ∙ sym (length-numbered fresh.first fresh.count);
  outside = same_around (without fresh.count scope) outer (ap (λ n. drop n scope.locals) (count ∙ ap length (sym is)) ∙ rest ∙ ap (λ a. a.locals) here) (same_table ∙ ap (λ a. a.table) here);
}
  where
    here : mid ≡ outer
    here = same_around mid (without before.count was) locals table ∙ i.outside

    all_names : map (λ l. l.name) scope.locals ≡ ks ++ map (λ l. l.name) outer.locals
    all_names = on_names ∙ ap (λ l. l ++ map (λ l. l.name) mid.locals) is ∙ ap (λ a. ks ++ map (λ l. l.name) a.locals) here

-- the next part of an open form
record NextPart (names : List (List ℕ)) (cells : List Cell) (part : CodePart) (left : List CodePart) (o : Open) : Type 0 where
  now : Part
  rest : List Part
  after : o.after ≡ now ∷ rest
  is : IsPartBehind names cells o.last part now
  behind : AreParts names cells now.binds left rest

next_part : (names : List (List ℕ)) (cells : List Cell) (all left : List CodePart) (part : CodePart) (o : Open) → AreParts names cells o.last all o.after → all ≡ part ∷ left → NextPart names cells part left o
next_part names cells all left part o are is = by o.after refl are
  where
    by : (after : List Part) → o.after ≡ after → AreParts names cells o.last all after → NextPart names cells part left o
    by [] e a = let q : [] ≡ part ∷ left = sym a ∙ is in absurd (cc)
    by (p ∷ ps) e a =
        let q : a.0 ∷ a.1 ≡ part ∷ left = sym a.2 ∙ is in
        let same_part : a.0 ≡ part = cc in
        let same_left : a.1 ≡ left = cc in
        record {
          now = p;
          rest = ps;
          after = e;
          is = subst (λ c. IsPartBehind names cells o.last c p) same_part a.3;
          behind = subst (λ l. AreParts names cells p.binds l ps) same_left a.4;
        }

waits : (e : Expansion) (names : List (List ℕ)) (at : Around) (w : Frame) (o top : Open) (now : Part) (rest : List Part) (tail : Bool) → o.after ≡ now ∷ rest → AreParts e.shared.names e.forms now.binds w.left rest
    → Inside names at o.at o.around now.binds w.state.bound → top.at ≡ at → top.around ≡ within o.around now.binds → SameForm (within o.around now.binds) now.form top.form → tail ≡ w.state.part_tail
    → WaitsFor e w o top tail
waits e names at w o top now rest tail after left inside top_at top_around same tail_is = record {
  now = now;
  rest = rest;
  after = after;
  left = left;
  around = top_around;
  vars = ap vars_of top_at ∙ inside.vars;
  count = inside.count;
  outer = ap (without w.state.bound.count) top_at ∙ inside.outside;
  same = subst (λ s. SameForm s now.form top.form) (sym top_around) same;
  tail_is = tail_is;
}

-- what is left to be looked at, once the next part is open
tracked : (root : Root) (before after : Option Refusal) (o top : Open) (below : List Open) (now : Part) (rest : List Part) → o.after ≡ now ∷ rest → top.around ≡ within o.around now.binds
    → top.before ≡ [] → row top.around top.form ≡ node top.shape top.refusals (top.before ++ top.after) → SameForm (within o.around now.binds) now.form top.form
    → IsFirst before top.refusals after → Tracks root before (left_under o below) → Tracks root after (left_under top (o ∷ below))
tracked root before after o top below now rest are around none_yet is same first t = record {
  known = λ r e. known_by r (first.known r e);
  least = λ r h. least_by r (t.least r h);
  kept = λ r e. covered_more before after first.kept r (t.kept r e);
  stands = λ r l. stands_by r l;
}
  where
    inner : Scope
    inner = within o.around now.binds

    is_node : row top.around top.form ≡ node top.shape top.refusals top.after
    is_node = is ∙ ap (λ l. node top.shape top.refusals (l ++ top.after)) none_yet

    same_top : SameForm top.around now.form top.form
    same_top = subst (λ s. SameForm s now.form top.form) (sym around) same

    behind : drop 1 o.after ≡ rest
    behind = ap (drop 1) are

    in_now : (r : Refusal) → Refused top.around top.form r → Among o.around o.after r
    in_now r h = subst (λ l. Among o.around l r) (sym are) (first_part o.around now rest r (subst (λ s. Refused s now.form r) around (same_top.back r h)))

    in_rest : (r : Refusal) → Among o.around (drop 1 o.after) r → Among o.around o.after r
    in_rest r a = subst (λ l. Among o.around l r) (sym are) (later_part o.around now rest r (subst (λ l. Among o.around l r) behind a))

    known_by : (r : Refusal) → (before ≡ Some r) ⊎ Contains top.refusals r → (root.first ≡ Some r) ⊎ Refused root.around root.form r
    known_by r (inl e) = t.known r e
    known_by r (inr c) = inr (t.stands r (inl (in_now r (at_form top.around top.form r top.shape top.refusals top.after is_node c))))

    split : (r : Refusal) → Contains top.refusals r ⊎ Among top.around top.after r → IsCovered after r ⊎ left_under top (o ∷ below) r
    split r (inl c) = inl (first.least r c)
    split r (inr a) = inr (inl a)

    open_by : (r : Refusal) → Refused (within o.around now.binds) now.form r ⊎ Among o.around rest r → IsCovered after r ⊎ left_under top (o ∷ below) r
    open_by r (inl h) = split r (refused_node top.around top.form r top.shape top.refusals top.after is_node (same_top.into r (subst (λ s. Refused s now.form r) (sym around) h)))
    open_by r (inr a) = inr (inr (inl (subst (λ l. Among o.around l r) (sym behind) a)))

    least_by : (r : Refusal) → IsCovered before r ⊎ left_under o below r → IsCovered after r ⊎ left_under top (o ∷ below) r
    least_by r (inl c) = inl (covered_more before after first.kept r c)
    least_by r (inr (inl a)) = open_by r (part_cases o.around now rest r (subst (λ l. Among o.around l r) are a))
    least_by r (inr (inr b)) = inr (inr (inr b))

    stands_by : (r : Refusal) → left_under top (o ∷ below) r → Refused root.around root.form r
    stands_by r (inl a) = t.stands r (inl (in_now r (among_node top.around top.form r top.shape top.refusals top.after is_node a)))
    stands_by r (inr (inl a)) = t.stands r (inl (in_rest r a))
    stands_by r (inr (inr b)) = t.stands r (inr b)

-- a frame is open for its form as long as what is known of the node and the parts that are done are the same
waits_open : (e : Expansion) (f : Frame) (left : List CodePart) (bound : Fresh) (part_tail : Bool) (o : Open) → IsOpen e f o → IsOpen e (waiting (record f { left = left }) bound part_tail) o
waits_open e f left bound part_tail o i = record { scope = i.scope; row_is = i.row_is; span = i.span; shape = i.shape; refused = i.refused; made = i.made }

pub enters : (root : Root) (old mid new : Expansion) (others : List Frame) (f inner : Frame) (left : List CodePart) (part : CodePart) (bound : Fresh) (part_tail : Bool) → IsUnder root old f others
    → f.left ≡ part ∷ left → SameBut old mid
    → ((at : Around) (around : Scope) (last names : List Name) → IsScope old.shared.names at around → Inside old.shared.names old.scope at around last f.state.bound
    → AreBinds old.shared.names last part.binds names → Inside old.shared.names mid.scope at around names bound)
    → Grows mid new → new.scope ≡ mid.scope → inner.state.tail ≡ part_tail
    → ((d : Datum) (around : Scope) → Held mid.shared.names mid.forms part.form d → IsScope mid.shared.names mid.scope around → Opens mid new around d inner)
    → IsUnder root new inner (waiting (record f { left = left }) bound part_tail ∷ others)
enters root old mid new others f inner left part bound part_tail u first_is b binds grows scope_is tail_is opens =
    let o = u.top in
    let w = waiting (record f { left = left }) bound part_tail in
    let n = next_part old.shared.names old.forms f.left left part o u.left first_is in
    let held : Held mid.shared.names mid.forms part.form n.now.form =
    subst (λ c. Held mid.shared.names c part.form n.now.form) (sym b.forms) (subst (λ s. Held s.names old.forms part.form n.now.form) (sym b.shared) (n.is).1) in
    let inside = binds o.at o.around o.last n.now.binds u.opened.scope u.inside (n.is).0 in
    let scope : IsScope mid.shared.names mid.scope (within o.around n.now.binds) = subst (λ s. IsScope s.names mid.scope (within o.around n.now.binds)) (sym b.shared) inside.scope in
    let opened = opens n.now.form (within o.around n.now.binds) held scope in
    let top = opened.top in
    let wider : Grows old new = Grows_trans old mid new (SameBut-Grows old mid b) grows in
    let here : IsOpen new w o = waits_open new f left bound part_tail o (IsOpen-Grows old new wider f o u.opened) in
    let behind : AreParts new.shared.names new.forms n.now.binds left n.rest = AreParts-Grows old new wider n.now.binds left n.rest n.behind in
    record {
      top = top;
      below = o ∷ u.below;
      opened = opened.opened;
      left = subst (λ l. AreParts new.shared.names new.forms l inner.left top.after) (sym opened.last) opened.left;
      inside = inside_none new.shared.names new.scope top.at top.around top.last inner.state.bound (scope_is ∙ sym opened.at) opened.last opened.bound opened.opened.scope;
      stacked = (
        here,
        waits new old.shared.names mid.scope w o top n.now n.rest inner.state.tail n.after behind inside opened.at opened.around_is opened.same tail_is,
        Stacked-Grows old new wider root others o f.state.tail u.below u.stacked,
      );
      tracks = tracked root old.first new.first o top u.below n.now n.rest n.after opened.around_is opened.before opened.opened.row_is opened.same
          (subst (λ x. IsFirst x top.refusals new.first) b.first opened.first) u.tracks;
    }

-- the same, by what the calls tell
pub enters_opened : (root : Root) (old mid new : Expansion) (all before after others : List Frame) (f : Frame) (left : List CodePart) (part : CodePart) (h : NodeState) (bound : Fresh) (part_tail : Bool)
    → AllPairs (λ a b. a ≢ b) old.shared.names → all ≡ record f { left = left } ∷ others → f.left ≡ part ∷ left → IsUnder root old f others
    → Some h ≡ option_map (λ (g : Frame). g.state) (slice_get all 0) → SameBut old mid
    → ((at : Around) (around : Scope) (last names : List Name) → IsScope old.shared.names at around → Inside old.shared.names old.scope at around last h.bound
    → AreBinds old.shared.names last part.binds names → Inside old.shared.names mid.scope at around names bound)
    → ((g : Frame) (gs : List Frame) → all ≡ g ∷ gs → before ≡ waiting g bound part_tail ∷ gs)
    → Grows mid new → new.scope ≡ mid.scope → IsOpened mid new before after part.form part_tail → AreUnder root new after
enters_opened root old mid new all before after others f left part h bound part_tail distinct all_is first_is u state_is b binds waits_now grows scope_is opened =
    let same : h ≡ f.state = same_Some h f.state (state_is ∙ ap (λ l. option_map (λ (g : Frame). g.state) (slice_get l 0)) all_is) in
    let stack : after ≡ opened.frame ∷ waiting (record f { left = left }) bound part_tail ∷ others = opened.put ∙ ap (λ l. opened.frame ∷ l) (waits_now (record f { left = left }) others all_is) in
    subst (λ l. AreUnder root new l) (sym stack)
    (enters root old mid new others f opened.frame left part bound part_tail u first_is b
    (λ at around last names s i. binds at around last names s (subst (λ x. Inside old.shared.names old.scope at around last x.bound) (sym same) i)) grows scope_is opened.tail_is
    (λ d around held scope. opened.opens d around (subst (λ s. AllPairs (λ a b. a ≢ b) s.names) (sym b.shared) distinct) held scope))

-- ---- closing a node

-- no part is left
none_after : (names : List (List ℕ)) (cells : List Cell) (last : List Name) (left : List CodePart) (after : List Part) → left ≡ [] → AreParts names cells last left after → after ≡ []
none_after names cells last left [] none a = refl
none_after names cells last left (p ∷ ps) none a = let q : [] ≡ a.0 ∷ a.1 = sym none ∙ a.2 in absurd (cc)

closed_tracks : (root : Root) (first : Option Refusal) (top : Open) (below : List Open) → top.after ≡ [] → Tracks root first (left_under top below) → Tracks root first (Behind below)
closed_tracks root first top below none t = record {
  known = t.known;
  least = λ r h. by r (t.least r h);
  kept = t.kept;
  stands = λ r l. t.stands r (inr l);
}
  where
    by : (r : Refusal) → IsCovered first r ⊎ left_under top below r → IsCovered first r ⊎ Behind below r
    by r (inl c) = inl c
    by r (inr (inl a)) = absurd (among_none top.around r (subst (λ l. Among top.around l r) none a))
    by r (inr (inr b)) = inr b

-- the node of an open form is at a place, where nothing is refused
pub closes : (root : Root) (old new : Expansion) (f : Frame) (others : List Frame) (key : ℕ) → IsUnder root old f others → f.left ≡ [] → IsMade old new f.state f.done key → IsBack root new others key
closes root old new f others key u le made = record {
  top = o;
  tail = f.state.tail;
  below = u.below;
  scope = made.scope ∙ u.inside.outside;
  around = subst (λ n. IsScope n o.at o.around) (sym made.grows.shared.names) u.opened.scope;
  made = λ e. by e;
  stacked = Stacked-Grows old new made.grows root others o f.state.tail u.below u.stacked;
  tracks = subst (λ x. Tracks root x (Behind u.below)) (sym made.first) (closed_tracks root old.first o u.below none u.tracks);
}
  where
    o : Open
    o = u.top

    none : u.top.after ≡ []
    none = none_after old.shared.names old.forms u.top.last f.left u.top.after le u.left

    by : new.first ≡ None → Means new.shared new.nodes (vars_of u.top.at) u.top.around u.top.form f.state.tail key
    by e =
        let m = made.node e in
        let i : IsOpen new f u.top = IsOpen-Grows old new made.grows f u.top u.opened in
        let is : row u.top.around u.top.form ≡ node u.top.shape [] u.top.before =
        i.row_is ∙ ap (λ l. node u.top.shape l (u.top.before ++ u.top.after)) (i.refused e) ∙ ap (λ l. node u.top.shape [] (u.top.before ++ l)) none
        ∙ ap (λ l. node u.top.shape [] l) (append-nil u.top.before) in
        as_node (vars_of u.top.at) u.top.around u.top.form f.state.tail key u.top.shape u.top.before m.core is (placed old.nodes.nodes m.core new.nodes.nodes key m.at m.nodes)
        (placed old.nodes.spans f.state.span new.nodes.spans key m.span_at m.spans ∙ ap Some i.span) (m.fits (vars_of u.top.at) u.top.shape u.opened.shape)
        (subst (λ l. AllMean new.shared new.nodes (vars_of u.top.at) u.top.around u.top.before l) (sym m.parts) (i.made e))

-- the same, by what the calls tell
pub closes_made : (root : Root) (old new : Expansion) (all after : List Frame) (f : Frame) (others : List Frame) (h : NodeState) (done : List Done) (key : ℕ) → all ≡ f ∷ others → f.left ≡ []
    → Some h ≡ option_map (λ (g : Frame). g.state) (slice_get all 0) → done ≡ f.done → after ≡ others → IsMade old new h done key → AreUnder root old all → IsBack root new after key
closes_made root old new all after f others h done key all_is none state_is done_is after_is made u =
    let same : h ≡ f.state = same_Some h f.state (state_is ∙ ap (λ l. option_map (λ (g : Frame). g.state) (slice_get l 0)) all_is) in
    subst (λ l. IsBack root new l key) (sym after_is)
    (closes root old new f others key (subst (λ l. AreUnder root old l) all_is u) none
    (subst (λ l. IsMade old new f.state l key) done_is (subst (λ x. IsMade old new x done key) same made)))

-- ---- leaving a part

-- the open form with its next part done
abbrev advanced : Open → Part → List Part → Open
advanced o now rest = record { at = o.at; around = o.around; form = o.form; shape = o.shape; refusals = o.refusals; before = o.before ++ now ∷ []; last = now.binds; after = rest }

stacked_alike : (e : Expansion) (root : Root) (waiting : List Frame) (o p : Open) (tail : Bool) (os : List Open) → p.around ≡ o.around → p.at ≡ o.at → p.form ≡ o.form
    → Stacked e root waiting o tail os → Stacked e root waiting p tail os
stacked_alike e root [] o p tail [] around at form h = (around ∙ h.0, at ∙ h.1, subst (λ d. SameForm root.around root.form d) (sym form) h.2, h.3)
stacked_alike e root [] o p tail (q ∷ os) around at form h = absurd h
stacked_alike e root (w ∷ waiting) o p tail [] around at form h = absurd h
stacked_alike e root (w ∷ waiting) o p tail (q ∷ os) around at form h = (h.0, alike h.1, h.2)
  where
    alike : WaitsFor e w q o tail → WaitsFor e w q p tail
    alike x = record {
      now = x.now;
      rest = x.rest;
      after = x.after;
      left = x.left;
      around = around ∙ x.around;
      vars = ap vars_of at ∙ x.vars;
      count = x.count;
      outer = ap (without w.state.bound.count) at ∙ x.outer;
      same = subst (λ s. SameForm s x.now.form p.form) (sym around) (subst (λ d. SameForm o.around x.now.form d) (sym form) x.same);
      tail_is = x.tail_is;
    }

advanced_tracks : (root : Root) (first : Option Refusal) (o : Open) (now : Part) (rest : List Part) (below : List Open) → o.after ≡ now ∷ rest → Tracks root first (Behind (o ∷ below))
    → Tracks root first (left_under (advanced o now rest) below)
advanced_tracks root first o now rest below e t = record {
  known = t.known;
  least = λ r h. by r (t.least r h);
  kept = t.kept;
  stands = λ r l. t.stands r (from_ r l);
}
  where
    behind : drop 1 o.after ≡ rest
    behind = ap (drop 1) e

    by : (r : Refusal) → IsCovered first r ⊎ Behind (o ∷ below) r → IsCovered first r ⊎ left_under (advanced o now rest) below r
    by r (inl c) = inl c
    by r (inr (inl a)) = inr (inl (subst (λ l. Among o.around l r) behind a))
    by r (inr (inr b)) = inr (inr b)

    from_ : (r : Refusal) → left_under (advanced o now rest) below r → Behind (o ∷ below) r
    from_ r (inl a) = inl (subst (λ l. Among o.around l r) (sym behind) a)
    from_ r (inr b) = inr b

-- a part of the innermost open form that waits is done
done_part : (root : Root) (e : Expansion) (w : Frame) (front : List Frame) (key : ℕ) (d : Done) (top o : Open) (tail : Bool) (os : List Open) → e.scope ≡ top.at
    → IsScope e.shared.names top.at top.around → d ≡ record { at = key; vars = w.state.bound; tail = w.state.part_tail } → IsOpen e w o → WaitsFor e w o top tail
    → Stacked e root front o w.state.tail os → (e.first ≡ None → Means e.shared e.nodes (vars_of top.at) top.around top.form tail key) → Tracks root e.first (Behind (o ∷ os))
    → IsUnder root e (record w { done = w.done ++ d ∷ [] }) front
done_part root e w front key d top o tail os scope around is i waits stacked made t = record {
  top = advanced o waits.now waits.rest;
  below = os;
  opened = record {
    scope = i.scope;
    row_is = i.row_is ∙ ap (λ l. node o.shape o.refusals (o.before ++ l)) waits.after ∙ ap (λ l. node o.shape o.refusals l) (sym (append_assoc o.before (waits.now ∷ []) waits.rest));
    span = i.span;
    shape = i.shape;
    refused = i.refused;
    made = λ h. subst (λ l. AllMean e.shared e.nodes (vars_of o.at) o.around (o.before ++ waits.now ∷ []) l) (sym (map-append part_of w.done (d ∷ [])))
        (AllMean-push e.shared e.nodes (vars_of o.at) o.around waits.now (part_of d) (waits.count ∙ ap (λ x. length (variables_of x.vars)) (sym is)) (here h) o.before _ (i.made h));
  };
  left = waits.left;
  inside = record {
    scope = subst (λ a. IsScope e.shared.names a (within o.around waits.now.binds)) (sym scope) (subst (λ s. IsScope e.shared.names top.at s) waits.around around);
    vars = ap vars_of scope ∙ waits.vars;
    count = waits.count;
    outside = ap (without w.state.bound.count) scope ∙ waits.outer;
  };
  stacked = stacked_alike e root front o (advanced o waits.now waits.rest) w.state.tail os refl refl refl stacked;
  tracks = advanced_tracks root e.first o waits.now waits.rest os waits.after t;
}
  where
    here : e.first ≡ None → Means e.shared e.nodes ((part_of d).binds ++ vars_of o.at) (within o.around waits.now.binds) waits.now.form (part_of d).tail (part_of d).at
    here h =
        subst (λ x. Means e.shared e.nodes (variables_of x.vars ++ vars_of o.at) (within o.around waits.now.binds) waits.now.form x.tail x.at) (sym is)
        (subst (λ b. Means e.shared e.nodes (variables_of w.state.bound ++ vars_of o.at) (within o.around waits.now.binds) waits.now.form b key) waits.tail_is
        (subst (λ v. Means e.shared e.nodes v (within o.around waits.now.binds) waits.now.form tail key) waits.vars
        (subst (λ s. Means e.shared e.nodes (vars_of top.at) s waits.now.form tail key) waits.around (waits.same.means e.shared e.nodes (vars_of top.at) tail key (made h)))))

pub leaves : (root : Root) (e : Expansion) (w : Frame) (front : List Frame) (key : ℕ) (d : Done) → d ≡ record { at = key; vars = w.state.bound; tail = w.state.part_tail } → IsBack root e (w ∷ front) key
    → IsUnder root e (record w { done = w.done ++ d ∷ [] }) front
leaves root e w front key d is b = by b.below b.stacked b.tracks
  where
    by : (os : List Open) → Stacked e root (w ∷ front) b.top b.tail os → Tracks root e.first (Behind os) → IsUnder root e (record w { done = w.done ++ d ∷ [] }) front
    by [] s t = absurd s
    by (o ∷ os) s t = done_part root e w front key d b.top o b.tail os b.scope b.around is s.0 s.1 s.2 b.made t

-- nothing waits
pub ends : (root : Root) (e : Expansion) (key : ℕ) → IsBack root e [] key → IsEnd root e key
ends root e key b = by b.below b.stacked b.tracks
  where
    covered : (r : Refusal) → IsCovered e.first r ⊎ ⊥ → IsCovered e.first r
    covered r (inl c) = c
    covered r (inr h) = absurd h

    by : (os : List Open) → Stacked e root [] b.top b.tail os → Tracks root e.first (Behind os) → IsEnd root e key
    by [] s t = record {
      scope = b.scope ∙ s.1;
      made = λ h. s.2.means e.shared e.nodes (vars_of root.at) false key
          (subst (λ x. Means e.shared e.nodes (vars_of root.at) root.around b.top.form x key) s.3
          (subst (λ x. Means e.shared e.nodes (vars_of root.at) x b.top.form b.tail key) s.0
          (subst (λ x. Means e.shared e.nodes (vars_of x) b.top.around b.top.form b.tail key) s.1 (b.made h))));
      known = t.known;
      least = λ r h. covered r (t.least r h);
      kept = t.kept;
    }
    by (o ∷ os) s t = absurd s

-- ---- the root

pub begins : (root : Root) (old new : Expansion) (f : Frame) → Opens old new root.around root.form f → new.scope ≡ old.scope → old.scope ≡ root.at → old.first ≡ root.first → f.state.tail ≡ false
    → IsUnder root new f []
begins root old new f opens scope at first tail =
    let top = opens.top in
    let same : SameForm top.around root.form top.form = subst (λ s. SameForm s root.form top.form) (sym opens.around_is) opens.same in
    let is : row top.around top.form ≡ node top.shape top.refusals top.after = opens.opened.row_is ∙ ap (λ l. node top.shape top.refusals (l ++ top.after)) opens.before in
    record {
      top = top;
      below = [];
      opened = opens.opened;
      left = subst (λ l. AreParts new.shared.names new.forms l f.left top.after) (sym opens.last) opens.left;
      inside = inside_none new.shared.names new.scope top.at top.around top.last f.state.bound (scope ∙ sym opens.at) opens.last opens.bound opens.opened.scope;
      stacked = (opens.around_is, opens.at ∙ at, opens.same, tail);
      tracks = record {
        known = λ r e. known_by r (opens.first.known r e);
        least = λ r h. least_by r (refused_node top.around top.form r top.shape top.refusals top.after is (same.into r (subst (λ s. Refused s root.form r) (sym opens.around_is) h)));
        kept = λ r e. opens.first.kept r (first ∙ e);
        stands = λ r l. stands_by r l;
      };
    }
  where
    o : Open
    o = opens.top

    is_node : row o.around o.form ≡ node o.shape o.refusals o.after
    is_node = opens.opened.row_is ∙ ap (λ l. node o.shape o.refusals (l ++ o.after)) opens.before

    outside : (r : Refusal) → Refused o.around o.form r → Refused root.around root.form r
    outside r h = opens.same.back r (subst (λ s. Refused s o.form r) opens.around_is h)

    known_by : (r : Refusal) → (old.first ≡ Some r) ⊎ Contains o.refusals r → (root.first ≡ Some r) ⊎ Refused root.around root.form r
    known_by r (inl e) = inl (sym first ∙ e)
    known_by r (inr c) = inr (outside r (at_form o.around o.form r o.shape o.refusals o.after is_node c))

    least_by : (r : Refusal) → Contains o.refusals r ⊎ Among o.around o.after r → IsCovered new.first r ⊎ left_under o [] r
    least_by r (inl c) = inl (opens.first.least r c)
    least_by r (inr a) = inr (inl a)

    stands_by : (r : Refusal) → left_under o [] r → Refused root.around root.form r
    stands_by r (inl a) = outside r (among_node o.around o.form r o.shape o.refusals o.after is_node a)
    stands_by r (inr h) = absurd h
