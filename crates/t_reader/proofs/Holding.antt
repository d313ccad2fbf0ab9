-- What nodes stand for stays as nodes and names are added.
use Rattle.std.proofs.Common.{◌≡◌, ℕ, zero, suc, ◌<◌, Bool, true, false, cond, List, [], ◌∷◌, ◌++◌, length, Some, refl, sym, subst}
use Rattle.std.specs.Prelude.{slice_get, codes}
use Rattle.std.proofs.lemmas.Option.{slice_get_within}
use Rattle.t_base.specs.declared.basics.Span.{Span}
use Rattle.std.specs.List.{list_any}
use Rattle.std.specs.Str.{bytes_eq}
use Rattle.t_base.specs.Texts.{with_text}
use Rattle.t_reader.specs.declared.build.Frame.{Frame}
use Rattle.t_reader.specs.declared.build.Build.{Build}
use Rattle.t_reader.specs.declared.unit.Datum.{Datum}
use Rattle.t_reader.specs.declared.unit.Datum.TheVariants as data_
use Rattle.t_reader.specs.declared.unit.Node.{Node}
use Rattle.t_reader.specs.Grammar.{Value, fix, char, nil, truth, string, symbol, Tree, leaf, pair, Forms, none, more, tree, Before, outside, in_list, after_dot, after_tail, after_mark}
use Rattle.t_reader.specs.Unit.{IsValue, node, Holds}
use Rattle.t_reader.specs.Build.{HoldAll, Stands, Grows, HasTree, quoted_as, AddsNode}

pub get-append : {A : Type 0} (xs ys : List A) (k : ℕ) (x : A) → slice_get xs k ≡ Some x → slice_get (xs ++ ys) k ≡ Some x
get-append [] ys k x e = cc
get-append (y ∷ xs) ys zero x e = e
get-append (y ∷ xs) ys (suc k) x e = get-append xs ys k x e

pub get-last : {A : Type 0} (xs : List A) (x : A) → slice_get (xs ++ x ∷ []) (length xs) ≡ Some x
get-last [] x = refl
get-last (y ∷ xs) x = get-last xs x

pub get-with_text : (ts : List (List ℕ)) (t : List ℕ) (k : ℕ) (x : List ℕ) → slice_get ts k ≡ Some x → slice_get (with_text ts t) k ≡ Some x
get-with_text ts t k x e =
    let P : Bool → Type 0 = λ b. slice_get (cond b ts (ts ++ t ∷ [])) k ≡ Some x in
    elim (list_any (bytes_eq t) ts) as P [ true ↦ e | false ↦ get-append ts (t ∷ []) k x e ]

-- the names and the nodes of one stay in the other
abbrev pub Stay : {A : Type 0} → List A → List A → Type 0
Stay {A} old new = (k : ℕ) (x : A) → slice_get old k ≡ Some x → slice_get new k ≡ Some x

pub IsValue-grows : (names names' : List (List ℕ)) → Stay names names' → (d : Datum) (v : Value) → IsValue names d v → IsValue names' d v
IsValue-grows names names' g d (fix z) h = h
IsValue-grows names names' g d (char c) h = h
IsValue-grows names names' g d nil h = h
IsValue-grows names names' g d truth h = h
IsValue-grows names names' g d (string bytes) h = h
IsValue-grows names names' g d (symbol bytes) h = (h.0, h.1, g h.0.0 bytes h.2)

pub Holds-grows : (names names' : List (List ℕ)) (nodes nodes' : List Node) → Stay names names' → Stay nodes nodes' → (key : ℕ) (t : Tree) → Holds names nodes key t → Holds names' nodes' key t
Holds-grows names names' nodes nodes' g m key (leaf s v) h = (h.0, m key _ h.1, IsValue-grows names names' g h.0 v h.2)
Holds-grows names names' nodes nodes' g m key (pair s x y) h =
    (h.0, h.1, m key _ h.2, h.3, h.4, Holds-grows names names' nodes nodes' g m h.0 x h.5, Holds-grows names names' nodes nodes' g m h.1 y h.6)

pub HoldAll-grows : (text : List ℕ) (names names' : List (List ℕ)) (nodes nodes' : List Node) → Stay names names' → Stay nodes nodes' → (keys : List ℕ) (fs : Forms) → HoldAll text names nodes keys fs → HoldAll text names' nodes' keys fs
HoldAll-grows text names names' nodes nodes' g m keys none h = h
HoldAll-grows text names names' nodes nodes' g m keys (more fs f) h =
    (h.0, h.1, h.2, HoldAll-grows text names names' nodes nodes' g m h.0 fs h.3, Holds-grows names names' nodes nodes' g m h.1 (tree text f) h.4)

pub Stands-grows : (text : List ℕ) (names names' : List (List ℕ)) (nodes nodes' : List Node) → Stay names names' → Stay nodes nodes' → (b : Before) (items : List ℕ) (frames : List Frame) → Stands text names nodes b items frames → Stands text names' nodes' b items frames
Stands-grows text names names' nodes nodes' g m (outside fs) items frames h = (h.0, HoldAll-grows text names names' nodes nodes' g m items fs h.1)
Stands-grows text names names' nodes nodes' g m (in_list b o fs) items frames h =
    record { below = h.below; mine = h.mine; lower = h.lower; items_are = h.items_are; frames_are = h.frames_are; outer_stands = Stands-grows text names names' nodes nodes' g m b h.below h.lower h.outer_stands; own_stand = HoldAll-grows text names names' nodes nodes' g m h.mine fs h.own_stand }
Stands-grows text names names' nodes nodes' g m (after_dot b o fs f d) items frames h =
    record { below = h.below; mine = h.mine; lower = h.lower; items_are = h.items_are; frames_are = h.frames_are; outer_stands = Stands-grows text names names' nodes nodes' g m b h.below h.lower h.outer_stands; own_stand = HoldAll-grows text names names' nodes nodes' g m h.mine (more fs f) h.own_stand }
Stands-grows text names names' nodes nodes' g m (after_tail b o fs f d t) items frames h =
    record { below = h.below; mine = h.mine; lower = h.lower; items_are = h.items_are; frames_are = h.frames_are; outer_stands = Stands-grows text names names' nodes nodes' g m b h.below h.lower h.outer_stands; own_stand = HoldAll-grows text names names' nodes nodes' g m h.mine (more (more fs f) t) h.own_stand }
Stands-grows text names names' nodes nodes' g m (after_mark b k) items frames h =
    record { lower = h.lower; word_node = h.word_node; frames_are = h.frames_are; outer_stands = Stands-grows text names names' nodes nodes' g m b items h.lower h.outer_stands; word_is = Holds-grows names names' nodes nodes' g m h.word_node (leaf k (symbol (codes "quote"))) h.word_is }

pub Holds-within : (names : List (List ℕ)) (nodes : List Node) (key : ℕ) (t : Tree) → Holds names nodes key t → key < length nodes
Holds-within names nodes key (leaf s v) h = slice_get_within nodes key _ h.1
Holds-within names nodes key (pair s x y) h = slice_get_within nodes key _ h.2

-- a node that is added
pub Holds-push : (names : List (List ℕ)) (nodes : List Node) (n : Node) (key : ℕ) (t : Tree) → Holds names nodes key t → Holds names (nodes ++ n ∷ []) key t
Holds-push names nodes n key t h = Holds-grows names names nodes (nodes ++ n ∷ []) (λ k x e. e) (λ k x e. get-append nodes (n ∷ []) k x e) key t h

pub Holds-pair : (names : List (List ℕ)) (nodes : List Node) (s : Span) (i j : ℕ) (x y : Tree) → Holds names nodes i x → Holds names nodes j y → Holds names (nodes ++ node s (data_.Pair i j) ∷ []) (length nodes) (pair s x y)
Holds-pair names nodes s i j x y h g =
    (i, j, get-last nodes (node s (data_.Pair i j)), Holds-within names nodes i x h, Holds-within names nodes j y g, Holds-push names nodes _ i x h, Holds-push names nodes _ j y g)

pub Holds-leaf : (names : List (List ℕ)) (nodes : List Node) (s : Span) (d : Datum) (v : Value) → IsValue names d v → Holds names (nodes ++ node s d ∷ []) (length nodes) (leaf s v)
Holds-leaf names nodes s d v h = (d, get-last nodes (node s d), h)

pub Holds-same : (names names' : List (List ℕ)) (nodes nodes' : List Node) (key key' : ℕ) (t : Tree) → names' ≡ names → nodes' ≡ nodes → key' ≡ key → Holds names nodes key t → Holds names' nodes' key' t
Holds-same names names' nodes nodes' key key' t n m k h =
    let P : List (List ℕ) → Type 0 = λ v. Holds v nodes key t in
    let Q : List Node → Type 0 = λ v. Holds names' v key t in
    let R : ℕ → Type 0 = λ v. Holds names' nodes' v t in
    subst R (sym k) (subst Q (sym m) (subst P (sym n) h))

pub HasTree-pair : (old new : Build) (key : ℕ) (s : Span) (i j : ℕ) (x y : Tree) → AddsNode old new key s (data_.Pair i j) → HasTree old i x → HasTree old j y → HasTree new key (pair s x y)
HasTree-pair old new key s i j x y a h g =
    Holds-same old.names new.names (old.nodes.items ++ node s (data_.Pair i j) ∷ []) new.nodes.items (length old.nodes.items) key (pair s x y)
    a.rest_same.names_same a.nodes_are a.place (Holds-pair old.names old.nodes.items s i j x y h g)

pub HasTree-leaf : (old new : Build) (key : ℕ) (s : Span) (d : Datum) (v : Value) → AddsNode old new key s d → IsValue old.names d v → HasTree new key (leaf s v)
HasTree-leaf old new key s d v a h =
    rw (a.place, a.nodes_are, a.rest_same.names_same) (Holds-leaf old.names old.nodes.items s d v h)

pub HasTree-adds : (old new : Build) (key : ℕ) (s : Span) (d : Datum) (k : ℕ) (t : Tree) → AddsNode old new key s d → HasTree old k t → HasTree new k t
HasTree-adds old new key s d k t a h = rw (a.nodes_are, a.rest_same.names_same) (Holds-push old.names old.nodes.items (node s d) k t h)

-- the three nodes of (w t)
pub HasTree-quoted : (b0 b1 b2 b3 : Build) (k1 k2 k3 word node_ : ℕ) (s : Span) (w t : Tree) → AddsNode b0 b1 k1 s data_.Nil → AddsNode b1 b2 k2 s (data_.Pair node_ k1) → AddsNode b2 b3 k3 s (data_.Pair word k2) → HasTree b0 word w → HasTree b0 node_ t → HasTree b3 k3 (quoted_as s w t)
HasTree-quoted b0 b1 b2 b3 k1 k2 k3 word node_ s w t a b c hw ht =
    let end : HasTree b1 k1 (leaf s nil) = HasTree-leaf b0 b1 k1 s data_.Nil nil a refl in
    let mid : HasTree b2 k2 (pair s t (leaf s nil)) = HasTree-pair b1 b2 k2 s node_ k1 t (leaf s nil) b (HasTree-adds b0 b1 k1 s data_.Nil node_ t a ht) end in
    HasTree-pair b2 b3 k3 s word k2 w (pair s t (leaf s nil)) c
    (HasTree-adds b1 b2 k2 s (data_.Pair node_ k1) word w b (HasTree-adds b0 b1 k1 s data_.Nil word w a hw)) mid

pub AddsNode-grows : (old new : Build) (key : ℕ) (s : Span) (d : Datum) → AddsNode old new key s d → Grows old new
AddsNode-grows old new key s d a =
    record {
      names_stay = λ k x e. rw a.rest_same.names_same e;
      nodes_stay = λ k x e. rw a.nodes_are (get-append old.nodes.items (node s d ∷ []) k x e);
    }
