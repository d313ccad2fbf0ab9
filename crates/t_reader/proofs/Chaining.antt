-- The pairs of a list, from its last item to its first.
use Rattle.std.proofs.Common.{◌≡◌, ℕ, ◌-◌, ◌<◌, ◌≤◌, List, [], ◌∷◌, ◌++◌, length, take, Some, refl, sym, ap, subst, ◌∙◌, arith, append_assoc, rules}
use Rattle.std.proofs.lemmas.List.{length-append, take_at}
use Rattle.std.specs.Prelude.{slice_get}
use Rattle.t_base.specs.declared.basics.Span.{Span}
use Rattle.t_reader.specs.declared.build.Build.{Build}
use Rattle.t_reader.specs.declared.unit.Datum.TheVariants as data_
use Rattle.t_reader.specs.Grammar.{Tree, Forms, none, more, tree, chain, pair}
use Rattle.t_reader.specs.Build.{HoldAll, HasTree, Chains, AddsNode}
use Rattle.t_reader.proofs.Holding.{get-last, HasTree-pair, HoldAll-grows, AddsNode-grows}

len-snoc : {A : Type 0} (xs : List A) (x : A) → length (xs ++ x ∷ []) - 1 ≡ length xs
len-snoc xs x = omega (arith, length-append xs (x ∷ []))

last-of : {A : Type 0} (xs : List A) (x : A) → slice_get (xs ++ x ∷ []) (length (xs ++ x ∷ []) - 1) ≡ Some x
last-of xs x = rw (len-snoc xs x) (get-last xs x)

front-of : {A : Type 0} (xs : List A) (x : A) → take (length (xs ++ x ∷ []) - 1) (xs ++ x ∷ []) ≡ xs
front-of xs x = rw (len-snoc xs x) (take_at xs (x ∷ []) (length xs) refl)

some_same : {A : Type 0} (x y : A) → Some x ≡ Some y → x ≡ y
some_same x y e = cc

pub snoc_parts : {A : Type 0} (xs ys : List A) (x y : A) → xs ++ x ∷ [] ≡ ys ++ y ∷ [] → (xs ≡ ys) × (x ≡ y)
snoc_parts {A} xs ys x y e = (
  sym (front-of xs x) ∙ ap (λ (l : List A). take (length l - 1) l) e ∙ front-of ys y,
  some_same x y (sym (last-of xs x) ∙ ap (λ (l : List A). slice_get l (length l - 1)) e ∙ last-of ys y),
)

-- a pair of the last item and what stands behind it
pub chains_step : (text : List ℕ) (s : Span) (below : List ℕ) (first : ℕ) (t : Tree) (old new : Build) (key key' : ℕ) (head : ℕ) (popped : List ℕ)
    → first < length old.items.items → old.items.items ≡ popped ++ head ∷ [] → new.items.items ≡ popped
    → (mid : Build) → mid.names ≡ old.names → mid.nodes.items ≡ old.nodes.items → AddsNode mid new key' s (data_.Pair head key)
    → (mine : List ℕ) (fs : Forms) (last : Tree) → length below ≡ first → old.items.items ≡ below ++ mine → HoldAll text old.names old.nodes.items mine fs → HasTree old key last → chain text s fs last ≡ t
    → Chains text s below first t new key'
chains_step text s below first t old new key key' head popped more_ items new_items mid names nodes adds mine none last f own h l e =
    absurd (omega (arith, ap length own, ap (λ m. length (below ++ m)) h, length-append below []))
chains_step text s below first t old new key key' head popped more_ items new_items mid names nodes adds mine (more fs g) last f own h l e =
    let parts = snoc_parts popped (below ++ h.0) head h.1 (sym items ∙ own ∙ ap (λ m. below ++ m) h.2 ∙ sym (append_assoc below h.0 (h.1 ∷ []))) in
    let H : ℕ → Type 0 = λ k. HasTree mid k (tree text g) in
    let head_held : HasTree mid head (tree text g) = subst H (sym parts.1) (rw (names, nodes) h.4) in
    let tail_held : HasTree mid key last = rw (names, nodes) l in
    let g' = AddsNode-grows mid new key' s (data_.Pair head key) adds in
    record {
      mine = h.0;
      forms = fs;
      last = pair s (tree text g) last;
      first_is = f;
      items_are = new_items ∙ parts.0;
      items_hold = HoldAll-grows text mid.names new.names mid.nodes.items new.nodes.items g'.names_stay g'.nodes_stay h.0 fs (rw (names, nodes) h.3);
      last_held = HasTree-pair mid new key' s head key (tree text g) last adds head_held tail_held;
      tree_is = e;
    }

-- with no item left the tree is made
pub chains_end : (text : List ℕ) (s : Span) (below : List ℕ) (first : ℕ) (t : Tree) (build : Build) (key : ℕ)
    → length build.items.items ≤ first
    → (mine : List ℕ) (fs : Forms) (last : Tree) → length below ≡ first → build.items.items ≡ below ++ mine → HoldAll text build.names build.nodes.items mine fs → HasTree build key last → chain text s fs last ≡ t
    → HasTree build key t × (build.items.items ≡ below)
chains_end text s below first t build key few mine none last f own h l e =
    let P : Tree → Type 0 = λ u. HasTree build key u in
    (subst P e l, own ∙ ap (λ m. below ++ m) h ∙ omega_nil below)
  where
    omega_nil : (xs : List ℕ) → xs ++ [] ≡ xs
    omega_nil xs = search rules
chains_end text s below first t build key few mine (more fs g) last f own h l e =
    absurd (omega (arith, ap length own, ap (λ m. length (below ++ m)) h.2, length-append below (h.0 ++ h.1 ∷ []), length-append h.0 (h.1 ∷ [])))
