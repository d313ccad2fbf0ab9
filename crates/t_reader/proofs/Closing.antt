-- A list that ends.
use Rattle.std.proofs.Common.{◌≡◌, ℕ, ◌<◌, List, [], ◌∷◌, ◌++◌, length, refl, sym, ap, subst, ◌∙◌, arith, append_assoc}
use Rattle.std.proofs.lemmas.List.{length-append}
use Rattle.t_base.specs.declared.basics.Span.{Span}
use Rattle.t_reader.specs.declared.build.Build.{Build}
use Rattle.t_reader.specs.declared.unit.Datum.TheVariants as data_
use Rattle.t_reader.specs.Grammar.{Tree, leaf, nil, pair, span_of, Form, Forms, none, more, listed, dotted, tree, chain, to, Before, TakesDatum, IsSound}
use Rattle.t_reader.specs.Steps.{put}
use Rattle.t_reader.specs.Build.{HoldAll, HasTree, Stands, Chains, AddsNode, Grows, Delivers}
use Rattle.t_reader.proofs.Holding.{HasTree-leaf, HoldAll-grows, Stands-grows, AddsNode-grows}
use Rattle.t_reader.proofs.Chaining.{snoc_parts}
use Rattle.t_reader.proofs.Delivering.{same_stands}

-- a chain has the span of the pairs, or of what stands behind the last item
chain-span : (text : List ℕ) (s : Span) (fs : Forms) (t : Tree) → span_of t ≡ s → span_of (chain text s fs t) ≡ s
chain-span text s none t e = e
chain-span text s (more fs f) t e = chain-span text s fs (pair s (tree text f) t) refl

-- the items of a list that is closed, with the Nil behind them
pub nil_chains : (text : List ℕ) (o c s : Span) (below mine : List ℕ) (first : ℕ) (fs : Forms) (old new : Build) (key : ℕ)
    → AddsNode old new key s data_.Nil → s ≡ to o c → length below ≡ first → old.items.items ≡ below ++ mine → HoldAll text old.names old.nodes.items mine fs
    → Chains text s below first (tree text (listed o fs c)) new key
nil_chains text o c s below mine first fs old new key n e f own h =
    let g = AddsNode-grows old new key s data_.Nil n in
    record {
      mine = mine;
      forms = fs;
      last = leaf s nil;
      first_is = f;
      items_are = n.rest_same.items_same ∙ own;
      items_hold = HoldAll-grows text old.names new.names old.nodes.items new.nodes.items g.names_stay g.nodes_stay mine fs h;
      last_held = HasTree-leaf old new key s data_.Nil nil n refl;
      tree_is = ap (λ (v : Span). chain text v fs (leaf v nil)) e;
    }

-- the list is a datum that has ended
pub list_delivers : (text : List ℕ) (o c : Span) (fs : Forms) (b : Before) (below : List ℕ) (old new : Build) (key end : ℕ)
    → Grows old new → new.items.items ≡ below → new.frames.items ≡ old.frames.items → HasTree new key (tree text (listed o fs c))
    → Stands text old.names old.nodes.items b below old.frames.items → TakesDatum b → IsSound b → end ≡ (to o c).end
    → Delivers text (put b (listed o fs c)) new key end
list_delivers text o c fs b below old new key end g i f h r t s e =
    record {
      before = b;
      form = listed o fs c;
      reached = same_stands text new.names new.names new.nodes.items new.nodes.items below new.items.items old.frames.items new.frames.items b refl refl i f
          (Stands-grows text old.names new.names old.nodes.items new.nodes.items g.names_stay g.nodes_stay b below old.frames.items r);
      takes = t;
      sound = s;
      held = h;
      end_is = ap (λ (v : Span). v.end) (chain-span text (to o c) fs (leaf (to o c) nil) refl) ∙ sym e;
      leads = refl;
    }

pub grows_on : (b0 b1 b2 : Build) → Grows b0 b1 → Grows b1 b2 → Grows b0 b2
grows_on b0 b1 b2 g h = record { names_stay = λ k x e. h.names_stay k x (g.names_stay k x e); nodes_stay = λ k x e. h.nodes_stay k x (g.nodes_stay k x e) }

-- the items of a dotted list, with the one behind the dot
pub dotted_chains : (text : List ℕ) (o d c s : Span) (below mine popped : List ℕ) (first last : ℕ) (fs : Forms) (g t : Form) (old new : Build)
    → new.names ≡ old.names → new.nodes.items ≡ old.nodes.items → new.items.items ≡ popped → old.items.items ≡ popped ++ last ∷ []
    → s ≡ to o c → length below ≡ first → old.items.items ≡ below ++ mine → HoldAll text old.names old.nodes.items mine (more (more fs g) t)
    → Chains text s below first (tree text (dotted o fs g d t c)) new last
dotted_chains text o d c s below mine popped first last fs g t old new names nodes items own e f all h =
    let parts = snoc_parts popped (below ++ h.0) last h.1 (sym own ∙ all ∙ ap (λ m. below ++ m) h.2 ∙ sym (append_assoc below h.0 (h.1 ∷ []))) in
    let H : ℕ → Type 0 = λ k. HasTree new k (tree text t) in
    record {
      mine = h.0;
      forms = more fs g;
      last = tree text t;
      first_is = f;
      items_are = items ∙ parts.0;
      items_hold = HoldAll-grows text old.names new.names old.nodes.items new.nodes.items (λ k x z. rw names z) (λ k x z. rw nodes z) h.0 (more fs g) h.3;
      last_held = subst H (sym parts.1) (rw (names, nodes) h.4);
      tree_is = ap (λ (v : Span). chain text v (more fs g) (tree text t)) e;
    }

pub dotted_delivers : (text : List ℕ) (o d c : Span) (fs : Forms) (g t : Form) (b : Before) (below : List ℕ) (old new : Build) (key end : ℕ)
    → Grows old new → new.items.items ≡ below → new.frames.items ≡ old.frames.items → HasTree new key (tree text (dotted o fs g d t c))
    → Stands text old.names old.nodes.items b below old.frames.items → TakesDatum b → IsSound b → end ≡ (to o c).end
    → Delivers text (put b (dotted o fs g d t c)) new key end
dotted_delivers text o d c fs g t b below old new key end gr i f h r ta s e =
    record {
      before = b;
      form = dotted o fs g d t c;
      reached = same_stands text new.names new.names new.nodes.items new.nodes.items below new.items.items old.frames.items new.frames.items b refl refl i f
          (Stands-grows text old.names new.names old.nodes.items new.nodes.items gr.names_stay gr.nodes_stay b below old.frames.items r);
      takes = ta;
      sound = s;
      held = h;
      end_is = ap (λ (v : Span). v.end) (chain-span text (to o c) fs (pair (to o c) (tree text g) (tree text t)) refl) ∙ sym e;
      leads = refl;
    }

-- a list that isn't empty has an item to pop
pub not_none : (below mine : List ℕ) (text : List ℕ) (fs : Forms) (t : Form) (build : Build) → build.items.items ≡ below ++ mine → HoldAll text build.names build.nodes.items mine (more fs t) → 0 < length build.items.items
not_none below mine text fs t build e h =
    omega (arith, ap length e, ap (λ m. length (below ++ m)) h.2, length-append below (h.0 ++ h.1 ∷ []), length-append h.0 (h.1 ∷ []))
