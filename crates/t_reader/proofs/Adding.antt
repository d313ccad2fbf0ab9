-- An atom or a quote mark that is added.
use Rattle.std.proofs.Common.{◌≡◌, ℕ, List, [], ◌∷◌, ◌++◌, refl, sym, subst}
use Rattle.std.specs.Prelude.{codes, slice_range}
use Rattle.t_base.specs.declared.basics.Span.{Span}
use Rattle.t_reader.specs.declared.build.Frame.TheVariants as frame
use Rattle.t_reader.specs.declared.build.Build.{Build}
use Rattle.t_reader.specs.declared.unit.Datum.{Datum}
use Rattle.t_reader.specs.declared.token.Atom.{Atom}
use Rattle.t_reader.specs.Grammar.{symbol, atom_value, leaf, single, Before, after_mark, TakesDatum, IsSound}
use Rattle.t_reader.specs.Steps.{put}
use Rattle.t_reader.specs.Unit.{IsValue}
use Rattle.t_reader.specs.Build.{Grows, KeepsNodes, AddsNode, Reached, Delivers, HasTree}
use Rattle.t_reader.proofs.Holding.{Stands-grows, HasTree-leaf, AddsNode-grows}
use Rattle.t_reader.proofs.Delivering.{same_stands}

-- what stands stays as names and nodes are added
pub kept : (text : List ℕ) (b : Before) (old new : Build) → Grows old new → new.items.items ≡ old.items.items → new.frames.items ≡ old.frames.items → Reached text b old → Reached text b new
kept text b old new g i f r =
    same_stands text new.names new.names new.nodes.items new.nodes.items old.items.items new.items.items old.frames.items new.frames.items b refl refl i f
    (Stands-grows text old.names new.names old.nodes.items new.nodes.items g.names_stay g.nodes_stay b old.items.items old.frames.items r)

-- the node of a datum of one token
pub atom_delivers : (text : List ℕ) (b : Before) (b0 b1 b2 : Build) (key : ℕ) (a : Atom) (s : Span) (d : Datum) (bytes : List ℕ)
    → Grows b0 b1 → KeepsNodes b0 b1 → IsValue b1.names d (atom_value bytes a) → AddsNode b1 b2 key s d
    → Reached text b b0 → TakesDatum b → IsSound b → slice_range text s.start s.end ≡ bytes
    → Delivers text (put b (single a s)) b2 key s.end
atom_delivers text b b0 b1 b2 key a s d bytes g k v n r t h e =
    let r1 : Reached text b b1 = kept text b b0 b1 g k.items_same k.frames_same r in
    let r2 : Reached text b b2 = kept text b b1 b2 (AddsNode-grows b1 b2 key s d n) n.rest_same.items_same n.rest_same.frames_same r1 in
    let P : List ℕ → Type 0 = λ bs. HasTree b2 key (leaf s (atom_value bs a)) in
    record { before = b; form = single a s; reached = r2; takes = t; sound = h; held = subst P (sym e) (HasTree-leaf b1 b2 key s d (atom_value bytes a) n v); end_is = refl; leads = refl }

-- the symbol of a quote mark, and its frame
pub waits : (text : List ℕ) (b : Before) (b0 b1 b2 b3 : Build) (key : ℕ) (s : Span) (d : Datum)
    → Grows b0 b1 → KeepsNodes b0 b1 → IsValue b1.names d (symbol (codes "quote")) → AddsNode b1 b2 key s d
    → b3.names ≡ b2.names → b3.nodes.items ≡ b2.nodes.items → b3.items.items ≡ b2.items.items → b3.frames.items ≡ b2.frames.items ++ frame.Quote s key ∷ []
    → Reached text b b0 → Reached text (after_mark b s) b3
waits text b b0 b1 b2 b3 key s d g k v n names nodes items frames r =
    let r1 : Reached text b b1 = kept text b b0 b1 g k.items_same k.frames_same r in
    let r2 : Reached text b b2 = kept text b b1 b2 (AddsNode-grows b1 b2 key s d n) n.rest_same.items_same n.rest_same.frames_same r1 in
    record {
      lower = b2.frames.items;
      word_node = key;
      frames_are = frames;
      outer_stands = same_stands text b2.names b3.names b2.nodes.items b3.nodes.items b2.items.items b3.items.items b2.frames.items b2.frames.items b names nodes items refl r2;
      word_is = rw (names, nodes) (HasTree-leaf b1 b2 key s d (symbol (codes "quote")) n v);
    }
