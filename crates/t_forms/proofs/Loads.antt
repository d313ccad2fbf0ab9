-- How the cells of a text's nodes are made, one by one.
use Rattle.std.proofs.Common.{◌≡◌, inl, inr, ℕ, ◌+◌, ◌<◌, List, [], ◌∷◌, length, map, slice_get, Some, sym, subst, ◌∙◌, arith}
use Rattle.std.proofs.lemmas.Bool.{cases_order}
use Rattle.std.proofs.lemmas.Option.{slice_get_within}
use Rattle.t_base.specs.declared.basics.Span.{Span}
use Rattle.t_reader.specs.Grammar.{Tree, leaf, pair, Value}
use Rattle.t_reader.specs.Unit.{Holds, HoldTrees, IsValue, node as read}
use Rattle.t_reader.specs.declared.unit.Datum.{Datum as NodeDatum}
use Rattle.t_reader.specs.declared.unit.Datum.TheVariants.{Pair}
use Rattle.t_reader.specs.declared.unit.Node.{Node}
use Rattle.t_forms.specs.declared.arena.Cell.{Cell}
use Rattle.t_forms.specs.Data.{Datum, given, atom, cons, datum_of}
use Rattle.t_forms.specs.Held.{Held, AllHeld, Extends}
use Rattle.t_forms.proofs.Keeping.{held_grows}

pub holds_within : (names : List (List ℕ)) (nodes : List Node) (k : ℕ) (t : Tree) → Holds names nodes k t → k < length nodes
holds_within names nodes k (leaf s v) h = slice_get_within nodes k (read s h.0) h.1
holds_within names nodes k (pair s head tail) h = slice_get_within nodes k (read s (Pair h.0 h.1)) h.2

-- the new cell is what its node is
pub record IsLoaded (names : List (List ℕ)) (old new : List Cell) (node : Node) (key : ℕ) : Type 0 where
  pub grown : Extends old new
  pub atom : (s : Span) (d : NodeDatum) (v : Value) → node ≡ read s d → IsValue names d v → Held names new key (atom s (given v))
  pub pair : (s : Span) (i j : ℕ) (h t : Datum) → node ≡ read s (Pair i j) → Held names old i h → Held names old j t → Held names new key (cons s h t)

same_node : {a b : Node} → Some a ≡ Some b → a ≡ b
same_node e = cc

this_node : (names : List (List ℕ)) (nodes : List Node) (old new : List Cell) (node : Node) (n : ℕ) → slice_get nodes n ≡ Some node → IsLoaded names old new node n
    → ((k : ℕ) (t : Tree) → k < n → Holds names nodes k t → Held names old k (datum_of t)) → (t : Tree) → Holds names nodes n t → Held names new n (datum_of t)
this_node names nodes old new node n at new_ before (leaf s v) h = new_.atom s h.0 v (same_node (sym at ∙ h.1)) h.2
this_node names nodes old new node n at new_ before (pair s head tail) h =
    new_.pair s h.0 h.1 (datum_of head) (datum_of tail) (same_node (sym at ∙ h.2)) (before h.0 head h.3 h.5) (before h.1 tail h.4 h.6)

pub loaded_more : (names : List (List ℕ)) (nodes : List Node) (old new : List Cell) (node : Node) (key n : ℕ) → length old ≡ n → key ≡ length old
    → slice_get nodes n ≡ Some node → IsLoaded names old new node key → ((k : ℕ) (t : Tree) → k < n → Holds names nodes k t → Held names old k (datum_of t))
    → (k : ℕ) (t : Tree) → k < n + 1 → Holds names nodes k t → Held names new k (datum_of t)
loaded_more names nodes old new node key n count place at new_ before k t below h =
    elim (cases_order k n) [
      | inl same ↦
          let here : Holds names nodes n t = subst (λ (i : ℕ). Holds names nodes i t) same h in
          let made : IsLoaded names old new node n = subst (λ (i : ℕ). IsLoaded names old new node i) (place ∙ count) new_ in
          subst (λ (i : ℕ). Held names new i (datum_of t)) (sym same) (this_node names nodes old new node n at made before t here)
      | inr (inl less) ↦ held_grows new_.grown names k (datum_of t) (before k t less h)
      | inr (inr more) ↦ absurd (omega arith)
    ]

-- the data at top level
pub all_loaded : (names : List (List ℕ)) (nodes : List Node) (cells : List Cell) → ((k : ℕ) (t : Tree) → Holds names nodes k t → Held names cells k (datum_of t))
    → (keys : List ℕ) (ts : List Tree) → HoldTrees names nodes keys ts → AllHeld names cells keys (map datum_of ts)
all_loaded names nodes cells held keys [] h = rw h tt
all_loaded names nodes cells held keys (t ∷ ts) h = rw h.2 (held h.0 t h.3, all_loaded names nodes cells held h.1 ts h.4)
