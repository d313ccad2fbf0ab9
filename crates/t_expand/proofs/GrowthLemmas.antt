-- What is expanded stays so while cells, constants and nodes are added.
use Rattle.std.proofs.Common.{◌≡◌, ℕ, Bool, List, [], ◌∷◌, ◌++◌, length, sym, subst}
use Rattle.t_base.specs.declared.basics.Var.{Var}
use Rattle.t_base.specs.declared.shared_parts.Shared.{Shared}
use Rattle.t_core.specs.declared.forms.Core.{Core}
use Rattle.t_core.specs.declared.forms.Core.TheVariants as Node
use Rattle.t_core.specs.Nodes.{Part as NodePart}
use Rattle.t_forms.specs.declared.arena.Cell.{Cell}
use Rattle.t_forms.specs.Data.{Datum, Name}
use Rattle.t_forms.specs.Names.{Scope, within}
use Rattle.t_forms.specs.Held.{Extends, IsScope, vars_of}
use Rattle.t_forms.proofs.Keeping.{extends_same, extends_trans, held_grows}
use Rattle.t_rows.specs.declared.rows.Shape.{Shape as CodeShape}
use Rattle.t_rows.specs.declared.rows.Part.{Part as CodePart}
use Rattle.t_rows.specs.Rows.{Shape, constant, local, global, builtin_value, op_value, lambda, if_, block, let_, labels, set_local, set_global, catch_, object, call, primitive, nothing, Part}
use Rattle.t_rows.specs.Given.{IsShape, AreParts}
use Rattle.expansion.specs.Meaning.{Fits, Nodes, Means, as_form, as_node, AllMean, no_parts, one_part}
use Rattle.t_expand.specs.Quoting.{AddsConstants}
use Rattle.expansion.specs.Lists.{Adds}
use Rattle.t_expand.specs.Expanding.{Grows}
use Rattle.t_expand.specs.Driving.{Open, IsOpen, WaitsFor, Stacked, Root}
use Rattle.core_frames.specs.Frames.{Frame}
use Rattle.t_expand.specs.declared.driver_state.Expansion.{Expansion}
use Rattle.t_expand.proofs.QuotedLemmas.{AddsConstants_refl, AddsConstants_trans, IsQuoted-Adds}
use Rattle.expansion.proofs.Added.{Adds_refl, Adds_trans, slice_get-Adds}

-- ---- cells

pub IsShape-Extends : (names : List (List ℕ)) (cells larger : List Cell) (vars : List Var) (c : CodeShape) (s : Shape) → Extends cells larger → IsShape names cells vars c s → IsShape names larger vars c s
IsShape-Extends names cells larger vars c (constant d) e h = (h.0, h.1, held_grows e names h.0 d h.2)
IsShape-Extends names cells larger vars c (local i) e h = h
IsShape-Extends names cells larger vars c (global g) e h = h
IsShape-Extends names cells larger vars c (builtin_value p) e h = h
IsShape-Extends names cells larger vars c (op_value o) e h = h
IsShape-Extends names cells larger vars c lambda e h = h
IsShape-Extends names cells larger vars c if_ e h = h
IsShape-Extends names cells larger vars c block e h = h
IsShape-Extends names cells larger vars c let_ e h = h
IsShape-Extends names cells larger vars c labels e h = h
IsShape-Extends names cells larger vars c (set_local i) e h = h
IsShape-Extends names cells larger vars c (set_global g) e h = h
IsShape-Extends names cells larger vars c catch_ e h = h
IsShape-Extends names cells larger vars c (object ops) e h = h
IsShape-Extends names cells larger vars c call e h = h
IsShape-Extends names cells larger vars c (primitive p) e h = h
IsShape-Extends names cells larger vars c nothing e h = h

pub AreParts-Extends : (names : List (List ℕ)) (cells larger : List Cell) (last : List Name) (cs : List CodePart) (ps : List Part) → Extends cells larger → AreParts names cells last cs ps
    → AreParts names larger last cs ps
AreParts-Extends names cells larger last cs [] e h = h
AreParts-Extends names cells larger last cs (p ∷ ps) e h =
    (h.0, h.1, h.2, ((h.3).0, held_grows e names (h.0).form p.form (h.3).1), AreParts-Extends names cells larger p.binds h.1 ps e h.4)

-- ---- nodes

fits_more : (old new : Shared) → AddsConstants old new → (vars : List Var) (tail : Bool) (s : Shape) (c : Core) → Fits old vars tail s c → Fits new vars tail s c
fits_more old new a vars tail (constant d) (Node.Const c) h = IsQuoted-Adds old new a d c h
fits_more old new a vars tail _ _ h = h

mutual
  pub Means-Adds : (old new : Shared) (n m : Nodes) → AddsConstants old new → Adds n.nodes m.nodes → Adds n.spans m.spans → (vars : List Var) (scope : Scope) (d : Datum) (tail : Bool) (k : ℕ)
      → Means old n vars scope d tail k → Means new m vars scope d tail k
  Means-Adds old new n m a b c vars scope d tail k (as_form _ _ _ e _ _ is h) = as_form vars scope d e tail k is (Means-Adds old new n m a b c vars scope e tail k h)
  Means-Adds old new n m a b c vars scope d tail k (as_node _ _ _ _ _ shape parts core is at span fits all) =
      as_node vars scope d tail k shape parts core is (slice_get-Adds n.nodes m.nodes k core b at) (slice_get-Adds n.spans m.spans k _ c span) (fits_more old new a vars tail shape core fits)
      (AllMean-Adds old new n m a b c vars scope parts _ all)

  pub AllMean-Adds : (old new : Shared) (n m : Nodes) → AddsConstants old new → Adds n.nodes m.nodes → Adds n.spans m.spans → (vars : List Var) (scope : Scope) (ps : List Part) (qs : List NodePart)
      → AllMean old n vars scope ps qs → AllMean new m vars scope ps qs
  AllMean-Adds old new n m a b c vars scope ps qs (no_parts _ _) = no_parts vars scope
  AllMean-Adds old new n m a b c vars scope ps qs (one_part _ _ p q others rest count h all) =
      one_part vars scope p q others rest count (Means-Adds old new n m a b c (q.binds ++ vars) (within scope p.binds) p.form q.tail q.at h)
      (AllMean-Adds old new n m a b c vars scope others rest all)

pub AllMean-push : (s : Shared) (n : Nodes) (vars : List Var) (scope : Scope) (p : Part) (q : NodePart) → length p.binds ≡ length q.binds
    → Means s n (q.binds ++ vars) (within scope p.binds) p.form q.tail q.at → (ps : List Part) (qs : List NodePart) → AllMean s n vars scope ps qs
    → AllMean s n vars scope (ps ++ p ∷ []) (qs ++ q ∷ [])
AllMean-push s n vars scope p q count h ps qs (no_parts _ _) = one_part vars scope p q [] [] count h (no_parts vars scope)
AllMean-push s n vars scope p q count h ps qs (one_part _ _ a b others rest count_a h_a all) =
    one_part vars scope a b (others ++ p ∷ []) (rest ++ q ∷ []) count_a h_a (AllMean-push s n vars scope p q count h others rest all)

-- ---- states

pub Grows_refl : (e : Expansion) → Grows e e
Grows_refl e = record {
  cells = extends_same;
  shared = AddsConstants_refl e.shared;
  nodes = Adds_refl e.nodes.nodes;
  spans = Adds_refl e.nodes.spans;
  first = λ h. h;
}

pub Grows_trans : (a b c : Expansion) → Grows a b → Grows b c → Grows a c
Grows_trans a b c g h = record {
  cells = extends_trans g.cells h.cells;
  shared = AddsConstants_trans a.shared b.shared c.shared g.shared h.shared;
  nodes = Adds_trans a.nodes.nodes b.nodes.nodes c.nodes.nodes g.nodes h.nodes;
  spans = Adds_trans a.nodes.spans b.nodes.spans c.nodes.spans g.spans h.spans;
  first = λ e. g.first (h.first e);
}

parts_more : (names others : List (List ℕ)) (cells larger : List Cell) (last : List Name) (left : List CodePart) (after : List Part) → others ≡ names → Extends cells larger
    → AreParts names cells last left after → AreParts others larger last left after
parts_more names others cells larger last left after e x l = subst (λ n. AreParts n larger last left after) (sym e) (AreParts-Extends names cells larger last left after x l)

-- the parts that are left stay so
pub AreParts-Grows : (e g : Expansion) → Grows e g → (last : List Name) (left : List CodePart) (after : List Part) → AreParts e.shared.names e.forms last left after
    → AreParts g.shared.names g.forms last left after
AreParts-Grows e g w last left after l = parts_more e.shared.names g.shared.names e.forms g.forms last left after w.shared.names w.cells l

pub IsOpen-Grows : (e g : Expansion) → Grows e g → (f : Frame) (o : Open) → IsOpen e f o → IsOpen g f o
IsOpen-Grows e g w f o i = record {
  scope = subst (λ n. IsScope n o.at o.around) (sym w.shared.names) i.scope;
  row_is = i.row_is;
  span = i.span;
  shape = subst (λ n. IsShape n g.forms (vars_of o.at) f.state.shape o.shape) (sym w.shared.names) (IsShape-Extends e.shared.names e.forms g.forms (vars_of o.at) f.state.shape o.shape w.cells i.shape);
  refused = λ h. i.refused (w.first h);
  made = λ h. AllMean-Adds e.shared g.shared e.nodes g.nodes w.shared w.nodes w.spans _ o.around o.before _ (i.made (w.first h));
}

pub WaitsFor-Grows : (e g : Expansion) → Grows e g → (w : Frame) (o inner : Open) (tail : Bool) → WaitsFor e w o inner tail → WaitsFor g w o inner tail
WaitsFor-Grows e g grows w o inner tail h = record {
  now = h.now;
  rest = h.rest;
  after = h.after;
  left = AreParts-Grows e g grows h.now.binds w.left h.rest h.left;
  around = h.around;
  vars = h.vars;
  count = h.count;
  outer = h.outer;
  same = h.same;
  tail_is = h.tail_is;
}

pub Stacked-Grows : (e g : Expansion) → Grows e g → (root : Root) (waiting : List Frame) (inner : Open) (tail : Bool) (os : List Open) → Stacked e root waiting inner tail os → Stacked g root waiting inner tail os
Stacked-Grows e g grows root [] inner tail [] h = h
Stacked-Grows e g grows root [] inner tail (o ∷ os) h = absurd h
Stacked-Grows e g grows root (w ∷ waiting) inner tail [] h = absurd h
Stacked-Grows e g grows root (w ∷ waiting) inner tail (o ∷ os) h =
    (IsOpen-Grows e g grows w o h.0, WaitsFor-Grows e g grows w o inner tail h.1, Stacked-Grows e g grows root waiting o w.state.tail os h.2)
