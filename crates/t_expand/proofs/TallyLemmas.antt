-- Nodes, variables, strings and pairs are each named once while a form is expanded.
use Rattle.std.proofs.Common.{◌≡◌, ℕ, suc, ◌+◌, ◌<◌, ◌≤◌, Bool, true, false, ◌⊎◌, inl, inr, List, [], ◌∷◌, ◌++◌, map, length, Some, option_map, slice_get, refl, sym, ap, subst, ◌∙◌, arith}
use Rattle.std.specs.Prelude.{All, get_or}
use Rattle.std.specs.List.{flat_map}
use Rattle.std.proofs.lemmas.Bool.{cases_lt}
use Rattle.std.proofs.lemmas.List.{append-nil, length-append, map-append}
use Rattle.std.proofs.lemmas.List.Concat.{flat_map-append}
use Rattle.std.proofs.lemmas.Option.{same_Some}
use Rattle.t_base.specs.declared.basics.Var.{Var}
use Rattle.t_base.specs.declared.shared_parts.Const.{Const}
use Rattle.t_core.specs.declared.forms.Core.{Core}
use Rattle.t_core.specs.declared.forms.Core.TheVariants as Node
use Rattle.t_core.specs.declared.forms.Method.{Method}
use Rattle.t_core.specs.Nodes.{Part, part, early, block_parts, parts_of, places_of, binders_of}
use Rattle.t_core.specs.Whole.{pair_of}
use Rattle.t_rows.specs.declared.rows.Part.{Part as CodePart}
use Rattle.t_rows.specs.declared.rows.Shape.{Shape}
use Rattle.t_rows.specs.declared.rows.Shape.TheVariants as shape
use Rattle.expansion.proofs.WholeLemmas.{places_are}
use Rattle.expansion.specs.Counting.{times, Once, numbers}
use Rattle.expansion.specs.Lists.{numbered}
use Rattle.expansion.specs.Strings.{string_of}
use Rattle.expansion.specs.Trees.{Grown}
use Rattle.expand_laws.proofs.Counting.{times_none, times_append, times_mapped, times_one, times_not_one, times_there, once_both, once_counted, once_numbered}
use Rattle.expand_laws.proofs.Placing.{before_append}
use Rattle.core_frames.specs.Building.{variables_of, part_of, IsNode, IsBuilt}
use Rattle.t_expand.specs.Tallies.{AreNamed, places_done, variables_around, fresh_done, binds_again, Takes, roots_of, roots_back, variables_waiting, reserved, Before, IsTallied, Tallied, KeepsTally}
use Rattle.core_frames.specs.declared.build.Done.{Done}
use Rattle.core_frames.specs.declared.build.Fresh.{Fresh}
use Rattle.t_expand.specs.declared.driver_state.Expansion.{Expansion}
use Rattle.t_expand.specs.Driving.{IsOpened, NodeMade, IsMade}
use Rattle.core_frames.specs.declared.frames.NodeState.{NodeState}
use Rattle.core_frames.proofs.FrameLemmas.{first_frame}
use Rattle.core_frames.specs.Frames.{Frame, waiting, IsTaken}
use Rattle.t_expand.proofs.NamingLemmas.{times_flat_push, named_counted}

-- ---- counts

numbers_append : (k : ℕ) (xs ys : List Var) → times k (numbers (xs ++ ys)) ≡ times k (numbers xs) + times k (numbers ys)
numbers_append k xs ys = ap (times k) (map-append (λ (v : Var). v.0) xs ys) ∙ times_append k (numbers xs) (numbers ys)

numbers_push : {X : Type 0} (f : X → List Var) (k : ℕ) (xs : List X) (x : X)
    → times k (numbers (flat_map f (xs ++ x ∷ []))) ≡ times k (numbers (flat_map f xs)) + times k (numbers (f x))
numbers_push f k xs x = omega (arith, times_mapped (λ (v : Var). v.0) f k xs (x ∷ []), ap (λ l. times k (numbers l)) (append-nil (f x)))

bound_times : (k : ℕ) (front : List ℕ) (bound held : List Var)
    → times k (front ++ numbers (bound ++ held)) ≡ (times k front + times k (numbers bound)) + times k (numbers held)
bound_times k front bound held = omega (arith, times_append k front (numbers (bound ++ held)), numbers_append k bound held)

-- ---- trees

all_below : (n : ℕ) (xs : List ℕ) → ((k : ℕ) → n ≤ k → times k xs ≡ 0) → All (λ k. k < n) xs
all_below n xs none i d lt = by (times_there xs i d lt) (cases_lt (get_or xs i d) n)
  where
    by : 1 ≤ times (get_or xs i d) xs → (get_or xs i d < n) ⊎ (n ≤ get_or xs i d) → get_or xs i d < n
    by there (inl l) = l
    by there (inr le) = absurd (omega (arith, none (get_or xs i d) le))

-- roots in another order
grown_counted : (start : ℕ) (nodes : List Core) (roots more : List ℕ) → ((k : ℕ) → times k more ≡ times k roots) → Grown start nodes roots → Grown start nodes more
grown_counted start nodes roots more same x = record {
  before = x.before;
  within = all_below (start + length nodes) more (λ k h. omega (arith, same k, x.above k h));
  below = λ k h. omega (arith, same k, x.below k h);
  above = λ k h. omega (arith, same k, x.above k h);
  once = λ k h i. omega (arith, same k, x.once k h i);
}

-- a node more, some of the roots being its parts
grown_behind : (nodes : List Core) (c : Core) (others parts : List ℕ) → places_of c ≡ parts → Grown 0 nodes (others ++ parts) → Grown 0 (nodes ++ c ∷ []) (others ++ length nodes ∷ [])
grown_behind nodes c others parts are x =
    let root = length nodes in
    let count : length (nodes ++ c ∷ []) ≡ suc root = length-append nodes (c ∷ []) ∙ omega arith in
    let start : 0 + root ≡ root = omega arith in
    record {
      before = before_append 0 nodes (c ∷ []) x.before
          (rw start (subst (λ l. All (λ place. place < root) l) (sym are) (all_below root parts (λ k h. omega (arith, times_append k others parts, x.above k (omega arith)))), tt));
      within = all_below (0 + length (nodes ++ c ∷ [])) (others ++ root ∷ [])
          (λ k h. omega (arith, times_append k others (root ∷ []), times_append k others parts, x.above k (omega (arith, count)), times_not_one k root (λ e. omega (arith, count))));
      below = λ k h. absurd (omega arith);
      above = λ k h. omega (arith, sum k, x.above k (omega (arith, count)), times_not_one k root (λ e. omega (arith, count)));
      once = λ k low high. by k (omega (arith, count)) (cases_lt k root);
    }
  where
    sum : (k : ℕ) → times k (flat_map places_of (nodes ++ c ∷ [])) + times k (others ++ length nodes ∷ [])
        ≡ (times k (flat_map places_of nodes) + times k (others ++ parts)) + times k (length nodes ∷ [])
    sum k =
        omega (arith, times_flat_push places_of k nodes c, ap (times k) are, times_append k others parts, times_append k others (length nodes ∷ []))

    by : (k : ℕ) → k < suc (length nodes) → (k < length nodes) ⊎ (length nodes ≤ k) → times k (flat_map places_of (nodes ++ c ∷ [])) + times k (others ++ length nodes ∷ []) ≡ 1
    by k high (inl lt) = omega (arith, sum k, x.once k (omega arith) (omega arith), times_not_one k (length nodes) (λ e. omega arith))
    by k high (inr le) = omega (arith, sum k, x.above k (omega arith), times_one k (length nodes) (omega arith))

-- ---- the variables around parts

pub around_none : (s : Shape) → variables_around s [] ≡ []
around_none shape.Labels = refl
around_none _ = refl

around_new : (s : Shape) (done : List Fresh) (v : Fresh) → binds_again s done ≡ false → variables_around s (done ++ v ∷ []) ≡ variables_around s done ++ variables_of v
around_new shape.Labels [] v e = refl
around_new shape.Labels (x ∷ xs) v e = absurd (cc)
around_new _ done v e = flat_map-append variables_of done (v ∷ []) ∙ ap (λ l. flat_map variables_of done ++ l) (append-nil (variables_of v))

around_again : (s : Shape) (done : List Fresh) (v : Fresh) → binds_again s done ≡ true → variables_around s (done ++ v ∷ []) ≡ variables_around s done
around_again shape.Labels [] v e = absurd (cc)
around_again shape.Labels (x ∷ xs) v e = refl
around_again _ done v e = absurd (cc)

-- new variables are taken
pub takes_new : (s : Shape) (done : List Fresh) (v : Fresh) (old new : ℕ) → binds_again s done ≡ false → v.first ≡ old → new ≡ v.first + v.count → Takes old new s done v
takes_new s done v old new e f g = record {
  taken = v.count;
  next = g ∙ ap (λ n. n + v.count) f;
  around = around_new s done v e ∙ ap (λ n. variables_around s done ++ numbered n v.count) f;
}

-- LABELS binds the same ones around each part
pub takes_again : (s : Shape) (done : List Fresh) (v : Fresh) (n : ℕ) → binds_again s done ≡ true → Takes n n s done v
takes_again s done v n e = record {
  taken = 0;
  next = omega arith;
  around = around_again s done v e ∙ sym (append-nil (variables_around s done));
}

pub takes_none : (s : Shape) (done : List Fresh) (v : Fresh) (n : ℕ) → v.count ≡ 0 → Takes n n s done v
takes_none s done v n none = by (binds_again s done) refl
  where
    by : (b : Bool) → binds_again s done ≡ b → Takes n n s done v
    by true e = takes_again s done v n e
    by false e = record {
      taken = 0;
      next = omega arith;
      around = around_new s done v e ∙ ap (λ m. variables_around s done ++ numbered v.first m) none;
    }

-- ---- states

-- variables are taken, and the roots and those that are held stand in another order
moved : (before : Before) (e h : Expansion) (roots more : List ℕ) (held others : List Var) (taken : ℕ) → h.nodes ≡ e.nodes → h.shared ≡ e.shared → h.next ≡ e.next + taken
    → ((k : ℕ) → times k more ≡ times k roots) → ((k : ℕ) → times k (numbers others) ≡ times k (numbers held) + times k (numbers (numbered e.next taken)))
    → IsTallied before e roots held → IsTallied before h more others
moved before e h roots more held others taken on_nodes on_shared on_next same sum t = record {
  trees = subst (λ n. Grown 0 n.nodes more) (sym on_nodes) (grown_counted 0 e.nodes.nodes roots more same t.trees);
  variables = subst (λ n. Once 0 h.next (before.variables ++ numbers (flat_map binders_of n.nodes ++ others))) (sym on_nodes)
      (subst (λ m. Once 0 m (before.variables ++ numbers (flat_map binders_of e.nodes.nodes ++ others))) (sym on_next)
      (once_both 0 e.next (e.next + taken) (before.variables ++ numbers (flat_map binders_of e.nodes.nodes ++ held)) (numbers (numbered e.next taken))
      (before.variables ++ numbers (flat_map binders_of e.nodes.nodes ++ others)) (omega arith) (omega arith)
      (λ k. omega (arith, sum k, bound_times k before.variables (flat_map binders_of e.nodes.nodes) held, bound_times k before.variables (flat_map binders_of e.nodes.nodes) others))
      t.variables (once_numbered e.next taken)));
  named = subst (λ s. AreNamed (before.strings ++ flat_map string_of h.nodes.nodes) (before.pairs ++ flat_map pair_of h.nodes.nodes) s) (sym on_shared)
      (subst (λ n. AreNamed (before.strings ++ flat_map string_of n.nodes) (before.pairs ++ flat_map pair_of n.nodes) e.shared) (sym on_nodes) t.named);
}

roots_times : (k : ℕ) (f : Frame) (others : List Frame) → times k (roots_of (f ∷ others)) ≡ times k (places_done f.done) + times k (roots_of others)
roots_times k f others = times_append k (places_done f.done) (roots_of others)

back_times : (k : ℕ) (others : List Frame) (key : ℕ) → times k (roots_back others key) ≡ times k (roots_of others) + times k (key ∷ [])
back_times k others key = times_append k (roots_of others) (key ∷ [])

waiting_times : (k : ℕ) (w : Frame) (others : List Frame) → times k (numbers (variables_waiting (w ∷ others)))
    ≡ times k (numbers (variables_around w.state.shape (fresh_done w.done ++ w.state.bound ∷ []))) + times k (numbers (variables_waiting others))
waiting_times k w others = numbers_append k (variables_around w.state.shape (fresh_done w.done ++ w.state.bound ∷ [])) (variables_waiting others)

reserved_times : (k : ℕ) (f : Frame) (others : List Frame)
    → times k (numbers (reserved (f ∷ others))) ≡ times k (numbers (variables_waiting others)) + times k (numbers (variables_around f.state.shape (fresh_done f.done)))
reserved_times k f others = numbers_append k (variables_waiting others) (variables_around f.state.shape (fresh_done f.done))

-- a frame with nothing done
new_roots : (k : ℕ) (f : Frame) → f.done ≡ [] → times k (places_done f.done) ≡ 0
new_roots k f none = ap (λ l. times k (places_done l)) none ∙ times_none k

new_reserved : (k : ℕ) (f : Frame) → f.done ≡ [] → times k (numbers (variables_around f.state.shape (fresh_done f.done))) ≡ 0
new_reserved k f none = ap (λ l. times k (numbers (variables_around f.state.shape (fresh_done l)))) none ∙ ap (λ l. times k (numbers l)) (around_none f.state.shape) ∙ times_none k

-- the form's own frame
pub begins_tallied : (before : Before) (e h : Expansion) (f : Frame) → KeepsTally e h → f.done ≡ [] → Tallied before e [] [] → Tallied before h (roots_of (f ∷ [])) (reserved (f ∷ []))
begins_tallied before e h f keeps none t = λ first.
    moved before e h [] (roots_of (f ∷ [])) [] (reserved (f ∷ [])) 0 keeps.nodes keeps.shared (keeps.next ∙ omega arith) (λ k. roots_times k f [] ∙ omega (arith, new_roots k f none, times_none k))
    (λ k. omega (arith, reserved_times k f [], new_reserved k f none, times_none k)) (t (keeps.first first))

-- a part is taken away
pub taken_tallied : (before : Before) (e : Expansion) (all after : List Frame) (part : CodePart) → IsTaken all after (Some part) → Tallied before e (roots_of all) (reserved all)
    → Tallied before e (roots_of after) (reserved after)
taken_tallied before e [] after part h t = absurd h
taken_tallied before e (f ∷ others) after part h t = subst (λ l. Tallied before e (roots_of l) (reserved l)) (sym h.2) t

-- a part is entered
pub enters_tallied : (before : Before) (e g h : Expansion) (others : List Frame) (f inner : Frame) (bound : Fresh) (part_tail : Bool) → g.nodes ≡ e.nodes → g.shared ≡ e.shared → g.first ≡ e.first
    → Takes e.next g.next f.state.shape (fresh_done f.done) bound → KeepsTally g h → inner.done ≡ []
    → Tallied before e (roots_of (f ∷ others)) (reserved (f ∷ others))
    → Tallied before h (roots_of (inner ∷ waiting f bound part_tail ∷ others)) (reserved (inner ∷ waiting f bound part_tail ∷ others))
enters_tallied before e g h others f inner bound part_tail on_nodes on_shared on_first takes keeps none t = λ first.
    moved before e h (roots_of (f ∷ others)) (roots_of (inner ∷ w ∷ others)) (reserved (f ∷ others)) (reserved (inner ∷ w ∷ others)) takes.taken (keeps.nodes ∙ on_nodes) (keeps.shared ∙ on_shared)
    (keeps.next ∙ takes.next)
    (λ k. omega (arith, roots_times k inner (w ∷ others), roots_times k w others, roots_times k f others, new_roots k inner none))
    (λ k. omega (
      arith,
      reserved_times k inner (w ∷ others),
      reserved_times k f others,
      new_reserved k inner none,
      waiting_times k w others,
      ap (λ l. times k (numbers l)) takes.around,
      numbers_append k (variables_around f.state.shape (fresh_done f.done)) (numbered e.next takes.taken),
    ))
    (t (sym on_first ∙ keeps.first first))
  where
    w : Frame
    w = waiting f bound part_tail

-- the same, by what the calls tell
pub enters_tallied_opened : (before : Before) (e g h : Expansion) (all waits after : List Frame) (state : NodeState) (done : List Done) (bound : Fresh) (key : ℕ) (part_tail : Bool)
    → Some state ≡ option_map (λ (f : Frame). f.state) (slice_get all 0) → ((f : Frame) (fs : List Frame) → all ≡ f ∷ fs → done ≡ f.done) → g.nodes ≡ e.nodes → g.shared ≡ e.shared → g.first ≡ e.first
    → Takes e.next g.next state.shape (fresh_done done) bound → ((f : Frame) (fs : List Frame) → all ≡ f ∷ fs → waits ≡ waiting f bound part_tail ∷ fs)
    → KeepsTally g h → IsOpened g h waits after key part_tail → Tallied before e (roots_of all) (reserved all) → Tallied before h (roots_of after) (reserved after)
enters_tallied_opened before e g h all waits after state done bound key part_tail state_is done_is on_nodes on_shared on_first takes waits_now keeps opened t =
    let x = first_frame all state state_is in
    let f = x.0 in
    let others = x.1 in
    let stack : after ≡ opened.frame ∷ waiting f bound part_tail ∷ others = opened.put ∙ ap (λ l. opened.frame ∷ l) (waits_now f others x.2) in
    subst (λ l. Tallied before h (roots_of l) (reserved l)) (sym stack)
    (enters_tallied before e g h others f opened.frame bound part_tail on_nodes on_shared on_first
    (subst (λ d. Takes e.next g.next f.state.shape (fresh_done d) bound) (done_is f others x.2) (subst (λ y. Takes e.next g.next y.shape (fresh_done done) bound) x.3 takes)) keeps opened.none_done
    (subst (λ l. Tallied before e (roots_of l) (reserved l)) x.2 t))

-- a part is left
pub leaves_tallied : (before : Before) (e : Expansion) (w : Frame) (others : List Frame) (d : Done) → d.vars ≡ w.state.bound
    → Tallied before e (roots_back (w ∷ others) d.at) (variables_waiting (w ∷ others))
    → Tallied before e (roots_of (record w { done = w.done ++ d ∷ [] } ∷ others)) (reserved (record w { done = w.done ++ d ∷ [] } ∷ others))
leaves_tallied before e w others d vars t = λ first.
    moved before e e (roots_back (w ∷ others) d.at) (roots_of (f ∷ others)) (variables_waiting (w ∷ others)) (reserved (f ∷ others)) 0 refl refl (omega arith)
    (λ k. omega (
      arith,
      roots_times k f others,
      back_times k (w ∷ others) d.at,
      roots_times k w others,
      ap (times k) (map-append (λ (x : Done). x.at) w.done (d ∷ [])),
      times_append k (places_done w.done) (d.at ∷ []),
    ))
    (λ k. omega (arith, reserved_times k f others, waiting_times k w others, ap (λ l. times k (numbers l)) around, times_none k))
    (t first)
  where
    f : Frame
    f = record w { done = w.done ++ d ∷ [] }

    around : variables_around w.state.shape (fresh_done (w.done ++ d ∷ [])) ≡ variables_around w.state.shape (fresh_done w.done ++ w.state.bound ∷ [])
    around =
        ap (λ l. variables_around w.state.shape l) (map-append (λ (x : Done). x.vars) w.done (d ∷ [])) ∙ ap (λ v. variables_around w.state.shape (fresh_done w.done ++ v ∷ [])) vars

-- ---- a node is made

pub closes_tallied : (before : Before) (e h : Expansion) (f : Frame) (others : List Frame) (place : ℕ) → IsMade e h f.state f.done place → Tallied before e (roots_of (f ∷ others)) (reserved (f ∷ others))
    → Tallied before h (roots_back others place) (variables_waiting others)
closes_tallied before e h f others place made tallied = λ first. by (made.node first) (tallied (sym made.first ∙ first))
  where
    one_node : (of : Core → List ℕ) (k : ℕ) (front : List ℕ) (nodes : List Core) (c : Core) → times k (front ++ flat_map of (nodes ++ c ∷ [])) ≡ times k (front ++ flat_map of nodes ++ of c)
    one_node of k front nodes c =
        omega (
          arith,
          times_append k front (flat_map of (nodes ++ c ∷ [])),
          times_flat_push of k nodes c,
          times_append k (front ++ flat_map of nodes) (of c),
          times_append k front (flat_map of nodes),
        )

    by : NodeMade e h f.state f.done place → IsTallied before e (roots_of (f ∷ others)) (reserved (f ∷ others)) → IsTallied before h (roots_back others place) (variables_waiting others)
    by m t =
        let nodes = e.nodes.nodes in
        let held = variables_waiting others in
        let c = m.core in
        record {
          trees = subst (λ n. Grown 0 n (roots_back others place)) (sym m.nodes)
              (subst (λ k. Grown 0 (nodes ++ c ∷ []) (roots_back others k)) (sym m.at)
              (grown_behind nodes c (roots_of others) (places_done f.done) m.places
              (grown_counted 0 nodes (roots_of (f ∷ others)) (roots_of others ++ places_done f.done)
              (λ k. omega (arith, roots_times k f others, times_append k (roots_of others) (places_done f.done))) t.trees)));
          variables = subst (λ n. Once 0 h.next (before.variables ++ numbers (flat_map binders_of n ++ held))) (sym m.nodes)
              (subst (λ x. Once 0 x (before.variables ++ numbers (flat_map binders_of (nodes ++ c ∷ []) ++ held))) (sym made.next)
              (once_counted 0 e.next (before.variables ++ numbers (flat_map binders_of nodes ++ reserved (f ∷ others))) (before.variables ++ numbers (flat_map binders_of (nodes ++ c ∷ []) ++ held))
              (λ k. omega (
                arith,
                bound_times k before.variables (flat_map binders_of nodes) (reserved (f ∷ others)),
                bound_times k before.variables (flat_map binders_of (nodes ++ c ∷ [])) held,
                numbers_push binders_of k nodes c,
                reserved_times k f others,
                ap (λ l. times k (numbers l)) m.binders,
              )) t.variables));
          named = subst (λ n. AreNamed (before.strings ++ flat_map string_of n) (before.pairs ++ flat_map pair_of n) h.shared) (sym m.nodes)
              (named_counted _ _ _ _ h.shared (λ k. one_node string_of k before.strings nodes c) (λ k. one_node pair_of k before.pairs nodes c)
              (m.named (before.strings ++ flat_map string_of nodes) (before.pairs ++ flat_map pair_of nodes) t.named));
        }

-- the same, by what the calls tell
pub closes_tallied_made : (before : Before) (e h : Expansion) (all after : List Frame) (f : Frame) (others : List Frame) (state : NodeState) (done : List Done) (place : ℕ) → all ≡ f ∷ others
    → Some state ≡ option_map (λ (g : Frame). g.state) (slice_get all 0) → done ≡ f.done → after ≡ others → IsMade e h state done place → Tallied before e (roots_of all) (reserved all)
    → Tallied before h (roots_back after place) (variables_waiting after)
closes_tallied_made before e h all after f others state done place all_is state_is done_is after_is made t =
    let same : state ≡ f.state = same_Some state f.state (state_is ∙ ap (λ l. option_map (λ (g : Frame). g.state) (slice_get l 0)) all_is) in
    subst (λ l. Tallied before h (roots_back l place) (variables_waiting l)) (sym after_is)
    (closes_tallied before e h f others place (subst (λ l. IsMade e h f.state l place) done_is (subst (λ x. IsMade e h x done place) same made))
    (subst (λ l. Tallied before e (roots_of l) (reserved l)) all_is t))

-- ---- what a node of a shape names and binds

done_places : (done : List Done) → map (λ (p : Part). p.at) (map part_of done) ≡ places_done done
done_places [] = refl
done_places (d ∷ done) = ap (λ l. d.at ∷ l) (done_places done)

pub built_places : (s : Shape) (tail : Bool) (done : List Done) (c : Core) → IsBuilt s tail done c → places_of c ≡ places_done done
built_places s tail done c built = sym (places_are c tail) ∙ ap (map (λ (p : Part). p.at)) built.parts ∙ done_places done

done_binds : (done : List Done) → flat_map (λ (p : Part). p.binds) (map part_of done) ≡ flat_map variables_of (fresh_done done)
done_binds [] = refl
done_binds (d ∷ done) = ap (λ l. variables_of d.vars ++ l) (done_binds done)

first_binds : List Part → List Var
first_binds [] = []
first_binds (p ∷ ps) = p.binds

done_first : (done : List Done) → first_binds (map part_of done) ≡ variables_around shape.Labels (fresh_done done)
unfolding first_binds
done_first [] = refl
done_first (d ∷ done) = refl

labels_first : (vars : List Var) (lambdas : List ℕ) (body : ℕ) (tail : Bool) → first_binds (parts_of (Node.Labels vars lambdas body) tail) ≡ vars
unfolding first_binds
labels_first vars [] body tail = refl
labels_first vars (k ∷ ks) body tail = refl

no_binds : (ks : List ℕ) → flat_map (λ (p : Part). p.binds) (map early ks) ≡ []
no_binds [] = refl
no_binds (k ∷ ks) = no_binds ks

block_binds : (ks : List ℕ) (tail : Bool) → flat_map (λ (p : Part). p.binds) (block_parts ks tail) ≡ []
block_binds [] tail = refl
block_binds (k ∷ []) tail = refl
block_binds (k ∷ next ∷ ks) tail = block_binds (next ∷ ks) tail

method_binds : (methods : List Method) → flat_map (λ (p : Part). p.binds) (map (λ (m : Method). part m.body m.params true) methods) ≡ flat_map (λ (m : Method). m.params) methods
method_binds [] = refl
method_binds (m ∷ methods) = ap (λ l. m.params ++ l) (method_binds methods)

let_binds : (ks : List ℕ) (vars : List Var) (body : ℕ) (tail : Bool) → flat_map (λ (p : Part). p.binds) (map early ks ++ part body vars tail ∷ []) ≡ vars
let_binds [] vars body tail = append-nil vars
let_binds (k ∷ ks) vars body tail = let_binds ks vars body tail

labels_alone : (s : Shape) (tail : Bool) (vars : List Var) (lambdas : List ℕ) (body : ℕ) → IsNode s tail (Node.Labels vars lambdas body) → s ≡ shape.Labels
labels_alone shape.Labels tail vars lambdas body h = refl
labels_alone _ tail vars lambdas body h = absurd h

-- a node other than LABELS binds what is around its parts
other_binders : (s : Shape) (tail : Bool) (c : Core) → (s ≡ shape.Labels → ⊥) → IsNode s tail c → flat_map (λ (p : Part). p.binds) (parts_of c tail) ≡ binders_of c
other_binders s tail (Node.Const c) other h = refl
other_binders s tail (Node.Local v) other h = refl
other_binders s tail (Node.Global g) other h = refl
other_binders s tail (Node.Builtin p) other h = refl
other_binders s tail (Node.Op o) other h = refl
other_binders s tail (Node.Lambda params body) other h = append-nil params
other_binders s tail (Node.If test a b) other h = refl
other_binders s tail (Node.Block items) other h = block_binds items tail
other_binders s tail (Node.Let vars values body) other h = let_binds values vars body tail
other_binders s tail (Node.Labels vars lambdas body) other h = absurd (other (labels_alone s tail vars lambdas body h))
other_binders s tail (Node.SetLocal v value) other h = refl
other_binders s tail (Node.SetGlobal g value) other h = refl
other_binders s tail (Node.Catch v body) other h = refl
other_binders s tail (Node.Object proc methods) other h = method_binds methods
other_binders s tail (Node.Call operator operands last) other h = no_binds operands
other_binders s tail (Node.Prim p operands) other h = no_binds operands

labels_binders : (tail : Bool) (done : List Done) (c : Core) → IsBuilt shape.Labels tail done c → binders_of c ≡ variables_around shape.Labels (fresh_done done)
labels_binders tail done (Node.Labels vars lambdas body) built = sym (labels_first vars lambdas body tail) ∙ ap first_binds built.parts ∙ done_first done
labels_binders tail done _ built = absurd built.shaped

flat_binders : (s : Shape) (tail : Bool) (done : List Done) (c : Core) → (s ≡ shape.Labels → ⊥) → IsBuilt s tail done c → binders_of c ≡ flat_map variables_of (fresh_done done)
flat_binders s tail done c other built = sym (other_binders s tail c other built.shaped) ∙ ap (flat_map (λ (p : Part). p.binds)) built.parts ∙ done_binds done

pub built_binders : (s : Shape) (tail : Bool) (done : List Done) (c : Core) → IsBuilt s tail done c → binders_of c ≡ variables_around s (fresh_done done)
built_binders shape.Labels tail done c built = labels_binders tail done c built
built_binders _ tail done c built = flat_binders _ tail done c (λ e. cc) built

pub no_constant : (s : Shape) (tail : Bool) (k : Const) → IsNode s tail (Node.Const k) → ⊥
no_constant shape.Labels tail k h = h
no_constant _ tail k h = h

pub built_strings : (s : Shape) (tail : Bool) (c : Core) → IsNode s tail c → string_of c ≡ []
built_strings s tail (Node.Const k) h = absurd (no_constant s tail k h)
built_strings s tail _ h = refl

pub built_pairs : (s : Shape) (tail : Bool) (c : Core) → IsNode s tail c → pair_of c ≡ []
built_pairs s tail (Node.Const k) h = absurd (no_constant s tail k h)
built_pairs s tail _ h = refl
