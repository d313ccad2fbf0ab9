-- Each form on which the table ends and in which nothing is refused has nodes.
use Rattle.std.proofs.Common.{◌≡◌, ℕ, suc, ◌+◌, Bool, false, List, [], ◌∷◌, ◌++◌, length, refl, sym, subst, arith}
use Rattle.std.specs.Prelude.{Contains}
use Rattle.std.specs.List.{flat_map}
use Rattle.std.proofs.lemmas.List.{length-append}
use Rattle.t_base.specs.declared.basics.Var.{Var}
use Rattle.t_core.specs.Nodes.{binders_of}
use Rattle.t_rows.specs.declared.refusal.Refusal.{Refusal}
use Rattle.t_reader.specs.Grammar.{Value}
use Rattle.t_forms.specs.Data.{Datum, Name}
use Rattle.t_forms.specs.Names.{Scope, Bound, within}
use Rattle.t_rows.specs.Rows.{node, Shape, constant, local, global, builtin_value, op_value, lambda, if_, block, let_, labels, set_local, set_global, catch_, object, call, primitive, nothing, Part, row}
use Rattle.expansion.specs.Meaning.{top_scope}
use Rattle.expansion.specs.Refusals.{Refused, in_form, at_form, in_part}
use Rattle.expand_laws.proofs.BinderChoices.{lambda_choice, catch_choice, let_choice, labels_choice}
use Rattle.expand_laws.proofs.Choices.{constant_choice, local_choice, global_choice, builtin_choice, op_choice, if_choice, block_choice, set_local_choice, set_global_choice, call_choice, primitive_choice}
use Rattle.expand_laws.proofs.Costs.{cost, all_cost}
use Rattle.expand_laws.proofs.Counting.{once_pairs, once_between}
use Rattle.expand_laws.proofs.Few.{few_more}
use Rattle.expand_laws.proofs.Made.{Stock, FormMadeWithin, IsRight, strings_named, pairs_named}
use Rattle.expansion.specs.Counting.{numbers}
use Rattle.expand_laws.proofs.ObjectChoice.{object_choice}
use Rattle.expand_laws.proofs.Placing.{Seat, sits_all, is_tree}
use Rattle.expand_laws.proofs.Reached.{HasBuiltinOps, IsRightShape, Comes, to_form, to_node, AllCome, no_parts, one_part, IsShaped}
use Rattle.expand_laws.proofs.Segments.{AreSeated, Segment, Segments, no_segments, more_segments, Choice, node_segment, form_segment}

-- a row in which nothing is refused has a shape with the parts that belong to it, where the unit defines these names
abbrev pub RowsShaped : List Bound → Type 0
RowsShaped defined =
    (locals : List Name) (d : Datum) (shape : Shape) (parts : List Part) → HasBuiltinOps d
    → row (record { locals = locals; defined = defined }) d ≡ node shape [] parts → IsShaped (record { locals = locals; defined = defined }) shape parts

pub choice : (names : List (List ℕ)) (vars : List Var) (scope : Scope) (tail : Bool) (shape : Shape) (parts : List Part) (before : Stock) → length vars ≡ length scope.locals
    → IsRightShape (IsRight names) shape → IsShaped scope shape parts → Choice names vars scope tail shape parts before
choice names vars scope tail (constant d) parts before count right is =
    subst (λ ps. Choice names vars scope tail (constant d) ps before) (sym is) (constant_choice names vars scope tail d before right)
choice names vars scope tail (local i) parts before count right is =
    subst (λ ps. Choice names vars scope tail (local i) ps before) (sym is.0) (local_choice names vars scope tail i before (omega (arith, is.1, count)))
choice names vars scope tail (global g) parts before count right is =
    subst (λ ps. Choice names vars scope tail (global g) ps before) (sym is.0) (global_choice names vars scope tail g before is.1 is.2)
choice names vars scope tail (builtin_value p) parts before count right is =
    subst (λ ps. Choice names vars scope tail (builtin_value p) ps before) (sym is) (builtin_choice names vars scope tail p before)
choice names vars scope tail (op_value o) parts before count right is =
    subst (λ ps. Choice names vars scope tail (op_value o) ps before) (sym is.0) (op_choice names vars scope tail o before is.1)
choice names vars scope tail lambda parts before count right is =
    subst (λ ps. Choice names vars scope tail lambda ps before) (sym is.2) (lambda_choice names vars scope tail is.0 is.1 before)
choice names vars scope tail if_ parts before count right is =
    subst (λ ps. Choice names vars scope tail if_ ps before) (sym is.3) (if_choice names vars scope tail is.0 is.1 is.2 before)
choice names vars scope tail block parts before count right is =
    subst (λ ps. Choice names vars scope tail block ps before) (sym is.2) (block_choice names vars scope tail is.0 is.1 before)
choice names vars scope tail let_ parts before count right is =
    subst (λ ps. Choice names vars scope tail let_ ps before) (sym is.4) (let_choice names vars scope tail is.0 is.1 is.2 before is.3)
choice names vars scope tail labels parts before count right is =
    subst (λ ps. Choice names vars scope tail labels ps before) (sym is.2) (labels_choice names vars scope tail is.0 is.1 before is.3 is.4)
choice names vars scope tail (set_local i) parts before count right is =
    subst (λ ps. Choice names vars scope tail (set_local i) ps before) (sym is.2) (set_local_choice names vars scope tail i is.1 before (omega (arith, is.0, count)))
choice names vars scope tail (set_global g) parts before count right is =
    subst (λ ps. Choice names vars scope tail (set_global g) ps before) (sym is.2) (set_global_choice names vars scope tail g is.1 before is.0)
choice names vars scope tail catch_ parts before count right is =
    subst (λ ps. Choice names vars scope tail catch_ ps before) (sym is.2) (catch_choice names vars scope tail is.0 is.1 before)
choice names vars scope tail (object ops) parts before count right is =
    subst (λ ps. Choice names vars scope tail (object ops) ps before) (sym is.2) (object_choice names vars scope tail ops is.0 is.1 before is.3 is.4 is.5)
choice names vars scope tail call parts before count right is =
    subst (λ ps. Choice names vars scope tail call ps before) (sym is.2) (call_choice names vars scope tail is.0 is.1 before)
choice names vars scope tail (primitive p) parts before count right is =
    subst (λ ps. Choice names vars scope tail (primitive p) ps before) (sym is.2) (primitive_choice names vars scope tail p is.0 before is.1)
choice names vars scope tail nothing parts before count right is = absurd is

contains_first : {A : Type 0} (x : A) (xs : List A) → Contains (x ∷ xs) x
contains_first x xs = (0, omega arith, refl)

contains_more : {A : Type 0} (x y : A) (xs : List A) → Contains xs y → Contains (x ∷ xs) y
contains_more x y xs h = (suc h.0, omega (arith, h.1), h.2)

both_count : {A B : Type 0} (xs us : List A) (ys vs : List B) → length xs ≡ length ys → length us ≡ length vs → length (ys ++ vs) ≡ length (xs ++ us)
both_count xs us ys vs e f = omega (arith, length-append xs us, length-append ys vs)

-- the nodes of a form, and of the parts of a node
mutual
  pub segment : (right : Value → Type 0) (names : List (List ℕ)) → ((shape : Shape) → IsRightShape right shape → IsRightShape (IsRight names) shape) → (scope : Scope) (d : Datum)
      (c : Comes right scope d) → RowsShaped scope.defined → ((r : Refusal) → Refused scope d r → ⊥) → (vars : List Var) → length vars ≡ length scope.locals → (tail : Bool) (start : ℕ)
      (before : Stock) → Segment names vars scope d tail start before (cost right scope d c)
  segment right names same scope d (to_form _ _ e is h) rows none vars count tail start before =
      form_segment names vars scope d e tail start before (cost right scope e h) is
      (segment right names same scope e h rows (λ r i. none r (in_form scope d e r is i)) vars count tail start before)
  segment right names same scope d (to_node _ _ shape [] parts is ops pure all) rows none vars count tail start before =
      let c = choice names vars scope tail shape parts before count (same shape pure) (rows scope.locals d shape parts ops is) in
      node_segment names vars scope d tail start before shape parts (all_cost right scope parts all) is c
      (segments right names same scope parts all rows (λ r p there i. none r (in_part scope d r shape [] parts p is there i)) vars count c.seats c.seated start c.after)
  segment right names same scope d (to_node _ _ shape (r ∷ rs) parts is ops pure all) rows none vars count tail start before =
      absurd (none r (at_form scope d r shape (r ∷ rs) parts is (contains_first r rs)))

  pub segments : (right : Value → Type 0) (names : List (List ℕ)) → ((shape : Shape) → IsRightShape right shape → IsRightShape (IsRight names) shape) → (scope : Scope) (parts : List Part)
      (all : AllCome right scope parts) → RowsShaped scope.defined → ((r : Refusal) (p : Part) → Contains parts p → Refused (within scope p.binds) p.form r → ⊥) → (vars : List Var)
      → length vars ≡ length scope.locals → (seats : List Seat) → AreSeated parts seats → (start : ℕ) (before : Stock)
      → Segments names vars scope parts seats start before (all_cost right scope parts all)
  segments right names same scope parts (no_parts _) rows none vars count [] seated start before = no_segments names vars scope start before
  segments right names same scope parts (no_parts _) rows none vars count (s ∷ seats) seated start before = absurd seated
  segments right names same scope parts (one_part _ p ps h all) rows none vars count [] seated start before = absurd seated
  segments right names same scope parts (one_part _ p ps h all) rows none vars count (s ∷ seats) seated start before =
      let x = segment right names same (within scope p.binds) p.form h rows (λ r i. none r p (contains_first p ps) i) (s.binds ++ vars)
      (both_count p.binds scope.locals s.binds vars seated.0 (sym count)) s.tail start before in
      more_segments names vars scope p s ps seats start before (cost right (within scope p.binds) p.form h) (all_cost right scope ps all) seated.0 x
      (segments right names same scope ps all rows (λ r q there i. none r q (contains_more p q ps there) i) vars count seats seated.1 (start + length x.nodes) x.after)

-- the nodes of a whole form
pub form_made : (names : List (List ℕ)) (defined : List Bound) (d : Datum) (before : Stock) → RowsShaped defined → (c : Comes (IsRight names) (top_scope defined) d)
    → ((r : Refusal) → Refused (top_scope defined) d r → ⊥) → FormMadeWithin names defined d before (cost (IsRight names) (top_scope defined) d c)
form_made names defined d before rows c none =
    let x = segment (IsRight names) names (λ shape h. h) (top_scope defined) d c rows none [] refl false 0 before in
    let bound = cost (IsRight names) (top_scope defined) d c in
    record {
      after = x.after;
      made = record {
        nodes = x.nodes;
        spans = x.spans;
        root = x.root;
        new_strings = x.gains.new_strings;
        new_pairs = x.gains.new_pairs;
        strings_are = x.gains.strings_are;
        pairs_are = x.gains.pairs_are;
        next = x.gains.next;
        spans_are = x.spans_are;
        some = x.some;
        means = λ shared h. x.means shared (record { nodes = x.nodes; spans = x.spans }) h (sits_all x.nodes) (sits_all x.spans);
        tree = is_tree x.nodes x.root x.grown;
        scoped = x.scoped x.nodes (sits_all x.nodes) (length x.nodes) (omega arith);
        bound_once = once_pairs before.next x.after.next (numbers (flat_map binders_of x.nodes)) x.gains.bound;
        bound_between = once_between before.next x.after.next (numbers (flat_map binders_of x.nodes)) x.gains.bound;
        shaped = λ shared h. x.shaped shared x.nodes h (sits_all x.nodes);
        named = x.named;
        strings_once = once_pairs (length before.strings) (length x.after.strings) (strings_named x.nodes x.gains.new_pairs) x.gains.strings;
        strings_between = once_between (length before.strings) (length x.after.strings) (strings_named x.nodes x.gains.new_pairs) x.gains.strings;
        pairs_once = once_pairs (length before.pairs) (length x.after.pairs) (pairs_named x.nodes x.gains.new_pairs) x.gains.pairs;
        pairs_between = once_between (length before.pairs) (length x.after.pairs) (pairs_named x.nodes x.gains.new_pairs) x.gains.pairs;
        ascii = x.gains.ascii;
        pairs_right = x.gains.pairs_right;
        lower = x.gains.lower;
        root_is = λ ns e is. x.root_is x.nodes (sits_all x.nodes) ns e is;
      };
      few_nodes = x.few.nodes;
      few_strings = few_more before.strings x.after.strings x.gains.new_strings bound x.gains.strings_are x.few.strings;
      few_pairs = few_more before.pairs x.after.pairs x.gains.new_pairs bound x.gains.pairs_are x.few.pairs;
    }
