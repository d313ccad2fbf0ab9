-- The names of the marks are the variables that stand for values or cells, and no Labels name is assigned within the rule on loads.
use Rattle.std.specs.List.{AllByRecursion, flat_map, filter_map, list_any, enumerate_from}
use Rattle.std.specs.Option.{option_map}
use Rattle.std.proofs.Common.{◌≡◌, ℕ, ◌+◌, ◌==◌, Bool, true, false, ◌&&◌, ◌||◌, List, [], ◌∷◌, ◌++◌, map, zip, drop, Option, Some, None, refl, sym, ap, ◌∙◌, subst}
use Rattle.std.proofs.lemmas.Bool.{true≢false, false≢true}
use Rattle.t_base.specs.declared.basics.Var.{Var}
use Rattle.escape_marks.specs.Subjects.{Subject, Lambda, Local, Global, is_same}
use Rattle.escape_marks.specs.Subjects as subjects
use Rattle.escape_marks.specs.Facts.{Role, Operator, Operand, ValueOf, Assigned, Other, Occurrence, stands_as}
use Rattle.escape_marks.specs.Inventories.{is_assignment}
use Rattle.cps_ir.specs.declared.args.Arg.{Arg}
use Rattle.cps_ir.specs.declared.terms.Lam.{Lam}
use Rattle.cps_ir.specs.declared.terms.Term.{Term}
use Rattle.cps_ir.specs.declared.terms.Term.TheVariants as Node
use Rattle.cps_ir.specs.declared.terms.Cps.{Cps}
use Rattle.cps_ir.specs.Terms.{args_of}
use Rattle.cps_ir.specs.Parts.{Name, Named, Celled, JoinK, OwnK, variable_of, Part, own_parts, reached_terms, reached_lams, own_binders, lam_binders, binders, is_tail, assigns, is_assigned, global_lams, root_lams}
use Rattle.cps_ir.specs.Reaches.{is_in}
use Rattle.cps_ir.specs.MarkFacts.{variable, lambda, occurrence, name_of, subject_of, operand_role, operand_roles, arg_roles, occurrence_of, named_occurrences, occurrences_in, procedure_globals, root_occurrences, name_bound, names_in, params_of, inventory_of}
use Rattle.cps_ir.proofs.ProperLists.{none_some, some_same, each_append, each_more, each_of}
use Rattle.cps_ir.proofs.Closed.{or_left, or_right}
use Rattle.cps_ir.proofs.Apart.{any_left, any_right, any_or, either_in}
use Rattle.cps_reach.proofs.Values.{values_in, values_of, numbered, values}
use Rattle.cps_reach.proofs.Members.{each_mapped, each_some, any_joined, any_none, same_both}

both_or : (a b c d : Bool) → a ≡ b → c ≡ d → (a || c) ≡ (b || d)
both_or a b c d e f = ap (λ z. z || c) e ∙ ap (λ z. b || z) f

-- ---- names

names_same : (x : ℕ) (names : List Name) → subjects.is_in (filter_map name_bound names) (variable x) ≡ is_in (values_in names) x
names_same x [] = refl
names_same x (Named y ∷ names) = both_or (x == y) (y == x) _ _ (same_both x y) (names_same x names)
names_same x (Celled y ∷ names) = both_or (x == y) (y == x) _ _ (same_both x y) (names_same x names)
names_same x (JoinK y cs ∷ names) = names_same x names
names_same x (OwnK y ∷ names) = names_same x names

parts_same : (x : ℕ) (ps : List Part) → subjects.is_in (flat_map (λ p. filter_map name_bound p.binds) ps) (variable x) ≡ is_in (flat_map (λ p. values_in p.binds) ps) x
parts_same x [] = refl
parts_same x (p ∷ ps) =
    any_joined (is_same (variable x)) (filter_map name_bound p.binds) (flat_map (λ q. filter_map name_bound q.binds) ps)
    ∙ both_or _ _ _ _ (names_same x p.binds) (parts_same x ps) ∙ sym (any_joined (λ z. z == x) (values_in p.binds) (flat_map (λ q. values_in q.binds) ps))

terms_same : (x : ℕ) (ts : List Term) → subjects.is_in (flat_map names_in ts) (variable x) ≡ is_in (flat_map values_of ts) x
terms_same x [] = refl
terms_same x (t ∷ ts) =
    any_joined (is_same (variable x)) (names_in t) (flat_map names_in ts) ∙ both_or _ _ _ _ (parts_same x (own_parts [] t)) (terms_same x ts) ∙ sym (any_joined (λ z. z == x) (values_of t) (flat_map values_of ts))

params_same : (x : ℕ) (vars : List Var) → subjects.is_in (map Local vars) (variable x) ≡ is_in (numbered vars) x
params_same x [] = refl
params_same x (v ∷ vars) = both_or (x == v.0) (v.0 == x) _ _ (same_both x v.0) (params_same x vars)

no_globals : (x : ℕ) (gs : List ℕ) → subjects.is_in (map Global gs) (variable x) ≡ false
no_globals x [] = refl
no_globals x (g ∷ gs) = no_globals x gs

or_none : (a b : Bool) → b ≡ false → (a || b) ≡ a
or_none true b e = refl
or_none false b e = e

pub named_values : (u : Cps) (x : ℕ) → subjects.is_in (inventory_of u).names (variable x) ≡ is_in (values u) x
named_values u x =
    let S = is_same (variable x) in
    let A = flat_map names_in (reached_terms u) in
    let B = map Local (params_of u) in
    let C = map Global (procedure_globals u) in
    let V = flat_map values_of (reached_terms u) in
    let P = numbered (params_of u) in
    let last : list_any S ((A ++ B) ++ C) ≡ list_any S (A ++ B) = any_joined S (A ++ B) C ∙ or_none (list_any S (A ++ B)) (list_any S C) (no_globals x (procedure_globals u)) in
    let all : list_any S (A ++ B) ≡ (list_any S A || list_any S B) = any_joined S A B in
    let each : (list_any S A || list_any S B) ≡ (is_in V x || is_in P x) = both_or (list_any S A) (is_in V x) (list_any S B) (is_in P x) (terms_same x (reached_terms u)) (params_same x (params_of u)) in
    let back : is_in (V ++ P) x ≡ (is_in V x || is_in P x) = any_joined (λ z. z == x) V P in
    last ∙ all ∙ each ∙ sym back

-- ---- what stands for a value is bound

values_bound : (names : List Name) (x : ℕ) → is_in (values_in names) x ≡ true → is_in (map variable_of names) x ≡ true
values_bound [] x i = i
values_bound (Named y ∷ names) x i = any_or (y == x) _ (λ q. or_left (y == x) _ q) (λ r. or_right (y == x) _ (values_bound names x r)) i
values_bound (Celled y ∷ names) x i = any_or (y == x) _ (λ q. or_left (y == x) _ q) (λ r. or_right (y == x) _ (values_bound names x r)) i
values_bound (JoinK y cs ∷ names) x i = or_right (y == x) _ (values_bound names x i)
values_bound (OwnK y ∷ names) x i = or_right (y == x) _ (values_bound names x i)

flat_bound : {X : Type 0} (f g : X → List ℕ) (x : ℕ) → ((y : X) → is_in (f y) x ≡ true → is_in (g y) x ≡ true) → (xs : List X) → is_in (flat_map f xs) x ≡ true → is_in (flat_map g xs) x ≡ true
flat_bound f g x h [] i = i
flat_bound f g x h (y ∷ ys) i = either_in (f y) (flat_map f ys) x (λ l. any_left (λ z. z == x) (g y) (flat_map g ys) (h y l)) (λ r. any_right (λ z. z == x) (g y) (flat_map g ys) (flat_bound f g x h ys r)) i

params_bound : (x : ℕ) (lams : List Lam) → is_in (numbered (flat_map (λ lam. lam.params) lams)) x ≡ true → is_in (flat_map lam_binders lams) x ≡ true
params_bound x [] i = i
params_bound x (lam ∷ lams) i = by_list lam.params (λ h. params_bound x lams h) i
  where
    by_list : (vs : List Var) → (is_in (numbered (flat_map (λ l. l.params) lams)) x ≡ true → is_in (flat_map lam_binders lams) x ≡ true) → is_in (numbered (vs ++ flat_map (λ l. l.params) lams)) x ≡ true → is_in ((numbered vs ++ lam.k.0 ∷ []) ++ flat_map lam_binders lams) x ≡ true
    by_list [] go i = or_right (lam.k.0 == x) _ (go i)
    by_list (v ∷ vs) go i = any_or (v.0 == x) _ (λ q. or_left (v.0 == x) _ q) (λ r. or_right (v.0 == x) _ (by_list vs go r)) i

pub values_are_bound : (u : Cps) (x : ℕ) → is_in (values u) x ≡ true → is_in (binders u) x ≡ true
values_are_bound u x i =
    either_in (flat_map values_of (reached_terms u)) (numbered (params_of u)) x
    (λ l. any_left (λ z. z == x) (flat_map own_binders (reached_terms u)) (flat_map lam_binders (reached_lams u))
    (flat_bound values_of own_binders x (λ t h. flat_bound (λ p. values_in p.binds) (λ p. map variable_of p.binds) x (λ p g. values_bound p.binds x g) (own_parts [] t) h) (reached_terms u) l))
    (λ r. any_right (λ z. z == x) (flat_map own_binders (reached_terms u)) (flat_map lam_binders (reached_lams u)) (params_bound x (reached_lams u) r)) i

-- ---- what is assigned

abbrev pub Plain : Role → Type 0
Plain role = is_assignment role ≡ false

-- where something stands and is neither bound nor assigned
abbrev pub is_use : Role → Bool
is_use Operator = true
is_use (Operand callee place tail) = true
is_use Other = true
is_use (ValueOf name) = false
is_use Assigned = false

abbrev pub IsUse : Role → Type 0
IsUse role = is_use role ≡ true

use_plain : (role : Role) → IsUse role → Plain role
use_plain Operator h = refl
use_plain (Operand callee place tail) h = refl
use_plain Other h = refl
use_plain (ValueOf name) h = refl
use_plain Assigned h = absurd (false≢true h)

operand_used : (callee : Option Subject) (place : ℕ) (tail : Bool) → IsUse (operand_role callee place tail)
operand_used None place tail = refl
operand_used (Some s) place tail = refl

operands_used : (callee : Option Subject) (tail : Bool) (place : ℕ) (args : List Arg) → AllByRecursion (λ (at : Arg × Role). IsUse at.1) (operand_roles callee tail place args)
operands_used callee tail place [] = tt
operands_used callee tail place (a ∷ args) = (operand_used callee place tail, operands_used callee tail (place + 1) args)

others_used : (args : List Arg) → AllByRecursion (λ (at : Arg × Role). IsUse at.1) (map (λ a. (a, Other)) args)
others_used [] = tt
others_used (a ∷ args) = (refl, others_used args)

roles_used : (u : Cps) (t : Term) → AllByRecursion (λ at. IsUse at.1) (arg_roles u t)
roles_used u (Node.Call f args k) = (refl, operands_used (name_of f) (is_tail u k) 0 args)
roles_used u (Node.Join k param body rest) = others_used (args_of (Node.Join k param body rest))
roles_used u (Node.Prim b args k) = others_used (args_of (Node.Prim b args k))
roles_used u (Node.If test a b) = others_used (args_of (Node.If test a b))
roles_used u (Node.Labels vars lams body) = others_used (args_of (Node.Labels vars lams body))
roles_used u (Node.Give k value) = others_used (args_of (Node.Give k value))
roles_used u (Node.Set y value k) = others_used (args_of (Node.Set y value k))
roles_used u (Node.Cell y value rest) = others_used (args_of (Node.Cell y value rest))
roles_used u (Node.CellGet y k) = others_used (args_of (Node.CellGet y k))
roles_used u (Node.CellSet y value k) = others_used (args_of (Node.CellSet y value k))
roles_used u (Node.GlobalGet g k) = others_used (args_of (Node.GlobalGet g k))
roles_used u (Node.GlobalInit g value k) = others_used (args_of (Node.GlobalInit g value k))
roles_used u (Node.GlobalSet g value k) = others_used (args_of (Node.GlobalSet g value k))
roles_used u (Node.Catch y body k) = others_used (args_of (Node.Catch y body k))
roles_used u (Node.Uncatch k value) = others_used (args_of (Node.Uncatch k value))
roles_used u (Node.Object proc ops methods k) = others_used (args_of (Node.Object proc ops methods k))
roles_used u (Node.Halt value) = others_used (args_of (Node.Halt value))

-- what is assigned in an occurrence is no variable but that of a Set
abbrev assigns_in : ℕ → Occurrence → Bool
assigns_in x o = is_same (variable x) o.subject && is_assignment o.role

plain_not : (x : ℕ) (o : Occurrence) → Plain o.role → assigns_in x o ≡ false
plain_not x o e = subst (λ b. (is_same (variable x) o.subject && b) ≡ false) (sym e) (neither (is_same (variable x) o.subject))
  where
    neither : (b : Bool) → (b && false) ≡ false
    neither true = refl
    neither false = refl

of_subject : (s : Option Subject) (role : Role) → IsUse role → (o : Occurrence) → option_map (λ r. occurrence r role) s ≡ Some o → IsUse o.role
of_subject None role h o e = none_some o e
of_subject (Some s) role h o e = subst (λ r. IsUse r.role) (some_same (occurrence s role) o e) h

pub args_used : (u : Cps) (t : Term) → AllByRecursion (λ o. IsUse o.role) (filter_map occurrence_of (arg_roles u t))
args_used u t = each_some (λ o. IsUse o.role) occurrence_of (arg_roles u t) (each_more (λ at. IsUse at.1) (λ at. (o : Occurrence) → occurrence_of at ≡ Some o → IsUse o.role) (arg_roles u t) (λ at h o e. of_subject (subject_of at.0) at.1 h o e) (roles_used u t))

args_plain : (u : Cps) (t : Term) → AllByRecursion (λ o. Plain o.role) (filter_map occurrence_of (arg_roles u t))
args_plain u t = each_more (λ o. IsUse o.role) (λ o. Plain o.role) (filter_map occurrence_of (arg_roles u t)) (λ o h. use_plain o.role h) (args_used u t)

labels_plain : (xs : List (Var × ℕ)) → AllByRecursion (λ o. Plain o.role) (map (λ at. occurrence (lambda at.1) (ValueOf (Local at.0))) xs)
labels_plain [] = tt
labels_plain (x ∷ xs) = (refl, labels_plain xs)

named_assigned : (x : ℕ) (t : Term) → list_any (assigns_in x) (named_occurrences t) ≡ true → assigns x t ≡ true
named_assigned x (Node.Labels vars lams body) h = absurd (true≢false (sym h ∙ any_none (assigns_in x) (named_occurrences (Node.Labels vars lams body)) (each_more (λ o. Plain o.role) (λ o. assigns_in x o ≡ false) (named_occurrences (Node.Labels vars lams body)) (λ o p. plain_not x o p) (labels_plain (zip vars lams)))))
named_assigned x (Node.Set y value k) h = any_or ((x == y.0) && true) false (λ q. sym (same_both x y.0) ∙ of_and (x == y.0) q) (λ q. absurd (false≢true q)) h
  where
    of_and : (b : Bool) → (b && true) ≡ true → b ≡ true
    of_and true q = refl
    of_and false q = q
named_assigned x (Node.Join k param body rest) h = absurd (false≢true h)
named_assigned x (Node.Call f args k) h = absurd (false≢true h)
named_assigned x (Node.Prim b args k) h = absurd (false≢true h)
named_assigned x (Node.If test a b) h = absurd (false≢true h)
named_assigned x (Node.Give k value) h = absurd (false≢true h)
named_assigned x (Node.Cell y value rest) h = absurd (false≢true h)
named_assigned x (Node.CellGet y k) h = absurd (false≢true h)
named_assigned x (Node.CellSet y value k) h = absurd (false≢true h)
named_assigned x (Node.GlobalGet g k) h = absurd (false≢true h)
named_assigned x (Node.GlobalInit g value k) h = absurd (false≢true h)
named_assigned x (Node.GlobalSet g value k) h = absurd (false≢true h)
named_assigned x (Node.Catch y body k) h = absurd (false≢true h)
named_assigned x (Node.Uncatch k value) h = absurd (false≢true h)
named_assigned x (Node.Object proc ops methods k) h = absurd (false≢true h)
named_assigned x (Node.Halt value) h = absurd (false≢true h)

term_assigned : (u : Cps) (x : ℕ) (t : Term) → list_any (assigns_in x) (occurrences_in u t) ≡ true → assigns x t ≡ true
term_assigned u x t h =
    let args = filter_map occurrence_of (arg_roles u t) in
    any_or (list_any (assigns_in x) args) (list_any (assigns_in x) (named_occurrences t))
    (λ q. absurd (true≢false (sym q ∙ any_none (assigns_in x) args (each_more (λ o. Plain o.role) (λ o. assigns_in x o ≡ false) args (λ o p. plain_not x o p) (args_plain u t)))))
    (named_assigned x t) (sym (any_joined (assigns_in x) args (named_occurrences t)) ∙ h)

terms_assigned : (u : Cps) (x : ℕ) (ts : List Term) → list_any (assigns_in x) (flat_map (occurrences_in u) ts) ≡ true → list_any (assigns x) ts ≡ true
terms_assigned u x [] h = h
terms_assigned u x (t ∷ ts) h =
    any_or (list_any (assigns_in x) (occurrences_in u t)) (list_any (assigns_in x) (flat_map (occurrences_in u) ts)) (λ q. or_left (assigns x t) _ (term_assigned u x t q)) (λ r. or_right (assigns x t) _ (terms_assigned u x ts r))
    (sym (any_joined (assigns_in x) (occurrences_in u t) (flat_map (occurrences_in u) ts)) ∙ h)

roots_plain : (u : Cps) → AllByRecursion (λ o. Plain o.role) (root_occurrences u)
roots_plain u =
    each_append (λ o. Plain o.role) (map (λ at. occurrence (lambda at.0) (ValueOf (Global at.1))) (enumerate_from 0 (procedure_globals u))) (map (λ at. occurrence (lambda at.0) Other) (enumerate_from (global_lams u) (drop (global_lams u) (root_lams u))))
    (each_mapped (λ o. Plain o.role) (λ at. occurrence (lambda at.0) (ValueOf (Global at.1))) (enumerate_from 0 (procedure_globals u)) (each_of (λ at. Plain (ValueOf (Global at.1))) (enumerate_from 0 (procedure_globals u)) (λ at. refl)))
    (each_mapped (λ o. Plain o.role) (λ at. occurrence (lambda at.0) Other) (enumerate_from (global_lams u) (drop (global_lams u) (root_lams u))) (each_of (λ at. Plain Other) (enumerate_from (global_lams u) (drop (global_lams u) (root_lams u))) (λ at. refl)))

-- a variable that stands assigned is one that a Set assigns
pub assigned_is : (u : Cps) (x : ℕ) → stands_as (inventory_of u).occurrences is_assignment (variable x) ≡ true → is_assigned u x ≡ true
assigned_is u x h =
    any_or (list_any (assigns_in x) (root_occurrences u)) (list_any (assigns_in x) (flat_map (occurrences_in u) (reached_terms u)))
    (λ q. absurd (true≢false (sym q ∙ any_none (assigns_in x) (root_occurrences u) (each_more (λ o. Plain o.role) (λ o. assigns_in x o ≡ false) (root_occurrences u) (λ o p. plain_not x o p) (roots_plain u)))))
    (terms_assigned u x (reached_terms u)) (sym (any_joined (assigns_in x) (root_occurrences u) (flat_map (occurrences_in u) (reached_terms u))) ∙ h)
