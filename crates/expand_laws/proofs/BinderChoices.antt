-- What is chosen for nodes that bind variables.
use Rattle.std.proofs.Common.{◌≡◌, ℕ, zero, suc, ◌+◌, Bool, true, false, IsTrue, List, [], ◌∷◌, ◌++◌, map, length, refl, sym, ap, ◌∙◌, arith}
use Rattle.std.specs.List.{AllByRecursion}
use Rattle.std.proofs.lemmas.List.{length-append}
use Rattle.std.proofs.lemmas.List.Elements.{All-from_recursion}
use Rattle.t_base.specs.declared.basics.Var.{Var}
use Rattle.t_core.specs.declared.forms.Core.{Core}
use Rattle.t_core.specs.declared.forms.Core.TheVariants as Node
use Rattle.t_core.specs.Nodes.{part}
use Rattle.t_core.specs.Whole.{is_lambda_at}
use Rattle.t_forms.specs.Data.{Datum, Name}
use Rattle.t_forms.specs.Names.{Scope}
use Rattle.t_rows.specs.Rows.{lambda, let_, labels, catch_, Part, plain, inside}
use Rattle.expansion.specs.Lists.{numbered}
use Rattle.expand_laws.proofs.Choices.{first, early_seats, early_seated, early_placed, early_count}
use Rattle.expand_laws.proofs.Counting.{numbered_length}
use Rattle.expand_laws.proofs.Few.{few_node}
use Rattle.expand_laws.proofs.Gaining.{gains_node, with_vars}
use Rattle.expand_laws.proofs.Made.{Stock}
use Rattle.expand_laws.proofs.Placing.{Seat, seat, placed}
use Rattle.expand_laws.proofs.Reached.{IsProcedurePart}
use Rattle.expand_laws.proofs.Segments.{AreLambdas, AreSeated, Choice}

body_placed : (vars : List Var) (tail : Bool) (ks : List ℕ) → length ks ≡ 1 → part (first ks) vars tail ∷ [] ≡ placed (seat vars tail ∷ []) ks
body_placed vars tail [] e = absurd (omega arith)
body_placed vars tail (k ∷ []) e = refl
body_placed vars tail (k ∷ l ∷ ks) e = absurd (omega arith)

abbrev first_binds : List Part → List Name
first_binds [] = []
first_binds (p ∷ ps) = p.binds

pub lambda_choice : (names : List (List ℕ)) (vars : List Var) (scope : Scope) (tail : Bool) (ns : List Name) (d : Datum) (before : Stock)
    → Choice names vars scope tail lambda (inside ns d ∷ []) before
lambda_choice names vars scope tail ns d before =
    let n = length ns in
    let params = numbered before.next n in
    record {
      seats = seat params true ∷ [];
      seated = (sym (numbered_length before.next n), tt);
      after = with_vars before n;
      few = few_node before n lambda;
      core = λ ks. Node.Lambda params (first ks);
      gains = λ ks e. gains_node names before n (Node.Lambda params (first ks)) refl refl refl;
      parts_are = λ ks e. body_placed params true ks e;
      fits = λ ks e shared h. tt;
      in_place = λ ks. tt;
      shaped = λ ks e shared all h i. tt;
      named = λ ks shared h i. tt;
      is_lambda = λ ks e. refl;
      lambda_is = λ ks e ms f g h. (params, first ks, refl, numbered_length before.next n ∙ ap (λ l. length (first_binds l)) g);
    }

pub catch_choice : (names : List (List ℕ)) (vars : List Var) (scope : Scope) (tail : Bool) (n : Name) (d : Datum) (before : Stock)
    → Choice names vars scope tail catch_ (inside (n ∷ []) d ∷ []) before
catch_choice names vars scope tail n d before =
    let v : Var = record { 0 = before.next } in
    record {
      seats = seat (v ∷ []) false ∷ [];
      seated = (refl, tt);
      after = with_vars before 1;
      few = few_node before 1 catch_;
      core = λ ks. Node.Catch v (first ks);
      gains = λ ks e. gains_node names before 1 (Node.Catch v (first ks)) refl refl refl;
      parts_are = λ ks e. body_placed (v ∷ []) false ks e;
      fits = λ ks e shared h. tt;
      in_place = λ ks. tt;
      shaped = λ ks e shared all h i. tt;
      named = λ ks shared h i. tt;
      is_lambda = λ ks e. cc;
      lambda_is = λ ks e ms f g h. absurd (other e);
    }
  where
    other : catch_ ≡ lambda → ⊥
    other e = cc

-- ---- a body behind other parts

-- what is before the list's last item, and that item
abbrev pub front : List ℕ → List ℕ
front [] = []
front (k ∷ []) = []
front (k ∷ l ∷ ks) = k ∷ front (l ∷ ks)

abbrev pub last : List ℕ → ℕ
last [] = 0
last (k ∷ []) = k
last (k ∷ l ∷ ks) = last (l ∷ ks)

front_count : (seats : List Seat) (s : Seat) (ks : List ℕ) → length ks ≡ length (seats ++ s ∷ []) → length (front ks) ≡ length seats
front_count seats s ks e = by ks (length seats) (e ∙ length-append seats (s ∷ []))
  where
    by : (ks : List ℕ) (n : ℕ) → length ks ≡ n + 1 → length (front ks) ≡ n
    by [] n e = absurd (omega arith)
    by (k ∷ []) n e = omega arith
    by (k ∷ l ∷ ks) zero e = absurd (omega arith)
    by (k ∷ l ∷ ks) (suc n) e = ap suc (by (l ∷ ks) n (omega arith))

last_placed : (seats : List Seat) (s : Seat) (ks : List ℕ) → length ks ≡ length (seats ++ s ∷ []) → placed (seats ++ s ∷ []) ks ≡ placed seats (front ks) ++ part (last ks) s.binds s.tail ∷ []
last_placed [] s [] e = absurd (omega arith)
last_placed [] s (k ∷ []) e = refl
last_placed [] s (k ∷ l ∷ ks) e = absurd (omega arith)
last_placed (t ∷ seats) s [] e = absurd (omega arith)
last_placed (t ∷ seats) s (k ∷ []) e = absurd (omega (arith, length-append seats (s ∷ [])))
last_placed (t ∷ seats) s (k ∷ l ∷ ks) e = ap (λ x. part k t.binds t.tail ∷ x) (last_placed seats s (l ∷ ks) (omega arith))

seated_push : (ps : List Part) (seats : List Seat) (p : Part) (s : Seat) → AreSeated ps seats → length p.binds ≡ length s.binds → AreSeated (ps ++ p ∷ []) (seats ++ s ∷ [])
seated_push [] [] p s h e = (e, tt)
seated_push [] (t ∷ seats) p s h e = absurd h
seated_push (q ∷ ps) [] p s h e = absurd h
seated_push (q ∷ ps) (t ∷ seats) p s h e = (h.0, seated_push ps seats p s h.1 e)

pub let_choice : (names : List (List ℕ)) (vars : List Var) (scope : Scope) (tail : Bool) (ds : List Datum) (ns : List Name) (d : Datum) (before : Stock) → length ns ≡ length ds
    → Choice names vars scope tail let_ (map plain ds ++ inside ns d ∷ []) before
let_choice names vars scope tail ds ns d before same =
    let n = length ns in
    let bound = numbered before.next n in
    let s : Seat = seat bound tail in
    record {
      seats = early_seats ds ++ s ∷ [];
      seated = seated_push (map plain ds) (early_seats ds) (inside ns d) s (early_seated ds) (sym (numbered_length before.next n));
      after = with_vars before n;
      few = few_node before n let_;
      core = λ ks. Node.Let bound (front ks) (last ks);
      gains = λ ks e. gains_node names before n (Node.Let bound (front ks) (last ks)) refl refl refl;
      parts_are = λ ks e.
          ap (λ l. l ++ part (last ks) bound tail ∷ []) (early_placed ds (front ks) (front_count (early_seats ds) s ks e)) ∙ sym (last_placed (early_seats ds) s ks e);
      fits = λ ks e shared h. tt;
      in_place = λ ks. tt;
      shaped = λ ks e shared all h i. numbered_length before.next n ∙ same ∙ sym (front_count (early_seats ds) s ks e ∙ early_count ds);
      named = λ ks shared h i. tt;
      is_lambda = λ ks e. cc;
      lambda_is = λ ks e ms f g h. absurd (other e);
    }
  where
    other : let_ ≡ lambda → ⊥
    other e = cc

-- ---- LABELS

abbrev pub label_seats : List Var → List Part → List Seat
label_seats bound [] = []
label_seats bound (p ∷ ps) = seat bound false ∷ label_seats bound ps

label_count : (bound : List Var) (ps : List Part) → length (label_seats bound ps) ≡ length ps
label_count bound [] = refl
label_count bound (p ∷ ps) = ap suc (label_count bound ps)

label_seated : (bound : List Var) (n : ℕ) (ps : List Part) → length bound ≡ n → AllByRecursion (IsProcedurePart n) ps → AreSeated ps (label_seats bound ps)
label_seated bound n [] e h = tt
label_seated bound n (p ∷ ps) e h = ((h.0).0 ∙ sym e, label_seated bound n ps e h.1)

label_placed : (bound : List Var) (ps : List Part) (ks : List ℕ) → length ks ≡ length (label_seats bound ps) → map (λ k. part k bound false) ks ≡ placed (label_seats bound ps) ks
label_placed bound [] [] e = refl
label_placed bound [] (k ∷ ks) e = absurd (omega arith)
label_placed bound (p ∷ ps) [] e = absurd (omega arith)
label_placed bound (p ∷ ps) (k ∷ ks) e = ap (λ l. part k bound false ∷ l) (label_placed bound ps ks (omega arith))

label_lambdas : (all : List Core) (n : ℕ) (ps : List Part) (body : Part) (ks : List ℕ) → length ks ≡ length (ps ++ body ∷ []) → AllByRecursion (IsProcedurePart n) ps → AreLambdas all (ps ++ body ∷ []) ks
    → AllByRecursion (λ k. IsTrue (is_lambda_at all k)) (front ks)
label_lambdas all n [] body [] e h i = tt
label_lambdas all n [] body (k ∷ []) e h i = tt
label_lambdas all n [] body (k ∷ l ∷ ks) e h i = absurd (omega arith)
label_lambdas all n (p ∷ ps) body [] e h i = tt
label_lambdas all n (p ∷ ps) body (k ∷ []) e h i = tt
label_lambdas all n (p ∷ ps) body (k ∷ l ∷ ks) e h i = (i.0 (h.0).1, label_lambdas all n ps body (l ∷ ks) (omega arith) h.1 i.1)

pub labels_choice : (names : List (List ℕ)) (vars : List Var) (scope : Scope) (tail : Bool) (ps : List Part) (body : Part) (before : Stock) → length body.binds ≡ length ps
    → AllByRecursion (IsProcedurePart (length ps)) ps → Choice names vars scope tail labels (ps ++ body ∷ []) before
labels_choice names vars scope tail ps body before same procs =
    let n = length ps in
    let bound = numbered before.next n in
    let s : Seat = seat bound tail in
    let count : length bound ≡ n = numbered_length before.next n in
    record {
      seats = label_seats bound ps ++ s ∷ [];
      seated = seated_push ps (label_seats bound ps) body s (label_seated bound n ps count procs) (same ∙ sym count);
      after = with_vars before n;
      few = few_node before n labels;
      core = λ ks. Node.Labels bound (front ks) (last ks);
      gains = λ ks e. gains_node names before n (Node.Labels bound (front ks) (last ks)) refl refl refl;
      parts_are = λ ks e.
          ap (λ l. l ++ part (last ks) bound tail ∷ []) (label_placed bound ps (front ks) (front_count (label_seats bound ps) s ks e)) ∙ sym (last_placed (label_seats bound ps) s ks e);
      fits = λ ks e shared h. tt;
      in_place = λ ks. tt;
      shaped = λ ks e shared all h i. (
        count ∙ sym (front_count (label_seats bound ps) s ks e ∙ label_count bound ps),
        All-from_recursion (λ k. IsTrue (is_lambda_at all k)) (front ks)
            (label_lambdas all n ps body ks (omega (arith, e, length-append (label_seats bound ps) (s ∷ []), label_count bound ps, length-append ps (body ∷ []))) procs i),
      );
      named = λ ks shared h i. tt;
      is_lambda = λ ks e. cc;
      lambda_is = λ ks e ms f g h. absurd (other e);
    }
  where
    other : labels ≡ lambda → ⊥
    other e = cc
