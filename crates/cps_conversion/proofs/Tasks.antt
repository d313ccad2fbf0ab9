-- Each task is followed: by induction on the bound of the evaluation.
use Rattle.std.proofs.Common.{◌≡◌, ℕ, zero, suc, ◌+◌, ◌*◌, ◌≤◌, List, length, Option, Some, None, refl, ap, arith}
use Rattle.t_core.specs.declared.forms.Core.{Core}
use Rattle.t_core.specs.declared.forms.Core.TheVariants as Node
use Rattle.t_meaning.specs.Programs.{Marking, node_at}
use Rattle.t_meaning.specs.State.{State as Made, entered}
use Rattle.t_meaning.specs.Outcomes.{Evaluate}
use Rattle.t_meaning.specs.Expressions.{evaluate}
use Rattle.t_meaning.specs.Application.{enter, apply}
use Rattle.t_meaning.specs.Performing.{perform}
use Rattle.cps_ir.specs.States.{Marking as CpsMarking, Waiting, At, Calling, Entering, State, going, counting}
use Rattle.cps_conversion.specs.Conversion.{Translation, ConvertsNode, ConvertsWithin}
use Rattle.cps_conversion.proofs.Scopes.{total}
use Rattle.cps_conversion.proofs.Relate.{Kinds}
use Rattle.cps_conversion.proofs.Paths.{runs_node, runs_since}
use Rattle.cps_conversion.proofs.Claims.{before, behind, Facts, Base, Ready, Given, Returned, Away, Claims, LateClaim, ApplyClaim, EnterClaim, out_now, common_of}
use Rattle.cps_conversion.proofs.Spots.{Spot, Goal}
use Rattle.cps_conversion.proofs.Atoms.{const_runs, local_runs, global_runs, builtin_runs, op_runs, lambda_runs}
use Rattle.cps_conversion.proofs.Terms.{prim_runs, if_runs, block_runs, set_global_runs, object_runs}
use Rattle.cps_conversion.proofs.Calls.{call_runs}
use Rattle.cps_conversion.proofs.Lets.{let_runs}
use Rattle.cps_conversion.proofs.Sets.{assigned_by_set, set_local_runs}
use Rattle.cps_conversion.proofs.Catches.{catch_runs}
use Rattle.cps_conversion.proofs.Labels.{labels_runs}
use Rattle.cps_conversion.proofs.Applying.{apply_run, enter_run}

module _ (x : Translation) (M : ℕ) (marks : Marking) (escapes : CpsMarking) (facts : Facts x M marks escapes) where
  node_runs : (n : ℕ) (cl : Claims x M marks escapes n) (z : Spot x M marks escapes facts n cl) (key : ℕ) (o : Option Core) → node_at x.unit z.c.form key ≡ o → z.owed + 5 ≤ z.has → ConvertsNode x (ConvertsWithin x z.m) z.c.form z.bound z.held key o z.k z.place → Goal x M marks escapes facts n cl z (evaluate (before x M marks escapes) (perform (before x M marks escapes) n) z.d key z.c o z.s)
  node_runs n cl z key None e le h = absurd h
  node_runs n cl z key (Some (Node.Const k)) e le h = const_runs x M marks escapes facts n cl z k le h
  node_runs n cl z key (Some (Node.Local v)) e le h = local_runs x M marks escapes facts n cl z v le h.0 h.1
  node_runs n cl z key (Some (Node.Global g)) e le h = global_runs x M marks escapes facts n cl z g le h
  node_runs n cl z key (Some (Node.Builtin b)) e le h = builtin_runs x M marks escapes facts n cl z b le h
  node_runs n cl z key (Some (Node.Op o)) e le h = op_runs x M marks escapes facts n cl z o le h
  node_runs n cl z key (Some (Node.Lambda params body)) e le h = lambda_runs x M marks escapes facts n cl z key params body le h
  node_runs n cl z key (Some (Node.If test first second)) e le h = if_runs x M marks escapes facts n cl z test first second le h
  node_runs n cl z key (Some (Node.Block items)) e le h = block_runs x M marks escapes facts n cl z items le h
  node_runs n cl z key (Some (Node.Let vars values body)) e le h = let_runs x M marks escapes facts n cl z vars values body le h
  node_runs n cl z key (Some (Node.Labels vars lambdas body)) e le h = labels_runs x M marks escapes facts n cl z vars lambdas body le h
  node_runs n cl z key (Some (Node.SetLocal v value)) e le h = set_local_runs x M marks escapes facts n cl z v value (assigned_by_set x.unit z.c.form key v value e) le h.0 h.1
  node_runs n cl z key (Some (Node.SetGlobal g value)) e le h = set_global_runs x M marks escapes facts n cl z g value le h.0 h.1
  node_runs n cl z key (Some (Node.Catch v body)) e le h = catch_runs x M marks escapes facts n cl z v body le h
  node_runs n cl z key (Some (Node.Object proc methods)) e le h = object_runs x M marks escapes facts n cl z proc methods le h
  node_runs n cl z key (Some (Node.Call operator operands tail)) e le h = call_runs x M marks escapes facts n cl z operator operands le h
  node_runs n cl z key (Some (Node.Prim b operands)) e le h = prim_runs x M marks escapes facts n cl z b operands le h

  late_next : (n : ℕ) → Claims x M marks escapes n → LateClaim x M marks escapes (suc n) (perform (before x M marks escapes) (suc n))
  late_next n cl zero c key bound held k place d owed sc ws b since from kinds s t grown h le waits here = absurd h
  late_next n cl (suc m) c key bound held k place d owed sc ws b since from kinds s t grown h le waits here =
      runs_node (behind x M marks escapes) M (Away x M marks escapes ws b) m n (going (At place sc) t) (entered d s) (entered d s) (evaluate (before x M marks escapes) (perform (before x M marks escapes) n) d key c (node_at x.unit c.form key) (entered d s)) (Given x M marks escapes held k sc ws since from owed) (omega arith)
      (node_runs n cl (record {
        m = m;
        c = c;
        bound = bound;
        held = held;
        k = k;
        place = place;
        d = d;
        has = owed + 5;
        owed = owed;
        sc = sc;
        ws = ws;
        b = b;
        since = since;
        from = from;
        kinds = kinds;
        s = entered d s;
        t = t;
        shallow = omega (arith, le);
        waits = waits;
        deep = omega arith;
        least = here.ready.least;
        grown = grown;
        here = record { ready = record { waiting = here.ready.waiting; least = (let l = here.ready.least in omega (arith, l)); grown = here.ready.grown; sync = record { world = here.ready.sync.world; moves = omega (arith, here.ready.sync.moves) } }; inside = here.inside; env_as = here.env_as };
      }) key (node_at x.unit c.form key) refl (omega arith) h)

  -- the debt behind a call
  call_ready : (owed count d : ℕ) (ws : List Waiting) (b : Base x M marks escapes) (kinds : Kinds) (s : Made) (t : State) → b.owed ≤ owed → Ready x M marks escapes ws b (owed + 2 * count) kinds s t → Ready x M marks escapes ws b (owed + 4 + 2 * count) kinds (entered d s) (counting 1 t)
  call_ready owed count d ws b kinds s t least y = record { waiting = y.waiting; least = omega (arith, least); grown = y.grown; sync = record { world = y.sync.world; moves = omega (arith, y.sync.moves) } }

  apply_next : (n : ℕ) → Claims x M marks escapes n → ApplyClaim x M marks escapes (suc n) (perform (before x M marks escapes) (suc n))
  apply_next n cl m d owed g args ws b since from kinds s t grown waits deep least y =
      runs_since (behind x M marks escapes) M (Away x M marks escapes ws b) m (suc n) (going (Calling g args) t) s (entered d s) (apply (before x M marks escapes) (perform (before x M marks escapes) n) d g args (entered d s)) (Returned x M marks escapes ws since from owed) (omega arith)
      (apply_run x M marks escapes facts n cl (record {
        m = m;
        d = d;
        owed = owed;
        args = args;
        ws = ws;
        b = b;
        since = since;
        from = from;
        kinds = kinds;
        s = entered d s;
        control = Calling g args;
        t = t;
        waits = waits;
        deep = omega arith;
        least = least;
        grown = grown;
        ready = call_ready owed (length args) d ws b kinds s (going (Calling g args) t) least (record { waiting = y.waiting; least = y.least; grown = y.grown; sync = record { world = y.sync.world; moves = y.sync.moves } });
      }) g refl)

  enter_next : (n : ℕ) → Claims x M marks escapes n → EnterClaim x M marks escapes (suc n) (perform (before x M marks escapes) (suc n))
  enter_next n cl m d owed f c args ws b since from kinds s t grown waits deep least a y =
      runs_since (behind x M marks escapes) M (Away x M marks escapes ws b) m (suc n) (going (Entering c args) t) s (entered d s) (enter (before x M marks escapes) (perform (before x M marks escapes) n) d f args (entered d s)) (Returned x M marks escapes ws since from owed) (omega arith)
      (enter_run x M marks escapes facts n cl (record {
        m = m;
        d = d;
        owed = owed;
        args = args;
        ws = ws;
        b = b;
        since = since;
        from = from;
        kinds = kinds;
        s = entered d s;
        control = Entering c args;
        t = t;
        waits = waits;
        deep = omega arith;
        least = least;
        grown = grown;
        ready = call_ready owed (length args) d ws b kinds s (going (Entering c args) t) least (record { waiting = y.waiting; least = y.least; grown = y.grown; sync = record { world = y.sync.world; moves = y.sync.moves } });
      }) f c a refl)

  zero_suc : {Z : Type 0} (j : ℕ) → 0 ≡ suc j → Z
  zero_suc j e = absurd (omega (arith, e))

  pub claims : (n : ℕ) → Claims x M marks escapes n
  claims zero = record {
    evaluates = λ m c key bound held k place d owed sc ws b since from kinds s t grown h le waits deep here. out_now x M marks escapes (Away x M marks escapes ws b) m owed (going (At place sc) t) kinds s t (Given x M marks escapes held k sc ws since from owed) (omega (arith, deep, ap total here.ready.waiting)) refl (common_of x M marks escapes owed kinds s t here.ready.sync);
    late = λ j e. zero_suc j e;
    applies = λ m d owed g args ws b since from kinds s t grown waits deep least y. out_now x M marks escapes (Away x M marks escapes ws b) m owed (going (Calling g args) t) kinds s t (Returned x M marks escapes ws since from owed) (omega (arith, deep, ap total y.waiting)) refl (common_of x M marks escapes (owed + 2 * length args) kinds s t y.sync);
    enters = λ m d owed f c args ws b since from kinds s t grown waits deep least a y. out_now x M marks escapes (Away x M marks escapes ws b) m owed (going (Entering c args) t) kinds s t (Returned x M marks escapes ws since from owed) (omega (arith, deep, ap total y.waiting)) refl (common_of x M marks escapes (owed + 2 * length args) kinds s t y.sync);
  }
  claims (suc n) = let cl = claims n in record {
    evaluates = λ m c key bound held k place d owed sc ws b since from kinds s t grown h le waits deep here. runs_since (behind x M marks escapes) M (Away x M marks escapes ws b) m (suc n) (going (At place sc) t) s (entered d s) (perform (before x M marks escapes) (suc n) d (Evaluate key c) s) (Given x M marks escapes held k sc ws since from owed) (omega arith) (late_next n cl m c key bound held k place d owed sc ws b since from kinds s t grown h le waits here);
    late = λ j e. late_next n cl;
    applies = apply_next n cl;
    enters = enter_next n cl;
  }
