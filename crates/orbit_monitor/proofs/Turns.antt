-- What an instruction and a service come to, and how they carry a run further.
use Rattle.std.proofs.Common.{◌≡◌, ℕ, zero, suc, ◌+◌, ◌-◌, ◌≤◌, ◌<◌, List, [], ◌∷◌, ◌++◌, length, Option, Some, None, refl, sym, ap, subst, ◌∙◌, arith, slice_get}
use Rattle.m68020_step.specs.declared.machine.Step.TheVariants as step
use Rattle.m68020_step.specs.declared.registers.Why.{Why}
use Rattle.m68020_step.specs.Step.{State, step_of}
use Rattle.t_base.specs.declared.faults.Face.{Face}
use Rattle.machine_services.specs.declared.exit.Exit.{Exit}
use Rattle.machine_services.specs.declared.exit.Exit.TheVariants as exit
use Rattle.orbit_monitor.specs.declared.services.Outcome.{Outcome}
use Rattle.machine_services.specs.Services.{Served, Puts, Exits, Bad, or_bad, serve}
use Rattle.machine_services.specs.Runs.{Progress, act, served, stepped, followed}
use Rattle.orbit_monitor.specs.Answering.{Loaded, run_on, last_after, after, AsksToPut, pieces_served, pieces_stepped, pieces_next, pieces_within, FailsAtPut}
use Rattle.orbit_monitor.specs.Turn.{outcome_of, put_of, or_else, settled, FailsIn, FailsInTurn}
use Rattle.machine_services.proofs.Runs.{run_from-next, further-going, run_from-add, run_from-ended}

-- the last byte of some bytes
last-cons : (x : ℕ) (bytes : List ℕ) → last_after (Some x) bytes ≡ slice_get (x ∷ bytes) (length bytes)
last-cons x [] = refl
last-cons x (y ∷ rest) = last-cons y rest

pub last_after-none : (bytes : List ℕ) → last_after None bytes ≡ slice_get bytes (length bytes - 1)
last_after-none [] = refl
last_after-none (x ∷ rest) = let same : length rest ≡ length (x ∷ rest) - 1 = omega arith in last-cons x rest ∙ ap (λ (i : ℕ). slice_get (x ∷ rest) i) same

some_last : (x : ℕ) (bytes : List ℕ) → (y : ℕ) × (last_after (Some x) bytes ≡ Some y)
some_last x [] = (x, refl)
some_last x (y ∷ rest) = some_last y rest

-- Only the last byte of a put counts.
pub last_after-or_else : (last : Option ℕ) (bytes : List ℕ) → or_else (last_after None bytes) last ≡ last_after last bytes
last_after-or_else last [] = refl
last_after-or_else last (x ∷ rest) =
    let p = some_last x rest in
    ap (λ (o : Option ℕ). or_else o last) p.1 ∙ sym p.1

pub last_after-append : (last : Option ℕ) (xs ys : List ℕ) → last_after (last_after last xs) ys ≡ last_after last (xs ++ ys)
last_after-append last [] ys = refl
last_after-append last (x ∷ xs) ys = last_after-append (Some x) xs ys

-- A halt puts nothing.
pub halt-puts_nothing : (o : Option Face) → put_of (or_bad (λ face. Exits (exit.Done face)) o) ≡ []
halt-puts_nothing (Some face) = refl
halt-puts_nothing None = refl

-- what an instruction comes to, by the answer of its step
pub act-on : (names : List (List ℕ)) (s t : State) → (step.On, t) ≡ step_of s → act names s ≡ record { state = t; output = []; end = None; instructions = 1 }
act-on names s t is = ap (λ (x : _). stepped names s.registers.pc x) (sym is)

pub act-stop : (names : List (List ℕ)) (s t : State) (why : Why) → (step.Stop why, t) ≡ step_of s → act names s ≡ record { state = t; output = []; end = Some (exit.Stop why s.registers.pc); instructions = 0 }
act-stop names s t why is = ap (λ (x : _). stepped names s.registers.pc x) (sym is)

pub act-service : (names : List (List ℕ)) (s t : State) (vector : ℕ) → (step.Service vector, t) ≡ step_of s → act names s ≡ served t s.registers.pc (serve names t vector)
act-service names s t vector is = ap (λ (x : _). stepped names s.registers.pc x) (sym is)

pub served-output : (s : State) (at : ℕ) (v : Served) → (served s at v).output ≡ put_of v
served-output s at (Puts bytes) = refl
served-output s at (Exits how) = refl
served-output s at Bad = refl

pub act-output : (names : List (List ℕ)) (s t : State) (vector : ℕ) → (step.Service vector, t) ≡ step_of s → (act names s).output ≡ put_of (serve names t vector)
act-output names s t vector is =
    ap (λ (p : Progress). p.output) (act-service names s t vector is) ∙ served-output t s.registers.pc (serve names t vector)

-- A service is settled as the run has it.
pub settled-served : (b : Loaded) (s : State) (at : ℕ) (v : Served) → b.end ≡ None → settled (record b { state = s }) (outcome_of v) at ≡ after b (served s at v)
settled-served b s at (Puts bytes) going =
    ap (λ (o : Option Exit). let x : Loaded = record { names = b.names; state = s; end = o; last = or_else (last_after None bytes) b.last } in x) going
    ∙ ap (λ (l : Option ℕ). let x : Loaded = record { names = b.names; state = s; end = None; last = l } in x) (last_after-or_else b.last bytes)
settled-served b s at (Exits how) going = refl
settled-served b s at Bad going = refl

pub turn-service : (b d : Loaded) (t : State) (vector at : ℕ) (o : Outcome) → (step.Service vector, t) ≡ step_of b.state → at ≡ b.state.registers.pc → b.end ≡ None → o ≡ outcome_of (serve b.names t vector) → d ≡ settled (record b { state = t }) o at → d ≡ after b (act b.names b.state)
turn-service b d t vector at o is here going came new =
    new
    ∙ ap (λ (x : Outcome). settled (record b { state = t }) x at) came
    ∙ ap (λ (n : ℕ). settled (record b { state = t }) (outcome_of (serve b.names t vector)) n) here
    ∙ settled-served b t b.state.registers.pc (serve b.names t vector) going
    ∙ sym (ap (λ (p : Progress). after b p) (act-service b.names b.state t vector is))

module _ {S : Type 0} (took : S → List ℕ → S → Type 0) where
  -- A put that fails in a service fails in its instruction.
  pub FailsInTurn-service : (b : Loaded) (s : State) (vector : ℕ) (old new : S) → (step.Service vector, s) ≡ step_of b.state → b.end ≡ None → FailsIn took (serve b.names s vector) old new → FailsInTurn took b (record b { state = s }) old new
  FailsInTurn-service b s vector old new is going f =
      let acted : act b.names b.state ≡ record { state = s; output = f.bytes; end = None; instructions = 1 } = act-service b.names b.state s vector is ∙ ap (λ (v : Served). served s b.state.registers.pc v) f.is in record {
        asks = record { vector = vector; behind = s; asked = sym is; bytes = f.bytes; puts = f.is };
        front = f.front;
        rest = f.rest;
        due = ap (λ (p : Progress). p.output) acted ∙ f.due;
        given = f.given;
        goes_on = ap (λ (p : Progress). p.end) acted;
        loaded =
            ap (λ (o : Option Exit). let x : Loaded = record { names = b.names; state = s; end = o; last = b.last } in x) going
            ∙ sym (ap (λ (p : Progress). let x : Loaded = record { names = b.names; state = p.state; end = p.end; last = b.last } in x) acted);
      }

-- so far the run has not ended, the program is loaded as the run has it, and the sink took its output
pub record IsAt {S : Type 0} (took : S → List ℕ → S → Type 0) (b : Loaded) (m : ℕ) (c : Loaded) (old new : S) : Type 0 where
  pub loaded : c ≡ after b (run_on b m)
  pub going : (run_on b m).end ≡ None
  pub given : took old (run_on b m).output new

-- the run has ended, the program is loaded as the run has it, and the sink took its output
pub record Ends {S : Type 0} (took : S → List ℕ → S → Type 0) (b : Loaded) (n : ℕ) (d : Loaded) (e : Exit) (old new : S) : Type 0 where
  pub end : (run_on b n).end ≡ Some e
  pub loaded : d ≡ after b (run_on b n)
  pub given : took old (run_on b n).output new

-- one instruction more, where the program is loaded as the run has it
run_on-next : (b c : Loaded) (m : ℕ) → c ≡ after b (run_on b m) → (run_on b m).end ≡ None → run_on b (m + 1) ≡ followed (run_on b m) (act c.names c.state)
run_on-next b c m loaded going =
    let p : Progress = record { state = b.state; output = []; end = b.end; instructions = 0 } in
    run_from-next b.names p m ∙ further-going b.names (run_on b m) going
    ∙ sym (ap (λ (d : Loaded). followed (run_on b m) (act d.names d.state)) loaded)

after-followed : (b c : Loaded) (p q : Progress) → c ≡ after b p → after c q ≡ after b (followed p q)
after-followed b c p q is =
    ap (λ (d : Loaded). after d q) is
    ∙ ap (λ (l : Option ℕ). let x : Loaded = record { names = b.names; state = q.state; end = q.end; last = l } in x) (last_after-append b.last p.output q.output)

-- ---- pieces

-- a service that puts
pub pieces-service : (names : List (List ℕ)) (s t : State) (vector : ℕ) → (step.Service vector, t) ≡ step_of s → pieces_next names s None ≡ pieces_served (serve names t vector)
pieces-service names s t vector is = ap (λ (x : _). pieces_stepped names x) (sym is)

-- one instruction more
pub pieces-next : (b c : Loaded) (m : ℕ) → c ≡ after b (run_on b m) → (run_on b m).end ≡ None → pieces_within b (m + 1) ≡ pieces_within b m + pieces_next c.names c.state None
pieces-next b c m loaded going =
    let up : m + 1 ≡ suc m = omega arith in
    ap (pieces_within b) up
    ∙ ap (λ (o : Option Exit). pieces_within b m + pieces_next b.names (run_on b m).state o) going
    ∙ sym (ap (λ (l : Loaded). pieces_within b m + pieces_next l.names l.state None) loaded)

pieces-grow : (b : Loaded) (m k : ℕ) → pieces_within b m ≤ pieces_within b (k + m)
pieces-grow b m zero = let e : 0 + m ≡ m = omega arith in subst (λ (n : ℕ). pieces_within b m ≤ pieces_within b n) (sym e) (omega arith)
pieces-grow b m (suc k) =
    let e : suc k + m ≡ suc (k + m) = omega arith in
    let before : pieces_within b m ≤ pieces_within b (k + m) = pieces-grow b m k in
    let now : pieces_within b m ≤ pieces_within b (k + m) + pieces_next b.names (run_on b (k + m)).state (run_on b (k + m)).end = omega (arith, before) in
    subst (λ (n : ℕ). pieces_within b m ≤ pieces_within b n) (sym e) now

pub pieces-up : (b : Loaded) (m n : ℕ) → m ≤ n → pieces_within b m ≤ pieces_within b n
pieces-up b m n le = let e : (n - m) + m ≡ n = omega (arith, le) in subst (λ (k : ℕ). pieces_within b m ≤ pieces_within b k) e (pieces-grow b m (n - m))

-- What has ended stays.
pub run_on-ended : (b : Loaded) (m : ℕ) (e : Exit) → b.end ≡ Some e → run_on b m ≡ record { state = b.state; output = []; end = b.end; instructions = 0 }
run_on-ended b m e is = run_from-ended b.names (record { state = b.state; output = []; end = b.end; instructions = 0 }) m e is

run_on-by : (b : Loaded) (m n : ℕ) (e : Exit) → (run_on b m).end ≡ Some e → m ≤ n → run_on b n ≡ run_on b m
run_on-by b m n e is le =
    let p : Progress = record { state = b.state; output = []; end = b.end; instructions = 0 } in
    let same : n ≡ m + (n - m) = omega arith in
    ap (λ (k : ℕ). run_on b k) same ∙ run_from-add b.names p m (n - m) ∙ run_from-ended b.names (run_on b m) (n - m) e is

module _ {S : Type 0} (took : S → List ℕ → S → Type 0) (both : (a b c : S) (first second : List ℕ) → took a first b → took b second c → took a (first ++ second) c) where
  turn_given : (b c : Loaded) (m : ℕ) (x y z : S) → IsAt took b m c x y → took y (act c.names c.state).output z → took x (run_on b (m + 1)).output z
  turn_given b c m x y z at t =
      subst (λ (p : Progress). took x p.output z) (sym (run_on-next b c m at.loaded at.going)) (both x y z (run_on b m).output (act c.names c.state).output at.given t)

  turn_loaded : (b c d : Loaded) (m : ℕ) (x y : S) → IsAt took b m c x y → d ≡ after c (act c.names c.state) → d ≡ after b (run_on b (m + 1))
  turn_loaded b c d m x y at is =
      is ∙ after-followed b c (run_on b m) (act c.names c.state) at.loaded
      ∙ sym (ap (λ (p : Progress). after b p) (run_on-next b c m at.loaded at.going))

  turn_end : (b c : Loaded) (m : ℕ) (x y : S) → IsAt took b m c x y → (run_on b (m + 1)).end ≡ (act c.names c.state).end
  turn_end b c m x y at = ap (λ (p : Progress). p.end) (run_on-next b c m at.loaded at.going)

  pub goes_further : (b c d : Loaded) (m : ℕ) (x y z : S) → IsAt took b m c x y → d ≡ after c (act c.names c.state) → None ≡ (act c.names c.state).end → took y (act c.names c.state).output z → IsAt took b (m + 1) d x z
  goes_further b c d m x y z at is going t = record {
    loaded = turn_loaded b c d m x y at is;
    going = turn_end b c m x y at ∙ sym going;
    given = turn_given b c m x y z at t;
  }

  -- The end comes with the next instruction.
  pub ends_here : (b c d : Loaded) (m n : ℕ) (e : Exit) (x y z : S) → IsAt took b m c x y → m + 1 ≤ n → d ≡ after c (act c.names c.state) → Some e ≡ (act c.names c.state).end → took y (act c.names c.state).output z → Ends took b n d e x z
  ends_here b c d m n e x y z at le is ended t =
      let end : (run_on b (m + 1)).end ≡ Some e = turn_end b c m x y at ∙ sym ended in
      let all = run_on-by b (m + 1) n e end le in record {
        end = ap (λ (p : Progress). p.end) all ∙ end;
        loaded = turn_loaded b c d m x y at is ∙ sym (ap (λ (p : Progress). after b p) all);
        given = subst (λ (p : Progress). took x p.output z) (sym all) (turn_given b c m x y z at t);
      }

  -- The put of the next instruction fails.
  pub fails_here : (b c d : Loaded) (m n : ℕ) (x y z : S) → IsAt took b m c x y → m < n → FailsInTurn took c d y z → FailsAtPut took b n d x z
  fails_here b c d m n x y z at lt f =
      let next = run_on-next b c m at.loaded at.going in record {
        before = m;
        within = lt;
        going = at.going;
        asks = subst (λ (l : Loaded). AsksToPut l.names l.state) at.loaded f.asks;
        front = f.front;
        rest = f.rest;
        due = sym (ap (λ (l : Loaded). (act l.names l.state).output) at.loaded) ∙ f.due;
        given = both x y z (run_on b m).output f.front at.given f.given;
        goes_on = turn_end b c m x y at ∙ f.goes_on;
        loaded =
            f.loaded
            ∙ ap (λ (l : Loaded). let r : Loaded = record { names = l.names; state = (act c.names c.state).state; end = (act c.names c.state).end; last = l.last } in r) at.loaded
            ∙ sym (ap (λ (p : Progress). let r : Loaded = record { names = b.names; state = p.state; end = p.end; last = last_after b.last (run_on b m).output } in r) next);
      }
