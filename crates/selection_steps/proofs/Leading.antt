-- What all operations have in common: the code is performed where the words stand, and what is performed goes on in a block or ends.
use Rattle.std.proofs.Common.{◌≡◌, ℕ, ◌+◌, ◌*◌, ◌<◌, ◌≤◌, inl, ◌==◌, Bool, true, false, if◌then◌else◌, List, ◌∷◌, length, Option, Some, None, refl, sym, subst, arith}
use Rattle.std.proofs.lemmas.Bool.{eqb-true}
use Rattle.word_ir.specs.Stamps.{Stamped}
use Rattle.frame_ir.specs.declared.forms.FrameOp.{FrameOp}
use Rattle.frame_ir.specs.declared.forms.FrameEnd.{FrameEnd}
use Rattle.frame_ir.specs.Values.{Value, Env, value_at}
use Rattle.frame_ir.specs.States.{Running, State, going, or_wrong}
use Rattle.frame_ir.specs.Operations.{act}
use Rattle.frame_ir.specs.Sizes.{FramesAreSmall}
use Rattle.word_trees.specs.Trees.{Tree, Spells}
use Rattle.word_trees.specs.Cores.{Core, at}
use Rattle.word_trees.specs.Leads.{Leads, Performs}
use Rattle.frame_words.specs.Contents.{Escapes}
use Rattle.frame_stacks.specs.Stacks.{Ways}
use Rattle.frame_stacks.specs.Frames.{HoldsVariable, Holds}
use Rattle.frame_stacks.specs.Laws.{GoesOn}
use Rattle.prim_holds.proofs.Keeping.{count_free}
use Rattle.word_selection.specs.Codes.{IsCode, op_code}
use Rattle.selection_steps.specs.Settings.{Setting, choice_of, layout_of, IsSound, IsFit}
use Rattle.selection_steps.specs.Related.{ways_of, Runs, Keeps}
use Rattle.selection_steps.specs.Led.{most_moves, saved, caught, paid, Comes, Led}

-- ---- what must be there

-- a state that isn't wrong was made of what is there
pub lookup : {X : Type 0} (P : State → Type 0) (o : Option X) (s : State) (go : X → State) → IsSound (or_wrong o s go) → ((v : X) → o ≡ Some v → IsSound (go v) → P (go v)) → P (or_wrong o s go)
lookup P None s go sound h = absurd (cc)
lookup P (Some v) s go sound h = h v refl sound

-- ---- variables below a number

abbrev pub AreBelow : ℕ → Env → Type 0
AreBelow free env = (x : ℕ) (v : Value) → value_at env x ≡ Some v → x < free

below_by : (free p x : ℕ) (b : Bool) (v w : Value) (env : Env) → (p == x) ≡ b → p < free → (value_at env x ≡ Some w → x < free) → (if b then Some v else value_at env x) ≡ Some w → x < free
below_by free p x true v w env eq lt next found = let same : p ≡ x = eqb-true p x eq in omega (arith, same, lt)
below_by free p x false v w env eq lt next found = next found

pub below_more : (free : ℕ) (env : Env) (to : ℕ) (v : Value) → to < free → AreBelow free env → AreBelow free ((to, v) ∷ env)
below_more free env to v lt h x w found = below_by free to x (to == x) v w env refl lt (h x w) found

module _ (m : Setting) where
  abbrev free : ℕ
  free = (choice_of m).free

  module _ (e : Escapes) (g : Ways) (t : ℕ) (s : State) (env : Env) (c : Core) where
    pub below_now : Holds m.sizes (layout_of m) e g t s env c → AreBelow t env
    below_now h x v found = let o : HoldsVariable m.sizes (layout_of m) g t s c x v = h.variables.each x v found in o.older

    -- a number above those of all variables may be greater
    pub held_above : (u : ℕ) → AreBelow u env → Holds m.sizes (layout_of m) e g t s env c → Holds m.sizes (layout_of m) e g u s env c
    held_above u below h = record {
      data_held = h.data_held;
      frames = h.frames;
      escapes = h.escapes;
      variables = record {
        each = λ x v found.
            let o : HoldsVariable m.sizes (layout_of m) g t s c x v = h.variables.each x v found in
            record { older = below x v found; word = o.word; stamp = o.stamp; held = o.held; stamped = o.stamped; stands = o.stands };
      };
    }

  pub held_from : (e : Escapes) (g : Ways) (t u : ℕ) (s : State) (env : Env) (c : Core) → t ≤ u → Holds m.sizes (layout_of m) e g t s env c → Holds m.sizes (layout_of m) e g u s env c
  held_from e g t u s env c le h = held_above e g t s env c u (λ x v found. let lt = below_now e g t s env c h x v found in omega (arith, le, lt)) h

  -- ---- what follows where the code is performed

  pub led_by : (s u : State) (x : Stamped) (Q : Stamped → Type 0) (cost : ℕ) (tree : Tree) (c : Core) (block place moves steps : ℕ) → Spells m.words block place tree → x ≡ at c block place moves steps
      → Performs m.words m.sizes Q 1 cost tree c → ((y : Stamped) → Q y → Comes m s u y) → cost + paid u + most_moves * s.moves ≤ paid s + most_moves * u.moves → Led m s x u
  led_by s u x Q cost tree c block place moves steps spelled there performs comes within =
      let o : Leads m.words m.sizes Q 1 cost (at c block place moves steps) = performs.leads block place moves steps spelled in
      subst (λ y. Led m s y u) (sym there)
      (record { cost = cost; leads = record { count = o.count; enough = o.enough; there = comes _ o.there; moves = o.moves }; moves = within })

  -- ---- an operation in front of the rest of a block

  pub record Spot (s : State) (op : FrameOp) (ops : List FrameOp) (last : FrameEnd) (env : Env) (x : Stamped) : Type 0 where
    pub runs : Runs m s (op ∷ ops) last env x
    pub keeps : Keeps m s
    pub none : saved s.doing ≡ 0
    pub small : FramesAreSmall m.p.shared.size s
    pub marks : length x.marks.longs.heap ≡ length x.state.storage.heap
    pub t : ℕ
    pub above : free ≤ t
    pub rest : Tree
    pub is : runs.tree ≡ op_code (choice_of m) m.p.shared t op ops rest
    pub next : IsCode (choice_of m) m.p.shared ops last rest

  -- the step of the frames
  abbrev pub acted : State → FrameOp → List FrameOp → FrameEnd → Env → State
  acted s op ops last env = act m.p op ops env s (λ env u. going (Running ops last env) u)

  abbrev pub IsLed : State → FrameOp → List FrameOp → FrameEnd → Env → Stamped → Type 0
  IsLed s op ops last env x = Led m s x (acted s op ops last env)

  module _ (s : State) (op : FrameOp) (ops : List FrameOp) (last : FrameEnd) (env : Env) (x : Stamped) (sp : Spot s op ops last env x) where
    pub fit : IsFit m ops op
    fit = sp.runs.fits.0

    -- variables for what is made on the way are above those of the program
    pub held : Holds m.sizes (layout_of m) sp.runs.escapes (ways_of m sp.runs.born) sp.t s env sp.runs.core
    held = held_from sp.runs.escapes (ways_of m sp.runs.born) free sp.t s env sp.runs.core sp.above sp.runs.holds

    pub below : AreBelow free env
    below = below_now sp.runs.escapes (ways_of m sp.runs.born) free s env sp.runs.core sp.runs.holds

    pub spot_led_by : (u : State) (Q : Stamped → Type 0) (cost : ℕ) → Performs m.words m.sizes Q 1 cost (op_code (choice_of m) m.p.shared sp.t op ops sp.rest) sp.runs.core → ((y : Stamped) → Q y → Comes m s u y)
        → cost + paid u + most_moves * s.moves ≤ paid s + most_moves * u.moves → Led m s x u
    spot_led_by u Q cost performs comes within =
        let spelled : Spells m.words sp.runs.block sp.runs.place (op_code (choice_of m) m.p.shared sp.t op ops sp.rest) = subst (Spells m.words sp.runs.block sp.runs.place) sp.is sp.runs.spelled in
        led_by s u x Q cost (op_code (choice_of m) m.p.shared sp.t op ops sp.rest) sp.runs.core sp.runs.block sp.runs.place sp.runs.moves sp.runs.steps spelled sp.runs.there performs comes within

    -- no CATCH is opened or closed
    pub spot_led : (u : State) → caught u.frames u.live ≡ caught s.frames s.live → (Q : Stamped → Type 0) (cost : ℕ) → Performs m.words m.sizes Q 1 cost (op_code (choice_of m) m.p.shared sp.t op ops sp.rest) sp.runs.core → ((y : Stamped) → Q y → Comes m s u y)
        → cost + saved u.doing + most_moves * s.moves ≤ most_moves * u.moves → Led m s x u
    spot_led u same Q cost performs comes within = let none = sp.none in spot_led_by u Q cost performs comes (omega (arith, within, none, same))

    -- on in the block, in a state that differs in counts alone
    pub goes_on : (v : State) (e : Escapes) (born : ℕ → ℕ) (env2 : Env) (moves : ℕ) (y : Stamped) → AreBelow free env2 → Keeps m v → GoesOn m.words m.sizes (layout_of m) e (ways_of m born) sp.t v env2 sp.rest y
        → Comes m s (record v { moves = moves; doing = Running ops last env2 }) y
    goes_on v e born env2 moves y lower keeps o = inl (
      keeps,
      record {
        escapes = e;
        born = born;
        core = o.core;
        holds = count_free m.sizes (layout_of m) e (ways_of m born) free v env2 o.core moves (Running ops last env2) (held_above e (ways_of m born) sp.t v env2 o.core free lower o.holds);
        tree = sp.rest;
        code = sp.next;
        fits = sp.runs.fits.1;
        fits_end = sp.runs.fits_end;
        block = o.block;
        place = o.place;
        moves = o.moves;
        steps = o.steps;
        spelled = o.spelled;
        there = o.there;
      },
    )
