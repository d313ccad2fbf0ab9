-- What is seen in the blocks of frames that lay out a program: each variable that is used was bound before.
use Rattle.std.specs.List.{AllByRecursion, flat_map}
use Rattle.std.proofs.Common.{◌≡◌, ℕ, List, [], ◌∷◌, ◌++◌, refl, sym, ap, subst, ◌∙◌, ⊎_elim, true, false}
use Rattle.std.proofs.lemmas.List.{append-nil}
use Rattle.t_base.specs.declared.basics.Var.{Var}
use Rattle.cps_ir.specs.declared.args.Arg.{Arg}
use Rattle.cps_ir.specs.declared.args.Arg.TheVariants as Argument
use Rattle.cps_ir.specs.declared.terms.Cont.{Cont}
use Rattle.cps_ir.specs.declared.terms.Term.{Term}
use Rattle.cps_ir.specs.declared.terms.Cps.{Cps}
use Rattle.cps_ir.proofs.ProperLists.{each_more, each_append}
use Rattle.frame_ir.specs.declared.forms.Place.TheVariants as At
use Rattle.frame_ir.specs.declared.forms.FrameOp.{FrameOp}
use Rattle.frame_ir.specs.declared.forms.FrameOp.TheVariants as Op
use Rattle.frame_ir.specs.declared.forms.FrameEnd.{FrameEnd}
use Rattle.frame_ir.specs.declared.forms.FrameEnd.TheVariants as Last
use Rattle.frame_ir.specs.declared.forms.Block.{Block}
use Rattle.frame_ir.specs.Parts.{arg_vars, op_uses, end_uses, op_binds, names_ahead}
use Rattle.layout_relation.specs.Links.{IsIn, first, later, zip_none, zip_one}
use Rattle.layout_relation.specs.Contexts.{Context, paired, Purpose, CodeOf, MethodOf, Begins, ArmOf, PassesOn, Resumes}
use Rattle.layout_relation.specs.Laid.{Sketch, IsFor, numbers, variables, AreHeld, labelled, Fetches, fetches_none, fetches_one, SameArg, same_const, same_var, same_global, same_builtin, same_op, Prepares, prepares_none, prepares_same, prepares_closure, Labels, labels_none, labels_one, Gives, gives_out, gives_join, gives_jump, gives_here, gives_unused, GoesOn, goes_here, goes_to, Lays, lays, LaysTerm, lays_tail_call, lays_call, lays_prim, lays_if, lays_labels, lays_join, lays_give, lays_global_get, lays_global_init, lays_global_set, lays_cell, lays_cell_get, lays_cell_set, lays_object, lays_tail_catch, lays_catch, lays_tail_uncatch, lays_uncatch, lays_halt, BlockFits}
use Rattle.layout_relation.proofs.Lists.{in_right, in_left, in_either, in_cases, in_none}
use Rattle.layout_relation.proofs.Arriving.{in_numbers}

-- ---- numbers that are seen

abbrev pub Sees : List ℕ → List ℕ → Type 0
Sees scope ys = AllByRecursion (λ y. IsIn y scope) ys

-- what holds the variables of the program is seen
abbrev pub HeldIn : List (ℕ × ℕ) → List ℕ → Type 0
HeldIn vars scope = (x y : ℕ) → IsIn (x, y) vars → IsIn y scope

pub numbers_join : (xs ys : List Var) → numbers (xs ++ ys) ≡ numbers xs ++ numbers ys
numbers_join [] ys = refl
numbers_join (x ∷ xs) ys = ap (λ zs. x.0 ∷ zs) (numbers_join xs ys)

sees_more : (s t ys : List ℕ) → ((y : ℕ) → IsIn y s → IsIn y t) → Sees s ys → Sees t ys
sees_more s t ys f h = each_more (λ y. IsIn y s) (λ y. IsIn y t) ys f h

sees_join : (s : List ℕ) (xs ys : List Var) → Sees s (numbers xs) → Sees s (numbers ys) → Sees s (numbers (xs ++ ys))
sees_join s xs ys h g = subst (Sees s) (sym (numbers_join xs ys)) (each_append (λ y. IsIn y s) (numbers xs) (numbers ys) h g)

held_sees : (vars : List (ℕ × ℕ)) (s : List ℕ) (xs : List ℕ) (ys : List Var) → HeldIn vars s → AreHeld vars xs ys → Sees s (numbers ys)
held_sees vars s xs ys h zip_none = tt
held_sees vars s xs ys h (zip_one x y us vs i rest) = (h x y.0 i, held_sees vars s us vs h rest)

-- a variable more
held_with : (vars : List (ℕ × ℕ)) (s : List ℕ) (x y : ℕ) → HeldIn vars s → IsIn y s → HeldIn ((x, y) ∷ vars) s
held_with vars s x y h i = λ a b j. ⊎_elim (λ e. subst (λ z. IsIn z s) (sym (ap (λ q. q.1) e)) i) (λ k. h a b k) (in_cases (a, b) (x, y) vars j)

held_more : (vars : List (ℕ × ℕ)) (s t : List ℕ) → ((y : ℕ) → IsIn y s → IsIn y t) → HeldIn vars s → HeldIn vars t
held_more vars s t f h = λ x y i. f y (h x y i)

-- a variable is bound
held_push : (vars : List (ℕ × ℕ)) (s : List ℕ) (to : ℕ) → HeldIn vars s → HeldIn vars (to ∷ s)
held_push vars s to h = held_more vars s (to ∷ s) (λ y i. later y to s i) h

-- what is seen behind some operations
abbrev pub behind : List FrameOp → List ℕ → List ℕ
behind [] s = s
behind (op ∷ ops) s = behind ops (numbers (op_binds op) ++ s)

pub behind_keeps : (ops : List FrameOp) (s : List ℕ) (y : ℕ) → IsIn y s → IsIn y (behind ops s)
behind_keeps [] s y i = i
behind_keeps (op ∷ ops) s y i = behind_keeps ops (numbers (op_binds op) ++ s) y (in_right y (numbers (op_binds op)) s i)

-- ---- arguments

abbrev ArgSeen : List ℕ → Arg → Type 0
ArgSeen s a = Sees s (numbers (arg_vars a))

args_seen : (s : List ℕ) (args : List Arg) → AllByRecursion (ArgSeen s) args → Sees s (numbers (flat_map arg_vars args))
args_seen s [] h = tt
args_seen s (a ∷ args) h = sees_join s (arg_vars a) (flat_map arg_vars args) h.0 (args_seen s args h.1)

variables_seen : (s : List ℕ) (ys : List Var) → Sees s (numbers ys) → AllByRecursion (ArgSeen s) (variables ys)
variables_seen s [] h = tt
variables_seen s (y ∷ ys) h = ((h.0, tt), variables_seen s ys h.1)

module _ (cps : Cps) (w : Sketch) where
  -- ---- a block, from an operation on

  -- a block of an If is laid out where all that it holds is seen
  pub record ArmSees (k : ℕ) (s : List ℕ) : Type 0 where
    pub context : Context
    pub term : ℕ
    pub is : IsFor w k (ArmOf context term)
    pub held : HeldIn context.vars s

  abbrev pub ArmsSee : FrameEnd → List ℕ → Type 0
  ArmsSee (Last.If test one other) s = ArmSees one s × ArmSees other s
  ArmsSee _ s = Unit {0}

  abbrev pub Scoped : List FrameOp → FrameEnd → List ℕ → Type 0
  Scoped [] last s = Sees s (numbers (end_uses last)) × ArmsSee last s
  Scoped (op ∷ ops) last s = Sees (numbers (names_ahead (op ∷ ops)) ++ s) (numbers (op_uses op)) × Scoped ops last (numbers (op_binds op) ++ s)

  -- an operation that uses what is seen
  step : (op : FrameOp) (ops : List FrameOp) (last : FrameEnd) (s : List ℕ) → Sees s (numbers (op_uses op)) → Scoped ops last (numbers (op_binds op) ++ s) → Scoped (op ∷ ops) last s
  step op ops last s h rest = (sees_more s (numbers (names_ahead (op ∷ ops)) ++ s) (numbers (op_uses op)) (λ y i. in_right y (numbers (names_ahead (op ∷ ops))) s i) h, rest)

  plain : (args : List Arg) (named : List Var) (s : List ℕ) → Sees s (numbers named) → AllByRecursion (ArgSeen s) args → Sees s (numbers (named ++ flat_map arg_vars args))
  plain args named s h g = sees_join s named (flat_map arg_vars args) h (args_seen s args g)

  -- ---- arguments with their closures

  same_seen : (vars : List (ℕ × ℕ)) (s : List ℕ) (a b : Arg) → HeldIn vars s → SameArg cps w vars a b → ArgSeen s b
  same_seen vars s a b h (same_const k) = tt
  same_seen vars s a b h (same_var x y held not_cell) = (h x.0 y.0 held, tt)
  same_seen vars s a b h (same_global g code e) = tt
  same_seen vars s a b h (same_builtin r) = tt
  same_seen vars s a b h (same_op o) = tt

  arg_kept : (ms : List FrameOp) (s : List ℕ) (b : Arg) → ArgSeen s b → ArgSeen (behind ms s) b
  arg_kept ms s b h = sees_more s (behind ms s) (numbers (arg_vars b)) (λ y i. behind_keeps ms s y i) h

  prepared : (vars : List (ℕ × ℕ)) (args : List Arg) (ms : List FrameOp) (bs : List Arg) (s : List ℕ) → Prepares cps w vars args ms bs → HeldIn vars s → AllByRecursion (ArgSeen (behind ms s)) bs
  prepared vars args ms bs s prepares_none h = tt
  prepared vars args ms bs s (prepares_same a b as_ ns cs same rest) h = (arg_kept ns s b (same_seen vars s a b h same), prepared vars as_ ns cs s rest h)
  prepared vars args ms bs s (prepares_closure l to code kept as_ ns cs made u rest) h = (
    (behind_keeps ns (to.0 ∷ s) to.0 (first to.0 s), tt),
    prepared vars as_ ns cs (to.0 ∷ s) rest (held_more vars s (to.0 ∷ s) (λ y i. later y to.0 s i) h),
  )

  closures : (vars : List (ℕ × ℕ)) (args : List Arg) (ms : List FrameOp) (bs : List Arg) (s : List ℕ) (ops : List FrameOp) (last : FrameEnd) → Prepares cps w vars args ms bs → HeldIn vars s → Scoped ops last (behind ms s) → Scoped (ms ++ ops) last s
  closures vars args ms bs s ops last prepares_none h rest = rest
  closures vars args ms bs s ops last (prepares_same a b as_ ns cs same more) h rest = closures vars as_ ns cs s ops last more h rest
  closures vars args ms bs s ops last (prepares_closure l to code kept as_ ns cs made u more) h rest =
      step (Op.Closure to code kept At.Heap) (ns ++ ops) last s (sees_join s kept [] (held_sees vars s (w.needs l) kept h made.holds) tt)
      (closures vars as_ ns cs (to.0 ∷ s) ops last more (held_more vars s (to.0 ∷ s) (λ y i. later y to.0 s i) h) rest)

  held_behind : (ms : List FrameOp) (vars : List (ℕ × ℕ)) (s : List ℕ) → HeldIn vars s → HeldIn vars (behind ms s)
  held_behind ms vars s h = held_more vars s (behind ms s) (λ y i. behind_keeps ms s y i) h

  -- ---- the closures of a Labels

  ahead : (vars : List (ℕ × ℕ)) (xs : List Var) (lams : List ℕ) (ms : List FrameOp) (tos : List Var) (ops : List FrameOp) → Labels cps w vars xs lams ms tos → (y : ℕ) → IsIn y (numbers tos) → IsIn y (numbers (names_ahead (ms ++ ops)))
  ahead vars xs lams ms tos ops labels_none y i = none y i
    where
      none : (y : ℕ) → IsIn y [] → IsIn y (numbers (names_ahead ops))
      none y i = absurd (in_none y i)
  ahead vars xs lams ms tos ops (labels_one x l to code kept ys ls ns ts made rest) y i =
      ⊎_elim (λ e. subst (λ z. IsIn z (to.0 ∷ numbers (names_ahead (ns ++ ops)))) (sym e) (first to.0 (numbers (names_ahead (ns ++ ops)))))
      (λ k. later y to.0 (numbers (names_ahead (ns ++ ops))) (ahead vars ys ls ns ts ops rest y k)) (in_cases y to.0 (numbers ts) i)

  labels : (vars : List (ℕ × ℕ)) (xs : List Var) (lams : List ℕ) (ms : List FrameOp) (tos : List Var) (s : List ℕ) (ops : List FrameOp) (last : FrameEnd) → Labels cps w vars xs lams ms tos → HeldIn vars (numbers tos ++ s) → Scoped ops last (behind ms s)
      → Scoped (ms ++ ops) last s
  labels vars xs lams ms tos s ops last labels_none h rest = rest
  labels vars xs lams ms tos s ops last (labels_one x l to code kept ys ls ns ts made more) h rest =
      let op = Op.Closure to code kept At.Heap in
      let names = numbers (names_ahead (ns ++ ops)) in (
        sees_join ((to.0 ∷ names) ++ s) kept []
            (sees_more (to.0 ∷ numbers ts ++ s) ((to.0 ∷ names) ++ s) (numbers kept)
            (λ y i. ⊎_elim (λ a. in_left y (to.0 ∷ names) s (ahead vars xs lams ms tos ops (labels_one x l to code kept ys ls ns ts made more) y a)) (λ b. in_right y (to.0 ∷ names) s b) (in_either y (to.0 ∷ numbers ts) s i))
            (held_sees vars (to.0 ∷ numbers ts ++ s) (w.needs l) kept h made.holds)) tt,
        labels vars ys ls ns ts (to.0 ∷ s) ops last more (λ a b i. moved b (h a b i)) rest,
      )
    where
      moved : (b : ℕ) → IsIn b (to.0 ∷ numbers ts ++ s) → IsIn b (numbers ts ++ to.0 ∷ s)
      moved b i =
          ⊎_elim (λ e. in_right b (numbers ts) (to.0 ∷ s) (subst (λ z. IsIn z (to.0 ∷ s)) (sym e) (first to.0 s)))
          (λ k. ⊎_elim (λ x. in_left b (numbers ts) (to.0 ∷ s) x) (λ y. in_right b (numbers ts) (to.0 ∷ s) (later b to.0 s y)) (in_either b (numbers ts) s k)) (in_cases b to.0 (numbers ts ++ s) i)

  -- the closures' own variables are seen behind them
  labels_behind : (vars : List (ℕ × ℕ)) (xs : List Var) (lams : List ℕ) (ms : List FrameOp) (tos : List Var) (s : List ℕ) → Labels cps w vars xs lams ms tos → (y : ℕ) → IsIn y (numbers tos ++ s) → IsIn y (behind ms s)
  labels_behind vars xs lams ms tos s labels_none y i = i
  labels_behind vars xs lams ms tos s (labels_one x l to code kept ys ls ns ts made more) y i = labels_behind vars ys ls ns ts (to.0 ∷ s) more y (moved y i)
    where
      moved : (b : ℕ) → IsIn b (to.0 ∷ numbers ts ++ s) → IsIn b (numbers ts ++ to.0 ∷ s)
      moved b i =
          ⊎_elim (λ e. in_right b (numbers ts) (to.0 ∷ s) (subst (λ z. IsIn z (to.0 ∷ s)) (sym e) (first to.0 s)))
          (λ k. ⊎_elim (λ x. in_left b (numbers ts) (to.0 ∷ s) x) (λ y. in_right b (numbers ts) (to.0 ∷ s) (later b to.0 s y)) (in_either b (numbers ts) s k)) (in_cases b to.0 (numbers ts ++ s) i)

  held_labels : (xs : List ℕ) (tos : List Var) (vars : List (ℕ × ℕ)) (s : List ℕ) → HeldIn vars s → HeldIn (paired xs tos ++ vars) (numbers tos ++ s)
  held_labels xs tos vars s h = λ a b i. ⊎_elim (λ l. in_left b (numbers tos) s (in_numbers xs tos a b l)) (λ r. in_right b (numbers tos) s (h a b r)) (in_either (a, b) (paired xs tos) vars i)

  -- ---- what is fetched

  record Fetched (vars : List (ℕ × ℕ)) (ops : List FrameOp) (s : List ℕ) : Type 0 where
    pub held : HeldIn vars (behind ops s)
    pub scoped : (rest : List FrameOp) (last : FrameEnd) → Scoped rest last (behind ops s) → Scoped (ops ++ rest) last s

  fetched : (get : Var → ℕ → FrameOp) (self : ℕ) → ((y : Var) (slot : ℕ) → op_binds (get y slot) ≡ y ∷ []) → ((y : Var) (slot : ℕ) (s : List ℕ) → IsIn self s → Sees s (numbers (op_uses (get y slot)))) → (apart : ℕ) (kept : List ℕ)
      (vars after : List (ℕ × ℕ)) (ops : List FrameOp) (s : List ℕ) → Fetches get apart kept vars after ops → IsIn self s → HeldIn vars s → Fetched after ops s
  fetched get self binds uses apart kept vars after ops s (fetches_none vs) i h = record { held = h; scoped = λ rest last r. r }
  fetched get self binds uses apart kept vars after ops s (fetches_one x y slot vs as_ ms e unused other more) i h =
      let t = numbers (op_binds (get y slot)) ++ s in
      let seen : IsIn y.0 t = subst (λ bs. IsIn y.0 (numbers bs ++ s)) (sym (binds y slot)) (first y.0 s) in
      let r = fetched get self binds uses apart kept ((x, y.0) ∷ vs) as_ ms t more (in_right self (numbers (op_binds (get y slot))) s i)
      (held_with vs t x y.0 (held_more vs s t (λ z j. in_right z (numbers (op_binds (get y slot))) s j) h) seen) in
      record { held = r.held; scoped = λ rest last q. step (get y slot) (ms ++ rest) last s (uses y slot s i) (r.scoped rest last q) }

  -- ---- terms

  mutual
    gives_seen : (c : Context) (t : ℕ) (k : Cont) (a : Arg) (ops : List FrameOp) (last : FrameEnd) (s : List ℕ) → HeldIn c.vars s → ArgSeen s a → Gives cps w c t k a ops last → Scoped ops last s
    gives_seen c t k a ops last s h g (gives_out c2 t2 j a2 out none) = (args_seen s (a2 ∷ []) (g, tt), tt)
    gives_seen c t k a ops last s h g (gives_join c2 t2 j a2 m rest ys meets for held new few) = (args_seen s (a2 ∷ variables ys) (g, variables_seen s ys (held_sees c2.vars s m.needs ys h held)), tt)
    gives_seen c t k a ops last s h g (gives_jump c2 t2 param body a2 block needs ys for held new few) = (args_seen s (a2 ∷ variables ys) (g, variables_seen s ys (held_sees c2.vars s needs ys h held)), tt)
    gives_seen c t k a ops last s h g (gives_here c2 t2 param body x ops2 last2 fresh not_cell lower laying) = lays_seen _ body ops2 last2 s (held_with c2.vars s param.0 x.0 h g.0) laying
    gives_seen c t k a ops last s h g (gives_unused c2 t2 param body a2 ops2 last2 fresh lower laying) = lays_seen c2 body ops2 last2 s h laying

    goes_seen : (c : Context) (t : ℕ) (ops : List FrameOp) (last : FrameEnd) (s : List ℕ) → HeldIn c.vars s → GoesOn cps w c t ops last → Scoped ops last s
    goes_seen c t ops last s h (goes_here c2 t2 ops2 last2 laying) = lays_seen c2 t2 ops2 last2 s h laying
    goes_seen c t ops last s h (goes_to c2 t2 block needs ys for held few) = (args_seen s (variables ys) (variables_seen s ys (held_sees c2.vars s needs ys h held)), tt)

    lays_seen : (c : Context) (t : ℕ) (ops : List FrameOp) (last : FrameEnd) (s : List ℕ) → HeldIn c.vars s → Lays cps w c t ops last → Scoped ops last s
    lays_seen c t ops last s h (lays c2 t2 term ops2 last2 is fits) = term_seen c2 t2 term ops2 last2 s h fits

    term_seen : (c : Context) (t : ℕ) (term : Term) (ops : List FrameOp) (last : FrameEnd) (s : List ℕ) → HeldIn c.vars s → LaysTerm cps w c t term ops last → Scoped ops last s
    term_seen c t term ops last s h (lays_tail_call c2 t2 f args k ms g bs prep out none) =
        subst (λ os. Scoped os (Last.Call g bs) s) (append-nil ms) (closures c2.vars _ ms _ s [] (Last.Call g bs) prep h (args_seen (behind ms s) (g ∷ bs) (prepared c2.vars _ ms _ s prep h), tt))
    term_seen c t term ops last s h (lays_call c2 t2 f args k ms g bs r kept back prep awaits for held once) =
        closures c2.vars _ ms _ s (Op.Push kept back ∷ []) (Last.Call g bs) prep h
        (step (Op.Push kept back) [] (Last.Call g bs) (behind ms s) (sees_join (behind ms s) kept [] (held_sees c2.vars (behind ms s) r.kept kept (held_behind ms c2.vars s h) held) tt)
        (args_seen (behind ms s) (g ∷ bs) (prepared c2.vars _ ms _ s prep h), tt))
    term_seen c t term ops last s h (lays_prim c2 t2 f args k ms bs to ops2 last2 prep unused gives) =
        let v = behind ms s in
        closures c2.vars _ ms _ s (Op.Prim to f bs ∷ ops2) last2 prep h
        (step (Op.Prim to f bs) ops2 last2 v (plain bs [] v tt (prepared c2.vars _ ms _ s prep h)) (gives_seen c2 t2 k (Argument.Var to) ops2 last2 (to.0 ∷ v) (held_push c2.vars v to.0 (held_behind ms c2.vars s h)) (first to.0 v, tt) gives))
    term_seen c t term ops last s h (lays_if c2 t2 test one other ms x there_arm other_arm prep fy fn) =
        let v = behind ms s in
        let g = held_behind ms c2.vars s h in
        let e = Last.If x there_arm other_arm in
        subst (λ os. Scoped os e s) (append-nil ms)
        (closures c2.vars _ ms _ s [] e prep h
        (args_seen v (x ∷ []) (prepared c2.vars _ ms _ s prep h), (record { context = c2; term = one; is = fy; held = g }, record { context = c2; term = other; is = fn; held = g })))
    term_seen c t term ops last s h (lays_labels c2 t2 xs lams body ms tos ops2 last2 labelling fresh distinct unused apart lower onward) =
        let all = held_labels (numbers xs) tos c2.vars s h in
        labels _ xs lams ms tos s ops2 last2 labelling all
        (goes_seen (labelled xs tos c2) body ops2 last2 (behind ms s) (λ a b i. labels_behind _ xs lams ms tos s labelling b (all a b i)) onward)
    term_seen c t term ops last s h (lays_join c2 t2 k param body rest block needs ops2 last2 lower laying) = lays_seen _ rest ops2 last2 s h laying
    term_seen c t term ops last s h (lays_give c2 t2 k value ms x ops2 last2 prep apart gives) =
        closures c2.vars _ ms _ s ops2 last2 prep h (gives_seen c2 t2 k x ops2 last2 (behind ms s) (held_behind ms c2.vars s h) (prepared c2.vars _ ms _ s prep h).0 gives)
    term_seen c t term ops last s h (lays_global_get c2 t2 g k to ops2 last2 lt unused gives) = step (Op.GlobalGet to g) ops2 last2 s tt (gives_seen c2 t2 k (Argument.Var to) ops2 last2 (to.0 ∷ s) (held_push c2.vars s to.0 h) (first to.0 s, tt) gives)
    term_seen c t term ops last s h (lays_global_init c2 t2 g value k ms x ops2 last2 lt none prep gives) =
        let v = behind ms s in
        let q = prepared c2.vars _ ms _ s prep h in
        closures c2.vars _ ms _ s (Op.GlobalPut g x true ∷ ops2) last2 prep h
        (step (Op.GlobalPut g x true) ops2 last2 v (plain (x ∷ []) [] v tt q) (gives_seen c2 t2 k x ops2 last2 v (held_behind ms c2.vars s h) q.0 gives))
    term_seen c t term ops last s h (lays_global_set c2 t2 g value k ms x ops2 last2 lt none prep gives) =
        let v = behind ms s in
        let q = prepared c2.vars _ ms _ s prep h in
        closures c2.vars _ ms _ s (Op.GlobalPut g x false ∷ ops2) last2 prep h
        (step (Op.GlobalPut g x false) ops2 last2 v (plain (x ∷ []) [] v tt q) (gives_seen c2 t2 k x ops2 last2 v (held_behind ms c2.vars s h) q.0 gives))
    term_seen c t term ops last s h (lays_cell c2 t2 x value rest ms y to ops2 last2 prep fresh celled unused onward) =
        let v = behind ms s in
        closures c2.vars _ ms _ s (Op.Cell to y ∷ ops2) last2 prep h
        (step (Op.Cell to y) ops2 last2 v (plain (y ∷ []) [] v tt (prepared c2.vars _ ms _ s prep h)) (goes_seen _ rest ops2 last2 (to.0 ∷ v) (held_with c2.vars (to.0 ∷ v) x.0 to.0 (held_push c2.vars v to.0 (held_behind ms c2.vars s h)) (first to.0 v)) onward))
    term_seen c t term ops last s h (lays_cell_get c2 t2 x y k to ops2 last2 held celled unused gives) =
        step (Op.CellGet to y) ops2 last2 s (plain [] (y ∷ []) s (h x.0 y.0 held, tt) tt) (gives_seen c2 t2 k (Argument.Var to) ops2 last2 (to.0 ∷ s) (held_push c2.vars s to.0 h) (first to.0 s, tt) gives)
    term_seen c t term ops last s h (lays_cell_set c2 t2 x y value k ms z ops2 last2 prep held celled gives) =
        let v = behind ms s in
        let g = held_behind ms c2.vars s h in
        let q = prepared c2.vars _ ms _ s prep h in
        closures c2.vars _ ms _ s (Op.CellSet y z ∷ ops2) last2 prep h (step (Op.CellSet y z) ops2 last2 v (plain (z ∷ []) (y ∷ []) v (g x.0 y.0 held, tt) q) (gives_seen c2 t2 k z ops2 last2 v g q.0 gives))
    term_seen c t term ops last s h (lays_object c2 t2 proc names methods k ms x template shape needs kept to ops2 last2 prep count is_shape are_methods held small unused gives) =
        let v = behind ms s in
        let g = held_behind ms c2.vars s h in
        closures c2.vars _ ms _ s (Op.Object to template x kept ∷ ops2) last2 prep h
        (step (Op.Object to template x kept) ops2 last2 v (plain (x ∷ []) kept v (held_sees c2.vars v needs kept g held) (prepared c2.vars _ ms _ s prep h)) (gives_seen c2 t2 k (Argument.Var to) ops2 last2 (to.0 ∷ v) (held_push c2.vars v to.0 g) (first to.0 v, tt) gives))
    term_seen c t term ops last s h (lays_tail_catch c2 t2 x body k to back ops2 last2 out none passes fresh not_cell unused onward) =
        step (Op.CatchOpen to back) ops2 last2 s tt (goes_seen _ body ops2 last2 (to.0 ∷ s) (held_with c2.vars (to.0 ∷ s) x.0 to.0 (held_push c2.vars s to.0 h) (first to.0 s)) onward)
    term_seen c t term ops last s h (lays_catch c2 t2 x body k r kept to back ops2 last2 awaits for held once fresh not_cell unused onward) =
        step (Op.Push kept back) (Op.CatchOpen to back ∷ ops2) last2 s (sees_join s kept [] (held_sees c2.vars s r.kept kept h held) tt)
        (step (Op.CatchOpen to back) ops2 last2 s tt (goes_seen _ body ops2 last2 (to.0 ∷ s) (held_with c2.vars (to.0 ∷ s) x.0 to.0 (held_push c2.vars s to.0 h) (first to.0 s)) onward))
    term_seen c t term ops last s h (lays_tail_uncatch c2 t2 k value outer ms y ops2 last2 open_ prep gives) =
        let v = behind ms s in
        closures c2.vars _ ms _ s (Op.CatchClose ∷ ops2) last2 prep h (step Op.CatchClose ops2 last2 v tt (gives_seen _ t2 k y ops2 last2 v (held_behind ms c2.vars s h) (prepared c2.vars _ ms _ s prep h).0 gives))
    term_seen c t term ops last s h (lays_uncatch c2 t2 k value outer ms y ops2 last2 open_ prep gives) =
        let v = behind ms s in
        closures c2.vars _ ms _ s (Op.CatchClose ∷ Op.Pop ∷ ops2) last2 prep h
        (step Op.CatchClose (Op.Pop ∷ ops2) last2 v tt (step Op.Pop ops2 last2 v tt (gives_seen _ t2 k y ops2 last2 v (held_behind ms c2.vars s h) (prepared c2.vars _ ms _ s prep h).0 gives)))
    term_seen c t term ops last s h (lays_halt c2 t2 value ms x prep) =
        subst (λ os. Scoped os (Last.Halt x) s) (append-nil ms) (closures c2.vars _ ms _ s [] (Last.Halt x) prep h (args_seen (behind ms s) (x ∷ []) (prepared c2.vars _ ms _ s prep h), tt))

  -- ---- blocks

  -- what is held at the start of an arm is seen there; another block sees its parameters
  abbrev pub StartsSeen : Purpose → Block → List ℕ → Type 0
  StartsSeen (ArmOf c t) b s = HeldIn c.vars s
  StartsSeen _ b s = s ≡ numbers b.params

  none_held : (s : List ℕ) → HeldIn [] s
  none_held s = λ x y i. absurd (in_none (x, y) i)

  pub block_seen : (purpose : Purpose) (b : Block) (s : List ℕ) → BlockFits cps w purpose b → StartsSeen purpose b s → Scoped b.ops.items b.last s
  block_seen (CodeOf l) b s fits e =
      let is : s ≡ fits.self.0 ∷ numbers fits.params = e ∙ ap numbers fits.takes in
      let self : IsIn fits.self.0 s = subst (IsIn fits.self.0) (sym is) (first fits.self.0 (numbers fits.params)) in
      let held : HeldIn (paired (numbers fits.lam.params) fits.params) s = λ x y i. subst (IsIn y) (sym is) (later y fits.self.0 (numbers fits.params) (in_numbers (numbers fits.lam.params) fits.params x y i)) in
      let r = fetched (λ y slot. Op.ClosureGet y fits.self slot) fits.self.0 (λ y slot. refl) (λ y slot v i. (i, tt)) fits.self.0 _ _ _ b.ops.items s fits.fetches self held in
      subst (λ os. Scoped os b.last s) (append-nil b.ops.items)
      (r.scoped [] b.last
      (subst (λ q. Scoped [] q (behind b.ops.items s)) (sym fits.goes)
      (args_seen (behind b.ops.items s) (variables fits.ys) (variables_seen (behind b.ops.items s) fits.ys (held_sees fits.vars (behind b.ops.items s) _ fits.ys r.held fits.held)), tt)))
  block_seen (MethodOf l kept) b s fits e =
      let is : s ≡ fits.self.0 ∷ numbers fits.params = e ∙ ap numbers fits.takes in
      let self : IsIn fits.self.0 s = subst (IsIn fits.self.0) (sym is) (first fits.self.0 (numbers fits.params)) in
      let held : HeldIn (paired (numbers fits.lam.params) (fits.self ∷ fits.params)) s = λ x y i. subst (IsIn y) (sym is) (in_numbers (numbers fits.lam.params) (fits.self ∷ fits.params) x y i) in
      let r = fetched (λ y slot. Op.ClosureGet y fits.self slot) fits.self.0 (λ y slot. refl) (λ y slot v i. (i, tt)) fits.self.0 _ _ _ b.ops.items s fits.fetches self held in
      subst (λ os. Scoped os b.last s) (append-nil b.ops.items)
      (r.scoped [] b.last
      (subst (λ q. Scoped [] q (behind b.ops.items s)) (sym fits.goes)
      (args_seen (behind b.ops.items s) (variables fits.ys) (variables_seen (behind b.ops.items s) fits.ys (held_sees fits.vars (behind b.ops.items s) _ fits.ys r.held fits.held)), tt)))
  block_seen (Begins start) b s fits e =
      lays_seen _ start.term b.ops.items b.last s (λ x y i. subst (IsIn y) (sym e) (in_numbers start.vars b.params x y i)) fits.lays
  block_seen (ArmOf c t) b s fits h = lays_seen c t b.ops.items b.last s h fits.lays
  block_seen PassesOn b s fits e =
      let is : s ≡ fits.value.0 ∷ [] = e ∙ ap numbers fits.takes in
      subst (λ os. Scoped os b.last s) (sym fits.ops)
      (subst (λ q. Scoped [] q s) (sym fits.goes) ((subst (IsIn fits.value.0) (sym is) (first fits.value.0 []), tt), tt))
  block_seen (Resumes r) b s fits e =
      let is : s ≡ fits.value.0 ∷ [] = e ∙ ap numbers fits.takes in
      let value : IsIn fits.value.0 s = subst (IsIn fits.value.0) (sym is) (first fits.value.0 []) in
      let q = fetched (λ y slot. Op.FrameGet y slot) fits.value.0 (λ y slot. refl) (λ y slot v i. tt) fits.value.0 _ _ _ fits.gets s fits.fetches value (held_with [] s r.param fits.value.0 (none_held s) value) in
      subst (λ os. Scoped os b.last s) (sym fits.ops)
      (q.scoped (Op.Pop ∷ fits.rest) b.last (step Op.Pop fits.rest b.last (behind fits.gets s) tt (goes_seen _ r.body fits.rest b.last (behind fits.gets s) q.held fits.goes)))
