-- A small program with a CATCH, an object and a closure in a frame that an escape passes is whole, and its kinds fit.
use Rattle.std.proofs.Common.{◌≡◌, ◌≢◌, ℕ, zero, suc, ◌+◌, ◌≤◌, ◌<◌, List, [], ◌∷◌, length, map, get_or, slice_get, All, AllPairs, Contains, Some, None, IsSomeAnd, true, false, refl, ap, subst, arith, inl, inr}
use Rattle.std.specs.Global.{Global}
use Rattle.std.proofs.lemmas.Option.{none-some, same_Some}
use Rattle.std.proofs.lemmas.List.Elements.{All-cons, All-nil}
use Rattle.t_base.specs.declared.basics.Var.{Var}
use Rattle.cps_ir.specs.declared.args.Arg.{Arg}
use Rattle.cps_ir.specs.declared.args.Arg.TheVariants as Argument
use Rattle.frame_ir.specs.declared.forms.Block.{Block}
use Rattle.frame_ir.specs.declared.forms.Template.{Template}
use Rattle.frame_ir.specs.declared.forms.FrameOp.{FrameOp}
use Rattle.frame_ir.specs.declared.forms.Frames.{Frames}
use Rattle.frame_ir.specs.declared.forms.Place.TheVariants as At
use Rattle.frame_ir.specs.declared.forms.FrameOp.TheVariants as Op
use Rattle.frame_ir.specs.declared.forms.FrameEnd.TheVariants as Last
use Rattle.frame_ir.specs.Kinds.{Up, Plain, Code, kind, plain_any, Flow, AllAccept}
use Rattle.frame_ir.specs.Fitting.{FitsFrom, StartsCode, IsFilled, IsPlain, IsPlainKind, IsBareCode, IsClosureCode, StaysAbove, BackStaysAbove, FillsFrom, StandsIn, IsCodeParam, TakesKind, flow_behind}
use Rattle.frame_ir.specs.Whole.{BlockNamesAreThere, OpNamesAreThere, IsArg, IsTemplate, AreScoped, IsShapedOp, IsShapedEnd, IsCodeCount, IsMethodCount, HasParams}
use Rattle.frame_ir.specs.Parts.{op_args}
use Rattle.frame_ir.specs.Writing.{var, fix, of}
use Rattle.frame_ir.specs.Examples.{past_a_frame}
use Rattle.frame_ir.specs.ExampleKinds.{caught, pushed, starts_past, slots_past, captured_past, kinds_past, PastAFrameIsWhole, PastAFrameFits}
use Rattle.frame_ir.proofs.ExampleFits.{contains_one, contains_none}
use Rattle.frame_ir.proofs.ExampleWhole.{whole_shared}

at_five : {X : Type 0} (P : ℕ → X → Type 0) (a b c d e : X) → P 0 a → P 1 b → P 2 c → P 3 d → P 4 e → (n : ℕ) (x : X) → slice_get (a ∷ b ∷ c ∷ d ∷ e ∷ []) n ≡ Some x → P n x
at_five P a b c d e h k l m o zero x is = subst (P 0) (same_Some a x is) h
at_five P a b c d e h k l m o (suc zero) x is = subst (P 1) (same_Some b x is) k
at_five P a b c d e h k l m o (suc (suc zero)) x is = subst (P 2) (same_Some c x is) l
at_five P a b c d e h k l m o (suc (suc (suc zero))) x is = subst (P 3) (same_Some d x is) m
at_five P a b c d e h k l m o (suc (suc (suc (suc zero)))) x is = subst (P 4) (same_Some e x is) o
at_five P a b c d e h k l m o (suc (suc (suc (suc (suc n))))) x is = absurd (none-some x is)

at_one : {X : Type 0} (P : ℕ → X → Type 0) (a : X) → P 0 a → (n : ℕ) (x : X) → slice_get (a ∷ []) n ≡ Some x → P n x
at_one P a h zero x e = subst (P 0) (same_Some a x e) h
at_one P a h (suc n) x e = absurd (none-some x e)

-- ---- kinds

both_filled : All IsFilled (pushed ∷ caught ∷ [])
both_filled = All-cons IsFilled pushed (caught ∷ []) refl (All-cons IsFilled caught [] refl (All-nil IsFilled))

filled_frame : (n : ℕ) → All IsFilled (starts_past n).known
filled_frame zero = All-nil IsFilled
filled_frame (suc zero) = All-nil IsFilled
filled_frame (suc (suc zero)) = both_filled
filled_frame (suc (suc (suc zero))) = All-nil IsFilled
filled_frame (suc (suc (suc (suc zero)))) = All-nil IsFilled
filled_frame (suc (suc (suc (suc (suc n))))) = All-nil IsFilled

free_slot : (i : ℕ) → 0 ≤ i → i < 4 → Contains (0 ∷ 1 ∷ 2 ∷ 3 ∷ []) i
free_slot zero le lt = (0, omega arith, refl)
free_slot (suc zero) le lt = (1, omega arith, refl)
free_slot (suc (suc zero)) le lt = (2, omega arith, refl)
free_slot (suc (suc (suc zero))) le lt = (3, omega arith, refl)
free_slot (suc (suc (suc (suc i)))) le lt = absurd (omega (arith, lt))

head_slot : (i : ℕ) → 0 ≤ i → i < 3 → slice_get (slots_past 2) i ≡ Some None
head_slot zero le lt = refl
head_slot (suc zero) le lt = refl
head_slot (suc (suc zero)) le lt = refl
head_slot (suc (suc (suc i))) le lt = absurd (omega (arith, lt))

stands : StandsIn (slots_past 2) (0 ∷ 1 ∷ 2 ∷ 3 ∷ []) 0 1
stands = record { there = omega arith; free = free_slot; head = head_slot; rest = λ i le lt. absurd (omega (arith, le, lt)) }

fills : FillsFrom (slots_past 2) 3 (Some plain_any ∷ [])
fills = at_one (λ j given. TakesKind (slots_past 2) (3 + j) given) (Some plain_any) (tt, tt)

module _ (alloc : Global) where
  abbrev p : Frames
  p = past_a_frame alloc

  abbrev Fits : ℕ → Block → Type 0
  Fits n b = FitsFrom p kinds_past n 0 b.ops.items b.last (starts_past n)

  abbrev Plains : Flow → List Arg → Type 0
  Plains f args = All (IsPlain p f) args

  abbrev fetched : Flow
  fetched = record { kinds = (1, plain_any) ∷ (0, kind Up (Code 0)) ∷ []; known = [] }

  code_fits : FitsFrom p kinds_past 0 0 (Op.ClosureGet (var 1) (var 0) 0 ∷ []) (Last.Call (Argument.Op 0) (of 1 ∷ [])) (starts_past 0)
  code_fits = ((plain_any, refl), (All-nil IsFilled, (tt, (All-cons (IsPlain p fetched) (of 1) [] (tt, tt) (All-nil _), inl refl))))

  made : All (λ given. IsSomeAnd given IsPlainKind) (Some plain_any ∷ [])
  made = All-cons (λ given. IsSomeAnd given IsPlainKind) (Some plain_any) [] refl (All-nil _)

  entry_fits : FitsFrom p kinds_past 1 0 (Op.CatchOpen (var 2) 3 ∷ Op.Object (var 3) 0 (fix 0) (var 2 ∷ []) ∷ Op.Push [] 2 ∷ Op.Closure (var 4) 0 (var 3 ∷ []) (At.Frame 0) ∷ []) (Last.Call (of 4) []) (starts_past 1)
  entry_fits = (
    record { slots = refl; goes = record { frames = refl; param = refl } },
    (
      ((tt, tt), record { methods = All-cons (λ code. AllAccept (captured_past code) (Some plain_any ∷ [])) 4 [] ((tt, tt), tt) (All-nil _); plain = made }),
      (
        record { size = refl; filled = λ j given e. absurd (none-some given e); returns = record { frames = refl; param = refl } },
        (
          record { push = tt; accepted = ((tt, tt), tt); filled = fills; stands = stands },
          (both_filled, (tt, ((λ i d lt. absurd (omega (arith, lt))), inr tt))),
        ),
      ),
    ),
  )

  back_fits : FitsFrom p kinds_past 2 0 (Op.Pop ∷ Op.CatchClose ∷ []) (Last.Halt (of 5)) (starts_past 2)
  back_fits = ((tt, refl), (tt, (All-nil IsFilled, (tt, tt))))

  catch_fits : FitsFrom p kinds_past 3 0 [] (Last.Halt (of 6)) (starts_past 3)
  catch_fits = (All-nil IsFilled, (tt, tt))

  abbrev handled : Flow
  handled = record { kinds = (8, plain_any) ∷ (7, kind Plain (Code 4)) ∷ []; known = [] }

  method_fits : FitsFrom p kinds_past 4 0 (Op.ClosureGet (var 8) (var 7) 0 ∷ []) (Last.Call (of 8) (fix 5 ∷ [])) (starts_past 4)
  method_fits = ((plain_any, refl), (All-nil IsFilled, (tt, (All-cons (IsPlain p handled) (fix 5) [] (tt, tt) (All-nil _), inl refl))))

  blocks : (n : ℕ) (b : Block) → slice_get p.blocks.items n ≡ Some b → Fits n b
  blocks = at_five Fits _ _ _ _ _ code_fits entry_fits back_fits catch_fits method_fits

  abbrev Stays : ℕ → Block → Type 0
  Stays n b = kinds_past.bottom n ≡ true → StaysAbove p kinds_past (flow_behind kinds_past n 0 b.ops.items (starts_past n)) b.last

  stay : (n : ℕ) (b : Block) → slice_get p.blocks.items n ≡ Some b → Stays n b
  stay = at_five Stays _ _ _ _ _ (λ h. absurd (let never : false ≡ true = h in cc)) (λ h e. let l : 2 ≡ 0 = ap length e in omega (arith, l)) (λ h. tt) (λ h. tt) (λ h. absurd (let never : false ≡ true = h in cc))

  abbrev BacksStay : ℕ → Block → Type 0
  BacksStay n b = kinds_past.bottom n ≡ true → All (BackStaysAbove kinds_past) b.ops.items

  entry_back : All (BackStaysAbove kinds_past) (Op.CatchOpen (var 2) 3 ∷ Op.Object (var 3) 0 (fix 0) (var 2 ∷ []) ∷ Op.Push [] 2 ∷ Op.Closure (var 4) 0 (var 3 ∷ []) (At.Frame 0) ∷ [])
  entry_back zero d lt = refl
  entry_back (suc zero) d lt = tt
  entry_back (suc (suc zero)) d lt = refl
  entry_back (suc (suc (suc zero))) d lt = tt
  entry_back (suc (suc (suc (suc i)))) d lt = absurd (omega (arith, lt))

  return_back : All (BackStaysAbove kinds_past) (Op.Pop ∷ Op.CatchClose ∷ [])
  return_back zero d lt = tt
  return_back (suc zero) d lt = tt
  return_back (suc (suc i)) d lt = absurd (omega (arith, lt))

  backs_stay : (n : ℕ) (b : Block) → slice_get p.blocks.items n ≡ Some b → BacksStay n b
  backs_stay = at_five BacksStay _ _ _ _ _ (λ h. absurd (let never : false ≡ true = h in cc)) (λ h. entry_back) (λ h. return_back) (λ h. All-nil _) (λ h. absurd (let never : false ≡ true = h in cc))

  bare_codes : (code : ℕ) → IsBareCode p code → captured_past code ≡ []
  bare_codes code (inl h) = absurd (contains_none code h)
  bare_codes code (inr lt) = absurd (omega (arith, lt))

  closure_starts : StartsCode kinds_past Up 0
  closure_starts = record { frames = refl; params = ([], (refl, All-nil IsCodeParam)) }

  method_starts : StartsCode kinds_past Plain 4
  method_starts = record { frames = refl; params = ([], (refl, All-nil IsCodeParam)) }

  codes_start : (code : ℕ) → IsClosureCode p code → StartsCode kinds_past Up code
  codes_start code (inl h) = subst (StartsCode kinds_past Up) (contains_one 0 code h) closure_starts
  codes_start code (inr lt) = absurd (omega (arith, lt))

pub past_a_frame_fits : PastAFrameFits
past_a_frame_fits alloc = record {
  params = λ n b e own. at_five (λ n b. map (λ b. b.0) (starts_past n).kinds ≡ map (λ x. x.0) b.params) _ _ _ _ _ refl refl refl refl refl n b e;
  settled = filled_frame;
  blocks = blocks alloc;
  entry = refl;
  codes = record { bare = bare_codes alloc; closures = codes_start alloc; methods = λ code h other. subst (StartsCode kinds_past Plain) (contains_one 4 code h) (method_starts alloc) };
  bottom = record { entry = refl; ends = stay alloc; backs = backs_stay alloc };
}

-- ---- whole

module _ (alloc : Global) where
  abbrev q : Frames
  q = past_a_frame alloc

  abbrev IsThere : FrameOp → Type 0
  IsThere op = OpNamesAreThere q op × All (IsArg q) (op_args op)

  one_arg : (x : ℕ) → All (IsArg q) (of x ∷ [])
  one_arg x = All-cons (IsArg q) (of x) [] tt (All-nil _)

  one_number : (n : ℕ) → IsArg q (fix n) → All (IsArg q) (fix n ∷ [])
  one_number n h = All-cons (IsArg q) (fix n) [] h (All-nil _)

  get_there : (to from : ℕ) → All IsThere (Op.ClosureGet (var to) (var from) 0 ∷ [])
  get_there to from zero d lt = (tt, All-nil _)
  get_there to from (suc k) d lt = absurd (omega (arith, lt))

  entry_there : All IsThere (Op.CatchOpen (var 2) 3 ∷ Op.Object (var 3) 0 (fix 0) (var 2 ∷ []) ∷ Op.Push [] 2 ∷ Op.Closure (var 4) 0 (var 3 ∷ []) (At.Frame 0) ∷ [])
  entry_there zero d lt = (omega arith, All-nil _)
  entry_there (suc zero) d lt = (omega arith, one_number 0 refl)
  entry_there (suc (suc zero)) d lt = (omega arith, All-nil _)
  entry_there (suc (suc (suc zero))) d lt = (omega arith, All-nil _)
  entry_there (suc (suc (suc (suc k)))) d lt = absurd (omega (arith, lt))

  back_there : All IsThere (Op.Pop ∷ Op.CatchClose ∷ [])
  back_there zero d lt = (tt, All-nil _)
  back_there (suc zero) d lt = (tt, All-nil _)
  back_there (suc (suc k)) d lt = absurd (omega (arith, lt))

  op_there : 0 < 3
  op_there = omega arith

  there : All (BlockNamesAreThere q) q.blocks.items
  there zero d lt = (get_there 1 0, (All-nil _, All-cons (IsArg q) (Argument.Op 0) (of 1 ∷ []) op_there (one_arg 1)))
  there (suc zero) d lt = (entry_there, (All-nil _, one_arg 4))
  there (suc (suc zero)) d lt = (back_there, (All-nil _, one_arg 5))
  there (suc (suc (suc zero))) d lt = (All-nil _, (All-nil _, one_arg 6))
  there (suc (suc (suc (suc zero)))) d lt = (get_there 8 7, (All-nil _, All-cons (IsArg q) (of 8) (fix 5 ∷ []) tt (one_number 5 refl)))
  there (suc (suc (suc (suc (suc k))))) d lt = absurd (omega (arith, lt))

  templates : All (IsTemplate q) q.templates.items
  templates zero d lt = (All-cons (λ o. o < 3) 0 [] (omega arith) (All-nil _), All-cons (λ code. code < 5) 4 [] (omega arith) (All-nil _))
  templates (suc k) d lt = absurd (omega (arith, lt))

  -- ---- scopes

  abbrev scope : ℕ → List Var
  scope zero = var 0 ∷ []
  scope (suc zero) = []
  scope (suc (suc zero)) = var 5 ∷ []
  scope (suc (suc (suc zero))) = var 6 ∷ []
  scope (suc (suc (suc (suc n)))) = var 7 ∷ []

  first_of : (x : Var) (xs : List Var) → Contains (x ∷ xs) x
  first_of x xs = (0, omega arith, refl)

  second_of : (x y : Var) (xs : List Var) → Contains (y ∷ x ∷ xs) x
  second_of x y xs = (1, omega arith, refl)

  one_seen : (scope : List Var) (x : Var) → Contains scope x → All (Contains scope) (x ∷ [])
  one_seen scope x h = All-cons (Contains scope) x [] h (All-nil _)

  abbrev Used : ℕ → Block → Type 0
  Used n b = AreScoped b.ops.items b.last (scope n)

  code_used : AreScoped (Op.ClosureGet (var 1) (var 0) 0 ∷ []) (Last.Call (Argument.Op 0) (of 1 ∷ [])) (var 0 ∷ [])
  code_used = (one_seen (var 0 ∷ []) (var 0) (first_of (var 0) []), one_seen (var 1 ∷ var 0 ∷ []) (var 1) (first_of (var 1) (var 0 ∷ [])))

  entry_used : AreScoped (Op.CatchOpen (var 2) 3 ∷ Op.Object (var 3) 0 (fix 0) (var 2 ∷ []) ∷ Op.Push [] 2 ∷ Op.Closure (var 4) 0 (var 3 ∷ []) (At.Frame 0) ∷ []) (Last.Call (of 4) []) []
  entry_used = (
    All-nil _,
    (
      one_seen (var 2 ∷ []) (var 2) (first_of (var 2) []),
      (
        All-nil _,
        (
          one_seen (var 4 ∷ var 3 ∷ var 2 ∷ []) (var 3) (second_of (var 3) (var 4) (var 2 ∷ [])),
          one_seen (var 4 ∷ var 3 ∷ var 2 ∷ []) (var 4) (first_of (var 4) (var 3 ∷ var 2 ∷ [])),
        ),
      ),
    ),
  )

  back_used : AreScoped (Op.Pop ∷ Op.CatchClose ∷ []) (Last.Halt (of 5)) (var 5 ∷ [])
  back_used = (All-nil _, (All-nil _, one_seen (var 5 ∷ []) (var 5) (first_of (var 5) [])))

  catch_used : AreScoped [] (Last.Halt (of 6)) (var 6 ∷ [])
  catch_used = one_seen (var 6 ∷ []) (var 6) (first_of (var 6) [])

  method_used : AreScoped (Op.ClosureGet (var 8) (var 7) 0 ∷ []) (Last.Call (of 8) (fix 5 ∷ [])) (var 7 ∷ [])
  method_used = (one_seen (var 7 ∷ []) (var 7) (first_of (var 7) []), one_seen (var 8 ∷ var 7 ∷ []) (var 8) (first_of (var 8) (var 7 ∷ [])))

  used : (n : ℕ) (b : Block) → slice_get q.blocks.items n ≡ Some b → Used n b
  used = at_five Used _ _ _ _ _ code_used entry_used back_used catch_used method_used

  abbrev Own : ℕ → Block → Type 0
  Own n b = scope n ≡ b.params

  own : (n : ℕ) (b : Block) → slice_get q.blocks.items n ≡ Some b → Own n b
  own = at_five Own _ _ _ _ _ refl refl refl refl refl

  -- the variables are bound in the order of their numbers
  abbrev all_vars : List Var
  all_vars = var 0 ∷ var 1 ∷ var 2 ∷ var 3 ∷ var 4 ∷ var 5 ∷ var 6 ∷ var 7 ∷ var 8 ∷ []

  number_at : (i : ℕ) (d : Var) → i < 9 → (get_or all_vars i d).0 ≡ i
  number_at zero d lt = refl
  number_at (suc zero) d lt = refl
  number_at (suc (suc zero)) d lt = refl
  number_at (suc (suc (suc zero))) d lt = refl
  number_at (suc (suc (suc (suc zero)))) d lt = refl
  number_at (suc (suc (suc (suc (suc zero))))) d lt = refl
  number_at (suc (suc (suc (suc (suc (suc zero)))))) d lt = refl
  number_at (suc (suc (suc (suc (suc (suc (suc zero))))))) d lt = refl
  number_at (suc (suc (suc (suc (suc (suc (suc (suc zero)))))))) d lt = refl
  number_at (suc (suc (suc (suc (suc (suc (suc (suc (suc i))))))))) d lt = absurd (omega (arith, lt))

  numbered : AllPairs (λ x y. x ≢ y) all_vars
  numbered i j d lt less e =
      let one : (get_or all_vars i d).0 ≡ i = number_at i d (omega (arith, lt, less)) in
      let other : (get_or all_vars j d).0 ≡ j = number_at j d less in
      let same : (get_or all_vars i d).0 ≡ (get_or all_vars j d).0 = ap (λ x. x.0) e in
      omega (arith, one, other, same, lt)

  -- each number below nine is bound
  is_bound : (x : ℕ) → x < 9 → Contains all_vars (var x)
  is_bound x lt = (x, lt, same (get_or all_vars x (var x)) (number_at x (var x) lt))
    where
      same : (v : Var) → v.0 ≡ x → v ≡ var x
      same v e = ap (λ n. record { 0 = n }) e

  abbrev used_vars : List Var
  used_vars = var 0 ∷ var 1 ∷ var 2 ∷ var 3 ∷ var 4 ∷ var 5 ∷ var 6 ∷ var 7 ∷ var 8 ∷ []

  all_bound : All (Contains all_vars) used_vars
  all_bound zero d lt = is_bound 0 (omega arith)
  all_bound (suc zero) d lt = is_bound 1 (omega arith)
  all_bound (suc (suc zero)) d lt = is_bound 2 (omega arith)
  all_bound (suc (suc (suc zero))) d lt = is_bound 3 (omega arith)
  all_bound (suc (suc (suc (suc zero)))) d lt = is_bound 4 (omega arith)
  all_bound (suc (suc (suc (suc (suc zero))))) d lt = is_bound 5 (omega arith)
  all_bound (suc (suc (suc (suc (suc (suc zero)))))) d lt = is_bound 6 (omega arith)
  all_bound (suc (suc (suc (suc (suc (suc (suc zero))))))) d lt = is_bound 7 (omega arith)
  all_bound (suc (suc (suc (suc (suc (suc (suc (suc zero)))))))) d lt = is_bound 8 (omega arith)
  all_bound (suc (suc (suc (suc (suc (suc (suc (suc (suc i))))))))) d lt = absurd (omega (arith, lt))

  -- ---- shapes and blocks

  get_shaped : (to from : ℕ) → All (IsShapedOp q) (Op.ClosureGet (var to) (var from) 0 ∷ [])
  get_shaped to from zero d lt = tt
  get_shaped to from (suc k) d lt = absurd (omega (arith, lt))

  entry_shaped : All (IsShapedOp q) (Op.CatchOpen (var 2) 3 ∷ Op.Object (var 3) 0 (fix 0) (var 2 ∷ []) ∷ Op.Push [] 2 ∷ Op.Closure (var 4) 0 (var 3 ∷ []) (At.Frame 0) ∷ [])
  entry_shaped zero d lt = tt
  entry_shaped (suc zero) d lt = tt
  entry_shaped (suc (suc zero)) d lt = tt
  entry_shaped (suc (suc (suc zero))) d lt = tt
  entry_shaped (suc (suc (suc (suc k)))) d lt = absurd (omega (arith, lt))

  back_shaped : All (IsShapedOp q) (Op.Pop ∷ Op.CatchClose ∷ [])
  back_shaped zero d lt = tt
  back_shaped (suc zero) d lt = tt
  back_shaped (suc (suc k)) d lt = absurd (omega (arith, lt))

  shaped : All (λ b. All (IsShapedOp q) b.ops.items) q.blocks.items
  shaped zero d lt = get_shaped 1 0
  shaped (suc zero) d lt = entry_shaped
  shaped (suc (suc zero)) d lt = back_shaped
  shaped (suc (suc (suc zero))) d lt = All-nil _
  shaped (suc (suc (suc (suc zero)))) d lt = get_shaped 8 7
  shaped (suc (suc (suc (suc (suc k))))) d lt = absurd (omega (arith, lt))

  ends_shaped : All (λ b. IsShapedEnd q b.last) q.blocks.items
  ends_shaped zero d lt = omega arith
  ends_shaped (suc zero) d lt = omega arith
  ends_shaped (suc (suc zero)) d lt = tt
  ends_shaped (suc (suc (suc zero))) d lt = tt
  ends_shaped (suc (suc (suc (suc zero)))) d lt = omega arith
  ends_shaped (suc (suc (suc (suc (suc k))))) d lt = absurd (omega (arith, lt))

  same_lengths : All (λ (t : Template). length t.ops ≡ length t.codes) q.templates.items
  same_lengths zero d lt = refl
  same_lengths (suc k) d lt = absurd (omega (arith, lt))

  codes : All (HasParams q IsCodeCount) (0 ∷ [])
  codes = All-cons (HasParams q IsCodeCount) 0 [] (omega arith, omega arith) (All-nil _)

  methods : All (HasParams q IsMethodCount) (4 ∷ [])
  methods = All-cons (HasParams q IsMethodCount) 4 [] (omega arith, omega arith) (All-nil _)

  backs : All (HasParams q (λ n. n ≡ 1)) (3 ∷ 2 ∷ [])
  backs = All-cons (HasParams q (λ n. n ≡ 1)) 3 (2 ∷ []) refl (All-cons (HasParams q (λ n. n ≡ 1)) 2 [] refl (All-nil _))

  no_arms : (n : ℕ) (b : Block) → slice_get q.blocks.items n ≡ Some b → (test : Arg) (first second : ℕ) → b.last ≡ Last.If test first second → ⊥
  no_arms n b e test first second is = at_five (λ n b. b.last ≡ Last.If test first second → ⊥) _ _ _ _ _ (λ h. cc) (λ h. cc) (λ h. cc) (λ h. cc) (λ h. cc) n b e is

pub past_a_frame_is_whole : PastAFrameIsWhole
past_a_frame_is_whole alloc = record {
  places = record { blocks = there alloc; templates = templates alloc; entry = omega arith; first_codes = omega arith };
  scopes = record { scope = scope alloc; bound_once = numbered alloc; bound = all_bound alloc; own = λ n b e other. own alloc n b e; arms = λ n b test first second e is. absurd (no_arms alloc n b e test first second is); used = used alloc };
  shapes = record { ops = shaped alloc; ends = ends_shaped alloc; templates = same_lengths alloc };
  blocks = record { arms = All-nil _; codes = codes alloc; first_codes = λ n lt. absurd (omega (arith, lt)); methods = methods alloc; backs = backs alloc; entry = refl };
  shared = whole_shared alloc;
}
