-- What is the same stays the same when more is tied and more frames are pushed.
use Rattle.std.proofs.Common.{[], arith, ◌≡◌, ℕ, Bool, List, Some, Option, slice_get}
use Rattle.std.specs.List.{AllZip}
use Rattle.t_prim.specs.Values.{Val, Store}
use Rattle.cps_ir.specs.States.{Pending, Meant, Scope, Closure, Handler, Object, Waiting}
use Rattle.frame_ir.specs.Values.{Value, Frame, Env, Closure as FrameClosure, Object as FrameObject}
use Rattle.layout_relation.specs.Links.{Zipped, SameOption, neither, both, Links, Extends, SameVal, fix, char, nil, truth, symbol, string, pair, vector, closure, object, operation, builtin, escape, SameMeant, value, cell, SamePair, SameList, SameStore}
use Rattle.layout_relation.specs.Contexts.{Return, Catching}
use Rattle.layout_relation.specs.Laid.{Sketch}
use Rattle.layout_relation.specs.Related.{SameFrame, SameCatch, waits_bare, waits_framed, SameHandler, SameObject, HoldAll, IsCaptured, AreCaptured, SameClosure, Waits, waits_none, waits_back}
use Rattle.layout_relation.proofs.Lists.{all_zip_more, zipped_more}

module _ (old new : Links) (more : Extends old new) where
  pub val_grows : (a b : Val) → SameVal old a b → SameVal new a b
  val_grows a b (fix z) = fix z
  val_grows a b (char c) = char c
  val_grows a b nil = nil
  val_grows a b truth = truth
  val_grows a b (symbol n) = symbol n
  val_grows a b (string t) = string t
  val_grows a b (pair k) = pair k
  val_grows a b (vector k) = vector k
  val_grows a b (closure i j h) = closure i j (more.closures i j h)
  val_grows a b (object i lt) = object i (let up = more.objects in omega (arith, lt, up))
  val_grows a b (operation o) = operation o
  val_grows a b (builtin p) = builtin p
  val_grows a b (escape i j h) = escape i j (more.escapes i j h)

  pub meant_grows : (celled : Bool) (m : Meant) (v : Value) → SameMeant old celled m v → SameMeant new celled m v
  meant_grows celled m v (value a b h) = value a b (val_grows a b h)
  meant_grows celled m v (cell i lt) = cell i (let up = more.cells in omega (arith, lt, up))

  pub vals_grow : (xs ys : List Val) → Zipped (SameVal old) xs ys → Zipped (SameVal new) xs ys
  vals_grow xs ys h = zipped_more (SameVal old) (SameVal new) val_grows xs ys h

  pub store_grows : (s t : Store) → SameStore old s t → SameStore new s t
  store_grows s t h = record {
    names = h.names;
    strings = h.strings;
    pairs = all_zip_more (SamePair old) (SamePair new) (λ p q k. record { head = val_grows p.0 q.0 k.head; tail = val_grows p.1 q.1 k.tail }) s.pairs t.pairs h.pairs;
    vectors = all_zip_more (SameList old) (SameList new) (λ p q k. all_zip_more (SameVal old) (SameVal new) val_grows p q k) s.vectors t.vectors h.vectors;
    output = h.output;
    heap = h.heap;
  }

  option_grows : (o p : Option Val) → SameOption (SameVal old) o p → SameOption (SameVal new) o p
  option_grows o p neither = neither
  option_grows o p (both x y h) = both x y (val_grows x y h)

  pub globals_grow : (xs ys : List (Option Val)) → AllZip (SameOption (SameVal old)) xs ys → AllZip (SameOption (SameVal new)) xs ys
  globals_grow xs ys h = all_zip_more (SameOption (SameVal old)) (SameOption (SameVal new)) option_grows xs ys h

  pub hold_grows : (w : Sketch) (scope : Scope) (env : Env) (vars : List (ℕ × ℕ)) → HoldAll w old scope env vars → HoldAll w new scope env vars
  hold_grows w scope env vars h x y i = let k = h x y i in record { meant = k.meant; value = k.value; is = k.is; at = k.at; same = meant_grows (w.celled x) k.meant k.value k.same }

  pub captured_grows : (w : Sketch) (scope : Scope) (xs : List ℕ) (vs : List Value) → AreCaptured w old scope xs vs → AreCaptured w new scope xs vs
  captured_grows w scope xs vs h = zipped_more (IsCaptured w old scope) (IsCaptured w new scope) (λ x v k. record { meant = k.meant; is = k.is; same = meant_grows (w.celled x) k.meant v k.same }) xs vs h

  pub closure_grows : (w : Sketch) (c : Closure) (r : FrameClosure) → SameClosure w old c r → SameClosure w new c r
  closure_grows w c r h = record { runs = h.runs; captured = captured_grows w c.scope (w.needs c.lam) r.captured h.captured }

  handler_grows : (w : Sketch) (captured : List Value) (kept : List ℕ) (h : Handler) (m : ℕ × ℕ) → SameHandler w old captured kept h m → SameHandler w new captured kept h m
  handler_grows w captured kept h m k = record { op = k.op; runs = k.runs; holds = captured_grows w h.closure.scope kept captured k.holds }

  object_grows : (w : Sketch) (x : Object) (y : FrameObject) → SameObject w old x y → SameObject w new x y
  object_grows w x y h = record {
    procedure = val_grows x.procedure y.procedure h.procedure;
    kept = h.kept;
    methods = h.methods;
    template = h.template;
    handlers = zipped_more (SameHandler w old y.captured h.kept) (SameHandler w new y.captured h.kept) (handler_grows w y.captured h.kept) x.handlers h.methods h.handlers;
  }

  pub objects_grow : (w : Sketch) (xs : List Object) (ys : List FrameObject) → AllZip (SameObject w old) xs ys → AllZip (SameObject w new) xs ys
  objects_grow w xs ys h = all_zip_more (SameObject w old) (SameObject w new) (object_grows w) xs ys h

  pub cells_grow : (xs ys : List Val) → AllZip (SameVal old) xs ys → AllZip (SameVal new) xs ys
  cells_grow xs ys h = all_zip_more (SameVal old) (SameVal new) val_grows xs ys h

  abbrev frame_grows : (w : Sketch) (fs gs : List Frame) → ((i : ℕ) (f : Frame) → slice_get fs i ≡ Some f → slice_get gs i ≡ Some f) → (pending : Pending) (birth : ℕ) (r : Return) → SameFrame w old fs pending birth r → SameFrame w new gs pending birth r
  frame_grows w fs gs there pending birth r f = record { frame = f.frame; is = there birth f.frame f.is; push = f.push; back = f.back; param = f.param; body = f.body; leads = f.leads; kept = captured_grows w pending.scope r.kept f.frame.kept f.kept }

  catch_grows : (fs gs : List Frame) → ((i : ℕ) (f : Frame) → slice_get fs i ≡ Some f → slice_get gs i ≡ Some f) → (catch birth back : ℕ) → SameCatch old fs catch birth back → SameCatch new gs catch birth back
  catch_grows fs gs there catch birth back c = record { frame = c.frame; is = there birth c.frame c.is; opened = c.opened; back_is = c.back_is; tied = more.escapes catch birth c.tied }

  pub waits_grow : (w : Sketch) (fs gs : List Frame) → ((i : ℕ) (f : Frame) → slice_get fs i ≡ Some f → slice_get gs i ≡ Some f)
      → (cs : List Catching) (waiting : List Waiting) (live : List ℕ) → Waits w old fs cs waiting live → Waits w new gs cs waiting live
  waits_grow w fs gs there cs waiting live waits_none = waits_none
  waits_grow w fs gs there cs waiting live (waits_back pending rest birth older r f h) =
      waits_back pending rest birth older r (frame_grows w fs gs there pending birth r f) (waits_grow w fs gs there r.catches rest older h)
  waits_grow w fs gs there cs waiting live (waits_bare catch rest birth older back c passes h) =
      waits_bare catch rest birth older back (catch_grows fs gs there catch birth back c) passes (waits_grow w fs gs there [] rest older h)
  waits_grow w fs gs there cs waiting live (waits_framed catch pending rest birth push older r f c h) =
      waits_framed catch pending rest birth push older r (frame_grows w fs gs there pending push r f) (catch_grows fs gs there catch birth f.frame.back c) (waits_grow w fs gs there r.catches rest older h)

pub extends_itself : (links : Links) → Extends links links
extends_itself links = record { closures = λ i j h. h; escapes = λ i j h. h; objects = omega arith; cells = omega arith }
