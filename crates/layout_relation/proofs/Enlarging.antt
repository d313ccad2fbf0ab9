-- What is laid out stays so when more blocks get a purpose and more templates are there.
use Rattle.std.proofs.Common.{ℕ, List, ◌++◌}
use Rattle.t_base.specs.declared.basics.Var.{Var}
use Rattle.cps_ir.specs.declared.args.Arg.{Arg}
use Rattle.cps_ir.specs.declared.terms.Cont.{Cont}
use Rattle.cps_ir.specs.declared.terms.Term.{Term}
use Rattle.cps_ir.specs.declared.terms.Cps.{Cps}
use Rattle.frame_ir.specs.declared.forms.FrameOp.{FrameOp}
use Rattle.frame_ir.specs.declared.forms.FrameEnd.{FrameEnd}
use Rattle.frame_ir.specs.declared.forms.Block.{Block}
use Rattle.frame_ir.specs.declared.forms.Template.{Template}
use Rattle.layout_relation.specs.Links.{Zipped}
use Rattle.layout_relation.specs.Contexts.{Context, Exits, Purpose, CodeOf, MethodOf, Begins, ArmOf, PassesOn, Resumes}
use Rattle.layout_relation.specs.Laid.{Sketch, IsFor, IsNewIn, MakesClosure, SameArg, same_const, same_var, same_global, same_builtin, same_op, Prepares, prepares_none, prepares_same, prepares_closure, Labels, labels_none, labels_one, IsMethod, Gives, gives_out, gives_join, gives_jump, gives_here, gives_unused, GoesOn, goes_here, goes_to, Lays, lays, LaysTerm, lays_tail_call, lays_call, lays_prim, lays_if, lays_labels, lays_join, lays_give, lays_global_get, lays_global_init, lays_global_set, lays_cell, lays_cell_get, lays_cell_set, lays_object, lays_tail_catch, lays_catch, lays_tail_uncatch, lays_uncatch, lays_halt, BlockFits}
use Rattle.layout_relation.proofs.Lists.{get_front, zipped_more}

-- a sketch with more purposes and templates behind its own
abbrev pub enlarged : Sketch → List Purpose → List Template → Sketch
enlarged w purposes templates = record w { purposes = w.purposes ++ purposes; templates = w.templates ++ templates }

module _ (cps : Cps) (w : Sketch) (purposes : List Purpose) (templates : List Template) where
  abbrev v : Sketch
  v = enlarged w purposes templates

  pub still_for : (k : ℕ) (purpose : Purpose) → IsFor w k purpose → IsFor v k purpose
  still_for k purpose h = get_front w.purposes purposes k purpose h

  new_in : (needs : List ℕ) (exits : Exits) (x : ℕ) → IsNewIn w needs exits x → IsNewIn v needs exits x
  new_in needs exits x h = record { plain = h.plain; apart = h.apart; unneeded = h.unneeded }

  closure_stays : (vars : List (ℕ × ℕ)) (l : ℕ) (to : Var) (code : ℕ) (kept : List Var) (ms : List FrameOp) → MakesClosure cps w vars l to code kept ms → MakesClosure cps v vars l to code kept ms
  closure_stays vars l to code kept ms h = record { lambda = h.lambda; runs = still_for code (CodeOf l) h.runs; holds = h.holds; later = h.later }

  arg_stays : (vars : List (ℕ × ℕ)) (a : Arg) (b : Arg) → SameArg cps w vars a b → SameArg cps v vars a b
  arg_stays vars a b (same_const k) = same_const k
  arg_stays vars a b (same_var x y i plain) = same_var x y i plain
  arg_stays vars a b (same_global g code e) = same_global g code e
  arg_stays vars a b (same_builtin p) = same_builtin p
  arg_stays vars a b (same_op o) = same_op o

  prepares_stays : (vars : List (ℕ × ℕ)) (args : List Arg) (ms : List FrameOp) (bs : List Arg) → Prepares cps w vars args ms bs → Prepares cps v vars args ms bs
  prepares_stays vars args ms bs prepares_none = prepares_none
  prepares_stays vars args ms bs (prepares_same a b as_ ns cs h rest) = prepares_same a b as_ ns cs (arg_stays vars a b h) (prepares_stays vars as_ ns cs rest)
  prepares_stays vars args ms bs (prepares_closure l to code kept as_ ns cs h u rest) = prepares_closure l to code kept as_ ns cs (closure_stays vars l to code kept ns h) u (prepares_stays vars as_ ns cs rest)

  labels_stay : (vars : List (ℕ × ℕ)) (xs : List Var) (lams : List ℕ) (ms : List FrameOp) (tos : List Var) → Labels cps w vars xs lams ms tos → Labels cps v vars xs lams ms tos
  labels_stay vars xs lams ms tos labels_none = labels_none
  labels_stay vars xs lams ms tos (labels_one x l to code kept ys ls ns ts h rest) = labels_one x l to code kept ys ls ns ts (closure_stays vars l to code kept ns h) (labels_stay vars ys ls ns ts rest)

  methods_stay : (needs : List ℕ) (xs ys : List (ℕ × ℕ)) → Zipped (IsMethod w needs) xs ys → Zipped (IsMethod v needs) xs ys
  methods_stay needs xs ys h = zipped_more (IsMethod w needs) (IsMethod v needs) (λ x y k. record { op = k.op; runs = still_for y.1 (MethodOf x.1 needs) k.runs }) xs ys h

  mutual
    pub gives_stay : (c : Context) (t : ℕ) (k : Cont) (a : Arg) (ops : List FrameOp) (last : FrameEnd) → Gives cps w c t k a ops last → Gives cps v c t k a ops last
    gives_stay c t k a ops last (gives_out c2 t2 j a2 out none) = gives_out c2 t2 j a2 out none
    gives_stay c t k a ops last (gives_join c2 t2 j a2 m rest ys meets for held new few) = gives_join c2 t2 j a2 m rest ys meets (still_for _ _ for) held (new_in m.needs rest m.param new) few
    gives_stay c t k a ops last (gives_jump c2 t2 param body a2 block needs ys for held new few) = gives_jump c2 t2 param body a2 block needs ys (still_for _ _ for) held (new_in needs c2.exits param.0 new) few
    gives_stay c t k a ops last (gives_here c2 t2 param body x ops2 last2 fresh plain lower laying) = gives_here c2 t2 param body x ops2 last2 fresh plain lower (lays_stay _ body ops2 last2 laying)
    gives_stay c t k a ops last (gives_unused c2 t2 param body a2 ops2 last2 fresh lower laying) = gives_unused c2 t2 param body a2 ops2 last2 fresh lower (lays_stay c2 body ops2 last2 laying)

    pub goes_stay : (c : Context) (t : ℕ) (ops : List FrameOp) (last : FrameEnd) → GoesOn cps w c t ops last → GoesOn cps v c t ops last
    goes_stay c t ops last (goes_here c2 t2 ops2 last2 laying) = goes_here c2 t2 ops2 last2 (lays_stay c2 t2 ops2 last2 laying)
    goes_stay c t ops last (goes_to c2 t2 block needs ys for held few) = goes_to c2 t2 block needs ys (still_for _ _ for) held few

    pub lays_stay : (c : Context) (t : ℕ) (ops : List FrameOp) (last : FrameEnd) → Lays cps w c t ops last → Lays cps v c t ops last
    lays_stay c t ops last (lays c2 t2 term ops2 last2 is fits) = lays c2 t2 term ops2 last2 is (term_stays c2 t2 term ops2 last2 fits)

    pub term_stays : (c : Context) (t : ℕ) (term : Term) (ops : List FrameOp) (last : FrameEnd) → LaysTerm cps w c t term ops last → LaysTerm cps v c t term ops last
    term_stays c t term ops last (lays_tail_call c2 t2 f args k ms g bs prep out none) = lays_tail_call c2 t2 f args k ms g bs (prepares_stays c2.vars _ ms _ prep) out none
    term_stays c t term ops last (lays_call c2 t2 f args k ms g bs r kept back prep awaits for held once) = lays_call c2 t2 f args k ms g bs r kept back (prepares_stays c2.vars _ ms _ prep) awaits (still_for _ _ for) held once
    term_stays c t term ops last (lays_prim c2 t2 f args k ms bs to ops2 last2 prep unused gives) = lays_prim c2 t2 f args k ms bs to ops2 last2 (prepares_stays c2.vars _ ms _ prep) unused (gives_stay c2 t2 k _ ops2 last2 gives)
    term_stays c t term ops last (lays_if c2 t2 test one other ms x there_arm other_arm prep fy fn) = lays_if c2 t2 test one other ms x there_arm other_arm (prepares_stays c2.vars _ ms _ prep) (still_for _ _ fy) (still_for _ _ fn)
    term_stays c t term ops last (lays_labels c2 t2 xs lams body ms tos ops2 last2 labels fresh distinct unused apart lower onward) = lays_labels c2 t2 xs lams body ms tos ops2 last2 (labels_stay _ xs lams ms tos labels) fresh distinct unused apart lower (goes_stay _ body ops2 last2 onward)
    term_stays c t term ops last (lays_join c2 t2 k param body rest block needs ops2 last2 lower laying) = lays_join c2 t2 k param body rest block needs ops2 last2 lower (lays_stay _ rest ops2 last2 laying)
    term_stays c t term ops last (lays_give c2 t2 k value ms x ops2 last2 prep apart gives) = lays_give c2 t2 k value ms x ops2 last2 (prepares_stays c2.vars _ ms _ prep) apart (gives_stay c2 t2 k x ops2 last2 gives)
    term_stays c t term ops last (lays_global_get c2 t2 g k to ops2 last2 lt unused gives) = lays_global_get c2 t2 g k to ops2 last2 lt unused (gives_stay c2 t2 k _ ops2 last2 gives)
    term_stays c t term ops last (lays_global_init c2 t2 g value k ms x ops2 last2 lt none prep gives) = lays_global_init c2 t2 g value k ms x ops2 last2 lt none (prepares_stays c2.vars _ ms _ prep) (gives_stay c2 t2 k x ops2 last2 gives)
    term_stays c t term ops last (lays_global_set c2 t2 g value k ms x ops2 last2 lt none prep gives) = lays_global_set c2 t2 g value k ms x ops2 last2 lt none (prepares_stays c2.vars _ ms _ prep) (gives_stay c2 t2 k x ops2 last2 gives)
    term_stays c t term ops last (lays_cell c2 t2 x value rest ms y to ops2 last2 prep fresh celled unused onward) = lays_cell c2 t2 x value rest ms y to ops2 last2 (prepares_stays c2.vars _ ms _ prep) fresh celled unused (goes_stay _ rest ops2 last2 onward)
    term_stays c t term ops last (lays_cell_get c2 t2 x y k to ops2 last2 there celled unused gives) = lays_cell_get c2 t2 x y k to ops2 last2 there celled unused (gives_stay c2 t2 k _ ops2 last2 gives)
    term_stays c t term ops last (lays_cell_set c2 t2 x y value k ms z ops2 last2 prep there celled gives) = lays_cell_set c2 t2 x y value k ms z ops2 last2 (prepares_stays c2.vars _ ms _ prep) there celled (gives_stay c2 t2 k z ops2 last2 gives)
    term_stays c t term ops last (lays_object c2 t2 proc names methods k ms x template shape needs kept to ops2 last2 prep count is_shape are_methods held small unused gives) =
        lays_object c2 t2 proc names methods k ms x template shape needs kept to ops2 last2 (prepares_stays c2.vars _ ms _ prep) count (get_front w.templates templates template shape is_shape) (methods_stay needs _ _ are_methods) held small unused (gives_stay c2 t2 k _ ops2 last2 gives)
    term_stays c t term ops last (lays_tail_catch c2 t2 x body k to back ops2 last2 out none passes fresh plain unused onward) = lays_tail_catch c2 t2 x body k to back ops2 last2 out none (still_for _ _ passes) fresh plain unused (goes_stay _ body ops2 last2 onward)
    term_stays c t term ops last (lays_catch c2 t2 x body k r kept to back ops2 last2 awaits for held once fresh plain unused onward) = lays_catch c2 t2 x body k r kept to back ops2 last2 awaits (still_for _ _ for) held once fresh plain unused (goes_stay _ body ops2 last2 onward)
    term_stays c t term ops last (lays_tail_uncatch c2 t2 k value outer ms y ops2 last2 open_ prep gives) = lays_tail_uncatch c2 t2 k value outer ms y ops2 last2 open_ (prepares_stays c2.vars _ ms _ prep) (gives_stay _ t2 k y ops2 last2 gives)
    term_stays c t term ops last (lays_uncatch c2 t2 k value outer ms y ops2 last2 open_ prep gives) = lays_uncatch c2 t2 k value outer ms y ops2 last2 open_ (prepares_stays c2.vars _ ms _ prep) (gives_stay _ t2 k y ops2 last2 gives)
    term_stays c t term ops last (lays_halt c2 t2 value ms x prep) = lays_halt c2 t2 value ms x (prepares_stays c2.vars _ ms _ prep)

  -- a block goes on to fit its purpose
  pub block_stays : (purpose : Purpose) (b : Block) → BlockFits cps w purpose b → BlockFits cps v purpose b
  block_stays (CodeOf l) b f = record { lam = f.lam; is = f.is; self = f.self; params = f.params; vars = f.vars; ys = f.ys; body = f.body; takes = f.takes; distinct = f.distinct; count = f.count; few = f.few; fetches = f.fetches; short = f.short; goes = f.goes; begins = still_for _ _ f.begins; held = f.held; once = f.once; apart = f.apart }
  block_stays (MethodOf l kept) b f = record { lam = f.lam; is = f.is; self = f.self; params = f.params; vars = f.vars; ys = f.ys; body = f.body; takes = f.takes; distinct = f.distinct; count = f.count; few = f.few; fetches = f.fetches; short = f.short; goes = f.goes; begins = still_for _ _ f.begins; held = f.held; once = f.once; apart = f.apart }
  block_stays (Begins start) b f = record { count = f.count; distinct = f.distinct; lays = lays_stay _ start.term b.ops.items b.last f.lays }
  block_stays (ArmOf c t) b f = record { takes = f.takes; lays = lays_stay c t b.ops.items b.last f.lays }
  block_stays PassesOn b f = f
  block_stays (Resumes r) b f = record { value = f.value; vars = f.vars; gets = f.gets; rest = f.rest; takes = f.takes; ops = f.ops; new = new_in r.kept r.exits r.param f.new; small = f.small; fetches = f.fetches; few = f.few; goes = goes_stay _ r.body f.rest b.last f.goes }
