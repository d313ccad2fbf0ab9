-- A term is laid out.
use Rattle.std.proofs.Common.{◌≡◌, ℕ, ◌+◌, ◌<◌, true, false, List, [], ◌∷◌, ◌++◌, map, refl, sym, ap, subst, ◌∙◌, arith, append_assoc}
use Rattle.std.proofs.lemmas.List.{append-nil}
use Rattle.t_base.specs.declared.basics.Var.{Var}
use Rattle.cps_ir.specs.declared.args.Arg.{Arg}
use Rattle.cps_ir.specs.declared.args.Arg.TheVariants as Argument
use Rattle.cps_ir.specs.declared.terms.Cont.{Cont}
use Rattle.cps_ir.specs.declared.terms.Term.{Term}
use Rattle.cps_ir.specs.declared.terms.Term.TheVariants as Node
use Rattle.cps_ir.specs.declared.terms.Cps.{Cps}
use Rattle.frame_ir.specs.declared.forms.FrameOp.{FrameOp}
use Rattle.frame_ir.specs.declared.forms.FrameOp.TheVariants as Op
use Rattle.frame_ir.specs.declared.forms.FrameEnd.{FrameEnd}
use Rattle.frame_ir.specs.declared.forms.FrameEnd.TheVariants as Last
use Rattle.layout_relation.specs.Laid.{Sketch, Lays, LaysTerm, lays_tail_call, lays_call, lays_if, lays_give, lays_halt, lays_join, lays_cell, lays_tail_catch, lays_catch, lays_tail_uncatch, lays_uncatch, goes_here, Gives, Prepares, prepares_none, prepares_same, prepares_closure, IsFor}
use Rattle.layout_relation.specs.Contexts.{IsUnused, IsFresh, ArmOf, PassesOn, Resumes}
use Rattle.layout_tables.specs.declared.sites.Opened.{Opened}
use Rattle.layout_tables.specs.declared.sites.Opened.TheVariants as Catch
use Rattle.layout_tables.specs.declared.tables.Tables.{Tables}
use Rattle.layout_tables.specs.declared.requests.Work.{Work}
use Rattle.layout_tables.specs.declared.lines.Line.{Line}
use Rattle.layout_tables.specs.declared.lines.Step.{Step}
use Rattle.layout_tables.specs.declared.lines.Step.TheVariants.{Next, Done}
use Rattle.layout_steps.specs.declared.frames.Waiting.{Waiting}
use Rattle.layout_tables.specs.Sketches.{Scoped, Ever, Grows, Leads, AreBelow, context_at, context_of, sketch_of, catching_of, rank_of, needs_behind, is_celled, exits_of}
use Rattle.layout_steps.specs.Steps.{IsLaid, IsPrepared, IsTail, IsAwaited, IsArm, Ends}
use Rattle.layout_tables.proofs.Growing.{grows_more, later, below_more}
use Rattle.frame_ir.specs.Parts.{arms_of}
use Rattle.layout_tables.specs.Additions.{Adds, bound_by}
use Rattle.layout_tables.proofs.Adding.{adds_none, adds_more, adds_behind, adds_ops}
use Rattle.layout_steps.proofs.Preparing.{prepared_join, unused_above}

none_made_of : (cps : Cps) (v : Sketch) (vars : Scoped) (as_ : List Arg) (ms : List FrameOp) (bs : List Arg) → Prepares cps v vars as_ ms bs → as_ ≡ [] → ms ≡ []
none_made_of cps v vars as_ ms bs prepares_none e = refl
none_made_of cps v vars as_ ms bs (prepares_same a b cs ns ds same rest) e = cc
none_made_of cps v vars as_ ms bs (prepares_closure l to code kept cs ns ds makes unused rest) e = cc

pub none_made : (cps : Cps) (v : Sketch) (vars : Scoped) (ms : List FrameOp) (bs : List Arg) → Prepares cps v vars [] ms bs → ms ≡ []
none_made cps v vars ms bs h = none_made_of cps v vars [] ms bs h refl

module _ (cps : Cps) (w : Tables) where
  -- what the operations so far and the rest lay out, by what the rest does
  pub laid_by : (old mid new : Work) (before after : Line) (t : ℕ) (term : Term) (made : List FrameOp) (P : Sketch → List FrameOp → FrameEnd → Type 0) (step : Step) → after.ops.items ≡ before.ops.items ++ made → Grows w old mid → Adds old mid (bound_by made) []
      → Leads w cps mid new [] after P step → Ever w mid (λ v. (ops : List FrameOp) (last : FrameEnd) → P v ops last → LaysTerm cps v (context_of w before) t term (made ++ ops) last) → IsLaid cps w old new before after t term step
  laid_by old mid new before after t term made P (Next u) e grows adds leads h = record {
    made = made;
    ops = e;
    leads = record {
      grows = grows_more w old mid new grows leads.grows;
      adds = adds_behind old mid new (bound_by made) [] [] adds leads.adds;
      below = leads.below;
      reaches = λ ps ts f g ops last lay. later w mid new (λ v. (ops : List FrameOp) (last : FrameEnd) → P v ops last → LaysTerm cps v (context_of w before) t term (made ++ ops) last) leads.grows h ps ts f g ops last (leads.reaches ps ts f g ops last lay);
    };
  }
  laid_by old mid new before after t term made P (Done end) e grows adds leads h = record {
    made = made;
    ops = e;
    leads = record {
      grows = grows_more w old mid new grows leads.grows;
      adds = adds_behind old mid new (bound_by made) [] (arms_of end) adds leads.adds;
      below = leads.below;
      reaches = λ ps ts f g. later w mid new (λ v. (ops : List FrameOp) (last : FrameEnd) → P v ops last → LaysTerm cps v (context_of w before) t term (made ++ ops) last) leads.grows h ps ts f g [] end (leads.reaches ps ts f g);
    };
  }

  -- a block ends
  pub laid_done : (old new : Work) (before after : Line) (t : ℕ) (term : Term) (made : List FrameOp) (last : FrameEnd) → after.ops.items ≡ before.ops.items ++ made → Grows w old new → Adds old new (bound_by made) (arms_of last) → AreBelow old.next before.scope → after.scope ≡ before.scope
      → Ever w new (λ v. LaysTerm cps v (context_of w before) t term made last) → IsLaid cps w old new before after t term (Done last)
  laid_done old new before after t term made last e grows adds below scope h = record {
    made = made;
    ops = e;
    leads = record {
      grows = grows;
      adds = adds;
      below = subst (AreBelow new.next) (sym scope) (below_more old.next new.next before.scope grows.next below);
      reaches = λ ps ts f g. subst (λ ops. LaysTerm cps (sketch_of w ps ts) (context_of w before) t term ops last) (sym (append-nil made)) (h ps ts f g);
    };
  }

  -- behind some operations one more
  pub one_more : (v : Sketch) (before : Line) (t : ℕ) (term : Term) (ms : List FrameOp) (op : FrameOp) (ops : List FrameOp) (last : FrameEnd) → LaysTerm cps v (context_of w before) t term (ms ++ op ∷ ops) last
      → LaysTerm cps v (context_of w before) t term ((ms ++ op ∷ []) ++ ops) last
  one_more v before t term ms op ops last h = subst (λ zs. LaysTerm cps v (context_of w before) t term zs last) (sym (append_assoc ms (op ∷ []) ops)) h

  pub behind_one : (one two three ms : List FrameOp) (op : FrameOp) → three ≡ two ++ op ∷ [] → two ≡ one ++ ms → three ≡ one ++ (ms ++ op ∷ [])
  behind_one one two three ms op e f = e ∙ ap (λ zs. zs ++ op ∷ []) f ∙ append_assoc one ms (op ∷ [])

  tail_call : (v : Sketch) (before : Line) (t : ℕ) (f g : Arg) (args bs : List Arg) (k : Cont) (j : Var) (ms : List FrameOp) → IsTail before.site k j → Prepares cps v before.scope (f ∷ args) ms (g ∷ bs)
      → LaysTerm cps v (context_of w before) t (Node.Call f args k) ms (Last.Call g bs)
  tail_call v before t f g args bs k j ms h prep = subst (λ i. LaysTerm cps v (context_of w before) t (Node.Call f args i) ms (Last.Call g bs)) (sym h.is) (lays_tail_call (context_of w before) t f args j ms g bs prep (h.leaves w) (ap (map catching_of) h.catches))

  pub laid_tail_call : (old mid new : Work) (before after : Line) (t : ℕ) (f g : Arg) (args bs : List Arg) (k : Cont) (j : Var) (one : List FrameOp) → AreBelow old.next before.scope → after.scope ≡ before.scope → IsTail before.site k j
      → IsPrepared cps w before.scope old mid (f ∷ []) before.ops.items one (g ∷ []) → IsPrepared cps w before.scope mid new args one after.ops.items bs → IsLaid cps w old new before after t (Node.Call f args k) (Done (Last.Call g bs))
  laid_tail_call old mid new before after t f g args bs k j one below scope h pf pa = let p = prepared_join cps w before.scope old mid new (f ∷ []) args before.ops.items one after.ops.items (g ∷ []) bs pf pa in
      laid_done old new before after t (Node.Call f args k) p.made (Last.Call g bs) p.ops p.grows p.adds below scope (λ ps ts x y. tail_call (sketch_of w ps ts) before t f g args bs k j p.made h (p.prepares ps ts x y))

  pub laid_call : (old one mid new : Work) (before after : Line) (t : ℕ) (f g : Arg) (args bs : List Arg) (k : Cont) (frame : Waiting) (first middle : List FrameOp) → AreBelow old.next before.scope → after.scope ≡ before.scope
      → IsPrepared cps w before.scope old one (f ∷ []) before.ops.items first (g ∷ []) → IsPrepared cps w before.scope one mid args first middle bs → IsAwaited w before.scope before.site mid new k frame → after.ops.items ≡ middle ++ Op.Push frame.kept frame.back ∷ []
      → IsLaid cps w old new before after t (Node.Call f args k) (Done (Last.Call g bs))
  laid_call old one mid new before after t f g args bs k frame first middle below scope pf pa a e = let p = prepared_join cps w before.scope old one mid (f ∷ []) args before.ops.items first middle (g ∷ []) bs pf pa in
      laid_done old new before after t (Node.Call f args k) (p.made ++ Op.Push frame.kept frame.back ∷ []) (Last.Call g bs)
      (behind_one before.ops.items middle after.ops.items p.made (Op.Push frame.kept frame.back) e p.ops) (grows_more w old mid new p.grows a.grows) (adds_ops old mid new p.made (Op.Push frame.kept frame.back ∷ []) p.adds a.adds) below scope
      (λ ps ts x y. lays_call (context_of w before) t f args k p.made g bs a.return frame.kept frame.back (later w mid new (λ v. Prepares cps v before.scope (f ∷ args) p.made (g ∷ bs)) a.grows p.prepares ps ts x y) a.awaits (a.runs ps ts x y) a.holds a.once)

  -- an operation with a new variable, whose value is given
  pub laid_new : (old mid asked new : Work) (before with_op after : Line) (t : ℕ) (term : Term) (args bs : List Arg) (k : Cont) (to : Var) (op : FrameOp) (middle : List FrameOp) (step : Step)
      → ((v : Sketch) → v.celled ≡ is_celled w → (ms ops : List FrameOp) (last : FrameEnd) → Prepares cps v before.scope args ms bs → IsUnused before.scope to.0 → Gives cps v (context_of w before) t k (Argument.Var to) ops last → LaysTerm cps v (context_of w before) t term (ms ++ op ∷ ops) last)
      → AreBelow old.next before.scope → IsPrepared cps w before.scope old mid args before.ops.items middle bs → to.0 ≡ mid.next → Grows w mid asked → Adds mid asked (bound_by (op ∷ [])) [] → with_op.ops.items ≡ middle ++ op ∷ [] → after.ops ≡ with_op.ops
      → Leads w cps asked new [] after (λ v ops last. Gives cps v (context_of w before) t k (Argument.Var to) ops last) step → IsLaid cps w old new before after t term step
  laid_new old mid asked new before with_op after t term args bs k to op middle step lay below p is grows adds pushed same leads =
      laid_by old asked new before after t term (p.made ++ op ∷ []) (λ v ops last. Gives cps v (context_of w before) t k (Argument.Var to) ops last) step
      (ap (λ (o : _). o.items) same ∙ behind_one before.ops.items middle with_op.ops.items p.made op pushed p.ops) (grows_more w old mid asked p.grows grows) (adds_ops old mid asked p.made (op ∷ []) p.adds adds) leads
      (λ ps ts x y ops last gives. one_more (sketch_of w ps ts) before t term p.made op ops last (lay (sketch_of w ps ts) refl p.made ops last (later w mid asked (λ v. Prepares cps v before.scope args p.made bs) grows p.prepares ps ts x y)
      (unused_above old.next to.0 before.scope (let g = p.grows.next in omega (arith, is, g)) below) gives))

  -- an operation behind which a value is given
  pub laid_value : (old mid new : Work) (before with_op after : Line) (t : ℕ) (term : Term) (args : List Arg) (b : Arg) (k : Cont) (op : FrameOp) (middle : List FrameOp) (step : Step)
      → ((v : Sketch) → v.celled ≡ is_celled w → (ms ops : List FrameOp) (last : FrameEnd) → Prepares cps v before.scope args ms (b ∷ []) → Gives cps v (context_of w before) t k b ops last → LaysTerm cps v (context_of w before) t term (ms ++ op ∷ ops) last)
      → IsPrepared cps w before.scope old mid args before.ops.items middle (b ∷ []) → bound_by (op ∷ []) ≡ [] → with_op.ops.items ≡ middle ++ op ∷ [] → after.ops ≡ with_op.ops
      → Leads w cps mid new [] after (λ v ops last. Gives cps v (context_of w before) t k b ops last) step → IsLaid cps w old new before after t term step
  laid_value old mid new before with_op after t term args b k op middle step lay p binds pushed same leads =
      laid_by old mid new before after t term (p.made ++ op ∷ []) (λ v ops last. Gives cps v (context_of w before) t k b ops last) step
      (ap (λ (o : _). o.items) same ∙ behind_one before.ops.items middle with_op.ops.items p.made op pushed p.ops) p.grows (adds_ops old mid mid p.made (op ∷ []) p.adds (subst (λ zs. Adds mid mid zs []) (sym binds) (adds_none mid))) leads
      (λ ps ts x y ops last gives. one_more (sketch_of w ps ts) before t term p.made op ops last (lay (sketch_of w ps ts) refl p.made ops last (p.prepares ps ts x y) gives))

  -- a cell
  pub laid_cell : (old mid new : Work) (before after : Line) (t : ℕ) (x to : Var) (value b : Arg) (rest : ℕ) (middle : List FrameOp) → AreBelow old.next before.scope → IsPrepared cps w before.scope old mid (value ∷ []) before.ops.items middle (b ∷ [])
      → to.0 ≡ mid.next → new.next ≡ mid.next + 1 → Grows w mid new → Adds mid new (to.0 ∷ []) [] → after.ops.items ≡ middle ++ Op.Cell to b ∷ [] → after.scope ≡ (x.0, to.0) ∷ before.scope → after.site ≡ before.site → IsFresh (context_of w before) x.0 → is_celled w x.0 ≡ true
      → IsLaid cps w old new before after t (Node.Cell x value rest) (Next rest)
  laid_cell old mid new before after t x to value b rest middle below p is next grows adds pushed scope site fresh celled = record {
    made = p.made ++ Op.Cell to b ∷ [];
    ops = behind_one before.ops.items middle after.ops.items p.made (Op.Cell to b) pushed p.ops;
    leads = record {
      grows = grows_more w old mid new p.grows grows;
      adds = adds_ops old mid new p.made (Op.Cell to b ∷ []) p.adds adds;
      below = subst (AreBelow new.next) (sym scope) (omega (arith, is, next), below_more old.next new.next before.scope (let g = p.grows.next in omega (arith, g, next)) below);
      reaches = λ ps ts f g ops last lay. one_more (sketch_of w ps ts) before t (Node.Cell x value rest) p.made (Op.Cell to b) ops last
          (lays_cell (context_of w before) t x value rest p.made b to ops last (later w mid new (λ v. Prepares cps v before.scope (value ∷ []) p.made (b ∷ [])) grows p.prepares ps ts f g) fresh celled
          (unused_above old.next to.0 before.scope (let g2 = p.grows.next in omega (arith, is, g2)) below)
          (goes_here (context_at w ((x.0, to.0) ∷ before.scope) before.site) rest ops last
          (subst (λ s. Lays cps (sketch_of w ps ts) (context_at w ((x.0, to.0) ∷ before.scope) s) rest ops last) site (subst (λ s. Lays cps (sketch_of w ps ts) (context_at w s after.site) rest ops last) scope lay))));
    };
  }

  -- a CATCH in a tail place
  pub laid_tail_catch : (old mid new : Work) (before after : Line) (t : ℕ) (x to j : Var) (k : Cont) (body back : ℕ) → AreBelow old.next before.scope → IsTail before.site k j → Grows w old mid → Adds old mid [] [] → mid.next ≡ old.next → Ever w mid (λ v. IsFor v back PassesOn)
      → to.0 ≡ mid.next → new.next ≡ mid.next + 1 → Grows w mid new → Adds mid new (to.0 ∷ []) [] → after.ops.items ≡ before.ops.items ++ Op.CatchOpen to back ∷ [] → after.scope ≡ (x.0, to.0) ∷ before.scope → after.site ≡ record before.site { catches = Catch.Bare ∷ before.site.catches }
      → IsFresh (context_of w before) x.0 → is_celled w x.0 ≡ false → IsLaid cps w old new before after t (Node.Catch x body k) (Next body)
  laid_tail_catch old mid new before after t x to j k body back below h grows adds same passes is next more binds pushed scope site fresh plain = record {
    made = Op.CatchOpen to back ∷ [];
    ops = pushed;
    leads = record {
      grows = grows_more w old mid new grows more;
      adds = adds_more old mid new [] (to.0 ∷ []) [] [] adds binds;
      below = subst (AreBelow new.next) (sym scope) (omega (arith, is, next), below_more old.next new.next before.scope (omega (arith, same, next)) below);
      reaches = λ ps ts f g ops last lay. subst (λ i. LaysTerm cps (sketch_of w ps ts) (context_of w before) t (Node.Catch x body i) (Op.CatchOpen to back ∷ ops) last) (sym h.is)
          (lays_tail_catch (context_of w before) t x body j to back ops last (h.leaves w) (ap (map catching_of) h.catches) (later w mid new (λ v. IsFor v back PassesOn) more passes ps ts f g) fresh plain
          (unused_above old.next to.0 before.scope (omega (arith, is, same)) below)
          (goes_here (context_at w ((x.0, to.0) ∷ before.scope) (record before.site { catches = Catch.Bare ∷ [] })) body ops last
          (subst (λ cs. Lays cps (sketch_of w ps ts) (context_at w ((x.0, to.0) ∷ before.scope) (record before.site { catches = Catch.Bare ∷ cs })) body ops last) h.catches
          (subst (λ s. Lays cps (sketch_of w ps ts) (context_at w ((x.0, to.0) ∷ before.scope) s) body ops last) site (subst (λ s. Lays cps (sketch_of w ps ts) (context_at w s after.site) body ops last) scope lay)))));
    };
  }

  pub laid_catch : (old mid new : Work) (before after : Line) (t : ℕ) (x to : Var) (k : Cont) (body : ℕ) (frame : Waiting) → AreBelow old.next before.scope → IsAwaited w before.scope before.site old mid k frame
      → to.0 ≡ mid.next → new.next ≡ mid.next + 1 → Grows w mid new → Adds mid new (to.0 ∷ []) [] → after.ops.items ≡ before.ops.items ++ (Op.Push frame.kept frame.back ∷ Op.CatchOpen to frame.back ∷ []) → after.scope ≡ (x.0, to.0) ∷ before.scope
      → after.site ≡ record before.site { catches = Catch.Framed ∷ before.site.catches } → IsFresh (context_of w before) x.0 → is_celled w x.0 ≡ false → IsLaid cps w old new before after t (Node.Catch x body k) (Next body)
  laid_catch old mid new before after t x to k body frame below a is next more binds pushed scope site fresh plain = record {
    made = Op.Push frame.kept frame.back ∷ Op.CatchOpen to frame.back ∷ [];
    ops = pushed;
    leads = record {
      grows = grows_more w old mid new a.grows more;
      adds = adds_more old mid new [] (to.0 ∷ []) [] [] a.adds binds;
      below = subst (AreBelow new.next) (sym scope) (omega (arith, is, next), below_more old.next new.next before.scope (let e = a.next in omega (arith, e, next)) below);
      reaches = λ ps ts f g ops last lay. lays_catch (context_of w before) t x body k a.return frame.kept to frame.back ops last a.awaits (later w mid new (λ v. IsFor v frame.back (Resumes a.return)) more a.runs ps ts f g) a.holds a.once fresh plain
          (unused_above old.next to.0 before.scope (let e = a.next in omega (arith, is, e)) below)
          (goes_here (context_at w ((x.0, to.0) ∷ before.scope) (record before.site { catches = Catch.Framed ∷ before.site.catches })) body ops last
          (subst (λ s. Lays cps (sketch_of w ps ts) (context_at w ((x.0, to.0) ∷ before.scope) s) body ops last) site (subst (λ s. Lays cps (sketch_of w ps ts) (context_at w s after.site) body ops last) scope lay)));
    };
  }

  -- the end of a CATCH: what is given behind its operations is given where it isn't open
  pub laid_uncatch : (old mid new : Work) (before inside after : Line) (t : ℕ) (value b : Arg) (k : Cont) (catch : Opened) (more middle : List FrameOp) (step : Step)
      → ((v : Sketch) (ms ops : List FrameOp) (last : FrameEnd) → Prepares cps v before.scope (value ∷ []) ms (b ∷ []) → Gives cps v (context_at w before.scope inside.site) t k b ops last → LaysTerm cps v (context_of w before) t (Node.Uncatch k value) (ms ++ (more ++ ops)) last)
      → IsPrepared cps w before.scope old mid (value ∷ []) before.ops.items middle (b ∷ []) → bound_by more ≡ [] → inside.ops.items ≡ middle ++ more → inside.scope ≡ before.scope → after.ops ≡ inside.ops
      → Leads w cps mid new [] after (λ v ops last. Gives cps v (context_of w inside) t k b ops last) step → IsLaid cps w old new before after t (Node.Uncatch k value) step
  laid_uncatch old mid new before inside after t value b k catch more middle step lay p binds pushed scope same leads =
      laid_by old mid new before after t (Node.Uncatch k value) (p.made ++ more) (λ v ops last. Gives cps v (context_of w inside) t k b ops last) step
      (ap (λ (o : _). o.items) same ∙ pushed ∙ ap (λ zs. zs ++ more) p.ops ∙ append_assoc before.ops.items p.made more) p.grows (adds_ops old mid mid p.made more p.adds (subst (λ zs. Adds mid mid zs []) (sym binds) (adds_none mid))) leads
      (λ ps ts x y ops last gives. subst (λ zs. LaysTerm cps (sketch_of w ps ts) (context_of w before) t (Node.Uncatch k value) zs last) (sym (append_assoc p.made more ops))
      (lay (sketch_of w ps ts) p.made ops last (p.prepares ps ts x y) (subst (λ s. Gives cps (sketch_of w ps ts) (context_at w s inside.site) t k b ops last) scope gives)))

  outside_of : (v : Sketch) (before inside : Line) (t : ℕ) (k : Cont) (b : Arg) (ops : List FrameOp) (last : FrameEnd) → inside.site.joins ≡ before.site.joins → inside.site.own ≡ before.site.own → Gives cps v (context_at w before.scope inside.site) t k b ops last
      → Gives cps v (record (context_of w before) { catches = map catching_of inside.site.catches }) t k b ops last
  outside_of v before inside t k b ops last joins own gives =
      subst (λ o. Gives cps v (record { vars = before.scope; exits = exits_of w before.site.joins o; catches = map catching_of inside.site.catches }) t k b ops last) own
      (subst (λ js. Gives cps v (record { vars = before.scope; exits = exits_of w js inside.site.own; catches = map catching_of inside.site.catches }) t k b ops last) joins gives)

  pub laid_bare_uncatch : (old mid new : Work) (before inside after : Line) (t : ℕ) (value b : Arg) (k : Cont) (middle : List FrameOp) (step : Step) → IsPrepared cps w before.scope old mid (value ∷ []) before.ops.items middle (b ∷ [])
      → inside.ops.items ≡ middle ++ (Op.CatchClose ∷ []) → inside.scope ≡ before.scope → before.site.catches ≡ Catch.Bare ∷ inside.site.catches → inside.site.joins ≡ before.site.joins → inside.site.own ≡ before.site.own → after.ops ≡ inside.ops
      → Leads w cps mid new [] after (λ v ops last. Gives cps v (context_of w inside) t k b ops last) step → IsLaid cps w old new before after t (Node.Uncatch k value) step
  laid_bare_uncatch old mid new before inside after t value b k middle step p pushed scope catches joins own same leads =
      laid_uncatch old mid new before inside after t value b k Catch.Bare (Op.CatchClose ∷ []) middle step
      (λ v ms ops last prep gives. lays_tail_uncatch (context_of w before) t k value (map catching_of inside.site.catches) ms b ops last (ap (map catching_of) catches) prep (outside_of v before inside t k b ops last joins own gives))
      p refl pushed scope same leads

  pub laid_framed_uncatch : (old mid new : Work) (before inside after : Line) (t : ℕ) (value b : Arg) (k : Cont) (middle : List FrameOp) (step : Step) → IsPrepared cps w before.scope old mid (value ∷ []) before.ops.items middle (b ∷ [])
      → inside.ops.items ≡ middle ++ (Op.CatchClose ∷ Op.Pop ∷ []) → inside.scope ≡ before.scope → before.site.catches ≡ Catch.Framed ∷ inside.site.catches → inside.site.joins ≡ before.site.joins → inside.site.own ≡ before.site.own → after.ops ≡ inside.ops
      → Leads w cps mid new [] after (λ v ops last. Gives cps v (context_of w inside) t k b ops last) step → IsLaid cps w old new before after t (Node.Uncatch k value) step
  laid_framed_uncatch old mid new before inside after t value b k middle step p pushed scope catches joins own same leads =
      laid_uncatch old mid new before inside after t value b k Catch.Framed (Op.CatchClose ∷ Op.Pop ∷ []) middle step
      (λ v ms ops last prep gives. lays_uncatch (context_of w before) t k value (map catching_of inside.site.catches) ms b ops last (ap (map catching_of) catches) prep (outside_of v before inside t k b ops last joins own gives))
      p refl pushed scope same leads

  pub laid_give : (old mid new : Work) (before after : Line) (t : ℕ) (k : Cont) (value b : Arg) (last : FrameEnd) → AreBelow old.next before.scope → after.scope ≡ before.scope → IsPrepared cps w before.scope old mid (value ∷ []) before.ops.items after.ops.items (b ∷ [])
      → Ends w mid new last (λ v. (u : ℕ) → Gives cps v (context_at w before.scope before.site) u k b [] last) → IsLaid cps w old new before after t (Node.Give k value) (Done last)
  laid_give old mid new before after t k value b last below scope p e = laid_done old new before after t (Node.Give k value) p.made last p.ops (grows_more w old mid new p.grows e.grows) (adds_behind old mid new (bound_by p.made) [] (arms_of last) p.adds e.adds) below scope
      (λ ps ts x y. subst (λ zs. LaysTerm cps (sketch_of w ps ts) (context_of w before) t (Node.Give k value) zs last) (append-nil p.made)
      (lays_give (context_of w before) t k value p.made b [] last (later w mid new (λ v. Prepares cps v before.scope (value ∷ []) p.made (b ∷ [])) e.grows p.prepares ps ts x y) tt (e.ever ps ts x y t)))

  pub laid_halt : (old new : Work) (before after : Line) (t : ℕ) (value b : Arg) → AreBelow old.next before.scope → after.scope ≡ before.scope → IsPrepared cps w before.scope old new (value ∷ []) before.ops.items after.ops.items (b ∷ [])
      → IsLaid cps w old new before after t (Node.Halt value) (Done (Last.Halt b))
  laid_halt old new before after t value b below scope p = laid_done old new before after t (Node.Halt value) p.made (Last.Halt b) p.ops p.grows p.adds below scope (λ ps ts x y. lays_halt (context_of w before) t value p.made b (p.prepares ps ts x y))

  pub laid_if : (old mid one new : Work) (before after : Line) (t : ℕ) (test b : Arg) (first second yes_block no_block : ℕ) → AreBelow old.next before.scope → after.scope ≡ before.scope → IsPrepared cps w before.scope old mid (test ∷ []) before.ops.items after.ops.items (b ∷ [])
      → IsArm mid one before.scope before.site first yes_block → IsArm one new before.scope before.site second no_block → IsLaid cps w old new before after t (Node.If test first second) (Done (Last.If b yes_block no_block))
  laid_if old mid one new before after t test b first second yes_block no_block below scope p x y = laid_done old new before after t (Node.If test first second) p.made (Last.If b yes_block no_block) p.ops
      (grows_more w old mid new p.grows (grows_more w mid one new (x.1 w).0.0 (y.1 w).0.0))
      (adds_behind old mid new (bound_by p.made) [] (yes_block ∷ no_block ∷ []) p.adds (adds_more mid one new [] [] (yes_block ∷ []) (no_block ∷ []) x.0 y.0)) below scope
      (λ ps ts f g. lays_if (context_of w before) t test first second p.made b yes_block no_block (later w mid new (λ v. Prepares cps v before.scope (test ∷ []) p.made (b ∷ [])) (grows_more w mid one new (x.1 w).0.0 (y.1 w).0.0) p.prepares ps ts f g)
      (later w one new (λ v. IsFor v yes_block (ArmOf (context_at w before.scope before.site) first)) (y.1 w).0.0 (x.1 w).1 ps ts f g) ((y.1 w).1 ps ts f g))

  pub laid_join : (old new : Work) (before after : Line) (t : ℕ) (k param : Var) (body rest block : ℕ) → AreBelow old.next before.scope → after.scope ≡ before.scope → after.ops ≡ before.ops → Grows w old new → Adds old new [] []
      → after.site ≡ record before.site { joins = record { k = k; param = param; body = body; block = block } ∷ before.site.joins } → rank_of w rest < rank_of w t → IsLaid cps w old new before after t (Node.Join k param body rest) (Next rest)
  laid_join old new before after t k param body rest block below scope ops grows adds site lower = record {
    made = [];
    ops = ap (λ (o : _). o.items) ops ∙ sym (append-nil before.ops.items);
    leads = record {
      grows = grows;
      adds = adds;
      below = subst (AreBelow new.next) (sym scope) (below_more old.next new.next before.scope grows.next below);
      reaches = λ ps ts f g zs last lay. lays_join (context_of w before) t k param body rest block (needs_behind w param body) zs last lower
          (subst (λ s. Lays cps (sketch_of w ps ts) (context_at w before.scope s) rest zs last) site (subst (λ s. Lays cps (sketch_of w ps ts) (context_at w s after.site) rest zs last) scope lay));
    };
  }
