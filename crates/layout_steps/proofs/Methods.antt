-- Objects.
use Rattle.std.proofs.Common.{◌≡◌, ℕ, ◌+◌, ◌<◌, ◌≤◌, ◌==◌, true, List, [], ◌∷◌, ◌++◌, length, zip, take, get_or, slice_get, Some, refl, sym, ap, subst, ◌∙◌, arith}
use Rattle.t_base.specs.declared.basics.Var.{Var}
use Rattle.cps_ir.specs.declared.args.Arg.{Arg}
use Rattle.cps_ir.specs.declared.args.Arg.TheVariants as Argument
use Rattle.cps_ir.specs.declared.terms.Cont.{Cont}
use Rattle.cps_ir.specs.declared.terms.Term.TheVariants as Node
use Rattle.cps_ir.specs.declared.terms.Cps.{Cps}
use Rattle.frame_ir.specs.declared.forms.FrameOp.{FrameOp}
use Rattle.frame_ir.specs.declared.forms.FrameOp.TheVariants as Op
use Rattle.frame_ir.specs.declared.forms.Template.{Template}
use Rattle.frame_ir.specs.Calls.{methods_of}
use Rattle.layout_relation.specs.Links.{Zipped, zip_none, zip_one}
use Rattle.layout_relation.specs.Contexts.{MethodOf}
use Rattle.layout_relation.specs.Laid.{Sketch, IsFor, IsMethod, numbers, AreHeld, Prepares, Gives, lays_object}
use Rattle.layout_relation.proofs.Lists.{get_front}
use Rattle.layout_relation.proofs.Scopes.{eqb_same}
use Rattle.layout_tables.specs.declared.tables.Tables.{Tables}
use Rattle.layout_tables.specs.declared.requests.Request.TheVariants as For
use Rattle.layout_tables.specs.declared.requests.Work.{Work}
use Rattle.layout_tables.specs.declared.lines.Line.{Line}
use Rattle.layout_tables.specs.declared.lines.Step.{Step}
use Rattle.layout_tables.specs.Sketches.{Grows, Leads, AreBelow, context_of, purposes_of, sketch_of}
use Rattle.layout_tables.specs.Additions.{Adds}
use Rattle.layout_tables.proofs.Basics.{take_more}
use Rattle.layout_tables.proofs.Growing.{grows_none, grows_more, grows_asked, asked, later}
use Rattle.layout_tables.proofs.Adding.{adds_none, adds_more, adds_asked, adds_ops}
use Rattle.layout_steps.specs.Steps.{AreMethods, IsPrepared, IsLaid}
use Rattle.layout_steps.proofs.Preparing.{unused_above}
use Rattle.layout_steps.proofs.Laying.{laid_by, behind_one, one_more}

-- ---- the codes of methods

zipped_join : {A B : Type 0} (R : A → B → Type 0) (xs : List A) (ys : List B) (x : A) (y : B) → Zipped R xs ys → R x y → Zipped R (xs ++ x ∷ []) (ys ++ y ∷ [])
zipped_join R xs ys x y zip_none r = zip_one x y [] [] r zip_none
zipped_join R xs ys x y (zip_one a b as_ bs q rest) r = zip_one a b (as_ ++ x ∷ []) (bs ++ y ∷ []) q (zipped_join R as_ bs x y rest r)

pub methods_none : (old : Work) (needs : List Var) → AreMethods old old [] needs []
methods_none old needs = record { grows = λ w. grows_none w old; adds = adds_none old; next = refl; run = λ w ps ts f g. zip_none }

pub methods_more : (old mid new : Work) (methods : List ℕ) (i d : ℕ) (needs kept : List Var) (code : ℕ) (codes more : List ℕ) → i < length methods → AreMethods old mid (take i methods) needs codes → kept ≡ needs
    → new.requests.items ≡ mid.requests.items ++ For.MethodOf (get_or methods i d) kept ∷ [] → code ≡ length mid.requests.items → new.templates ≡ mid.templates → new.next ≡ mid.next → more ≡ codes ++ code ∷ [] → AreMethods old new (take (i + 1) methods) needs more
methods_more old mid new methods i d needs kept code codes more lt h same rs place ts n pushed =
    let l = get_or methods i d in
    subst (λ ls. AreMethods old new ls needs more) (sym (take_more methods i d lt)) (subst (AreMethods old new (take i methods ++ l ∷ []) needs) (sym pushed) (record {
      grows = λ w. grows_more w old mid new (h.grows w) (grows_asked w mid new (For.MethodOf l kept) rs ts n);
      adds = adds_more old mid new [] [] [] [] h.adds (adds_asked mid new (For.MethodOf l kept) rs n tt);
      next = n ∙ h.next;
      run = λ w ps qs f g. zipped_join (λ j c. IsFor (sketch_of w ps qs) c (MethodOf j (numbers needs))) (take i methods) codes l code
          (later w mid new (λ v. Zipped (λ j c. IsFor v c (MethodOf j (numbers needs))) (take i methods) codes) (grows_asked w mid new (For.MethodOf l kept) rs ts n) (h.run w) ps qs f g)
          (subst (λ zs. IsFor (sketch_of w ps qs) code (MethodOf l (numbers zs))) same (asked w mid new (For.MethodOf l kept) code rs place ps qs f g));
    }))

-- the methods of a template
are_methods : (v : Sketch) (needs : List ℕ) (names lams codes : List ℕ) → length names ≡ length lams → Zipped (λ l c. IsFor v c (MethodOf l needs)) lams codes → Zipped (IsMethod v needs) (zip names lams) (methods_of names codes)
are_methods v needs [] lams codes e zip_none = zip_none
are_methods v needs [] lams codes e (zip_one l c ls cs r rest) = absurd (omega (arith, e))
are_methods v needs (o ∷ names) lams codes e zip_none = absurd (omega (arith, e))
are_methods v needs (o ∷ names) lams codes e (zip_one l c ls cs r rest) = zip_one (o, l) (o, c) (zip names ls) (methods_of names cs) (record { op = refl; runs = r }) (are_methods v needs names ls cs (omega (arith, e)) rest)

at_end : {X : Type 0} (xs : List X) (x : X) → slice_get (xs ++ x ∷ []) (length xs) ≡ Some x
at_end [] x = refl
at_end (y ∷ xs) x = at_end xs x

-- ---- the object

pub grows_template : (w : Tables) (old new : Work) (shape : Template) → new.requests ≡ old.requests → new.templates.items ≡ old.templates.items ++ shape ∷ [] → new.next ≡ old.next → Grows w old new
grows_template w old new shape rs pushed n = record {
  requests = λ k x e. subst (λ zs. slice_get (purposes_of w zs.items) k ≡ Some x) (sym rs) e;
  templates = λ k x e. subst (λ zs. slice_get zs k ≡ Some x) (sym pushed) (get_front old.templates.items (shape ∷ []) k x e);
  next = omega (arith, n);
}

module _ (cps : Cps) (w : Tables) where
  pub laid_object : (old one two three four new : Work) (before with_op after : Line) (t : ℕ) (proc b : Arg) (names lams codes : List ℕ) (k : Cont) (needs kept : List Var) (template : ℕ) (shape : Template) (to : Var) (middle : List FrameOp) (step : Step)
      → AreBelow old.next before.scope → length names ≡ length lams → IsPrepared cps w before.scope old one (proc ∷ []) before.ops.items middle (b ∷ []) → AreHeld before.scope (numbers needs) kept → length (numbers needs) ≤ cps.shared.size
      → AreMethods one two lams needs codes → shape ≡ record { ops = names; codes = codes } → three.templates.items ≡ two.templates.items ++ shape ∷ [] → template ≡ length two.templates.items → Grows w two three → Adds two three [] [] → three.next ≡ two.next
      → to.0 ≡ three.next → Grows w three four → Adds three four (to.0 ∷ []) [] → with_op.ops.items ≡ middle ++ Op.Object to template b kept ∷ [] → after.ops ≡ with_op.ops
      → Leads w cps four new [] after (λ v ops last. Gives cps v (context_of w before) t k (Argument.Var to) ops last) step → IsLaid cps w old new before after t (Node.Object proc names lams k) step
  laid_object old one two three four new before with_op after t proc b names lams codes k needs kept template shape to middle step below count p held few m is_shape pushed_template place grows2 adds2 same2 is grows3 adds3 pushed same leads =
      let op = Op.Object to template b kept in
      let first_grows = grows_more w old one three p.grows (grows_more w one two three (m.grows w) grows2) in
      let all_grows = grows_more w old three four first_grows grows3 in
      let from_one = grows_more w one three four (grows_more w one two three (m.grows w) grows2) grows3 in
      laid_by cps w old four new before after t (Node.Object proc names lams k) (p.made ++ op ∷ []) (λ v ops last. Gives cps v (context_of w before) t k (Argument.Var to) ops last) step
      (ap (λ (o : _). o.items) same ∙ behind_one cps w before.ops.items middle with_op.ops.items p.made op pushed p.ops) all_grows
      (adds_ops old one four p.made (op ∷ []) p.adds (adds_more one two four [] (to.0 ∷ []) [] [] m.adds (adds_more two three four [] (to.0 ∷ []) [] [] adds2 adds3))) leads
      (λ ps ts f g ops last gives. one_more cps w (sketch_of w ps ts) before t (Node.Object proc names lams k) p.made op ops last
      (lays_object (context_of w before) t proc names lams k p.made b template shape (numbers needs) kept to ops last
      (later w one four (λ v. Prepares cps v before.scope (proc ∷ []) p.made (b ∷ [])) from_one p.prepares ps ts f g)
      (equal names lams count)
      (g template shape (grows3.templates template shape (subst (λ zs. slice_get zs template ≡ Some shape) (sym pushed_template) (subst (λ n. slice_get (two.templates.items ++ shape ∷ []) n ≡ Some shape) (sym place) (at_end two.templates.items shape)))))
      (subst (λ (s : Template). Zipped (IsMethod (sketch_of w ps ts) (numbers needs)) (zip names lams) (methods_of s.ops s.codes)) (sym is_shape)
      (are_methods (sketch_of w ps ts) (numbers needs) names lams codes count
      (later w two four (λ v. Zipped (λ l c. IsFor v c (MethodOf l (numbers needs))) lams codes) (grows_more w two three four grows2 grows3) (m.run w) ps ts f g)))
      held few (unused_above old.next to.0 before.scope (let a = first_grows.next in omega (arith, is, a)) below) gives))
    where
      same_count : (n k : ℕ) → n ≡ k → (n == k) ≡ true
      same_count n k e = subst (λ m. (n == m) ≡ true) e (eqb_same n)

      equal : (xs ys : List ℕ) → length xs ≡ length ys → (length xs == length ys) ≡ true
      equal xs ys e = same_count (length xs) (length ys) e
