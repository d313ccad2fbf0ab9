-- The steps of the conversion of CATCHes, BLOCKs and OBJECTs.
use Rattle.std.proofs.Common.{◌≡◌, ℕ, zero, suc, ◌+◌, ◌-◌, ◌<◌, ◌≤◌, Bool, List, [], ◌∷◌, length, drop, get_or, refl, sym, ap, ◌∙◌, subst, arith, inl}
use Rattle.std.proofs.lemmas.List.{drop_more}
use Rattle.std.specs.List.{AllByRecursion}
use Rattle.t_base.specs.declared.basics.Var.{Var}
use Rattle.t_core.specs.declared.forms.Core.TheVariants as Node
use Rattle.t_core.specs.declared.forms.UnitCore.{UnitCore}
use Rattle.t_core.specs.Nodes.{block_parts}
use Rattle.cps_ir.specs.declared.args.Arg.TheVariants as Argument
use Rattle.cps_ir.specs.declared.terms.Cont.{Cont}
use Rattle.cps_ir.specs.declared.terms.Cont.TheVariants as Continuation
use Rattle.cps_ir.specs.declared.terms.Term.TheVariants as Step
use Rattle.cps_ir.specs.declared.terms.Cps.{Cps}
use Rattle.cps_conversion.specs.Conversion.{IsNew, CatchAs, BlockAs, ConvertsWithin, adding}
use Rattle.cps_convert.specs.declared.conversion.Conversion.{Conversion}
use Rattle.cps_convert.specs.Growing.{Includes, GrowsTo, AddsTerm, TakesNew}
use Rattle.cps_convert.specs.Claims.{Setting, AreOuter, IsScopedIn, GoesTo, Converted, translation}
use Rattle.cps_convert.specs.Naming.{AreNames, IsNamed, BindsOne}
use Rattle.cps_convert.specs.Kinds.{IsNameOf, Joined, KindConverted}
use Rattle.cps_convert.proofs.Listing.{grows_more}
use Rattle.cps_convert.proofs.Spots.{are_more, fresh_new, goes_more, child, opened}
use Rattle.cps_convert.proofs.Own.{none_held, named_set, names_new, names_plain, assigned_from}
use Rattle.cps_convert.proofs.Bodies.{own_all, outer_own}
use Rattle.cps_convert.proofs.Steps.{with_name}

-- ---- CATCH

pub catch_converted : (unit : UnitCore) (marks : List Bool) (form : ℕ) (a b c d e f g h i : Conversion) (key : ℕ) (v : Var) (body : ℕ) (k outer : Cont) (value name : Var) (end start inner rest t : ℕ) → IsNameOf a b k outer
    → TakesNew b c value → AddsTerm c d (Step.Uncatch outer (Argument.Var value)) end → Converted unit marks form d e key body (Continuation.Lam value end) start → IsNamed e f marks v name
    → BindsOne f g marks v (Argument.Var name) start inner → AddsTerm g h (Step.Catch name inner outer) rest → Joined h i k outer rest t → KindConverted unit marks form a i key (Node.Catch v body) k t
catch_converted unit marks form a b c d e f g h i key v body k outer value name end start inner rest t named fresh ended done naming binds made joined = record {
  grows = grows_more a b i named.grows (grows_more b c i fresh.grows (grows_more c d i ended.grows (grows_more d e i done.grows (grows_more e f i naming.grows (grows_more f g i binds.grows (grows_more g h i made.grows joined.grows))))));
  holds = λ cps origins inc base there setting bound held spot goes.
      let x = translation unit cps origins in
      let at_h = joined.grows.includes x inc in
      let at_g = made.grows.includes x at_h in
      let at_f = binds.grows.includes x at_g in
      let at_e = naming.grows.includes x at_f in
      let at_d = done.grows.includes x at_e in
      let o = opened unit form key bound (Node.Catch v body) spot.scoped there in
      let own = own_all unit marks base form key (Node.Catch v body) setting there in
      let up_b : a.next ≤ b.next = named.grows.next in
      let up_c : a.next ≤ c.next = omega (arith, up_b, fresh.next) in
      let up_d : c.next ≤ d.next = ended.grows.next in
      let up_e : a.next ≤ e.next = omega (arith, up_c, up_d, done.grows.next) in
      let first_b : base ≤ b.next = omega (arith, spot.base_first, up_b) in
      let first_c : base ≤ c.next = omega (arith, spot.base_first, up_c) in
      let first_e : base ≤ e.next = omega (arith, spot.base_first, up_e) in
      let outs_b = are_more unit base a.next b.next form (suc key) key up_b (omega arith) bound spot.bound_outer in
      let outs = are_more unit base a.next c.next form (suc key) key up_c (omega arith) bound spot.bound_outer in
      let held_b = outer_own unit base b.next form key (v ∷ []) held own (are_more unit base a.next b.next form (suc key) key up_b (omega arith) held spot.held_outer) in
      let held_c = outer_own unit base c.next form key (v ∷ []) held own (are_more unit base a.next c.next form (suc key) key up_c (omega arith) held spot.held_outer) in
      let bound_c = outer_own unit base c.next form key (v ∷ []) bound own outs in
      let value_new : IsNew x (v.0 ∷ held) value = fresh_new x marks base b.next form key value (v.0 ∷ held) setting first_b (omega (arith, fresh.is)) held_b in
      let names : AreNames marks e.next f.next (v ∷ []) (name ∷ []) = (f.next, naming.is, refl) in
      let none = none_held unit marks base a.next form key held (v ∷ []) setting spot.held_outer own in
      let held_e = are_more unit base a.next e.next form (suc key) key up_e (omega arith) held spot.held_outer in
      with_name x a.next b.next k outer rest t (CatchAs x (ConvertsWithin x key) form bound held v body) named.is (joined.holds x inc)
      (record {
        name = name;
        inner = inner;
        start = start;
        value = value;
        end = end;
        stands = made.stands x at_h;
        name_new = (names_new x marks base e.next f.next form key (v ∷ []) (name ∷ []) held setting first_e held_e own none names).0;
        assigned = assigned_from x marks form key (name.0 ∷ held) (v ∷ []) (Argument.Var name ∷ []) inner start setting.marked own
            (named_set unit marks base e.next f.next (v ∷ []) (name ∷ []) held (v ∷ []) setting first_e names none) (names_plain unit marks e.next f.next (v ∷ []) (name ∷ []) setting.marked names)
            (start, binds.holds x at_g, refl);
        body_as = child x marks base c.next d.next form key body (v.0 ∷ bound) (v.0 ∷ held) (Continuation.Lam value end) start (done.holds cps origins at_e base) done.below up_d setting first_c o.parts.0 bound_c held_c
            (value_new, inl (omega (arith, first_b, fresh.is), omega (arith, fresh.is, fresh.next)));
        value_new = fresh_new x marks base b.next form key value held setting first_b (omega (arith, fresh.is)) (are_more unit base a.next b.next form (suc key) key up_b (omega arith) held spot.held_outer);
        ends = ended.stands x at_d;
      });
}

-- ---- BLOCK

-- the items from some place on are converted, up to the block's end
pub record BlockEnd (unit : UnitCore) (marks : List Bool) (form : ℕ) (a b : Conversion) (key : ℕ) (items : List ℕ) (k : Cont) (t : ℕ) : Type 0 where
  pub grows : GrowsTo a b
  pub some : 0 < length items
  pub holds : (cps : Cps) (origins : List (ℕ × ℕ)) → Includes (translation unit cps origins) b → (base : ℕ) → Setting unit marks base → (bound held : List ℕ) → base ≤ a.next → AreOuter unit base a.next form key bound
      → AreOuter unit base a.next form key held → AllByRecursion (λ c. IsScopedIn unit form c bound) items → GoesTo (translation unit cps origins) base a.next form key held k
      → BlockAs (translation unit cps origins) (ConvertsWithin (translation unit cps origins) key) form bound held items k t

pub block_last : (unit : UnitCore) (marks : List Bool) (form : ℕ) (a b : Conversion) (key item : ℕ) (k : Cont) (t : ℕ) → Converted unit marks form a b key item k t → BlockEnd unit marks form a b key (item ∷ []) k t
block_last unit marks form a b key item k t n = record {
  grows = n.grows;
  some = omega arith;
  holds = λ cps origins inc base setting bound held first bounds helds scoped goes.
      child (translation unit cps origins) marks base a.next a.next form key item bound held k t (n.holds cps origins inc base) n.below (omega arith) setting first scoped.0 bounds helds goes;
}

pub block_more : (unit : UnitCore) (marks : List Bool) (form : ℕ) (a b c d : Conversion) (key item : ℕ) (items : List ℕ) (k : Cont) (unused : Var) (place t : ℕ) → BlockEnd unit marks form a b key items k place → TakesNew b c unused
    → Converted unit marks form c d key item (Continuation.Lam unused place) t → BlockEnd unit marks form a d key (item ∷ items) k t
block_more unit marks form a b c d key item [] k unused place t h fresh n = absurd (omega (arith, h.some))
block_more unit marks form a b c d key item (next ∷ items) k unused place t h fresh n = record {
  grows = grows_more a b d h.grows (grows_more b c d fresh.grows n.grows);
  some = omega arith;
  holds = λ cps origins inc base setting bound held first bounds helds scoped goes.
      let x = translation unit cps origins in
      let up_b : a.next ≤ b.next = h.grows.next in
      let up_c : a.next ≤ c.next = omega (arith, up_b, fresh.next) in
      let first_b : base ≤ b.next = omega (arith, first, up_b) in
      let new : IsNew x held unused = fresh_new x marks base b.next form key unused held setting first_b (omega (arith, fresh.is)) (are_more unit base a.next b.next form key key up_b (omega arith) held helds) in (
        unused,
        place,
        new,
        child x marks base c.next c.next form key item bound held (Continuation.Lam unused place) t (n.holds cps origins inc base) n.below (omega arith) setting (omega (arith, first, up_c)) scoped.0
            (are_more unit base a.next c.next form key key up_c (omega arith) bound bounds) (are_more unit base a.next c.next form key key up_c (omega arith) held helds)
            (new, inl (omega (arith, first_b, fresh.is), omega (arith, fresh.is, fresh.next))),
        h.holds cps origins (fresh.grows.includes x (n.grows.includes x inc)) base setting bound held first bounds helds scoped.1 goes,
      );
}

block_scoped : (unit : UnitCore) (form : ℕ) (bound items : List ℕ) (tail : Bool) → AllByRecursion (λ p. IsScopedIn unit form p.at (adding p.binds bound)) (block_parts items tail) → AllByRecursion (λ c. IsScopedIn unit form c bound) items
block_scoped unit form bound [] tail h = tt
block_scoped unit form bound (item ∷ []) tail h = (h.0, tt)
block_scoped unit form bound (item ∷ next ∷ items) tail h = (h.0, block_scoped unit form bound (next ∷ items) tail h.1)

pub block_converted : (unit : UnitCore) (marks : List Bool) (form : ℕ) (a b : Conversion) (key : ℕ) (items : List ℕ) (k : Cont) (t : ℕ) → BlockEnd unit marks form a b key items k t → KindConverted unit marks form a b key (Node.Block items) k t
block_converted unit marks form a b key items k t h = record {
  grows = h.grows;
  holds = λ cps origins inc base there setting bound held spot goes.
      let x = translation unit cps origins in
      let o = opened unit form key bound (Node.Block items) spot.scoped there in
      h.holds cps origins inc base setting bound held spot.base_first (are_more unit base a.next a.next form (suc key) key (omega arith) (omega arith) bound spot.bound_outer)
      (are_more unit base a.next a.next form (suc key) key (omega arith) (omega arith) held spot.held_outer) (block_scoped unit form bound items o.tail o.parts)
      (goes_more x base a.next a.next form (suc key) key (omega arith) (omega arith) held k goes);
}

-- from the last item, and from one item to the one before
pub block_start : (unit : UnitCore) (marks : List Bool) (form : ℕ) (a b : Conversion) (key : ℕ) (items : List ℕ) (at d : ℕ) (k : Cont) (t : ℕ) → at + 1 ≡ length items → Converted unit marks form a b key (get_or items at d) k t
    → BlockEnd unit marks form a b key (drop at items) k t
block_start unit marks form a b key items at d k t last n =
    subst (λ l. BlockEnd unit marks form a b key l k t) (sym (drop_more items at d (omega (arith, last)) ∙ ap (λ l. get_or items at d ∷ l) (none items (at + 1) (omega (arith, last))))) (block_last unit marks form a b key (get_or items at d) k t n)
  where
    none : (xs : List ℕ) (n : ℕ) → length xs ≤ n → drop n xs ≡ []
    none [] zero le = refl
    none [] (suc n) le = refl
    none (x ∷ xs) zero le = absurd (omega (arith, le))
    none (x ∷ xs) (suc n) le = none xs n (omega (arith, le))

pub block_step : (unit : UnitCore) (marks : List Bool) (form : ℕ) (a b c d : Conversion) (key : ℕ) (items : List ℕ) (at e : ℕ) (k : Cont) (unused : Var) (place t : ℕ) → 0 < at → at < length items
    → BlockEnd unit marks form a b key (drop at items) k place → TakesNew b c unused → Converted unit marks form c d key (get_or items (at - 1) e) (Continuation.Lam unused place) t → BlockEnd unit marks form a d key (drop (at - 1) items) k t
block_step unit marks form a b c d key items at e k unused place t some below h fresh n =
    let up : at - 1 + 1 ≡ at = omega (arith, some) in
    subst (λ l. BlockEnd unit marks form a d key l k t) (sym (drop_more items (at - 1) e (omega (arith, below)) ∙ ap (λ m. get_or items (at - 1) e ∷ drop m items) up))
    (block_more unit marks form a b c d key (get_or items (at - 1) e) (drop at items) k unused place t h fresh n)
