use Rattle.std.proofs.Common.{rules, ◌≡◌, ℕ, true, subst, sym, ap, ◌∙◌}
use Rattle.std.specs.List.{list_any}
use Rattle.cps_ir.specs.Parts.{assigns}
use Rattle.cps_walk.specs.Marked.{is_marked}
use Rattle.cps_order.proofs.Marks.{same_marks}
use Rattle.cps_order.proofs.Reached.{same_any}
use Rattle.cps_order.proofs.assigned.check_assigned.Goals as goal

pub returns : goal.returns
returns c = λ ordered x.
    let marks = c.args.marks.now in
    let assigned = c.in_ok-assigned.assigned.items in
    let down : (y : ℕ) → is_marked assigned y ≡ true → is_marked marks y ≡ true =
    subst (λ l. (y : ℕ) → is_marked l y ≡ true → is_marked marks y ≡ true) c.deref.ensures.value (c.are_among.ensures (search rules)) in
    let up : (y : ℕ) → is_marked marks y ≡ true → is_marked assigned y ≡ true =
    subst (λ l. (y : ℕ) → is_marked marks y ≡ true → is_marked l y ≡ true) c.deref-2.ensures.value (c.are_among-2.ensures (search rules)) in
    same_any c.args.cps.now ordered (assigns x)
    ∙ ap (λ ts. list_any (assigns x) ts) (sym c.as_slice.ensures.value) ∙ sym (c.in_ok-assigned.ensures x) ∙ same_marks (is_marked assigned x) (is_marked marks x) (down x) (up x)
