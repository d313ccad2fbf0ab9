use Rattle.std.proofs.Common.{◌≤◌, List, length, take, sym, ap, subst, arith}
use Rattle.std.proofs.lemmas.List.{take_all}
use Rattle.t_forms.specs.Names.{Bound}
use Rattle.t_expand.specs.Growth.{IsReady}
use Rattle.expansion.specs.Settling.{all_settled}
use Rattle.t_expand.specs.SoFar.{SoFar}
use Rattle.t_expand.specs.Tallies.{AreTallied}
use Rattle.unit_tops.specs.Tops.{AreTops}
use Rattle.expansion.specs.Units.{Top, names_defined}
use Rattle.unit_tops.specs.Marks.{Marks}
use Rattle.t_expand.proofs.KeepingLemmas.{ready_kept}
use Rattle.t_expand.proofs.TopLemmas.{top_kept}
use Rattle.t_expand.proofs.SettlingLemmas.{settled_next}
use Rattle.unit_tops.proofs.TopLemmas.{top_at, as_many}
use Rattle.t_expand.proofs.SoFarLemmas.{so_far_none, so_far_more}
use Rattle.t_expand.proofs.driver_state.Expansion.expand_all.Goals as goal
use Rattle.t_expand.proofs.driver_state.Expansion.expand_all.Goals.{After-drop-marks-inside-2}

pub tops-init : goal.tops-init
tops-init c = record {
  so_far = λ ts defined ready are.
      so_far_none c.args.self.now c.in_ok-marks.marks (record { forms = c.new-2.result; spans = c.new-3.result }) defined c.count.result c.count.ensures.count
      c.in_ok-marks.ensures c.new-2.ensures.items c.new-3.ensures.items;
  globals = sym (ap (all_settled c.args.self.now.shared.globals.items) c.new-2.ensures.items);
  tallied = λ first none. subst (λ forms. AreTallied forms c.args.self.now) (sym c.new-2.ensures.items) (first none);
}

pub tops-preserved : goal.tops-preserved
tops-preserved c = record {
  so_far = λ ts defined ready are.
      let s = c.tops.invariant.so_far ts defined ready are in
      let at = top_at c.args.self.now.shared.names c.args.self.now.forms c.args.tops.now ts c.tops.top-index c.top-item.result are c.tops-test.true c.top-item.is in
      let ready-2 = ready_kept c.args.self.now c.tops.self defined s.keeps ready in
      let is-2 = top_kept c.args.self.now c.tops.self c.top-item.result at.top s.keeps at.is in
      let marked-2 =
      subst (λ names. Marks names c.tops.marks (names_defined (take c.tops.top-index ts))) (sym s.keeps.shared.names) s.marked in
      subst (λ done. SoFar c.args.self.now c.expand_top.new.self c.expand_top.new.marks c.add.new.self done defined) (sym at.next)
      (so_far_more c.args.self.now c.tops.self c.expand_top.new.self c.tops.marks c.expand_top.new.marks c.tops.list c.add.new.self (take c.tops.top-index ts) at.top defined
      c.in_ok-expanded.expanded s (c.in_ok-expanded.ensures.kept at.top defined ready-2 is-2)
      (c.in_ok-expanded.ensures.refused (take c.tops.top-index ts) at.top defined ready-2 is-2 marked-2)
      (c.in_ok-expanded.ensures.marked (take c.tops.top-index ts) at.top defined ready-2 is-2 marked-2)
      (c.in_ok-expanded.ensures.meant at.top defined ready-2 is-2) c.in_ok-add.ensures.forms c.in_ok-add.ensures.spans);
  globals = settled_next c.args.self.now.shared.globals.items c.tops.self.shared.globals.items c.expand_top.new.self.shared.globals.items c.tops.list.forms.items
      c.add.new.self.forms.items c.in_ok-expanded.expanded.form c.tops.invariant.globals c.in_ok-expanded.ensures.globals c.in_ok-add.ensures.forms;
  tallied = λ first none.
      subst (λ forms. AreTallied forms c.expand_top.new.self) (sym c.in_ok-add.ensures.forms)
      (c.in_ok-expanded.ensures.tallied c.tops.list.forms.items (c.tops.invariant.tallied first) none);
}

so_far_all : (c : After-drop-marks-inside-2) (ts : List Top) (defined : List Bound) → IsReady c.args.self.now defined
    → AreTops c.args.self.now.shared.names c.args.self.now.forms c.args.tops.now ts → SoFar c.args.self.now c.tops.self c.tops.marks c.tops.list ts defined
so_far_all c ts defined ready are =
    let many : length ts ≤ c.tops.top-index = let e = as_many c.args.self.now.shared.names c.args.self.now.forms c.args.tops.now ts are in omega (arith, c.tops-test.false, e) in
    subst (λ done. SoFar c.args.self.now c.tops.self c.tops.marks c.tops.list done defined) (take_all c.tops.top-index ts many) (c.tops.invariant.so_far ts defined ready are)

pub returns-clause-kept : goal.returns-clause-kept
returns-clause-kept c ts defined ready are = (so_far_all c ts defined ready are).keeps

pub returns-clause-refused : goal.returns-clause-refused
returns-clause-refused c ts defined ready are none = (so_far_all c ts defined ready are).first none

pub returns-clause-meant : goal.returns-clause-meant
returns-clause-meant c ts defined ready are none = (so_far_all c ts defined ready are).meant
