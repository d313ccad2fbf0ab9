use Rattle.std.proofs.Common.{Contains}
use Rattle.std.proofs.lemmas.Result.{IfOk-weaker, on_ok_weaker}
use Rattle.t_rows.specs.Rows.{twice}
use Rattle.expansion.specs.Meaning.{top_scope}
use Rattle.expansion.specs.Refusals.{Refused, RefusedDefinition}
use Rattle.t_expand.specs.Rooted.{nodes_of}
use Rattle.t_expand.proofs.FirstLemmas.{first_right}
use Rattle.t_expand.proofs.ValueLemmas.{define_value, lset_value, operation_value, operation_none, none_means}
use Rattle.t_expand.proofs.driver_state.Expansion.expand_value.Goals as goal

pub returns-in-Define-clause-refused : goal.returns-in-Define-clause-refused
returns-in-Define-clause-refused c d defined ready of =
    let v = define_value c.args.self.now.shared.names c.args.self.now.forms c.args.definition.now c.in-Define.name c.in-Define.value d of c.in-Define.is in
    on_ok_weaker c.expand_root.result
    (first_right (Refused (top_scope defined) v.form) (RefusedDefinition defined d) c.args.self.now.first c.expand_root.new.self.first (v.refused defined) (v.back defined))
    (c.expand_root.ensures.refused v.form defined ready v.held)

pub returns-in-Define-clause-meant : goal.returns-in-Define-clause-meant
returns-in-Define-clause-meant c d defined ready of =
    let v = define_value c.args.self.now.shared.names c.args.self.now.forms c.args.definition.now c.in-Define.name c.in-Define.value d of c.in-Define.is in
    IfOk-weaker c.expand_root.result _ _ (λ x h none later grown. v.means defined later (nodes_of x) x.root (h none later grown))
    (c.expand_root.ensures.meant v.form defined ready v.held)

pub returns-in-Lset-clause-refused : goal.returns-in-Lset-clause-refused
returns-in-Lset-clause-refused c d defined ready of =
    let v = lset_value c.args.self.now.shared.names c.args.self.now.forms c.args.definition.now c.in-Lset.name c.in-Lset.value d of c.in-Lset.is in
    on_ok_weaker c.expand_root-in-Lset.result
    (first_right (Refused (top_scope defined) v.form) (RefusedDefinition defined d) c.args.self.now.first c.expand_root-in-Lset.new.self.first (v.refused defined) (v.back defined))
    (c.expand_root-in-Lset.ensures.refused v.form defined ready v.held)

pub returns-in-Lset-clause-meant : goal.returns-in-Lset-clause-meant
returns-in-Lset-clause-meant c d defined ready of =
    let v = lset_value c.args.self.now.shared.names c.args.self.now.forms c.args.definition.now c.in-Lset.name c.in-Lset.value d of c.in-Lset.is in
    IfOk-weaker c.expand_root-in-Lset.result _ _ (λ x h none later grown. v.means defined later (nodes_of x) x.root (h none later grown))
    (c.expand_root-in-Lset.ensures.meant v.form defined ready v.held)

pub returns-in-Some-clause-refused : goal.returns-in-Some-clause-refused
returns-in-Some-clause-refused c d defined ready of =
    let v = operation_value c.args.self.now.shared.names c.args.self.now.forms c.args.definition.now c.in-Operation.name c.in-Operation.params c.in-Operation.default c.in-Some.value d of c.in-Operation.is c.in-Some.is in
    on_ok_weaker c.expand_root-in-Some.result
    (first_right (Refused (top_scope defined) v.form) (RefusedDefinition defined d) c.args.self.now.first c.expand_root-in-Some.new.self.first (v.refused defined) (v.back defined))
    (c.expand_root-in-Some.ensures.refused v.form defined ready v.held)

pub returns-in-Some-clause-meant : goal.returns-in-Some-clause-meant
returns-in-Some-clause-meant c d defined ready of =
    let v = operation_value c.args.self.now.shared.names c.args.self.now.forms c.args.definition.now c.in-Operation.name c.in-Operation.params c.in-Operation.default c.in-Some.value d of c.in-Operation.is c.in-Some.is in
    IfOk-weaker c.expand_root-in-Some.result _ _ (λ x h none later grown. v.means defined later (nodes_of x) x.root (h none later grown))
    (c.expand_root-in-Some.ensures.meant v.form defined ready v.held)

pub returns-in-None-clause-refused : goal.returns-in-None-clause-refused
returns-in-None-clause-refused c d defined ready of =
    let v = operation_none c.args.self.now.shared.names c.args.self.now.forms c.args.definition.now c.in-Operation.name c.in-Operation.params c.in-Operation.default d of c.in-Operation.is c.in-None.is in
    on_ok_weaker c.without_default.result
    (first_right (Contains (twice v.params)) (RefusedDefinition defined d) c.args.self.now.first c.without_default.new.self.first (v.refused defined) (v.back defined))
    (c.without_default.ensures.refused v.params defined ready (rw c.as_slice.ensures.value v.are))

pub returns-in-None-clause-meant : goal.returns-in-None-clause-meant
returns-in-None-clause-meant c d defined ready of =
    let v = operation_none c.args.self.now.shared.names c.args.self.now.forms c.args.definition.now c.in-Operation.name c.in-Operation.params c.in-Operation.default d of c.in-Operation.is c.in-None.is in
    none_means c.args.self.now c.without_default.new.self c.args.self.now.shared.names c.in-Operation.params.items d v defined c.without_default.result
    (c.without_default.ensures.refused v.params defined ready (rw c.as_slice.ensures.value v.are)) c.without_default.ensures.nodes c.without_default.ensures.root
