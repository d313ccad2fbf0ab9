use Rattle.t_forms.specs.Held.{vars_of}
use Rattle.t_forms.proofs.Keeping.{extends_same, extends_trans, held_grows}
use Rattle.t_expand.proofs.FormLemmas.{same_self, form_found_or_next, node_found}
use Rattle.t_expand.proofs.driver.find_node.Goals as goal

pub rows-init : goal.rows-init
rows-init c = record { cells = extends_same; stands = λ d around distinct held scope. (d, held, same_self around d) }

pub rows-preserved : goal.rows-preserved
rows-preserved c = record {
  cells = extends_trans c.rows.invariant.cells c.in_ok-next.ensures.grown;
  stands = λ d around distinct held scope.
      let s = c.rows.invariant.stands d around distinct held scope in
      form_found_or_next c.args.names.now c.row_or_next.new.forms (vars_of c.args.scope.now) around d s.0 c.in-StandsFor.next c.in_ok-next.field-0 c.in-StandsFor.is s.2
      (c.in_ok-next.ensures.row s.0 around distinct s.1 scope);
}

pub returns-in-Node : goal.returns-in-Node
returns-in-Node c = record {
  cells = extends_trans c.rows.invariant.cells c.in_ok-next.ensures.grown;
  finds = λ d around distinct held scope.
      let s = c.rows.invariant.stands d around distinct held scope in
      node_found c.args.names.now c.row_or_next.new.forms c.args.scope.now around d s.0 _ c.in_ok-next.field-0 c.in-Node.is s.2
      (c.span_of.ensures c.args.names.now s.0 (held_grows c.in_ok-next.ensures.grown c.args.names.now c.rows.at s.0 s.1)) (c.in_ok-next.ensures.row s.0 around distinct s.1 scope);
}
