use Rattle.std.proofs.Common.{refl, subst}
use Rattle.t_expand.specs.Expanding.{IsFirst}
use Rattle.t_expand.proofs.QuotedLemmas.{AddsConstants_refl}
use Rattle.expansion.proofs.Added.{Adds_refl}
use Rattle.t_expand.proofs.RefusalLemmas.{none_before}
use Rattle.t_expand.proofs.FormLemmas.{frame_opens}
use Rattle.t_expand.proofs.driver_state.Expansion.open_node.Goals as goal

pub returns-clause-grows : goal.returns-clause-grows
returns-clause-grows c = record {
  cells = c.in_ok-found.ensures.cells;
  shared = AddsConstants_refl c.args.self.now.shared;
  nodes = Adds_refl c.args.self.now.nodes.nodes;
  spans = Adds_refl c.args.self.now.nodes.spans;
  first = none_before c.args.self.now.first c.noted-self.result c.noted-self.ensures.kept;
}

pub returns-clause-keeps : goal.returns-clause-keeps
returns-clause-keeps c = record { nodes = refl; shared = refl; next = refl; first = none_before c.args.self.now.first c.noted-self.result c.noted-self.ensures.kept }

pub returns-clause-opens : goal.returns-clause-opens
returns-clause-opens c = record {
  frame = _;
  put = c.in_ok-add.ensures;
  tail_is = refl;
  none_done = refl;
  opens = λ d around distinct held scope.
      frame_opens c.args.self.now _ around d _ c.in_ok-found.found (c.in_ok-found.ensures.finds d around distinct held scope) scope refl
      (subst (λ l. IsFirst c.args.self.now.first l c.noted-self.result) c.as_slice.ensures.value c.noted-self.ensures);
}
