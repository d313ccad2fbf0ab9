-- What leads to one fact and from there to another.
use Rattle.std.proofs.Common.{◌≡◌, ℕ, ◌+◌, ◌≤◌, sym, subst, arith}
use Rattle.program_runs.specs.Follows.{after}
use Rattle.program_runs.proofs.Simulate.{after_add}
use Rattle.word_ir.specs.declared.words.Words.{Words}
use Rattle.word_ir.specs.Storage.{Sizes}
use Rattle.word_ir.specs.Step.{words_in}
use Rattle.word_ir.specs.Stamps.{Stamped, stamped_step}
use Rattle.word_trees.specs.Trees.{Tree}
use Rattle.word_trees.specs.Cores.{Core, at}
use Rattle.word_trees.specs.Leads.{Leads, Performs}

module _ (words : Words) (sizes : Sizes) (Q R : Stamped → Type 0) where
  pub leads_then : (least cost more : ℕ) (t : Stamped) → Leads words sizes Q least cost t → ((x : Stamped) → Q x → Leads words sizes R 0 more x) → Leads words sizes R least (cost + more) t
  leads_then least cost more t h next =
      let middle : Stamped = after (stamped_step (words_in words sizes)) h.count t in
      let k : Leads words sizes R 0 more middle = next (after (stamped_step (words_in words sizes)) h.count t) h.there in
      let joint : after (stamped_step (words_in words sizes)) (h.count + k.count) t ≡ after (stamped_step (words_in words sizes)) k.count (after (stamped_step (words_in words sizes)) h.count t) = after_add (stamped_step (words_in words sizes)) h.count k.count t in
      let there : R (after (stamped_step (words_in words sizes)) (h.count + k.count) t) = subst R (sym joint) k.there in
      let first : (after (stamped_step (words_in words sizes)) h.count t).state.moves ≤ t.state.moves + cost = h.moves in
      let second : (after (stamped_step (words_in words sizes)) k.count (after (stamped_step (words_in words sizes)) h.count t)).state.moves ≤ (after (stamped_step (words_in words sizes)) h.count t).state.moves + more = k.moves in
      let whole : (after (stamped_step (words_in words sizes)) k.count (after (stamped_step (words_in words sizes)) h.count t)).state.moves ≤ t.state.moves + (cost + more) = omega (arith, first, second) in
      let enough : least ≤ h.count = h.enough in
      record {
        count = h.count + k.count;
        enough = omega (arith, enough);
        there = there;
        moves = subst (λ x. x.state.moves ≤ t.state.moves + (cost + more)) (sym joint) whole;
      }

  pub performs_then : (least cost more : ℕ) (tree : Tree) (c : Core) → Performs words sizes Q least cost tree c → ((x : Stamped) → Q x → Leads words sizes R 0 more x) → Performs words sizes R least (cost + more) tree c
  performs_then least cost more tree c h next = record { leads = λ block place moves steps spelled. leads_then least cost more (at c block place moves steps) (h.leads block place moves steps spelled) next }

  -- any number of steps is none at least
  pub any_leads : (least cost : ℕ) (x : Stamped) → Leads words sizes R least cost x → Leads words sizes R 0 cost x
  any_leads least cost x h = record { count = h.count; enough = omega arith; there = h.there; moves = h.moves }
