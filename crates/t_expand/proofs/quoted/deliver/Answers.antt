use Rattle.std.proofs.Common.{sym, subst, refl, ◌++◌, ◌∷◌, []}
use Rattle.t_expand.specs.Quoting.{Quotes}
use Rattle.t_expand.specs.declared.quoted.Quoting.TheVariants as quoting
use Rattle.t_expand.specs.Tallies.{AreNamedSoFar}
use Rattle.t_expand.proofs.NamingLemmas.{second_named, pair_named}
use Rattle.t_expand.proofs.QuotedLemmas.{second_half, pair_made}
use Rattle.expansion.proofs.Added.{Adds_refl}
use Rattle.t_expand.proofs.quoted.deliver.Goals as goal

pub returns-in_ok-push-in-Tail-clause-quotes : goal.returns-in_ok-push-in-Tail-clause-quotes
returns-in_ok-push-in-Tail-clause-quotes c cells root q =
    subst (λ halves. Quotes c.args.shared.now cells halves (quoting.Datum c.in-Tail.next) root) (sym c.in_ok-push-in-Tail.ensures.items)
    (second_half c.args.shared.now cells c.args.waiting.now.items c.in-Tail.next c.args.constant root
    (subst (λ h. Quotes c.args.shared.now cells (c.args.waiting.now.items ++ h ∷ []) (quoting.Made c.args.constant) root) c.in-Tail.is q))

pub returns-in_ok-made-in-Head-clause-quotes : goal.returns-in_ok-made-in-Head-clause-quotes
returns-in_ok-made-in-Head-clause-quotes c cells root q =
    let is = subst (λ h. Quotes c.args.shared.now cells (c.args.waiting.now.items ++ h ∷ []) (quoting.Made c.args.constant) root) c.in-Head.is q in
    let made = c.in_ok-made-in-Head.ensures.made in
    pair_made c.args.shared.now _ (record { names = refl; strings = Adds_refl c.args.shared.now.strings.items; pairs = c.in_ok-made-in-Head.ensures.pairs; globals = refl; ops = refl }) cells
    c.args.waiting.now.items c.in-Head.head c.args.constant c.in_ok-made-in-Head.made root made.0 made.1 made.2 is

pub returns-in_ok-push-in-Tail-clause-named : goal.returns-in_ok-push-in-Tail-clause-named
returns-in_ok-push-in-Tail-clause-named c strings pairs h =
    subst (λ halves. AreNamedSoFar strings pairs halves (quoting.Datum c.in-Tail.next) c.args.shared.now) (sym c.in_ok-push-in-Tail.ensures.items)
    (second_named strings pairs c.args.shared.now c.args.waiting.now.items c.in-Tail.next c.args.constant
    (subst (λ x. AreNamedSoFar strings pairs (c.args.waiting.now.items ++ x ∷ []) (quoting.Made c.args.constant) c.args.shared.now) c.in-Tail.is h))

pub returns-in_ok-made-in-Head-clause-named : goal.returns-in_ok-made-in-Head-clause-named
returns-in_ok-made-in-Head-clause-named c strings pairs h =
    let made = c.in_ok-made-in-Head.ensures in
    pair_named strings pairs c.args.waiting.now.items c.in-Head.head c.args.constant c.in_ok-made-in-Head.made c.args.shared.now _ refl made.pushed made.last
    (subst (λ x. AreNamedSoFar strings pairs (c.args.waiting.now.items ++ x ∷ []) (quoting.Made c.args.constant) c.args.shared.now) c.in-Head.is h)
