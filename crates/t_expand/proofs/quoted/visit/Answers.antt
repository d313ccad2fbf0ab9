use Rattle.std.proofs.Common.{◌++◌, sym, subst}
use Rattle.t_expand.specs.Quoting.{Quotes}
use Rattle.t_expand.specs.declared.quoted.Quoting.TheVariants as quoting
use Rattle.expansion.specs.Strings.{string_in}
use Rattle.t_core.specs.Whole.{pair_in}
use Rattle.t_expand.specs.Tallies.{named_so_far, AreNamedSoFar}
use Rattle.t_expand.proofs.NamingLemmas.{first_named, atom_named}
use Rattle.t_expand.proofs.QuotedLemmas.{first_half, atom_made}
use Rattle.t_expand.proofs.quoted.visit.Goals as goal

pub returns-in_ok-push-in-Pair-clause-quotes : goal.returns-in_ok-push-in-Pair-clause-quotes
returns-in_ok-push-in-Pair-clause-quotes c root q =
    let at = c.args.waiting.now.items in
    subst (λ halves. Quotes c.args.shared.now c.args.forms.now halves (quoting.Datum c.in-Pair.head) root) (sym c.in_ok-push-in-Pair.ensures.items)
    (first_half c.args.shared.now c.args.forms.now at c.args.at c.in-Pair.head c.in-Pair.tail c.in-Pair.count c.in-Some.cell.now root (sym c.in-Some.ensures) c.in-Pair.is q)

pub returns-in_ok-constant-in_default-clause-quotes : goal.returns-in_ok-constant-in_default-clause-quotes
returns-in_ok-constant-in_default-clause-quotes c root q =
    let adds = c.in_ok-constant-in_default.ensures.adds in
    atom_made c.args.shared.now c.atom.new.shared adds c.args.forms.now c.args.waiting.now.items c.args.at c.in-Some.cell.now root c.in_ok-constant-in_default.constant (sym c.in-Some.ensures)
    c.in_ok-constant-in_default.ensures.constant q

pub returns-in_ok-push-in-Pair-clause-named : goal.returns-in_ok-push-in-Pair-clause-named
returns-in_ok-push-in-Pair-clause-named c strings pairs h =
    subst (λ halves. AreNamedSoFar strings pairs halves (quoting.Datum c.in-Pair.head) c.args.shared.now) (sym c.in_ok-push-in-Pair.ensures.items)
    (first_named strings pairs c.args.shared.now c.args.waiting.now.items c.args.at c.in-Pair.head c.in-Pair.tail h)

pub returns-in_ok-constant-in_default-clause-named : goal.returns-in_ok-constant-in_default-clause-named
returns-in_ok-constant-in_default-clause-named c strings pairs h =
    let halves = c.args.waiting.now.items in
    let next = quoting.Datum c.args.at in
    atom_named strings pairs c.atom.new.shared halves c.args.at c.in_ok-constant-in_default.constant
    (c.in_ok-constant-in_default.ensures.named (strings ++ named_so_far string_in halves next) (pairs ++ named_so_far pair_in halves next) h)
