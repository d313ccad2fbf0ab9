use Rattle.std.proofs.Common.{ℕ, List}
use Rattle.t_forms.specs.Data.{Datum}
use Rattle.t_forms.specs.Held.{Held}
use Rattle.t_expand.specs.Quoting.{AddsConstants, Quotes}
use Rattle.t_expand.specs.Tallies.{AreNamed, AreNamedSoFar}
use Rattle.t_expand.proofs.quoted.constant_of.Given as goal

abbrev pub invariant-data : goal.invariant-data
invariant-data l = record {
  adds : AddsConstants l.initial.shared l.shared;
  quotes : (d : Datum) → Held l.initial.shared.names l.forms l.key d → Quotes l.shared l.forms l.waiting.items l.next d;
  named : (strings pairs : List ℕ) → AreNamed strings pairs l.initial.shared → AreNamedSoFar strings pairs l.waiting.items l.next l.shared;
}
