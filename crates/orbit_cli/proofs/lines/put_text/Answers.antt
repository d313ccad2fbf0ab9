use Rattle.std.proofs.Common.{ℕ, ◌≤◌, List, length, take, drop, Result, Ok, Err, sym}
use Rattle.std.specs.Prelude.{IfErr, OnErr}
use Rattle.std.proofs.lemmas.List.{take-append-drop}
use Rattle.t_ports.specs.declared.ports.Failed.{Failed}
use Rattle.t_ports.specs.Pieces.{TookFront}
use Rattle.orbit_cli.proofs.lines.put_text.Goals as goal

-- where the put failed, the first bytes are a front
cut : {S T : Type 0} (took : S → List ℕ → S → Type 0) (old new : S) (text : List ℕ) (r : Result T Failed) → IfErr r (λ e. (e.taken ≤ length text) × took old (take e.taken text) new) → OnErr r (TookFront took old text new)
cut took old new text (Ok x) h = tt
cut took old new text (Err e) h = (take e.taken text, drop e.taken text, sym (take-append-drop e.taken text), h.1)

pub returns : goal.returns
returns g c = record {
  whole = c.put.ensures.ok;
  part = cut g.S.Sink.took _ _ c.args.text.now c.put.result c.put.ensures.err;
  cause = c.put.ensures.cause;
}
