use Rattle.std.proofs.Common.{ℕ, List, sym, subst, slice_index}
use Rattle.word_faces.specs.Faces.{face_of}
use Rattle.machine_services.specs.Services.{reader_of, serve}
use Rattle.orbit_monitor.specs.Turn.{put_of}
use Rattle.orbit_monitor.proofs.Turns.{halt-puts_nothing}
use Rattle.orbit_monitor.proofs.services.serve.Goals as goal

pub returns-in-0-clause-took : goal.returns-in-0-clause-took
returns-in-0-clause-took g c =
    let s = c.args.machine.now in
    let nothing = halt-puts_nothing (face_of (reader_of s.storage) c.args.names.now (slice_index s.registers.d 0)) in
    subst (λ (v : ℕ). g.S.Sink.took c.args.out.now (put_of (serve c.args.names.now s v)) c.args.out.now) (sym c.in-0.is)
    (subst (λ (l : List ℕ). g.S.Sink.took c.args.out.now l c.args.out.now) (sym nothing) (g.met.S.Sink.took_nothing c.args.out.now))
