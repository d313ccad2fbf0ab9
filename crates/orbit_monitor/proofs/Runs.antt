-- Laws of the runs of images: a run that has ended stays, output only grows, and a second run goes on.
use Rattle.std.proofs.Common.{◌≡◌, ℕ, ◌+◌, ◌-◌, ◌≤◌, List, [], Some, sym, ap, subst, ◌∙◌, arith, add-zero}
use Rattle.std.proofs.lemmas.List.{append-nil}
use Rattle.program_runs.specs.Runs.{IsPrefix}
use Rattle.image_file.specs.Grammar.{Parts}
use Rattle.m68020_step.specs.declared.machine.Sizes.{Sizes}
use Rattle.machine_services.specs.declared.exit.Exit.{Exit}
use Rattle.machine_services.specs.Runs.{Progress, start_of, followed, run_from}
use Rattle.machine_services.specs.Observed.{observation_of}
use Rattle.machine_services.proofs.Runs.{run_from-add, run_from-ended, run_from-grows, run_from-followed}
use Rattle.orbit_monitor.specs.Run.{run, booted}
use Rattle.orbit_monitor.specs.Answering.{Loaded, run_on, after}
use Rattle.orbit_monitor.specs.Observed.{observed}

pub run-stays : (image : Parts) (sizes : Sizes) (m k : ℕ) (e : Exit) → (run image sizes m).end ≡ Some e → run image sizes (m + k) ≡ run image sizes m
run-stays image sizes m k e is =
    let p = start_of (booted image sizes) in
    run_from-add image.names p m k ∙ run_from-ended image.names (run_from image.names p m) k e is

pub run-stays_by : (image : Parts) (sizes : Sizes) (m n : ℕ) (e : Exit) → (run image sizes m).end ≡ Some e → m ≤ n → run image sizes n ≡ run image sizes m
run-stays_by image sizes m n e is le =
    let same : n ≡ m + (n - m) = omega arith in
    ap (λ (k : ℕ). run image sizes k) same ∙ run-stays image sizes m (n - m) e is

-- output only grows
pub run-grows : (image : Parts) (sizes : Sizes) (m k : ℕ) → IsPrefix (run image sizes m).output (run image sizes (m + k)).output
run-grows image sizes m k =
    let p = start_of (booted image sizes) in
    subst (λ (q : Progress). IsPrefix (run image sizes m).output q.output) (sym (run_from-add image.names p m k)) (run_from-grows image.names (run_from image.names p m) k)

-- the same of what is seen of a run
pub observed-stays : (image : Parts) (sizes : Sizes) (m k : ℕ) (e : Exit) → (run image sizes m).end ≡ Some e → observed image sizes (m + k) ≡ observed image sizes m
observed-stays image sizes m k e is = ap (λ (p : Progress). observation_of image.names p) (run-stays image sizes m k e is)

pub observed-grows : (image : Parts) (sizes : Sizes) (m k : ℕ) → IsPrefix (observed image sizes m).output (observed image sizes (m + k)).output
observed-grows image sizes m k = run-grows image sizes m k

-- A second run goes on where the first one left off.
pub run_on-add : (b : Loaded) (m k : ℕ) → run_on b (m + k) ≡ followed (run_on b m) (run_on (after b (run_on b m)) k)
run_on-add b m k =
    let p : Progress = record { state = b.state; output = []; end = b.end; instructions = 0 } in
    let q = run_on b m in
    let here : Progress = record { state = q.state; output = []; end = q.end; instructions = 0 } in
    let same : q ≡ followed q here =
    sym (ap (λ (l : List ℕ). let x : Progress = record { state = q.state; output = l; end = q.end; instructions = q.instructions + 0 } in x) (append-nil q.output)
    ∙ ap (λ (n : ℕ). let x : Progress = record { state = q.state; output = q.output; end = q.end; instructions = n } in x) (add-zero q.instructions)) in
    run_from-add b.names p m k ∙ ap (λ (x : Progress). run_from b.names x k) same ∙ run_from-followed b.names q here k
