-- Counts of faults: one higher where a call failed, and otherwise the same.
use Rattle.std.specs.Prelude.{ℕ, Bool, true, false, ◌+◌, ◌-◌, ◌^◌, ◌==◌, if◌then◌else◌, min, Result, Ok, Err}
use Rattle.std.specs.Global.{Vec}
use Rattle.t_ports.specs.declared.ports.Failed.{Failed}
use Rattle.t_ports.specs.declared.ports.FetchFault.{FetchFault}
use Rattle.t_ports.specs.declared.ports.FetchFault.TheVariants as fetch
use Rattle.t_ports.specs.declared.ports.KeepFault.{KeepFault}
use Rattle.t_ports.specs.declared.ports.KeepFault.TheVariants as keep

-- one fault more, up to the last number of the type
abbrev pub next_fault : ℕ → ℕ
next_fault n = min (n + 1) (2 ^ 64 - 1)

-- one fault more where a call failed
abbrev pub faults_after_call : ℕ → Bool → ℕ
faults_after_call n true = next_fault n
faults_after_call n false = n

abbrev pub fetch_faults_after : ℕ → Result (Vec ℕ) FetchFault → ℕ
fetch_faults_after n (Err fetch.Failed) = next_fault n
fetch_faults_after n (Err (fetch.Long read)) = n
fetch_faults_after n (Err fetch.Memory) = n
fetch_faults_after n (Ok bytes) = n

abbrev pub keep_faults_after : ℕ → Result (Unit {0}) KeepFault → ℕ
keep_faults_after n (Err keep.Failed) = next_fault n
keep_faults_after n (Err keep.Memory) = n
keep_faults_after n (Ok done) = n

abbrev pub faults_after_put : ℕ → Result (Unit {0}) Failed → ℕ
faults_after_put n (Ok done) = n
faults_after_put n (Err failed) = next_fault n

-- of a reader: a read that failed is a fault
abbrev pub faults_after_read : {E : Type 0} → ℕ → Result ℕ E → ℕ
faults_after_read n (Ok count) = n
faults_after_read n (Err error) = next_fault n

-- of a writer: a write that failed is one, and so is a write that took nothing
abbrev pub faults_after_write : {E : Type 0} → ℕ → Result ℕ E → ℕ
faults_after_write n (Ok count) = if count == 0 then next_fault n else n
faults_after_write n (Err error) = next_fault n
