-- The numbers that registers and storage hold: long words and bytes.
use Rattle.std.specs.Prelude.{◌≡◌, ℕ, ◌^◌, ◌<◌, List, length, slice_index, IsTrue}
use Rattle.m68020_step.specs.declared.machine.Sizes.{Sizes}
use Rattle.m68020_step.specs.declared.registers.Registers.{Registers}
use Rattle.m68020_step.specs.Storage.{Regions, SameShape}
use Rattle.m68020_step.specs.Boot.{is_size, boot_of}
use Rattle.m68020_step.specs.Step.{State, step_of}

abbrev pub AreBytes : List ℕ → Type 0
AreBytes bytes = (i : ℕ) → slice_index bytes i < 256

abbrev pub AreLongs : List ℕ → Type 0
AreLongs longs = (i : ℕ) → slice_index longs i < 2 ^ 32

-- eight data registers and eight address registers, each of them and the program counter a long word
pub record HasLongs (r : Registers) : Type 0 where
  pub d_count : length r.d ≡ 8
  pub a_count : length r.a ≡ 8
  pub d : AreLongs r.d
  pub a : AreLongs r.a
  pub pc : r.pc < 2 ^ 32

-- each region is bytes
pub record HasBytes (m : Regions) : Type 0 where
  pub code : AreBytes m.code
  pub statics : AreBytes m.statics
  pub heap : AreBytes m.heap
  pub stack : AreBytes m.stack

pub record IsInRange (s : State) : Type 0 where
  pub registers : HasLongs s.registers
  pub storage : HasBytes s.storage

-- The state of boot is in range where what it is made of is.
abbrev pub BootIsInRange : Type 0
BootIsInRange = (code statics : List ℕ) (entry : ℕ) (sizes : Sizes) → AreBytes code → AreBytes statics → entry < 2 ^ 32 → IsTrue (is_size sizes.heap) → IsTrue (is_size sizes.stack)
    → IsInRange (boot_of code statics entry sizes)

-- A step leaves a state in range, with the same code and regions of the same size.
pub record KeepsRange (s : State) : Type 0 where
  pub in_range : IsInRange (step_of s).1
  pub shape : SameShape s.storage (step_of s).1.storage

abbrev pub StepKeepsRange : Type 0
StepKeepsRange = (s : State) → IsInRange s → KeepsRange s
