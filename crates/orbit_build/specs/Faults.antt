-- Faults of the front end, as faults of a build.
use Rattle.std.specs.Prelude.{Bool, true, false}
use Rattle.t_reader.specs.declared.fault.ReadFault.{ReadFault}
use Rattle.t_reader.specs.declared.fault.ReadFault.TheVariants as read_fault
use Rattle.t_expand.specs.declared.fault.SyntaxFault.{SyntaxFault}
use Rattle.t_expand.specs.declared.fault.SyntaxFault.TheVariants as syntax_fault
use Rattle.orbit_build.specs.declared.fault.BuildFault.{BuildFault}
use Rattle.orbit_build.specs.declared.fault.BuildFault.TheVariants as build_fault

-- a fault of the text stays that, and want of memory stays that
abbrev pub of_read : ReadFault → BuildFault
of_read (read_fault.Fault kind span) = build_fault.Read kind span
of_read read_fault.Memory = build_fault.Memory

abbrev pub of_syntax : SyntaxFault → BuildFault
of_syntax (syntax_fault.Fault kind span) = build_fault.Syntax kind span
of_syntax syntax_fault.Memory = build_fault.Memory

-- a fault that comes only after the unit is there
abbrev pub is_late : BuildFault → Bool
is_late (build_fault.Read kind span) = false
is_late (build_fault.Syntax kind span) = false
is_late (build_fault.Limit fault) = true
is_late build_fault.Unbuilt = true
is_late build_fault.Memory = false
