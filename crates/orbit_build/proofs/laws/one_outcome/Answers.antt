use Rattle.std.proofs.Common.{◌≡◌, true, false}
use Rattle.std.specs.Prelude.{Result, Ok, Err}
use Rattle.t_core.specs.declared.limiting.LimitFault.{LimitFault}
use Rattle.orbit_build.proofs.CoresAlike.{limits_agree, built_agree}
use Rattle.orbit_build.proofs.laws.one_outcome.Goals as goal

same_fault : (f g : LimitFault) → ◌≡◌ {A = Result (Unit {0}) LimitFault} (Err f) (Err g) → f ≡ g
same_fault f g e = cc

never_within : (f : LimitFault) → ◌≡◌ {A = Result (Unit {0}) LimitFault} (Err f) (Ok tt) → ⊥
never_within f e = cc

never_both : false ≡ true → ⊥
never_both e = cc

pub returns-clause-limit : goal.returns-clause-limit
returns-clause-limit c text fault more one two =
    same_fault fault more (limits_agree text one.unit two.unit one.core two.core (Err fault) (Err more) one.over two.over)

pub returns-clause-over_unbuilt : goal.returns-clause-over_unbuilt
returns-clause-over_unbuilt c text fault one two =
    never_within fault (limits_agree text one.unit two.unit one.core two.core (Err fault) (Ok tt) one.over two.within)

pub returns-clause-over_built : goal.returns-clause-over_built
returns-clause-over_built c text fault one two =
    never_within fault (limits_agree text one.unit two.unit one.core two.core (Err fault) (Ok tt) one.over two.within)

pub returns-clause-unbuilt_built : goal.returns-clause-unbuilt_built
returns-clause-unbuilt_built c text one two = never_both (built_agree text one.unit two.unit one.core two.core false true one.unbuilt two.built)
