-- The places of the parts of terms.
use Rattle.std.specs.Prelude.{ℕ, List, [], ◌∷◌, ◌++◌, map, slice_get}
use Rattle.std.specs.Option.{option_map_or}
use Rattle.std.specs.List.{filter_map}
use Rattle.cps_ir.specs.declared.terms.Term.{Term}
use Rattle.cps_ir.specs.declared.terms.Cps.{Cps}
use Rattle.cps_ir.specs.declared.args.Arg.{Arg}
use Rattle.cps_ir.specs.Parts.{Part, proc_of, lambda_at, lambdas_of, own_parts, root_lams}

abbrev pub places_of : List Part → List ℕ
places_of parts = map (λ p. p.at) parts

-- the places of the terms that a term names, of the bodies of its LAMBDAs, and of both, these first
abbrev pub own_places : Term → List ℕ
own_places term = places_of (own_parts [] term)

abbrev pub bodies_of : Cps → List ℕ → List ℕ
bodies_of cps lams = map (λ lam. lam.body) (filter_map (lambda_at cps) lams)

abbrev pub bodies_in : Cps → List Arg → List ℕ
bodies_in cps args = bodies_of cps (filter_map proc_of args)

abbrev pub lambda_places : Cps → Term → List ℕ
lambda_places cps term = map (λ lam. lam.body) (lambdas_of cps term)

abbrev pub part_places : Cps → Term → List ℕ
part_places cps term = lambda_places cps term ++ own_places term

-- the places of the entry and of the bodies of the procedures of globals and operations
abbrev pub root_places : Cps → List ℕ
root_places cps = cps.entry ∷ map (λ lam. lam.body) (root_lams cps)

-- the places of the parts of the term at a place
abbrev pub places_under : Cps → ℕ → List ℕ
places_under cps t = option_map_or (part_places cps) (slice_get cps.terms.items t) []
