use Rattle.std.proofs.Common.{◌≡◌, ℕ, List, [], sym, ap, ◌∙◌, subst}
use Rattle.std.specs.Prelude.{replicate}
use Rattle.image_file.specs.Grammar.{Parts, IsImage, IsImageOf}
use Rattle.m68020_step.specs.declared.storage.TheConstants.{CODE_START}
use Rattle.orbit_build.specs.Sums.{Term}
use Rattle.orbit_build.specs.Code.{unit_code, statics_bytes, image_of}
use Rattle.orbit_build.proofs.UnitRuns.{keeps_meaning, tells_room}
use Rattle.orbit_build.proofs.Units.{built_unit}
use Rattle.orbit_build.proofs.Lengths.{is_image, code_short}
use Rattle.orbit_build.proofs.build.image_of.Goals as goal

-- the parts that were made are those of the terms
parts_are : (code statics : List ℕ) (names : List (List ℕ)) (ts : List Term) → code ≡ unit_code ts → statics ≡ replicate statics_bytes 0 → names ≡ [] → image_of ts ≡ record { code = code; statics = statics; entry = CODE_START; names = names }
parts_are code statics names ts a b c =
    ap (λ (l : List ℕ). let p : Parts = record { code = l; statics = replicate statics_bytes 0; entry = CODE_START; names = [] } in p) (sym a)
    ∙ ap (λ (l : List ℕ). let p : Parts = record { code = code; statics = l; entry = CODE_START; names = [] } in p) (sym b)
    ∙ ap (λ (l : List (List ℕ)). let p : Parts = record { code = code; statics = statics; entry = CODE_START; names = l } in p) (sym c)

pub code_of-requires : goal.code_of-requires
code_of-requires c = let u = built_unit c.args.unit.now c.requires.whole c.requires.built c.requires.within in (u.terms, u.are)

pub write_image-requires : goal.write_image-requires
write_image-requires c =
    let u = built_unit c.args.unit.now c.requires.whole c.requires.built c.requires.within in
    let statics : c.in_ok-statics.statics.items ≡ replicate statics_bytes 0 = c.in_ok-statics.ensures.items_if_clones_equal (λ y e. e) in
    subst IsImage (parts_are c.in_ok-code.code.items c.in_ok-statics.statics.items c.new.result u.terms (c.in_ok-code.ensures u.terms u.are) statics c.new.ensures) (is_image u.terms u.few)

pub returns-clause-image : goal.returns-clause-image
returns-clause-image c =
    let u = built_unit c.args.unit.now c.requires.whole c.requires.built c.requires.within in
    let statics : c.in_ok-statics.statics.items ≡ replicate statics_bytes 0 = c.in_ok-statics.ensures.items_if_clones_equal (λ y e. e) in
    let parts = parts_are c.in_ok-code.code.items c.in_ok-statics.statics.items c.new.result u.terms (c.in_ok-code.ensures u.terms u.are) statics c.new.ensures in
    record {
      image = image_of u.terms;
      spelled = subst (IsImageOf c.in_ok-bytes.bytes.items) (sym parts) c.in_ok-bytes.ensures.spelled;
      keeps = keeps_meaning c.args.unit.now u.terms u.are u.small (code_short u.terms u.few);
      tells = tells_room c.args.unit.now u.terms u.are u.small (code_short u.terms u.few);
    }
