use Rattle.std.proofs.Common.{◌≡◌, [], ◌∷◌, subst}
use Rattle.t_forms.specs.Data.{Datum}
use Rattle.t_forms.specs.Held.{Held}
use Rattle.t_rows.proofs.words.body.Goals as goal

pub returns-in-None-split-clause-made : goal.returns-in-None-split-clause-made
returns-in-None-split-clause-made c names b bs h =
    let f = c.in-Some.ensures names (b ∷ bs) h in
    let n = c.in-None-split.ensures names f.1 f.4 in
    let same : f.0 ≡ b = cc in
    let last : bs ≡ [] = cc in
    rw last (subst (λ (d : Datum). Held names c.args.forms.now c.in-Some.first d) same f.3)

pub returns-in_ok-block-in-Some-split-clause-made : goal.returns-in_ok-block-in-Some-split-clause-made
returns-in_ok-block-in-Some-split-clause-made c names b bs h =
    let f = c.in-Some.ensures names (b ∷ bs) h in
    let n = c.in-Some-split.ensures names f.1 f.4 in
    let more : bs ≡ n.0 ∷ n.1 = cc in
    rw more (c.in_ok-block-in-Some-split.ensures.made names [] ((b ∷ n.0 ∷ n.1) ∷ []) tt (rw more at h, tt))
