-- The forms from a place on, and the one before them.
use Rattle.std.proofs.Common.{◌≡◌, ℕ, zero, suc, ◌+◌, ◌<◌, ◌≤◌, Bool, List, [], ◌∷◌, Some, slice_get, length, drop, get_or, refl, sym, ap, ◌∙◌, subst, arith}
use Rattle.std.proofs.lemmas.List.{drop_more}
use Rattle.std.proofs.lemmas.Option.{slice_get-get_or}
use Rattle.t_core.specs.declared.forms.FormKind.{FormKind}
use Rattle.t_core.specs.declared.forms.FormKind.TheVariants.{Define, Lset, Operation, Plain}
use Rattle.t_core.specs.declared.forms.Form.{Form}
use Rattle.t_core.specs.declared.forms.UnitCore.{UnitCore}
use Rattle.cps_ir.specs.declared.args.Arg.{Arg}
use Rattle.cps_ir.specs.declared.terms.Term.TheVariants as Step
use Rattle.cps_conversion.specs.Conversion.{ConvertsWithin, FormsAs}
use Rattle.cps_convert.specs.declared.conversion.Conversion.{Conversion}
use Rattle.cps_convert.specs.Growing.{AddsTerm}
use Rattle.cps_convert.specs.Claims.{translation}
use Rattle.cps_convert.specs.Forms.{IsGiven, Gives, IsBefore, GivesBefore, FormConverted, FormsConverted}
use Rattle.cps_convert.proofs.Listing.{grows_more}

given_within : (unit : UnitCore) (low lower high higher : ℕ) → lower ≤ low → high ≤ higher → (kind : FormKind) (a : Arg) → IsGiven unit low high kind a → IsGiven unit lower higher kind a
given_within unit low lower high higher down up (Define g) a h = h
given_within unit low lower high higher down up (Lset g) a h = h
given_within unit low lower high higher down up (Operation o) a h = h
given_within unit low lower high higher down up Plain a h = (h.0, h.1, omega (arith, down, h.2), omega (arith, up, h.3))

before_within : (unit : UnitCore) (low lower high higher : ℕ) → lower ≤ low → high ≤ higher → (at : ℕ) (a : Arg) → IsBefore unit low high at a → IsBefore unit lower higher at a
before_within unit low lower high higher down up zero a h = h
before_within unit low lower high higher down up (suc at) a h = (h.0, h.1, given_within unit low lower high higher down up h.0.kind a h.2)

pub gives_before : (unit : UnitCore) (a b : Conversion) (at before : ℕ) (f : Form) (arg : Arg) → at ≡ suc before → slice_get unit.forms.items before ≡ Some f → Gives unit a b f.kind arg → GivesBefore unit a b at arg
gives_before unit a b at before f arg e there h = subst (λ n. GivesBefore unit a b n arg) (sym e) (record { grows = h.grows; before = (f, there, h.given) })

drop_whole : {X : Type 0} (xs : List X) (n : ℕ) → n ≡ length xs → drop n xs ≡ []
drop_whole [] zero e = refl
drop_whole [] (suc n) e = refl
drop_whole (x ∷ xs) zero e = absurd (omega (arith, e))
drop_whole (x ∷ xs) (suc n) e = drop_whole xs n (omega (arith, e))

pub forms_start : (unit : UnitCore) (marks : List Bool) (a b c : Conversion) (at : ℕ) (value : Arg) (t : ℕ) → at ≡ length unit.forms.items → GivesBefore unit a b at value → AddsTerm b c (Step.Halt value) t → FormsConverted unit marks a c at value t
forms_start unit marks a b c at value t whole h made = record {
  grows = grows_more a b c h.grows made.grows;
  before = before_within unit a.next a.next b.next c.next (omega arith) made.grows.next at value h.before;
  holds = λ cps origins inc base setting first shared.
      let x = translation unit cps origins in
      subst (λ fs. FormsAs x (ConvertsWithin x unit.shared.size) at fs value t) (sym (drop_whole unit.forms.items at whole)) (made.stands x inc);
}

same_form : {f g : Form} → Some f ≡ Some g → f ≡ g
same_form e = cc

pub forms_step : (unit : UnitCore) (marks : List Bool) (a b c d : Conversion) (from at : ℕ) (e : Form) (value next : Arg) (rest t : ℕ) → from ≡ suc at → from ≤ length unit.forms.items → FormsConverted unit marks a b from value rest
    → FormConverted unit marks b c at (get_or unit.forms.items at e) value rest t → GivesBefore unit c d at next → FormsConverted unit marks a d at next t
forms_step unit marks a b c d from at e value next rest t start within so_far f g =
    let h = subst (λ n. FormsConverted unit marks a b n value rest) start so_far in
    let forms = unit.forms.items in
    let form = get_or forms at e in
    let below : at < length forms = omega (arith, within, start) in
    let there : slice_get forms at ≡ Some form = slice_get-get_or forms at e below in
    let up : at + 1 ≡ suc at = omega arith in
    let is : drop at forms ≡ form ∷ drop (suc at) forms = drop_more forms at e below ∙ ap (λ n. form ∷ drop n forms) up in
    record {
      grows = grows_more a b d h.grows (grows_more b c d f.grows g.grows);
      before = before_within unit c.next a.next d.next d.next (let l = h.grows.next in let m = f.grows.next in omega (arith, l, m)) (omega arith) at next g.before;
      holds = λ cps origins inc base setting first shared.
          let x = translation unit cps origins in
          let at_c = g.grows.includes x inc in
          let at_b = f.grows.includes x at_c in
          let same : h.before.0 ≡ form = same_form (sym h.before.1 ∙ there) in
          let given = subst (λ k. IsGiven unit base b.next k value) (ap (λ y. y.kind) same) (given_within unit a.next base b.next b.next first (omega arith) h.before.0.kind value h.before.2) in
          subst (λ fs. FormsAs x (ConvertsWithin x unit.shared.size) at fs next t) (sym is) (
            rest,
            value,
            f.holds cps origins at_c base setting (let l = h.grows.next in omega (arith, first, l)) shared there given,
            h.holds cps origins at_b base setting first shared,
          );
    }
