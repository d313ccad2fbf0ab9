use Rattle.std.proofs.Common.{◌≡◌, ◌+◌, ◌-◌, ◌<◌, ◌∷◌, arith, length, drop, refl, sym, ap, ◌∙◌}
use Rattle.t_reader.specs.Grammar.{nil}
use Rattle.t_forms.specs.Data.{given, a_nil}
use Rattle.t_forms.specs.Held.{Held}
use Rattle.choice_rows.specs.Cases.{no_more}
use Rattle.t_rows.specs.Rows.{case_clauses}
use Rattle.t_rows.proofs.ZipLemmas.{zip_drop, zip_end}
use Rattle.t_rows.proofs.Growth.{extends_trans, held_grows}
use Rattle.choice_rows.proofs.CaseLemmas.{held_none, held_some, none_from}
use Rattle.choice_rows.proofs.case.case_clauses.Goals as goal

pub clauses-init : goal.clauses-init
clauses-init c = record {
  within = omega arith;
  grown = c.in_ok-others.ensures.grown;
  others = λ names cs h.
      rw (zip_end (Held names c.args.forms.now) c.args.clauses.now cs h) (a_nil c.args.span, refl, c.in_ok-others.ensures.made names (given nil) refl, refl);
}

pub clauses-preserved : goal.clauses-preserved
clauses-preserved c =
    let below : c.clauses.at - 1 < length c.args.clauses.now = omega arith in
    let at : c.clauses.at ≡ c.clauses.at - 1 + 1 = omega arith in
    record {
      within = omega arith;
      grown = extends_trans c.clauses.invariant.grown c.in_ok-found.ensures.grown;
      others = λ names cs h.
          let d = zip_drop (Held names c.args.forms.now) c.args.clauses.now cs (c.clauses.at - 1) c.clauses.at 0 below at h in
          let o = c.clauses.invariant.others names cs h in
          let k =
          c.in_ok-found.ensures.made names d.0 (drop c.clauses.at cs) o.0 (held_grows c.clauses.invariant.grown names _ d.0 d.2) o.3 o.1 o.2 in
          let s = held_some names c.clause_before.new.forms c.in-Some.form (case_clauses c.args.span (d.0 ∷ drop c.clauses.at cs)) (rw c.in-Some.is at k) in
          (s.0, ap (case_clauses c.args.span) d.1 ∙ s.1, s.2, sym (ap no_more d.1));
    }

pub returns-in-None-clause-made : goal.returns-in-None-clause-made
returns-in-None-clause-made c names cs h =
    let below : c.clauses.at - 1 < length c.args.clauses.now = omega arith in
    let at : c.clauses.at ≡ c.clauses.at - 1 + 1 = omega arith in
    let d = zip_drop (Held names c.args.forms.now) c.args.clauses.now cs (c.clauses.at - 1) c.clauses.at 0 below at h in
    let o = c.clauses.invariant.others names cs h in
    let k = c.in_ok-found.ensures.made names d.0 (drop c.clauses.at cs) o.0 (held_grows c.clauses.invariant.grown names _ d.0 d.2) o.3 o.1 o.2 in
    let none = held_none names c.clause_before.new.forms (case_clauses c.args.span (d.0 ∷ drop c.clauses.at cs)) (rw c.in-None.is at k) in
    rw (none_from c.args.span (c.clauses.at - 1) cs (ap (case_clauses c.args.span) d.1 ∙ none)) refl

pub returns-clause-made : goal.returns-clause-made
returns-clause-made c names cs h =
    let zero_ : c.clauses.at ≡ 0 = omega arith in
    let r = rw zero_ at (c.clauses.invariant.others names cs h) in
    rw r.1 (_, refl, r.2)
