-- What an expansion keeps.
use Rattle.std.proofs.Common.{◌≡◌, ◌≢◌, List, [], ◌++◌, map, AllPairs, refl, sym, ap, subst, ◌∙◌, append_assoc}
use Rattle.std.proofs.lemmas.List.{append-nil}
use Rattle.t_base.specs.declared.shared_parts.Shared.{Shared}
use Rattle.t_forms.specs.Names.{Bound}
use Rattle.t_forms.specs.Held.{IsScope, vars_of}
use Rattle.t_forms.proofs.Keeping.{extends_same, extends_trans}
use Rattle.t_expand.specs.Expanding.{Grows}
use Rattle.t_expand.specs.Growth.{IsGrown, Keeps, IsReady}
use Rattle.expansion.specs.Meaning.{top_scope}
use Rattle.t_expand.specs.declared.driver_state.Expansion.{Expansion}

pub grown_same : (s : Shared) → IsGrown s s
grown_same s = record { names = refl; strings = ([], sym (append-nil s.strings.items)); pairs = ([], sym (append-nil s.pairs.items)) }

pub grown_trans : (a b c : Shared) → IsGrown a b → IsGrown b c → IsGrown a c
grown_trans a b c p q = record {
  names = q.names ∙ p.names;
  strings = (p.strings.0 ++ q.strings.0, q.strings.1 ∙ ap (λ xs. xs ++ q.strings.0) p.strings.1 ∙ append_assoc a.strings.items p.strings.0 q.strings.0);
  pairs = (p.pairs.0 ++ q.pairs.0, q.pairs.1 ∙ ap (λ xs. xs ++ q.pairs.0) p.pairs.1 ∙ append_assoc a.pairs.items p.pairs.0 q.pairs.0);
}

pub keeps_same : (e : Expansion) → Keeps e e
keeps_same e = record { forms = extends_same; scope = refl; shared = grown_same e.shared; globals = refl; ops = refl }

pub keeps_trans : (a b c : Expansion) → Keeps a b → Keeps b c → Keeps a c
keeps_trans a b c p q = record {
  forms = extends_trans p.forms q.forms;
  scope = q.scope ∙ p.scope;
  shared = grown_trans a.shared b.shared c.shared p.shared q.shared;
  globals = q.globals ∙ p.globals;
  ops = q.ops ∙ p.ops;
}

pub ready_kept : (a b : Expansion) (defined : List Bound) → Keeps a b → IsReady a defined → IsReady b defined
ready_kept a b defined k r = record {
  distinct = subst (λ names. AllPairs (λ x y. x ≢ y) names) (sym k.shared.names) r.distinct;
  scope = subst (λ s. IsScope b.shared.names s (top_scope defined)) (sym k.scope) (subst (λ names. IsScope names a.scope (top_scope defined)) (sym k.shared.names) r.scope);
  outside = ap (λ s. s.locals) k.scope ∙ r.outside;
}

-- what the expansion of a form adds
pub keeps_grows : (a b : Expansion) → Grows a b → b.scope ≡ a.scope → Keeps a b
keeps_grows a b g scope = record {
  forms = g.cells;
  scope = scope;
  shared = record { names = g.shared.names; strings = (g.shared.strings.more, g.shared.strings.is); pairs = (g.shared.pairs.more, g.shared.pairs.is) };
  globals = ap (λ v. map (λ x. x.name) v.items) g.shared.globals;
  ops = ap (λ v. v.items) g.shared.ops;
}

pub no_vars : (e : Expansion) (defined : List Bound) → IsReady e defined → vars_of e.scope ≡ []
no_vars e defined r = ap (λ l. map (λ x. x.var) l) r.outside
