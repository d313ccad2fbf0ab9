-- A form at top level and what it becomes.
use Rattle.std.proofs.Common.{◌≡◌, List, length, sym, subst}
use Rattle.t_base.specs.declared.shared_parts.Shared.{Shared}
use Rattle.t_core.specs.declared.forms.FormKind.{FormKind}
use Rattle.t_forms.specs.Names.{Bound}
use Rattle.form_rows.specs.declared.definitions.Definition.{Definition as CodeDefinition}
use Rattle.form_rows.specs.Definitions.{IsDefinition}
use Rattle.t_rows.specs.Rows.{Definition}
use Rattle.t_expand.specs.Growth.{Keeps}
use Rattle.expansion.specs.Meaning.{TopMeans, FormMeans}
use Rattle.t_expand.specs.Rooted.{nodes_of}
use Rattle.unit_tops.specs.Tops.{IsTop}
use Rattle.expansion.specs.Units.{Top}
use Rattle.t_expand.specs.declared.driver_state.Expansion.{Expansion}
use Rattle.unit_tops.specs.declared.tops.Top.{Top as CodeTop}
use Rattle.t_expand.specs.declared.unit_top.Expanded.{Expanded}
use Rattle.t_expand.specs.declared.unit_top.Rooted.{Rooted}
use Rattle.unit_tops.proofs.TopLemmas.{definition_grows, top_grows}

-- ---- at a later moment

pub definition_kept : (a b : Expansion) (c : CodeDefinition) (d : Definition) → Keeps a b → IsDefinition a.shared.names a.forms c d
    → IsDefinition b.shared.names b.forms c d
definition_kept a b c d k is = subst (λ names. IsDefinition names b.forms c d) (sym k.shared.names) (definition_grows a.shared.names a.forms b.forms k.forms c d is)

pub top_kept : (a b : Expansion) (c : CodeTop) (t : Top) → Keeps a b → IsTop a.shared.names a.forms c t → IsTop b.shared.names b.forms c t
top_kept a b c t k is = subst (λ names. IsTop names b.forms c t) (sym k.shared.names) (top_grows a.shared.names a.forms b.forms k.forms c t is)

-- ---- the form of the core

pub finished_means : (defined : List Bound) (later : Shared) (x : Expanded) (k : FormKind) (rooted : Rooted) (t : Top) → x.form.kind ≡ k → x.form.root ≡ rooted.root
    → x.form.nodes.items ≡ rooted.nodes.items → x.spans ≡ rooted.spans.items → length rooted.spans.items ≡ length rooted.nodes.items
    → TopMeans defined later (nodes_of rooted) k rooted.root t → FormMeans defined later x.form x.spans t
finished_means defined later x k rooted t ek er en es lengths means = (rw (en, es) lengths, rw (ek, er, en, es) means)
