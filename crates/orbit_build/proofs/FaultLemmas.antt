-- The faults of the front end, as faults of a build.
use Rattle.std.proofs.Common.{◌≡◌, Bool, true, false, refl, sym, ap, ◌∙◌}
use Rattle.std.specs.Prelude.{Result, Err, not}
use Rattle.t_base.specs.declared.basics.Span.{Span}
use Rattle.t_core.specs.declared.limiting.LimitFault.{LimitFault}
use Rattle.t_rows.specs.declared.refusal.SyntaxKind.{SyntaxKind}
use Rattle.t_expand.specs.declared.fault.SyntaxFault.{SyntaxFault}
use Rattle.t_expand.specs.declared.fault.SyntaxFault.TheVariants as syntax_fault
use Rattle.orbit_build.specs.declared.fault.BuildFault.{BuildFault}
use Rattle.orbit_build.specs.declared.fault.BuildFault.TheVariants as build_fault
use Rattle.orbit_build.specs.Faults.{of_syntax}

same_err : {A : Type 0} (e f : BuildFault) → ◌≡◌ {A = Result A BuildFault} (Err e) (Err f) → e ≡ f
same_err e f q = cc

same_kind : (k l : SyntaxKind) (s r : Span) → build_fault.Syntax k s ≡ build_fault.Syntax l r → k ≡ l
same_kind k l s r e = cc

same_span : (k l : SyntaxKind) (s r : Span) → build_fault.Syntax k s ≡ build_fault.Syntax l r → s ≡ r
same_span k l s r e = cc

no_memory : (k : SyntaxKind) (s : Span) → build_fault.Memory ≡ build_fault.Syntax k s → ⊥
no_memory k s e = cc

syntax_of : (f : SyntaxFault) (kind : SyntaxKind) (span : Span) → of_syntax f ≡ build_fault.Syntax kind span → f ≡ syntax_fault.Fault kind span
syntax_of (syntax_fault.Fault k s) kind span e = ap (λ (x : SyntaxKind). syntax_fault.Fault x s) (same_kind k kind s span e) ∙ ap (λ (x : Span). syntax_fault.Fault kind x) (same_span k kind s span e)
syntax_of syntax_fault.Memory kind span e = absurd (no_memory kind span e)

pub refused_as : {A : Type 0} (r : Result A BuildFault) (b : BuildFault) (f : SyntaxFault) (kind : SyntaxKind) (span : Span) → r ≡ Err b → b ≡ of_syntax f → r ≡ Err (build_fault.Syntax kind span) → f ≡ syntax_fault.Fault kind span
refused_as r b f kind span is from e = syntax_of f kind span (sym from ∙ same_err b (build_fault.Syntax kind span) (sym is ∙ e))

same_limit : (f g : LimitFault) → build_fault.Limit f ≡ build_fault.Limit g → f ≡ g
same_limit f g e = cc

pub over_as : {A : Type 0} (r : Result A BuildFault) (b : BuildFault) (f fault : LimitFault) → r ≡ Err b → b ≡ build_fault.Limit f → r ≡ Err (build_fault.Limit fault) → f ≡ fault
over_as r b f fault is from e = same_limit f fault (sym from ∙ same_err b (build_fault.Limit fault) (sym is ∙ e))

pub not_true : (b : Bool) → not b ≡ true → b ≡ false
not_true true e = sym e
not_true false e = refl
