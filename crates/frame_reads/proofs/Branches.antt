-- A value is tested.
use Rattle.std.proofs.Common.{◌≡◌, ℕ, ◌%◌, ◌==◌, Bool, true, false, if◌then◌else◌, Some, refl, ap, ◌∙◌, arith}
use Rattle.std.proofs.lemmas.Bool.{ne_eqb}
use Rattle.t_prim.specs.Values.{Val}
use Rattle.t_prim.specs.Kinds.{is_nil}
use Rattle.word_ir.specs.declared.operands.Operand.{Operand}
use Rattle.word_ir.specs.declared.words.Words.{Words}
use Rattle.word_ir.specs.Word.{Number}
use Rattle.word_ir.specs.Storage.{Sizes}
use Rattle.frame_ir.specs.Values.{Lasting, InFrame, Env}
use Rattle.frame_ir.specs.States.{State}
use Rattle.word_trees.specs.Trees.{Tree}
use Rattle.word_trees.specs.Cores.{Core}
use Rattle.word_trees.specs.Leads.{Performs}
use Rattle.word_trees.proofs.Performing.{arrives, ask_performs_true, ask_performs_false}
use Rattle.frame_words.specs.Layouts.{Layout}
use Rattle.frame_words.specs.ValueWords.{NIL}
use Rattle.frame_words.specs.Contents.{Escapes}
use Rattle.select_rows.proofs.KindRows.{nil_word}
use Rattle.frame_stacks.specs.Stacks.{Ways, IsLasting, IsInFrame}
use Rattle.frame_stacks.specs.Frames.{Holds}
use Rattle.frame_stacks.specs.Laws.{GoesOn, HasValue}
use Rattle.frame_reads.specs.Codes.{branch}

module _ (words : Words) (sizes : Sizes) (l : Layout) (e : Escapes) (g : Ways) (t : ℕ) (s : State) (env : Env) (c : Core) (h : Holds sizes l e g t s env c) where
  there : (rest : Tree) → Performs words sizes (GoesOn words sizes l e g t s env rest) 0 0 rest c
  there rest = arrives words sizes (GoesOn words sizes l e g t s env rest) (λ block place moves steps spelled. record { core = c; holds = h; block = block; place = place; moves = moves; steps = steps; there = refl; spelled = spelled })

  branch_by : (b : Bool) (x : Operand) (n : ℕ) (first second : Tree) → Rattle.word_trees.specs.Cores.word_in c x ≡ Some (Number n) → (n == NIL) ≡ b → Performs words sizes (GoesOn words sizes l e g t s env (if b then second else first)) 1 3 (branch x first second) c
  branch_by true x n first second held q = ask_performs_true words sizes (GoesOn words sizes l e g t s env second) (Number n) (Number NIL) held refl (ap Some q) (there second)
  branch_by false x n first second held q = ask_performs_false words sizes (GoesOn words sizes l e g t s env first) (Number n) (Number NIL) held refl (ap Some q) (there first)

pub branch_performs : (words : Words) (sizes : Sizes) (l : Layout) (e : Escapes) (g : Ways) (t : ℕ) (s : State) (env : Env) (c : Core) (x : Operand) (v : Val) (first second : Tree) → Holds sizes l e g t s env c → HasValue words sizes l g t s c x (Lasting v) → Performs words sizes (GoesOn words sizes l e g t s env (if is_nil v then second else first)) 1 3 (branch x first second) c
branch_performs words sizes l e g t s env c x v first second h hx =
    let w : IsLasting l s (Lasting v) hx.word = hx.stands in
    branch_by words sizes l e g t s env c h (is_nil v) x w.number first second (hx.held ∙ ap Some w.is) (nil_word l s v w.number w.known)

pub frame_branch_performs : (words : Words) (sizes : Sizes) (l : Layout) (e : Escapes) (g : Ways) (t : ℕ) (s : State) (env : Env) (c : Core) (x : Operand) (birth slot : ℕ) (first second : Tree) → Holds sizes l e g t s env c → HasValue words sizes l g t s c x (InFrame birth slot) → Performs words sizes (GoesOn words sizes l e g t s env first) 1 3 (branch x first second) c
frame_branch_performs words sizes l e g t s env c x birth slot first second h hx =
    let w : IsInFrame sizes g s birth slot hx.word hx.stamp = hx.stands in
    branch_by words sizes l e g t s env c h false x w.number first second (hx.held ∙ ap Some w.is) (ne_eqb w.number NIL (λ eq. let tag : w.number % 4 ≡ 2 = w.tag in absurd (omega (arith, eq, tag))))
