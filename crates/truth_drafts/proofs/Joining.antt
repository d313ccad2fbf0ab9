-- Both answers are written.
use Rattle.std.proofs.Common.{◌≡◌, ℕ, length, pos, subst}
use Rattle.t_base.specs.declared.basics.Var.{Var}
use Rattle.word_ir.specs.declared.operands.Operand.TheVariants as operand
use Rattle.word_ir.specs.declared.words.Test.TheVariants as test
use Rattle.word_ir.specs.declared.words.WordOp.TheVariants as op
use Rattle.word_ir.specs.declared.words.Words.{Words}
use Rattle.word_trees.specs.Trees.{Tree, Do, Ask, Spells}
use Rattle.select_rows.specs.Macros.{Decision, word, meet, choose}
use Rattle.word_drafts.specs.declared.drafts.Draft.{Draft}
use Rattle.word_drafts.specs.Drafts.{Extends, SpellsNext, Writes, WritesBeside, unless_true}
use Rattle.truth_drafts.specs.Meetings.{Meets, WritesFork, true_arm}

pub meets : (a b c d : Draft) (to : Var) (place : ℕ) → Writes (Do (op.Store (operand.Static 1) (pos 0) (word 9))) a b → WritesBeside (unless_true test.Eq (word 0) (word 0)) place b c → c.number ≡ place → length c.ops.items ≡ 0 → Writes (Do (op.Load to (operand.Static 1) (pos 0))) c d → Meets to place a d
meets a b c d to place one two at none three =
    let met : (words : Words) (rest : Tree) → Extends words d → SpellsNext words d rest → Spells words place 0 (meet to rest) = λ words rest x s.
    subst (λ n. Spells words n 0 (meet to rest)) at (subst (λ n. Spells words c.number n (meet to rest)) none (three.spells words rest x s)) in
    record {
      proper = λ p. three.proper (two.proper (one.proper p));
      extends = λ words x. one.extends words (two.extends words (three.extends words x));
      met = met;
      arm = λ words rest x s.
          let at_c : Extends words c = three.extends words x in
          one.spells words (Ask test.Eq (word 0) (word 0) (meet to rest) (meet to rest)) (two.extends words at_c)
          (two.spells words (meet to rest) (meet to rest) at_c (met words rest x s) (three.spells words rest x s));
    }

pub chosen : (decide : Decision) (a b c d : Draft) (to : Var) (place : ℕ) → Writes (Do (op.Store (operand.Static 1) (pos 0) (word 5))) a b → WritesBeside (λ other one. decide one other) place b c → Meets to place c d → Writes (choose decide to) a d
chosen decide a b c d to place one two three = record {
  proper = λ p. three.proper (two.proper (one.proper p));
  extends = λ words x. one.extends words (two.extends words (three.extends words x));
  spells = λ words rest x s.
      let at_c : Extends words c = three.extends words x in
      one.spells words (decide (true_arm to rest) (meet to rest)) (two.extends words at_c)
      (two.spells words (meet to rest) (true_arm to rest) at_c (three.met words rest x s) (three.arm words rest x s));
}

-- two tests that name one block, with a line between them
pub both_beside : (f g : Tree → Tree → Tree) (middle : Tree → Tree) (place : ℕ) (b c d e : Draft) → WritesBeside f place b c → Writes middle c d → WritesBeside g place d e → WritesBeside (λ other rest. f other (middle (g other rest))) place b e
both_beside f g middle place b c d e k m n = record {
  proper = λ p. n.proper (m.proper (k.proper p));
  extends = λ words x. k.extends words (m.extends words (n.extends words x));
  spells = λ words tree rest x spelled s.
      let at_d : Extends words d = n.extends words x in
      k.spells words tree (middle (g tree rest)) (m.extends words at_d) spelled (m.spells words (g tree rest) at_d (n.spells words tree rest x spelled s));
}

-- ---- forks

pub fork_line : (f : Tree → Tree) (one other : ℕ) (a b : Draft) → Writes f a b → WritesFork (λ first second rest. f rest) one other a b
fork_line f one other a b h = record { proper = h.proper; extends = h.extends; spells = λ words first second rest x p q s. h.spells words rest x s }

pub fork_one : (f : Tree → Tree → Tree) (one other : ℕ) (a b : Draft) → WritesBeside f one a b → WritesFork (λ first second rest. f first rest) one other a b
fork_one f one other a b h = record { proper = h.proper; extends = h.extends; spells = λ words first second rest x p q s. h.spells words first rest x p s }

pub fork_other : (f : Tree → Tree → Tree) (one other : ℕ) (a b : Draft) → WritesBeside f other a b → WritesFork (λ first second rest. f second rest) one other a b
fork_other f one other a b h = record { proper = h.proper; extends = h.extends; spells = λ words first second rest x p q s. h.spells words second rest x q s }

pub fork_then : (f g : Tree → Tree → Tree → Tree) (one other : ℕ) (a b c : Draft) → WritesFork f one other a b → WritesFork g one other b c → WritesFork (λ first second rest. f first second (g first second rest)) one other a c
fork_then f g one other a b c h k = record {
  proper = λ p. k.proper (h.proper p);
  extends = λ words x. h.extends words (k.extends words x);
  spells = λ words first second rest x p q s. h.spells words first second (g first second rest) (k.extends words x) p q (k.spells words first second rest x p q s);
}

-- what is next is the first arm
pub fork_ends : (f : Tree → Tree → Tree → Tree) (one other : ℕ) (a b : Draft) → WritesFork f one other a b → b.number ≡ one → length b.ops.items ≡ 0 → WritesBeside (λ second first. f first second first) other a b
fork_ends f one other a b h at none = record {
  proper = h.proper;
  extends = h.extends;
  spells = λ words second first x q s.
      let p : Spells words one 0 first = subst (λ n. Spells words n 0 first) at (subst (λ n. Spells words b.number n first) none s) in
      h.spells words first second first x p q s;
}
