-- What is written behind each other.
use Rattle.std.proofs.Common.{◌≡◌, ℕ, ◌+◌, List, [], length, slice_get, pos, sym, ap, subst, arith}
use Rattle.t_base.specs.declared.basics.Var.{Var}
use Rattle.word_ir.specs.declared.operands.Operand.{Operand}
use Rattle.word_ir.specs.declared.operands.Operand.TheVariants as operand
use Rattle.word_ir.specs.declared.words.Test.{Test}
use Rattle.word_ir.specs.declared.words.Test.TheVariants as test
use Rattle.word_ir.specs.declared.words.WordOp.{WordOp}
use Rattle.word_ir.specs.declared.words.WordOp.TheVariants as op
use Rattle.word_ir.specs.declared.words.WordEnd.{WordEnd}
use Rattle.word_ir.specs.declared.words.WordEnd.TheVariants as last
use Rattle.word_ir.specs.declared.words.Words.{Words}
use Rattle.word_drafts.specs.declared.drafts.Draft.{Draft}
use Rattle.word_trees.specs.Trees.{Tree, Do, Ask, Close, Spells}
use Rattle.select_rows.specs.Macros.{word, by_test, meet, choose}
use Rattle.word_drafts.specs.Drafts.{IsProper, Extends, SpellsNext, Writes, Ends, WritesApart, WritesBeside, WritesTestApart, Adds, ends_here, Closes}
use Rattle.word_drafts.proofs.Writing.{proper_ended, extends_ended, end_there, spelled_whole, proper_added, extends_added, added_last}

pub then_writes : (f g : Tree → Tree) (a b c : Draft) → Writes f a b → Writes g b c → Writes (λ rest. f (g rest)) a c
then_writes f g a b c h k = record {
  proper = λ p. k.proper (h.proper p);
  extends = λ words x. h.extends words (k.extends words x);
  spells = λ words rest x s. h.spells words (g rest) (k.extends words x) (k.spells words rest x s);
}

-- a tree of its own, and a line that names it
pub beside_apart : (front : Tree → Tree → Tree) (tree : Tree) (place : ℕ) (a b c : Draft) → WritesApart tree place a b → WritesBeside front place b c → Writes (front tree) a c
beside_apart front tree place a b c h k = record {
  proper = λ p. k.proper h.proper;
  extends = λ words x. h.extends words (k.extends words x);
  spells = λ words rest x s. h.same words (front tree rest) (k.spells words tree rest x (h.spelled words (k.extends words x)) s);
}

-- two lines that name one tree, with others between them
pub twice_beside : (f g : Tree → Tree → Tree) (middle : Tree → Tree) (tree : Tree) (place : ℕ) (a b c d e : Draft) → WritesApart tree place a b → WritesBeside f place b c → Writes middle c d → WritesBeside g place d e
    → Writes (λ rest. f tree (middle (g tree rest))) a e
twice_beside f g middle tree place a b c d e h k m n = record {
  proper = λ p. n.proper (m.proper (k.proper h.proper));
  extends = λ words x. h.extends words (k.extends words (m.extends words (n.extends words x)));
  spells = λ words rest x s.
      let at_d : Extends words d = n.extends words x in
      let at_c : Extends words c = m.extends words at_d in
      let at_b : Extends words b = k.extends words at_c in
      let spelled : Spells words place 0 tree = h.spelled words at_b in
      h.same words (f tree (middle (g tree rest))) (k.spells words tree (middle (g tree rest)) at_c spelled (m.spells words (g tree rest) at_d (n.spells words tree rest x spelled s)));
}

-- ---- the answer of a test

abbrev passes : ℕ → Tree → Tree
passes n rest = Do (op.Store (operand.Static 1) (pos 0) (word n)) rest

pub truth_writes : (a b c d e f : Draft) (how : Test) (x y : Operand) (to : Var) (first second : ℕ) → IsProper a → Writes (passes 5) a b → Ends (last.Test how x y first second) b c → Writes (passes 9) c d → d.blocks ≡ c.blocks
    → Ends (last.Test test.Eq (word 0) (word 0) second second) d e → Writes (Do (op.Load to (operand.Static 1) (pos 0))) e f → first ≡ length b.blocks.items → second ≡ first + 1 → Writes (choose (by_test how x y) to) a f
truth_writes a b c d e f how x y to first second p one two three same four five at next =
    let pb : IsProper b = one.proper p in
    let pc : IsProper c = proper_ended b c (last.Test how x y first second) pb two in
    let pd : IsProper d = three.proper pc in
    let pe : IsProper e = proper_ended d e (last.Test test.Eq (word 0) (word 0) second second) pd four in
    let from_e : (words : Words) → Extends words e → Extends words d = extends_ended d e (last.Test test.Eq (word 0) (word 0) second second) pd four in
    let from_c : (words : Words) → Extends words c → Extends words b = extends_ended b c (last.Test how x y first second) pb two in
    let place : length d.blocks.items ≡ second = omega (arith, ap (λ bs. length bs.items) same, Rattle.word_drafts.proofs.Writing.longer b c (last.Test how x y first second) pb two, at, next) in
    record {
      proper = λ q. five.proper pe;
      extends = λ words z. one.extends words (from_c words (three.extends words (from_e words (five.extends words z))));
      spells = λ words rest z s.
          let at_e : Extends words e = five.extends words z in
          let at_d : Extends words d = from_e words at_e in
          let at_c : Extends words c = three.extends words at_d in
          let at_b : Extends words b = from_c words at_c in
          let met : Spells words second 0 (meet to rest) = subst (λ n. Spells words n 0 (meet to rest)) place (spelled_whole d e (last.Test test.Eq (word 0) (word 0) second second) pd four words (meet to rest) (five.spells words rest z s)) in
          let arm : SpellsNext words d (Ask test.Eq (word 0) (word 0) (meet to rest) (meet to rest)) = (second, second, end_there d e (last.Test test.Eq (word 0) (word 0) second second) pd four words at_e, met, met) in
          let true_arm : Spells words first 0 (passes 9 (Ask test.Eq (word 0) (word 0) (meet to rest) (meet to rest))) =
          subst (λ n. Spells words n 0 (passes 9 (Ask test.Eq (word 0) (word 0) (meet to rest) (meet to rest)))) (sym at)
          (spelled_whole b c (last.Test how x y first second) pb two words (passes 9 (Ask test.Eq (word 0) (word 0) (meet to rest) (meet to rest))) (three.spells words (Ask test.Eq (word 0) (word 0) (meet to rest) (meet to rest)) at_d arm)) in
          one.spells words (Ask how x y (passes 9 (Ask test.Eq (word 0) (word 0) (meet to rest) (meet to rest))) (meet to rest)) at_b
          (first, second, end_there b c (last.Test how x y first second) pb two words at_c, true_arm, met);
    }

-- ---- ends and tests of their own

pub stop_writes : (a b : Draft) → IsProper a → Ends last.Stop a b → Writes ends_here a b
stop_writes a b p h = record {
  proper = λ q. proper_ended a b last.Stop p h;
  extends = λ words x. extends_ended a b last.Stop p h words x;
  spells = λ words rest x s. end_there a b last.Stop p h words x;
}

pub test_apart_writes : (a b : Draft) (ops : List WordOp) (kind : Test) (x y : Operand) (one other place : ℕ) → IsProper a → ops ≡ [] → Adds ops (last.Test kind x y one other) place a b → WritesTestApart kind x y one other place a b
test_apart_writes a b ops kind x y one other place p none h = record {
  proper = proper_added a b ops (last.Test kind x y one other) place p h;
  extends = extends_added a b ops (last.Test kind x y one other) place p h;
  spelled = λ words first second z k m. (one, other, added_last a b ops (last.Test kind x y one other) place p h words 0 z (ap (λ os. slice_get os 0) none), k, m);
  same = λ words rest s. subst (λ n. Spells words n (length a.ops.items) rest) h.number (subst (λ n. Spells words b.number n rest) (ap length h.ops) s);
}

-- a test of its own, and the trees to which it leads
pub fork_apart : (kind : Test) (x y : Operand) (first second : Tree) (one other place : ℕ) (a b c d : Draft) → WritesApart first one a b → WritesApart second other b c → WritesTestApart kind x y one other place c d → WritesApart (Ask kind x y first second) place a d
fork_apart kind x y first second one other place a b c d h k m = record {
  proper = m.proper;
  extends = λ words z. h.extends words (k.extends words (m.extends words z));
  spelled = λ words z.
      let at_c : Extends words c = m.extends words z in
      m.spelled words first second z (h.spelled words (k.extends words at_c)) (k.spelled words at_c);
  same = λ words rest s. h.same words rest (k.same words rest (m.same words rest s));
}

pub close_closes : (a b : Draft) (end : WordEnd) → IsProper a → Ends end a b → Closes (Close end) a b
close_closes a b end p h = record {
  proper = λ q. proper_ended a b end p h;
  extends = λ words x. extends_ended a b end p h words x;
  spelled = λ words x. end_there a b end p h words x;
}

pub then_closes : (f : Tree → Tree) (tree : Tree) (a b c : Draft) → Writes f a b → Closes tree b c → Closes (f tree) a c
then_closes f tree a b c h k = record {
  proper = λ p. k.proper (h.proper p);
  extends = λ words x. h.extends words (k.extends words x);
  spelled = λ words x. h.spells words tree (k.extends words x) (k.spelled words x);
}
