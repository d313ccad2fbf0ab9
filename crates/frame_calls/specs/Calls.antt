-- What holds where a call is made: nothing is bound but count, procedure and the first operands, and further operands stand in static words.
use Rattle.std.specs.Prelude.{◌≡◌, ℕ, ◌+◌, ◌-◌, ◌<◌, ◌≤◌, List, [], length, slice_get, Some}
use Rattle.t_prim.specs.Values.{Val}
use Rattle.word_ir.specs.Word.{Word, Number}
use Rattle.word_ir.specs.Storage.{Sizes, static_at, long_at}
use Rattle.word_ir.specs.State.{Own, kept}
use Rattle.word_ir.specs.Stamps.{Stamp, Stamped}
use Rattle.frame_ir.specs.Values.{Value}
use Rattle.frame_ir.specs.States.{State}
use Rattle.word_trees.specs.Cores.{Core, at, some_stamp}
use Rattle.frame_words.specs.Layouts.{Layout, OPERANDS}
use Rattle.frame_words.specs.ValueWords.{val_word}
use Rattle.frame_words.specs.Contents.{Escapes}
use Rattle.frame_words.specs.Holding.{AreKnown}
use Rattle.frame_stacks.specs.Stacks.{Ways, StandsFor}
use Rattle.frame_stacks.specs.Frames.{Holds}

pub record HoldsCall (sizes : Sizes) (l : Layout) (e : Escapes) (g : Ways) (t : ℕ) (s : State) (f : Value) (args : List Val) (c : Core) : Type 0 where
  pub holds : Holds sizes l e g t s [] c
  pub count : kept c.env (Own t) ≡ Some (Number (length args))
  pub few : length args ≤ 20
  pub word : Word
  pub stamp : Stamp
  pub held : kept c.env (Own (t + 1)) ≡ Some word
  pub stamped : some_stamp (kept c.stamps (Own (t + 1))) ≡ stamp
  pub stands : StandsFor sizes l g s f word stamp
  pub known : AreKnown l s args
  pub operands : (i : ℕ) (v : Val) → slice_get args i ≡ Some v → i < 5 → kept c.env (Own (t + 2 + i)) ≡ Some (Number (val_word l s v))
  pub others : (i : ℕ) (v : Val) → slice_get args i ≡ Some v → 5 ≤ i → long_at c.storage (static_at (OPERANDS + (i - 5))) ≡ Some (Number (val_word l s v))

-- to the start of a block that makes the call
pub record Calls (sizes : Sizes) (l : Layout) (e : Escapes) (g : Ways) (t : ℕ) (s : State) (f : Value) (args : List Val) (target : ℕ) (x : Stamped) : Type 0 where
  pub core : Core
  pub holds : HoldsCall sizes l e g t s f args core
  pub moves : ℕ
  pub steps : ℕ
  pub there : x ≡ at core target 0 moves steps
