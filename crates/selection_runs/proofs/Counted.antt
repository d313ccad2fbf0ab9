-- A call is held in a state that differs in counts alone.
use Rattle.std.proofs.Common.{◌≡◌, ℕ, List, [], ◌∷◌, Some, is_some, refl, sym, ap, ◌∙◌}
use Rattle.t_prim.specs.Values.{Val, FixV, CharV, NilV, TrueV, SymbolV, StringV, PairV, VectorV, ClosureV, ObjectV, OperationV, BuiltinV, EscapeV}
use Rattle.word_ir.specs.Word.{Word, Number}
use Rattle.word_ir.specs.Storage.{Sizes}
use Rattle.word_ir.specs.Stamps.{Stamp, Stamped}
use Rattle.frame_ir.specs.Values.{Value, Lasting, InFrame, CellAt}
use Rattle.frame_ir.specs.States.{State, Doing}
use Rattle.word_trees.specs.Cores.{Core}
use Rattle.frame_words.specs.Layouts.{Layout}
use Rattle.frame_words.specs.ValueWords.{word_for, or_zero}
use Rattle.frame_words.specs.Contents.{Escapes}
use Rattle.frame_words.specs.Holding.{AreKnown}
use Rattle.frame_stacks.specs.Stacks.{Ways, StandsFor}
use Rattle.frame_calls.specs.Calls.{HoldsCall, Calls}
use Rattle.prim_holds.proofs.Keeping.{count_free}

module _ (sizes : Sizes) (l : Layout) (e : Escapes) (g : Ways) (s : State) (moves : ℕ) (doing : Doing) where
  abbrev after : State
  after = record s { moves = moves; doing = doing }

  word_same : (v : Val) → word_for l after v ≡ word_for l s v
  word_same (FixV x) = refl
  word_same (CharV c) = refl
  word_same NilV = refl
  word_same TrueV = refl
  word_same (SymbolV n) = refl
  word_same (StringV t) = refl
  word_same (PairV k) = refl
  word_same (VectorV k) = refl
  word_same (ClosureV i) = refl
  word_same (ObjectV i) = refl
  word_same (OperationV o) = refl
  word_same (BuiltinV p) = refl
  word_same (EscapeV b) = refl

  all_known : (vs : List Val) → AreKnown l s vs → AreKnown l after vs
  all_known [] h = tt
  all_known (v ∷ vs) h = (ap is_some (word_same v) ∙ h.0, all_known vs h.1)

  stands_after : (v : Value) (x : Word) (stamp : Stamp) → StandsFor sizes l g s v x stamp → StandsFor sizes l g after v x stamp
  stands_after (Lasting v) x stamp h = record { number = h.number; known = word_same v ∙ h.known; is = h.is }
  stands_after (CellAt k) x stamp h = record { number = h.number; known = h.known; is = h.is }
  stands_after (InFrame birth slot) x stamp h = record { number = h.number; is = h.is; tag = h.tag; pushed = h.pushed; address = h.address; stamped = h.stamped }

  pub call_counted : (t : ℕ) (f : Value) (args : List Val) (c : Core) → HoldsCall sizes l e g t s f args c → HoldsCall sizes l e g t after f args c
  call_counted t f args c h = record {
    holds = count_free sizes l e g t s [] c moves doing h.holds;
    count = h.count;
    few = h.few;
    word = h.word;
    stamp = h.stamp;
    held = h.held;
    stamped = h.stamped;
    stands = stands_after f h.word h.stamp h.stands;
    known = all_known args h.known;
    operands = λ i v at lt. h.operands i v at lt ∙ ap (λ o. Some (Number (or_zero o))) (sym (word_same v));
    others = λ i v at le. h.others i v at le ∙ ap (λ o. Some (Number (or_zero o))) (sym (word_same v));
  }

  pub calls_counted : (t : ℕ) (f : Value) (args : List Val) (target : ℕ) (x : Stamped) → Calls sizes l e g t s f args target x → Calls sizes l e g t after f args target x
  calls_counted t f args target x o = record { core = o.core; holds = call_counted t f args o.core o.holds; moves = o.moves; steps = o.steps; there = o.there }
