-- A small program and its frames.
use Rattle.std.specs.Prelude.{[], ◌∷◌, refl}
use Rattle.std.specs.Global.{Global}
use Rattle.t_base.specs.declared.builtins.Builtin.TheVariants.{Add}
use Rattle.cps_ir.specs.Writing.{vec_of, var}
use Rattle.cps_ir.specs.Examples.{catch_over_two}
use Rattle.cps_ir.specs.declared.args.Arg.TheVariants as Argument
use Rattle.frame_ir.specs.declared.forms.FrameOp.TheVariants as Op
use Rattle.frame_ir.specs.declared.forms.FrameEnd.TheVariants as Last
use Rattle.frame_ir.specs.declared.forms.Frames.{Frames}
use Rattle.frame_ir.specs.Writing.{fix, of, block}
use Rattle.layout_relation.specs.Laid.{IsLaidOut}

-- (define (f e) (+ 1 (e 5)))
-- (catch a (+ 2 (f a)))
abbrev pub catch_frames : Global → Frames
catch_frames alloc = record {
  shared = (catch_over_two alloc).shared;
  blocks = vec_of alloc (
      -- the code of f, its body, and what is behind the call of e
      block alloc (0 ∷ 1 ∷ []) [] (Last.Jump 1 (of 1 ∷ [])) refl ∷
      block alloc (2 ∷ []) (Op.Push [] 2 ∷ []) (Last.Call (of 2) (fix 5 ∷ [])) refl ∷
      block alloc (3 ∷ []) (Op.Pop ∷ Op.Prim (var 4) Add (fix 1 ∷ of 3 ∷ []) ∷ []) (Last.Return (of 4)) refl ∷
      -- the start, what is behind the CATCH where a is called, what is behind the call of f, and what is behind the CATCH where it ends
      block alloc [] (Op.Push [] 4 ∷ Op.CatchOpen (var 5) 4 ∷ Op.Push [] 5 ∷ []) (Last.Call (Argument.Global 0) (of 5 ∷ [])) refl ∷
      block alloc (6 ∷ []) (Op.Pop ∷ []) (Last.Halt (of 6)) refl ∷
      block alloc (7 ∷ []) (Op.Pop ∷ Op.Prim (var 8) Add (fix 2 ∷ of 7 ∷ []) ∷ Op.CatchClose ∷ Op.Pop ∷ []) (Last.Jump 6 (of 8 ∷ [])) refl ∷
      block alloc (9 ∷ []) [] (Last.Halt (of 9)) refl ∷ []) refl;
  entry = 3;
  templates = vec_of alloc [] refl;
}

abbrev pub CatchIsLaidOut : Type 0
CatchIsLaidOut = (alloc : Global) → IsLaidOut (catch_over_two alloc) (catch_frames alloc)
