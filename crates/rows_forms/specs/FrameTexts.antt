-- Texts as code with frames; `(+ 40 2)` stands with the language.
use Rattle.std.specs.Prelude.{[], ◌∷◌, refl}
use Rattle.std.specs.Global.{Global}
use Rattle.t_base.specs.declared.builtins.Builtin.TheVariants.{Add}
use Rattle.frame_ir.specs.declared.forms.FrameOp.TheVariants as Op
use Rattle.frame_ir.specs.declared.forms.FrameEnd.TheVariants as Last
use Rattle.frame_ir.specs.declared.forms.Frames.{Frames}
use Rattle.frame_ir.specs.Writing.{var, fix, of, block, program}

-- (catch a (+ 1 (catch b (a 5)))): each CATCH has a frame for its continuation and one of its own, and the call has one
abbrev pub two_catches : Global → Frames
two_catches alloc = program alloc (
    block alloc [] (Op.Push [] 2 ∷ Op.CatchOpen (var 0) 2 ∷ Op.Push [] 4 ∷ Op.CatchOpen (var 1) 4 ∷ Op.Push [] 5 ∷ []) (Last.Call (of 0) (fix 5 ∷ [])) refl ∷
    block alloc (7 ∷ []) [] (Last.Halt (of 7)) refl ∷
    block alloc (6 ∷ []) (Op.Pop ∷ []) (Last.Jump 1 (of 6 ∷ [])) refl ∷
    block alloc (4 ∷ []) (Op.Prim (var 5) Add (fix 1 ∷ of 4 ∷ []) ∷ Op.CatchClose ∷ Op.Pop ∷ []) (Last.Jump 1 (of 5 ∷ [])) refl ∷
    block alloc (3 ∷ []) (Op.Pop ∷ []) (Last.Jump 3 (of 3 ∷ [])) refl ∷
    block alloc (2 ∷ []) (Op.Pop ∷ Op.CatchClose ∷ Op.Pop ∷ []) (Last.Jump 3 (of 2 ∷ [])) refl ∷
    []) 0 refl
