-- The frames of a small program with a CATCH lay it out.
use Rattle.std.proofs.Common.{◌≡◌, ℕ, zero, suc, ◌<◌, false, List, [], ◌∷◌, Some, None, slice_get, refl, subst, arith}
use Rattle.std.specs.Prelude.{IsSomeAnd}
use Rattle.std.specs.Global.{Global}
use Rattle.t_base.specs.declared.builtins.Builtin.TheVariants.{Add}
use Rattle.t_base.specs.declared.shared_parts.Const.TheVariants as Constant
use Rattle.std.proofs.Common.{pos}
use Rattle.cps_ir.specs.declared.args.Arg.TheVariants as Given
use Rattle.cps_ir.specs.declared.terms.Cps.{Cps}
use Rattle.cps_ir.specs.Parts.{is_assigned, walked_within}
use Rattle.cps_ir.specs.Writing.{var, fix as given_fix, local, to, into, lam}
use Rattle.cps_ir.specs.Examples.{catch_over_two}
use Rattle.frame_ir.specs.declared.forms.FrameOp.TheVariants as Op
use Rattle.frame_ir.specs.declared.forms.FrameEnd.TheVariants as Last
use Rattle.frame_ir.specs.declared.forms.Frames.{Frames}
use Rattle.frame_ir.specs.Writing.{fix, of, block}
use Rattle.layout_relation.specs.Links.{first, zip_none, zip_one}
use Rattle.layout_relation.specs.Contexts.{Meeting, Exits, NoExit, OwnExit, JoinExit, Context, Framed, Start, Return, Purpose, CodeOf, Begins, Resumes}
use Rattle.layout_relation.specs.Laid.{Sketch, IsFor, fetches_none, same_const, same_var, same_global, prepares_none, prepares_same, awaits_lam, awaits_join, gives_out, gives_join, gives_here, goes_here, Lays, lays, lays_call, lays_prim, lays_join, lays_catch, lays_uncatch, lays_halt, BlockFits}
use Rattle.layout_relation.specs.Examples.{catch_frames, CatchIsLaidOut}

-- the k of the Join behind the CATCH
abbrev meeting : Meeting
meeting = record { k = 3; param = 4; body = 2; block = 6; needs = [] }

abbrev joined : Exits
joined = JoinExit meeting NoExit

abbrev body_of_f : Start
body_of_f = record { vars = 0 ∷ []; exits = OwnExit 1; catches = []; term = 1 }

abbrev behind_e : Return
behind_e = record { kept = []; param = 2; body = 0; exits = OwnExit 1; catches = [] }

abbrev at_start : Start
at_start = record { vars = []; exits = NoExit; catches = []; term = 7 }

abbrev behind_catch : Return
behind_catch = record { kept = []; param = 4; body = 2; exits = NoExit; catches = [] }

abbrev behind_f : Return
behind_f = record { kept = []; param = 6; body = 4; exits = joined; catches = Framed ∷ [] }

abbrev at_meeting : Start
at_meeting = record { vars = 4 ∷ []; exits = NoExit; catches = []; term = 2 }

abbrev sketch : Sketch
sketch = record {
  purposes = CodeOf 0 ∷ Begins body_of_f ∷ Resumes behind_e ∷ Begins at_start ∷ Resumes behind_catch ∷ Resumes behind_f ∷ Begins at_meeting ∷ [];
  needs = λ l. [];
  celled = λ x. false;
  rank = λ t. t;
  templates = [];
}

module _ (alloc : Global) where
  abbrev cps : Cps
  cps = catch_over_two alloc

  abbrev p : Frames
  p = catch_frames alloc

  abbrev context : List (ℕ × ℕ) → Exits → Context
  context vars exits = record { vars = vars; exits = exits; catches = [] }

  abbrev within : List (ℕ × ℕ) → Context
  within vars = record { vars = vars; exits = joined; catches = Framed ∷ [] }

  -- the end, with the value in a variable
  ends : (y : ℕ) → Lays cps sketch (context ((4, y) ∷ []) NoExit) 2 [] (Last.Halt (of y))
  ends y = lays _ 2 _ _ _ refl (lays_halt (context ((4, y) ∷ []) NoExit) 2 (local 4) [] (of y) (prepares_same (local 4) (of y) [] [] [] (same_var (var 4) (var y) (first (4, y) []) refl) prepares_none))

  code_of_f : BlockFits cps sketch (CodeOf 0) (block alloc (0 ∷ 1 ∷ []) [] (Last.Jump 1 (of 1 ∷ [])) refl)
  code_of_f = record {
    lam = lam (0 ∷ []) 1 1;
    is = refl;
    self = var 0;
    params = var 1 ∷ [];
    vars = (0, 1) ∷ [];
    ys = var 1 ∷ [];
    body = 1;
    takes = refl;
    distinct = (refl, (refl, tt));
    count = refl;
    few = omega arith;
    fetches = fetches_none ((0, 1) ∷ []);
    short = omega arith;
    goes = refl;
    begins = refl;
    held = zip_one 0 (var 1) [] [] (first (0, 1) []) zip_none;
    once = (refl, tt);
    apart = ((refl, refl), tt);
  }

  calls_e : BlockFits cps sketch (Begins body_of_f) (block alloc (2 ∷ []) (Op.Push [] 2 ∷ []) (Last.Call (of 2) (fix 5 ∷ [])) refl)
  calls_e = record {
    count = refl;
    distinct = (refl, tt);
    lays = lays _ 1 _ _ _ refl (lays_call (context ((0, 2) ∷ []) (OwnExit 1)) 1 (local 0) (given_fix 5 ∷ []) (into 2 0) [] (of 2) (fix 5 ∷ []) behind_e [] 2
        (prepares_same (local 0) (of 2) _ [] _ (same_var (var 0) (var 2) (first (0, 2) []) refl) (prepares_same (given_fix 5) (fix 5) [] [] [] (same_const (Constant.Fix (pos 5))) prepares_none))
        (awaits_lam (var 2) 0 []) refl zip_none tt);
  }

  adds_one : BlockFits cps sketch (Resumes behind_e) (block alloc (3 ∷ []) (Op.Pop ∷ Op.Prim (var 4) Add (fix 1 ∷ of 3 ∷ []) ∷ []) (Last.Return (of 4)) refl)
  adds_one = record {
    value = var 3;
    vars = (2, 3) ∷ [];
    gets = [];
    rest = Op.Prim (var 4) Add (fix 1 ∷ of 3 ∷ []) ∷ [];
    takes = refl;
    ops = refl;
    new = record { plain = refl; apart = refl; unneeded = tt };
    small = omega arith;
    fetches = fetches_none ((2, 3) ∷ []);
    few = omega arith;
    goes = goes_here _ 0 _ _ (lays _ 0 _ _ _ refl (lays_prim (context ((2, 3) ∷ []) (OwnExit 1)) 0 Add (given_fix 1 ∷ local 2 ∷ []) (to 1) [] (fix 1 ∷ of 3 ∷ []) (var 4) [] (Last.Return (of 4))
        (prepares_same (given_fix 1) (fix 1) _ [] _ (same_const (Constant.Fix (pos 1))) (prepares_same (local 2) (of 3) [] [] [] (same_var (var 2) (var 3) (first (2, 3) []) refl) prepares_none))
        (refl, tt) (gives_out (context ((2, 3) ∷ []) (OwnExit 1)) 0 (var 1) (of 4) refl refl)));
  }

  starts : BlockFits cps sketch (Begins at_start) (block alloc [] (Op.Push [] 4 ∷ Op.CatchOpen (var 5) 4 ∷ Op.Push [] 5 ∷ []) (Last.Call (Given.Global 0) (of 5 ∷ [])) refl)
  starts = record {
    count = refl;
    distinct = tt;
    lays = lays _ 7 _ _ _ refl (lays_join (context [] NoExit) 7 (var 3) (var 4) 2 6 6 [] _ _ (omega arith)
        (lays _ 6 _ _ _ refl (lays_catch (context [] joined) 6 (var 5) 5 (to 3) behind_catch [] (var 5) 4 _ _ (awaits_join (var 3) meeting NoExit refl) refl zip_none tt (tt, (refl, tt)) refl tt
        (goes_here _ 5 _ _ (lays _ 5 _ _ _ refl (lays_call (within ((5, 5) ∷ [])) 5 (Given.Global 0) (local 5 ∷ []) (into 6 4) [] (Given.Global 0) (of 5 ∷ []) behind_f [] 5
        (prepares_same (Given.Global 0) (Given.Global 0) _ [] _ (same_global 0 0 refl) (prepares_same (local 5) (of 5) [] [] [] (same_var (var 5) (var 5) (first (5, 5) []) refl) prepares_none))
        (awaits_lam (var 6) 4 []) refl zip_none tt))))));
  }

  escapes : BlockFits cps sketch (Resumes behind_catch) (block alloc (6 ∷ []) (Op.Pop ∷ []) (Last.Halt (of 6)) refl)
  escapes = record {
    value = var 6;
    vars = (4, 6) ∷ [];
    gets = [];
    rest = [];
    takes = refl;
    ops = refl;
    new = record { plain = refl; apart = refl; unneeded = tt };
    small = omega arith;
    fetches = fetches_none ((4, 6) ∷ []);
    few = omega arith;
    goes = goes_here _ 2 _ _ (ends 6);
  }

  adds_two : BlockFits cps sketch (Resumes behind_f) (block alloc (7 ∷ []) (Op.Pop ∷ Op.Prim (var 8) Add (fix 2 ∷ of 7 ∷ []) ∷ Op.CatchClose ∷ Op.Pop ∷ []) (Last.Jump 6 (of 8 ∷ [])) refl)
  adds_two = record {
    value = var 7;
    vars = (6, 7) ∷ [];
    gets = [];
    rest = Op.Prim (var 8) Add (fix 2 ∷ of 7 ∷ []) ∷ Op.CatchClose ∷ Op.Pop ∷ [];
    takes = refl;
    ops = refl;
    new = record { plain = refl; apart = refl; unneeded = (refl, tt) };
    small = omega arith;
    fetches = fetches_none ((6, 7) ∷ []);
    few = omega arith;
    goes = goes_here _ 4 _ _ (lays _ 4 _ _ _ refl (lays_prim (within ((6, 7) ∷ [])) 4 Add (given_fix 2 ∷ local 6 ∷ []) (into 7 3) [] (fix 2 ∷ of 7 ∷ []) (var 8) _ _
        (prepares_same (given_fix 2) (fix 2) _ [] _ (same_const (Constant.Fix (pos 2))) (prepares_same (local 6) (of 7) [] [] [] (same_var (var 6) (var 7) (first (6, 7) []) refl) prepares_none))
        (refl, tt)
        (gives_here (within ((6, 7) ∷ [])) 4 (var 7) 3 (var 8) _ _ ((refl, tt), (refl, tt)) refl (omega arith)
        (lays _ 3 _ _ _ refl (lays_uncatch (within ((7, 8) ∷ (6, 7) ∷ [])) 3 (to 3) (local 7) [] [] (of 8) [] _ refl
        (prepares_same (local 7) (of 8) [] [] [] (same_var (var 7) (var 8) (first (7, 8) ((6, 7) ∷ [])) refl) prepares_none)
        (gives_join (record { vars = (7, 8) ∷ (6, 7) ∷ []; exits = joined; catches = [] }) 3 (var 3) (of 8) meeting NoExit [] refl refl zip_none (record { plain = refl; apart = refl; unneeded = tt }) (omega arith)))))));
  }

  meets : BlockFits cps sketch (Begins at_meeting) (block alloc (9 ∷ []) [] (Last.Halt (of 9)) refl)
  meets = record { count = refl; distinct = (refl, tt); lays = ends 9 }

  same_purpose : (a b : Purpose) → Some a ≡ Some b → a ≡ b
  same_purpose a b h = cc

  no_purpose : {X : Type 0} (b : Purpose) → None ≡ Some b → X
  no_purpose b h = cc

  fits : (k : ℕ) (purpose : Purpose) → IsFor sketch k purpose → IsSomeAnd (slice_get p.blocks.items k) (BlockFits cps sketch purpose)
  fits zero q e = subst (λ x. IsSomeAnd (slice_get p.blocks.items 0) (BlockFits cps sketch x)) (same_purpose _ q e) code_of_f
  fits (suc zero) q e = subst (λ x. IsSomeAnd (slice_get p.blocks.items 1) (BlockFits cps sketch x)) (same_purpose _ q e) calls_e
  fits (suc (suc zero)) q e = subst (λ x. IsSomeAnd (slice_get p.blocks.items 2) (BlockFits cps sketch x)) (same_purpose _ q e) adds_one
  fits (suc (suc (suc zero))) q e = subst (λ x. IsSomeAnd (slice_get p.blocks.items 3) (BlockFits cps sketch x)) (same_purpose _ q e) starts
  fits (suc (suc (suc (suc zero)))) q e = subst (λ x. IsSomeAnd (slice_get p.blocks.items 4) (BlockFits cps sketch x)) (same_purpose _ q e) escapes
  fits (suc (suc (suc (suc (suc zero))))) q e = subst (λ x. IsSomeAnd (slice_get p.blocks.items 5) (BlockFits cps sketch x)) (same_purpose _ q e) adds_two
  fits (suc (suc (suc (suc (suc (suc zero)))))) q e = subst (λ x. IsSomeAnd (slice_get p.blocks.items 6) (BlockFits cps sketch x)) (same_purpose _ q e) meets
  fits (suc (suc (suc (suc (suc (suc (suc k))))))) q e = no_purpose q e

  firsts : (l : ℕ) → l < 1 → IsFor sketch l (CodeOf l) × (sketch.needs l ≡ [])
  firsts zero lt = (refl, refl)
  firsts (suc l) lt = absurd (omega (arith, lt))

nothing_assigned : (alloc : Global) (x : ℕ) → is_assigned (catch_over_two alloc) x ≡ false
unfolding walked_within
nothing_assigned alloc x = refl

pub catch_is_laid_out : CatchIsLaidOut
catch_is_laid_out alloc = record {
  sketch = sketch;
  shared = refl;
  count = refl;
  entry = refl;
  firsts = firsts alloc;
  blocks = fits alloc;
  small = λ l. omega arith;
  templates = refl;
  unassigned = nothing_assigned alloc;
}
