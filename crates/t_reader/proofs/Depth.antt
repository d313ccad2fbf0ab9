-- What the frames tell of what stands before a token.
use Rattle.std.proofs.Common.{◌≡◌, ℕ, ◌+◌, ◌-◌, ◌<◌, List, [], ◌∷◌, ◌++◌, length, Option, None, sym, ap, arith}
use Rattle.std.proofs.lemmas.List.{length-append}
use Rattle.t_reader.specs.declared.build.Frame.{Frame}
use Rattle.t_reader.specs.declared.build.Frame.TheVariants as frame
use Rattle.t_reader.specs.declared.build.Tail.TheVariants as tails
use Rattle.t_reader.specs.declared.unit.Node.{Node}
use Rattle.t_reader.specs.Grammar.{Before, outside, in_list, after_dot, after_tail, after_mark, IsSound, room, datum_kind}
use Rattle.std.specs.Prelude.{Result, Ok, Err, OnOk, IfErr}
use Rattle.t_reader.specs.declared.fault.ReadFault.{ReadFault}
use Rattle.t_reader.specs.declared.fault.ReadFault.TheVariants as faults
use Rattle.t_reader.specs.Build.{Stands, last_frame, datum_fault_of, Answers}
use Rattle.t_reader.proofs.Delivering.{last-is}

pub last_fault : (text : List ℕ) (names : List (List ℕ)) (nodes : List Node) (b : Before) (items : List ℕ) (frames : List Frame) → Stands text names nodes b items frames → datum_kind b ≡ datum_fault_of (last_frame frames)
last_fault text names nodes (outside fs) items frames r = sym (ap (λ (l : List Frame). datum_fault_of (last_frame l)) r.0)
last_fault text names nodes (in_list b o fs) items frames r = sym (ap datum_fault_of (last-is frames r.lower (frame.List o (length r.below) tails.Nothing) r.frames_are))
last_fault text names nodes (after_dot b o fs g d) items frames r = sym (ap datum_fault_of (last-is frames r.lower (frame.List o (length r.below) tails.Dot) r.frames_are))
last_fault text names nodes (after_tail b o fs g d t) items frames r = sym (ap datum_fault_of (last-is frames r.lower (frame.List o (length r.below) tails.Datum) r.frames_are))
last_fault text names nodes (after_mark b m) items frames r = sym (ap datum_fault_of (last-is frames r.lower (frame.Quote m r.word_node) r.frames_are))

one_more : (frames lower : List Frame) (f : Frame) (n : ℕ) → frames ≡ lower ++ f ∷ [] → 0 < n → length lower + n ≡ 400 → length frames + (n - 1) ≡ 400
one_more frames lower f n e p q = omega (arith, ap length e, length-append lower (f ∷ []))

-- each frame is a list or a mark that is open
pub depth : (text : List ℕ) (names : List (List ℕ)) (nodes : List Node) (b : Before) (items : List ℕ) (frames : List Frame) → Stands text names nodes b items frames → IsSound b → length frames + room b ≡ 400
depth text names nodes (outside fs) items frames r s = ap (λ (l : List Frame). length l + 400) r.0
depth text names nodes (in_list b o fs) items frames r s = one_more frames r.lower _ (room b) r.frames_are s.2 (depth text names nodes b r.below r.lower r.outer_stands s.0)
depth text names nodes (after_dot b o fs g d) items frames r s = one_more frames r.lower _ (room b) r.frames_are s.2 (depth text names nodes b r.below r.lower r.outer_stands s.0)
depth text names nodes (after_tail b o fs g d t) items frames r s = one_more frames r.lower _ (room b) r.frames_are s.2 (depth text names nodes b r.below r.lower r.outer_stands s.0)
depth text names nodes (after_mark b m) items frames r s = one_more frames r.lower _ (room b) r.frames_are s.2 (depth text names nodes b items r.lower r.outer_stands s.0)

-- where only memory can run out
pub answers : {A : Type 0} (f : Option ReadFault) (P : Type 0) (r : Result A ReadFault) → f ≡ None → OnOk r P → IfErr r (λ e. e ≡ faults.Memory) → Answers f P r
answers f P (Ok x) n h m = (n, h)
answers f P (Err faults.Memory) n h m = tt
answers f P (Err (faults.Fault k s)) n h m = cc
