-- The nodes under way, as lists of their parts.
use Rattle.std.specs.Prelude.{◌≡◌, ◌-◌, ◌==◌, Bool, true, false, List, [], ◌∷◌, length, take, drop, Option, Some, None}
use Rattle.t_base.specs.declared.basics.Span.{Span}
use Rattle.t_rows.specs.declared.rows.Part.{Part}
use Rattle.t_rows.specs.declared.rows.Shape.{Shape}
use Rattle.core_frames.specs.declared.build.Done.{Done}
use Rattle.core_frames.specs.declared.build.Fresh.{Fresh}
use Rattle.core_frames.specs.declared.frames.NodeState.{NodeState}
use Rattle.core_frames.specs.declared.frames.CountedNode.{CountedNode}

-- a node under way: what is known of it, the parts that are left, and those that are done
pub record Frame : Type 0 where
  pub state : NodeState
  pub left : List Part
  pub done : List Done

-- a node of which no part is done
abbrev pub opened : Shape → Span → Bool → List Part → Frame
opened shape span tail parts = record {
  state = record { shape = shape; span = span; tail = tail; bound = record { first = 0; count = 0 }; part_tail = false };
  left = parts;
  done = [];
}

-- the node waits for a part with these variables around it, which stands in a tail place or not
abbrev pub waiting : Frame → Fresh → Bool → Frame
waiting f bound part_tail = record f { state = record f.state { bound = bound; part_tail = part_tail } }

-- The nodes with these counts, the innermost first. Of the parts that are left those of the innermost node come first, and of those
-- that are done they come last.
abbrev pub frames : List CountedNode → List Part → List Done → List Frame
frames [] left done = []
frames (c ∷ cs) left done =
    record { state = c.state; left = take c.left_count left; done = drop (length done - c.done_count) done }
    ∷ frames cs (drop c.left_count left) (take (length done - c.done_count) done)

-- whether no part of the innermost node is left
abbrev pub is_last : List Frame → Bool
is_last [] = true
is_last (f ∷ others) = length f.left == 0

-- no part of the innermost node is left, where there is one
abbrev pub NoneLeft : List Frame → Type 0
NoneLeft [] = Unit {0}
NoneLeft (f ∷ others) = f.left ≡ []

-- the next part of the innermost node is taken away, where one is left
abbrev pub IsTaken : List Frame → List Frame → Option Part → Type 0
IsTaken before after None = NoneLeft before × (after ≡ before)
IsTaken [] after (Some part) = ⊥
IsTaken (f ∷ others) after (Some part) = (rest : List Part) × (f.left ≡ part ∷ rest) × (after ≡ record f { left = rest } ∷ others)
