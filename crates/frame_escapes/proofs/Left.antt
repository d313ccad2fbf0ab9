-- Escapes and variables, where some frames are left.
use Rattle.std.proofs.Common.{◌≡◌, ℕ, ◌+◌, Bool, true, false, if◌then◌else◌, List, [], ◌∷◌, slice_get, Some, refl, sym, ap, ◌∙◌}
use Rattle.word_ir.specs.Word.{Number}
use Rattle.word_ir.specs.Storage.{Sizes, static_at, long_at}
use Rattle.frame_ir.specs.States.{State, AnEscape, is_live, older_than, with_live}
use Rattle.word_trees.specs.Cores.{Core}
use Rattle.frame_words.specs.Layouts.{Layout, INNER}
use Rattle.frame_words.specs.ValueWords.{heap_place, val_word}
use Rattle.frame_words.specs.Contents.{Escapes}
use Rattle.t_prim.specs.Values.{EscapeV}
use Rattle.frame_stacks.specs.Stacks.{Ways, frames_place, stack_address, frame_at}
use Rattle.frame_stacks.specs.Frames.{HoldsEscapes, is_catch, inner_word}
use Rattle.frame_escapes.specs.Ended.{kept_escapes}
use Rattle.frame_escapes.proofs.Frames.{among, AreLast}

pub inner_same : (l : Layout) (s : State) (older births : List ℕ) → inner_word l (with_live s older) births ≡ inner_word l s births
inner_same l s older [] = refl
inner_same l s older (b ∷ births) = ap (λ w. if is_catch s b then val_word l s (EscapeV b) else w) (inner_same l s older births)

module _ (sizes : Sizes) (l : Layout) (e : Escapes) (g : Ways) (s : State) (births : List ℕ) (c d : Core) (h : HoldsEscapes sizes l e g s c) (last : AreLast s births) where
  frame_by : (b p : ℕ) (q : Bool) → among b births ≡ q → heap_place s (AnEscape b) ≡ Some p → (if q then e.frame b else 0) ≡ (if q then frame_at sizes (with_live s births) b else 0)
  frame_by b p true there found =
      let old : is_live s b ≡ true = last.live b there in
      let known : e.frame b ≡ (if is_live s b then frame_at sizes s b else 0) = h.frames b p found in
      let first : e.frame b ≡ frame_at sizes s b = known ∙ rw old refl in
      first ∙ ap (λ xs. stack_address (frames_place sizes s.frames xs)) (last.from b there)
  frame_by b p false there found = refl

  pub escapes_left : long_at d.storage (static_at INNER) ≡ Some (Number (inner_word l s births)) → ((b p : ℕ) → heap_place s (AnEscape b) ≡ Some p → among b births ≡ true → slice_get d.longs.heap (p + 1) ≡ slice_get c.longs.heap (p + 1)) → HoldsEscapes sizes l (kept_escapes e births) g (with_live s births) d
  escapes_left inner stamps = record {
    inner = inner ∙ ap (λ n. Some (Number n)) (sym (inner_same l s births births));
    made = λ b there caught. h.made b (last.live b there) caught;
    frames = λ b p found. frame_by b p (among b births) refl found;
    caught = h.caught;
    outer = λ b there caught. h.outer b (last.live b there) caught ∙ (ap (inner_word l s) (last.older b there) ∙ sym (inner_same l s births (older_than b births)));
    stamps = λ b p found there. stamps b p found there ∙ h.stamps b p found (last.live b there);
    closures_apart = h.closures_apart;
  }
