-- A CATCH is closed.
use Rattle.std.proofs.Common.{◌≡◌, ℕ, ◌+◌, ◌*◌, ◌/◌, ◌^◌, ◌<◌, ◌≤◌, ◌==◌, inl, inr, Bool, true, false, if◌then◌else◌, List, ◌∷◌, slice_get, slice_set, Option, Some, None, is_some, pos, refl, sym, ap, ◌∙◌, subst, arith}
use Rattle.std.specs.List.{list_any}
use Rattle.std.specs.Option.{option_map_or}
use Rattle.std.proofs.lemmas.Bool.{eq-eqb, ne_eqb, eqb-true, eqb-false}
use Rattle.t_prim.specs.Values.{EscapeV}
use Rattle.word_ir.specs.declared.operands.Operand.TheVariants as operand
use Rattle.word_ir.specs.declared.words.WordOp.TheVariants as op
use Rattle.word_ir.specs.declared.words.Words.{Words}
use Rattle.word_ir.specs.Word.{Word, Number, moved}
use Rattle.word_ir.specs.Storage.{Sizes, STATICS_START, HEAP_START, static_at, long_at}
use Rattle.word_ir.specs.State.{Own, kept}
use Rattle.word_ir.specs.Step.{words_in}
use Rattle.word_ir.specs.Stamps.{Stamp, Stamped}
use Rattle.frame_ir.specs.Values.{Value, Frame, Env, frame_words}
use Rattle.frame_ir.specs.States.{State, AnEscape, is_live, with_live}
use Rattle.word_trees.specs.Trees.{Tree, Do}
use Rattle.word_trees.specs.Cores.{Core, stamp_in, some_stamp, binding, storing, resetting}
use Rattle.word_trees.specs.Leads.{Performs}
use Rattle.word_trees.proofs.Performing.{performs_more, arrives, load_performs, store_performs, pop_performs}
use Rattle.frame_words.specs.Layouts.{Layout, INNER}
use Rattle.frame_words.specs.ValueWords.{same_thing, heap_place, val_word}
use Rattle.frame_ir.specs.States.{thing_words}
use Rattle.frame_words.specs.Contents.{Escapes}
use Rattle.frame_words.specs.Holding.{HoldsData}
use Rattle.frame_words.proofs.Segments.{apart}
use Rattle.frame_words.proofs.Sizes.{thing_sound}
use Rattle.frame_words.proofs.Reading.{heap_reads, static_long}
use Rattle.select_rows.specs.Macros.{var, of_var, word}
use Rattle.select_rows.proofs.Keeping.{may_reach, may_read, older_kept, newest_kept, get_some, get_set, get_set_other}
use Rattle.select_rows.proofs.Pairs.{stored_heap}
use Rattle.frame_stacks.specs.Stacks.{Ways, stack_of, frames_place, stack_address}
use Rattle.frame_stacks.specs.Frames.{HoldsAll, HoldsFrames, HoldsEscapes, HoldsVariable, Holds, is_catch, inner_word}
use Rattle.frame_stacks.specs.Laws.{GoesOn}
use Rattle.frame_stacks.proofs.Pops.{data_of_older, stands_popped}
use Rattle.frame_calls.proofs.Statics.{with_statics_of, front_stored, enough_statics, front_address, static_place, front_read}
use Rattle.frame_dispatch.specs.Codes.{catch_close}
use Rattle.frame_escapes.specs.Ended.{kept_escapes}
use Rattle.frame_escapes.proofs.Data.{AgreeOnMade, data_alike, without, inside, escape_ended}
use Rattle.frame_escapes.proofs.Frames.{among, among_lower, AreLast, all_last, older_last, one_popped}
use Rattle.frame_escapes.proofs.Left.{escapes_left}

some_place : (o : Option ℕ) → is_some o ≡ true → (p : ℕ) × (o ≡ Some p)
some_place (Some p) h = (p, refl)
some_place None h = absurd (cc)

-- the word of an escape that was made
pub escape_word : (l : Layout) (s : State) (birth p : ℕ) → heap_place s (AnEscape birth) ≡ Some p → val_word l s (EscapeV birth) ≡ HEAP_START + 4 * p + 2
escape_word l s birth p found = rw found refl

-- with another heap
abbrev pub with_heap_of : Core → List Word → List Stamp → Core
with_heap_of c ws stamps = record c { storage = record c.storage { heap = ws }; longs = record c.longs { heap = stamps } }

-- ---- an escape dies, and the one around it is bound

module _ (words : Words) (sizes : Sizes) (Q : Stamped → Type 0) (l : Layout) (e : Escapes) (s : State) (d : Core) (h : HoldsData sizes l e s d.storage d.next d.output) (birth p : ℕ) (found : heap_place s (AnEscape birth) ≡ Some p) where
  abbrev pub dead : Core
  dead = with_heap_of d (slice_set d.storage.heap (p + 1) (Number 0)) (slice_set d.longs.heap (p + 1) None)

  low : p + 4 ≤ 2 ^ 26
  low = let n = inside sizes l e s d.storage d.next d.output h birth p found in let r = h.room in let m = h.small in omega (arith, n, r, m)

  pub dead_data : HoldsData sizes l (without e birth) s dead.storage dead.next dead.output
  dead_data = escape_ended sizes l e s d.storage d.next d.output h birth p found

  pub ends_escape : (v o : ℕ) (least cost : ℕ) (rest : Tree) → kept d.env (Own v) ≡ Some (Number (val_word l s (EscapeV birth))) → Performs words sizes Q least cost rest (binding dead (var o) (Number (e.outer birth)) (some_stamp (long_at dead.longs (HEAP_START + 4 * (p + 2))))) → Performs words sizes Q 1 (5 + cost) (Do (op.Store (of_var v) (pos 2) (word 0)) (Do (op.Load (var o) (of_var v) (pos 6)) rest)) d
  ends_escape v o least cost rest held next =
      let n : ℕ = val_word l s (EscapeV birth) in
      let is : val_word l s (EscapeV birth) ≡ HEAP_START + 4 * p + 2 = escape_word l s birth p found in
      let second : moved (val_word l s (EscapeV birth)) (pos 2) ≡ HEAP_START + 4 * (p + 1) = omega (arith, is, low) in
      let third : moved (val_word l s (EscapeV birth)) (pos 6) ≡ HEAP_START + 4 * (p + 2) = omega (arith, is, low) in
      let old : long_at d.storage (HEAP_START + 4 * (p + 1)) ≡ Some (Number (e.frame birth)) = heap_reads sizes l e s d.storage d.next d.output h (AnEscape birth) p 1 (Number (e.frame birth)) found refl in
      let outer : long_at dead.storage (HEAP_START + 4 * (p + 2)) ≡ Some (Number (e.outer birth)) = heap_reads sizes l (without e birth) s dead.storage dead.next dead.output dead_data (AnEscape birth) p 2 (Number (e.outer birth)) found refl in
      performs_more words sizes Q (5 + cost) (omega arith)
      (store_performs words sizes Q (val_word l s (EscapeV birth)) (Number 0) (Number (e.frame birth)) held refl (ap (long_at d.storage) second ∙ old)
      (may_reach words sizes d (of_var v) (moved (val_word l s (EscapeV birth)) (pos 2)) (omega (arith, second, low)))
      (subst (Performs words sizes Q 1 (2 + cost) (Do (op.Load (var o) (of_var v) (pos 6)) rest)) (sym (ap (λ a. storing d a (Number 0) None) second ∙ stored_heap d (p + 1) (Number 0) None (omega (arith, low))))
      (load_performs words sizes Q (val_word l s (EscapeV birth)) (Number (e.outer birth)) held (ap (long_at dead.storage) third ∙ outer) (may_read words sizes dead (of_var v) (moved (val_word l s (EscapeV birth)) (pos 6)) (omega (arith, third, low)))
      (subst (λ a. Performs words sizes Q least cost rest (binding dead (var o) (Number (e.outer birth)) (some_stamp (long_at dead.longs a)))) (sym third) next))))

-- ---- the innermost live escape is another one

pub stores_inner : (words : Words) (sizes : Sizes) (Q : Stamped → Type 0) (l : Layout) (e : Escapes) (s : State) (d : Core) (v n least cost : ℕ) (rest : Tree) → HoldsData sizes l e s d.storage d.next d.output → kept d.env (Own v) ≡ Some (Number n)
    → ((stamp : Stamp) → Performs words sizes Q least cost rest (with_statics_of d (slice_set d.storage.statics 0 (Number n)) (slice_set d.longs.statics 0 stamp))) → Performs words sizes Q 1 (3 + cost) (Do (op.Store (operand.Static INNER) (pos 0) (of_var v)) rest) d
stores_inner words sizes Q l e s d v n least cost rest h held next =
    let a : moved (static_at INNER) (pos 0) ≡ STATICS_START + 4 * 0 = front_address 0 (omega arith) in
    let many = enough_statics sizes l e s d.storage d.next d.output h in
    let old = get_some d.storage.statics 0 (omega (arith, many)) in
    let stamp : Stamp = stamp_in (words_in words sizes) d (of_var v) in
    store_performs words sizes Q (static_at INNER) (Number n) old.0 refl held (ap (long_at d.storage) a ∙ (static_long d.storage 0 (omega arith) ∙ old.1))
    (may_reach words sizes d (operand.Static INNER) (moved (static_at INNER) (pos 0)) (omega (arith, a)))
    (subst (Performs words sizes Q least cost rest) (sym (ap (λ m. storing d m (Number n) stamp) a ∙ stored_first d (Number n) stamp)) (next stamp))
  where
    stored_first : (c : Core) (x : Word) (stamp : Stamp) → storing c (STATICS_START + 4 * 0) x stamp ≡ with_statics_of c (slice_set c.storage.statics 0 x) (slice_set c.longs.statics 0 stamp)
    stored_first c x stamp = refl

-- with the innermost one bound
pub loads_inner : (words : Words) (sizes : Sizes) (Q : Stamped → Type 0) (d : Core) (o n least cost : ℕ) (rest : Tree) → long_at d.storage (static_at INNER) ≡ Some (Number n) → ((stamp : Stamp) → Performs words sizes Q least cost rest (binding d (var o) (Number n) stamp)) → Performs words sizes Q 1 (2 + cost) (Do (op.Load (var o) (operand.Static INNER) (pos 0)) rest) d
loads_inner words sizes Q d o n least cost rest is next =
    let a : moved (static_at INNER) (pos 0) ≡ static_at INNER = front_address 0 (omega arith) ∙ sym (static_place 0 (omega arith)) in
    load_performs words sizes Q (static_at INNER) (Number n) refl (ap (long_at d.storage) a ∙ is) (may_read words sizes d (operand.Static INNER) (moved (static_at INNER) (pos 0)) (omega (arith, a))) (next _)

-- ---- the whole

module _ (words : Words) (sizes : Sizes) (l : Layout) (e : Escapes) (g : Ways) (t : ℕ) (s : State) (env : Env) (c : Core) (birth : ℕ) (older : List ℕ) (f : Frame) (rest : Tree) (h : Holds sizes l e g t s env c) (live : s.live ≡ birth ∷ older) (there : slice_get s.frames birth ≡ Some f) (catch : f.catch ≡ true) where
  abbrev popped : State
  popped = with_live s older

  abbrev Q : Stamped → Type 0
  Q = GoesOn words sizes l (kept_escapes e older) g t (with_live s older) env rest

  caught : is_catch s birth ≡ true
  caught = ap (λ o. option_map_or (λ x. x.catch) o false) there ∙ catch

  alive : is_live s birth ≡ true
  alive = ap (λ births. list_any (λ x. x == birth) births) live ∙ rw (eq-eqb birth birth refl) refl

  pub place : (p : ℕ) × (heap_place s (AnEscape birth) ≡ Some p)
  place = some_place (heap_place s (AnEscape birth)) (h.escapes.made birth alive caught)

  inner_is : inner_word l s s.live ≡ val_word l s (EscapeV birth)
  inner_is = ap (inner_word l s) live ∙ rw caught refl

  all : HoldsAll sizes l g s (stack_of c) (birth ∷ older)
  all = subst (HoldsAll sizes l g s (stack_of c)) live h.frames.frames

  last : AreLast s older
  last = older_last s birth older all.2 (subst (AreLast s) live (all_last s))

  outer_is : e.outer birth ≡ inner_word l s older
  outer_is = h.escapes.outer birth alive caught ∙ ap (inner_word l s) (ap (Rattle.frame_ir.specs.States.older_than birth) live ∙ rw (eq-eqb birth birth refl) refl)

  -- only the escapes of frames that are left have addresses
  agree : AgreeOnMade s (without e birth) (kept_escapes e older)
  agree = record {
    frames = λ b p found. agree_by b p (b == birth) refl (among b older) refl found;
    outers = λ b p found. refl;
  }
    where
      agree_by : (b p : ℕ) (q : Bool) → (b == birth) ≡ q → (r : Bool) → among b older ≡ r → heap_place s (AnEscape b) ≡ Some p → (if r then e.frame b else 0) ≡ (if q then 0 else e.frame b)
      agree_by b p true eq true r found = let lt : b < birth = among_lower b birth older all.2 r in let n : b ≡ birth = eqb-true b birth eq in absurd (omega (arith, lt, n))
      agree_by b p true eq false r found = refl
      agree_by b p false eq true r found = refl
      agree_by b p false eq false r found =
          let ne : b ≡ birth → ⊥ = eqb-false b birth eq in
          let here : among b (birth ∷ older) ≡ false = rw (ne_eqb birth b (λ z. ne (sym z))) r in
          let gone : is_live s b ≡ false = subst (λ births. list_any (λ x. x == b) births ≡ false) (sym live) here in
          let known : e.frame b ≡ (if is_live s b then Rattle.frame_stacks.specs.Stacks.frame_at sizes s b else 0) = h.escapes.frames b p found in
          let first : e.frame b ≡ 0 = known ∙ rw gone refl in
          sym first

  size_is : frame_words f ≡ 2
  size_is =
      let o = all.3 in
      let same : f ≡ all.0 = let y : slice_get s.frames birth ≡ Some all.0 = all.1 in cc in
      let none : f.size ≡ 0 = subst (λ x. x.size ≡ 0) (sym same) (o.catches (subst (λ x. x.catch ≡ true) same catch)) in
      omega (arith, none)

  top_up : c.top + 4 * 2 ≡ stack_address (frames_place sizes s.frames older)
  top_up =
      let top : c.top ≡ stack_address (frames_place sizes s.frames (birth ∷ older)) = h.frames.top ∙ ap (λ births. stack_address (frames_place sizes s.frames births)) live in
      let room : Rattle.frame_stacks.specs.Stacks.words_of_frames s.frames (birth ∷ older) ≤ sizes.stack / 4 = subst (λ births. Rattle.frame_stacks.specs.Stacks.words_of_frames s.frames births ≤ sizes.stack / 4) live h.frames.room in
      let n : option_map_or frame_words (slice_get s.frames birth) 0 ≡ 2 = ap (λ o. option_map_or frame_words o 0) there ∙ size_is in
      omega (arith, top, room, n)

  variable_left : (x : ℕ) (v : Value) → HoldsVariable sizes l g t s c x v → HoldsVariable sizes l g t popped c x v
  variable_left x v o = record { older = o.older; word = o.word; stamp = o.stamp; held = o.held; stamped = o.stamped; stands = stands_popped sizes l g s birth older live all.2 v o.word o.stamp o.stands }

  -- the stamp of the escape around it
  abbrev outer_stamp : Stamp
  outer_stamp = some_stamp (long_at (record c.longs { heap = slice_set c.longs.heap (place.0 + 1) None }) (HEAP_START + 4 * (place.0 + 2)))

  -- behind the code
  module _ (a b w : Stamp) where
    abbrev first : Core
    first = binding c (var t) (Number (val_word l s (EscapeV birth))) a

    abbrev second : Core
    second = binding (with_heap_of first (slice_set c.storage.heap (place.0 + 1) (Number 0)) (slice_set c.longs.heap (place.0 + 1) None)) (var (t + 1)) (Number (e.outer birth)) b

    abbrev third : Core
    third = with_statics_of second (slice_set c.storage.statics 0 (Number (e.outer birth))) (slice_set c.longs.statics 0 w)

    data_now : HoldsData sizes l (without e birth) s second.storage second.next second.output
    data_now = dead_data words sizes Q l e s first h.data_held birth place.0 place.1

    stamps_stay : (z p : ℕ) → heap_place s (AnEscape z) ≡ Some p → among z older ≡ true → slice_get third.longs.heap (p + 1) ≡ slice_get c.longs.heap (p + 1)
    stamps_stay z p found is =
        let lt : z < birth = among_lower z birth older all.2 is in
        let ne : (birth == z) ≡ false = ne_eqb birth z (λ eq. absurd (omega (arith, eq, lt))) in
        let en : (z == birth) ≡ false = ne_eqb z birth (λ eq. absurd (omega (arith, eq, lt))) in
        get_set_other c.longs.heap (place.0 + 1) (p + 1) None
        (λ eq. elim (apart same_thing (thing_words s) s.made (AnEscape birth) (AnEscape z) place.0 p thing_sound ne en place.1 found) [
          | inl q ↦ absurd (omega (arith, q, eq))
          | inr q ↦ absurd (omega (arith, q, eq))
        ])

    pub closed : Holds sizes l (kept_escapes e older) g t (with_live s older) env (resetting third (c.top + 4 * 2))
    closed = record {
      data_held = data_of_older sizes l (kept_escapes e older) s older third.storage third.next third.output
          (data_alike sizes l (without e birth) (kept_escapes e older) s third.storage third.next third.output agree
          (front_stored sizes l (without e birth) s second.storage second.next second.output 0 (Number (e.outer birth)) (omega arith) data_now));
      frames = subst (λ n. HoldsFrames sizes l g (with_live s older) (stack_of (resetting third n))) (sym top_up) (one_popped sizes l g s (stack_of c) birth older h.frames live);
      escapes =
          let left : HoldsEscapes sizes l (kept_escapes e older) g (with_live s older) (resetting third (c.top + 4 * 2)) =
          escapes_left sizes l e g s older c (resetting third (c.top + 4 * 2)) h.escapes last
          (front_read third.storage 0 (omega arith) ∙ (get_set c.storage.statics 0 (Number (e.outer birth)) (let many = enough_statics sizes l e s c.storage c.next c.output h.data_held in omega (arith, many)) ∙ ap (λ n. Some (Number n)) outer_is))
          stamps_stay in
          left;
      variables = record {
        each = λ x v found.
            let o : HoldsVariable sizes l g t s c x v = h.variables.each x v found in
            let y : HoldsVariable sizes l g t popped c x v = variable_left x v o in
            record {
              older = y.older;
              word = y.word;
              stamp = y.stamp;
              held = older_kept ((Own t, Number (val_word l s (EscapeV birth))) ∷ c.env) (t + 1) x (Number (e.outer birth)) (omega (arith, y.older)) ∙ (older_kept c.env t x (Number (val_word l s (EscapeV birth))) y.older ∙ y.held);
              stamped = ap some_stamp (older_kept ((Own t, a) ∷ c.stamps) (t + 1) x b (omega (arith, y.older)) ∙ older_kept c.stamps t x a y.older) ∙ y.stamped;
              stands = y.stands;
            };
      };
    }

  pub closes : Performs words sizes Q 1 11 (catch_close t rest) c
  closes =
      let inner : long_at c.storage (static_at INNER) ≡ Some (Number (val_word l s (EscapeV birth))) = h.escapes.inner ∙ ap (λ n. Some (Number n)) inner_is in
      loads_inner words sizes Q c t (val_word l s (EscapeV birth)) 1 9 _ inner
      (λ a.
      ends_escape words sizes Q l e s (first a None None) h.data_held birth place.0 place.1 t (t + 1) 1 4 _ (newest_kept c.env t (Number (val_word l s (EscapeV birth))))
      (stores_inner words sizes Q l (without e birth) s (second a outer_stamp None) (t + 1) (e.outer birth) 1 1 _ (data_now a outer_stamp None) (newest_kept ((Own t, Number (val_word l s (EscapeV birth))) ∷ c.env) (t + 1) (Number (e.outer birth)))
      (λ w.
      pop_performs words sizes Q (let n = h.frames.whole in omega (arith, top_up, n))
      (arrives words sizes Q
      (λ block place moves steps spelled. record { core = resetting (third a outer_stamp w) (c.top + 4 * 2); holds = closed a outer_stamp w; block = block; place = place; moves = moves; steps = steps; there = refl; spelled = spelled })))))

pub catch_closed : (words : Words) (sizes : Sizes) (l : Layout) (e : Escapes) (g : Ways) (t : ℕ) (s : State) (env : Env) (c : Core) (birth : ℕ) (older : List ℕ) (f : Frame) (rest : Tree) → Holds sizes l e g t s env c → s.live ≡ birth ∷ older → slice_get s.frames birth ≡ Some f → f.catch ≡ true → Performs words sizes (GoesOn words sizes l (kept_escapes e older) g t (with_live s older) env rest) 1 11 (catch_close t rest) c
catch_closed words sizes l e g t s env c birth older f rest h live there catch = closes words sizes l e g t s env c birth older f rest h live there catch
