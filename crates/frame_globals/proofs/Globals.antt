-- A global gets a value.
use Rattle.std.proofs.Common.{◌≡◌, ℕ, ◌+◌, ◌-◌, ◌*◌, ◌/◌, ◌^◌, ◌<◌, ◌⊎◌, inl, inr, true, List, length, slice_get, slice_set, Option, Some, None, is_some, pos, refl, sym, ap, ◌∙◌, subst, arith, length-append}
use Rattle.std.specs.List.{flat_map}
use Rattle.std.proofs.lemmas.Bool.{lt-ltb, cases_eq}
use Rattle.std.proofs.lemmas.List.{length-set, set-append_left}
use Rattle.std.proofs.lemmas.Option.{slice_get_within}
use Rattle.program_runs.specs.Runs.{Faulted}
use Rattle.t_base.specs.declared.faults.Fault.TheVariants.{Unbound}
use Rattle.t_prim.specs.Values.{Val}
use Rattle.word_ir.specs.declared.operands.Operand.{Operand}
use Rattle.word_ir.specs.declared.operands.Operand.TheVariants as operand
use Rattle.word_ir.specs.declared.words.Words.{Words}
use Rattle.word_ir.specs.Word.{Word, Number, moved}
use Rattle.word_ir.specs.Storage.{Sizes, Regions, STATICS_START, HEAP_START, static_at, long_at}
use Rattle.word_ir.specs.Step.{words_in}
use Rattle.word_ir.specs.Stamps.{Stamp}
use Rattle.frame_ir.specs.Values.{Lasting, Env}
use Rattle.frame_ir.specs.States.{State, with_global_at}
use Rattle.word_trees.specs.Trees.{Tree}
use Rattle.word_trees.specs.Cores.{Core, stamp_in, some_stamp, storing, binding}
use Rattle.word_trees.specs.Leads.{Performs}
use Rattle.word_trees.proofs.Operations.{service_ends}
use Rattle.word_trees.proofs.Performing.{arrives, ends, load_performs, store_performs, ask_performs_true, ask_performs_false}
use Rattle.frame_words.specs.Layouts.{Layout, INNER, GLOBALS}
use Rattle.frame_words.specs.ValueWords.{UNBOUND, word_for, val_word, or_zero}
use Rattle.frame_words.specs.Contents.{Escapes, fixed_contents}
use Rattle.frame_words.specs.Holding.{HoldsData, global_word}
use Rattle.frame_words.specs.Growing.{WordsStay}
use Rattle.frame_words.proofs.Segments.{get_left}
use Rattle.frame_words.proofs.Reading.{static_long, outside_stack}
use Rattle.select_rows.specs.Macros.{var, fault, word, never}
use Rattle.select_rows.proofs.Keeping.{may_read, may_reach, bound_word, get_set, get_set_other, get_some}
use Rattle.frame_stacks.specs.Stacks.{Ways, IsLasting}
use Rattle.frame_stacks.specs.Frames.{HoldsVariable, Holds}
use Rattle.frame_stacks.specs.Laws.{GoesOn, HasValue}
use Rattle.frame_stacks.proofs.Blocks.{temporary_held, older_value}
use Rattle.frame_heap.proofs.Held.{KeepsFrames, stands_kept, frames_held, escapes_held}
use Rattle.frame_reads.specs.Laws.{Fails}
use Rattle.frame_reads.proofs.Globals.{not_unbound}
use Rattle.frame_globals.specs.Laws.{global_set, global_change}

some_number : (o : Option ℕ) → is_some o ≡ true → o ≡ Some (or_zero o)
some_number (Some n) k = refl
some_number None k = absurd (cc)

same_held : (a b : Option Val) → Some a ≡ Some b → a ≡ b
same_held a b q = cc

module _ (sizes : Sizes) (l : Layout) (e : Escapes) (s : State) (storage : Regions Word) (next : ℕ) (output : List ℕ) (global : ℕ) (v : Val) (held : Option Val) (h : HoldsData sizes l e s storage next output) (there : slice_get s.globals global ≡ Some held) (inside : global < l.globals) (known : word_for l s v ≡ Some (val_word l s v)) where
  abbrev u : State
  u = with_global_at s global v

  abbrev w : Word
  w = Number (val_word l s v)

  low : GLOBALS + global < length h.front
  low = omega (arith, h.front_length, inside)

  globals_by : (i : ℕ) (now : Option Val) → (i ≡ global) ⊎ (i ≡ global → ⊥) → slice_get (slice_set s.globals global (Some v)) i ≡ Some now → slice_get (slice_set h.front (GLOBALS + global) w) (GLOBALS + i) ≡ Some (Number (global_word l u now))
  globals_by i now (inl eq) at =
      let here : slice_get (slice_set s.globals global (Some v)) global ≡ Some (Some v) = get_set s.globals global (Some v) (slice_get_within s.globals global held there) in
      let same : Some v ≡ now = same_held (Some v) now (sym here ∙ (ap (slice_get (slice_set s.globals global (Some v))) (sym eq) ∙ at)) in
      let m : GLOBALS + i ≡ GLOBALS + global = ap (λ k. GLOBALS + k) eq in
      ap (slice_get (slice_set h.front (GLOBALS + global) w)) m ∙ (get_set h.front (GLOBALS + global) w low ∙ ap (λ o. Some (Number (global_word l u o))) same)
  globals_by i now (inr ne) at =
      let was : slice_get s.globals i ≡ Some now = sym (get_set_other s.globals global i (Some v) (λ eq. ne (sym eq))) ∙ at in
      get_set_other h.front (GLOBALS + global) (GLOBALS + i) w (λ eq. ne (omega (arith, eq))) ∙ h.globals i now was

  known_by : (i : ℕ) (x : Val) → (i ≡ global) ⊎ (i ≡ global → ⊥) → slice_get (slice_set s.globals global (Some v)) i ≡ Some (Some x) → is_some (word_for l u x) ≡ true
  known_by i x (inl eq) at =
      let here : slice_get (slice_set s.globals global (Some v)) global ≡ Some (Some v) = get_set s.globals global (Some v) (slice_get_within s.globals global held there) in
      let same : Some v ≡ Some x = same_held (Some v) (Some x) (sym here ∙ (ap (slice_get (slice_set s.globals global (Some v))) (sym eq) ∙ at)) in
      let equal : v ≡ x = cc in
      subst (λ y. is_some (word_for l s y) ≡ true) equal (ap is_some known)
  known_by i x (inr ne) at = h.globals_known i x (sym (get_set_other s.globals global i (Some v) (λ eq. ne (sym eq))) ∙ at)

  pub data_set : HoldsData sizes l e u (record storage { statics = slice_set storage.statics (GLOBALS + global) w }) next output
  data_set = record {
    heap = h.heap;
    taken = h.taken;
    next_is = h.next_is;
    room = h.room;
    small = h.small;
    distinct = h.distinct;
    made = h.made;
    pairs_apart = h.pairs_apart;
    laid_out = h.laid_out;
    front = slice_set h.front (GLOBALS + global) w;
    front_length = length-set h.front (GLOBALS + global) w ∙ h.front_length;
    statics = ap (λ ws. slice_set ws (GLOBALS + global) w) h.statics ∙ set-append_left h.front (flat_map (fixed_contents l s) l.fixed) (GLOBALS + global) w low;
    fixed = h.fixed;
    globals = λ i now at. globals_by i now (cases_eq i global) at;
    globals_known = λ i x at. known_by i x (cases_eq i global) at;
    output_is = h.output_is;
  }

  pub enough_statics : GLOBALS + global < length storage.statics
  enough_statics =
      let n : length storage.statics ≡ length h.front + length (flat_map (fixed_contents l s) l.fixed) = ap length h.statics ∙ length-append h.front (flat_map (fixed_contents l s) l.fixed) in
      omega (arith, n, low)

stored_static : (c : Core) (p : ℕ) (x : Word) (stamp : Stamp) → p < 2 ^ 26 → storing c (STATICS_START + 4 * p) x stamp ≡ record c { storage = record c.storage { statics = slice_set c.storage.statics p x }; longs = record c.longs { statics = slice_set c.longs.statics p stamp } }
stored_static c p x stamp lt =
    let place : (STATICS_START + 4 * p - STATICS_START) / 4 ≡ p = omega arith in
    rw (lt-ltb (STATICS_START + 4 * p) HEAP_START (omega (arith, lt)), place, outside_stack c.storage (STATICS_START + 4 * p) (omega (arith, lt))) refl

module _ (words : Words) (sizes : Sizes) (l : Layout) (e : Escapes) (g : Ways) (t : ℕ) (s : State) (env : Env) (global : ℕ) (v : Val) (held : Option Val) (there : slice_get s.globals global ≡ Some held) (inside : global < l.globals) where
  abbrev after : State
  after = with_global_at s global v

  module _ (c : Core) (h : Holds sizes l e g t s env c) where
    few : GLOBALS + global < 2 ^ 26
    few = let m = h.data_held.laid_out.few in omega (arith, m, inside)

    address : moved (static_at (GLOBALS + global)) (pos 0) ≡ STATICS_START + 4 * (GLOBALS + global)
    address = omega (arith, few)

    abbrev stored : Stamp → Core
    stored stamp = record c { storage = record c.storage { statics = slice_set c.storage.statics (GLOBALS + global) (Number (val_word l s v)) }; longs = record c.longs { statics = slice_set c.longs.statics (GLOBALS + global) stamp } }

    words_same : WordsStay l s after
    words_same = record { values = λ y n q. q; captures = λ y n q. q }

    kept_by : (stamp : Stamp) → long_at (stored stamp).storage (static_at INNER) ≡ long_at c.storage (static_at INNER) → KeepsFrames l s after c (stored stamp)
    kept_by stamp inner = record { words = words_same; top = refl; stack = refl; inner = inner; stamps_of_stack = refl; live = refl; escapes = λ birth p found. refl }

    after_held : (stamp : Stamp) → word_for l s v ≡ Some (val_word l s v) → Holds sizes l e g t after env (stored stamp)
    after_held stamp known =
        let inner : long_at (stored stamp).storage (static_at INNER) ≡ long_at c.storage (static_at INNER) =
        static_long (stored stamp).storage 0 (omega arith) ∙ (get_set_other c.storage.statics (GLOBALS + global) 0 (Number (val_word l s v)) (λ eq. absurd (omega (arith, eq))) ∙ sym (static_long c.storage 0 (omega arith))) in
        record {
          data_held = data_set sizes l e s c.storage c.next c.output global v held h.data_held there inside known;
          frames = frames_held sizes l e g s after c (stored stamp) (kept_by stamp inner) (λ birth none. none) (λ i p found none. none) h.frames;
          escapes = escapes_held sizes l e g s after c (stored stamp) (kept_by stamp inner) (λ birth none. none) (λ i p found none. none) h.escapes;
          variables = record { each = λ y w found. let o : HoldsVariable sizes l g t s c y w = h.variables.each y w found in record { older = o.older; word = o.word; stamp = o.stamp; held = o.held; stamped = o.stamped; stands = stands_kept sizes l e g s after c c words_same w o.word o.stamp o.stands } };
        }

    pub set_performs : (x : Operand) (rest : Tree) → HasValue words sizes l g t s c x (Lasting v) → Performs words sizes (GoesOn words sizes l e g t after env rest) 1 3 (global_set global x rest) c
    set_performs x rest hx =
        let k : IsLasting l s (Lasting v) hx.word = hx.stands in
        let n : val_word l s v ≡ k.number = ap or_zero k.known in
        let known : word_for l s v ≡ Some (val_word l s v) = k.known ∙ ap Some (sym n) in
        let stamp : Stamp = stamp_in (words_in words sizes) c x in
        let old = get_some c.storage.statics (GLOBALS + global) (enough_statics sizes l e s c.storage c.next c.output global v held h.data_held there inside known) in
        store_performs words sizes (GoesOn words sizes l e g t after env rest) (static_at (GLOBALS + global)) (Number (val_word l s v)) old.0 refl (hx.held ∙ (ap Some k.is ∙ ap (λ m. Some (Number m)) (sym n)))
        (ap (long_at c.storage) address ∙ (static_long c.storage (GLOBALS + global) few ∙ old.1))
        (may_reach words sizes c (operand.Static (GLOBALS + global)) (moved (static_at (GLOBALS + global)) (pos 0)) (omega (arith, address, few)))
        (subst (Performs words sizes (GoesOn words sizes l e g t after env rest) 0 0 rest) (sym (ap (λ m. storing c m (Number (val_word l s v)) stamp) address ∙ stored_static c (GLOBALS + global) (Number (val_word l s v)) stamp few))
        (arrives words sizes (GoesOn words sizes l e g t after env rest)
        (λ block place moves steps spelled. record { core = stored stamp; holds = after_held stamp known; block = block; place = place; moves = moves; steps = steps; there = refl; spelled = spelled })))

    pub word_is : long_at c.storage (moved (static_at (GLOBALS + global)) (pos 0)) ≡ Some (Number (global_word l s held))
    word_is =
        ap (long_at c.storage) address
        ∙ (static_long c.storage (GLOBALS + global) few
        ∙ (ap (λ ws. slice_get ws (GLOBALS + global)) h.data_held.statics ∙ get_left h.data_held.front _ (GLOBALS + global) (Number (global_word l s held)) (h.data_held.globals global held there)))

pub global_is_set : (words : Words) (sizes : Sizes) (l : Layout) (e : Escapes) (g : Ways) (t : ℕ) (s : State) (env : Env) (c : Core) (global : ℕ) (x : Operand) (v : Val) (held : Option Val) (rest : Tree) → Holds sizes l e g t s env c → HasValue words sizes l g t s c x (Lasting v) → slice_get s.globals global ≡ Some held → global < l.globals → Performs words sizes (GoesOn words sizes l e g t (with_global_at s global v) env rest) 1 3 (global_set global x rest) c
global_is_set words sizes l e g t s env c global x v held rest h hx there inside = set_performs words sizes l e g t s env global v held there inside c h x rest hx

pub global_is_changed : (words : Words) (sizes : Sizes) (l : Layout) (e : Escapes) (g : Ways) (t : ℕ) (s : State) (env : Env) (c : Core) (global : ℕ) (x : Operand) (v old : Val) (rest : Tree) → Holds sizes l e g t s env c → HasValue words sizes l g t s c x (Lasting v) → slice_get s.globals global ≡ Some (Some old) → global < l.globals → Performs words sizes (GoesOn words sizes l e g t (with_global_at s global v) env rest) 1 8 (global_change t global x rest) c
global_is_changed words sizes l e g t s env c global x v old rest h hx there inside =
    let few : GLOBALS + global < 2 ^ 26 = let m = h.data_held.laid_out.few in omega (arith, m, inside) in
    let address : moved (static_at (GLOBALS + global)) (pos 0) ≡ STATICS_START + 4 * (GLOBALS + global) = omega (arith, few) in
    let stamp : Stamp = some_stamp (long_at c.longs (moved (static_at (GLOBALS + global)) (pos 0))) in
    let known : word_for l s old ≡ Some (val_word l s old) = some_number (word_for l s old) (h.data_held.globals_known global old there) in
    let d : Core = binding c (var t) (Number (val_word l s old)) stamp in
    load_performs words sizes (GoesOn words sizes l e g t (with_global_at s global v) env rest) (static_at (GLOBALS + global)) (Number (val_word l s old)) refl (word_is words sizes l e g t s env global v (Some old) there inside c h)
    (may_read words sizes c (operand.Static (GLOBALS + global)) (moved (static_at (GLOBALS + global)) (pos 0)) (omega (arith, address, few)))
    (ask_performs_false words sizes (GoesOn words sizes l e g t (with_global_at s global v) env rest) (Number (val_word l s old)) (Number UNBOUND) (bound_word c t (Number (val_word l s old)) stamp) refl (ap Some (not_unbound l s old (val_word l s old) known))
    (set_performs words sizes l e g t s env global v (Some old) there inside d (temporary_held sizes l e g t s env c (Number (val_word l s old)) stamp h) x rest (older_value words sizes l g t s c (Number (val_word l s old)) stamp x (Lasting v) hx)))

pub global_stays : (words : Words) (sizes : Sizes) (l : Layout) (e : Escapes) (g : Ways) (t : ℕ) (s : State) (env : Env) (c : Core) (global : ℕ) (x : Operand) (rest : Tree) → Holds sizes l e g t s env c → slice_get s.globals global ≡ Some None → global < l.globals → Performs words sizes (Fails sizes l e s Unbound) 1 7 (global_change t global x rest) c
global_stays words sizes l e g t s env c global x rest h there inside =
    let few : GLOBALS + global < 2 ^ 26 = let m = h.data_held.laid_out.few in omega (arith, m, inside) in
    let address : moved (static_at (GLOBALS + global)) (pos 0) ≡ STATICS_START + 4 * (GLOBALS + global) = omega (arith, few) in
    let stamp : Stamp = some_stamp (long_at c.longs (moved (static_at (GLOBALS + global)) (pos 0))) in
    let d : Core = binding c (var t) (Number UNBOUND) stamp in
    load_performs words sizes (Fails sizes l e s Unbound) (static_at (GLOBALS + global)) (Number UNBOUND) refl (word_is words sizes l e g t s env global Rattle.t_prim.specs.Values.NilV None there inside c h)
    (may_read words sizes c (operand.Static (GLOBALS + global)) (moved (static_at (GLOBALS + global)) (pos 0)) (omega (arith, address, few)))
    (ask_performs_true words sizes (Fails sizes l e s Unbound) (Number UNBOUND) (Number UNBOUND) (bound_word c t (Number UNBOUND) stamp) refl refl
    (ends words sizes (Fails sizes l e s Unbound) 2 (fault 9) d (Faulted Unbound) (service_ends words sizes d 3 (word 9) 9 (Faulted Unbound) never refl refl)
    (λ block place moves steps. record { core = d; data_held = h.data_held; block = block; place = place; moves = moves; steps = steps; there = refl })))
