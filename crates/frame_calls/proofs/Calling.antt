-- A call comes to a block with count, procedure and operands.
use Rattle.std.proofs.Common.{◌≡◌, ℕ, zero, suc, ◌+◌, ◌-◌, ◌*◌, ◌<◌, ◌≤◌, List, [], ◌∷◌, length, map, take, drop, slice_get, Some, is_some, refl, ap, ◌∙◌, arith}
use Rattle.t_prim.specs.Values.{Val}
use Rattle.word_ir.specs.declared.operands.Operand.{Operand}
use Rattle.word_ir.specs.declared.operands.Operand.TheVariants as operand
use Rattle.word_ir.specs.declared.words.WordBlock.{WordBlock}
use Rattle.word_ir.specs.declared.words.WordEnd.TheVariants as last
use Rattle.word_ir.specs.declared.words.Words.{Words}
use Rattle.word_ir.specs.Word.{Word, Number}
use Rattle.word_ir.specs.Storage.{Sizes, static_at, long_at}
use Rattle.word_ir.specs.State.{Own, kept}
use Rattle.word_ir.specs.State as word_state
use Rattle.word_ir.specs.Step.{words_in}
use Rattle.word_ir.specs.Stamps.{Stamp}
use Rattle.frame_ir.specs.Values.{Value, Lasting, Env}
use Rattle.frame_ir.specs.States.{State}
use Rattle.word_trees.specs.Trees.{Close}
use Rattle.word_trees.specs.Cores.{Core, word_in, stamp_in, some_stamp, entering, bound_words, bound_stamps}
use Rattle.word_trees.specs.Leads.{Performs}
use Rattle.word_trees.proofs.Ends.{enter_enters}
use Rattle.word_trees.proofs.Performing.{performs_more, enters_performs, here_leads}
use Rattle.frame_words.specs.Layouts.{Layout, OPERANDS}
use Rattle.frame_words.specs.ValueWords.{val_word}
use Rattle.frame_words.specs.Contents.{Escapes}
use Rattle.frame_words.specs.Holding.{AreKnown}
use Rattle.select_rows.specs.Macros.{word}
use Rattle.frame_stacks.specs.Stacks.{Ways, IsLasting}
use Rattle.frame_stacks.specs.Frames.{Holds}
use Rattle.frame_stacks.specs.Laws.{HasValue, HaveValues}
use Rattle.frame_calls.specs.Codes.{call_params, call_code}
use Rattle.frame_calls.specs.Calls.{HoldsCall, Calls}
use Rattle.frame_calls.proofs.Passing.{word_bound, stamp_bound}
use Rattle.frame_calls.proofs.Statics.{with_statics_of, front_read, values_held, word_of, stores_perform}

-- with nothing but other variables, from any number on
pub none_bound : (sizes : Sizes) (l : Layout) (e : Escapes) (g : Ways) (t u : ℕ) (s : State) (env : Env) (c : Core) (ws : word_state.Env Word) (stamps : word_state.Env Stamp) → Holds sizes l e g t s env c → Holds sizes l e g u s [] (record c { env = ws; stamps = stamps })
none_bound sizes l e g t u s env c ws stamps h = record {
  data_held = h.data_held;
  frames = h.frames;
  escapes = record { inner = h.escapes.inner; made = h.escapes.made; frames = h.escapes.frames; caught = h.escapes.caught; outer = h.escapes.outer; stamps = h.escapes.stamps; closures_apart = h.escapes.closures_apart };
  variables = record { each = λ x v found. absurd (cc) };
}

pub nothing_bound : (sizes : Sizes) (l : Layout) (e : Escapes) (g : Ways) (t : ℕ) (s : State) (env : Env) (c : Core) (ws : word_state.Env Word) (stamps : word_state.Env Stamp) → Holds sizes l e g t s env c → Holds sizes l e g t s [] (record c { env = ws; stamps = stamps })
nothing_bound sizes l e g t s env c ws stamps h = none_bound sizes l e g t t s env c ws stamps h

module _ (words : Words) (sizes : Sizes) (l : Layout) (e : Escapes) (g : Ways) (t : ℕ) (s : State) where
  same_count : (c : Core) (xs : List Operand) (vs : List Val) → HaveValues words sizes l g t s c xs (map Lasting vs) → length xs ≡ length vs
  same_count c [] [] h = refl
  same_count c [] (v ∷ vs) h = absurd h
  same_count c (x ∷ xs) [] h = absurd h
  same_count c (x ∷ xs) (v ∷ vs) h = omega (arith, same_count c xs vs h.1)

  all_known : (c : Core) (xs : List Operand) (vs : List Val) → HaveValues words sizes l g t s c xs (map Lasting vs) → AreKnown l s vs
  all_known c [] [] h = tt
  all_known c [] (v ∷ vs) h = absurd h
  all_known c (x ∷ xs) [] h = absurd h
  all_known c (x ∷ xs) (v ∷ vs) h = let w : IsLasting l s (Lasting v) h.0.word = h.0.stands in (ap is_some w.known, all_known c xs vs h.1)

  -- the words of the first operands
  first_words : (c : Core) (n i : ℕ) (xs : List Operand) (vs : List Val) (v : Val) → HaveValues words sizes l g t s c xs (map Lasting vs) → slice_get vs i ≡ Some v → i < n → slice_get (map (word_in c) (take n xs)) i ≡ Some (Some (Number (val_word l s v)))
  first_words c n i [] [] v h at lt = absurd (cc)
  first_words c n i [] (w ∷ vs) v h at lt = absurd h
  first_words c n i (x ∷ xs) [] v h at lt = absurd h
  first_words c zero i (x ∷ xs) (w ∷ vs) v h at lt = absurd (omega (arith, lt))
  first_words c (suc n) zero (x ∷ xs) (w ∷ vs) v h at lt = let same : w ≡ v = cc in ap Some (word_of words sizes l e g t s c x w h.0 ∙ ap (λ y. Some (Number (val_word l s y))) same)
  first_words c (suc n) (suc i) (x ∷ xs) (w ∷ vs) v h at lt = first_words c n i xs vs v h.1 at (omega (arith, lt))

  rest_values : (c : Core) (n : ℕ) (xs : List Operand) (vs : List Val) → HaveValues words sizes l g t s c xs (map Lasting vs) → HaveValues words sizes l g t s c (drop n xs) (map Lasting (drop n vs))
  rest_values c zero xs vs h = h
  rest_values c (suc n) [] [] h = tt
  rest_values c (suc n) [] (v ∷ vs) h = absurd h
  rest_values c (suc n) (x ∷ xs) [] h = absurd h
  rest_values c (suc n) (x ∷ xs) (v ∷ vs) h = rest_values c n xs vs h.1

  get_rest : (n j : ℕ) (vs : List Val) → slice_get (drop n vs) j ≡ slice_get vs (n + j)
  get_rest zero j vs = let m : j ≡ 0 + j = omega arith in ap (slice_get vs) m
  get_rest (suc n) j [] = refl
  get_rest (suc n) j (v ∷ vs) = let m : suc (n + j) ≡ suc n + j = omega arith in get_rest n j vs ∙ ap (slice_get (v ∷ vs)) m

  drop_count : (n : ℕ) (xs : List Operand) → length (drop n xs) ≤ length xs - n
  drop_count zero xs = omega arith
  drop_count (suc n) [] = omega arith
  drop_count (suc n) (x ∷ xs) = omega (arith, drop_count n xs)

  take_count : (n : ℕ) (xs : List Operand) → length (take n xs) ≤ n
  take_count zero xs = omega arith
  take_count (suc n) [] = omega arith
  take_count (suc n) (x ∷ xs) = omega (arith, take_count n xs)

  module _ (u : ℕ) (env : Env) (c : Core) (target : ℕ) (block : WordBlock) (f : Operand) (v : Value) (args : List Operand) (vs : List Val) (h : Holds sizes l e g t s env c) (hf : HasValue words sizes l g t s c f v) (hs : HaveValues words sizes l g t s c args (map Lasting vs)) (few : length args ≤ 20) (there : slice_get words.blocks.items target ≡ Some block) (params : block.params ≡ call_params u) where
    abbrev passed : List Operand
    passed = word (length args) ∷ f ∷ take 5 args

    abbrev entered : Core
    entered = record c { env = bound_words (call_params u) (map (word_in c) (word (length args) ∷ f ∷ take 5 args)) []; stamps = bound_stamps (call_params u) (map (stamp_in (words_in words sizes) c) (word (length args) ∷ f ∷ take 5 args)) [] }

    call_held : ((i : ℕ) (y : Val) → slice_get vs i ≡ Some y → 5 ≤ i → long_at c.storage (static_at (OPERANDS + (i - 5))) ≡ Some (Number (val_word l s y))) → HoldsCall sizes l e g u s v vs entered
    call_held others =
        let n : length args ≡ length vs = same_count c args vs hs in
        let zero_is : u ≡ u + 0 = omega arith in
        record {
          holds = none_bound sizes l e g t u s env c entered.env entered.stamps h;
          count = ap (λ x. kept entered.env (Own x)) zero_is ∙ (word_bound u 7 0 (map (word_in c) passed) [] (Number (length args)) (omega arith) refl ∙ ap (λ k. Some (Number k)) n);
          few = omega (arith, n, few);
          word = hf.word;
          stamp = hf.stamp;
          held = word_bound u 7 1 (map (word_in c) passed) [] hf.word (omega arith) (ap Some hf.held);
          stamped = ap some_stamp (stamp_bound u 7 1 (map (stamp_in (words_in words sizes) c) passed) [] (stamp_in (words_in words sizes) c f) (omega arith) refl) ∙ hf.stamped;
          stands = hf.stands;
          known = all_known c args vs hs;
          operands = λ i y at lt.
              let m : u + 2 + i ≡ u + (2 + i) = omega arith in
              let k : 2 + i ≡ suc (suc i) = omega arith in
              ap (λ x. kept entered.env (Own x)) m ∙ word_bound u 7 (2 + i) (map (word_in c) passed) [] (Number (val_word l s y)) (omega (arith, lt)) (ap (slice_get (map (word_in c) passed)) k ∙ first_words c 5 i args vs y hs at lt);
          others = others;
        }

    pub enter_call : ((i : ℕ) (y : Val) → slice_get vs i ≡ Some y → 5 ≤ i → long_at c.storage (static_at (OPERANDS + (i - 5))) ≡ Some (Number (val_word l s y))) → Performs words sizes (Calls sizes l e g u s v vs target) 1 9 (Close (last.Enter (operand.Code target) passed)) c
    enter_call others =
        let k = take_count 5 args in
        performs_more words sizes (Calls sizes l e g u s v vs target) 9 (omega (arith, k))
        (enters_performs words sizes (Calls sizes l e g u s v vs target) 0 0 (2 + length passed) target (Close (last.Enter (operand.Code target) passed)) c (entering (words_in words sizes) c block.params passed)
        (enter_enters words sizes c (operand.Code target) target block passed refl there)
        (λ moves steps. here_leads words sizes (Calls sizes l e g u s v vs target) 0 _
        (record { core = entered; holds = call_held others; moves = moves; steps = steps; there = ap (λ ps. Rattle.word_trees.specs.Cores.at (entering (words_in words sizes) c ps passed) target 0 moves steps) params })))

  pub whole_call : (u : ℕ) (env : Env) (c : Core) (target : ℕ) (block : WordBlock) (f : Operand) (v : Value) (args : List Operand) (vs : List Val) → Holds sizes l e g t s env c → HasValue words sizes l g t s c f v → HaveValues words sizes l g t s c args (map Lasting vs) → length args ≤ 20 → slice_get words.blocks.items target ≡ Some block → block.params ≡ call_params u → Performs words sizes (Calls sizes l e g u s v vs target) 1 (9 + 3 * length args) (call_code target f args) c
  whole_call u env c target block f v args vs h hf hs few there params =
      let rest = drop_count 5 args in
      performs_more words sizes (Calls sizes l e g u s v vs target) (9 + 3 * length args) (omega (arith, rest))
      (stores_perform words sizes l e g t s (Calls sizes l e g u s v vs target) (drop 5 args) (drop 5 vs) 0 env c 9 (Close (last.Enter (operand.Code target) (word (length args) ∷ f ∷ take 5 args))) h (rest_values c 5 args vs hs) (omega (arith, rest, few))
      (λ ws stamps held found before.
      let hf' = values_held words sizes l e g t s c ws stamps (f ∷ []) (v ∷ []) (hf, tt) in
      enter_call u env (with_statics_of c ws stamps) target block f v args vs held hf'.0 (values_held words sizes l e g t s c ws stamps args (map Lasting vs) hs) few there params
      (λ i y at le.
      let m : 5 + (i - 5) ≡ i = omega (arith, le) in
      let inside : i < length vs = Rattle.std.proofs.lemmas.Option.slice_get_within vs i y at in
      let n = same_count c args vs hs in
      let place : slice_get (drop 5 vs) (i - 5) ≡ Some y = get_rest 5 (i - 5) vs ∙ (ap (slice_get vs) m ∙ at) in
      let low : OPERANDS + (i - 5) < 17 = omega (arith, inside, n, few) in
      let z : OPERANDS + (i - 5) ≡ OPERANDS + (0 + (i - 5)) = omega arith in
      front_read (record c.storage { statics = ws }) (OPERANDS + (i - 5)) low ∙ (ap (slice_get ws) z ∙ found (i - 5) y place))))

pub call_performs : (words : Words) (sizes : Sizes) (l : Layout) (e : Escapes) (g : Ways) (t u : ℕ) (s : State) (env : Env) (c : Core) (target : ℕ) (block : WordBlock) (f : Operand) (v : Value) (args : List Operand) (vs : List Val) → Holds sizes l e g t s env c → HasValue words sizes l g t s c f v → HaveValues words sizes l g t s c args (map Lasting vs) → length args ≤ 20 → slice_get words.blocks.items target ≡ Some block → block.params ≡ call_params u → Performs words sizes (Calls sizes l e g u s v vs target) 1 (9 + 3 * length args) (call_code target f args) c
call_performs words sizes l e g t u s env c target block f v args vs h hf hs few there params = whole_call words sizes l e g t s u env c target block f v args vs h hf hs few there params
