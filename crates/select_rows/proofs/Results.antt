-- Results of rows: numbers that fit, words that are read, and truths.
use Rattle.std.proofs.Common.{◌≡◌, ℕ, ◌+◌, ◌≤◌, ◌==◌, Bool, true, false, not, ◌||◌, if◌then◌else◌, List, [], ◌∷◌, Some, None, ℤ, pos, negsuc, refl, ap, ◌∙◌, subst, arith}
use Rattle.t_base.specs.declared.basics.Var.{Var}
use Rattle.t_base.specs.declared.faults.Fault.TheVariants.{FixnumOverflow}
use Rattle.t_prim.specs.Values.{Val, FixV, NilV, TrueV}
use Rattle.t_prim.specs.Operands.{Row, Gives, Faults, number, truth, in_range}
use Rattle.word_ir.specs.declared.operands.Operand.{Operand}
use Rattle.word_ir.specs.declared.operands.Operand.TheVariants as operand
use Rattle.word_ir.specs.declared.words.Arith.{Arith}
use Rattle.word_ir.specs.declared.words.Test.{Test}
use Rattle.word_ir.specs.declared.words.Test.TheVariants as test
use Rattle.word_ir.specs.declared.words.WordOp.TheVariants as op
use Rattle.word_ir.specs.declared.words.Words.{Words}
use Rattle.word_ir.specs.Word.{Word, Number, moved}
use Rattle.word_ir.specs.Storage.{Sizes, static_at, long_at}
use Rattle.word_ir.specs.Computing as computing
use Rattle.word_ir.specs.Computing.{computed, compared}
use Rattle.word_ir.specs.Stamps.{Stamp}
use Rattle.frame_ir.specs.States.{State}
use Rattle.tagged_words.specs.Tags.{fixnum_word, fixnum_result}
use Rattle.word_trees.specs.Trees.{Tree, Do, Or, Ask, Compute}
use Rattle.word_trees.specs.Cores.{Core, word_in, some_stamp, binding}
use Rattle.word_trees.specs.Leads.{Performs}
use Rattle.word_trees.proofs.Performing.{performs_more, arrives, load_performs, store_performs, compute_performs, over_performs, ask_performs_true, ask_performs_false}
use Rattle.frame_words.specs.Layouts.{Layout, PASS}
use Rattle.frame_words.specs.ValueWords.{NIL, TRUE, word_for, tag_of, header_of}
use Rattle.frame_words.specs.Contents.{Escapes}
use Rattle.frame_words.specs.Origins.{IsRead}
use Rattle.frame_words.proofs.Values.{fixnum_known, header_is, tag_is}
use Rattle.select_rows.specs.Macros.{Decision, by_test, unless, either, has_header, is_object, choose, meet, fault, var, of_var, word}
use Rattle.select_rows.specs.Kept.{Has, Keeps, Binds, Comes}
use Rattle.select_rows.proofs.Keeping.{may_read, may_reach, keeps_binds, keeps_pass, passing, pass_read, pass_found, binds_same, binds_one, binds_then, bound_word}
use Rattle.select_rows.proofs.Checks.{fault_performs, right_tag}

abbrev pub is_one_of : ℕ → List ℕ → Bool
is_one_of hd [] = false
is_one_of hd (h ∷ headers) = (hd == h) || is_one_of hd headers

abbrev pub header_cost : List ℕ → ℕ
header_cost [] = 0
header_cost (h ∷ headers) = 3 + header_cost headers

module _ (words : Words) (sizes : Sizes) (l : Layout) (e : Escapes) (t : ℕ) (s : State) (start : Core) (to : Var) (rest : Tree) where
  abbrev pub performs : Row → ℕ → ℕ → Tree → Core → Type 0
  performs row least k tree c = Performs words sizes (Comes words sizes l e t s start to rest row) least k tree c

  -- ---- a value

  pub arrive : (c : Core) (v : Val) (n : ℕ) (stamp : Stamp) → Keeps sizes l e t s s start c → word_for l s v ≡ Some n → performs (Gives v) 0 0 rest (binding c to (Number n) stamp)
  arrive c v n stamp keeps is =
      arrives words sizes (Comes words sizes l e t s start to rest (Gives v))
      (λ block place moves steps spelled. record { core = c; number = n; stamp = stamp; keeps = keeps; is = is; block = block; place = place; moves = moves; steps = steps; there = refl; spelled = spelled })

  -- a word that is read
  pub load_gives : (c : Core) (v : Val) (base : Operand) (n m : ℕ) (offset : ℤ) → Keeps sizes l e t s s start c → word_in c base ≡ Some (Number n) → IsRead c.storage (moved n offset) (Number m) → word_for l s v ≡ Some m → performs (Gives v) 1 2 (Do (op.Load to base offset) rest) c
  load_gives c v base n m offset keeps held read is =
      load_performs words sizes (Comes words sizes l e t s start to rest (Gives v)) n (Number m) held read.reads (may_read words sizes c base (moved n offset) read.outside) (arrive c v m _ keeps is)

  -- ---- a number that fits, or the fault

  number_by : (b : Bool) (z : ℤ) (c : Core) (kind : Arith) (a b' : Operand) (x y : ℕ) → in_range z ≡ b → Keeps sizes l e t s s start c → word_in c a ≡ Some (Number x) → word_in c b' ≡ Some (Number y) → computed kind x y ≡ (if b then computing.Gives (fixnum_word z) else computing.Over) → performs (if b then Gives (FixV z) else Faults FixnumOverflow) 1 5 (Or (Compute to kind a b') (fault 7) rest) c
  number_by true z c kind a b' x y range keeps ea eb r =
      performs_more words sizes (Comes words sizes l e t s start to rest (Gives (FixV z))) 5 (omega arith)
      (compute_performs words sizes (Comes words sizes l e t s start to rest (Gives (FixV z))) x y (fixnum_word z) ea eb r (arrive c (FixV z) (fixnum_word z) None keeps (fixnum_known l s z (record { ranged = range }))))
  number_by false z c kind a b' x y range keeps ea eb r =
      over_performs words sizes (Comes words sizes l e t s start to rest (Faults FixnumOverflow)) x y ea eb r (fault_performs words sizes l e t s start to rest 7 FixnumOverflow c refl keeps)

  pub number_performs : (z : ℤ) (c : Core) (kind : Arith) (a b : Operand) (x y : ℕ) → Keeps sizes l e t s s start c → word_in c a ≡ Some (Number x) → word_in c b ≡ Some (Number y) → computed kind x y ≡ fixnum_result z → performs (number z) 1 5 (Or (Compute to kind a b) (fault 7) rest) c
  number_performs z c kind a b x y keeps ea eb r = number_by (in_range z) z c kind a b x y refl keeps ea eb r

  -- ---- decisions

  -- the decision goes on with the tree of the answer, and binds nothing but variables from t on
  pub record Decides (row : Row) (c : Core) (b : Bool) (cost : ℕ) (decide : Decision) : Type 0 where
    pub decides : (one other : Tree) (k : ℕ) → ((d : Core) → Binds t c d → performs row 1 k (if b then one else other) d) → performs row 1 (cost + k) (decide one other) c

  test_by : (b : Bool) (row : Row) (c : Core) (how : Test) (a b' : Operand) (x y : Word) (one other : Tree) (k : ℕ) → word_in c a ≡ Some x → word_in c b' ≡ Some y → compared how x y ≡ Some b → performs row 1 k (if b then one else other) c → performs row 1 (3 + k) (Ask how a b' one other) c
  test_by true row c how a b' x y one other k ea eb r p = ask_performs_true words sizes (Comes words sizes l e t s start to rest row) x y ea eb r p
  test_by false row c how a b' x y one other k ea eb r p = ask_performs_false words sizes (Comes words sizes l e t s start to rest row) x y ea eb r p

  pub test_decides : (row : Row) (c : Core) (b : Bool) (how : Test) (a b' : Operand) (x y : Word) → word_in c a ≡ Some x → word_in c b' ≡ Some y → compared how x y ≡ Some b → Decides row c b 3 (by_test how a b')
  test_decides row c b how a b' x y ea eb r = record { decides = λ one other k p. test_by b row c how a b' x y one other k ea eb r (p c (binds_same t c)) }

  flipped : (b : Bool) (one other : Tree) → (if not b then one else other) ≡ (if b then other else one)
  flipped true one other = refl
  flipped false one other = refl

  pub unless_decides : (row : Row) (c : Core) (b : Bool) (cost : ℕ) (decide : Decision) → Decides row c b cost decide → Decides row c (not b) cost (unless decide)
  unless_decides row c b cost decide h = record { decides = λ one other k p. h.decides other one k (λ d binds. subst (λ tree. performs row 1 k tree d) (flipped b one other) (p d binds)) }

  either_by : (b b' : Bool) (row : Row) (c : Core) (cost cost' k : ℕ) (second : Decision) (one other : Tree) → ((d : Core) → Binds t c d → Decides row d b' cost' second) → ((d : Core) → Binds t c d → performs row 1 k (if b || b' then one else other) d) → (d : Core) → Binds t c d → performs row 1 (cost' + k) (if b then one else second one other) d
  either_by true b' row c cost cost' k second one other h p d binds = performs_more words sizes (Comes words sizes l e t s start to rest row) (cost' + k) (omega arith) (p d binds)
  either_by false b' row c cost cost' k second one other h p d binds = let q = h d binds in q.decides one other k (λ x more. p x (binds_then t c d x binds more))

  pub either_decides : (row : Row) (c : Core) (b b' : Bool) (cost cost' : ℕ) (first second : Decision) → Decides row c b cost first → ((d : Core) → Binds t c d → Decides row d b' cost' second) → Decides row c (b || b') (cost + cost') (either first second)
  either_decides row c b b' cost cost' first second h h' = record {
    decides = λ one other k p.
        let n : cost + (cost' + k) ≡ cost + cost' + k = omega arith in
        subst (λ m. performs row 1 m (first one (second one other)) c) n (h.decides one (second one other) (cost' + k) (either_by b b' row c cost cost' k second one other h' p));
  }

  -- ---- one of some headers

  head_by : (b b' : Bool) (h : ℕ) (headers : List ℕ) (hd u k : ℕ) (row : Row) (d : Core) (one other : Tree) → (hd == h) ≡ b → word_in d (of_var u) ≡ Some (Number hd) → performs row 1 k (if b || b' then one else other) d → (performs row 1 k (if b' then one else other) d → performs row 1 (header_cost headers + k) (has_header u headers one other) d) → performs row 1 (3 + (header_cost headers + k)) (Ask test.Eq (of_var u) (word h) one (has_header u headers one other)) d
  head_by true b' h headers hd u k row d one other same held p more = ask_performs_true words sizes (Comes words sizes l e t s start to rest row) (Number hd) (Number h) held refl (ap Some same) (performs_more words sizes (Comes words sizes l e t s start to rest row) (header_cost headers + k) (omega arith) p)
  head_by false b' h headers hd u k row d one other same held p more = ask_performs_false words sizes (Comes words sizes l e t s start to rest row) (Number hd) (Number h) held refl (ap Some same) (more p)

  headers_by : (headers : List ℕ) (hd u k : ℕ) (row : Row) (d : Core) (one other : Tree) → word_in d (of_var u) ≡ Some (Number hd) → performs row 1 k (if is_one_of hd headers then one else other) d → performs row 1 (header_cost headers + k) (has_header u headers one other) d
  headers_by [] hd u k row d one other held p = performs_more words sizes (Comes words sizes l e t s start to rest row) (0 + k) (omega arith) p
  headers_by (h ∷ headers) hd u k row d one other held p =
      let n : 3 + (header_cost headers + k) ≡ 3 + header_cost headers + k = omega arith in
      subst (λ m. performs row 1 m (Ask test.Eq (of_var u) (word h) one (has_header u headers one other)) d) n
      (head_by (hd == h) (is_one_of hd headers) h headers hd u k row d one other refl held p (λ q. headers_by headers hd u k row d one other held q))

  pub object_decides : (row : Row) (c : Core) (headers : List ℕ) (u : ℕ) (a : Operand) (v : Val) (hd : ℕ) → t ≤ u → Has l s t c a v → Keeps sizes l e t s s start c → tag_of v ≡ 2 → header_of v ≡ Some hd → Decides row c (is_one_of hd headers) (5 + header_cost headers) (is_object a headers u)
  object_decides row c headers u a v hd le h keeps tag is = record {
    decides = λ one other k p.
        let read : IsRead c.storage (moved h.number (negsuc 1)) (Number hd) = header_is sizes l e s c.storage c.next c.output keeps.data_held v h.number hd h.is is in
        let stamp : Stamp = some_stamp (long_at c.longs (moved h.number (negsuc 1))) in
        let d : Core = binding c (var u) (Number hd) stamp in
        let n : 3 + (2 + (header_cost headers + k)) ≡ 5 + header_cost headers + k = omega arith in
        subst (λ m. performs row 1 m (is_object a headers u one other) c) n
        (right_tag words sizes l e t s start to rest row 2 (2 + (header_cost headers + k)) c a v _ other h (ap (λ y. y == 2) tag)
        (load_performs words sizes (Comes words sizes l e t s start to rest row) h.number (Number hd) h.held read.reads (may_read words sizes c a (moved h.number (negsuc 1)) read.outside)
        (headers_by headers hd u k row d one other (bound_word c u (Number hd) stamp) (p d (binds_one t c u (Number hd) stamp le)))));
  }

  pub no_object_decides : (row : Row) (c : Core) (headers : List ℕ) (u : ℕ) (a : Operand) (v : Val) → Has l s t c a v → (tag_of v == 2) ≡ false → Decides row c false (5 + header_cost headers) (is_object a headers u)
  no_object_decides row c headers u a v h tag = record {
    decides = λ one other k p.
        performs_more words sizes (Comes words sizes l e t s start to rest row) (5 + header_cost headers + k) (omega arith)
        (ask_performs_false words sizes (Comes words sizes l e t s start to rest row) (Number h.number) (Number 0) h.held refl
        (ap (λ m. Some (m == 2)) (tag_is l s v h.number h.is) ∙ ap Some tag) (p c (binds_same t c)));
  }

  -- ---- a truth

  meet_gives : (c d : Core) (v : Val) (n : ℕ) → Keeps sizes l e t s s start d → long_at d.storage (static_at PASS) ≡ Some (Number n) → word_for l s v ≡ Some n → performs (Gives v) 1 2 (meet to rest) d
  meet_gives c d v n keeps found is = load_gives d v (operand.Static PASS) (static_at PASS) n (pos 0) keeps refl (record { reads = found; outside = omega arith }) is

  chosen_by : (b : Bool) (c d : Core) → Keeps sizes l e t s s start c → Binds t (passing c NIL) d → performs (Gives (if b then TrueV else NilV)) 1 8 (if b then (Do (op.Store (operand.Static PASS) (pos 0) (word TRUE)) (Ask test.Eq (word 0) (word 0) (meet to rest) (meet to rest))) else meet to rest) d
  chosen_by true c d keeps binds =
      let k : Keeps sizes l e t s s start d = keeps_binds sizes l e t s start (passing c NIL) d (keeps_pass sizes l e t s start c NIL keeps) binds in
      let old = pass_read sizes l e s d.storage d.next d.output k.data_held in
      store_performs words sizes (Comes words sizes l e t s start to rest (Gives TrueV)) (static_at PASS) (Number TRUE) old.0 refl refl old.1 (may_reach words sizes d (operand.Static PASS) (static_at PASS) (omega arith))
      (ask_performs_true words sizes (Comes words sizes l e t s start to rest (Gives TrueV)) (Number 0) (Number 0) refl refl refl
      (meet_gives c (passing d TRUE) TrueV TRUE (keeps_pass sizes l e t s start d TRUE k) (pass_found sizes l e s d.storage d.next d.output k.data_held (Number TRUE)) refl))
  chosen_by false c d keeps binds =
      let k : Keeps sizes l e t s s start d = keeps_binds sizes l e t s start (passing c NIL) d (keeps_pass sizes l e t s start c NIL keeps) binds in
      let found : long_at d.storage (static_at PASS) ≡ Some (Number NIL) = ap (λ m. long_at m (static_at PASS)) binds.storage ∙ pass_found sizes l e s c.storage c.next c.output keeps.data_held (Number NIL) in
      performs_more words sizes (Comes words sizes l e t s start to rest (Gives NilV)) 8 (omega arith) (meet_gives c d NilV NIL k found refl)

  pub choose_performs : (c : Core) (b : Bool) (cost : ℕ) (decide : Decision) → Keeps sizes l e t s s start c → Decides (truth b) (passing c NIL) b cost decide → performs (truth b) 1 (3 + (cost + 8)) (choose decide to rest) c
  choose_performs c b cost decide keeps h =
      let old = pass_read sizes l e s c.storage c.next c.output keeps.data_held in
      store_performs words sizes (Comes words sizes l e t s start to rest (truth b)) (static_at PASS) (Number NIL) old.0 refl refl old.1 (may_reach words sizes c (operand.Static PASS) (static_at PASS) (omega arith))
      (h.decides _ _ 8 (λ d binds. chosen_by b c d keeps binds))

  -- operands hold what they held
  pub has_pass : (c : Core) (y : Operand) (v : Val) (n : ℕ) → Has l s t c y v → Has l s t (passing c n) y v
  has_pass c (operand.Var x) v n h = record { number = h.number; is = h.is; held = h.held; older = h.older }
  has_pass c (operand.Word x) v n h = record { number = h.number; is = h.is; held = h.held; older = h.older }
  has_pass c (operand.Static x) v n h = record { number = h.number; is = h.is; held = h.held; older = h.older }
  has_pass c (operand.Code x) v n h = record { number = h.number; is = h.is; held = h.held; older = h.older }
  has_pass c (operand.Slot x) v n h = record { number = h.number; is = h.is; held = h.held; older = h.older }
