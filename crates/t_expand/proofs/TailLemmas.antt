-- Whether a part of a node stands in a tail place, by the node's shape and by where the part stands among the parts.
use Rattle.std.proofs.Common.{◌≡◌, ◌⊎◌, inl, inr, ℕ, suc, zero, ◌+◌, ◌<◌, ◌==◌, Bool, true, false, not, ◌&&◌, List, [], ◌∷◌, ◌++◌, map, length, Some, slice_get, refl, sym, ap, subst, ◌∙◌, arith}
use Rattle.std.proofs.lemmas.Bool.{eq-eqb, ne_eqb}
use Rattle.std.proofs.lemmas.List.{length-append, length-map}
use Rattle.std.proofs.lemmas.Option.{same_Some}
use Rattle.t_core.specs.declared.forms.Core.{Core}
use Rattle.t_core.specs.declared.forms.Core.TheVariants as Node
use Rattle.t_core.specs.Nodes.{Part, part, early, block_parts, parts_of}
use Rattle.t_rows.specs.declared.rows.Shape.{Shape}
use Rattle.t_rows.specs.declared.rows.Shape.TheVariants as shape
use Rattle.core_frames.specs.Building.{IsNode}

-- ---- where a part stands

-- it is the last one, or stands before it in no tail place
abbrev IsPlaced : ℕ → ℕ → Bool → Part → Type 0
IsPlaced count i tail p = ((i + 1 < count) × (p.tail ≡ false)) ⊎ ((i + 1 ≡ count) × (p.tail ≡ tail))

next_placed : (count i : ℕ) (tail : Bool) (p : Part) → IsPlaced count i tail p → IsPlaced (suc count) (suc i) tail p
next_placed count i tail p (inl h) = let l = h.0 in inl (omega (arith, l), h.1)
next_placed count i tail p (inr h) = let l = h.0 in inr (omega (arith, l), h.1)

behind_placed : (mk : ℕ → Part) → ((k : ℕ) → (mk k).tail ≡ false) → (ks : List ℕ) (q : Part) (i : ℕ) (p : Part) → slice_get (map mk ks ++ q ∷ []) i ≡ Some p
    → IsPlaced (suc (length ks)) i q.tail p
behind_placed mk early_ones [] q zero p e = inr (omega arith, ap (λ (x : Part). x.tail) (sym (same_Some q p e)))
behind_placed mk early_ones [] q (suc i) p e = absurd (let x : ⊥ = cc in x)
behind_placed mk early_ones (k ∷ ks) q zero p e = inl (omega arith, ap (λ (x : Part). x.tail) (sym (same_Some (mk k) p e)) ∙ early_ones k)
behind_placed mk early_ones (k ∷ ks) q (suc i) p e = next_placed (suc (length ks)) i q.tail p (behind_placed mk early_ones ks q i p e)

block_placed : (ks : List ℕ) (tail : Bool) (i : ℕ) (p : Part) → slice_get (block_parts ks tail) i ≡ Some p → IsPlaced (length ks) i tail p
block_placed [] tail i p e = absurd (let x : ⊥ = cc in x)
block_placed (k ∷ []) tail zero p e = inr (omega arith, ap (λ (x : Part). x.tail) (sym (same_Some (part k [] tail) p e)))
block_placed (k ∷ []) tail (suc i) p e = absurd (let x : ⊥ = cc in x)
block_placed (k ∷ j ∷ ks) tail zero p e = inl (omega arith, ap (λ (x : Part). x.tail) (sym (same_Some (early k) p e)))
block_placed (k ∷ j ∷ ks) tail (suc i) p e = next_placed (length (j ∷ ks)) i tail p (block_placed (j ∷ ks) tail i p e)

block_count : (ks : List ℕ) (tail : Bool) → length (block_parts ks tail) ≡ length ks
block_count [] tail = refl
block_count (k ∷ []) tail = refl
block_count (k ∷ j ∷ ks) tail = ap suc (block_count (j ∷ ks) tail)

behind_count : (mk : ℕ → Part) (ks : List ℕ) (q : Part) → length (map mk ks ++ q ∷ []) ≡ suc (length ks)
behind_count mk ks q = let a = length-append (map mk ks) (q ∷ []) in let b = length-map ks mk in omega (arith, a, b)

all_placed : (A : Type 0) (mk : A → Part) (b : Bool) → ((k : A) → (mk k).tail ≡ b) → (ks : List A) (i : ℕ) (p : Part) → slice_get (map mk ks) i ≡ Some p → p.tail ≡ b
all_placed A mk b flags [] i p e = absurd (let x : ⊥ = cc in x)
all_placed A mk b flags (k ∷ ks) zero p e = ap (λ (x : Part). x.tail) (sym (same_Some (mk k) p e)) ∙ flags k
all_placed A mk b flags (k ∷ ks) (suc i) p e = all_placed A mk b flags ks i p e

-- ---- its flag

and_none : (b : Bool) → (b && false) ≡ false
and_none true = refl
and_none false = refl

and_all : (b : Bool) → (b && true) ≡ b
and_all true = refl
and_all false = refl

-- it is in a tail place where the node is and it is the last part
last_flag : (tail last : Bool) (count i : ℕ) (p : Part) → last ≡ (i + 1 == count) → IsPlaced count i tail p → (tail && last) ≡ p.tail
last_flag tail last count i p e (inl h) =
    let low = h.0 in
    let none : last ≡ false = e ∙ ne_eqb (i + 1) count (λ s. omega (arith, s, low)) in
    ap (λ b. tail && b) none ∙ and_none tail ∙ sym h.1
last_flag tail last count i p e (inr h) =
    let here : last ≡ true = e ∙ eq-eqb (i + 1) count h.0 in
    ap (λ b. tail && b) here ∙ and_all tail ∙ sym h.1

-- the flag by the node's shape, by the node's own one, and by whether the part is the first or the last one
abbrev pub flag : Shape → Bool → Bool → Bool → Bool
flag shape.Lambda tail first last = true
flag shape.If tail first last = tail && not first
flag shape.Block tail first last = tail && last
flag shape.Let tail first last = tail && last
flag shape.Labels tail first last = tail && last
flag (shape.Object ops) tail first last = not first
flag _ tail first last = false

first_true : (first : Bool) → first ≡ (0 == 0) → first ≡ true
first_true first e = e

later_false : (first : Bool) (i : ℕ) → first ≡ (suc i == 0) → first ≡ false
later_false first i e = e ∙ ne_eqb (suc i) 0 (λ s. omega (arith, s))

-- the part of a node has this flag
pub part_flag : (s : Shape) (tail first last : Bool) (node : Core) (i : ℕ) (p : Part) → IsNode s tail node → slice_get (parts_of node tail) i ≡ Some p → first ≡ (i == 0)
    → last ≡ (i + 1 == length (parts_of node tail)) → flag s tail first last ≡ p.tail
part_flag (shape.Local v) tail first last (Node.Local w) i p is at f l = absurd (let x : ⊥ = cc in x)
part_flag (shape.Global g) tail first last (Node.Global h) i p is at f l = absurd (let x : ⊥ = cc in x)
part_flag (shape.BuiltinValue b) tail first last (Node.Builtin q) i p is at f l = absurd (let x : ⊥ = cc in x)
part_flag (shape.OpValue o) tail first last (Node.Op q) i p is at f l = absurd (let x : ⊥ = cc in x)
part_flag shape.Lambda tail first last (Node.Lambda params body) zero p is at f l = ap (λ (x : Part). x.tail) (same_Some (part body params true) p at)
part_flag shape.Lambda tail first last (Node.Lambda params body) (suc i) p is at f l = absurd (let x : ⊥ = cc in x)
part_flag shape.If tail first last (Node.If test a b) zero p is at f l =
    ap (λ x. tail && not x) (first_true first f) ∙ and_none tail ∙ ap (λ (x : Part). x.tail) (same_Some (early test) p at)
part_flag shape.If tail first last (Node.If test a b) (suc zero) p is at f l =
    ap (λ x. tail && not x) (later_false first 0 f) ∙ and_all tail ∙ ap (λ (x : Part). x.tail) (same_Some (part a [] tail) p at)
part_flag shape.If tail first last (Node.If test a b) (suc (suc zero)) p is at f l =
    ap (λ x. tail && not x) (later_false first 1 f) ∙ and_all tail ∙ ap (λ (x : Part). x.tail) (same_Some (part b [] tail) p at)
part_flag shape.If tail first last (Node.If test a b) (suc (suc (suc i))) p is at f l = absurd (let x : ⊥ = cc in x)
part_flag shape.Block tail first last (Node.Block items) i p is at f l =
    last_flag tail last (length items) i p (l ∙ ap (λ n. i + 1 == n) (block_count items tail)) (block_placed items tail i p at)
part_flag shape.Let tail first last (Node.Let vars values body) i p is at f l =
    last_flag tail last (suc (length values)) i p (l ∙ ap (λ n. i + 1 == n) (behind_count early values (part body vars tail)))
    (behind_placed early (λ k. refl) values (part body vars tail) i p at)
part_flag shape.Labels tail first last (Node.Labels vars lambdas body) i p is at f l =
    last_flag tail last (suc (length lambdas)) i p (l ∙ ap (λ n. i + 1 == n) (behind_count (λ k. part k vars false) lambdas (part body vars tail)))
    (behind_placed (λ k. part k vars false) (λ k. refl) lambdas (part body vars tail) i p at)
part_flag (shape.SetLocal v) tail first last (Node.SetLocal w value) i p is at f l = sym (all_placed ℕ early false (λ k. refl) (value ∷ []) i p at)
part_flag (shape.SetGlobal g) tail first last (Node.SetGlobal h value) i p is at f l = sym (all_placed ℕ early false (λ k. refl) (value ∷ []) i p at)
part_flag shape.Catch tail first last (Node.Catch v body) zero p is at f l = ap (λ (x : Part). x.tail) (same_Some (part body (v ∷ []) false) p at)
part_flag shape.Catch tail first last (Node.Catch v body) (suc i) p is at f l = absurd (let x : ⊥ = cc in x)
part_flag (shape.Object ops) tail first last (Node.Object proc methods) zero p is at f l =
    ap not (first_true first f) ∙ ap (λ (x : Part). x.tail) (same_Some (early proc) p at)
part_flag (shape.Object ops) tail first last (Node.Object proc methods) (suc i) p is at f l =
    ap not (later_false first i f) ∙ sym (all_placed _ (λ m. part m.body m.params true) true (λ k. refl) methods i p at)
part_flag shape.Call tail first last (Node.Call operator operands also) i p is at f l = sym (all_placed ℕ early false (λ k. refl) (operator ∷ operands) i p at)
part_flag (shape.Primitive b) tail first last (Node.Prim q operands) i p is at f l = sym (all_placed ℕ early false (λ k. refl) operands i p at)
part_flag _ tail first last _ i p is at f l = absurd is

-- of a node of a given shape
pub by_shape : (s x : Shape) (tail first last : Bool) (node : Core) (i : ℕ) (p : Part) → s ≡ x → flag s tail first last ≡ p.tail → flag x tail first last ≡ p.tail
by_shape s x tail first last node i p is e = subst (λ z. flag z tail first last ≡ p.tail) is e

-- of a shape without tail places of its own
pub other_flag : (s : Shape) (tail first last : Bool) → (s ≡ shape.Lambda → ⊥) → (s ≡ shape.If → ⊥) → (s ≡ shape.Block → ⊥) → (s ≡ shape.Let → ⊥) → (s ≡ shape.Labels → ⊥)
    → ((ops : List ℕ) → s ≡ shape.Object ops → ⊥) → false ≡ flag s tail first last
other_flag shape.Lambda tail first last a b c d e f = absurd (a refl)
other_flag shape.If tail first last a b c d e f = absurd (b refl)
other_flag shape.Block tail first last a b c d e f = absurd (c refl)
other_flag shape.Let tail first last a b c d e f = absurd (d refl)
other_flag shape.Labels tail first last a b c d e f = absurd (e refl)
other_flag (shape.Object ops) tail first last a b c d e f = absurd (f ops refl)
other_flag _ tail first last a b c d e f = refl

-- of a shape whose last part stands in the node's place
last_shape : (s : Shape) (tail first last : Bool) → (s ≡ shape.Block) ⊎ ((s ≡ shape.Let) ⊎ (s ≡ shape.Labels)) → flag s tail first last ≡ (tail && last)
last_shape s tail first last (inl e) = ap (λ x. flag x tail first last) e
last_shape s tail first last (inr (inl e)) = ap (λ x. flag x tail first last) e
last_shape s tail first last (inr (inr e)) = ap (λ x. flag x tail first last) e

pub last_in_tail : (s : Shape) (tail first last : Bool) → (s ≡ shape.Block) ⊎ ((s ≡ shape.Let) ⊎ (s ≡ shape.Labels)) → tail ≡ true → last ≡ flag s tail first last
last_in_tail s tail first last is e = sym (last_shape s tail first last is ∙ ap (λ b. b && last) e)

pub last_elsewhere : (s : Shape) (tail first last : Bool) → (s ≡ shape.Block) ⊎ ((s ≡ shape.Let) ⊎ (s ≡ shape.Labels)) → tail ≡ false → tail ≡ flag s tail first last
last_elsewhere s tail first last is e = e ∙ sym (last_shape s tail first last is ∙ ap (λ b. b && last) e)
