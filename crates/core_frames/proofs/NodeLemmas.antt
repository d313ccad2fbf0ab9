-- Nodes from their parts.
use Rattle.std.proofs.Common.{◌≡◌, ℕ, zero, suc, ◌+◌, Bool, List, [], ◌∷◌, ◌++◌, map, refl, sym, ap, ◌∙◌, arith}
use Rattle.t_core.specs.Nodes.{Part, part, early, block_parts}
use Rattle.expansion.specs.Lists.{numbered}

pub numbered_push : (first n : ℕ) → numbered first (n + 1) ≡ numbered first n ++ record { 0 = first + n } ∷ []
numbered_push first zero = let e : first + 0 ≡ first = omega arith in rw e refl
numbered_push first (suc n) =
    let a : suc n + 1 ≡ suc (n + 1) = omega arith in
    let b : first + suc n ≡ suc first + n = omega arith in
    rw a (rw b (ap (λ vars. record { 0 = first } ∷ vars) (numbered_push (suc first) n)))

-- the parts of a block whose last item is this one
pub block_parts_push : (ks : List ℕ) (k : ℕ) (tail : Bool) → block_parts (ks ++ k ∷ []) tail ≡ map early ks ++ part k [] tail ∷ []
block_parts_push [] k tail = refl
block_parts_push (a ∷ []) k tail = refl
block_parts_push (a ∷ b ∷ ks) k tail = ap (λ parts. early a ∷ parts) (block_parts_push (b ∷ ks) k tail)

pub block_of : (keys ks : List ℕ) (k : ℕ) (tail : Bool) (parts : List Part) (last : Part) → keys ≡ ks ++ k ∷ [] → map early ks ≡ parts → last ≡ part k [] tail
    → block_parts keys tail ≡ parts ++ last ∷ []
block_of keys ks k tail parts last e f g =
    ap (λ x. block_parts x tail) e ∙ block_parts_push ks k tail ∙ ap (λ x. x ++ part k [] tail ∷ []) f ∙ ap (λ x. parts ++ x ∷ []) (sym g)
