-- What steps behind each other add.
use Rattle.std.proofs.Common.{◌≡◌, ℕ, zero, suc, ◌+◌, ◌≤◌, List, [], ◌∷◌, ◌++◌, length, refl, sym, ap, subst, ◌∙◌, arith, append_assoc}
use Rattle.std.proofs.lemmas.List.{append-nil, length-append}
use Rattle.layout_tables.specs.declared.requests.Request.{Request}
use Rattle.layout_tables.specs.declared.requests.Request.TheVariants as For
use Rattle.layout_tables.specs.declared.requests.Work.{Work}
use Rattle.frame_ir.specs.declared.forms.FrameOp.{FrameOp}
use Rattle.frame_ir.specs.Parts.{op_binds}
use Rattle.layout_relation.specs.Laid.{numbers}
use Rattle.layout_tables.specs.Sketches.{counted}
use Rattle.layout_tables.specs.Additions.{Rises, bound_by, arms_from, SeesBelow, Adds}
use Rattle.cps_ir.proofs.ProperLists.{each_append, each_more}
use Rattle.layout_tables.proofs.Growing.{below_more}

-- ---- numbers that rise

pub rises_from : (n m : ℕ) (xs : List ℕ) (to : ℕ) → n ≤ m → Rises m xs to → Rises n xs to
rises_from n m [] to le h = omega (arith, le, h)
rises_from n m (x ∷ xs) to le h = ((let a = h.0 in omega (arith, le, a)), h.1)

pub rises_more : (n : ℕ) (xs : List ℕ) (m : ℕ) (ys : List ℕ) (to : ℕ) → Rises n xs m → Rises m ys to → Rises n (xs ++ ys) to
rises_more n [] m ys to h k = rises_from n m ys to h k
rises_more n (x ∷ xs) m ys to h k = (h.0, rises_more (suc x) xs m ys to h.1 k)

pub rises_counted : (n k to : ℕ) → n + k ≤ to → Rises n (counted n k) to
rises_counted n zero to le = omega (arith, le)
rises_counted n (suc k) to le = (omega arith, rises_counted (suc n) k to (omega (arith, le)))

pub bound_by_join : (xs ys : List FrameOp) → bound_by (xs ++ ys) ≡ bound_by xs ++ bound_by ys
bound_by_join [] ys = refl
bound_by_join (op ∷ xs) ys = ap (λ zs. numbers (op_binds op) ++ zs) (bound_by_join xs ys) ∙ sym (append_assoc (numbers (op_binds op)) (bound_by xs) (bound_by ys))

-- ---- places of arms

pub arms_join : (n : ℕ) (xs ys : List Request) → arms_from n (xs ++ ys) ≡ arms_from n xs ++ arms_from (n + length xs) ys
arms_join n [] ys = ap (λ k. arms_from k ys) (omega arith)
arms_join n (For.CodeOf l ∷ xs) ys = arms_join (suc n) xs ys ∙ ap (λ k. arms_from (suc n) xs ++ arms_from k ys) (omega arith)
arms_join n (For.MethodOf l kept ∷ xs) ys = arms_join (suc n) xs ys ∙ ap (λ k. arms_from (suc n) xs ++ arms_from k ys) (omega arith)
arms_join n (For.Begins vars site term ∷ xs) ys = arms_join (suc n) xs ys ∙ ap (λ k. arms_from (suc n) xs ++ arms_from k ys) (omega arith)
arms_join n (For.ArmOf vars site term ∷ xs) ys = ap (λ zs. n ∷ zs) (arms_join (suc n) xs ys ∙ ap (λ k. arms_from (suc n) xs ++ arms_from k ys) (omega arith))
arms_join n (For.PassesOn ∷ xs) ys = arms_join (suc n) xs ys ∙ ap (λ k. arms_from (suc n) xs ++ arms_from k ys) (omega arith)
arms_join n (For.Resumes param body site join ∷ xs) ys = arms_join (suc n) xs ys ∙ ap (λ k. arms_from (suc n) xs ++ arms_from k ys) (omega arith)

-- ---- what arms see

pub rises_over : (n : ℕ) (xs : List ℕ) (to : ℕ) → Rises n xs to → n ≤ to
rises_over n [] to h = h
rises_over n (x ∷ xs) to h = let a = h.0 in let b = rises_over (suc x) xs to h.1 in omega (arith, a, b)

pub sees_more : (n m : ℕ) → n ≤ m → (r : Request) → SeesBelow n r → SeesBelow m r
sees_more n m le (For.ArmOf vars site term) h = below_more n m vars le h
sees_more n m le (For.CodeOf l) h = tt
sees_more n m le (For.MethodOf l kept) h = tt
sees_more n m le (For.Begins vars site term) h = tt
sees_more n m le For.PassesOn h = tt
sees_more n m le (For.Resumes param body site join) h = tt

-- ---- steps

pub adds_none : (old : Work) → Adds old old [] []
adds_none old = record { added = []; requests = sym (append-nil old.requests.items); asks = refl; sees = tt; rises = omega arith }

-- new variables alone
pub adds_bound : (old new : Work) (binds : List ℕ) → new.requests ≡ old.requests → Rises old.next binds new.next → Adds old new binds []
adds_bound old new binds rs h = record { added = []; requests = ap (λ (v : _). v.items) rs ∙ sym (append-nil old.requests.items); asks = refl; sees = tt; rises = h }

pub adds_variable : (old new : Work) (to : ℕ) → new.requests ≡ old.requests → to ≡ old.next → new.next ≡ old.next + 1 → Adds old new (to ∷ []) []
adds_variable old new to rs is next = adds_bound old new (to ∷ []) rs (omega (arith, is), omega (arith, is, next))

-- a request alone
pub adds_asked : (old new : Work) (r : Request) → new.requests.items ≡ old.requests.items ++ r ∷ [] → new.next ≡ old.next → SeesBelow new.next r → Adds old new [] (arms_from (length old.requests.items) (r ∷ []))
adds_asked old new r rs n below = record { added = r ∷ []; requests = rs; asks = refl; sees = (below, tt); rises = omega (arith, n) }

pub adds_more : (old mid new : Work) (xs ys as_ bs : List ℕ) → Adds old mid xs as_ → Adds mid new ys bs → Adds old new (xs ++ ys) (as_ ++ bs)
adds_more old mid new xs ys as_ bs g h = record {
  added = g.added ++ h.added;
  requests = h.requests ∙ ap (λ zs. zs ++ h.added) g.requests ∙ append_assoc old.requests.items g.added h.added;
  asks = arms_join (length old.requests.items) g.added h.added ∙ ap (λ zs. zs ++ arms_from (length old.requests.items + length g.added) h.added) g.asks
      ∙ ap (λ k. as_ ++ arms_from k h.added) (sym (ap length g.requests ∙ length-append old.requests.items g.added)) ∙ ap (λ zs. as_ ++ zs) h.asks;
  sees = each_append (SeesBelow new.next) g.added h.added (each_more (SeesBelow mid.next) (SeesBelow new.next) g.added (sees_more mid.next new.next (rises_over mid.next ys new.next h.rises)) g.sees) h.sees;
  rises = rises_more old.next xs mid.next ys new.next g.rises h.rises;
}

-- behind a step that binds nothing
pub adds_behind : (old mid new : Work) (xs as_ bs : List ℕ) → Adds old mid xs as_ → Adds mid new [] bs → Adds old new xs (as_ ++ bs)
adds_behind old mid new xs as_ bs g h = subst (λ zs. Adds old new zs (as_ ++ bs)) (append-nil xs) (adds_more old mid new xs [] as_ bs g h)

-- operations behind others
pub adds_ops : (old mid new : Work) (made more : List FrameOp) → Adds old mid (bound_by made) [] → Adds mid new (bound_by more) [] → Adds old new (bound_by (made ++ more)) []
adds_ops old mid new made more g h = subst (λ zs. Adds old new zs []) (sym (bound_by_join made more)) (adds_more old mid new (bound_by made) (bound_by more) [] [] g h)
