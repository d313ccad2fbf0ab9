-- What was made stays.
use Rattle.std.proofs.Common.{List, arith, le_trans}
use Rattle.t_prim.specs.Values.{Val, FixV, CharV, NilV, TrueV, SymbolV, StringV, PairV, VectorV, ClosureV, ObjectV, OperationV, BuiltinV, EscapeV, Store}
use Rattle.made_values.specs.Made.{Made, IsLater, IsMade, AreMade, IsMadePair, IsMadeStore}
use Rattle.made_values.proofs.Lists.{each_more}

pub later_same : (a : Made) → IsLater a a
later_same a = record { closures = omega arith; objects = omega arith; locations = omega arith }

pub later_later : (a b c : Made) → IsLater a b → IsLater b c → IsLater a c
later_later a b c h k = record { closures = le_trans h.closures k.closures; objects = le_trans h.objects k.objects; locations = le_trans h.locations k.locations }

module _ (a b : Made) (more : IsLater a b) where
  pub made_later : (v : Val) → IsMade a v → IsMade b v
  made_later (FixV x) h = tt
  made_later (CharV x) h = tt
  made_later NilV h = tt
  made_later TrueV h = tt
  made_later (SymbolV x) h = tt
  made_later (StringV x) h = tt
  made_later (PairV x) h = tt
  made_later (VectorV x) h = tt
  made_later (ClosureV i) h = le_trans h more.closures
  made_later (ObjectV i) h = le_trans h more.objects
  made_later (OperationV x) h = tt
  made_later (BuiltinV x) h = tt
  made_later (EscapeV x) h = tt

  pub values_later : (vs : List Val) → AreMade a vs → AreMade b vs
  values_later vs h = each_more (IsMade a) (IsMade b) vs made_later h

  pub store_later : (s : Store) → IsMadeStore a s → IsMadeStore b s
  store_later s h = record {
    pairs = each_more (IsMadePair a) (IsMadePair b) s.pairs (λ p k. (made_later p.0 k.0, made_later p.1 k.1)) h.pairs;
    vectors = each_more (AreMade a) (AreMade b) s.vectors values_later h.vectors;
  }
