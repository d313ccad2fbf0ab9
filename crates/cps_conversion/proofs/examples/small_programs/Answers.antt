use Rattle.std.proofs.Common.{◌≡◌, ℕ, zero, suc, ◌==◌, Bool, true, false, ◌||◌, [], ◌∷◌, refl, inl, inr, arith}
use Rattle.t_base.specs.declared.shared_parts.Const.TheVariants as Constant
use Rattle.cps_ir.specs.declared.args.Arg.TheVariants as Argument
use Rattle.cps_ir.specs.Parts.{walked_within}
use Rattle.cps_ir.specs.Writing.{var, fix, local, lam}
use Rattle.cps_conversion.proofs.examples.small_programs.Goals as goal

-- the three builtin operations, and what no unit here has
each_op : (P : ℕ → Type 0) → P 0 → P 1 → P 2 → ((o : ℕ) → P (suc (suc (suc o)))) → (o : ℕ) → P o
each_op P a b c f zero = a
each_op P a b c f (suc zero) = b
each_op P a b c f (suc (suc zero)) = c
each_op P a b c f (suc (suc (suc o))) = f o

one_set : (b : Bool) → (b || false) ≡ ((b || false) || false)
one_set true = refl
one_set false = refl

pub returns-clause-sum : goal.returns-clause-sum
unfolding walked_within
returns-clause-sum c = λ alloc. record {
  origins = [];
  translated = record {
    depth = 2;
    shared = refl;
    assigned = λ v. refl;
    forms = (
      0,
      local 0,
      record {
        value = var 0;
        unassigned = refl;
        root_as = record { args = fix 40 ∷ fix 2 ∷ []; over = record { last = 1; inner = []; values = inl (refl, tt, inl (refl, tt, (refl, refl))); stands = refl } };
        gives = refl;
      },
      refl,
    );
    closures = tt;
    globals = refl;
    defaults = each_op _ tt tt tt (λ o. tt);
  };
}

pub returns-clause-assignment : goal.returns-clause-assignment
unfolding walked_within
returns-clause-assignment c = λ alloc. record {
  origins = [];
  translated = record {
    depth = 3;
    shared = refl;
    assigned = λ v. one_set (0 == v.0);
    forms = (
      0,
      local 2,
      record {
        value = var 2;
        unassigned = refl;
        root_as = record {
          args = fix 1 ∷ [];
          inner = [];
          behind = 3;
          start = 2;
          values = inl (refl, tt, (refl, refl));
          assigned = inr (refl, refl, (2, refl, refl));
          body_as = (var 1, 1, record { apart = refl; unassigned = refl }, (refl, (fix 2, record { last = 2; inner = 0 ∷ []; values = inl (refl, tt, (refl, refl)); stands = refl })), (refl, refl));
        };
        gives = refl;
      },
      refl,
    );
    closures = tt;
    globals = refl;
    defaults = each_op _ tt tt tt (λ o. tt);
  };
}

pub returns-clause-labels : goal.returns-clause-labels
unfolding walked_within
returns-clause-labels c = λ alloc. record {
  origins = (0, 2) ∷ (0, 4) ∷ [];
  translated = record {
    depth = 2;
    shared = refl;
    assigned = λ v. refl;
    forms = (
      2,
      local 4,
      record {
        value = var 4;
        unassigned = refl;
        root_as = record {
          names = var 0 ∷ var 1 ∷ [];
          lams = 0 ∷ 1 ∷ [];
          at = 4;
          behind = 3;
          start = 3;
          as_many = refl;
          unset = inl (refl, refl, inl (refl, refl, refl));
          names_for = (inr refl, (inr refl, tt));
          names_new = (record { apart = refl; unassigned = refl }, (record { apart = refl; unassigned = refl }, tt));
          stands = refl;
          lambdas = (
            record {
              lam_at = (
                lam [] 2 0,
                refl,
                record {
                  start = 0;
                  names_new = tt;
                  assigned = refl;
                  body_as = record { f = local 1; args = []; over = record { last = 0; inner = 1 ∷ 0 ∷ []; values = inl (refl, refl, (refl, refl)); stands = refl } };
                },
              );
              behind = omega arith;
              origin = refl;
            },
            (record { lam_at = (lam [] 3 1, refl, record { start = 1; names_new = tt; assigned = refl; body_as = refl }); behind = omega arith; origin = refl }, tt),
          );
          sets = inl (refl, inl (refl, refl));
          body_as = record { f = local 0; args = []; over = record { last = 3; inner = 1 ∷ 0 ∷ []; values = inl (refl, refl, (refl, refl)); stands = refl } };
        };
        gives = refl;
      },
      refl,
    );
    closures = tt;
    globals = refl;
    defaults = each_op _ tt tt tt (λ o. tt);
  };
}

pub returns-clause-catch_over_two : goal.returns-clause-catch_over_two
unfolding walked_within
returns-clause-catch_over_two c = λ alloc. record {
  origins = [];
  translated = record {
    depth = 3;
    shared = refl;
    assigned = λ v. refl;
    forms = (
      7,
      Argument.Const (Constant.Sym (record { 0 = 3 })),
      (refl, refl, refl),
      (
        2,
        local 4,
        record {
          value = var 4;
          unassigned = refl;
          root_as = (
            var 3,
            6,
            refl,
            record {
              name = var 5;
              inner = 5;
              start = 5;
              value = var 7;
              end = 3;
              stands = refl;
              name_new = record { apart = refl; unassigned = refl };
              assigned = inl (refl, refl, refl);
              body_as = record {
                args = fix 2 ∷ local 6 ∷ [];
                over = record {
                  last = 4;
                  inner = 6 ∷ 5 ∷ [];
                  values = inl (
                    refl,
                    tt,
                    inr (
                      refl,
                      (
                        var 6,
                        4,
                        refl,
                        record { apart = refl; unassigned = refl },
                        record { f = Argument.Global 0; args = local 5 ∷ []; over = record { last = 5; inner = 5 ∷ []; values = inl (refl, tt, inl (refl, refl, (refl, refl))); stands = refl } },
                        (refl, refl),
                      ),
                    ),
                  );
                  stands = refl;
                };
              };
              value_new = record { apart = refl; unassigned = refl };
              ends = refl;
            },
          );
          gives = refl;
        },
        refl,
      ),
    );
    closures = (
      (
        lam (0 ∷ []) 1 1,
        refl,
        record {
          start = 1;
          names_new = (record { apart = refl; unassigned = refl }, tt);
          assigned = inl (refl, refl, refl);
          body_as = record {
            args = fix 1 ∷ local 2 ∷ [];
            over = record {
              last = 0;
              inner = 2 ∷ 0 ∷ [];
              values = inl (
                refl,
                tt,
                inr (
                  refl,
                  (
                    var 2,
                    0,
                    refl,
                    record { apart = refl; unassigned = refl },
                    record { f = local 0; args = fix 5 ∷ []; over = record { last = 1; inner = 0 ∷ []; values = inl (refl, refl, inl (refl, tt, (refl, refl))); stands = refl } },
                    (refl, refl),
                  ),
                ),
              );
              stands = refl;
            };
          };
        },
      ),
      tt,
    );
    globals = refl;
    defaults = each_op _ tt tt tt (λ o. tt);
  };
}
