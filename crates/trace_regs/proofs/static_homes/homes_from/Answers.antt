use Rattle.std.proofs.Common.{◌<◌, length, get_or, arith}
use Rattle.std.proofs.lemmas.Option.{slice_get-get_or}
use Rattle.t_base.specs.declared.basics.Var.{Var}
use Rattle.trace_regs.proofs.Homing.{one_more}
use Rattle.trace_regs.proofs.static_homes.homes_from.Goals as goal

pub loop-v-preserved : goal.loop-v-preserved
loop-v-preserved c =
    let vars = c.args.vars.now in
    let zero_var : Var = record { 0 = 0 } in
    let lt : c.loop-v.v-index < length vars = omega (arith, c.loop-v-test.true) in
    record {
      place = omega (arith, c.loop-v.invariant.place);
      homes = one_more c.args.low c.loop-v.v-index c.loop-v.place vars c.loop-v.homes.items c.put_home.new.homes.items (get_or vars c.loop-v.v-index zero_var) c.requires.distinct
          (slice_get-get_or vars c.loop-v.v-index zero_var lt) c.loop-v.invariant.place c.in_ok-put_home.ensures c.loop-v.invariant.homes;
    }
