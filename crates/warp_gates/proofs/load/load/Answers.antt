use Rattle.std.proofs.Common.{◌≡◌, ◌∙◌, ◌<◌, ℕ, List, take, get_or, length, subst, sym, arith}
use Rattle.std.proofs.lemmas.List.{take_more}
use Rattle.warp_gates.specs.Inner.Loading.{AreFlipped}
use Rattle.warp_gates.proofs.Evaluating.{has_get_or}
use Rattle.warp_gates.proofs.Loading.{flipped_more, may_load}
use Rattle.warp_gates.proofs.load.load.Goals as goal

pub loop-flop-preserved : goal.loop-flop-preserved
loop-flop-preserved c =
    let flop : ℕ = get_or c.args.flops.now c.loop-flop.flop-index 0 in
    let done : List ℕ = take c.loop-flop.flop-index c.args.flops.now in
    let within : flop < length c.args.fronts.now = omega (arith, c.requires.within c.loop-flop.flop-index 0 c.loop-flop-test.true, c.requires.fronts) in
    record {
      flipped = subst (λ (fs : List ℕ). AreFlipped c.args.wiring.now fs c.args.values.now c.args.before c.args.after c.args.fronts.now c.load_one.new.fronts) (sym (take_more c.args.flops.now c.loop-flop.flop-index 0 c.loop-flop-test.true))
          (flipped_more c.args.wiring.now done flop c.args.values.now c.args.before c.args.after c.args.fronts.now c.loop-flop.fronts c.load_one.new.fronts c.loop-flop.invariant.flipped c.load_one.ensures.flipped);
      told = λ old first told still.
          let same : length c.args.fronts.now ≡ length old = told.same in
          c.load_one.ensures.told old first (c.loop-flop.invariant.told old first told still)
          (may_load c.args.wiring.now done c.args.flops.now flop c.args.values.now c.args.before c.args.after old c.args.fronts.now c.loop-flop.fronts (omega arith) within
          (has_get_or c.args.flops.now c.loop-flop.flop-index 0 c.loop-flop-test.true) still c.loop-flop.invariant.flipped);
      room = omega (arith, c.load_one.ensures.room, c.loop-flop.invariant.room);
      capacity = c.load_one.ensures.capacity ∙ c.loop-flop.invariant.capacity;
    }
