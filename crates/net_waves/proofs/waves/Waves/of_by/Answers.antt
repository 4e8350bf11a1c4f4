use Rattle.std.proofs.Common.{length, ◌≡◌, sym, arith}
use Rattle.std.proofs.lemmas.List.{length-map}
use Rattle.net_waves.specs.Waves.{lists_in, wave_of}
use Rattle.net_waves.specs.ByTime.{stops_in}
use Rattle.gate_values.specs.declared.logic.Logic.TheVariants.{X}
use Rattle.net_waves.proofs.Waving.{in_step-of, wave_rises}
use Rattle.net_waves.proofs.waves.Waves.of_by.Goals as goal

pub invariant_of-result : goal.invariant_of-result
invariant_of-result g c =
    let long : length (lists_in c.args.lists.items) ≡ length c.args.lists.items = length-map c.args.lists.items (λ v. v.items) in
    in_step-of (lists_in c.args.lists.items) (stops_in c.in_ok-by_time.by_time) (omega (arith, long, c.requires.few)) c.requires.waves
    (λ s. rw (long, sym c.as_slice.ensures.value) (c.in_ok-by_time.ensures s))

pub of_by-requires-clause-rising : goal.of_by-requires-clause-rising
of_by-requires-clause-rising g c κs live = rw c.as_slice.ensures.value (λ n. wave_rises 0 X (wave_of (lists_in c.args.lists.items) n) (c.requires.waves n))
