use Rattle.std.proofs.Common.{◌∙◌, IfOk, subst}
use Rattle.gate_netlist.specs.Circuit.{Design}
use Rattle.gate_stimulus.specs.Given.{Given}
use Rattle.warp_core.specs.Values.{AreCircuitWaves}
use Rattle.warp_text.proofs.Replaying.{same_course, plays_through}
use Rattle.warp_text.proofs.replay.play_cut.Goals as goal

pub finished-requires : goal.finished-requires
finished-requires c = (same_course c.args.events.now c.in_ok-world.world c.play_all.new.world c.in_ok-play_all.ensures.played).horizon ∙ c.in_ok-world.ensures.horizon

pub returns-clause-waves : goal.returns-clause-waves
returns-clause-waves c =
    let world = c.play_all.new.world in
    let course = same_course c.args.events.now c.in_ok-world.world world c.in_ok-play_all.ensures.played in
    subst (λ (g : Given). IfOk c.finished.result (AreCircuitWaves c.args.circuit.now g c.args.until)) (course.stimulus ∙ c.in_ok-world.ensures.stimulus)
    (subst (λ (d : Design). IfOk c.finished.result (AreCircuitWaves d world.stimulus c.args.until)) (course.circuit ∙ c.in_ok-world.ensures.circuit) c.finished.ensures.waves)

pub returns-clause-played : goal.returns-clause-played
returns-clause-played c =
    let start = c.in_ok-world.ensures in
    let played = c.in_ok-play_all.ensures.played in
    let course = same_course c.args.events.now c.in_ok-world.world c.play_all.new.world played in
    plays_through _ c.args.circuit.now c.args.cut.now c.args.stimulus.now c.args.until c.args.events.now c.in_ok-world.world c.play_all.new.world c.finished.result
    (record { circuit_is = start.circuit; cut_is = start.cut; stimulus_is = start.stimulus; horizon_is = start.horizon; opening = start.opening; law = c.law.ensures })
    played (course.horizon ∙ start.horizon) c.finished.ensures.least c.finished.ensures.stopped
