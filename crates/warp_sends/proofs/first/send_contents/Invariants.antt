use Rattle.std.proofs.Common.{◌≡◌, ◌++◌, take}
use Rattle.std.specs.List.{flat_map}
use Rattle.gate_values.specs.Behaviour.{initial_of}
use Rattle.warp_part.specs.Portion.{source_of, readers_of}
use Rattle.warp_process.specs.Opening.{first_messages}
use Rattle.warp_sends.proofs.first.send_contents.Given as goal

abbrev pub invariant-loop-slot : goal.invariant-loop-slot
invariant-loop-slot l = l.out.items ≡ l.fn.out.items ++ flat_map (λ n. first_messages n (initial_of (source_of l.part n)) (readers_of l.part n)) (take l.slot l.part.nets)
