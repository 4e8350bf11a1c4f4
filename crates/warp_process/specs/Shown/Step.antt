-- What the processing of a time adds to the logs and sends, place by place.
use Rattle.std.specs.Prelude.{ℕ, List, map, slice_index}
use Rattle.gate_values.specs.declared.logic.Change.{Change}
use Rattle.warp_process.specs.declared.message.Message.{Message}
use Rattle.warp_process.specs.declared.message.Sign.{Sign}
use Rattle.warp_part.specs.Portion.{Portion}

abbrev pub net_at : Portion → ℕ → ℕ
net_at p i = slice_index p.nets i

-- a message on a change to each reader of a net
abbrev pub sent : Sign → ℕ → List ℕ → Change → List Message
sent sign net readers c = map (λ r. record { time = c.time; block = r; net = net; value = c.value; sign = sign }) readers
