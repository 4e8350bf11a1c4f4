use Rattle.std.proofs.Common.{◌≡◌, ◌+◌, drop}
use Rattle.warp_command.proofs.Parting.{line_end}
use Rattle.warp_command.proofs.joined.line_length.Given as goal

abbrev pub invariant-loop-at : goal.invariant-loop-at
invariant-loop-at l = line_end l.text ≡ l.at + line_end (drop l.at l.text)
