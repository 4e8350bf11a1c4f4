use Rattle.std.proofs.Common.{refl, arith}
use Rattle.gate_netlist.specs.declared.token.TheConstants.{ALLOWED}
use Rattle.gate_netlist.specs.Symbols.{is_allowed}
use Rattle.gate_netlist.proofs.Tables.{tells_below, tells-at}
use Rattle.gate_netlist.proofs.token.may_stand.Goals as goal

pub returns : goal.returns
unfolding tells_below
returns c = tells-at ALLOWED is_allowed 256 c.args.byte (omega arith) refl
