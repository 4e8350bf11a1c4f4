use Rattle.std.proofs.Common.{refl, arith}
use Rattle.gate_netlist.specs.declared.token.TheConstants.{LETTERS}
use Rattle.gate_netlist.specs.Symbols.{is_letter}
use Rattle.gate_netlist.proofs.Tables.{tells_below, tells-at}
use Rattle.gate_netlist.proofs.token.is_letter.Goals as goal

pub returns : goal.returns
unfolding tells_below
returns c = tells-at LETTERS is_letter 256 c.args.byte (omega arith) refl
