use Rattle.gate_vcd.proofs.SettleLaws.{place-of}
use Rattle.gate_vcd.proofs.changes.place_at.Goals as goal

pub returns : goal.returns
returns c s at = place-of c.args.sources.now c.args.number s _ c.requires at
