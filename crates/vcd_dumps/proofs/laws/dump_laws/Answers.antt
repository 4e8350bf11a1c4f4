use Rattle.vcd_dumps.proofs.DumpLaws.{dump_text-agree, dump_text-waves}
use Rattle.vcd_dumps.proofs.laws.dump_laws.Goals as goal

pub returns : goal.returns
returns c = record { agree = dump_text-agree; waves = dump_text-waves }
