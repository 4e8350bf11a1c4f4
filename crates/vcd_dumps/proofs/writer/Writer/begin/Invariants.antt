use Rattle.std.proofs.Common.{get_or}
use Rattle.gate_values.specs.declared.logic.Logic.TheVariants.{X}
use Rattle.vcd_dumps.proofs.writer.Writer.begin.Given as goal

abbrev pub ghost-put_values : goal.ghost-put_values
ghost-put_values a = λ n t. get_or a.firsts.now n X
