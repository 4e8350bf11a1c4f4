use Rattle.std.proofs.Common.{◌∙◌, List, ap, arith}
use Rattle.std.proofs.lemmas.List.{take_all}
use Rattle.std.specs.List.{list_any}
use Rattle.std.specs.Str.{bytes_eq}
use Rattle.gate_vcd.specs.Shown.Commands.{variables}
use Rattle.gate_vcd.specs.Declarations.{Variable}
use Rattle.gate_vcd.specs.declared.variable.Variable.{Variable as Held}
use Rattle.gate_vcd.specs.Inner.Table.{found_in}
use Rattle.gate_vcd.proofs.InputLaws.{more_codes, no_sources}
use Rattle.gate_vcd.proofs.known.codes_of.Goals as goal

pub loop-variable-preserved : goal.loop-variable-preserved
loop-variable-preserved c = record {
  known = λ code. more_codes code c.args.all.now c.loop-variable.variable-index c.variable-item.result (found_in c.loop-variable.codes code) (found_in c.insert.new.self code) c.loop-variable-test.true c.variable-item.is (c.loop-variable.invariant.known code)
      (c.in_ok-insert.ensures.ok code);
  none = λ code. rw (c.in_ok-insert.ensures.ok code) (no_sources (bytes_eq c.variable-item.result.code.now code) (found_in c.loop-variable.codes code) (c.loop-variable.invariant.none code));
}

pub returns-clause-known : goal.returns-clause-known
returns-clause-known c code =
    c.loop-variable.invariant.known code ∙ ap (λ (vs : List Held). list_any (λ (v : Variable). bytes_eq code v.code) (variables vs)) (take_all c.loop-variable.variable-index c.args.all.now (omega arith))
