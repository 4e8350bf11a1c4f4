use Rattle.std.proofs.Common.{◌≡◌, ◌∙◌, true, sym, ap}
use Rattle.std.specs.List.{list_all}
use Rattle.gate_netlist.specs.Symbols.{symbols, is_allowed}
use Rattle.gate_netlist.proofs.Allowing.{is_allowed_code, refused_line}
use Rattle.gate_netlist.proofs.Coding.{all-code}
use Rattle.gate_netlist.proofs.statement.read_any_line.Goals as goal

pub returns-in_default-clause-line : goal.returns-in_default-clause-line
returns-in_default-clause-line c = record {
  line = c.next_line.result.0.now;
  lines = c.next_line.ensures.lines;
  allowed = refused_line c.next_line.result.0.now c.in_default.ensures;
  said = λ e. absurd cc;
}

pub returns-clause-line : goal.returns-clause-line
returns-clause-line c =
    let is = is_allowed_code c.next_line.result.0.now c.in-Some.code.now c.in-Some.ensures in
    let all : list_all is_allowed c.in-Some.code.now ≡ true = rw is.1 (sym is.0) in
    record {
      line = c.next_line.result.0.now;
      lines = c.next_line.ensures.lines;
      allowed = sym is.0;
      said = λ e. c.in_ok-tokenize.ensures.symbols ∙ ap symbols (all-code c.in-Some.code.now all ∙ is.1);
    }
