use Rattle.std.proofs.Common.{◌≡◌, ◌∙◌, ◌∷◌, sym, ap}
use Rattle.gate_netlist.specs.Symbols.{symbols}
use Rattle.gate_netlist.specs.Inner.Tokens.{code_of, after_code}
use Rattle.gate_netlist.proofs.Coding.{plain_line, plain_allowed, feed-first, after-shorter}
use Rattle.gate_netlist.proofs.statement.read_line.Goals as goal

pub returns-in-Some-clause-line : goal.returns-in-Some-clause-line
returns-in-Some-clause-line c =
    let feed : after_code c.args.text.now ≡ 10 ∷ c.in-Some.after.now = sym c.in_ok-rest.ensures.rest ∙ feed-first c.in_ok-rest.rest.now c.in-Some.after.now c.in-Some.ensures in
    let code = plain_allowed c.args.text.now in
    record {
      line = code_of c.args.text.now;
      lines = plain_line c.args.text.now c.in-Some.after.now feed;
      allowed = sym code.0;
      said = λ e. c.in_ok-rest.ensures.symbols ∙ ap symbols code.1;
    }

pub returns-in-Some-clause-shorter : goal.returns-in-Some-clause-shorter
returns-in-Some-clause-shorter c = after-shorter c.args.text.now c.in-Some.after.now (sym c.in_ok-rest.ensures.rest ∙ feed-first c.in_ok-rest.rest.now c.in-Some.after.now c.in-Some.ensures)
