use Rattle.std.proofs.Common.{◌≡◌, ◌∙◌, List, [], ◌∷◌, ◌++◌, map, ap}
use Rattle.gate_netlist.specs.Inner.Meant.{meant, names_meant}
use Rattle.gate_netlist.specs.Inner.Stored.{told_by, statements_in}
use Rattle.gate_netlist.specs.declared.store.Stored.{Stored}
use Rattle.gate_netlist.proofs.Storing.{told_more}
use Rattle.gate_netlist.proofs.store.Statements.push.Goals as goal

pub returns : goal.returns
returns c =
    let lines : c.push_reserved.new.self.items ≡ c.self.inside.lines.items ++ c.in_ok-line.line ∷ [] = c.push_reserved.ensures.items ∙ ap (λ (ls : List Stored). ls ++ c.in_ok-line.line ∷ []) c.reserve.ensures.items in
    ap (λ (ls : List Stored). map (told_by (names_meant c.set_down.new.uses.items)) ls) lines
    ∙ told_more (names_meant c.self.inside.uses.items) (names_meant c.set_down.new.uses.items) c.self.inside.lines.items c.in_ok-line.line (meant c.args.statement.now) c.self.invariant c.in_ok-line.ensures.ok
    ∙ ap (λ said. statements_in said ++ meant c.args.statement.now ∷ []) c.self.view_is
