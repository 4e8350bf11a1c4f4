use Rattle.std.proofs.Common.{◌∙◌, ℕ, List, map, get_or, ap, sym, arith}
use Rattle.gate_values.specs.declared.logic.Logic.TheVariants.{X}
use Rattle.net_waves.specs.Packed.{told}
use Rattle.net_waves.specs.First.{first_from}
use Rattle.net_waves.proofs.Firsts.{first-packed, first-empty}
use Rattle.net_waves.proofs.first.take_packed.Goals as goal

pub returns-then-times-gt0-clause-each : goal.returns-then-times-gt0-clause-each
returns-then-times-gt0-clause-each c = λ n l.
    let v = get_or c.args.values.now n X in
    let some = c.if-times-gt0.true in
    c.take_words.ensures.each n l
    ∙ ap (λ (ws : List ℕ). first_from v (map (told 0) ws) n) c.words.ensures
    ∙ sym (first-packed c.args.packed.now v n (omega (arith, some, c.times.ensures)))

pub returns-else-times-gt0-clause-each : goal.returns-else-times-gt0-clause-each
returns-else-times-gt0-clause-each c = λ n l.
    let none = c.if-times-gt0.false in
    sym (first-empty c.args.packed.now (get_or c.args.values.now n X) n (omega (arith, none, c.times.ensures)))
