use Rattle.std.proofs.Common.{◌≡◌, ◌∙◌, ◌<◌, ℕ, List, length, get_or, replicate, ap, sym, subst, arith}
use Rattle.std.proofs.lemmas.List.{length-replicate, get_or-replicate}
use Rattle.gate_values.specs.declared.logic.Logic.{Logic}
use Rattle.gate_values.specs.declared.logic.Logic.TheVariants.{X}
use Rattle.net_waves.specs.ByTime.{stops_in}
use Rattle.net_waves.specs.First.{first_from}
use Rattle.net_waves.proofs.Firsts.{first-told, written}
use Rattle.net_waves.proofs.by_time.ByTime.first_values.Goals as goal

pub returns-clause-each : goal.returns-clause-each
returns-clause-each c = λ lists n step l.
    let all = c.in_ok-values.values.items in
    let new = c.take_changes.new.values in
    let blank : all ≡ replicate c.args.nets X = c.in_ok-values.ensures.items_if_clones_equal (λ y e. e) in
    let given : c.as_mut_slice.result.now ≡ all = c.as_mut_slice.ensures.value in
    let same : length new ≡ length all = c.take_changes.ensures.length ∙ ap (λ (xs : List Logic). length xs) given in
    let many : length all ≡ c.args.nets = ap (λ (xs : List Logic). length xs) blank ∙ length-replicate {A = Logic} c.args.nets X in
    let len = c.in_ok-values.values.ok.0 in
    let long : length c.as_mut_slice.result.now ≡ length all = ap (λ (xs : List Logic). length xs) given in
    let unknown : get_or c.as_mut_slice.result.now n X ≡ X = ap (λ (xs : List Logic). get_or xs n X) (given ∙ blank) ∙ get_or-replicate {A = Logic} c.args.nets n X X l in
    ap (λ (xs : List Logic). get_or xs n X) (written c.in_ok-values.values.len new all same (omega (arith, same, len)))
    ∙ c.take_changes.ensures.each n (omega (arith, l, many, long))
    ∙ ap (λ (v : Logic). first_from v (stops_in c.args.self.now) n) unknown
    ∙ first-told lists (stops_in c.args.self.now) n step
