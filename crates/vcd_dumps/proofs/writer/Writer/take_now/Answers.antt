use Rattle.std.proofs.Common.{◌≡◌, ◌∙◌, List, map, length, get_or, ap, refl, arith}
use Rattle.std.proofs.lemmas.List.{with_items_is}
use Rattle.gate_values.specs.declared.logic.Logic.{Logic}
use Rattle.gate_values.specs.declared.logic.Logic.TheVariants.{X}
use Rattle.net_waves.specs.First.{first_from}
use Rattle.net_waves.specs.Timeline.{stop_by}
use Rattle.vcd_dumps.proofs.Writing.{taken_now}
use Rattle.vcd_dumps.proofs.writer.Writer.take_now.Goals as goal

pub returns : goal.returns
returns c = λ _.
    let firsts = c.args.self.now.firsts in
    let new = c.take_firsts.new.firsts in
    let given : c.as_mut_slice.result.now ≡ firsts.items = c.as_mut_slice.ensures.value in
    let long : length new ≡ length firsts.items = c.take_firsts.ensures.length ∙ ap (λ (xs : List Logic). length xs) given in
    let len = firsts.ok.0 in
    let back = with_items_is firsts new (omega (arith, long, len)) in
    taken_now c.args.self.now _ c.args.moves.now c.if-self.false c.if-self.false refl refl refl c.in-Some.ensures
    (ap (λ (xs : List Logic). length xs) back ∙ long)
    (λ n l.
    ap (λ (xs : List Logic). get_or xs n X) back
    ∙ c.take_firsts.ensures.each n (let same = ap (λ (xs : List Logic). length xs) given in omega (arith, l, same))
    ∙ ap (λ (xs : List Logic). first_from (get_or xs n X) (map (stop_by 0) c.args.moves.now) n) given)
