use Rattle.std.proofs.Common.{◌==◌, ◌||◌, List, ℕ, take, get_or, ap, sym, ◌∙◌}
use Rattle.std.proofs.lemmas.List.{take_all}
use Rattle.std.proofs.lemmas.List.Folds.{list_any_more}
use Rattle.warp_part.specs.Inner.Building.{has}
use Rattle.warp_part.specs.Inner.Uses.{noted}
use Rattle.warp_part.proofs.PartLists.{or_none}
use Rattle.warp_part.proofs.PartNoted.{or_joined}
use Rattle.warp_part.proofs.part.uses.note_all.Goals as goal

pub loop-net-init : goal.loop-net-init
loop-net-init c = record {
  lawful = c.requires.lawful;
  noted = λ n. sym (or_none (noted c.args.own.now c.args.marks.now.items c.args.others.now.items n));
}

pub loop-net-preserved : goal.loop-net-preserved
loop-net-preserved c =
    let nets = c.args.nets.now in
    let i = c.loop-net.net-index in
    record {
      lawful = c.in_ok-note.ensures.lawful;
      noted = λ n.
          (let begun = noted c.args.own.now c.args.marks.now.items c.args.others.now.items n in
          c.in_ok-note.ensures.noted n
          ∙ ap (λ t. t || (get_or nets i 0 == n)) (c.loop-net.invariant.noted n)
          ∙ or_joined begun (has (take i nets) n) (get_or nets i 0 == n)
          ∙ ap (λ t. begun || t) (sym (list_any_more (λ x. x == n) nets i 0 c.loop-net-test.true)));
    }

pub returns-clause-noted : goal.returns-clause-noted
returns-clause-noted c = λ n.
    c.loop-net.invariant.noted n
    ∙ ap (λ (ns : List ℕ). noted c.args.own.now c.args.marks.now.items c.args.others.now.items n || has ns n) (take_all c.loop-net.net-index c.args.nets.now c.loop-net-test.false)
