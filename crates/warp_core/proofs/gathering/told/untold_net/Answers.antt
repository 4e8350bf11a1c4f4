use Rattle.std.proofs.Common.{below_more, ◌≡◌, ◌<◌, ℕ, ◌∙◌, ap, length, get_or, subst, sym, arith, vec_len}
use Rattle.std.specs.List.Sorted.{IsStrictlyIncreasing}
use Rattle.warp_part.specs.Portion.{Portion}
use Rattle.warp_process.specs.View.{View}
use Rattle.warp_process.proofs.Rows.{row_at}
use Rattle.warp_core.specs.Matched.{seen_at, IsToldAt}
use Rattle.warp_core.proofs.Entries.{other_told}
use Rattle.warp_core.proofs.Sweeping.{seen_is, swept_all, swept_first}
use Rattle.warp_core.proofs.gathering.told.untold_net.Goals as goal

pub is_told_at-requires-clause-list : goal.is_told_at-requires-clause-list
is_told_at-requires-clause-list g c =
    let v : View = c.index-blocks-number.result.seen in
    let size : vec_len c.in_ok-lists.lists ≡ length c.in_ok-lists.lists.items = c.in_ok-lists.lists.ok.0 in
    let inside : c.loop-slot.slot < length c.in_ok-lists.lists.items = omega (arith, c.loop-slot-test.true, c.len-slot-end.ensures, size) in
    let told = c.in_ok-lists.ensures.told c.loop-slot.slot (omega (arith, inside, size, c.in_ok-lists.ensures.count)) in
    let part : c.part-in-loop-slot.result.now ≡ v.part = c.part-in-loop-slot.ensures in
    rw (c.net-net.ensures ∙ ap (λ (p : Portion). get_or p.nets c.loop-slot.slot 0) part, c.as_slice-list.ensures.value ∙ sym (row_at c.in_ok-lists.lists.items c.loop-slot.slot c.index.result.now inside c.index.ensures)) told

pub returns-then-not-is_told_at : goal.returns-then-not-is_told_at
returns-then-not-is_told_at g c d of =
    let v : View = c.index-blocks-number.result.seen in
    let here : v ≡ seen_at c.args.blocks.now c.args.number = seen_is c.args.blocks.now c.args.number c.index-blocks-number.result (omega (arith, c.requires.number, c.requires.count)) c.index-blocks-number.is in
    let told : ℕ → Type 0 = IsToldAt c.args.cut.now c.args.stimulus.now c.args.horizon c.args.blocks.now v in
    let up : IsStrictlyIncreasing v.part.nets = subst (λ (p : Portion). IsStrictlyIncreasing p.nets) c.part.ensures c.law.ensures.ascending in
    let net : c.net-net.result ≡ get_or v.part.nets c.loop-slot.slot 0 = c.net-net.ensures ∙ ap (λ (p : Portion). get_or p.nets c.loop-slot.slot 0) c.part-in-loop-slot.ensures in
    let size : vec_len c.in_ok-lists.lists ≡ length v.part.nets = c.in_ok-lists.ensures.count in
    rw (← here) (rw net (swept_first told v.part.nets (other_told c.args.cut.now c.args.stimulus.now c.args.horizon c.args.blocks.now v) up c.loop-slot.slot (omega (arith, c.loop-slot-test.true, c.len-slot-end.ensures, size)) (c.loop-slot.invariant d of)
    (λ all. (let yes = (c.is_told_at.ensures d c.args.number of c.requires.number here).1 (subst told (sym net) all) in let no = c.if-not-is_told_at.true in cc))))

pub loop-slot-preserved : goal.loop-slot-preserved
loop-slot-preserved g c d of =
    let v : View = c.index-blocks-number.result.seen in
    let here : v ≡ seen_at c.args.blocks.now c.args.number = seen_is c.args.blocks.now c.args.number c.index-blocks-number.result (omega (arith, c.requires.number, c.requires.count)) c.index-blocks-number.is in
    let told : ℕ → Type 0 = IsToldAt c.args.cut.now c.args.stimulus.now c.args.horizon c.args.blocks.now v in
    let net : c.net-net.result ≡ get_or v.part.nets c.loop-slot.slot 0 = c.net-net.ensures ∙ ap (λ (p : Portion). get_or p.nets c.loop-slot.slot 0) c.part-in-loop-slot.ensures in
    below_more (λ k. told (get_or v.part.nets k 0)) c.loop-slot.slot (c.loop-slot.invariant d of) (subst told net ((c.is_told_at.ensures d c.args.number of c.requires.number here).0 c.if-not-is_told_at.false))

pub returns : goal.returns
returns g c d of =
    let v : View = c.index-blocks-number.result.seen in
    let here : v ≡ seen_at c.args.blocks.now c.args.number = seen_is c.args.blocks.now c.args.number c.index-blocks-number.result (omega (arith, c.requires.number, c.requires.count)) c.index-blocks-number.is in
    let told : ℕ → Type 0 = IsToldAt c.args.cut.now c.args.stimulus.now c.args.horizon c.args.blocks.now v in
    let size : vec_len c.in_ok-lists.lists ≡ length v.part.nets = c.in_ok-lists.ensures.count in
    rw (← here) (swept_all told v.part.nets (other_told c.args.cut.now c.args.stimulus.now c.args.horizon c.args.blocks.now v) c.loop-slot.slot (omega (arith, c.loop-slot-test.false, c.len-slot-end.ensures, size)) (c.loop-slot.invariant d of))
