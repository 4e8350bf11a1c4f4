use Rattle.std.proofs.Common.{◌≡◌, ◌<◌, ◌∙◌, sym, ap, subst, suc, true, cond, [], Some, None, length, map, set, get_or, slice_get, arith}
use Rattle.std.proofs.lemmas.List.{length-map, get_or_default}
use Rattle.gate_vcd.specs.Changes.{Source, value_at_place}
use Rattle.gate_vcd.specs.Inner.Items.{makes, reaches}
use Rattle.gate_vcd.specs.Inner.Settled.{settled}
use Rattle.gate_vcd.specs.Inner.Known.{flat, sources_in}
use Rattle.gate_vcd.specs.Shown.Known.{source}
use Rattle.gate_vcd.specs.Inner.Table.{found_in}
use Rattle.gate_vcd.proofs.Links.{rank, slice_get-is}
use Rattle.gate_vcd.proofs.SettleLaws.{IsSettling, no_source, settling-stands, settling-start, settling-stops, settling-less, settling-end, settling-step}
use Rattle.gate_vcd.proofs.changes.settle_code.Goals as goal

pub loop-next-init : goal.loop-next-init
loop-next-init c = settling-start (sources_in c.args.codes.now) c.args.now c.args.code.now c.args.had.now c.args.digits.now c.args.lists.now (Some c.args.last) (sym c.requires.last)

pub returns-then-not-reaches-clause-ok : goal.returns-then-not-reaches-clause-ok
returns-then-not-reaches-clause-ok c =
    let here = rw c.in-Some.is at c.loop-next.invariant in
    let stands = settling-stands (sources_in c.args.codes.now) c.args.now c.args.code.now c.args.had.now c.args.digits.now c.args.lists.now c.loop-next.lists c.in-Some.number here in
    let s : Source = get_or (sources_in c.args.codes.now) c.in-Some.number (source no_source) in
    let at : slice_get (sources_in c.args.codes.now) c.in-Some.number ≡ Some s = slice_get-is (sources_in c.args.codes.now) c.in-Some.number (source no_source) stands in
    let shown : slice_get (map source c.as_slice-sources.result.now) c.in-Some.number ≡ Some s = rw c.as_slice-sources.ensures.value at in
    settling-stops (sources_in c.args.codes.now) c.args.now c.args.code.now c.args.had.now c.args.digits.now c.args.lists.now c.loop-next.lists c.in-Some.number s c.requires.linked.falls at
    (ap (reaches c.args.had.now c.args.digits.now) (sym (c.place_at-place.ensures s shown)) ∙ sym c.reaches.ensures ∙ c.if-not-reaches.true) here

pub place_at-place-requires : goal.place_at-place-requires
place_at-place-requires c =
    let stands = settling-stands (sources_in c.args.codes.now) c.args.now c.args.code.now c.args.had.now c.args.digits.now c.args.lists.now c.loop-next.lists c.in-Some.number (rw c.in-Some.is at c.loop-next.invariant) in
    rw c.as_slice-sources.ensures.value (omega (arith, stands, length-map c.args.codes.now.used.items source))

pub settle_source-requires : goal.settle_source-requires
settle_source-requires c =
    let stands = settling-stands (sources_in c.args.codes.now) c.args.now c.args.code.now c.args.had.now c.args.digits.now c.args.lists.now c.loop-next.lists c.in-Some.number (rw c.in-Some.is at c.loop-next.invariant) in
    omega (arith, stands, length-map c.args.codes.now.used.items source, c.loop-next.invariant.count, c.requires.count)

pub index-next-requires : goal.index-next-requires
index-next-requires c =
    let stands = settling-stands (sources_in c.args.codes.now) c.args.now c.args.code.now c.args.had.now c.args.digits.now c.args.lists.now c.loop-next.lists c.in-Some.number (rw c.in-Some.is at c.loop-next.invariant) in
    omega (arith, stands, c.requires.linked.count, c.args.codes.now.before.ok)

pub loop-next-smaller : goal.loop-next-smaller
loop-next-smaller c =
    let stands = settling-stands (sources_in c.args.codes.now) c.args.now c.args.code.now c.args.had.now c.args.digits.now c.args.lists.now c.loop-next.lists c.in-Some.number (rw c.in-Some.is at c.loop-next.invariant) in
    let at = slice_get-is (sources_in c.args.codes.now) c.in-Some.number (source no_source) stands in
    let within : c.in-Some.number < length c.args.codes.now.before.items = omega (arith, stands, c.requires.linked.count) in
    let next = c.index-next.ensures ∙ get_or_default c.args.codes.now.before.items c.in-Some.number c.index-next.result.now None within in
    rw c.in-Some.is
    (subst (λ o. rank o < suc c.in-Some.number) (sym next)
    (settling-less (sources_in c.args.codes.now) c.args.now c.args.code.now c.args.had.now c.args.digits.now c.args.lists.now (λ code. flat (found_in c.args.codes.now.last code)) c.args.codes.now.before.items c.in-Some.number _ c.requires.linked at))

pub loop-next-preserved : goal.loop-next-preserved
loop-next-preserved c =
    let here = rw c.in-Some.is at c.loop-next.invariant in
    let stands = settling-stands (sources_in c.args.codes.now) c.args.now c.args.code.now c.args.had.now c.args.digits.now c.args.lists.now c.loop-next.lists c.in-Some.number here in
    let s : Source = get_or (sources_in c.args.codes.now) c.in-Some.number (source no_source) in
    let at : slice_get (sources_in c.args.codes.now) c.in-Some.number ≡ Some s = slice_get-is (sources_in c.args.codes.now) c.in-Some.number (source no_source) stands in
    let shown : slice_get (map source c.as_slice-sources.result.now) c.in-Some.number ≡ Some s = rw c.as_slice-sources.ensures.value at in
    let within : c.in-Some.number < length c.args.codes.now.before.items = omega (arith, stands, c.requires.linked.count) in
    let long : length c.args.lists.now ≡ length (sources_in c.args.codes.now) = c.requires.count ∙ sym (length-map c.args.codes.now.used.items source) in
    let next = c.index-next.ensures ∙ get_or_default c.args.codes.now.before.items c.in-Some.number c.index-next.result.now None within in
    let reach : reaches c.args.had.now c.args.digits.now s.place ≡ true = ap (reaches c.args.had.now c.args.digits.now) (sym (c.place_at-place.ensures s shown)) ∙ sym c.reaches.ensures ∙ c.if-not-reaches.false in
    let new =
    c.in_ok-settle_source.ensures.ok
    ∙ ap (λ p. cond (makes c.args.had.now c.args.digits.now p) (set c.loop-next.lists c.in-Some.number (settled (get_or c.loop-next.lists c.in-Some.number []) (record { time = c.args.now; value = value_at_place p c.args.digits.now }))) c.loop-next.lists) (c.place_at-place.ensures s shown) in
    subst (λ o. IsSettling (sources_in c.args.codes.now) c.args.now c.args.code.now c.args.had.now c.args.digits.now c.args.lists.now c.settle_source.new.lists o) (sym next)
    (subst (λ lists. IsSettling (sources_in c.args.codes.now) c.args.now c.args.code.now c.args.had.now c.args.digits.now c.args.lists.now lists (get_or c.args.codes.now.before.items c.in-Some.number None)) (sym new)
    (settling-step (sources_in c.args.codes.now) c.args.now c.args.code.now c.args.had.now c.args.digits.now c.args.lists.now (λ code. flat (found_in c.args.codes.now.last code)) c.args.codes.now.before.items c.loop-next.lists c.in-Some.number s c.requires.linked at reach long here))

pub returns-clause-ok : goal.returns-clause-ok
returns-clause-ok c = settling-end (sources_in c.args.codes.now) c.args.now c.args.code.now c.args.had.now c.args.digits.now c.args.lists.now c.loop-next.lists c.loop-next.next c.in_default.is c.loop-next.invariant
