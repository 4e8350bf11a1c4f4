use Rattle.std.proofs.Common.{◌+◌, ◌∙◌, List, [], get_or, ap, sym, subst}
use Rattle.warp_process.specs.Entries.{effective_of}
use Rattle.warp_process.specs.Rows.{Standing, IsRow, entry_on}
use Rattle.warp_process.specs.Shown.Rows.{lists_in}
use Rattle.warp_process.proofs.ByTime.{row_places}
use Rattle.warp_process.proofs.Queued.{Timed}
use Rattle.warp_process.proofs.Telling.{AreToldUntil, told_more, none_told, all_told}
use Rattle.warp_process.proofs.Walking.{AreLeft, all_left, none_left, first_from, next_row, first_quiet, rest_left}
use Rattle.warp_process.proofs.by_net.told.Goals as goal

pub loop-time-init : goal.loop-time-init
loop-time-init c = record {
  count = c.in_ok-lists.ensures.count;
  told = (0, all_left c.args.rows.now c.into_iter-time-iterator.result c.requires.rows.ordered (c.into_iter-time-iterator.ensures.into_iter_gives ∙ c.iter-time-items.ensures), λ i l. none_told c.args.rows.now i (get_or (lists_in c.in_ok-lists.lists.items) i []) (c.in_ok-lists.ensures.empty i));
}

pub tell_row-requires-clause-row : goal.tell_row-requires-clause-row
tell_row-requires-clause-row c = subst IsRow (sym (next_row c.args.rows.now c.loop-time.invariant.told.0 c.loop-time.time-iterator (c.in-Some.time.now, c.in-Some.row.now) c.next.new.self c.as_slice.result.now c.loop-time.invariant.told.1 c.in-Some.ensures.steps c.as_slice.ensures)) (c.requires.rows.each c.in-Some.time.now)

pub tell_row-requires-clause-within : goal.tell_row-requires-clause-within
tell_row-requires-clause-within c = rw c.loop-time.invariant.count (row_places c.args.rows.now c.args.places c.requires.rows c.requires.places c.in-Some.time.now c.as_slice.result.now (next_row c.args.rows.now c.loop-time.invariant.told.0 c.loop-time.time-iterator (c.in-Some.time.now, c.in-Some.row.now) c.next.new.self c.as_slice.result.now c.loop-time.invariant.told.1 c.in-Some.ensures.steps c.as_slice.ensures))

pub loop-time-preserved : goal.loop-time-preserved
loop-time-preserved c =
    let from = c.loop-time.invariant.told.0 in
    let time = c.in-Some.time.now in
    let next : Timed = (time, c.in-Some.row.now) in
    let left = subst (AreLeft c.args.rows.now from) c.in-Some.ensures.steps c.loop-time.invariant.told.1 in
    record {
      count = c.in_ok-tell_row.ensures.count ∙ c.loop-time.invariant.count;
      told = (
        time + 1,
        rest_left c.args.rows.now from next c.next.new.self left,
        λ i l. subst (AreToldUntil c.args.rows.now i (time + 1)) (sym (c.in_ok-tell_row.ensures.told i))
            (told_more c.args.rows.now i from time (λ t since before. ap effective_of (first_quiet c.args.rows.now from next c.next.new.self left t i since before))
            (first_from c.args.rows.now from next c.next.new.self left) (get_or (lists_in c.loop-time.lists.items) i []) (c.loop-time.invariant.told.2 i l)
            (effective_of (entry_on c.as_slice.result.now i)) (ap (λ (ss : List Standing). effective_of (entry_on ss i)) (sym (next_row c.args.rows.now c.loop-time.invariant.told.0 c.loop-time.time-iterator (c.in-Some.time.now, c.in-Some.row.now) c.next.new.self c.as_slice.result.now c.loop-time.invariant.told.1 c.in-Some.ensures.steps c.as_slice.ensures)))),
      );
    }

pub returns-clause-told : goal.returns-clause-told
returns-clause-told c i l =
    let told = c.loop-time.invariant.told in
    all_told c.args.rows.now i told.0 (get_or (lists_in c.loop-time.lists.items) i []) (told.2 i l)
    (λ t late. ap effective_of (none_left c.args.rows.now told.0 c.loop-time.time-iterator told.1 c.in-None.ensures.steps.0 t i late))
