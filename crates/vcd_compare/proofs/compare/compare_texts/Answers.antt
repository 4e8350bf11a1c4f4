use Rattle.vcd_bits.specs.Shown.Tables.{bits_in}
use Rattle.vcd_bits.proofs.CodeLaws.{declared-coded, declared-source}
use Rattle.vcd_compare.specs.Times.{asked_in}
use Rattle.vcd_compare.proofs.Answering.{answers-actual, answers-before, answers-behind, answers-expected, answers-report, changes-fail, dump-read, dump_by, open-fails, opened-counts}
use Rattle.vcd_compare.proofs.SourceLaws.{paired-actual, paired-expected, used-from}
use Rattle.vcd_compare.proofs.compare.compare_texts.Goals as goal

pub returns-in-Err : goal.returns-in-Err
returns-in-Err c = rw c.expected_fault.ensures (answers-expected c.args.options.now c.args.expected.now c.args.actual.now (asked_in c.args.map) c.in-Err.fault (open-fails (asked_in c.args.options.now.expected_scope) c.args.expected.now c.in-Err.fault c.in-Err.ensures))

pub returns-in-Err-open : goal.returns-in-Err-open
returns-in-Err-open c =
    let (s, read, is) = c.in-Ok.ensures in
    answers-behind c.args.options.now c.args.expected.now c.args.actual.now (asked_in c.args.map) s c.in-Ok.dump c.in-Err-open.fault c.fault_behind.result read is.variables c.in-Err-open.ensures c.fault_behind.ensures

pub returns-in-Err-pairs_by : goal.returns-in-Err-pairs_by
returns-in-Err-pairs_by c =
    let (s, read, is) = c.in-Ok.ensures in
    let (s2, read2, is2) = c.in-Ok-open.ensures in
    answers-before c.args.options.now c.args.expected.now c.args.actual.now (asked_in c.args.map) s s2 c.in-Ok.dump c.in-Ok-open.dump c.in-Err-pairs_by.fault c.fault_before.result read read2 is.variables is2.variables
    (rw (is.bits, is2.bits) at c.in-Err-pairs_by.ensures) c.fault_before.ensures

pub follow-requires : goal.follow-requires
follow-requires c code u =
    let (s, read, is) = c.in-Ok.ensures in
    let (pairs, paired, are) = c.in-Ok-pairs_by.ensures in
    let used = rw are.expected at (rw c.as_slice.ensures.value at u) in
    let from = paired-expected s.header.variables (asked_in c.args.map) (bits_in c.in-Ok.dump.table) (bits_in c.in-Ok-open.dump.table) pairs (rw is.bits (declared-coded (asked_in c.args.options.now.expected_scope) s))
    (λ name x e. declared-source (asked_in c.args.options.now.expected_scope) s name x (rw is.bits at e)) paired in
    rw is.variables (used-from s.header.variables (λ q. q.expected) pairs code from used)

pub returns-in-Err-follow : goal.returns-in-Err-follow
returns-in-Err-follow c =
    let (s, read, is) = c.in-Ok.ensures in
    rw c.expected_fault-in-Err-follow.ensures (answers-expected c.args.options.now c.args.expected.now c.args.actual.now (asked_in c.args.map) c.in-Err-follow.fault (changes-fail (asked_in c.args.options.now.expected_scope) c.args.expected.now c.in-Err-follow.fault s c.in-Ok.dump.words read (rw is.variables at c.in-Err-follow.ensures.followed)))

pub follow-requires-2 : goal.follow-requires-2
follow-requires-2 c code u =
    let (s, read, is) = c.in-Ok-open.ensures in
    let (pairs, paired, are) = c.in-Ok-pairs_by.ensures in
    let used = rw are.actual at (rw c.as_slice-2.ensures.value at u) in
    let from = paired-actual s.header.variables (asked_in c.args.map) (bits_in c.in-Ok.dump.table) (bits_in c.in-Ok-open.dump.table) pairs (λ name x e. declared-source (asked_in c.args.options.now.actual_scope) s name x (rw is.bits at e)) paired in
    rw is.variables (used-from s.header.variables (λ q. q.actual) pairs code from used)

pub returns-in-Err-follow-2 : goal.returns-in-Err-follow-2
returns-in-Err-follow-2 c =
    let (s, read, is) = c.in-Ok.ensures in
    let (s2, read2, is2) = c.in-Ok-open.ensures in
    let (es, events, follows) = c.in-Ok-follow.ensures.followed in
    rw c.actual_fault.ensures (answers-actual c.args.options.now c.args.expected.now c.args.actual.now (asked_in c.args.map) c.in-Err-follow-2.fault (dump_by (asked_in c.args.options.now.expected_scope) s c.in-Ok.dump.words es)
    (dump-read (asked_in c.args.options.now.expected_scope) c.args.expected.now s c.in-Ok.dump.words es read (rw is.variables at events))
    (changes-fail (asked_in c.args.options.now.actual_scope) c.args.actual.now c.in-Err-follow-2.fault s2 c.in-Ok-open.dump.words read2 (rw is2.variables at c.in-Err-follow-2.ensures.followed)))

pub sight_of-sight-requires-clause-moves : goal.sight_of-sight-requires-clause-moves
sight_of-sight-requires-clause-moves c = c.requires

pub sight_of-sight-requires-clause-expected : goal.sight_of-sight-requires-clause-expected
sight_of-sight-requires-clause-expected c = let (s, read, is) = c.in-Ok.ensures in rw (c.in-Ok-follow.ensures.timescale, is.timescale) (opened-counts c.args.expected.now s _ read)

pub sight_of-sight-requires-clause-actual : goal.sight_of-sight-requires-clause-actual
sight_of-sight-requires-clause-actual c = let (s, read, is) = c.in-Ok-open.ensures in rw (c.in-Ok-follow-2.ensures.timescale, is.timescale) (opened-counts c.args.actual.now s _ read)

pub finer-unit-requires-clause-a : goal.finer-unit-requires-clause-a
finer-unit-requires-clause-a c = let (s, read, is) = c.in-Ok.ensures in rw (c.in-Ok-follow.ensures.timescale, is.timescale) (opened-counts c.args.expected.now s _ read)

pub finer-unit-requires-clause-b : goal.finer-unit-requires-clause-b
finer-unit-requires-clause-b c = let (s, read, is) = c.in-Ok-open.ensures in rw (c.in-Ok-follow-2.ensures.timescale, is.timescale) (opened-counts c.args.actual.now s _ read)

pub report-requires-clause-sight : goal.report-requires-clause-sight
report-requires-clause-sight c = c.sight_of-sight.ensures.small

pub report-requires-clause-few : goal.report-requires-clause-few
report-requires-clause-few c = let (pairs, paired, are) = c.in-Ok-pairs_by.ensures in are.few

pub returns : goal.returns
returns c =
    let (s, read, is) = c.in-Ok.ensures in
    let (s2, read2, is2) = c.in-Ok-open.ensures in
    let (pairs, paired, are) = c.in-Ok-pairs_by.ensures in
    let (es, events, follows) = c.in-Ok-follow.ensures.followed in
    let (es2, events2, follows2) = c.in-Ok-follow-2.ensures.followed in
    let told = rw (c.in-Ok-follow.ensures.table, c.in-Ok-follow-2.ensures.table, is.bits, is2.bits, c.finer-unit.ensures.value, c.in-Ok-follow.ensures.timescale, c.in-Ok-follow-2.ensures.timescale, is.timescale, is2.timescale) at c.report.ensures in
    let sight = rw (c.in-Ok-follow.ensures.timescale, c.in-Ok-follow-2.ensures.timescale, is.timescale, is2.timescale, follows.last) at c.sight_of-sight.ensures.value in
    answers-report c.args.options.now c.args.expected.now c.args.actual.now (asked_in c.args.map) (dump_by (asked_in c.args.options.now.expected_scope) s c.in-Ok.dump.words es) (dump_by (asked_in c.args.options.now.actual_scope) s2 c.in-Ok-open.dump.words es2) pairs c.in-Ok-pairs_by.pairs c.in-Ok-follow.followed.given c.in-Ok-follow-2.followed.given c.sight_of-sight.result c.report.result
    (dump-read (asked_in c.args.options.now.expected_scope) c.args.expected.now s c.in-Ok.dump.words es read (rw is.variables at events))
    (dump-read (asked_in c.args.options.now.actual_scope) c.args.actual.now s2 c.in-Ok-open.dump.words es2 read2 (rw is2.variables at events2))
    (rw (is.bits, is2.bits) at paired) (rw is.bits at are) (rw c.as_slice.ensures.value at follows.values) (rw c.as_slice-2.ensures.value at follows2.values) sight told
