use Rattle.std.proofs.lemmas.Result.{err_from_is_err_and}
use Rattle.gate_vcd.specs.Changes.{items, nothing}
use Rattle.gate_vcd.specs.Shown.Commands.{variables}
use Rattle.gate_vcd.specs.Inner.Known.{knows, sources_in}
use Rattle.gate_vcd.specs.Shown.Known.{sources_by}
use Rattle.gate_vcd.specs.Stimulus.{has_code}
use Rattle.gate_vcd.proofs.Meaning.{declared-codes, events-fail, events-read, laid, value-is}
use Rattle.gate_vcd.proofs.sources.read_sources.Goals as goal

pub returns-in_err-read : goal.returns-in_err-read
returns-in_err-read c =
    let p = err_from_is_err_and c.from_residual-in_err-read.result c.from_residual-in_err-read.ensures.1 in
    let known = declared-codes (variables c.args.all.now) c.in_ok-numbered.numbered.codes (sources_by c.args.takers.now) c.in_ok-numbered.ensures.all c.requires in
    rw (p.1, p.2) (events-fail (knows c.in_ok-numbered.numbered.codes) (has_code (variables c.args.all.now)) (items nothing c.args.words.now) _ known c.in_err-read.ensures)

pub new-requires : goal.new-requires
new-requires c =
    let ((es, events, kept), _) = c.in_ok-read.ensures in
    laid c.args.timescale (sources_in c.in_ok-numbered.numbered.codes) c.in_ok-read.read.lists.items c.in_ok-numbered.numbered.numbers.items es c.in_ok-read.read.last (sources_by c.args.takers.now) kept c.in_ok-numbered.ensures.numbers

pub returns : goal.returns
returns c =
    let ((es, events, kept), last) = c.in_ok-read.ensures in
    let known = declared-codes (variables c.args.all.now) c.in_ok-numbered.numbered.codes (sources_by c.args.takers.now) c.in_ok-numbered.ensures.all c.requires in (
      es,
      events-read (knows c.in_ok-numbered.numbered.codes) (has_code (variables c.args.all.now)) (items nothing c.args.words.now) es known events,
      record {
        values = rw c.new.ensures (value-is c.args.timescale (sources_in c.in_ok-numbered.numbered.codes) c.in_ok-read.read.lists.items c.in_ok-numbered.numbered.numbers.items es c.in_ok-read.read.last (sources_by c.args.takers.now) kept c.in_ok-numbered.ensures.numbers);
        last = last;
      },
    )
