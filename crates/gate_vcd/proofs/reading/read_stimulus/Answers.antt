use Rattle.std.proofs.Common.{◌≡◌, ◌∙◌, inr, ap, Ok, Err, Result, List}
use Rattle.std.proofs.lemmas.Result.{err_from_is_err_and}
use Rattle.gate_vcd.specs.declared.fault.StimFault.{StimFault}
use Rattle.gate_vcd.specs.Tokens.{Token}
use Rattle.gate_vcd.specs.Reading.{Fails}
use Rattle.gate_vcd.specs.Shown.Commands.{variables}
use Rattle.gate_vcd.specs.Declarations.{Header}
use Rattle.gate_vcd.specs.Changes.{items, nothing}
use Rattle.gate_netlist.specs.Circuit.{nets_of}
use Rattle.gate_vcd.specs.Inputs.{sources_below}
use Rattle.gate_vcd.specs.Inner.Known.{knows, sources_in}
use Rattle.gate_vcd.specs.Shown.Known.{sources_by}
use Rattle.gate_vcd.specs.Stimulus.{has_code}
use Rattle.gate_vcd.proofs.Meaning.{declared-fails, changes-fail, inputs-fail, reads, means, laid, declared-read, known-codes, unused-codes, events-fail, events-read}
use Rattle.gate_vcd.proofs.reading.read_stimulus.Goals as goal

abbrev Read : Type 0
Read = Result (Header × List Token) StimFault

pub returns-in_err-declared : goal.returns-in_err-declared
returns-in_err-declared c =
    let p = err_from_is_err_and c.from_residual.result c.from_residual.ensures.1 in
    rw (p.1, p.2) (declared-fails c.args.text.now c.args.circuit.now _
    (declared-read c.args.circuit.now c.args.text.now _ _ (λ (r : Read). Fails c.in_err-declared.field-0.0 r) c.asked_scope.ensures c.new-words.ensures c.in_err-declared.ensures))

pub returns-in_err-read-in-Found : goal.returns-in_err-read-in-Found
returns-in_err-read-in-Found c =
    let p = err_from_is_err_and c.from_residual-in_err-read-in-Found.result c.from_residual-in_err-read-in-Found.ensures.1 in
    let (h, declared, is) = c.in_ok-declared.ensures in
    let read = declared-read c.args.circuit.now c.args.text.now _ _ (λ (r : Read). r ≡ Ok (h, c.read_declarations.new.words)) c.asked_scope.ensures c.new-words.ensures declared in
    let same : variables c.as_slice-variables.result.now ≡ h.variables = ap variables c.as_slice-variables.ensures.value ∙ is.variables in
    let below : sources_below c.args.circuit.now h.variables (nets_of c.args.circuit.now) ≡ Ok (sources_by c.in-Found.sources.items) = rw (← same) (rw c.in-Found.is at c.in_ok-sources.ensures.ok) in
    let known = known-codes c.args.circuit.now h.variables c.in_ok-numbered-in-Found.numbered.codes (sources_by c.in-Found.sources.items) (rw (← same, ← c.deref.ensures.value) c.in_ok-numbered-in-Found.ensures.all) below in
    rw (p.1, p.2) (changes-fail c.args.text.now c.args.circuit.now _ h c.read_declarations.new.words read
    (events-fail (knows c.in_ok-numbered-in-Found.numbered.codes) (has_code h.variables) (items nothing c.read_declarations.new.words) _ known c.in_err-read-in-Found.ensures))

pub new-requires : goal.new-requires
new-requires c =
    let (h, declared, is) = c.in_ok-declared.ensures in
    let ((es, events, kept), _) = c.in_ok-read-in-Found.ensures in
    laid h.timescale (sources_in c.in_ok-numbered-in-Found.numbered.codes) c.in_ok-read-in-Found.read.lists.items c.in_ok-numbered-in-Found.numbered.numbers.items es c.in_ok-read-in-Found.read.last (sources_by c.in-Found.sources.items) kept
    (rw (← c.deref.ensures.value) c.in_ok-numbered-in-Found.ensures.numbers)

pub returns-in-Found : goal.returns-in-Found
returns-in-Found c =
    let (h, declared, is) = c.in_ok-declared.ensures in
    let read = declared-read c.args.circuit.now c.args.text.now _ _ (λ (r : Read). r ≡ Ok (h, c.read_declarations.new.words)) c.asked_scope.ensures c.new-words.ensures declared in
    let same : variables c.as_slice-variables.result.now ≡ h.variables = ap variables c.as_slice-variables.ensures.value ∙ is.variables in
    let below : sources_below c.args.circuit.now h.variables (nets_of c.args.circuit.now) ≡ Ok (sources_by c.in-Found.sources.items) = rw (← same) (rw c.in-Found.is at c.in_ok-sources.ensures.ok) in
    let known = known-codes c.args.circuit.now h.variables c.in_ok-numbered-in-Found.numbered.codes (sources_by c.in-Found.sources.items) (rw (← same, ← c.deref.ensures.value) c.in_ok-numbered-in-Found.ensures.all) below in
    let ((es, events, kept), _) = c.in_ok-read-in-Found.ensures in (
      record { timescale = h.timescale; events = es; sources = sources_by c.in-Found.sources.items },
      reads c.args.text.now c.args.circuit.now h c.read_declarations.new.words es (sources_by c.in-Found.sources.items) read (events-read (knows c.in_ok-numbered-in-Found.numbered.codes) (has_code h.variables) (items nothing c.read_declarations.new.words) es known events) below,
      rw (c.new.ensures, is.timescale) (means c.args.circuit.now h (sources_in c.in_ok-numbered-in-Found.numbered.codes) c.in_ok-read-in-Found.read.lists.items c.in_ok-numbered-in-Found.numbered.numbers.items es c.in_ok-read-in-Found.read.last (sources_by c.in-Found.sources.items) kept
          (rw (← c.deref.ensures.value) c.in_ok-numbered-in-Found.ensures.numbers) below c.law.ensures.drivers),
    )

pub returns-in_err-read_changes-in-Lacking : goal.returns-in_err-read_changes-in-Lacking
returns-in_err-read_changes-in-Lacking c =
    let p = err_from_is_err_and c.from_residual-in_err-read_changes-in-Lacking.result c.from_residual-in_err-read_changes-in-Lacking.ensures.1 in
    let (h, declared, is) = c.in_ok-declared.ensures in
    let read = declared-read c.args.circuit.now c.args.text.now _ _ (λ (r : Read). r ≡ Ok (h, c.read_declarations.new.words)) c.asked_scope.ensures c.new-words.ensures declared in
    let same : variables c.as_slice-variables.result.now ≡ h.variables = ap variables c.as_slice-variables.ensures.value ∙ is.variables in
    let known = unused-codes h.variables c.in_ok-numbered-in-Lacking.numbered.codes (rw (← same) c.in_ok-numbered-in-Lacking.ensures.all) in
    rw (p.1, p.2) (changes-fail c.args.text.now c.args.circuit.now _ h c.read_declarations.new.words read
    (events-fail (knows c.in_ok-numbered-in-Lacking.numbered.codes) (has_code h.variables) (items nothing c.read_declarations.new.words) _ known c.in_err-read_changes-in-Lacking.ensures))

pub returns : goal.returns
returns c =
    let (h, declared, is) = c.in_ok-declared.ensures in
    let read = declared-read c.args.circuit.now c.args.text.now _ _ (λ (r : Read). r ≡ Ok (h, c.read_declarations.new.words)) c.asked_scope.ensures c.new-words.ensures declared in
    let same : variables c.as_slice-variables.result.now ≡ h.variables = ap variables c.as_slice-variables.ensures.value ∙ is.variables in
    let known = unused-codes h.variables c.in_ok-numbered-in-Lacking.numbered.codes (rw (← same) c.in_ok-numbered-in-Lacking.ensures.all) in
    let ((es, events, kept), _) = c.in_ok-read_changes-in-Lacking.ensures in
    let lacking : sources_below c.args.circuit.now h.variables (nets_of c.args.circuit.now) ≡ Err c.in-Lacking.fault = rw (← same) (rw c.in-Lacking.is at c.in_ok-sources.ensures.ok) in
    inputs-fail c.args.text.now c.args.circuit.now _ h c.read_declarations.new.words es read
    (events-read (knows c.in_ok-numbered-in-Lacking.numbered.codes) (has_code h.variables) (items nothing c.read_declarations.new.words) es known events) (inr lacking)
