use Rattle.std.proofs.Common.{ap, ℕ, List, Bor, option_map}
use Rattle.gate_vcd.specs.Declarations.{no_header}
use Rattle.gate_vcd.specs.Shown.Headers.{asked_of}
use Rattle.gate_vcd.proofs.DeclarationLaws.{declaring-end}
use Rattle.gate_vcd.proofs.declarations.read_declarations.Goals as goal

pub returns : goal.returns
returns c =
    let (h, is, read) = c.loop-first.invariant.read in
    let over = c.in_default.ensures in
    (h, declaring-end (asked_of c.loop-first.declared) (option_map (λ (a : Bor (List ℕ)). a.now) c.args.asked) h no_header c.loop-first.words c.next.new.self c.args.words.now (ap (option_map (λ (a : Bor (List ℕ)). a.now)) c.loop-first.invariant.asked) over.0 over.1 read, is)
