use Rattle.std.proofs.Common.{◌∙◌, sym, length, refl, arith}
use Rattle.std.proofs.lemmas.Bool.Decides.{nat_tests}
use Rattle.std.proofs.lemmas.Option.{slice_get_read}
use Rattle.gate_vcd.specs.Shown.Known.{source}
use Rattle.gate_vcd.proofs.KnownLaws.{numbered-at}
use Rattle.gate_vcd.proofs.known.KnownCodes.is_numbered.Goals as goal

pub returns-in-Some : goal.returns-in-Some
returns-in-Some c same =
    let at = rw c.deref.ensures.value at c.in-Some.ensures.lookup in
    numbered-at c.args.self.now c.args.number (source c.args.source) c.in-Some.kept.now
    (slice_get_read c.args.self.now.used.items (length c.args.self.now.used.items) c.args.number c.in-Some.kept.now refl (grind (arith, nat_tests, at.0)) at.1) (sym c.eq.ensures ∙ same)
