use Rattle.std.proofs.Common.{◌≡◌, [], ◌∷◌, ◌++◌, true, false, inr, refl, sym, ◌∙◌}
use Rattle.gate_vcd.specs.Shown.Known.{source}
use Rattle.vcd_bits.specs.Shown.Tables.{bits_in}
use Rattle.vcd_compare.specs.declared.fault.MapCause.TheVariants.{NamedTwice}
use Rattle.vcd_compare.specs.Map.{is_paired, pair_of}
use Rattle.vcd_compare.proofs.MapLaws.{mapped-more, mark-read, names-again, names-put, number-known}
use Rattle.vcd_compare.proofs.mapped.Mapped.put_names.Goals as goal

pub returns-in_default-find : goal.returns-in_default-find
returns-in_default-find c pairs kept = absurd (number-known (bits_in c.args.expected.now) c.args.names.0.now (source c.in-Some.source) (sym c.in-Some.ensures) (sym c.in_default-find.ensures))

pub returns-then-index : goal.returns-then-index
returns-then-index c pairs kept =
    let old : is_paired pairs c.args.names.0.now ≡ true = mark-read (bits_in c.args.expected.now) pairs c.args.self.now c.args.names.0.now c.in-Some-find.number _ kept (sym c.in-Some-find.ensures) c.index.ensures ∙ c.if-index.true in
    inr (NamedTwice, names-again (bits_in c.args.expected.now) (bits_in c.args.actual.now) pairs c.args.names.0.now c.args.names.1.now (source c.in-Some.source) (source c.in-Some-source.other) (sym c.in-Some.ensures) (sym c.in-Some-source.ensures) old, c.line_fault-then-index.ensures)

pub returns : goal.returns
returns c pairs kept =
    let new : is_paired pairs c.args.names.0.now ≡ false = mark-read (bits_in c.args.expected.now) pairs c.args.self.now c.args.names.0.now c.in-Some-find.number _ kept (sym c.in-Some-find.ensures) c.index.ensures ∙ c.if-index.false in (
      pairs ++ pair_of c.args.names.0.now (source c.in-Some.source) (source c.in-Some-source.other) ∷ [],
      names-put (bits_in c.args.expected.now) (bits_in c.args.actual.now) pairs c.args.names.0.now c.args.names.1.now (source c.in-Some.source) (source c.in-Some-source.other) (sym c.in-Some.ensures) (sym c.in-Some-source.ensures) new,
      mapped-more (bits_in c.args.expected.now) pairs c.args.names.0.now (source c.in-Some.source) (source c.in-Some-source.other) c.in-Some-find.number c.in-Some.source c.in-Some-source.other c.args.self.now _ (sym c.in-Some-find.ensures) refl refl c.in_ok-push.ensures.ok refl kept,
    )
