use Rattle.std.proofs.Common.{sym, ◌∙◌}
use Rattle.std.proofs.lemmas.Bool.{true≢false}
use Rattle.warp_part.proofs.PartEquality.{cells_at}
use Rattle.warp_part.proofs.part.Part.is_same_at.Goals as goal

pub returns-then-same_cell : goal.returns-then-same_cell
returns-then-same_cell c =
    let said = cells_at c.self.inside c.other.inside c.args.self.now c.args.other.now c.self.view_is c.other.view_is c.args.slot c.index.result.now c.index-2.result.now c.deref.result.now c.deref-2.result.now
    c.self.invariant c.other.invariant c.requires.nets c.requires.slot c.index.ensures c.index-2.ensures c.deref.ensures.value c.deref-2.ensures.value in
    let same = said.0 (c.same_cell.ensures.0 c.if-same_cell.true) in
    let told = rw (c.readers.ensures, c.readers-then-same_cell.ensures) at c.same_numbers.ensures in
    (λ e. record { source = same.0; input = same.1; readers = told.0 e }, λ s. told.1 s.readers)

pub returns-else-same_cell : goal.returns-else-same_cell
returns-else-same_cell c =
    let said = cells_at c.self.inside c.other.inside c.args.self.now c.args.other.now c.self.view_is c.other.view_is c.args.slot c.index.result.now c.index-2.result.now c.deref.result.now c.deref-2.result.now
    c.self.invariant c.other.invariant c.requires.nets c.requires.slot c.index.ensures c.index-2.ensures c.deref.ensures.value c.deref-2.ensures.value in
    (λ e. absurd (true≢false (sym e ∙ c.if-same_cell.false)), λ s. c.same_cell.ensures.1 (said.1 (s.source, s.input)))
