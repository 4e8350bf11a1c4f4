use Rattle.std.proofs.Common.{◌∙◌, ℕ, sym, subst}
use Rattle.std.specs.Result.{OnOk}
use Rattle.part_engine.specs.FirstMoves.{AreFirstMoves}
use Rattle.part_engine.proofs.Bringing.{not_begun}
use Rattle.part_engine.proofs.moves.begin.Goals as goal

pub returns-then-time-eq0 : goal.returns-then-time-eq0
returns-then-time-eq0 c = subst (λ (t : ℕ). OnOk c.first_words.result (AreFirstMoves c.args.part.now t c.first_words.new.words.items)) (sym c.if-time-eq0.true) c.first_words.ensures

pub returns : goal.returns
returns c = not_begun c.args.part.now c.args.time c.clear.new.self.items c.if-time-eq0.false c.clear.ensures.items
