use Rattle.std.proofs.Common.{◌≡◌, ◌∙◌, ◌∷◌, sym, refl, arith}
use Rattle.std.proofs.lemmas.Grind.{common_steps}
use Rattle.gate_vcd.specs.Shown.Words.{token_of}
use Rattle.gate_vcd.specs.Changes.{items}
use Rattle.gate_vcd.proofs.DeclarationLaws.{alike-start, alike-next, alike-found, alike-none}
use Rattle.gate_vcd.proofs.items.skip_command.Goals as goal

pub loop-word-init : goal.loop-word-init
loop-word-init c = record { items = refl; ends = alike-start c.args.words.now; shorter = omega arith }

pub returns-then-is_end-clause-skipped : goal.returns-then-is_end-clause-skipped
returns-then-is_end-clause-skipped c =
    alike-found (token_of c.args.first) (token_of c.in-Some.word) c.loop-word.words c.next.new.self c.args.words.now (sym c.is_end.ensures ∙ c.if-is_end.true) c.in-Some.ensures c.loop-word.invariant.ends

pub returns-clause-skipped : goal.returns-clause-skipped
returns-clause-skipped c = rw c.fault.ensures (alike-none (token_of c.args.first) c.loop-word.words c.args.words.now c.in_default.ensures.0 c.loop-word.invariant.ends)

pub loop-word-preserved : goal.loop-word-preserved
unfolding items
loop-word-preserved c =
    let next : c.loop-word.words ≡ token_of c.in-Some.word ∷ c.next.new.self = c.in-Some.ensures in
    let goes = sym c.is_end.ensures ∙ c.if-is_end.false in
    record {
      items = sym (rw (next, goes) refl) ∙ c.loop-word.invariant.items;
      ends = alike-next (token_of c.in-Some.word) c.loop-word.words c.next.new.self c.args.words.now goes next c.loop-word.invariant.ends;
      shorter = grind (arith, common_steps);
    }
