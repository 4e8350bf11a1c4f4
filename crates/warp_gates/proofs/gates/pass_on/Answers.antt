use Rattle.std.proofs.Common.{◌≡◌, ◌∙◌, ◌/◌, ◌<◌, ℕ, List, length, sym, ap, subst}
use Rattle.std.specs.List.{All}
use Rattle.gate_values.specs.declared.logic.Logic.{Logic}
use Rattle.warp_gates.specs.Inner.Fronts.{AreFronts, AreSettled, row_of}
use Rattle.warp_gates.specs.Inner.Told.{AreEvaluating, AreListed, all_edges}
use Rattle.warp_gates.proofs.Moving.{length-moved}
use Rattle.warp_gates.proofs.Evaluating.{edges_within}
use Rattle.warp_gates.proofs.Steps.{settled_loaded, fronts_loaded, evaluating_begins, settled_in_the_end, outputs_in_the_end}
use Rattle.warp_gates.proofs.Reached.{listed_edges, listed_within}
use Rattle.warp_gates.proofs.gates.pass_on.Goals as goal

pub show_all-requires-clause-edges : goal.show_all-requires-clause-edges
show_all-requires-clause-edges c =
    let same : length c.load_all.new.fronts ≡ length c.args.wiring.now = c.load_all.ensures.loaded.same ∙ c.requires.held.fronts.same in
    record { each = λ place. subst (λ (n : ℕ). All (λ e. e / 8 < n) (row_of c.args.readers.now place)) (sym same) (edges_within c.args.wiring.now c.args.readers.now place c.requires.held.readers) }

pub show_all-requires-clause-settled : goal.show_all-requires-clause-settled
show_all-requires-clause-settled c = settled_loaded c.args.wiring.now c.args.values.now c.args.words.now c.args.fronts.now c.load_all.new.fronts c.load_all.ensures.loaded

pub evaluate-requires-clause-edges : goal.evaluate-requires-clause-edges
evaluate-requires-clause-edges c = listed_edges c.args.wiring.now c.args.readers.now c.args.words.now c.show_all.new.fronts c.as_slice.result.now c.requires.held.readers
    (subst (λ (es : List ℕ). AreListed (all_edges c.args.readers.now c.args.words.now) c.show_all.new.fronts es) (sym c.as_slice.ensures.value) c.show_all.ensures.listed)

pub evaluate-requires-clause-within : goal.evaluate-requires-clause-within
evaluate-requires-clause-within c = listed_within c.args.wiring.now c.args.readers.now c.args.words.now c.show_all.new.fronts c.as_slice.result.now c.requires.held.readers
    (subst (λ (es : List ℕ). AreListed (all_edges c.args.readers.now c.args.words.now) c.show_all.new.fronts es) (sym c.as_slice.ensures.value) c.show_all.ensures.listed)

pub evaluate-requires-clause-fronts : goal.evaluate-requires-clause-fronts
evaluate-requires-clause-fronts c =
    c.show_all.ensures.fronts c.args.wiring.now c.requires.held.readers
    (fronts_loaded c.args.wiring.now c.args.values.now c.args.words.now c.args.fronts.now c.load_all.new.fronts c.requires.held.fronts c.requires.held.settled c.load_all.ensures.loaded)

pub returns : goal.returns
returns c =
    let fronts : AreFronts c.args.wiring.now c.show_all.new.values c.show_all.new.fronts =
    c.show_all.ensures.fronts c.args.wiring.now c.requires.held.readers
    (fronts_loaded c.args.wiring.now c.args.values.now c.args.words.now c.args.fronts.now c.load_all.new.fronts c.requires.held.fronts c.requires.held.settled c.load_all.ensures.loaded) in
    let begins : AreEvaluating c.args.wiring.now c.show_all.new.values c.args.fronts.now c.show_all.new.fronts c.args.puts.now.items c.load_all.new.puts.items =
    evaluating_begins c.args.wiring.now c.args.readers.now c.args.values.now c.show_all.new.values c.args.words.now c.args.fronts.now c.load_all.new.fronts c.show_all.new.fronts c.args.puts.now.items c.load_all.new.puts.items
    c.requires.held.readers fronts c.load_all.ensures.loaded c.show_all.ensures.touched c.load_all.ensures.told in
    let ends : AreEvaluating c.args.wiring.now c.show_all.new.values c.args.fronts.now c.evaluate.new.fronts c.args.puts.now.items c.evaluate.new.puts.items =
    c.evaluate.ensures.evaluating c.args.fronts.now c.args.puts.now.items begins in
    let settled : AreSettled c.evaluate.new.fronts =
    settled_in_the_end (all_edges c.args.readers.now c.args.words.now) c.as_slice.result.now c.show_all.new.fronts c.evaluate.new.fronts
    (subst (λ (es : List ℕ). AreListed (all_edges c.args.readers.now c.args.words.now) c.show_all.new.fronts es) (sym c.as_slice.ensures.value) c.show_all.ensures.listed) c.evaluate.ensures.refreshed in
    record {
      held = record {
        few = c.requires.held.few;
        closed = c.requires.held.closed;
        values = ap (λ (vs : List Logic). length vs) c.show_all.ensures.values ∙ length-moved c.args.words.now c.args.values.now ∙ c.requires.held.values;
        fronts = ends.fronts;
        settled = settled;
        readers = c.requires.held.readers;
        clocked = c.requires.held.clocked;
      };
      values = c.show_all.ensures.values;
      outputs = record {
        same = ends.fronts.same ∙ sym c.requires.held.fronts.same;
        next = outputs_in_the_end c.args.wiring.now c.args.readers.now c.args.values.now c.show_all.new.values c.args.words.now c.as_slice.result.now c.args.fronts.now c.load_all.new.fronts c.show_all.new.fronts c.evaluate.new.fronts
            (listed_edges c.args.wiring.now c.args.readers.now c.args.words.now c.show_all.new.fronts c.as_slice.result.now c.requires.held.readers
            (subst (λ (es : List ℕ). AreListed (all_edges c.args.readers.now c.args.words.now) c.show_all.new.fronts es) (sym c.as_slice.ensures.value) c.show_all.ensures.listed)) c.show_all.ensures.values ends.fronts settled c.load_all.ensures.loaded c.show_all.ensures.touched c.evaluate.ensures.refreshed;
      };
      told = ends.told;
    }
