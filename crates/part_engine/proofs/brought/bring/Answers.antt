use Rattle.std.proofs.Common.{◌≡◌, ◌∙◌, ◌++◌, ℕ, nat_eq, List, Option, Some, Result, Ok, Err, refl, sym, subst, ap}
use Rattle.std.proofs.lemmas.Bool.{true≢false, eq-eqb}
use Rattle.std.specs.Option.{option_eq}
use Rattle.std.specs.Result.{OnOk}
use Rattle.std.specs.List.{flat_map}
use Rattle.gate_values.specs.declared.logic.Logic.{Logic}
use Rattle.gate_values.specs.Behaviour.{Source}
use Rattle.warp_stores.specs.Words.{Move}
use Rattle.warp_journal.specs.Books.{IsBrought}
use Rattle.warp_part.specs.Portion.{Portion}
use Rattle.warp_part.specs.Placing.{place_source, place_given}
use Rattle.warp_process.specs.Entries.{effective_of}
use Rattle.warp_process.specs.Rows.{Standing}
use Rattle.warp_process.specs.View.{given_by}
use Rattle.part_engine.specs.Inner.Bringing.{heard_move, standing_move}
use Rattle.part_engine.specs.FirstMoves.{AreFirstMoves}
use Rattle.part_engine.proofs.Rowing.{places_of, row_moves, row_rises, row_inside, row_all}
use Rattle.part_engine.proofs.Bringing.{is_brought, only_first, other_none}
use Rattle.part_engine.proofs.brought.bring.Goals as goal

on_ok : {A E : Type 0} (result : Result A E) (P Q : Type 0) → (P → Q) → OnOk result P → OnOk result Q
on_ok (Ok a) P Q f h = f h
on_ok (Err e) P Q f h = tt

pub push_row-requires-clause-within : goal.push_row-requires-clause-within
push_row-requires-clause-within c = c.row.ensures.within

pub returns-then-eq : goal.returns-then-eq
returns-then-eq c =
    let v = c.args.heard.now in
    let run = c.args.engine.now in
    let row : List Standing = c.row.result.now in
    let ps : ℕ → Source = place_source v.part in
    let pg : ℕ → ℕ → Logic = place_given v.part (given_by v) in
    let values : List Logic = run.book.gates.values in
    let move : ℕ → List Move = heard_move v values c.args.time in
    let first : List Move = c.begin.new.words.items in
    let places : List ℕ = places_of row in
    let firsts : AreFirstMoves v.part c.args.time first = subst (λ (p : Portion). AreFirstMoves p c.args.time first) c.part.ensures c.in_ok-begin.ensures in
    let brought : IsBrought ps pg run.book.mark c.args.time (first ++ flat_map move places) =
    is_brought v run c.requires.engine.0 c.requires.engine.1 c.args.time c.requires.ahead c.requires.quiet c.requires.start first firsts places (row_rises v values c.args.time row c.row.ensures.row c.row.ensures.all c.row.ensures.within)
    (row_inside v values c.args.time row c.row.ensures.row c.row.ensures.all c.row.ensures.within)
    (λ i l some. row_all v values c.args.time row c.row.ensures.row c.row.ensures.all c.row.ensures.within i l (λ none. some (ap effective_of none))) in
    on_ok c.push_row.result (c.push_row.new.words.items ≡ first ++ flat_map (standing_move values) row) (IsBrought ps pg run.book.mark c.args.time c.push_row.new.words.items)
    (λ e. subst (IsBrought ps pg run.book.mark c.args.time) (sym (e ∙ ap (λ (ms : List Move). first ++ ms) (row_moves v values c.args.time row c.row.ensures.row c.row.ensures.all c.row.ensures.within))) brought) c.push_row.ensures

pub returns : goal.returns
returns c =
    let v = c.args.heard.now in
    let run = c.args.engine.now in
    let other : c.args.brought ≡ Some c.args.time → ⊥ = λ same.
    true≢false (sym (c.eq.ensures ∙ ap (λ (o : Option ℕ). option_eq nat_eq o (Some c.args.time)) same ∙ eq-eqb c.args.time c.args.time refl) ∙ c.if-eq.false) in
    only_first v run c.requires.engine.0 c.requires.engine.1 c.args.time c.requires.ahead c.requires.quiet c.requires.start c.begin.new.words.items
    (subst (λ (p : Portion). AreFirstMoves p c.args.time c.begin.new.words.items) c.part.ensures c.in_ok-begin.ensures)
    (other_none v run c.requires.engine.0 c.requires.engine.1 c.args.time c.requires.ahead c.requires.quiet c.requires.start c.requires.floor c.args.brought c.requires.brought other)
