use Rattle.std.proofs.Common.{List, refl, Result, Ok, Err, subst, arith}
use Rattle.std.specs.Result.{OnOk}
use Rattle.warp_stores.specs.Words.{Move}
use Rattle.warp_journal.specs.Books.{IsBrought}
use Rattle.warp_part.specs.Portion.{Portion}
use Rattle.warp_part.specs.Placing.{place_source, place_given}
use Rattle.warp_process.specs.View.{given_by}
use Rattle.part_engine.specs.FirstMoves.{AreFirstMoves}
use Rattle.warp_process.specs.Played.{played_view}
use Rattle.warp_process.proofs.Playing.{played_lawful}
use Rattle.part_engine.proofs.Heeding.{quiet_none}
use Rattle.part_engine.proofs.Bringing.{only_first}
use Rattle.part_engine.proofs.brought.bring_first.Goals as goal

on_ok : {A E : Type 0} (result : Result A E) (P Q : Type 0) → (P → Q) → OnOk result P → OnOk result Q
on_ok (Ok a) P Q f h = f h
on_ok (Err e) P Q f h = tt

pub returns : goal.returns
returns c =
    let v = c.args.heard.now in
    let run = c.args.engine.now in
    let first : List Move = c.begin.new.words.items in
    on_ok c.begin.result (AreFirstMoves c.part.result.now 0 first) (IsBrought (place_source v.part) (place_given v.part (given_by v)) run.book.mark 0 first)
    (λ firsts. only_first v run c.requires.engine.0 c.requires.engine.1 0 (let e = c.requires.mark in omega (arith, e)) (λ t a b. absurd (omega (arith, b))) (λ e. refl)
    first (subst (λ (p : Portion). AreFirstMoves p 0 first) c.part.ensures firsts)
    (λ i l. quiet_none (played_view v 0) (played_lawful v 0 c.requires.engine.1.received) i 0 l c.requires.quiet)) c.begin.ensures
