use Rattle.std.proofs.Common.{rules, ◌≡◌, suc, length, ap, ◌∙◌, subst, IfOk, List, ℕ, ◌++◌}
use Rattle.net_waves.specs.Waves.{wave_value}
use Rattle.net_waves.specs.Packed.{all_told, told_below}
use Rattle.vcd_dumps.specs.Walk.{walked, last_stop}
use Rattle.vcd_dumps.proofs.Stops.{all_stops}
use Rattle.vcd_dumps.proofs.PackedWalk.{told-all, all-known}
use Rattle.vcd_dumps.proofs.PieceLaws.{text-moments}
use Rattle.vcd_dumps.proofs.workers.with_words.Goals as goal

pub beside-requires : goal.beside-requires
beside-requires g c =
    let all = told-all g.lists c.args.packed.now c.args.horizon c.law.ensures c.requires.1.1.1.1.1.0 c.requires.1.1.1.1.0 c.requires.1.1.1.0 in
    let known = all-known g.lists c.args.packed.now c.args.horizon all c.requires.1.1.0 in
    let cuts = c.in_ok-cuts.ensures in
    search rules

pub returns : goal.returns
returns g c =
    let p = c.args.packed.now in
    let front = c.args.front.items in
    let all : all_told p ≡ all_stops (wave_value g.lists) (length g.lists) (suc c.args.horizon) =
    told-all g.lists p c.args.horizon c.law.ensures c.requires.1.1.1.1.1.0 c.requires.1.1.1.1.0 c.requires.1.1.1.0 in
    let made = rw c.as_slice-cuts.ensures.value at c.in_ok-text.ensures in
    let text : c.in_ok-text.text.items ≡ front ++ walked 0 (all_told p) = made ∙ ap (λ (t : ℕ). front ++ walked 0 (told_below p t)) c.in_ok-cuts.ensures.last in
    let last : c.last_before.result ≡ last_stop 0 (all_told p) = c.last_before.ensures ∙ ap (λ (t : ℕ). last_stop 0 (told_below p t)) c.times.ensures in
    subst (λ (l : List ℕ). IfOk c.with_tail.result (λ whole. whole.items ≡ l)) (text-moments g.lists c.args.horizon (all_told p) front c.in_ok-text.text.items c.last_before.result all text last) c.with_tail.ensures
