use Rattle.std.proofs.Common.{rules, ◌<◌, ◌≡◌, suc, length, take, ap, ◌∙◌, subst, IfOk, List, ℕ, arith, ◌++◌}
use Rattle.std.proofs.lemmas.List.{take_all}
use Rattle.std.specs.List.{AllByRecursion}
use Rattle.net_waves.specs.declared.timeline.Stop.{Stop}
use Rattle.net_waves.specs.Waves.{wave_value}
use Rattle.net_waves.specs.Keys.{stops_of_keys}
use Rattle.vcd_dumps.specs.Walk.{walked, last_stop}
use Rattle.vcd_dumps.proofs.Stops.{all_stops}
use Rattle.vcd_dumps.proofs.KeyWalk.{keys-all, keys-known}
use Rattle.vcd_dumps.proofs.PieceLaws.{text-moments}
use Rattle.vcd_dumps.proofs.workers.with_keys.Goals as goal

pub beside-requires : goal.beside-requires
beside-requires g c =
    let all = keys-all g.lists c.args.keyed.now c.args.horizon c.law.ensures c.requires.1.1.1.1.1.0 c.requires.1.1.1.1.0 c.requires.1.1.1.0 in
    let known : AllByRecursion (λ (s : Stop). s.net < 1000000) (stops_of_keys c.keys-keys.result.now) = rw c.keys-keys.ensures (keys-known g.lists c.args.keyed.now c.args.horizon all c.requires.1.1.0) in
    let cuts = c.in_ok-cuts.ensures in
    search rules

pub returns : goal.returns
returns g c =
    let keys = c.args.keyed.now in
    let front = c.args.front.items in
    let all : stops_of_keys keys ≡ all_stops (wave_value g.lists) (length g.lists) (suc c.args.horizon) =
    keys-all g.lists keys c.args.horizon c.law.ensures c.requires.1.1.1.1.1.0 c.requires.1.1.1.1.0 c.requires.1.1.1.0 in
    let made = rw (c.as_slice-cuts.ensures.value, c.keys-keys.ensures) at c.in_ok-text.ensures in
    let end = rw c.keys-keys.ensures at c.in_ok-cuts.ensures.last in
    let text : c.in_ok-text.text.items ≡ front ++ walked 0 (stops_of_keys keys) =
    made ∙ ap (λ (k : ℕ). front ++ walked 0 (stops_of_keys (take k keys))) end ∙ ap (λ ks. front ++ walked 0 (stops_of_keys ks)) (take_all (length keys) keys (omega arith)) in
    let last : c.last_of.result ≡ last_stop 0 (stops_of_keys keys) = c.last_of.ensures ∙ ap (λ ks. last_stop 0 (stops_of_keys ks)) c.keys-keys.ensures in
    subst (λ (l : List ℕ). IfOk c.with_tail.result (λ whole. whole.items ≡ l)) (text-moments g.lists c.args.horizon (stops_of_keys keys) front c.in_ok-text.text.items c.last_of.result all text last) c.with_tail.ensures
