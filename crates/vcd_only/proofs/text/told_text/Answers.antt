use Rattle.std.proofs.Common.{[], sym, length, arith, subst, ◌++◌, List, ◌<◌, ◌≤◌}
use Rattle.std.specs.List.{AllByRecursion}
use Rattle.std.specs.Prelude.{codes}
use Rattle.vcd_dumps.specs.Dump.{moments}
use Rattle.net_waves.specs.Waves.{wave_value}
use Rattle.net_waves.specs.declared.timeline.Stop.{Stop}
use Rattle.vcd_only.specs.Told.{told_text, told_header, told_first, hidden}
use Rattle.vcd_only.specs.Inner.Stops.{stops_in}
use Rattle.vcd_only.specs.declared.stops.Told.{Told}
use Rattle.vcd_only.proofs.Appending.{put_then}
use Rattle.vcd_only.proofs.Showing.{stops-known, moments-told}
use Rattle.vcd_only.proofs.text.told_text.Goals as goal

pub push_moments-requires : goal.push_moments-requires
push_moments-requires c =
    let few : length c.args.waves.now ≤ 1000000 = omega (arith, c.requires.nets, c.nets.ensures.count, c.nets.ensures.within) in
    subst (λ (xs : List Told). AllByRecursion (λ (s : Stop). s.net < 1000000) (stops_in xs)) (sym c.as_slice.ensures.value)
    (stops-known c.args.told.now c.args.waves.now c.args.horizon (stops_in c.in_ok-stops.stops.items) c.law.ensures c.requires.until few c.in_ok-stops.ensures.same c.in_ok-stops.ensures.sorted)

pub returns : goal.returns
unfolding told_text
returns c =
    let told = c.args.told.now in
    let value = wave_value c.args.waves.now in
    let names = c.args.circuit.now.names in
    let few : length c.args.waves.now ≤ 1000000 = omega (arith, c.requires.nets, c.nets.ensures.count, c.nets.ensures.within) in
    let written = moments-told told c.args.waves.now c.args.horizon (stops_in c.in_ok-stops.stops.items) c.law.ensures c.requires.until few c.in_ok-stops.ensures.same c.in_ok-stops.ensures.sorted in
    let later = rw (c.as_slice.ensures.value, written, c.requires.nets) at c.in_ok-push_moments.ensures in
    let above = rw c.new-text.ensures.items at c.in_ok-push_header.ensures in
    let first = rw c.nets.ensures.count at c.in_ok-push_first_values.ensures in
    let rest = moments (hidden told value) (length names) c.args.horizon c.args.horizon in
    put_then [] (told_header told c.args.top.now names c.args.scale) (told_first told value (length names) ++ (codes "$end\n" ++ rest)) above
    (put_then c.push_header.new.text.items (told_first told value (length names)) (codes "$end\n" ++ rest) first
    (put_then c.push_first_values.new.text.items (codes "$end\n") rest c.in_ok-push_text.ensures later))
