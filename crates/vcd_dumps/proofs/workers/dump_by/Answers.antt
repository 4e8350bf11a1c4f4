use Rattle.std.proofs.Common.{◌≡◌, ◌≤◌, List, ℕ, length, refl, subst, IfOk, arith}
use Rattle.net_waves.specs.Waves.{wave_value}
use Rattle.vcd_dumps.proofs.PieceLaws.{whole-text}
use Rattle.vcd_dumps.proofs.workers.dump_by.Goals as goal

pub with_moments-requires-sync-R : goal.with_moments-requires-sync-R
with_moments-requires-sync-R g c κs within =
    let few : length c.args.waves ≤ 1000000 = omega (arith, c.requires.nets) in
    (within, (c.type_bounds.sync-R, (refl, (few, (c.requires.until, c.requires.workers)))))

pub returns : goal.returns
returns g c =
    let names = c.args.circuit.now.names in
    let front = rw c.timescale.ensures at c.in_ok-front.ensures in
    let made = rw c.requires.nets at c.with_moments.ensures in
    subst (λ (l : List ℕ). IfOk c.with_moments.result (λ text. text.items ≡ l)) (whole-text c.args.top.now names c.args.stimulus.now.timescale (wave_value c.args.waves) c.args.horizon c.in_ok-front.front.items front) made
