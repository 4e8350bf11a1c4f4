use Rattle.std.proofs.Common.{◌≡◌, ◌≤◌, ◌∙◌, List, ℕ, length, subst, IfOk, arith}
use Rattle.std.specs.Prelude.{codes}
use Rattle.net_waves.specs.Waves.{wave_value}
use Rattle.vcd_dumps.proofs.PieceLaws.{whole-text}
use Rattle.vcd_dumps.proofs.workers.changes_dump_by.Goals as goal

pub with_changes-requires-sync-R : goal.with_changes-requires-sync-R
with_changes-requires-sync-R g c κs within =
    let nets = c.requires.1.1.1.0 in
    let few : length g.lists ≤ 1000000 = omega (arith, nets) in
    (within, (c.requires.1.0, (few, (c.requires.1.1.1.1.1.0, (c.requires.1.1.1.1.0, (c.requires.1.1.1.1.1.1.1.0, c.requires.1.1.0))))))

pub returns : goal.returns
returns g c =
    let names = c.args.circuit.now.names in
    let many : length c.args.firsts.now ≡ length names = c.requires.1.1.1.1.1.1.0.0 ∙ c.requires.1.1.1.0 in
    let front = rw (c.timescale.ensures, many) at c.in_ok-front.ensures in
    let made = rw c.requires.1.1.1.0 at c.with_changes.ensures in
    subst (λ (l : List ℕ). IfOk c.with_changes.result (λ text. text.items ≡ l)) (whole-text (codes "top") names c.args.stimulus.now.timescale (wave_value g.lists) c.args.horizon c.in_ok-front.front.items front) made
