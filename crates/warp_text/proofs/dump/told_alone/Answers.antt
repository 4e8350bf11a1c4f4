use Rattle.std.proofs.Common.{◌≡◌, ◌∙◌, ℕ, ◌++◌, [], length, ap, sym, subst}
use Rattle.std.specs.Prelude.{codes}
use Rattle.gate_netlist.specs.Circuit.{Design, nets_of}
use Rattle.gate_stimulus.specs.Given.{Given}
use Rattle.net_waves.specs.Waves.{wave_value}
use Rattle.vcd_dumps.specs.Dump.{header, first_lines, moments, dump_text, vcd_text}
use Rattle.vcd_dumps.specs.Shown.Written.{HasTaken}
use Rattle.warp_core.specs.Values.{value_under, circuit_waves}
use Rattle.warp_text.proofs.Alone.{circuit_waves-are, each_wave}
use Rattle.warp_text.proofs.Simulating.{waves_until, dump-waves}
use Rattle.warp_text.proofs.dump.told_alone.Goals as goal

-- what is written of the circuit's changes is the dump of its values
whole : (d : Design) (g : Given) (horizon : ℕ)
    → header (codes "top") d.names g.timescale
    ++ (first_lines (wave_value (circuit_waves d g horizon)) (length (circuit_waves d g horizon)) ++ (codes "$end\n" ++ moments (wave_value (circuit_waves d g horizon)) (length (circuit_waves d g horizon)) horizon horizon))
    ≡ vcd_text (codes "top") d g (value_under d g) horizon
unfolding dump_text
whole d g horizon =
    let lists = circuit_waves d g horizon in
    let are = circuit_waves-are d g horizon in
    ap (λ (nets : ℕ). header (codes "top") d.names g.timescale ++ (first_lines (wave_value lists) nets ++ (codes "$end\n" ++ moments (wave_value lists) nets horizon horizon))) are.nets
    ∙ dump-waves (codes "top") d g horizon lists are

pub returns : goal.returns
returns g c =
    let d = c.args.circuit.now in
    let given = c.args.stimulus.now in
    let horizon = c.args.horizon in
    let lists = circuit_waves d given horizon in
    let are = circuit_waves-are d given horizon in
    let told = c.in_ok-tell_alone.ensures c.if-not-branch.false in
    let head = header (codes "top") d.names given.timescale in
    let begun : HasTaken head (nets_of d) [] c.in_ok-writer.writer = rw c.timescale.ensures at c.in_ok-writer.ensures in
    let taken : HasTaken head (length lists) told.0 c.tell_alone.new.taker = subst (λ (nets : ℕ). HasTaken head nets told.0 c.tell_alone.new.taker) (sym are.nets) (told.1 head (nets_of d) [] begun) in
    c.in_ok-dump.ensures head told.0 lists taken told.2 (each_wave d given horizon lists are) (waves_until d given horizon lists are) ∙ whole d given horizon
