use Rattle.std.proofs.Common.{◌++◌, ap, sym, ◌∙◌, append-nil}
use Rattle.net_waves.specs.Waves.{wave_value}
use Rattle.vcd_only.proofs.Appending.{put_then}
use Rattle.vcd_only.proofs.Writing.{told_first-none, told_first-next}
use Rattle.vcd_only.proofs.text.push_first_values.Goals as goal

pub loop-net-init : goal.loop-net-init
loop-net-init c = sym (append-nil c.args.text.now.items) ∙ ap (λ l. c.args.text.now.items ++ l) (sym (told_first-none c.args.told.now (wave_value c.args.waves.now)))

pub loop-net-preserved : goal.loop-net-preserved
loop-net-preserved c = put_then _ _ _ c.loop-net.invariant c.in_ok-push_told_first.ensures ∙ ap (λ l. c.args.text.now.items ++ l) (sym (told_first-next c.args.told.now (wave_value c.args.waves.now) c.loop-net.net))
