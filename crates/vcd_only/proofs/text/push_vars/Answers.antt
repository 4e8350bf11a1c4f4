use Rattle.std.proofs.Common.{◌++◌, ap, sym, ◌∙◌, append-nil}
use Rattle.vcd_only.proofs.Appending.{put_then}
use Rattle.vcd_only.proofs.Writing.{told_vars-none, told_vars-next}
use Rattle.vcd_only.proofs.text.push_vars.Goals as goal

pub loop-net-init : goal.loop-net-init
loop-net-init c = sym (append-nil c.args.text.now.items) ∙ ap (λ l. c.args.text.now.items ++ l) (sym (told_vars-none c.args.told.now c.args.circuit.now.names))

pub loop-net-preserved : goal.loop-net-preserved
loop-net-preserved c = put_then _ _ _ c.loop-net.invariant c.in_ok-push_told_var.ensures ∙ ap (λ l. c.args.text.now.items ++ l) (sym (told_vars-next c.args.told.now c.args.circuit.now.names c.loop-net.net))
