use Rattle.std.proofs.Common.{◌≡◌, ◌++◌, ◌+◌, ◌<◌, IfOk, length, sym, ◌∙◌, ap, subst, append_assoc, arith}
use Rattle.vcd_dumps.proofs.pieces.joined.Goals as goal

pub loop-piece-preserved : goal.loop-piece-preserved
loop-piece-preserved c so_far are =
    let k = c.loop-piece.piece-index in
    let front = c.args.text.items in
    let bytes = c.in-Ok.bytes.items in
    let within : k < length c.args.pieces.now = omega (arith, c.loop-piece-test.true, c.loop-piece.auto.piece-index-end) in
    let next : so_far k ++ bytes ≡ so_far (k + 1) = subst (λ r. IfOk r (λ piece. so_far k ++ piece.items ≡ so_far (k + 1))) (sym c.piece-item.is ∙ c.in-Ok.is) (are.each k c.piece-item.result within) in
    c.in_ok-extend_from_slice-in-Ok.ensures.items ∙ ap (λ l. c.loop-piece.text.items ++ l) c.as_slice.ensures.value ∙ ap (λ l. l ++ bytes) (c.loop-piece.invariant so_far are) ∙ append_assoc front (so_far k) bytes ∙ ap (λ l. front ++ l) next
