use Rattle.std.proofs.Common.{◌≡◌, ◌-◌, ◌+◌, ◌++◌, IfOk, length, refl, ◌∙◌, arith, rules}
use Rattle.std.specs.Prelude.{slice_index_or}
use Rattle.vcd_dumps.specs.Inner.Pieces.{ArePieces, times_text}
use Rattle.vcd_dumps.proofs.pieces.with_times.Goals as goal

pub returns : goal.returns
returns g c =
    let cuts = c.args.cuts.now in
    let so_far = times_text c.args.packed.now cuts in
    let many : length c.as_slice.result.now ≡ length cuts - 1 = c.as_slice.ensures.len ∙ c.in_ok-pieces.ensures.len in
    let are : ArePieces so_far c.as_slice.result.now = record {
      none = rw c.requires.cuts.first refl;
      each = λ k d h.
          let piece : IfOk (slice_index_or c.in_ok-pieces.pieces.items k d) (λ piece. so_far k ++ piece.items ≡ so_far (k + 1)) =
          let made = (c.in_ok-pieces.ensures.each k d (omega (arith, many))).1 in search rules in
          rw c.as_slice.ensures.value piece;
    } in
    rw many at c.joined.ensures so_far are
