use Rattle.std.proofs.Common.{inl, inr}
use Rattle.gate_netlist.specs.Passes.{lines_after}
use Rattle.gate_netlist.proofs.Accepting.{line_counted}
use Rattle.vcd_bits.specs.Shown.Tables.{bits_in}
use Rattle.vcd_compare.proofs.MapLaws.{all_read, line_read, line_refused}
use Rattle.vcd_compare.proofs.mapped.pairs_said.Goals as goal

pub returns-in-Err : goal.returns-in-Err
returns-in-Err c =
    let so_far = c.loop-rest.invariant.so_far in
    elim (c.in-Err.ensures so_far.pairs so_far.kept) [
      | inl memory ↦ inl memory
      | inr (cause, refused, is) ↦ inr (
        record { line = c.loop-rest.line; cause = cause },
        line_refused (bits_in c.args.expected.now) (bits_in c.args.actual.now) so_far.pairs c.loop-rest.line c.next_line.result.0.now (lines_after c.next_line.result.1) cause _ refused
            (rw (c.in-Some.is, c.next_line.ensures.lines) at so_far.left),
        is,
      )
    ]

pub loop-rest-preserved : goal.loop-rest-preserved
loop-rest-preserved c =
    let so_far = c.loop-rest.invariant.so_far in
    let (more, read, kept) = c.in_default-put_line.ensures so_far.pairs so_far.kept in
    record {
      so_far = record {
        pairs = more;
        kept = kept;
        left = line_read (bits_in c.args.expected.now) (bits_in c.args.actual.now) so_far.pairs more c.loop-rest.line c.next_line.result.0.now (lines_after c.next_line.result.1) _ read (rw (c.in-Some.is, c.next_line.ensures.lines) at so_far.left);
      };
      counted = line_counted c.loop-rest.line c.in-Some.text c.next_line.result.1 _ c.next_line.ensures.shorter (rw c.in-Some.is at c.loop-rest.invariant.counted);
    }

pub returns : goal.returns
returns c =
    let so_far = c.loop-rest.invariant.so_far in
    (so_far.pairs, all_read (bits_in c.args.expected.now) (bits_in c.args.actual.now) so_far.pairs c.loop-rest.line _ (rw c.in_default.is at so_far.left), so_far.kept.are)
