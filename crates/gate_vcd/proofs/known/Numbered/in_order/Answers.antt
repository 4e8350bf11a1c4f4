use Rattle.std.proofs.Common.{◌≡◌, ◌<◌, ℕ, List, Bool, Option, arith, length, get_or}
use Rattle.std.specs.List.{list_any, range_with_len}
use Rattle.std.specs.List.Sorted.{IsPermutation}
use Rattle.std.specs.Str.{bytes_eq}
use Rattle.std.proofs.lemmas.List.{get_or_default, length-map}
use Rattle.gate_vcd.specs.declared.source.Source.{Source as Held}
use Rattle.gate_vcd.specs.declared.variable.Variable.{Variable as HeldVariable}
use Rattle.gate_vcd.specs.Declarations.{Variable}
use Rattle.gate_vcd.specs.Shown.Commands.{variables}
use Rattle.gate_vcd.specs.Shown.Known.{source_by, sources_by}
use Rattle.gate_vcd.proofs.KnownLaws.{above-least, known-all, ordered-at, ordered-within, visited-all, visited-next}
use Rattle.gate_vcd.proofs.known.Numbered.in_order.Goals as goal

-- the net at a place of the order
net-is : (order : List ℕ) (i : ℕ) → i < length order → get_or order i 0 ≡ get_or order i (get_or order i 0)
net-is order i l = get_or_default order i 0 (get_or order i 0) l

permuted : (nets : List (Option Held)) (order : List ℕ) → IsPermutation (range_with_len 0 (length nets)) order → IsPermutation (range_with_len 0 (length (sources_by nets))) order
permuted nets order p = rw (length-map nets source_by) p

net-within : (nets : List (Option Held)) (order : List ℕ) (i : ℕ) → IsPermutation (range_with_len 0 (length nets)) order → i < length order → get_or order i 0 < length (sources_by nets)
net-within nets order i p l = ordered-within (sources_by nets) order i (get_or order i 0) (permuted nets order p) l (net-is order i l)

-- the codes of variables
abbrev of_variable : List HeldVariable → List ℕ → Bool
of_variable all code = list_any (λ (v : Variable). bytes_eq code v.code) (variables all)

pub put-requires-clause-least : goal.put-requires-clause-least
put-requires-clause-least c =
    rw c.taken_at.ensures (above-least c.loop-net.codes c.loop-net.net-index _ _
    (ordered-at (sources_by c.args.nets.now) c.args.order.now c.loop-net.net-index (get_or c.args.order.now c.loop-net.net-index 0) c.loop-net-test.true (net-is c.args.order.now c.loop-net.net-index c.loop-net-test.true)) c.loop-net.invariant.above)

pub index_mut-requires : goal.index_mut-requires
index_mut-requires c = omega (arith, net-within c.args.nets.now c.args.order.now c.loop-net.net-index c.requires.order c.loop-net-test.true, c.loop-net.invariant.count, c.loop-net.numbers.ok)

pub loop-net-preserved : goal.loop-net-preserved
loop-net-preserved c =
    visited-next (of_variable c.args.all.now) (sources_by c.args.nets.now) c.args.order.now c.loop-net.net-index (get_or c.args.order.now c.loop-net.net-index 0) c.loop-net.codes c.put.new.self c.in_ok-numbers.field-0 c.loop-net.numbers.items c.requires.falls c.loop-net-test.true (net-is c.args.order.now c.loop-net.net-index c.loop-net-test.true)
    (net-within c.args.nets.now c.args.order.now c.loop-net.net-index c.requires.order c.loop-net-test.true) (rw c.taken_at.ensures at c.in_ok-numbers.ensures.ok) c.loop-net.invariant

pub returns-clause-all : goal.returns-clause-all
returns-clause-all c =
    known-all (of_variable c.args.all.now) (sources_by c.args.nets.now) c.args.order.now c.loop-net.net-index c.loop-net.codes c.loop-net.numbers.items (permuted c.args.nets.now c.args.order.now c.requires.order) (omega (arith, c.loop-net-test.false)) c.loop-net.invariant

pub returns-clause-numbers : goal.returns-clause-numbers
returns-clause-numbers c =
    visited-all (of_variable c.args.all.now) (sources_by c.args.nets.now) c.args.order.now c.loop-net.net-index c.loop-net.codes c.loop-net.numbers.items (permuted c.args.nets.now c.args.order.now c.requires.order) (omega (arith, c.loop-net-test.false)) c.loop-net.invariant
