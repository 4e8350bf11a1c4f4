use Rattle.std.proofs.Common.{◌≡◌, ◌∙◌, ℕ, List, ap, sym, subst, arith, rules, length, drop, reverse}
use Rattle.std.specs.List.{range_with_len}
use Rattle.std.specs.List.Sorted.{IsPermutation}
use Rattle.std.proofs.lemmas.List.Sorted.{IsNonDecreasingBy-from_sort_by_key, IsPermutation-trans}
use Rattle.gate_vcd.specs.Inner.Known.{AreFallingNets, in_order}
use Rattle.gate_vcd.specs.Shown.Known.{sources_by}
use Rattle.gate_vcd.proofs.KnownLaws.{falls-turned, place_at, written-over}
use Rattle.gate_vcd.proofs.known.by_place.Goals as goal

pub returns-clause-all : goal.returns-clause-all
returns-clause-all c =
    let long : c.sort_by_key.new.self.len ≡ length c.reverse.new.self = omega (arith, c.sort_by_key.new.self.ok, c.reverse.ensures.len, ap length c.as_mut_slice.ensures.value) in
    let whole = written-over c.sort_by_key.new.self.len c.reverse.new.self (drop (length c.reverse.new.self) c.sort_by_key.new.self.items) long in
    let first = rw c.in_ok-order.ensures.all at c.in_ok-sort_by_key.ensures.permutation in
    let second = rw c.as_mut_slice.ensures.value at c.reverse.ensures.permutation in
    subst (IsPermutation (range_with_len 0 (length c.args.nets.now))) (sym whole) (IsPermutation-trans (range_with_len 0 (length c.args.nets.now)) c.sort_by_key.new.self.items c.reverse.new.self first second)

pub returns-clause-falls : goal.returns-clause-falls
returns-clause-falls c =
    let long : c.sort_by_key.new.self.len ≡ length c.reverse.new.self = omega (arith, c.sort_by_key.new.self.ok, c.reverse.ensures.len, ap length c.as_mut_slice.ensures.value) in
    let whole = written-over c.sort_by_key.new.self.len c.reverse.new.self (drop (length c.reverse.new.self) c.sort_by_key.new.self.items) long in
    let turned : c.reverse.new.self ≡ reverse c.sort_by_key.new.self.items = c.reverse.ensures.after ∙ ap reverse c.as_mut_slice.ensures.value in
    subst (λ (xs : List ℕ). AreFallingNets (in_order (sources_by c.args.nets.now) xs)) (sym (whole ∙ turned))
    (falls-turned (sources_by c.args.nets.now) c.sort_by_key.new.self.items (IsNonDecreasingBy-from_sort_by_key (place_at (sources_by c.args.nets.now)) _ c.in_ok-sort_by_key.ensures.sorted (λ a r q k. search rules)))
