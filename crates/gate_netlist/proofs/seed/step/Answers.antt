use Rattle.std.proofs.Common.{◌≡◌, ℕ, suc, ◌+◌, ◌/◌, ◌<◌, List, length, take, drop, refl, sym, ◌∙◌, arith}
use Rattle.std.specs.Hash.FoldHasher.{write}
use Rattle.std.proofs.lemmas.List.{length-drop, take_min, drop_min}
use Rattle.gate_netlist.specs.Inner.Hashing.{parted, stepped}
use Rattle.gate_netlist.proofs.seed.step.Goals as goal

module _ {H : Type 0} (write : H → List ℕ → H) (h : H) (bytes : List ℕ) where
  stepped-more : 0 < length bytes → stepped write h bytes ≡ stepped write (write h (take 8 bytes)) (drop 8 bytes)
  unfolding parted
  stepped-more more =
      let count : (length bytes + 7) / 8 ≡ suc ((length (drop 8 bytes) + 7) / 8) = omega (arith, length-drop 8 bytes) in
      rw count refl

  stepped-none : length bytes ≡ 0 → stepped write h bytes ≡ h
  unfolding parted
  stepped-none none =
      let count : (length bytes + 7) / 8 ≡ 0 = omega arith in
      rw count refl

pub loop-rest-preserved : goal.loop-rest-preserved
loop-rest-preserved c =
    rw (c.write.ensures, c.split_at.ensures.front, c.split_at.ensures.back, c.min.ensures, take_min 8 c.loop-rest.rest.now, drop_min 8 c.loop-rest.rest.now)
    (sym (stepped-more write c.loop-rest.words c.loop-rest.rest.now (grind (arith, c.is_empty.ensures, c.loop-rest-test))) ∙ c.loop-rest.invariant)

pub returns : goal.returns
returns c = sym (stepped-none write c.loop-rest.words c.loop-rest.rest.now (grind (arith, c.is_empty.ensures, c.loop-rest-test))) ∙ c.loop-rest.invariant
