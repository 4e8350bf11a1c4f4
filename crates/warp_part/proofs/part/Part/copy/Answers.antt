use Rattle.std.proofs.Common.{refl, ◌∙◌}
use Rattle.warp_part.proofs.PartHeld.{IsHeld-copy}
use Rattle.warp_part.proofs.part.Part.copy.Goals as goal

pub invariant_of-result : goal.invariant_of-result
invariant_of-result c =
    IsHeld-copy c.self.inside _ refl
    (c.in_ok-from_slice.ensures.items ∙ c.deref.ensures.value)
    (c.in_ok-from_slice-2.ensures.items ∙ c.deref-2.ensures.value)
    (c.in_ok-from_slice-3.ensures.items ∙ c.deref-3.ensures.value)
    (c.in_ok-from_slice-4.ensures.items ∙ c.deref-4.ensures.value)
    (c.in_ok-from_slice-5.ensures.items ∙ c.deref-5.ensures.value)
    (c.in_ok-from_slice-6.ensures.items ∙ c.deref-6.ensures.value)
    c.self.invariant
