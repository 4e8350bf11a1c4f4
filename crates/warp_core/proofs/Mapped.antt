-- What stands at a net that is among some.
use Rattle.std.proofs.Common.{◌≡◌, ℕ, true, List, map, is_some, ap, sym, ◌∙◌}
use Rattle.std.proofs.lemmas.Bool.{true≢false}
use Rattle.warp_part.specs.Portion.{slot_of, of_net}
use Rattle.warp_part.proofs.Slots.{of_net-map}

pub in_map : {A : Type 0} (nets : List ℕ) (f : ℕ → A) (d : A) (n : ℕ) → is_some (slot_of nets n) ≡ true → of_net nets (map f nets) d n ≡ f n
in_map nets f d n h = of_net-map nets f d n (λ e. absurd (true≢false (sym h ∙ ap is_some e)))
