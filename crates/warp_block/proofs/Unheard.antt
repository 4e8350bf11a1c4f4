-- At a time at which nothing happens nothing is heard.
use Rattle.std.proofs.Common.{◌≡◌, ◌∙◌, ℕ, false, sym}
use Rattle.std.proofs.lemmas.Bool.{true≢false}
use Rattle.warp_process.specs.Heard.{IsHeardFrom}
use Rattle.warp_process.specs.Lawful.{IsLawful}
use Rattle.warp_process.specs.View.{View, is_busy}
use Rattle.part_engine.proofs.Heeding.{heard_busy}

pub quiet_unheard : (v : View) → IsLawful v → (t : ℕ) → is_busy v t ≡ false → IsHeardFrom v 0 t → ⊥
quiet_unheard v lawful t quiet heard = true≢false (sym (heard_busy v lawful heard.1.0 t heard.1.1 heard.1.2) ∙ quiet)
