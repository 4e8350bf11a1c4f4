-- Events that are played one after the other.
use Rattle.std.specs.Prelude.{◌≡◌, List, [], ◌∷◌}
use Rattle.warp_core.specs.declared.event.Event.{Event}
use Rattle.warp_core.specs.Play.{IsPlayed}
use Rattle.warp_core.specs.World.{Scene, IsLawfulWorld}

-- an event is played, and what is true of every world is true after it
pub record IsStep (event : Event) (old new : Scene) : Type 0 where
  pub played : IsPlayed old new event
  pub law : IsLawfulWorld new

-- events are played one after the other
unfoldable pub ArePlayed : Scene → List Event → Scene → Type 0
ArePlayed old [] new = new ≡ old
ArePlayed old (event ∷ events) new = (middle : Scene) × IsStep event old middle × ArePlayed middle events new
