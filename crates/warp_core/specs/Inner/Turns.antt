-- A world while its blocks have their turns: a message that has reached its block stands in the list until all are over.
use Rattle.std.specs.Prelude.{◌≡◌, ℕ, suc, ◌<◌, ◌≤◌, ◌≢◌, ◌==◌, ◌&&◌, ◌++◌, nat_le, if◌then◌else◌, List, [], ◌∷◌, length, get_or, take, drop}
use Rattle.std.specs.List.{All}
use Rattle.warp_process.specs.declared.message.Message.{Message}
use Rattle.warp_process.specs.View.{Process}
use Rattle.warp_core.specs.declared.turns.Course.{Course}
use Rattle.warp_core.specs.Drive.{AreReached, AreTurns, IsTurnBegun}
use Rattle.warp_core.specs.Inner.Drive.{IsPast}
use Rattle.warp_core.specs.World.{Scene, IsBefore, IsLawfulWorld}

-- of each block the place before which the messages for it have reached it
abbrev pub place_in : List ℕ → ℕ → ℕ
place_in heard b = get_or heard b 0

-- of messages that stand from a place on, those that haven't reached their blocks
unfoldable pub left : (ℕ → ℕ) → ℕ → List Message → List Message
left heard i [] = []
left heard i (m ∷ ms) = if nat_le (heard m.block) i then m ∷ left heard (suc i) ms else left heard (suc i) ms

-- of messages that stand from a place on, the places of those for a block that haven't reached it
unfoldable pub places_for : ℕ → ℕ → ℕ → List Message → List ℕ
places_for b from i [] = []
places_for b from i (m ∷ ms) = if (m.block == b) && nat_le from i then i ∷ places_for b from (suc i) ms else places_for b from (suc i) ms

-- of the first `place` messages those that are left stand in front; from `place` on all is as it was
pub record IsKept (heard : ℕ → ℕ) (old new : List Message) (kept place : ℕ) : Type 0 where
  pub size : length new ≡ length old
  pub behind : kept ≤ place
  pub front : take kept new ≡ left heard 0 (take place old)
  pub rest : drop place new ≡ drop place old

-- the world of some blocks, in which these messages fly
abbrev pub scene_in : Course → List Process → List Message → Scene
scene_in c blocks flight = record {
  circuit = c.circuit.now;
  cut = c.cut.now;
  stimulus = c.stimulus.now;
  horizon = c.horizon;
  blocks = blocks;
  flight = flight;
}

-- the world in which those fly that haven't reached their blocks
abbrev pub scene_left : Course → List Process → List Message → List ℕ → Scene
scene_left c blocks flight heard = scene_in c blocks (left (place_in heard) 0 flight)

-- it is lawful, no block has heard a message that isn't there, and each message is for a block
pub record IsOpen (c : Course) (blocks : List Process) (flight : List Message) (heard : List ℕ) : Type 0 where
  pub law : IsLawfulWorld (scene_left c blocks flight heard)
  pub count : length heard ≡ c.cut.now.blocks
  pub within : (b : ℕ) → place_in heard b ≤ length flight
  pub known : All (λ m. m.block < c.cut.now.blocks) flight

-- what was appended is later than anything that was left to do in a world
abbrev pub AreSentLater : Scene → List Message → List Message → Type 0
AreSentLater w flight out = (sent : List Message) × (out ≡ flight ++ sent) × ((t : ℕ) → IsBefore w t → All (λ m. t < m.time) sent)

-- So many messages for a block, of those at these places, have reached it.
pub record IsHearing (c : Course) (blocks : List Process) (flight : List Message) (heard : List ℕ) (b : ℕ) (places : List ℕ) (count : ℕ)
    (blocks' : List Process) (flight' : List Message) (heard' : List ℕ) : Type 0 where
  pub stands : IsOpen c blocks' flight' heard'
  pub sent : List Message
  pub appended : flight' ≡ flight ++ sent
  pub later : (t : ℕ) → IsBefore (scene_left c blocks flight heard) t → All (λ m. t < m.time) sent
  pub rest : places_for b (place_in heard' b) 0 flight ≡ drop count places
  pub others : (k : ℕ) → k ≢ b → place_in heard' k ≡ place_in heard k
  pub low : (k : ℕ) → place_in heard' k ≤ length flight
  pub reached : AreReached b count (scene_left c blocks flight heard) (scene_left c blocks' flight' heard')
  pub never : (s : ℕ) → IsBefore (scene_left c blocks flight heard) s → IsBefore (scene_left c blocks' flight' heard') s
  pub kept : (t k : ℕ) → k < c.cut.now.blocks → IsBefore (scene_left c blocks flight heard) t → IsPast (scene_left c blocks flight heard) k t → IsPast (scene_left c blocks' flight' heard') k t

-- So many blocks have had their turns, in an order, and what is left for these is later than what was before all that
-- was left.
pub record AreTurned (order : List ℕ) (count : ℕ) (old new : Scene) : Type 0 where
  pub turns : AreTurns order count old new
  pub past : (t k : ℕ) → IsBefore old t → k < count → IsPast new (get_or order k 0) t

-- some blocks have had their turns, and the turn of the next one has ended early
pub record AreTurnsBegun (order : List ℕ) (old new : Scene) : Type 0 where
  pub count : ℕ
  pub within : count < length order
  pub turned : Scene
  pub turns : AreTurns order count old turned
  pub begun : IsTurnBegun (get_or order count 0) turned new
