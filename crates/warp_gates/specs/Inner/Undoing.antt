-- Values are put back, and gates follow them.
use Rattle.std.specs.Prelude.{◌≡◌, ℕ, ◌<◌, List, length, map}
use Rattle.gate_values.specs.declared.logic.Logic.{Logic}
use Rattle.warp_stores.specs.Words.{Move}
use Rattle.warp_gates.specs.declared.front.Front.{Front}
use Rattle.warp_gates.specs.Cells.{Cell, value_at, cell_at, unmoved, settled_output, restored_output}
use Rattle.warp_gates.specs.Inner.Fronts.{front_at}

-- each place has the queue that it had
pub record AreQueuesKept (old new : List Front) : Type 0 where
  pub same : length new ≡ length old
  pub each : (place : ℕ) (d : Front) → place < length old → (front_at d new place).queue ≡ (front_at d old place).queue

-- each place puts out what it does of values as they stand
pub record AreFollowing (cells : List Cell) (values : List Logic) (old new : List Front) : Type 0 where
  pub queues : AreQueuesKept old new
  pub each : (place : ℕ) (d : Front) → place < length cells → (front_at d new place).output ≡ settled_output values (cell_at cells place) (front_at d old place).output

-- what each place puts out
abbrev pub outputs_of : List Front → List Logic
outputs_of fronts = map (λ (f : Front). f.output) fronts

-- a flip-flop puts out what words tell, and all else stays
pub record IsRestored (cell : Cell) (told : Logic) (old new : Front) : Type 0 where
  pub queue : new.queue ≡ old.queue
  pub kind : new.kind ≡ old.kind
  pub pins : new.pins ≡ old.pins
  pub stale : new.is_stale ≡ old.is_stale
  pub output : new.output ≡ restored_output cell told old.output

-- some words are taken back, the last of them first
pub record AreRestored (cells : List Cell) (words : List Move) (old new : List Front) : Type 0 where
  pub same : length new ≡ length old
  pub each : (place : ℕ) (d : Front) → place < length old → IsRestored (cell_at cells place) (value_at (unmoved words (outputs_of old)) place) (front_at d old place) (front_at d new place)
