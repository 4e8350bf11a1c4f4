-- Flip-flops load at edges of their clocks.
use Rattle.std.specs.Prelude.{◌≡◌, ℕ, ◌<◌, ◌⊎◌, true, false, if◌then◌else◌, List, length}
use Rattle.gate_values.specs.declared.logic.Logic.{Logic}
use Rattle.gate_values.specs.Tables.{flip_of}
use Rattle.warp_stores.specs.Words.{Move}
use Rattle.warp_gates.specs.declared.front.Front.{Front}
use Rattle.warp_gates.specs.Cells.{Cell, Outside, Gate, Flop, value_at, cell_at, moved}
use Rattle.warp_gates.specs.Inner.Fronts.{front_at, has}
use Rattle.warp_gates.specs.Inner.Told.{data_of}

-- a clock goes from one value to another, and some flip-flops load
pub record IsFlipped (flops : List ℕ) (values : List Logic) (before after : Logic) (cell : Cell) (place : ℕ) (old new : Front) : Type 0 where
  pub queue : new.queue ≡ old.queue
  pub kind : new.kind ≡ old.kind
  pub pins : new.pins ≡ old.pins
  pub output : new.output ≡ (if has flops place then flip_of old.output before after (value_at values (data_of cell)) else old.output)
  pub fresh : old.is_stale ≡ false → new.is_stale ≡ false

pub record AreFlipped (cells : List Cell) (flops : List ℕ) (values : List Logic) (before after : Logic) (old new : List Front) : Type 0 where
  pub same : length new ≡ length old
  pub each : (place : ℕ) (d : Front) → place < length old → IsFlipped flops values before after (cell_at cells place) place (front_at d old place) (front_at d new place)

-- what a flip-flop holds once its clock has become what some words make of it
abbrev pub loaded_output : List Logic → List Move → Cell → Logic → Logic
loaded_output values words Outside last = last
loaded_output values words (Gate kind inputs) last = last
loaded_output values words (Flop data_place clock) last = flip_of last (value_at values clock) (value_at (moved words values) clock) (value_at values data_place)

pub record IsLoaded (values : List Logic) (words : List Move) (cell : Cell) (old new : Front) : Type 0 where
  pub queue : new.queue ≡ old.queue
  pub kind : new.kind ≡ old.kind
  pub pins : new.pins ≡ old.pins
  pub output : new.output ≡ loaded_output values words cell old.output
  pub fresh : new.is_stale ≡ false

pub record AreLoaded (cells : List Cell) (values : List Logic) (words : List Move) (old new : List Front) : Type 0 where
  pub same : length new ≡ length old
  pub each : (place : ℕ) (d : Front) → place < length old → IsLoaded values words (cell_at cells place) (front_at d old place) (front_at d new place)

-- flip-flops that still put out what they did at first
abbrev pub StillPutOut : List ℕ → List Front → List Front → Type 0
StillPutOut flops old now = (place : ℕ) (d : Front) → place < length old → has flops place ≡ true → (front_at d now place).output ≡ (front_at d old place).output

-- a flip-flop still puts out what it did at first, or has loaded already
abbrev pub MayLoad : List Cell → List Logic → Logic → Logic → ℕ → List Front → List Front → Type 0
MayLoad cells values before after flop old now = (d : Front) → ((front_at d now flop).output ≡ (front_at d old flop).output)
    ⊎ (flip_of (front_at d now flop).output before after (value_at values (data_of (cell_at cells flop))) ≡ (front_at d now flop).output)
