-- What the history of a block tells.
use Rattle.std.specs.Prelude.{◌≡◌, ℕ, IsTrue, List, [], get_or}
use Rattle.gate_values.specs.Behaviour.{Outside}
use Rattle.warp_stores.specs.Words.{Move}
use Rattle.warp_stores.specs.Dated.{Dated}
use Rattle.warp_stores.specs.Lists.{changes_at}
use Rattle.warp_part.specs.Portion.{is_driven}
use Rattle.warp_process.specs.View.{View}

-- of each own net, which stands at a place, the words say what its log says
abbrev pub TellLogs : View → List (Dated Move) → Type 0
TellLogs v words = (place : ℕ) → IsTrue (is_driven (get_or v.part.sources place Outside)) → changes_at place words ≡ get_or v.logs place []
