-- What a writer of changes has taken.
use Rattle.std.specs.Prelude.{◌≡◌, ℕ, ◌+◌, ◌*◌, ◌<◌, ◌≤◌, true, false, List, [], ◌∷◌, ◌++◌, length, get_or, codes}
use Rattle.gate_values.specs.declared.logic.Logic.{Logic}
use Rattle.gate_values.specs.declared.logic.Logic.TheVariants.{X}
use Rattle.byte_sinks.specs.Lots.{Passes}
use Rattle.net_waves.specs.declared.timeline.Stop.{Stop}
use Rattle.net_waves.specs.First.{first_from}
use Rattle.vcd_dumps.specs.Dump.{first_lines}
use Rattle.vcd_dumps.specs.Walk.{walked, last_stop}
use Rattle.vcd_dumps.specs.declared.writer.Writer.{Writer}

-- Changes stand by time, and at one time by net.
abbrev pub place_of : Stop → ℕ
place_of s = s.time * 1000000 + s.net

-- changes stand in this order, from a place on and before another, and each net has a code
unfoldable pub Rises : ℕ → List Stop → ℕ → Type 0
Rises place [] next = place ≤ next
Rises place (s ∷ stops) next = (s.net < 1000000) × (place ≤ place_of s) × Rises (place_of s + 1) stops next

-- the lines above the changes: a head, and the value of each net at time 0
abbrev pub front_of : List ℕ → List Logic → List ℕ
front_of head values = head ++ (first_lines (λ n t. get_or values n X) (length values) ++ codes "$end\n")

-- what was put, from nothing on
abbrev pub HasText : Writer → List ℕ → Type 0
HasText w text = Passes (record { bytes = []; failed = false }) w.sink (record { waiting = []; written = 0 }) text w.lot

-- A writer of a dump with this head, of so many nets, has taken these changes. It has put the head alone as long as all are of time 0.
pub record HasTaken (head : List ℕ) (nets : ℕ) (stops : List Stop) (w : Writer) : Type 0 where
  pub opened : w.begun ≡ false → HasText w head × (walked 0 stops ≡ []) × (last_stop 0 stops ≡ 0)
  pub text : w.begun ≡ true → HasText w (front_of head w.firsts.items ++ walked 0 stops)
  pub last : w.last ≡ last_stop 0 stops
  pub rises : Rises 0 stops w.place
  pub many : length w.firsts.items ≡ nets
  pub few : nets ≤ 1000000
  pub firsts : (n : ℕ) → n < nets → get_or w.firsts.items n X ≡ first_from X stops n

-- a writer took some changes behind all that it had taken
abbrev pub Took : Writer → Writer → List Stop → Type 0
Took x y more = (head : List ℕ) (nets : ℕ) (stops : List Stop) → HasTaken head nets stops x → HasTaken head nets (stops ++ more) y
