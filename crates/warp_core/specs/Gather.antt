-- What gathering blocks answers.
use Rattle.std.specs.Prelude.{◌≡◌, ℕ, ◌<◌, List, codes, length, Result, Ok, Err}
use Rattle.gate_values.specs.declared.logic.Change.{Change}
use Rattle.gate_netlist.specs.Circuit.{Design}
use Rattle.gate_netlist.specs.Cut.{Ownership}
use Rattle.gate_stimulus.specs.Given.{Given}
use Rattle.warp_process.specs.View.{View, Process, IsDone}
use Rattle.warp_core.specs.declared.fault.GatherFault.{GatherFault}
use Rattle.warp_core.specs.declared.fault.GatherFault.TheVariants.{WrongCount, WrongPart, Unfinished, Unsettled, Mismatch, Memory}
use Rattle.warp_core.specs.Matched.{seen_at, IsBlockOf, IsSettledBy, IsSettledAt, AreSettled, IsToldAt, AreTold, EachBlock, AreMatched}
use Rattle.warp_core.specs.Values.{AreCircuitWaves}

-- the first number of which something isn't so
pub record IsFirst (P : ℕ → Type 0) (k : ℕ) : Type 0 where
  pub fails : ¬ P k
  pub before : (j : ℕ) → j < k → P j

-- the first block of a cut of which something isn't so
abbrev pub IsFirstBlock : Ownership → List Process → (ℕ → View → Type 0) → ℕ → Type 0
IsFirstBlock cut blocks P b = (b < cut.blocks) × IsFirst (λ c. P c (seen_at blocks c)) b

-- the first net with an entry that isn't settled, and the first time of it at which there is one
abbrev pub IsFirstUnsettled : View → ℕ → ℕ → Type 0
IsFirstUnsettled v n t = IsFirst (IsSettledAt v) n × IsFirst (IsSettledBy v n) t

-- there are as many blocks as the cut has
abbrev pub AreCounted : Ownership → List Process → Type 0
AreCounted cut blocks = length blocks ≡ cut.blocks

-- what each refusal says: that it applies, and that none before it does
abbrev pub IsFault : Design → Ownership → Given → ℕ → List Process → GatherFault → Type 0
IsFault d cut g horizon blocks WrongCount = ¬ AreCounted cut blocks
IsFault d cut g horizon blocks (WrongPart b) =
    AreCounted cut blocks
    × IsFirstBlock cut blocks (IsBlockOf d cut horizon) b
IsFault d cut g horizon blocks (Unfinished b) =
    AreCounted cut blocks
    × EachBlock cut blocks (IsBlockOf d cut horizon)
    × IsFirstBlock cut blocks (λ _ v. IsDone v) b
IsFault d cut g horizon blocks (Unsettled b n t) =
    AreCounted cut blocks
    × EachBlock cut blocks (IsBlockOf d cut horizon)
    × EachBlock cut blocks (λ _ v. IsDone v)
    × IsFirstBlock cut blocks (λ _ v. AreSettled v) b
    × IsFirstUnsettled (seen_at blocks b) n t
IsFault d cut g horizon blocks (Mismatch b n) =
    AreCounted cut blocks
    × EachBlock cut blocks (IsBlockOf d cut horizon)
    × EachBlock cut blocks (λ _ v. IsDone v)
    × EachBlock cut blocks (λ _ v. AreSettled v)
    × IsFirstBlock cut blocks (λ _ v. AreTold cut g horizon blocks v) b
    × IsFirst (IsToldAt cut g horizon blocks (seen_at blocks b)) n
IsFault d cut g horizon blocks Memory = AreCounted cut blocks

-- Waves are answered of matched blocks alone, and are the circuit's.
abbrev pub IsGathered : Design → Ownership → Given → ℕ → List Process → Result (List (List Change)) GatherFault → Type 0
IsGathered d cut g horizon blocks (Ok waves) = AreMatched d cut g horizon blocks × AreCircuitWaves d g horizon waves
IsGathered d cut g horizon blocks (Err fault) = IsFault d cut g horizon blocks fault

abbrev pub gather_fault_number : GatherFault → ℕ
gather_fault_number WrongCount = 1
gather_fault_number (WrongPart b) = 2
gather_fault_number (Unfinished b) = 3
gather_fault_number (Unsettled b n t) = 4
gather_fault_number (Mismatch b n) = 5
gather_fault_number Memory = 6

abbrev pub gather_fault_name : GatherFault → List ℕ
gather_fault_name WrongCount = codes "WrongCount"
gather_fault_name (WrongPart b) = codes "WrongPart"
gather_fault_name (Unfinished b) = codes "Unfinished"
gather_fault_name (Unsettled b n t) = codes "Unsettled"
gather_fault_name (Mismatch b n) = codes "Mismatch"
gather_fault_name Memory = codes "Memory"
