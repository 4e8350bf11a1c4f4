-- Where the faults of a run come from.
use Rattle.std.proofs.Common.{◌≡◌, ℕ, ◌<◌, ◌≤◌, List, All, length, refl, sym, ap, subst, arith}
use Rattle.std.proofs.lemmas.List.Elements.{All-append, All-same, All-weaker}
use Rattle.gate_netlist.specs.Circuit.{Design, CutFits}
use Rattle.gate_netlist.specs.Cut.{Ownership}
use Rattle.gate_stimulus.specs.Given.{Given}
use Rattle.warp_process.specs.declared.message.Message.{Message}
use Rattle.warp_process.specs.declared.message.Sign.TheVariants.{Plus}
use Rattle.warp_process.specs.Lawful.{IsLawfulProcess}
use Rattle.warp_process.specs.Opening.{silent_view}
use Rattle.warp_part.specs.Portion.{Portion}
use Rattle.warp_part.specs.PartOf.{part_of}
use Rattle.warp_process.specs.Sends.{SendsOnce}
use Rattle.warp_process.specs.View.{View, Process}
use Rattle.warp_core.specs.declared.fault.GatherFault.{GatherFault}
use Rattle.warp_core.specs.declared.fault.GatherFault.TheVariants as gathering
use Rattle.warp_core.specs.Gather.{IsFault}
use Rattle.warp_core.specs.World.{IsFlying}
use Rattle.warp_core.proofs.Acting.{sent_flying}
use Rattle.warp_rounds.specs.declared.fault.RunFault.{RunFault}
use Rattle.warp_rounds.specs.declared.fault.RunFault.TheVariants.{Block, Stalled, Gather, NoThread, Memory}
use Rattle.warp_rounds.specs.Faults.{fault_of_gathering}
use Rattle.warp_rounds.specs.Runs.{IsStall, IsBlockFault, IsRunFault}
use Rattle.warp_rounds.specs.Inner.Work.{AreThere, IsUndelivered, IsRoundsFault}

-- what a block of a cut sends as it is made is for blocks of the cut
pub told_there : (d : Design) (cut : Ownership) → CutFits d cut → (b horizon : ℕ) (g : Given) (part : Portion) (new : View) (before out : List Message) →
    part ≡ part_of d cut b → SendsOnce (silent_view part g horizon) new Plus (λ t. t ≡ 0) before out → AreThere cut.blocks before → AreThere cut.blocks out
told_there d cut fits b horizon g part new before out is once all =
    let IsThere : Message → Type 0 = λ m. m.block < cut.blocks in
    let sends = once.sends in
    let flying = sent_flying d cut fits (silent_view part g horizon) b horizon (λ t. t ≡ 0) sends.sent is refl sends.named in
    All-same IsThere out _ sends.appended (All-append IsThere before sends.sent all (All-weaker (IsFlying d cut horizon) IsThere (λ m is. is.block) sends.sent flying))

-- so only memory can be wanting as it is delivered
pub only_memory : (blocks : ℕ) (sent : List Message) (fault : RunFault) → AreThere blocks sent → IsUndelivered blocks sent fault → fault ≡ Memory
only_memory blocks sent (Block f) all (is, (k, m, within, at, past)) = absurd (let there = all k m within in omega (arith, ap (λ (n : Message). n.block) at))
only_memory blocks sent (Stalled time) all h = absurd h
only_memory blocks sent (Gather f) all h = absurd h
only_memory blocks sent NoThread all h = absurd h
only_memory blocks sent Memory all h = refl

module _ (d : Design) (cut : Ownership) (g : Given) (horizon workers window : ℕ) where
  pub rounds_run : (blocks : ℕ) (fault : RunFault) → blocks ≡ cut.blocks → IsRoundsFault blocks horizon workers window fault → IsRunFault d cut g horizon workers window fault
  rounds_run blocks (Block f) is h = (h.floor, h.within, subst (λ n. IsBlockFault n h.floor window f) is h.met)
  rounds_run blocks (Stalled time) is h = (let within = h.within in omega (arith, h.met.0), subst (λ n. IsStall n window) (sym h.met.0) h.met.1)
  rounds_run blocks (Gather f) is h = absurd h.met
  rounds_run blocks NoThread is h = (let few = h.few in let some = h.met in omega arith)
  rounds_run blocks Memory is h = tt

  pub gather_run : (blocks : List Process) (f : GatherFault) → length blocks ≡ cut.blocks → All IsLawfulProcess blocks → IsFault d cut g horizon blocks f →
      IsRunFault d cut g horizon workers window (fault_of_gathering f)
  gather_run blocks gathering.Memory count all h = tt
  gather_run blocks gathering.WrongCount count all h = (blocks, count, all, h)
  gather_run blocks (gathering.WrongPart b) count all h = (blocks, count, all, h)
  gather_run blocks (gathering.Unfinished b) count all h = (blocks, count, all, h)
  gather_run blocks (gathering.Unsettled b n t) count all h = (blocks, count, all, h)
  gather_run blocks (gathering.Mismatch b n) count all h = (blocks, count, all, h)

  pub memory_run : (fault : RunFault) → fault ≡ Memory → IsRunFault d cut g horizon workers window fault
  memory_run fault is = subst (IsRunFault d cut g horizon workers window) (sym is) tt

-- a thread of several workers is wanting
pub lost_run : (blocks horizon workers window : ℕ) → 1 < workers → IsRoundsFault blocks horizon workers window NoThread
lost_run blocks horizon workers window some = record { floor = 0; seats = workers; within = omega arith; few = omega arith; met = some }

pub memory_rounds : (blocks horizon workers window : ℕ) → IsRoundsFault blocks horizon workers window Memory
memory_rounds blocks horizon workers window = record { floor = 0; seats = workers; within = omega arith; few = omega arith; met = tt }

-- of fewer workers
pub fewer_rounds : (blocks horizon few workers window : ℕ) (fault : RunFault) → few ≤ workers → IsRoundsFault blocks horizon few window fault → IsRoundsFault blocks horizon workers window fault
fewer_rounds blocks horizon few workers window fault le h = record { floor = h.floor; seats = h.seats; within = h.within; few = (let f = h.few in omega (arith, f, le)); met = h.met }
