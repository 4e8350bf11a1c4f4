-- Blocks that have finished and agree on what was sent.
use Rattle.std.specs.Prelude.{◌≡◌, ℕ, ◌+◌, ◌<◌, IsTrue, Option, Some, None, List, [], length, get_or}
use Rattle.gate_values.specs.declared.logic.Change.{Change}
use Rattle.gate_values.specs.Changes.{pair_at, before_time}
use Rattle.gate_netlist.specs.Circuit.{Design}
use Rattle.gate_netlist.specs.Cut.{Ownership, owner_of}
use Rattle.gate_stimulus.specs.Given.{Given, changes_of}
use Rattle.warp_process.specs.Entries.{is_settled}
use Rattle.warp_part.specs.Portion.{reads}
use Rattle.warp_part.specs.PartOf.{part_of}
use Rattle.warp_process.specs.View.{View, Process, entry_of, effective_at, log_of, IsDone}

-- a block without nets
abbrev pub no_process : Process
no_process = record {
  seen = record {
    part = record { block = 0; nets = []; sources = []; inputs = []; readers = [] };
    horizon = 0;
    mark = 0;
    floor = 0;
    queues = [];
    logs = [];
  };
  saved = [];
}

-- what a block shows, of some in order
abbrev pub seen_at : List Process → ℕ → View
seen_at blocks b = (get_or blocks b no_process).seen

-- the block is that of this number, and goes up to the horizon
pub record IsBlockOf (d : Design) (cut : Ownership) (horizon b : ℕ) (v : View) : Type 0 where
  pub part : v.part ≡ part_of d cut b
  pub horizon_is : v.horizon ≡ horizon

-- at a time nothing stands for a net and nothing waits, or one message of one value stands
abbrev pub IsSettledBy : View → ℕ → ℕ → Type 0
IsSettledBy v n t = IsTrue (is_settled (entry_of v n t))

-- all entries of a net are settled
abbrev pub IsSettledAt : View → ℕ → Type 0
IsSettledAt v n = (t : ℕ) → IsSettledBy v n t

-- all entries of a block are settled
abbrev pub AreSettled : View → Type 0
AreSettled v = (n : ℕ) → IsSettledAt v n

-- what an owner tells of a net: its log; of an input, which has no owner, the stimulus's changes up to the horizon
abbrev pub told_by : Given → ℕ → List Process → ℕ → Option ℕ → List Change
told_by g horizon blocks n None = before_time (horizon + 1) (changes_of g n)
told_by g horizon blocks n (Some o) = log_of (seen_at blocks o) n

abbrev pub told_of : Ownership → Given → ℕ → List Process → ℕ → List Change
told_of cut g horizon blocks n = told_by g horizon blocks n (owner_of cut n)

-- the messages that stand for a net are exactly some changes
abbrev pub IsTold : View → ℕ → List Change → Type 0
IsTold v n cs = (t : ℕ) → effective_at v n t ≡ pair_at cs t

-- if a block reads a net of another one, or an input, it was told exactly what is told of the net
abbrev pub IsToldAt : Ownership → Given → ℕ → List Process → View → ℕ → Type 0
IsToldAt cut g horizon blocks v n = IsTrue (reads v.part n) → IsTold v n (told_of cut g horizon blocks n)

-- so for each net
abbrev pub AreTold : Ownership → Given → ℕ → List Process → View → Type 0
AreTold cut g horizon blocks v = (n : ℕ) → IsToldAt cut g horizon blocks v n

-- something is so of what each block of a cut shows
abbrev pub EachBlock : Ownership → List Process → (ℕ → View → Type 0) → Type 0
EachBlock cut blocks P = (b : ℕ) → b < cut.blocks → P b (seen_at blocks b)

-- There are as many blocks as the cut has, each of its part and the horizon; none has an event time left, all entries
-- are settled, and each block was told exactly what the others, and the stimulus, say.
pub record AreMatched (d : Design) (cut : Ownership) (g : Given) (horizon : ℕ) (blocks : List Process) : Type 0 where
  pub count : length blocks ≡ cut.blocks
  pub parts : EachBlock cut blocks (IsBlockOf d cut horizon)
  pub done : EachBlock cut blocks (λ _ v. IsDone v)
  pub settled : EachBlock cut blocks (λ _ v. AreSettled v)
  pub told : EachBlock cut blocks (λ _ v. AreTold cut g horizon blocks v)
