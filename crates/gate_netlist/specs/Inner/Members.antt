-- What a test of each member of a table, or of each net, answers.
use Rattle.std.specs.Prelude.{◌≡◌, ℕ, Bool, List}
use Rattle.std.specs.Borrow.{Bor}
use Rattle.toml.specs.Data.{Data, Members}
use Rattle.toml.specs.View.{view}
use Rattle.toml.specs.declared.value.Value.{Value}
use Rattle.gate_netlist.specs.declared.bench.Definition.{Definition}
use Rattle.gate_netlist.specs.Causes.{any_member}
use Rattle.gate_netlist.specs.Netlist.{any_net}

-- what a call with a name and what stands there may answer
abbrev pub Calls : Type 0 → Type 1
Calls X = Bor (List ℕ) → Bor X → Bool → Type 0

-- each call answers what p gives, which sees what stands there so
abbrev pub Decides : {X Y : Type 0} → (X → Y) → Calls X → (List ℕ → Y → Bool) → Type 0
Decides {X} see post p = (k : Bor (List ℕ)) (x : Bor X) (r : Bool) → post k x r → r ≡ p k.now (see x.now)

-- the answer is whether some member passes what the calls decide
abbrev pub IsAnyMember : Calls Value → Members → Bool → Type 0
IsAnyMember post ms answer = (p : List ℕ → Data → Bool) → Decides view post p → answer ≡ any_member p ms

-- the answer is whether some net passes what the calls decide
abbrev pub IsAnyNet : Calls Definition → List (List ℕ) → List Definition → Bool → Type 0
IsAnyNet post names definitions answer = (p : List ℕ → Definition → Bool) → Decides (λ d. d) post p → answer ≡ any_net p names definitions
