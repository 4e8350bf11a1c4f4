use Rattle.std.proofs.Common.{◌≡◌, ℕ, List, [], ◌∷◌, ◌++◌, ap, append_assoc}
use Rattle.std.specs.Prelude.{codes}
use Rattle.vcd_dumps.specs.Codes.{code_of}
use Rattle.vcd_dumps.specs.Dump.{var_line}
use Rattle.byte_sinks.proofs.Passing.{passes_then, passes_as}
use Rattle.vcd_dumps.proofs.lines.put_var.Goals as goal

-- the pieces of the line
pieces : (n : ℕ) (name : List ℕ) → codes "$var wire 1" ++ ((32 ∷ (code_of n ++ 32 ∷ [])) ++ (name ++ codes " $end\n")) ≡ var_line n name
pieces n name = ap (λ (rest : List ℕ). codes "$var wire 1 " ++ rest) (append_assoc (code_of n) (32 ∷ []) (name ++ codes " $end\n"))

pub returns : goal.returns
returns g c = passes_as (pieces c.args.net c.args.name.now) (passes_then c.put_text.ensures (passes_then c.put_framed.ensures (passes_then c.put_text-2.ensures c.put_text-3.ensures)))
