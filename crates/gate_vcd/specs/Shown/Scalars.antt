-- What a reader keeps of the variables: the scalars by their names, the vectors by their bases.
use Rattle.std.specs.Prelude.{Option, option_map}
use Rattle.gate_vcd.specs.declared.vectors.Vector.{Vector as HeldVector}
use Rattle.gate_vcd.specs.Vectors.{Vector}

-- vectors and bits, without where they lie in memory
abbrev pub vector : HeldVector → Vector
vector v = record { base = v.base.now; left = v.left; right = v.right }

abbrev pub vector_by : Option HeldVector → Option Vector
vector_by v = option_map vector v
