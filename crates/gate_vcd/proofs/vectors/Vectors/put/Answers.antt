use Rattle.std.proofs.Common.{◌≡◌, refl}
use Rattle.gate_vcd.specs.declared.runs.Kept.{Kept}
use Rattle.gate_vcd.specs.Shown.Scalars.{vector}
use Rattle.gate_vcd.proofs.Numbered.{number}
use Rattle.gate_vcd.proofs.VectorLaws.{on_each, put-before}
use Rattle.gate_vcd.proofs.vectors.Vectors.put.Goals as goal

pub returns-clause-ok : goal.returns-clause-ok
returns-clause-ok c vs v is code law =
    let old = c.args.self.now in
    let base = c.args.vector.base in
    let at : c.in_ok-base.base ≡ number old.bases.keys base = c.in_ok-base.ensures.index in
    let kept : Kept = record { code = c.args.code; right = c.args.vector.right } in
    on_each c.put.result c.put.ensures.ok
    (λ runs. put-before old (record { bases = c.insert_full.new.self; runs = c.put.new.self }) (vector c.args.vector) base c.bits-low.result.0 c.bits-low.result.1 kept v vs (record {
      is = is;
      named = refl;
      code = code;
      right = refl;
      bits = c.bits-low.ensures.bits;
      bases = c.in_ok-base.ensures.keys;
      runs = rw at at runs;
    }) law)
