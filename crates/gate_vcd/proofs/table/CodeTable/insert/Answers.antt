use Rattle.std.proofs.Common.{◌∙◌, sym, ℕ, List, Bor}
use Rattle.std.specs.Str.{bytes_eq}
use Rattle.indexmap.specs.IndexMap.{get_by}
use Rattle.gate_vcd.specs.Inner.Table.{found_in}
use Rattle.gate_vcd.proofs.TableLaws.{put-short, put-long}
use Rattle.gate_vcd.proofs.table.CodeTable.insert.Goals as goal

pub returns-in-Some-clause-ok : goal.returns-in-Some-clause-ok
unfolding found_in
returns-in-Some-clause-ok c other =
    put-short c.args.self.now.short.items (get_by (λ (k : Bor (List ℕ)). bytes_eq other k.now) c.args.self.now.long) c.args.code.now other c.in-Some.place c.args.last (sym c.short_place.ensures.value ∙ c.in-Some.is)

pub returns-in_ok-insert-in-None-clause-ok : goal.returns-in_ok-insert-in-None-clause-ok
unfolding found_in
returns-in_ok-insert-in-None-clause-ok c other =
    put-long c.args.self.now.short.items (get_by (λ (k : Bor (List ℕ)). bytes_eq other k.now) c.args.self.now.long) (get_by (λ (k : Bor (List ℕ)). bytes_eq other k.now) c.insert.new.self) c.args.code.now other c.args.last
    (sym c.short_place.ensures.value ∙ c.in-None.is) (c.in_ok-insert-in-None.ensures.updates.0 (record { now = other; ref_ptr = (0, 0) }))
