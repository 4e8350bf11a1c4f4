-- What only proofs need beside `Reading`.
use Rattle.std.specs.Prelude.{◌≡◌, Result, Ok, Err}
use Rattle.gate_vcd.specs.declared.fault.StimFault.{StimFault}
use Rattle.gate_vcd.specs.Reading.{Fails}

-- What a function answers, seen by view, is what the reading gives, unless memory ran out.
abbrev pub Reads : {X A : Type 0} → (X → A) → Result X StimFault → Result A StimFault → Type 0
Reads view (Ok x) reading = reading ≡ Ok (view x)
Reads view (Err e) reading = Fails e reading
