-- What a dump says of bits over time.
use Rattle.std.specs.Prelude.{ℕ, List, Option, None, Result, Ok}
use Rattle.gate_vcd.specs.declared.fault.StimFault.{StimFault}
use Rattle.gate_stimulus.specs.declared.timescale.Timescale.{Timescale}
use Rattle.gate_netlist.specs.Bench.{◌>>=◌}
use Rattle.gate_vcd.specs.Tokens.{tokens_of}
use Rattle.gate_vcd.specs.Changes.{Event, items, nothing, events_from, last_time}
use Rattle.gate_vcd.specs.Stimulus.{has_code}
use Rattle.vcd_bits.specs.Scopes.{declaring, nothing_declared}
use Rattle.vcd_bits.specs.Names.{Bit}
use Rattle.vcd_bits.specs.Bits.{bits_declared}

-- A dump, read: its timescale, the bits of a scope in the order of their declarations, its changes, and its last stamp.
pub record Dump : Type 0 where
  pub timescale : Timescale
  pub bits : List Bit
  pub events : List Event
  pub last : ℕ

-- the dump that a text is, or its first fault
unfoldable pub dump_of : Option (List ℕ) → List ℕ → Result Dump StimFault
dump_of asked text =
    declaring nothing_declared None (tokens_of text) >>= λ declared.
    (events_from (has_code declared.0.header.variables) 0 (items nothing declared.1) >>= λ events.
    Ok (record { timescale = declared.0.header.timescale; bits = bits_declared asked declared.0; events = events; last = last_time 0 (items nothing declared.1) }))
