-- What contracts see of a sink over a vector.
use Rattle.byte_sinks.specs.Sink.{Held}
use Rattle.byte_sinks.specs.declared.sink.Grow.TheInside.{Inside}

abbrev pub held_by : Inside → Held
held_by g = record { bytes = g.bytes.items; failed = g.failed }
