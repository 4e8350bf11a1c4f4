-- What contracts see of a world.
use Rattle.warp_core.specs.declared.world.World.TheInside.{Inside}
use Rattle.warp_core.specs.World.{Scene}

abbrev pub scene_of : Inside → Scene
scene_of w = record {
  circuit = w.circuit.now;
  cut = w.cut.now;
  stimulus = w.stimulus.now;
  horizon = w.horizon;
  blocks = w.blocks.items;
  flight = w.flight.items;
}
