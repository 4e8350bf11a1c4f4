-- Places of nets (`Slots`, `PartPlaces`), the part of a circuit (`PartLists`, `PartBuilding`, `PartMerged`, `PartNoted`, `PartReaders`, `PartWhole`, `PartHeld`), equal parts
-- (`PartEquality`), and what places are to their nets (`Placing`, `Wired`).
pub mod Slots
pub mod PartPlaces
pub mod PartHeld
pub mod PartLists
pub mod PartBuilding
pub mod PartMerged
pub mod PartNoted
pub mod PartReaders
pub mod PartWhole
pub mod PartEquality
pub mod Placing
pub mod Wired
