-- Lists of event times (`Times`), what a kernel shows (`Resting`), steps of a turn (`Stepping`) and its end (`Finishing`), what is received
-- (`Admitting`, `Returning`), what a commit leaves (`Keeping`), a new block (`Opening`), a look (`Looking`), logs that are given away (`Giving`) or shortened (`Shortening`), logs that others read (`Reading`), a history that tells them (`Outplayed`), and what isn't heard where nothing happens (`Unheard`).
pub mod Times
pub mod Resting
pub mod Stepping
pub mod Finishing
pub mod Returning
pub mod Admitting
pub mod Keeping
pub mod Looking
pub mod Giving
pub mod Shortening
pub mod Reading
pub mod Outplayed
pub mod Opening
pub mod Unheard
