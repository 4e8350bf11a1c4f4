-- What sets places (`Sources`, `Uses`), their queues and an engine that is new (`Queueing`, `Opened`), its logs and moments (`RunLogs`, `GoingOn`), what flip-flops begin with (`FirstMoves`), when
-- something happens next (`Kept`, `Firsts`, `NextTimes`, `Soonest`), and what is brought (`Heeding`, `Gathering`, `Bringing`).
pub mod Kept
pub mod Rowing
pub mod RunLogs
pub mod Sources
pub mod Uses
pub mod Firsts
pub mod NextTimes
pub mod Heeding
pub mod Soonest
pub mod GoingOn
pub mod Queueing
pub mod Opened
pub mod FirstMoves
pub mod Gathering
pub mod Bringing
