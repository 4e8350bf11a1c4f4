-- Laws of what words do place by place (`Places`), of what is due and brought (`Due`, `Bringing`), of a step (`Stepping`), of
-- quiet times (`Quieting`), of the way back (`Backing`, `Taking`, `Regiving`), of the log (`Telling`, `Logging`), of the first moment and
-- of what is forgotten (`Beginning`); queues as calls make them (`Putting`), and what calls ask (`Asking`). Below them: laws of
-- filters (`Filtering`), of moves (`Moving`), of words in order (`Ordering`), of queues that were read (`Queueing`), of what
-- comes true of what sources make (`Coming`), of gates that stand for sources (`Sourcing`), and a journal computed (`Rows`).
pub mod Places
pub mod Due
pub mod Bringing
pub mod Stepping
pub mod Quieting
pub mod Backing
pub mod Taking
pub mod Regiving
pub mod Telling
pub mod Logging
pub mod Beginning
pub mod Putting
pub mod Asking
pub mod Filtering
pub mod Moving
pub mod Ordering
pub mod Queueing
pub mod Coming
pub mod Sourcing
mod Rows
