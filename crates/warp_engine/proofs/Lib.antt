-- How an engine begins (`Opening`), what is made from a step on (`Making`), how calls keep what is true of a run (`Running`), what it shows of a moment
-- (`Saving`), what came true up to the horizon (`Recalling`), when a place that is read moves next (`Nexting`), and what doesn't matter to
-- logs (`Agreeing`).
pub mod Running
pub mod Recalling
pub mod Making
pub mod Opening
pub mod Saving
pub mod Nexting
pub mod Agreeing
