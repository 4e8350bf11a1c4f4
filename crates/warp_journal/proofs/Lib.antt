-- Laws of queues in two parts (`Parting`), of a step and of how it is taken back (`Stepped`, `Restoring`), and of times that are
-- played on the way to one (`Playing`).
mod Parting
mod Restoring
mod Stepped
mod Playing
