-- Rows of entries (`Rising`, `RowOrder`, `RowEdits`), rows by time (`ByTime`, `Scanning`, `Walking`, `Telling`), queues of entries (`QueueOrder`, `QueueOpening`, `Queued`, `Settled`,
-- `Unsettled`, `Agreeing`), what is heard (`Hearing`, `Putting`, `Opened`, `Finding`, `Settling`, `Sure`, `Committing`), logs of runs and what they show (`Running`,
-- `LogOrder`, `Views`, `Rows`, `Quiet`, `Next`, `Playing`), busy times and saved states (`SavingTimes`, `SavingBusy`, `SavingStates`, `SavingStep`, `SavingAdvance`,
-- `Going`), what is sent (`Told`, `Sends`), and calls (`Receiving`, `Committed`, `Laws`).
pub mod Agreeing
pub mod ByTime
pub mod Committed
pub mod Committing
pub mod Finding
pub mod Going
pub mod Hearing
pub mod Laws
pub mod LogOrder
pub mod Next
pub mod Opened
pub mod Playing
pub mod Putting
pub mod RowEdits
pub mod RowOrder
pub mod Queued
pub mod QueueOpening
pub mod QueueOrder
pub mod Quiet
pub mod Receiving
pub mod Rising
pub mod Rows
pub mod Running
pub mod SavingAdvance
pub mod SavingBusy
pub mod SavingStates
pub mod SavingStep
pub mod SavingTimes
pub mod Scanning
pub mod Sends
pub mod Settled
pub mod Settling
pub mod Sure
pub mod Telling
pub mod Told
pub mod Unsettled
pub mod Views
pub mod Walking
