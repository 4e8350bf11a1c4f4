-- Laws of parts of lists (`Parts`), of stops and places between them (`Stops`, `Seeking`), of what stops tell
-- (`Telling`) and tell more (`Growing`, `Extending`), of a queue's calls (`Queues`), of readers (`Readers`), of batches
-- (`Batches`), of lists that words lengthen (`Listing`), of words at times (`Times`), of lists made from others one by
-- one (`Mixing`), of queues by delay (`Delaying`), of sets of bits (`Having`, `Marking`), of words in order of places
-- (`Ordering`), and of tournaments (`Tournaments`, `Seats`).
pub mod Parts
pub mod Stops
pub mod Seeking
pub mod Telling
pub mod Growing
pub mod Extending
pub mod Queues
pub mod Readers
pub mod Batches
pub mod Listing
pub mod Times
pub mod Mixing
pub mod Delaying
pub mod Having
pub mod Marking
pub mod Ordering
pub mod Tournaments
pub mod Seats
pub mod Spanning
