-- What is told first (`Contents`), words in the order in which they are told (`Ordered`), how many messages there are on words (`Counting`), and that these
-- are the difference of the logs (`Sending`).
pub mod Contents
pub mod Ordered
pub mod Counting
pub mod Sending
