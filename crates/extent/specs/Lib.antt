-- What a caller has to lend at most: for the text of a reading, and for the buffers of a call.
pub mod Claim
pub mod Buffers
