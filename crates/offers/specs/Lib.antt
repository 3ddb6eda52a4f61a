-- What a call for an offer promises.
pub mod Offering
