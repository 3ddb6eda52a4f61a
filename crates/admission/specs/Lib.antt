-- What an offered block says, and its answer.
pub mod Citing
pub mod Replies
