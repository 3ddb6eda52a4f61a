-- Laws of the tests before a timed call.
pub mod Ready
