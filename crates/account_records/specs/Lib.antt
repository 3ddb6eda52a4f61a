-- What the call for account records promises.
pub mod Records
pub mod Inner
pub mod Worked
