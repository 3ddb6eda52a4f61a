-- The ledger as a caller of the static library keeps it, what each call promises, demand 3 over lists of such calls, and demand 2 over the four that write.
pub mod Numbers
pub mod Boundary
pub mod OverBoundary
pub mod WrittenRead
