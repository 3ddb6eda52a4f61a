-- Numbers in and out of the boundary, its calls, what their clauses give, demand 3 over lists of them (`over_boundary`), and demand 2 over the writers (`written_read`).
pub mod NumberLaws
pub mod CallLaws
pub mod Clauses
pub mod Carried
pub mod OverBoundary
pub mod Exists
pub mod WrittenRead
