pub mod Answers
pub mod Orders
pub mod Printed
pub mod internal
