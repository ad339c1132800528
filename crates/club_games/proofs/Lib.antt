pub mod DraughtsFaults
pub mod Proved
pub mod ShogiFaults
