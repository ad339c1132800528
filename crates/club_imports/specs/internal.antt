pub mod Importing
pub mod OneMoment
