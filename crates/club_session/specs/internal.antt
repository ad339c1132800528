pub mod Acknowledged
pub mod CacheSize
pub mod Faults
pub mod Released
pub mod Served
pub mod ToldFault
pub mod Turns
