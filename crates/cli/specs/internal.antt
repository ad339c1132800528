pub mod App
pub mod Asked
pub mod Built
pub mod Inputs
pub mod Said
