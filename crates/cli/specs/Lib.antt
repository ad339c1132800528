pub mod Asked
pub mod App
pub mod Said
pub mod internal
