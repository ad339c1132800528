pub mod Closed
pub mod Desk
pub mod DeskViews
pub mod Paths
pub mod Taken
