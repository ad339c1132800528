pub mod Refusals
pub mod Reply
pub mod ShownViews
pub mod Analyses
pub mod Bodies
pub mod internal
