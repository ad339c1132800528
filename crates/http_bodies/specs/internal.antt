pub mod Reply
pub mod ReplyViews
