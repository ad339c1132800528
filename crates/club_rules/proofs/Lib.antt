pub mod Lines
pub mod PlayedLines
pub mod Proved
pub mod Refused
pub mod Sameness
pub mod Texts
pub mod Tracks
