pub mod FaultText
pub mod PieceLaws
