pub mod Board
pub mod Rounds
pub mod RulingViews
pub mod ShownViews
pub mod SummaryViews
