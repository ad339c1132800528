pub mod HeadViews
pub mod Intake
pub mod RequestViews
