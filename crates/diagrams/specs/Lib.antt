pub mod BodDiagram
pub mod BodNames
pub mod DraughtsDiagram
pub mod Numbers
pub mod ShogiDiagram
pub mod ShogiLetters
pub mod ShogiLines
pub mod internal
