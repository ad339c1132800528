-- What is proved of the words of both games, for the proofs of crates above.
pub use Rattle.squares.proofs.DraughtsEdge.{ends-next, ends_within, line-ends, ray-ends, two_steps-apart}
pub use Rattle.squares.proofs.DraughtsRays.{ray-moved}
pub use Rattle.squares.proofs.ShogiCells.{get-shogi_board_of}
pub use Rattle.squares.proofs.ShogiCounts.{keeps_sets_lem, kinds}
pub use Rattle.squares.proofs.ShogiOpened.{opening-IsShogiPosition}
