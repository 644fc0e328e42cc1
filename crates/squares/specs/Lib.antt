pub mod BestSquares
pub mod JudgeSquares
