pub mod AssignedCells
pub mod CellLaws
