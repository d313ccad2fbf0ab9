pub mod FoldLemmas
pub mod RowLaws
pub mod DearerRows
pub mod RowParts
pub mod SharedTests
