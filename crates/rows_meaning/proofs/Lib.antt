mod WholeTests
mod WholeLemmas
