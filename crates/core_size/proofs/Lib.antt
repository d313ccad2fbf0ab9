pub mod PairSizes
