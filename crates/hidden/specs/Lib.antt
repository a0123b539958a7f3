pub mod PilePlace
