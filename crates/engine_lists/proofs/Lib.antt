pub mod HintCount
