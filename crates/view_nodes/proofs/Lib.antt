pub mod CountSteps
