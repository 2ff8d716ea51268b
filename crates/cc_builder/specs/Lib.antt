pub mod Building
pub mod BuildSteps
pub mod Beginning
