-- What the public contracts rest on.
pub mod Findings
pub mod Checked
pub mod Answers
