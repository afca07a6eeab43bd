-- What the public contracts rest on.
pub mod Answer
pub mod Token
pub mod Padding
pub mod Spans
pub mod Outside
pub mod Words
pub mod Order
pub mod Reserved
pub mod Limits
pub mod Edit
pub mod Calls
pub mod World
pub mod Written
pub mod Paths
pub mod Units
-- What contracts see of private fields.
pub mod Form
pub mod KeptToken
pub mod EditList
pub mod Stored
pub mod HeldFiles
-- What inner functions promise each other.
pub mod Parts
