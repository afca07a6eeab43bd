-- What a workspace is behind a new order, on one page.
pub mod Kept
pub mod Editing
pub mod Standing
pub mod Spans
-- What the public contracts rest on.
pub mod Children
pub mod Accepted
pub mod Clear
pub mod Lists
pub mod Forms
pub mod Again
pub mod CanReorder
pub mod Prototypes
pub mod Ends
pub mod Units
pub mod Files
pub mod Places
pub mod Items
pub mod Moves
pub mod Even
pub mod Matched
pub mod Compared
pub mod Below
