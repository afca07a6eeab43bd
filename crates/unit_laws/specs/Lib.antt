-- What the public contracts rest on.
pub mod UnitLinks
pub mod UnitTokens
pub mod UnitItems
pub mod UnitTests
pub mod UnitSpelling
pub mod UnitNames
pub mod ToldNames
pub mod Uses
pub mod Edited
pub mod Walking
pub mod Reordered
pub mod Files
pub mod TokenRuns
