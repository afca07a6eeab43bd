-- What the public contracts rest on.
pub mod Graph
pub mod Reaching
pub mod Bodies
pub mod Calls
pub mod Graphs
-- What inner functions promise each other.
pub mod Walking
pub mod Externals
pub mod InUnits
pub mod Numbers
pub mod OpenBodies
pub mod Orders
pub mod Owners
