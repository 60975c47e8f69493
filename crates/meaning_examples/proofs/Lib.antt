pub mod Edges
pub mod Instances
pub mod LongEdges
pub mod Longs
pub mod Loops
pub mod Order
pub mod Plain
pub mod Signals
