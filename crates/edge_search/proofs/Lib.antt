pub mod Chains
mod Searching
mod NewEdge
