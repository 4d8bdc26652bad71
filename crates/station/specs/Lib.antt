-- Definitions of the library for stations.
pub mod Station
