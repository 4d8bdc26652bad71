pub mod Concluding
