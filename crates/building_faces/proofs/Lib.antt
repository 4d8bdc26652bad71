pub mod Ends
mod Turns
mod Passing
mod FacePassing
