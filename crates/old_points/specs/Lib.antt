pub mod Fan
