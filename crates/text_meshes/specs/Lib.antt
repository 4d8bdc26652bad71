pub mod TextBuilding
pub mod Claims
pub mod Within
