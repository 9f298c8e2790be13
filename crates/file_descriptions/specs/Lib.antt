pub mod Descriptions
pub mod DescriptionCode
pub mod Laws
