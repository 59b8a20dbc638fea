pub mod Asked
pub mod Parameters
pub mod Members
pub mod Laws
