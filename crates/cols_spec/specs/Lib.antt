pub mod Sets
pub mod Places
pub mod Swept
