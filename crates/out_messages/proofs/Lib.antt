pub mod Confirming
