pub mod Tersely
