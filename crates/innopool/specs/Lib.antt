pub mod Tablespaces
