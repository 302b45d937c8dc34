pub mod Pem
