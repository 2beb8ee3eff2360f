pub mod Lists
pub mod Tops
pub mod Keeps
pub mod Dealing
pub mod Examples
