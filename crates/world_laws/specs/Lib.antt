pub mod Caring
