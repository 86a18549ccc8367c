pub mod Section
pub mod Cookbook
