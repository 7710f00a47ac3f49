pub mod Laws
pub mod Words
pub mod Numbers
pub mod Pairs
pub mod Cards
pub mod Search
pub mod Doors
pub mod TestDoors
