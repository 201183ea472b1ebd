pub mod Pilots
