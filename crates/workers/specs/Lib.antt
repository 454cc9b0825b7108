pub mod Doors
pub mod Sessions
pub mod Links
pub mod Deeds
pub mod Arriving
pub mod Serving
pub mod Working
