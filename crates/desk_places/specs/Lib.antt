pub mod Cataloging
pub mod Closing
pub mod Dropping
pub mod Faults
pub mod Held
pub mod Opening
pub mod Places
pub mod Turns
