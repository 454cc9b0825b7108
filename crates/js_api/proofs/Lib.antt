pub mod RunParts
pub mod HeldRuns
pub mod PlacesLed
pub mod RoutesLed
pub mod ThreeRuns
