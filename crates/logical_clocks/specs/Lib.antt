pub mod TurnOrder
pub mod ThreadClocks
