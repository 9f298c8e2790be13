pub mod Bodies
pub mod Store
pub mod StoreCode
pub mod Acting
pub mod Patience
pub mod Errands
pub mod Space
pub mod Doors
