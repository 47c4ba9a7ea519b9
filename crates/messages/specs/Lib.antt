pub mod Slots
pub mod Readings
pub mod Seen
pub mod Payments
pub mod PaymentForms
pub mod Returns
pub mod ReturnForms
pub mod Examples
