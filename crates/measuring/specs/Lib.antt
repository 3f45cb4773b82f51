-- What `visor_drift` leaves to the host.
pub mod Host
