-- Records that the definitions are held to by computation, from the oracle.
pub mod Sample
