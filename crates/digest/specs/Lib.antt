-- 64-bit FNV-1a.
pub mod Fnv
