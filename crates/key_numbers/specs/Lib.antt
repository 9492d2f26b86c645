pub mod key_lookup
