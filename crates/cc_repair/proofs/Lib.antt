pub mod TouchedKeys
