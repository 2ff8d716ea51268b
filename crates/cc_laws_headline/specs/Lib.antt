pub mod Exchanges
pub mod Headline
