pub mod EachExchange
