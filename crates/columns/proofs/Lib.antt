pub mod ByteAt
