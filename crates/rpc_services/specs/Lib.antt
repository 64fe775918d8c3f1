pub mod endpoint_mapper
pub mod pieces
