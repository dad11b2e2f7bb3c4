pub mod Fields
pub mod Items
pub mod FieldItems
pub mod FirstField
pub mod Position
pub mod Laws
pub mod ErrorText
pub mod Reads
