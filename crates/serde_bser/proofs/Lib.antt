pub use Rattle.bser_value.proofs.Views
pub use Rattle.bser_structs.proofs.FieldValues
pub use Rattle.bser_structs.proofs.VariantNames
pub use Rattle.bser_structs.proofs.ReadVariants as Variants
