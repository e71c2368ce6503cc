-- The types that clauses speak of: any value, and the errors.
pub use Rattle.bser_value.specs.declared.value.Value.{Value}
pub use Rattle.bser_format.specs.declared.errors.Error.{Error}
pub use Rattle.bser_format.specs.declared.errors.Error.TheVariants as Errors
pub use Rattle.bser_format.specs.declared.errors.ReadCause.{ReadCause}
pub use Rattle.bser_format.specs.declared.errors.ReadCause.TheVariants as ReadCauses
pub use Rattle.bser_format.specs.declared.errors.Complaint.{Complaint}
pub use Rattle.bser_format.specs.declared.errors.Complaint.TheVariants as Complaints
