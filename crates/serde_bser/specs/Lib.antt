pub mod Laws
pub mod CompactLaws
pub mod Values
pub use Rattle.bser_format.specs.Tree
pub use Rattle.bser_format.specs.Grammar
pub use Rattle.bser_format.specs.Message as Format
pub use Rattle.bser_format.specs.Expand
pub use Rattle.bser_format.specs.Measures
pub use Rattle.bser_format.specs.Canonical
pub use Rattle.bser_format.specs.Content
pub use Rattle.bser_format.specs.ReadsScalars
pub use Rattle.bser_format.specs.ReadsHolders
pub use Rattle.bser_format.specs.ReadsAny
pub use Rattle.bser_format.specs.Enums
pub use Rattle.bser_format.specs.Expected
pub use Rattle.bser_format.specs.Escaped
pub use Rattle.bser_format.specs.EnumName
pub use Rattle.bser_format.specs.HeaderBytes
pub use Rattle.bser_format.specs.Named
pub use Rattle.bser_source.specs.Device
pub use Rattle.bser_source.specs.Memory
pub use Rattle.bser_source.specs.Watched
pub use Rattle.bser_source.specs.Window
pub use Rattle.bser_deserializer.specs.Seen
pub use Rattle.bser_deserializer.specs.State
pub use Rattle.bser_deserializer.specs.Dues
pub use Rattle.bser_deserializer.specs.View
pub use Rattle.bser_deserializer.specs.Calls
pub use Rattle.bser_deserializer.specs.Reading
pub use Rattle.bser_deserializer.specs.Parts
pub use Rattle.bser_deserializer.specs.Access
pub use Rattle.bser_deserializer.specs.Fields
pub use Rattle.bser_deserializer.specs.Holds
pub use Rattle.bser_deserializer.specs.HoldsTexts
pub use Rattle.bser_deserializer.specs.HoldsLists
pub use Rattle.bser_deserializer.specs.HoldsMaps
pub use Rattle.bser_deserializer.specs.Required
pub use Rattle.bser_deserializer.specs.Nodes
pub use Rattle.bser_deserializer.specs.Askings
pub use Rattle.bser_types.specs.Accesses
pub use Rattle.bser_types.specs.Arrays
pub use Rattle.bser_types.specs.Askings as TypeAskings
pub use Rattle.bser_types.specs.Choices
pub use Rattle.bser_types.specs.Collected
pub use Rattle.bser_types.specs.Fold
pub use Rattle.bser_types.specs.HoldsReals
pub use Rattle.bser_types.specs.HoldsCows
pub use Rattle.bser_types.specs.HoldsSets
pub use Rattle.bser_types.specs.Meanings
pub use Rattle.bser_types.specs.Ranges
pub use Rattle.bser_types.specs.Rests
pub use Rattle.bser_types.specs.Slots
pub use Rattle.bser_types.specs.Tuples
pub use Rattle.bser_structs.specs.FieldCalls
pub use Rattle.bser_structs.specs.Askings as FieldAskings
pub use Rattle.bser_structs.specs.SlotValues
pub use Rattle.bser_structs.specs.ReadVariants as Variants
pub use Rattle.bser_structs.specs.EnumAccess
pub use Rattle.bser_structs.specs.VariantCalls
pub use Rattle.bser_structs.specs.VariantRests
pub use Rattle.bser_structs.specs.VariantAskings
pub use Rattle.bser_messages.specs.Messages
pub use Rattle.bser_messages.specs.Limited
pub use Rattle.bser_messages.specs.Lengths
pub use Rattle.bser_messages.specs.Streams
pub use Rattle.bser_messages.specs.Readers
pub use Rattle.bser_messages.specs.Slices
pub use Rattle.bser_messages.specs.Descriptions
pub use Rattle.bser_messages.specs.Sizes
pub use Rattle.bser_messages.specs.MessageSizes
pub use Rattle.bser_events.specs.Events
pub use Rattle.bser_events.specs.Places
pub use Rattle.bser_events.specs.Cut
pub use Rattle.bser_messages.specs.Told
pub use Rattle.bser_frames.specs.Headers as FrameHeaders
pub use Rattle.bser_frames.specs.Stops as FrameStops
pub use Rattle.bser_frames.specs.Stream as FrameStream
pub use Rattle.bser_frames.specs.Messages as FrameMessages
pub use Rattle.bser_format.specs.Written
pub use Rattle.bser_format.specs.Pieces
pub use Rattle.bser_format.specs.Compact
pub use Rattle.bser_format.specs.ValueTree
pub use Rattle.bser_format.specs.WrittenOut
pub use Rattle.bser_ser.specs.Stopped
pub use Rattle.bser_ser.specs.Sent
pub use Rattle.bser_ser.specs.Ends
pub use Rattle.bser_ser.specs.Message
pub use Rattle.bser_structs.specs.Fields as StructFields
pub use Rattle.bser_structs.specs.Variants as EnumVariants
pub use Rattle.bser_structs.specs.Entries
pub use Rattle.bser_structs.specs.Objects
pub use Rattle.bser_structs.specs.Payloads
pub use Rattle.bser_value.specs.ValueView
pub use Rattle.bser_value.specs.Contents
pub use Rattle.bser_value.specs.Displayed
pub use Rattle.bser_value.specs.CompactTexts
pub use Rattle.bser_document.specs.DocumentView
pub use Rattle.bser_document.specs.Holds as DocumentHolds
pub use Rattle.bser_document.specs.Pairs as DocumentPairs
pub use Rattle.bser_document.specs.Pointer as DocumentPointer
pub use Rattle.bser_document.specs.Read as DocumentRead
pub use Rattle.bser_document.specs.Rows as DocumentRows
pub use Rattle.bser_document.specs.Spans as DocumentSpans
pub use Rattle.bser_document.specs.Tells as DocumentTells
pub use Rattle.bser_document.specs.Walks as DocumentWalks
