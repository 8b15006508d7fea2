-- The definitions of the forms of tags that the proofs of this crate, and of those above it, use. Declares nothing.
pub use Rattle.langtag_likely.specs.Maximal.{put_fields, if_read, is_read, IsMaximalForm, IsMinimalForm, fields_of, language_field, put_language}
unfoldable pub use Rattle.langtag_likely.specs.Maximal.{maximal_record, minimal_record}
