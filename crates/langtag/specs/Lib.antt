-- only this crate
-- the pages that are cited by the contracts of this crate and of the types that it exports. So callers need to name
pub mod Compared
pub mod Definitions
pub mod Edit
pub mod Form
pub mod Kinds
pub mod Lengths
pub mod LooksUp
pub mod Offsets
pub mod Order
pub mod Part
pub mod PartPlaces
pub mod Recognised
pub mod Refusal
pub mod Registered
pub mod Text
pub mod Typed
pub use Rattle.langtag_text.specs.RecommendedCase
pub use Rattle.langtag_text.specs.Text as CaseText
pub use Rattle.langtag_extension.specs.Compared as ExtensionCompared
pub use Rattle.langtag_extension.specs.Conversion
pub use Rattle.langtag_extension.specs.Spelling
pub use Rattle.langtag_extension.specs.Text as ExtensionText
pub use Rattle.langtag_language.specs.Compared as LanguageCompared
pub use Rattle.langtag_language.specs.Language
pub use Rattle.langtag_language.specs.Text as LanguageText
pub use Rattle.langtag_place.specs.Compared as PlaceCompared
pub use Rattle.langtag_place.specs.Repeat
pub use Rattle.langtag_place.specs.Text as PlaceText
pub use Rattle.langtag_place.specs.Variants
pub use Rattle.langtag_private.specs.Compared as PrivateCompared
pub use Rattle.langtag_private.specs.PrivateUse
pub use Rattle.langtag_private.specs.Text as PrivateText
pub use Rattle.langtag_scan.specs.AlikeRecords
pub use Rattle.langtag_scan.specs.Case
pub use Rattle.langtag_scan.specs.CaseLaws
pub use Rattle.langtag_scan.specs.Class
pub use Rattle.langtag_scan.specs.Compare
pub use Rattle.langtag_scan.specs.Ends
pub use Rattle.langtag_scan.specs.Found
pub use Rattle.langtag_scan.specs.Grandfathered
pub use Rattle.langtag_scan.specs.Parts
pub use Rattle.langtag_scan.specs.Record
pub use Rattle.langtag_scan.specs.Subtags
pub use Rattle.langtag_scan.specs.Tag
pub use Rattle.langtag_scan.specs.Viable
