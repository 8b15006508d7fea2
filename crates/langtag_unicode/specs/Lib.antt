pub mod ExtensionsForm
pub mod FormLaws
pub mod Text
-- the pages that are cited by the contracts of this crate and of what it exports. So callers need to name only this crate
pub use Rattle.langtag_keyword.specs.Edit
pub use Rattle.langtag_keyword.specs.Form
pub use Rattle.langtag_keyword.specs.Keys
pub use Rattle.langtag_keyword.specs.Keywords
pub use Rattle.langtag_keyword.specs.Transform
