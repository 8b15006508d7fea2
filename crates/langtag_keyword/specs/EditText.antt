-- The value in an edit of a keyword, and the place of `u`. Only contracts of private functions cite this page.
use Rattle.std.specs.Prelude.{◌≡◌, ℕ, Bool, true, false, List, [], Option, None, unwrap_or, option_map}
use Rattle.langtag_scan.specs.Grammar.{Record, subtags}
use Rattle.langtag_keyword.specs.declared.keyword_edit.KeywordEdit.{KeywordEdit}
use Rattle.langtag_keyword.specs.declared.keyword_edit.Place.{Place}
use Rattle.langtag_keyword.specs.declared.keyword_edit.Place.TheVariants.{OfFirstUnicode, BeforeGreater}
use Rattle.langtag_keyword.specs.Edit.{edited, edited_record, keyword_error}

-- the subtags of the value, if there is one
abbrev pub value_subtags : KeywordEdit → Option (List (List ℕ))
value_subtags edit = option_map (λ value. subtags value.now) edit.value

abbrev pub edited_by : KeywordEdit → List (List ℕ) → List (List ℕ)
edited_by edit subtags_of_u = edited edit.key.now (value_subtags edit) subtags_of_u

abbrev pub edited_record_by : KeywordEdit → Record → Record
edited_record_by edit r = edited_record edit.key.now (value_subtags edit) r

-- whether the key and the value may be in a keyword
abbrev pub is_allowed : KeywordEdit → Type 0
is_allowed edit = keyword_error edit.key.now (unwrap_or (value_subtags edit) []) ≡ None

-- whether the edited `u` replaces an extension
abbrev pub replaces : Place → Bool
replaces OfFirstUnicode = true
replaces BeforeGreater = false
