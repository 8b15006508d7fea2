-- The text of a keyword, and what an iterator will still return.
use Rattle.std.specs.Prelude.{ℕ, List, take}
use Rattle.langtag_scan.specs.Grammar.{subtags, segments_left}
use Rattle.langtag_unicode.specs.declared.attributes_iter.AttributesIter.{AttributesIter}
use Rattle.langtag_unicode.specs.declared.unicode_extension.KeyValue.{KeyValue}
use Rattle.langtag_unicode.specs.declared.keywords_iter.KeywordsIter.{KeywordsIter}
use Rattle.langtag_unicode.specs.declared.transformation.Transformation.{Transformation}
use Rattle.langtag_keyword.specs.Keys.{opens_keyword}
use Rattle.langtag_keyword.specs.Keywords.{Keyword, each_once_after}
use Rattle.langtag_keyword.specs.KeySets.{keywords_beyond}

abbrev pub key_value_texts : KeyValue → Keyword
key_value_texts pair = record { key = pair.key.now; value = pair.value.now }

abbrev pub keywords_left : KeywordsIter → List Keyword
keywords_left walk = keywords_beyond (opens_keyword walk.keys) walk.met.seconds (segments_left walk.rest)

abbrev pub attributes_left : AttributesIter → List (List ℕ)
attributes_left walk = each_once_after (take walk.passed (subtags walk.text.now)) walk.rest

abbrev pub transformation_subtags : Transformation → List (List ℕ)
transformation_subtags transformation = subtags transformation.text.now
