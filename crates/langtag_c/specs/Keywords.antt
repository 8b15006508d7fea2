-- The keywords of `u` and the fields of `t` (RFC 6067 section 2.1, RFC 6497 section 2.2) that are left after a walk has
-- passed some subtags, and where they are in the tag.
use Rattle.std.specs.Prelude.{◌≡◌, ℕ, ◌+◌, ◌-◌, ◌==◌, ◌&&◌, Bool, IsTrue, List, [], ◌∷◌, if◌then◌else◌, drop, length, map, take}
use Rattle.langtag_scan.specs.Grammar.{after_first, are_alike, fold_byte, AllByRecursion, Extension, IsSubtag, Record, ends_of, join, subtags}
use Rattle.langtag_extension.specs.Spelling.{extension_spelling}
use Rattle.langtag_keyword.specs.Keys.{length_with_hyphens}
use Rattle.langtag_keyword.specs.Keywords.{Keyword, is_new_key, keywords_after, subtags_of}
use Rattle.langtag_c.specs.Spans.{IsWithin, span_text}
use Rattle.langtag_c.specs.declared.span.Span.{Span}

-- the subtags of a span
abbrev pub subtags_in : List ℕ → Span → List (List ℕ)
subtags_in text span = subtags (span_text text span)

-- the keywords after the first `passed` subtags: each key that equals no subtag before it, with its value
abbrev pub keywords_from : (List ℕ → Bool) → List (List ℕ) → ℕ → List Keyword
keywords_from opens subtags passed = keywords_after opens (take passed subtags) (drop passed subtags)

-- the subtags after the first occurrence of a key, ignoring case
abbrev pub after_key : (List ℕ → Bool) → List ℕ → List (List ℕ) → List (List ℕ)
after_key opens key [] = []
after_key opens key (subtag ∷ subtags) = if opens subtag && are_alike subtag key then subtags else after_key opens key subtags

-- the extensions after the first one with a singleton, ignoring case
abbrev pub extensions_after : ℕ → List Extension → List Extension
extensions_after singleton es = after_first (λ e. fold_byte e.singleton == fold_byte singleton) es

-- where the first extension with a singleton ends: behind it are the other extensions, each after a hyphen
abbrev pub IsEnd : ℕ → Record → ℕ → Type 0
IsEnd singleton r end = end + length_with_hyphens (map extension_spelling (extensions_after singleton r.extensions)) ≡ (ends_of r).extensions

-- a span begins where the subtags `left` begin, which are the last ones of the first extension with a singleton
abbrev pub BeginsWith : ℕ → List (List ℕ) → Record → Span → Type 0
BeginsWith singleton left r span = IsEnd singleton r (span.start + length (join left))

-- a walk went up to a key, which is the last of `passed` subtags, and to its value, which follows it
pub record AreAfter (opens : List ℕ → Bool) (singleton passed : ℕ) (text : List ℕ) (r : Record) (key value : Span) : Type 0 where
  -- the key equals no subtag before it
  pub new : IsTrue (is_new_key opens (take (passed - 1) (subtags_of singleton r)) (span_text text key))
  pub key_begins : BeginsWith singleton (drop (passed - 1) (subtags_of singleton r)) r key
  pub value_begins : BeginsWith singleton (drop passed (subtags_of singleton r)) r value

-- the span is within the text, and its subtags have one to eight letters and digits
pub record HasSubtags (text : List ℕ) (span : Span) : Type 0 where
  pub within : IsWithin text span
  pub some : AllByRecursion IsSubtag (subtags_in text span)
