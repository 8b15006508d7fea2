-- A tag and its parents, the nearest first: the order in which a catalogue looks for a string.
use Rattle.std.specs.Prelude.{ℕ, zero, suc, ◌==◌, ◌&&◌, not, nat_lt, List, [], ◌∷◌, ◌++◌, length, Option, flat_map, map, if◌then◌else◌}
use Rattle.langtag_scan.specs.Grammar.{option_map_or, Record, extension_flat, one_flat, private_part_flat, join, spell}
use Rattle.langtag.specs.Definitions.{PartOf}
use Rattle.langtag_text.specs.Fields.{Fields, subtag_of}
use Rattle.langtag_likely.specs.Marked.{as_read, mark_of}
use Rattle.langtag_parent.specs.declared.parent_tag.ParentTag.{ParentTag}
use Rattle.langtag_parent.specs.declared.parents.Parents.{Parents}
use Rattle.langtag_parent.specs.Base.{base_fields}
use Rattle.langtag_parent.specs.declared.base.Base.{Base}
use Rattle.langtag_parent.specs.Parent.{fields_of, has_likely_script, is_empty, named, parent_of, short}

-- ---- texts

-- the subtags, each after a hyphen
abbrev pub hyphenated : List (List ℕ) → List ℕ
hyphenated subtags = flat_map (λ s. 45 ∷ s) subtags

-- a language, a script and a region, and what stands after them
abbrev pub text_of : Fields → List ℕ → List ℕ
text_of f rest = join (f.language ∷ (one_flat (subtag_of f.script) ++ one_flat (subtag_of f.region))) ++ rest

-- a text without its last subtag, without its last two subtags, and so on
abbrev pub shorter : List ℕ → List (List ℕ)
shorter [] = []
shorter (b ∷ text) = map (λ t. b ∷ t) (shorter text) ++ (if b == 45 then [] ∷ [] else [])

-- ---- a language with its script and its region, and those above it

-- the fields, their parent, the parent of this parent, and so on, each parent being that of the short form. They are
-- never more than five
abbrev pub line : ℕ → Fields → List Fields
line zero f = []
line (suc most) f = f ∷ option_map_or (line most) (parent_of (short f)) []

-- the text of fields, and then that of their short form if it is another one
abbrev pub forms : Fields → List ℕ → List (List ℕ)
forms f rest = text_of f rest ∷ (if has_likely_script f then text_of (short f) rest ∷ [] else [])

-- the fields with each of these endings
abbrev pub with_each : List (List ℕ) → Fields → List (List ℕ)
with_each endings f = flat_map (forms f) endings

-- the fields and those above them, each with the script that a tag names and with the variants, which go one by one
abbrev pub above : Fields → List ℕ → Option Fields → List (List ℕ)
above tag variants parent = flat_map (λ f. with_each (variants ∷ shorter variants) (named tag f)) (option_map_or (line 6) parent [])

-- ---- the chain

-- what stands after the region of a tag
abbrev pub rest_of : Record → List ℕ
rest_of r = hyphenated (r.variants ++ (flat_map extension_flat r.extensions ++ private_part_flat r.private_use))

-- an ending, without its extensions and private use if it has them, and then without one variant after another
abbrev pub endings : List ℕ → List ℕ → List (List ℕ)
endings variants rest = rest ∷ (if nat_lt (length variants) (length rest) then variants ∷ shorter variants else shorter rest)

-- the text of fields with a region, if their script is likely anyway
abbrev pub given_form : Fields → List ℕ → List (List ℕ)
given_form f rest = if has_likely_script f && not (is_empty f.region) then text_of f rest ∷ [] else []

-- a normal tag and its parents: the tag as it is, if its script is likely anyway; then its short form, first with
-- all that stands after the region; and then those above it. The language with the script that the tag names, if it is
-- usually written in this script, comes before the language alone
abbrev pub chain_of : Record → List (List ℕ)
chain_of r =
    given_form (fields_of r) (rest_of r)
    ++ (with_each (endings (hyphenated r.variants) (rest_of r)) (named (fields_of r) (short (fields_of r)))
    ++ above (fields_of r) (hyphenated r.variants) (parent_of (short (fields_of r))))

-- a tag in which Android's mark stands before the region, as it is written
abbrev pub as_written : Record → List (List ℕ)
as_written r = if is_empty (mark_of r) then [] else spell r ∷ []

-- a tag and its parents. They are those of the tag as it is read: `es-rUS`, and then `es-US` and its parents
abbrev pub whole_chain : Record → List (List ℕ)
whole_chain r = as_written r ++ chain_of (as_read r)

-- a tag and its parents; a private use tag and an irregular tag have none
abbrev pub IsChain : List ℕ → List (List ℕ) → Type 0
IsChain tag chain = PartOf tag whole_chain (tag ∷ []) chain

-- ---- the types

-- the text of a tag of the chain
abbrev pub parent_text : ParentTag → List ℕ
parent_text tag = text_of (record { language = tag.language.now; script = tag.script.now; region = tag.region.now }) tag.rest.now

-- the tags of a base with an ending and the shorter ones, and those above it
abbrev pub bases_left : Fields → Option Base → List ℕ → List ℕ → List (List ℕ)
bases_left tag base rest variants =
    option_map_or (λ base. with_each (endings variants rest) (named tag (base_fields base)) ++ above tag variants (parent_of (short (base_fields base)))) base []

-- a text, unless it is empty
abbrev pub unless_empty : List ℕ → List (List ℕ)
unless_empty text = if is_empty text then [] else text ∷ []

-- the tags that an iterator has not returned yet
abbrev pub parents_left : Parents → List (List ℕ)
parents_left walk = unless_empty walk.written.now ++ (option_map_or (λ tag. parent_text tag ∷ []) walk.pending [] ++ bases_left (base_fields walk.tag) walk.base walk.rest.now walk.variants.now)
