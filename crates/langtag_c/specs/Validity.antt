-- The fault of an invalid tag: its kind as a number, and its position as a span (RFC 5646 section 2.2.9).
use Rattle.std.specs.Prelude.{ℕ, ◌+◌, ◌==◌, List, length, Option, None, if◌then◌else◌, unwrap_or}
use Rattle.langtag_scan.specs.Grammar.{ends_of, Record}
use Rattle.langtag_registry.specs.Fault.{Told, fault_index, language, extlang, second_extlang, script, region, variant, repeated_variant, repeated_singleton}
use Rattle.langtag_cldr.specs.Definitions.{suggested_language, suggested_region}
use Rattle.langtag_c.specs.Members.{member_span, singleton_place, variant_place}
use Rattle.langtag_c.specs.Spans.{empty_at, span_between}
use Rattle.langtag_c.specs.declared.span.Span.{Span}

-- the number for a fault; 0 means that a text is not a tag, and 1 means that it is valid
abbrev pub number_of : Told → ℕ
number_of (language subtag) = 2
number_of (extlang subtag) = 3
number_of (second_extlang subtag) = 4
number_of (script subtag) = 5
number_of (region subtag) = 6
number_of (variant subtag) = 7
number_of (repeated_variant subtag) = 8
number_of (repeated_singleton subtag) = 9

-- the span of a fault: a second extended subtag follows the first one, which has three letters; a variant or singleton
-- is found by its index
abbrev pub fault_span : Record → Told → Span
fault_span r (language subtag) = record { start = 0; len = length subtag }
fault_span r (extlang subtag) = record { start = length r.primary + 1; len = length subtag }
fault_span r (second_extlang subtag) = record { start = length r.primary + 5; len = length subtag }
fault_span r (script subtag) = span_between (ends_of r).language (ends_of r).script
fault_span r (region subtag) = span_between (ends_of r).script (ends_of r).region
fault_span r (variant subtag) = unwrap_or (member_span (variant_place r) r.variants (fault_index r (variant subtag))) (empty_at 0)
fault_span r (repeated_variant subtag) = unwrap_or (member_span (variant_place r) r.variants (fault_index r (repeated_variant subtag))) (empty_at 0)
fault_span r (repeated_singleton subtag) = unwrap_or (member_span (singleton_place r) r.extensions (fault_index r (repeated_singleton subtag))) (empty_at 0)

-- the code that was probably meant by an invalid subtag with a fault of this number. Only a language (2) or a region
-- (6) that is not registered may have such a code
abbrev pub suggested : ℕ → List ℕ → Option (List ℕ)
suggested fault subtag = if fault == 2 then suggested_language subtag else if fault == 6 then suggested_region subtag else None
